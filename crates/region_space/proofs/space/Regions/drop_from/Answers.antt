use Rattle.std.proofs.Common.{◌≡◌, ◌∙◌, ◌∷◌, ◌++◌, [], true, ap, sym, subst, arith}
use Rattle.std.proofs.lemmas.Bool.{or_left, or_right}
use Rattle.std.proofs.lemmas.List.{append-nil}
use Rattle.std.specs.List.{list_any}
use Rattle.cow_pages.specs.View.{view_of}
use Rattle.region_lists.specs.Rows.{Lists}
use Rattle.region_lists.specs.Shown.{shown_row}
use Rattle.region_space.specs.Pages.{LosesRows}
use Rattle.region_space.specs.Space.{AreAlone, HasBytesFor, HasPages, Space, filled, holds_page, lists_of}
use Rattle.region_space.proofs.DropLemmas.{alone-dropped, first-cons, first-filled, first-within, from-window, none-first, one-more, page-of-row, pages-dropped, released-more, released-none, row-mapped, rows-lost, rows-seen, run-held, run-of-row, space-dropped, sum-dropped}
use Rattle.region_space.proofs.space.Regions.drop_from.Goals as goal

pub loop-row-init : goal.loop-row-init
loop-row-init c =
    let is = sym (ap lists_of c.self.view_is) in
    record {
      done = [];
      from = ap (λ (it : Lists). it.from) is;
      in_use = ap (λ (it : Lists). it.in_use) (ap lists_of c.self.view_is);
      count = ap (λ (it : Lists). it.count) (ap lists_of c.self.view_is);
      space = c.self.invariant.0;
      objects = ap (λ (it : Space). it.objects) c.self.view_is;
      enough = c.self.invariant.2;
      pages = c.self.invariant.1;
      releases = released-none c.args.frames.now c.args.t.0;
      has = subst (λ (it : Lists). HasPages c.args.frames.now c.args.t.0 (filled it)) is c.requires.pages;
      alone = subst (λ (it : Lists). AreAlone c.args.frames.now c.args.t.0 it.from) is c.requires.alone;
      sound = λ sound. sound;
    }

pub base_of-requires : goal.base_of-requires
base_of-requires c =
    let s = c.loop-row.self-inside.lists in
    let first = first-cons s.from (shown_row c.in-Some.row) c.in-Some.ensures in
    omega (arith, first-within s (shown_row c.in-Some.row) first.0 c.loop-row.invariant.space first.1, c.loop-row.invariant.space.few)

pub release_run-requires-clause-mapped : goal.release_run-requires-clause-mapped
release_run-requires-clause-mapped c = λ p in_run.
    let s = c.loop-row.self-inside.lists in
    let row = shown_row c.in-Some.row in
    let first = first-cons s.from row c.in-Some.ensures in
    row-mapped c.loop-row.frames c.args.t.0 s row first.0 p c.loop-row.invariant.space first.1 c.loop-row.invariant.has
    (page-of-row c.base_of.result c.pages_up_to-count.result p row c.base_of.ensures c.pages_up_to-count.ensures in_run)

pub release_run-requires-clause-alone : goal.release_run-requires-clause-alone
release_run-requires-clause-alone c = λ p in_run.
    let s = c.loop-row.self-inside.lists in
    let row = shown_row c.in-Some.row in
    let first = first-cons s.from row c.in-Some.ensures in
    let here = page-of-row c.base_of.result c.pages_up_to-count.result p row c.base_of.ensures c.pages_up_to-count.ensures in_run in
    c.loop-row.invariant.alone p
    (subst (λ rows. list_any (holds_page p) rows ≡ true) (sym first.1) (or_left (holds_page p row) (list_any (holds_page p) first.0) (run-held row p here)))

pub release_run-requires-clause-fits : goal.release_run-requires-clause-fits
release_run-requires-clause-fits c =
    let s = c.loop-row.self-inside.lists in
    let row = shown_row c.in-Some.row in
    let first = first-cons s.from row c.in-Some.ensures in
    omega (
      arith,
      first-within s row first.0 c.loop-row.invariant.space first.1,
      c.loop-row.invariant.space.few,
      (first-filled s row first.0 c.loop-row.invariant.space first.1).most,
      c.base_of.ensures,
      c.pages_up_to-count.ensures,
    )

pub overflow_sub-self : goal.overflow_sub-self
overflow_sub-self c =
    let s = c.loop-row.self-inside.lists in
    let row = shown_row c.in-Some.row in
    let first = first-cons s.from row c.in-Some.ensures in
    let new = c.free_first.new.self in
    omega (arith, sum-dropped s new row first.0 first.1 (c.free_first.ensures.frees row first.0 first.1), c.loop-row.invariant.pages, c.pages_up_to-count.ensures)

pub loop-row-preserved : goal.loop-row-preserved
loop-row-preserved c =
    let i = c.loop-row.invariant in
    let s = c.loop-row.self-inside.lists in
    let row = shown_row c.in-Some.row in
    let first = first-cons s.from row c.in-Some.ensures in
    let new = c.free_first.new.self in
    let mid = c.loop-row.frames in
    let end = c.release_run.new.frames in
    let t = c.args.t.0 in
    let frees = c.free_first.ensures.frees row first.0 first.1 in
    let from = ap (λ (it : Lists). it.from) frees in
    let run = run-of-row mid end t c.base_of.result c.pages_up_to-count.result row c.base_of.ensures c.pages_up_to-count.ensures c.release_run.ensures.releases in
    record {
      done = i.done ++ row ∷ [];
      from = one-more c.args.self.now.from i.done s.from row first.0 i.from first.1 ∙ ap (λ rows. (i.done ++ row ∷ []) ++ rows) (sym from);
      in_use = ap (λ (it : Lists). it.in_use) frees ∙ i.in_use;
      count = ap (λ (it : Lists). it.count) frees ∙ i.count;
      space = space-dropped s new row first.0 i.space first.1 c.free_first.ensures.lists frees;
      objects = i.objects;
      enough = subst (λ rows. HasBytesFor rows c.loop-row.self-inside.objects) (sym (ap (λ (it : Lists). it.in_use) frees)) i.enough;
      pages = omega (arith, sum-dropped s new row first.0 first.1 frees, i.pages, c.pages_up_to-count.ensures);
      releases = released-more c.args.frames.now mid end t i.done row i.releases run;
      has = subst (HasPages end t) (sym (ap filled frees)) (pages-dropped mid end t s row first.0 i.space first.1 i.has run);
      alone = subst (AreAlone end t) (sym from) (alone-dropped mid end t s row first.0 i.space first.1 i.has i.alone run
          (λ p there. from-window s p i.space (subst (λ rows. list_any (holds_page p) rows ≡ true) (sym first.1) (or_right (holds_page p row) (list_any (holds_page p) first.0) there))));
      sound = λ sound. c.release_run.ensures.sound (i.sound sound);
    }

pub returns-clause-others_seen : goal.returns-clause-others_seen
returns-clause-others_seen c = rows-seen c.args.frames.now c.loop-row.frames c.args.t.0 c.loop-row.invariant.done c.loop-row.invariant.releases

pub returns-clause-view : goal.returns-clause-view
returns-clause-view c =
    let rows = c.loop-row.invariant.done in
    let all : c.args.self.now.from ≡ rows =
    c.loop-row.invariant.from ∙ ap (λ rest. rows ++ rest) (none-first c.loop-row.self-inside.lists.from c.in_default.ensures) ∙ append-nil rows in
    subst (LosesRows (view_of c.args.frames.now c.args.t.0) (view_of c.loop-row.frames c.args.t.0)) (sym all) (rows-lost c.args.frames.now c.loop-row.frames c.args.t.0 rows c.loop-row.invariant.releases)
