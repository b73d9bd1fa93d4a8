use Rattle.std.proofs.Common.{◌∙◌, length, refl, ap, subst, sym, arith}
use Rattle.std.proofs.lemmas.List.{length-map}
use Rattle.std.proofs.lemmas.List.Filters.{length-filter_both}
use Rattle.std.specs.List.{filter}
use Rattle.large_objects.specs.Pages.{AreMapped, HasPages, ReleasesRows}
use Rattle.large_objects.specs.Rows.{cleared, dead, goes, stays}
use Rattle.large_objects.proofs.PageLemmas.{dead-mapped, pages-swept, rows-lost, rows-others}
use Rattle.large_objects.proofs.larges.Larges.sweep.Goals as goal

pub release_pages-requires-clause-mapped : goal.release_pages-requires-clause-mapped
release_pages-requires-clause-mapped c =
    let m = c.args.frames.now in
    let t = c.args.t.0 in
    let rows = c.self.inside.table.rows.items in
    subst (λ xs. AreMapped m t (dead xs)) (sym c.deref.ensures.value) (dead-mapped m t rows c.self.invariant.rows (subst (HasPages m t) (sym c.self.view_is) c.requires.pages))

pub overflow_sub-result : goal.overflow_sub-result
overflow_sub-result c =
    let s = c.self.inside.table in
    let now = c.sweep.new.self in
    omega (
      arith,
      c.len.ensures,
      c.len-before.ensures,
      s.rows.ok.0,
      now.rows.ok.0,
      ap length c.sweep.ensures.rows,
      length-map (filter stays s.rows.items) cleared,
      length-filter_both stays goes (λ row. refl) s.rows.items,
    )

pub returns-clause-count : goal.returns-clause-count
returns-clause-count c =
    let s = c.self.inside.table in
    let now = c.sweep.new.self in
    omega (
      arith,
      c.len.ensures,
      c.len-before.ensures,
      s.rows.ok.0,
      now.rows.ok.0,
      ap length c.sweep.ensures.rows,
      length-map (filter stays s.rows.items) cleared,
      length-filter_both stays goes (λ row. refl) s.rows.items,
      ap (λ xs. length (dead xs)) c.self.view_is,
    )

releases : (c : goal.After-len) → ReleasesRows c.args.frames.now c.release_pages.new.frames c.args.t.0 (dead c.args.self.now)
releases c = subst (λ xs. ReleasesRows c.args.frames.now c.release_pages.new.frames c.args.t.0 (dead xs)) (c.deref.ensures.value ∙ c.self.view_is) c.release_pages.ensures.releases

pub returns-clause-view : goal.returns-clause-view
returns-clause-view c = rows-lost c.args.frames.now c.release_pages.new.frames c.args.t.0 (dead c.args.self.now) (releases c)

pub returns-clause-others_seen : goal.returns-clause-others_seen
returns-clause-others_seen c = rows-others c.args.frames.now c.release_pages.new.frames c.args.t.0 (dead c.args.self.now) (releases c)

pub returns-clause-pages : goal.returns-clause-pages
returns-clause-pages c =
    let old = c.args.frames.now in
    let new = c.release_pages.new.frames in
    let t = c.args.t.0 in
    let rows = c.self.inside.table.rows.items in
    subst (HasPages new t) (sym c.sweep.ensures.rows)
    (pages-swept old new t rows c.self.invariant.rows (subst (HasPages old t) (sym c.self.view_is) c.requires.pages)
    (subst (λ xs. ReleasesRows old new t (dead xs)) c.deref.ensures.value c.release_pages.ensures.releases))
