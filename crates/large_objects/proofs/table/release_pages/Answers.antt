use Rattle.std.proofs.Common.{◌≡◌, ◌∙◌, ◌+◌, get_or, take, true, false, subst, sym, ap, arith, inr}
use Rattle.std.specs.Prelude.{is_some, not}
use Rattle.std.proofs.lemmas.List.{get_or_default}
use Rattle.page_tables.specs.Address.{page_of}
use Rattle.cow_pages.specs.Memory.{Memory, IsSound}
use Rattle.image_space.specs.Space.{pages_up_to}
use Rattle.page_runs.specs.Runs.{IsInRun, ReleasesRun}
use Rattle.large_objects.specs.declared.rows.LargeRow.{LargeRow}
use Rattle.large_objects.specs.Pages.{ReleasesRows}
use Rattle.large_objects.specs.Rows.{dead, slot_base, stays}
use Rattle.large_objects.proofs.PageLemmas.{holds, any-dead, next-alone, next-pages, releases-step, releases-stay}
use Rattle.large_objects.proofs.table.release_pages.Goals as goal
use Rattle.large_objects.proofs.table.release_pages.Goals.{then-not-stays, else-not-stays}

pub release_run-requires-clause-mapped : goal.release_run-requires-clause-mapped
release_run-requires-clause-mapped c = λ p here.
    let d : LargeRow = record { number = 0; slot = 0; bytes = 0; promoted = false; marked = false } in
    let rows = c.args.rows.now in
    let i = c.loop-row.row-index in
    let row = get_or rows i d in
    let is : row ≡ get_or rows i row = get_or_default rows i d row c.loop-row-test.true in
    let count : c.div_ceil.result ≡ pages_up_to row.bytes = omega (arith, c.div_ceil.ensures) in
    let in-row = holds p row (subst (λ n. IsInRun (page_of (slot_base row.slot)) n p) count here) in
    let gone : not (stays row) ≡ true = ap not (sym c.stays.ensures ∙ c.if-not-stays.true) in
    ap is_some (c.loop-row.invariant.releases.others c.args.t.0 p (inr (next-pages p rows i row c.requires.rows c.loop-row-test.true is in-row)))
    ∙ c.requires.mapped p (any-dead p rows i d c.loop-row-test.true gone in-row)

pub release_run-requires-clause-alone : goal.release_run-requires-clause-alone
release_run-requires-clause-alone c = λ p here.
    let d : LargeRow = record { number = 0; slot = 0; bytes = 0; promoted = false; marked = false } in
    let rows = c.args.rows.now in
    let i = c.loop-row.row-index in
    let row = get_or rows i d in
    let is : row ≡ get_or rows i row = get_or_default rows i d row c.loop-row-test.true in
    let count : c.div_ceil.result ≡ pages_up_to row.bytes = omega (arith, c.div_ceil.ensures) in
    let in-row = holds p row (subst (λ n. IsInRun (page_of (slot_base row.slot)) n p) count here) in
    let gone : not (stays row) ≡ true = ap not (sym c.stays.ensures ∙ c.if-not-stays.true) in
    let among = any-dead p rows i d c.loop-row-test.true gone in-row in
    next-alone c.args.frames.now c.loop-row.frames c.args.t.0 p (dead (take i rows)) c.loop-row.invariant.releases (next-pages p rows i row c.requires.rows c.loop-row-test.true is in-row)
    (c.requires.mapped p among) (c.requires.alone p among)

pub loop-row-preserved : goal.loop-row-preserved
loop-row-preserved c =
    let d : LargeRow = record { number = 0; slot = 0; bytes = 0; promoted = false; marked = false } in
    let old = c.args.frames.now in
    let mid = c.loop-row.frames in
    let t = c.args.t.0 in
    let rows = c.args.rows.now in
    let i = c.loop-row.row-index in
    let row = get_or rows i d in
    let is : row ≡ get_or rows i row = get_or_default rows i d row c.loop-row-test.true in
    elim c.if-not-stays.branch [
      | then-not-stays w ↦
          let count : w.div_ceil.result ≡ pages_up_to row.bytes = omega (arith, w.div_ceil.ensures) in
          let run : ReleasesRun mid w.release_run.new.frames t (page_of (slot_base row.slot)) (pages_up_to row.bytes) =
          subst (ReleasesRun mid w.release_run.new.frames t (page_of (slot_base row.slot))) count w.release_run.ensures.releases in
          record {
            releases = subst (λ (m : Memory). ReleasesRows old m t (dead (take (i + 1) rows))) (sym w.frames-is)
                (releases-step old mid w.release_run.new.frames t rows i row c.loop-row-test.true is (sym c.stays.ensures ∙ w.if-not-stays.true) c.loop-row.invariant.releases run);
            sound = λ sound. subst IsSound (sym w.frames-is) (w.release_run.ensures.sound (c.loop-row.invariant.sound sound));
          }
      | else-not-stays w ↦ record {
        releases = subst (λ (m : Memory). ReleasesRows old m t (dead (take (i + 1) rows))) (sym w.frames-is)
            (releases-stay old mid t rows i row c.loop-row-test.true is (sym c.stays.ensures ∙ w.if-not-stays.false) c.loop-row.invariant.releases);
        sound = λ sound. subst IsSound (sym w.frames-is) (c.loop-row.invariant.sound sound);
      }
    ]
