use Rattle.std.proofs.Common.{◌≡◌, ◌+◌, ◌*◌, subst, arith}
use Rattle.std.specs.Int.{w64, to_le_bytes}
use Rattle.page_tables.specs.Address.{page_of}
use Rattle.cow_pages.specs.Memory.{Memory}
use Rattle.cow_pages.specs.Change.{TakesOnCopy, WritesPage}
use Rattle.object_view.specs.Changes.{WritesSpan}
use Rattle.object_view.proofs.Outcomes.{on_ok_both}
use Rattle.object_view.proofs.Spans.{WritesSpan-step}
use Rattle.object_view.proofs.objects.write_word.Goals as goal

pub returns-clause-span : goal.returns-clause-span
returns-clause-span c =
    let old = c.args.frames.now in
    let new = c.write_u64.new.self in
    let e : 8 * c.args.index + 8 ≡ 8 * (c.args.index + 1) = omega arith in
    let step : (m : Memory) → WritesPage old new c.args.t.0 (c.args.at.0 + 8 * c.args.index) (to_le_bytes w64 c.args.word) → TakesOnCopy old new c.args.t.0 (page_of (c.args.at.0 + 8 * c.args.index))
    → WritesSpan m old c.args.t.0 c.args.at.0 (c.args.at.0 + 8 * c.args.index) → WritesSpan m new c.args.t.0 c.args.at.0 (c.args.at.0 + 8 * (c.args.index + 1)) =
    λ m w takes s. subst (λ n. WritesSpan m new c.args.t.0 c.args.at.0 (c.args.at.0 + n)) e
    (WritesSpan-step m old new c.args.t.0 c.args.at.0 (8 * c.args.index) (to_le_bytes w64 c.args.word) c.requires.aligned (omega arith) w takes c.write_u64.ensures.sound s) in
    on_ok_both c.write_u64.result (λ w takes m s. step m w takes s) c.write_u64.ensures.page c.write_u64.ensures.takes
