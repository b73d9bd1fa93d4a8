use Rattle.std.proofs.Common.{◌∙◌, ℕ, is_ok, sym, ap, true≢false}
use Rattle.cow_pages.specs.View.{view_of}
use Rattle.page_tables.specs.Address.{page_of}
use Rattle.std.specs.Prelude.{nat_eq}
use Rattle.weak_refs.specs.Weak.{is_dead}
use Rattle.live_objects.specs.Live.{addresses}
use Rattle.object_collection.specs.Phases.{stays_in}
use Rattle.object_collection.proofs.Steps.{any-fewer}
use Rattle.object_collection.proofs.phases.clear_weak.Goals as goal

pub unreachable-requires : goal.unreachable-requires
unreachable-requires c =
    absurd (true≢false (sym (c.clear_dead.ensures.succeeds (λ p is. c.requires.alone p
    (any-fewer (λ (at : ℕ). nat_eq (page_of at) p) (is_dead (stays_in c.args.stays) (view_of c.args.frames.now c.args.t.0)) (addresses c.args.weak.now) is)))
    ∙ ap (λ r. is_ok r) c.in-Err.is))
