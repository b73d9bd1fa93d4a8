use Rattle.std.proofs.Common.{rules}
use Rattle.heap_graph.specs.declared.names.Shape.TheVariants.{Instance}
use Rattle.object_view.proofs.Standing.{HasShape-stands}
use Rattle.memory_tests.proofs.objects.weak_slot.Goals as goal

pub ref_slot-slot-requires : goal.ref_slot-slot-requires
ref_slot-slot-requires g c =
    let s = c.in_ok-write_new.ensures.object in
    (Instance 1, record { has_shape = HasShape-stands _ _ _ _ _ _ s; known = search rules; space = s.space })
