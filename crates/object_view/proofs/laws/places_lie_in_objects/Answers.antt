use Rattle.std.proofs.Common.{arith, refl}
use Rattle.class_layout.specs.ClassList.{layout_of}
use Rattle.heap_graph.proofs.Places.{element-in, found-in}
use Rattle.object_view.proofs.Laid.{place-within, reference-in}
use Rattle.object_view.proofs.laws.places_lie_in_objects.Goals as goal

pub returns-clause-field : goal.returns-clause-field
returns-clause-field c cs class name place is = found-in (layout_of cs class).fields name place is

pub returns-clause-element : goal.returns-clause-element
returns-clause-element c cs kind count i below = element-in kind 0 count i (omega arith) (omega arith)

pub returns-clause-reference : goal.returns-clause-reference
returns-clause-reference c cs shape k place is = let there = reference-in cs shape k place is in record { is_in = there.0; kind_is = there.1; offset_is = refl }

pub returns-clause-within : goal.returns-clause-within
returns-clause-within c = place-within
