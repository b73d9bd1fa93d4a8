use Rattle.std.proofs.Common.{◌-◌, ◌≡◌, ℕ, ◌<◌, ◌≤◌, Some}
use Rattle.class_layout.specs.declared.kind.FieldAt.{FieldAt}
use Rattle.heap_graph.specs.declared.names.Shape.TheVariants.{Instance}
use Rattle.object_view.specs.Objects.{reference_place}
use Rattle.mod_union.proofs.search.first_field.Given as goal

-- the references before `low` stand before the offset, and those from `high` on don't
abbrev pub invariant-loop-low : goal.invariant-loop-low
invariant-loop-low l = record {
  order : l.low ≤ l.high;
  small : l.high ≤ l.offset;
  before : (k : ℕ) (place : FieldAt) → k < l.low → reference_place l.classes (Instance l.class) k ≡ Some place → place.offset < l.offset;
  behind : (k : ℕ) (place : FieldAt) → l.high ≤ k → reference_place l.classes (Instance l.class) k ≡ Some place → l.offset ≤ place.offset;
}

abbrev pub decreases-loop-low : goal.decreases-loop-low
decreases-loop-low l = l.high - l.low
