-- What stands after a collection, by raw objects.
use Rattle.std.specs.Prelude.{◌≡◌, ℕ, Bool, true, false, if◌then◌else◌, ℤ, pos}
use Rattle.class_layout.specs.declared.kind.FieldAt.{FieldAt}
use Rattle.class_layout.specs.Kinds.{is_ref}
use Rattle.class_layout.specs.Placing.{IsIn}
use Rattle.heap_graph.specs.Collection.{is_kept}
use Rattle.heap_graph.specs.Graph.{Graph, Object}
use Rattle.heap_graph.specs.Reach.{reached}
use Rattle.object_view.specs.Seen.{value_in}
use Rattle.raw_objects.specs.Raws.{Raws, SameRaw}
use Rattle.raw_objects.specs.References.{address_in}
use Rattle.graph_pages.specs.Holds.{raw_under}

-- a collection keeps the object
abbrev pub keeps : Graph → Object → Bool
keeps g o = is_kept g.sealed (reached g) o

-- where a collection's objects go: a kept one to its new address, every other one and null nowhere
pub record Going (g : Graph) (table next go : ℕ → ℕ) : Type 0 where
  pub null : go 0 ≡ 0
  pub kept : (o : Object) → IsIn o g.objects → keeps g o ≡ true → go (table o.number) ≡ next o.number
  pub dead : (o : Object) → IsIn o g.objects → keeps g o ≡ false → go (table o.number) ≡ 0

-- a value turned to where its target goes, where it is a reference
abbrev pub turned_by : (ℕ → ℕ) → FieldAt → ℤ → ℤ
turned_by go p z = if is_ref p.kind then pos (go (address_in z)) else z

-- each kept object stands at its new address, with all its references turned
abbrev pub AreTurned : Graph → Raws → (ℕ → ℕ) → (ℕ → ℕ) → (ℕ → ℕ) → Type 0
AreTurned g raws table next go = (o : Object) → IsIn o g.objects → keeps g o ≡ true
    → (raws.has (next o.number) ≡ true) × SameRaw g.classes (raws.raw (next o.number)) (record (raw_under table o) { values = λ p. turned_by go p (value_in table o p) })
