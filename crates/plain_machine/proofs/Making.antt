-- How a making ends, and the bounds of what it tells.
use Rattle.std.proofs.Common.{◌≡◌, ℕ, ◌+◌, ◌-◌, ◌/◌, ◌≤◌, Bool, true, false, not, List, refl, sym, subst, arith, nat_le, nat_eq}
use Rattle.std.proofs.lemmas.Bool.{false≢true, leb-true}
use Rattle.model_numbers.specs.Numbers.{image_length, region_bytes, most_array_bytes}
use Rattle.heap_graph.specs.declared.names.Shape.{Shape}
use Rattle.heap_graph.specs.declared.names.Stored.{Stored}
use Rattle.heap_graph.specs.Allocation.{Allocated, has_room, make, make_by, make_collected, make_if, make_if_collected, make_in_image, needs, needs_if}
use Rattle.heap_graph.specs.Allocation as allocated
use Rattle.heap_graph.specs.Collection.{collect}
use Rattle.heap_graph.specs.Graph.{Graph, image_fill}
use Rattle.heap_graph.specs.Packing.{end_of, free, place, place_if}
use Rattle.heap_graph.specs.Sizes.{is_large, is_primitive_array, is_too_large, most_bytes, size_in, unrounded}

module _ (g : Graph) (shape : Shape) (slots : List Stored) where
  -- what a full image tells
  abbrev pub TellsFill : Allocated → Type 0
  TellsFill (allocated.Made h collected) = Unit {0}
  TellsFill (allocated.ImageFull fill size) = (fill ≡ image_fill g) × (size ≡ size_in g.classes shape)
  TellsFill (allocated.HeapFull h room need) = (room ≡ free (collect g)) × (need ≡ needs (collect g) shape)

  collected_tells : (b : Bool) → TellsFill (make_if_collected b (collect g) shape slots)
  collected_tells true = tt
  collected_tells false = (refl, refl)

  sealed_tells : (b : Bool) → TellsFill (make_if b g shape slots)
  sealed_tells true = tt
  sealed_tells false = collected_tells (has_room (collect g) shape)

  image_tells : (b : Bool) → TellsFill (make_in_image b g shape slots)
  image_tells true = tt
  image_tells false = (refl, refl)

  by_tells : (b : Bool) → TellsFill (make_by b g shape slots)
  by_tells true = sealed_tells (has_room g shape)
  by_tells false = image_tells (nat_le (image_fill g + size_in g.classes shape) image_length)

  pub make_tells : TellsFill (make g shape slots)
  make_tells = by_tells g.sealed

-- an object that isn't too large
not_too_large : (u most : ℕ) → not (nat_le u most) ≡ false → u ≤ most
not_too_large u most h = by (nat_le u most) refl h
  where
    by : (b : Bool) → nat_le u most ≡ b → not b ≡ false → u ≤ most
    by true e n = leb-true u most e
    by false e n = absurd (false≢true (sym n))

most_small : (b : Bool) → most_bytes b ≤ most_array_bytes
most_small true = omega arith
most_small false = omega arith

-- regions that sizes grow by
place_near : (b : Bool) (p : ℕ) → place_if b p ≤ p + (region_bytes - 1)
place_near true p = omega arith
place_near false p = omega arith

grows : (p s at : ℕ) → s ≤ 1048584 → at ≤ p + (region_bytes - 1) → (at + s + (region_bytes - 1)) / region_bytes - (p + (region_bytes - 1)) / region_bytes ≤ 16
grows p s at small near = omega arith

needs_small : (g : Graph) (shape : Shape) (b : Bool) → unrounded g.classes shape ≤ most_array_bytes → needs_if b g shape ≤ 16
needs_small g shape true small = omega (arith, small)
needs_small g shape false small =
    let near = place_near (nat_eq (end_of g / region_bytes) ((end_of g + size_in g.classes shape - 1) / region_bytes)) (end_of g) in
    grows (end_of g) (size_in g.classes shape) (place (end_of g) (size_in g.classes shape)) (omega (arith, small)) near

-- what a full heap tells fits 32 bits
pub full_fits : (g : Graph) (shape : Shape) (slots : List Stored) (h : Graph) (room need : ℕ) → is_too_large g.classes shape ≡ false →
    make g shape slots ≡ allocated.HeapFull h room need → (room ≤ g.budget) × (need ≤ 16)
full_fits g shape slots h room need small e =
    let told : TellsFill g shape slots (allocated.HeapFull h room need) = subst (TellsFill g shape slots) e (make_tells g shape slots) in
    let bytes : unrounded g.classes shape ≤ most_array_bytes =
    let fits = not_too_large (unrounded g.classes shape) (most_bytes (is_primitive_array shape)) small in
    let most = most_small (is_primitive_array shape) in
    omega (arith, fits, most) in
    let few = needs_small (collect g) shape (is_large g.classes shape) bytes in
    (omega (arith, told.0), omega (arith, told.1, few))
