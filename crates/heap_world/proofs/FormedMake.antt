-- Making an object keeps a graph formed.
use Rattle.std.proofs.Common.{◌≡◌, ℕ, ◌+◌, ◌<◌, ◌≤◌, Bool, true, false, not, List, [], ◌∷◌, ◌++◌, Option, None, Some, Result, Ok, Err, IfOk, length, length-append, nat_le, refl, sym, ap, subst, ◌∙◌, arith, lit≤}
use Rattle.std.proofs.lemmas.Bool.{leb-false, leb-true}
use Rattle.model_numbers.specs.Numbers.{image_base, image_length, region_bytes, most_object_bytes, number_limit}
use Rattle.class_layout.specs.declared.kind.Kind.TheVariants.{Ref}
use Rattle.class_layout.specs.ClassList.{Class, IsClassList, builtin_classes, layout_of, number_of}
use Rattle.class_layout.specs.Layout.{field_named}
use Rattle.class_layout.specs.Names.{referent_name}
use Rattle.class_layout.proofs.Layouts.{layout_of-push_old}
use Rattle.heap_graph.specs.declared.names.Shape.{Shape}
use Rattle.heap_graph.specs.declared.names.Shape.TheVariants.{Instance}
use Rattle.heap_graph.specs.declared.names.Held.{Held}
use Rattle.heap_graph.specs.declared.names.Place.{Place}
use Rattle.heap_graph.specs.declared.names.Place.TheVariants as place
use Rattle.heap_graph.specs.declared.names.Stored.{Stored}
use Rattle.heap_graph.specs.Allocation.{Allocated, has_room, heap_place, make_if_collected, make_if, make_in_image, make_by, make, needs_if}
use Rattle.heap_graph.specs.Allocation as allocated
use Rattle.heap_graph.specs.Collection.{collect}
use Rattle.heap_graph.specs.Graph.{Graph, Object, image_fill}
use Rattle.heap_graph.specs.Packing.{after, cost, end_of, free}
use Rattle.heap_graph.specs.Paths.{numbers}
use Rattle.heap_graph.specs.Sizes.{is_large, is_too_large, parts_for, size_in}
use Rattle.heap_graph.specs.Values.{slot_of}
use Rattle.heap_graph.proofs.Kept.{nothing_dangles}
use Rattle.heap_world.specs.declared.reply.Refusal.{Refusal}
use Rattle.heap_world.specs.Acts.{root_written, part_after, after_make, make_numbered, make_slots, make_sized, make_shape, new_of_class, referent_at, make_weak}
use Rattle.heap_world.specs.Effect.{Effect}
use Rattle.heap_graph.specs.Formed.{IsFormed, IsShape, HasSlot, AreSlots, SuitsShape, turn}
use Rattle.heap_world.specs.Part.{Part}
use Rattle.heap_world.specs.Slots.{held_by_root}
use Rattle.heap_world.proofs.FormedAims.{Aims, SlotsAim, closed_roots}
use Rattle.heap_world.proofs.FormedDefine.{number_of-below}
use Rattle.heap_world.proofs.FormedKept.{collect_formed, made_formed}
use Rattle.heap_world.proofs.FormedStores.{held-aims}
use Rattle.heap_world.proofs.FormedValues.{AreValues, held-fits}
use Rattle.heap_world.proofs.Placed.{IsPlaced, costs-is, end-is, fill-is, placed_of, used-is, young_end, young_next}
use Rattle.heap_world.proofs.PlacedPush.{placed-heap, placed-image}
use Rattle.heap_graph.proofs.Totals.{total}

-- the part after a command has a formed graph
abbrev pub Keeps : Effect → Type 0
Keeps e = IsFormed e.part.graph

-- what is made is formed, once a root holds the new object
abbrev IsMade : Graph → List ℕ → Allocated → Type 0
IsMade g root (allocated.Made h collected) = IsFormed (root_written h root g.next)
IsMade g root (allocated.ImageFull fill size) = Unit {0}
IsMade g root (allocated.HeapFull h free needed) = IsFormed h

-- where an object stands in the heap, and that it has room there
module _ (g : Graph) (shape : Shape) (slots : List Stored) (formed : IsFormed g) where
  -- the new object, at a place
  abbrev at_place : Place → Object
  at_place at = record { number = g.next; shape = shape; slots = slots; place = at }

  heap_suits : (b : Bool) → is_large g.classes shape ≡ b → SuitsShape g.classes (at_place (heap_place b)) (heap_place b)
  heap_suits true e = e
  heap_suits false e = e

  heap_turn : (b : Bool) → turn (heap_place b) ≡ 2
  heap_turn true = refl
  heap_turn false = refl

  heap_fits : (b : Bool) → needs_if b g shape ≤ free g
      → parts_for region_bytes (young_next g.classes (young_end g.classes 0 g.objects) (at_place (heap_place b)) (heap_place b))
      + (total (λ o. cost g.classes o o.place) g.objects + cost g.classes (at_place (heap_place b)) (heap_place b)) ≤ g.budget
  heap_fits true e = omega (arith, e, used-is g, costs-is g, formed.regions)
  heap_fits false e =
      let end : parts_for region_bytes (after (end_of g) (size_in g.classes shape)) ≡ parts_for region_bytes (after (young_end g.classes 0 g.objects) (size_in g.classes shape)) =
      ap (λ n. parts_for region_bytes (after n (size_in g.classes shape))) (end-is g.classes 0 g.objects) in
      omega (arith, e, end, used-is g, costs-is g, formed.regions)

  -- what has room is placed
  heap_placed : g.sealed ≡ true → has_room g shape ≡ true → IsPlaced g.classes g.sealed g.budget (g.objects ++ at_place (heap_place (is_large g.classes shape)) ∷ [])
  heap_placed sealed room =
      let large : Bool = is_large g.classes shape in
      let new : Object = at_place (heap_place large) in
      let fits : needs_if large g shape ≤ free g = leb-true (needs_if large g shape) (free g) room in
      let placed : IsPlaced g.classes true g.budget g.objects = subst (λ b. IsPlaced g.classes b g.budget g.objects) sealed (placed_of g formed) in
      subst (λ b. IsPlaced g.classes b g.budget (g.objects ++ new ∷ [])) (sym sealed)
      (placed-heap g.classes g.budget g.objects new (heap_suits large refl) (heap_turn large) (heap_fits large fits) placed)

  -- so is what the image has room for
  image_placed : g.sealed ≡ false → nat_le (image_fill g + size_in g.classes shape) image_length ≡ true
      → IsPlaced g.classes g.sealed g.budget (g.objects ++ at_place (place.Image (image_base + image_fill g)) ∷ [])
  image_placed unsealed room =
      let fits : image_fill g + size_in g.classes shape ≤ image_length = leb-true (image_fill g + size_in g.classes shape) image_length room in
      placed-image g.classes g.sealed g.budget g.objects (at_place (place.Image (image_base + image_fill g))) unsealed (ap (λ n. place.Image (image_base + n)) (fill-is g))
      (omega (arith, fits, fill-is g)) (placed_of g formed)

module _ (g : Graph) (root : List ℕ) (shape : Shape) (slots : List Stored) (room : g.next < number_limit) (is : IsShape g.classes shape) (are : AreSlots g.classes shape slots)
    (aims : SlotsAim (numbers g.objects) slots) (still : SlotsAim (numbers (collect g).objects) slots) (fit : AreValues slots) (formed : IsFormed g) where
  -- the steps of making, the last one first
  made_if_collected : g.sealed ≡ true → (b : Bool) → has_room (collect g) shape ≡ b → IsMade g root (make_if_collected b (collect g) shape slots)
  made_if_collected sealed true e =
      let after = collect_formed g sealed formed in
      made_formed (collect g) shape slots (heap_place (is_large g.classes shape)) room is are still fit after (heap_placed (collect g) shape slots after sealed e) root
  made_if_collected sealed false e = collect_formed g sealed formed

  made_if : g.sealed ≡ true → (b : Bool) → has_room g shape ≡ b → IsMade g root (make_if b g shape slots)
  made_if sealed true e = made_formed g shape slots (heap_place (is_large g.classes shape)) room is are aims fit formed (heap_placed g shape slots formed sealed e) root
  made_if sealed false e = made_if_collected sealed (has_room (collect g) shape) refl

  made_in_image : g.sealed ≡ false → (b : Bool) → nat_le (image_fill g + size_in g.classes shape) image_length ≡ b → IsMade g root (make_in_image b g shape slots)
  made_in_image unsealed true e = made_formed g shape slots (place.Image (image_base + image_fill g)) room is are aims fit formed (image_placed g shape slots formed unsealed e) root
  made_in_image unsealed false e = tt

  made_by : (sealed : Bool) → g.sealed ≡ sealed → IsMade g root (make_by sealed g shape slots)
  made_by true e = made_if e (has_room g shape) refl
  made_by false e = made_in_image e (nat_le (image_fill g + size_in g.classes shape) image_length) refl

  is_made : IsMade g root (make g shape slots)
  is_made = made_by g.sealed refl

-- what is left after the making
after_make_keeps : (p : Part) (root : List ℕ) (shape : Shape) (a : Allocated) → IsMade p.graph root a → IsFormed p.graph → Keeps (after_make p root shape a)
after_make_keeps p root shape (allocated.Made h collected) m formed = by collected
  where
    by : (b : Bool) → IsFormed (part_after b p (root_written h root p.graph.next)).graph
    by true = m
    by false = m
after_make_keeps p root shape (allocated.ImageFull fill size) m formed = formed
after_make_keeps p root shape (allocated.HeapFull h free needed) m formed = m

module _ (p : Part) (root : List ℕ) (formed : IsFormed p.graph) where
  -- an object with slots
  slots_keeps : (shape : Shape) (slots : List Stored) → IsShape p.graph.classes shape → AreSlots p.graph.classes shape slots → SlotsAim (numbers p.graph.objects) slots
      → SlotsAim (numbers (collect p.graph).objects) slots → AreValues slots → Keeps (make_slots p root shape slots)
  slots_keeps shape slots is are aims still fit = by (nat_le number_limit p.graph.next) refl
    where
      by : (b : Bool) → nat_le number_limit p.graph.next ≡ b → Keeps (make_numbered b p root shape slots)
      by true e = formed
      by false e = after_make_keeps p root shape (make p.graph shape slots) (is_made p.graph root shape slots (leb-false number_limit p.graph.next e) is are aims still fit formed) formed

  -- a shape that is not too large
  pub shape_keeps : (shape : Shape) → (is_too_large p.graph.classes shape ≡ false → IsShape p.graph.classes shape) → Keeps (make_shape p root shape)
  shape_keeps shape is = by (is_too_large p.graph.classes shape) refl
    where
      by : (b : Bool) → is_too_large p.graph.classes shape ≡ b → Keeps (make_sized b p root shape)
      by true e = formed
      by false e = slots_keeps shape [] (is e) tt tt tt tt

  -- an instance of a class by name
  pub new_keeps : (class : List ℕ) → Keeps (new_of_class p root (number_of p.graph.classes class))
  new_keeps class = by (number_of p.graph.classes class) refl
    where
      by : (found : Option ℕ) → number_of p.graph.classes class ≡ found → Keeps (new_of_class p root found)
      by None e = formed
      by (Some k) e = shape_keeps (Instance k) (λ fits. (number_of-below p.graph.classes class k e, fits))

-- the layout of weak references
weak_layout : (cs : List Class) → IsClassList cs → layout_of cs 1 ≡ layout_of builtin_classes 1
weak_layout cs list = ap (λ ds. layout_of ds 1) list.builtin.1 ∙ layout_of-push_old builtin_classes list.builtin.0 1 (lit≤ tt)

-- so they have their shape, and in it the slot of the referent
weak_shape : (cs : List Class) → IsClassList cs → IsShape cs (Instance 1)
weak_shape cs list =
    (omega (arith, ap length list.builtin.1, length-append builtin_classes list.builtin.0), ap (λ l. not (nat_le l.end most_object_bytes)) (weak_layout cs list))

weak_slot : (cs : List Class) → IsClassList cs → HasSlot cs (Instance 1) referent_at
weak_slot cs list = (referent_name, ap (λ l. field_named l referent_name) (weak_layout cs list))

-- a weak reference
pub weak_keeps : (p : Part) (root referent : List ℕ) → IsFormed p.graph → Keeps (make_weak p root (held_by_root p.graph referent))
weak_keeps p root referent formed =
    by (held_by_root p.graph referent) (held-aims (numbers p.graph.objects) p.graph referent (closed_roots p.graph formed.closed))
    (held-aims (numbers (collect p.graph).objects) p.graph referent (closed_roots (collect p.graph) (nothing_dangles p.graph formed.closed)))
  where
    by : (r : Result Held Refusal) → IfOk r (λ h. Aims (numbers p.graph.objects) (slot_of h)) → IfOk r (λ h. Aims (numbers (collect p.graph).objects) (slot_of h)) → Keeps (make_weak p root r)
    by (Err why) a b = formed
    by (Ok h) a b =
        slots_keeps p root formed (Instance 1) (record { at = referent_at; value = slot_of h } ∷ []) (weak_shape p.graph.classes formed.classes)
        (weak_slot p.graph.classes formed.classes, refl, tt) (a, tt) (b, tt) (held-fits Ref h refl, tt)
