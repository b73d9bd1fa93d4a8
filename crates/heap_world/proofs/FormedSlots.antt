-- Shapes and slots of objects, as classes are added, slots are cleared and stored to, and places change.
use Rattle.std.proofs.Common.{◌≡◌, ℕ, ◌+◌, Bool, true, false, true≢false, ◌||◌, not, cond, List, [], ◌∷◌, ◌++◌, Some, map, filter, length-append, nat_eq, nat_le, refl, sym, ap, subst, ◌∙◌, arith}
use Rattle.std.specs.List.{list_any, find}
use Rattle.std.proofs.lemmas.Bool.{or_parts, or_from, eqb-true, eq-eqb, ne_eqb}
use Rattle.std.proofs.lemmas.Option.{same_Some}
use Rattle.model_numbers.specs.Numbers.{most_object_bytes}
use Rattle.class_layout.specs.declared.kind.FieldAt.{FieldAt}
use Rattle.class_layout.specs.ClassList.{Class}
use Rattle.class_layout.specs.Layout.{field_named}
use Rattle.class_layout.proofs.Layouts.{layout_of-push_old}
use Rattle.heap_graph.specs.declared.names.Shape.{Shape}
use Rattle.heap_graph.specs.declared.names.Shape.TheVariants.{Instance, Array}
use Rattle.heap_graph.specs.declared.names.Stored.{Stored}
use Rattle.heap_graph.specs.Collection.{cleared, cleared_slots}
use Rattle.heap_graph.specs.Fork.{promoted_from, next_spot}
use Rattle.heap_graph.specs.Graph.{Object, size_of_object}
use Rattle.heap_graph.specs.Values.{stored_if, with_stored}
use Rattle.heap_world.specs.Acts.{stored_in_if, stored_in}
use Rattle.heap_graph.specs.Formed.{AreRising, IsShape, HasSlot, AreSlots, AreObjects}
use Rattle.heap_world.proofs.FormedNumbers.{stored_in-below}
use Rattle.heap_world.proofs.FormedAims.{Aims, SlotsAim, ObjectsAim}

-- two numbers differ either way round
other_way : (m n : ℕ) → nat_eq m n ≡ false → nat_eq n m ≡ false
other_way m n e = ne_eqb n m (λ same. true≢false (sym (eq-eqb m n (sym same)) ∙ e))

module _ (cs ds : List Class) where
  -- with more classes, a shape is one still
  shape-grown : (shape : Shape) → IsShape cs shape → IsShape (cs ++ ds) shape
  shape-grown (Instance class) h =
      (omega (arith, h.0, length-append cs ds), ap (λ l. not (nat_le l.end most_object_bytes)) (layout_of-push_old cs ds class h.0) ∙ h.1)
  shape-grown (Array kind count) h = h

  -- and has the slots that it had
  slot-grown : (shape : Shape) (at : FieldAt) → IsShape cs shape → HasSlot cs shape at → HasSlot (cs ++ ds) shape at
  slot-grown (Instance class) at shape h = (h.0, ap (λ l. field_named l h.0) (layout_of-push_old cs ds class shape.0) ∙ h.1)
  slot-grown (Array kind count) at shape h = h

  -- the same for slots and objects
  slots-grown : (shape : Shape) (ss : List Stored) → IsShape cs shape → AreSlots cs shape ss → AreSlots (cs ++ ds) shape ss
  slots-grown shape [] is h = tt
  slots-grown shape (s ∷ ss) is h = (slot-grown shape s.at is h.0, h.1, slots-grown shape ss is h.2)

  pub objects-grown : (os : List Object) → AreObjects cs os → AreObjects (cs ++ ds) os
  objects-grown [] h = tt
  objects-grown (o ∷ os) h = (shape-grown o.shape h.0, slots-grown o.shape o.slots h.0 h.1, objects-grown os h.2)

module _ (cs : List Class) where
  -- fewer objects
  pub objects-filter : (keep : Object → Bool) (os : List Object) → AreObjects cs os → AreObjects cs (filter keep os)
  objects-filter keep [] h = tt
  objects-filter keep (o ∷ os) h = by (keep o) (objects-filter keep os h.2)
    where
      by : (b : Bool) → AreObjects cs (filter keep os) → AreObjects cs (cond b (o ∷ filter keep os) (filter keep os))
      by true rest = (h.0, h.1, rest)
      by false rest = rest

  -- clearing leaves each slot where it is
  cleared-offsets : (kept : List ℕ) (offset : ℕ) (ss : List Stored) → list_any (λ r. nat_eq r.at.offset offset) (cleared_slots kept ss) ≡ list_any (λ r. nat_eq r.at.offset offset) ss
  cleared-offsets kept offset [] = refl
  cleared-offsets kept offset (s ∷ ss) = ap (λ b. nat_eq s.at.offset offset || b) (cleared-offsets kept offset ss)

  -- so slots and objects stay what they are
  slots-cleared : (kept : List ℕ) (shape : Shape) (ss : List Stored) → AreSlots cs shape ss → AreSlots cs shape (cleared_slots kept ss)
  slots-cleared kept shape [] h = tt
  slots-cleared kept shape (s ∷ ss) h = (h.0, cleared-offsets kept s.at.offset ss ∙ h.1, slots-cleared kept shape ss h.2)

  pub objects-cleared : (kept : List ℕ) (os : List Object) → AreObjects cs os → AreObjects cs (map (cleared kept) os)
  objects-cleared kept [] h = tt
  objects-cleared kept (o ∷ os) h = (h.0, slots-cleared kept o.shape o.slots h.1, objects-cleared kept os h.2)

  -- other places
  pub objects-promoted : (ds : List Class) (spot : ℕ) (os : List Object) → AreObjects cs os → AreObjects cs (promoted_from ds spot os)
  objects-promoted ds spot [] h = tt
  objects-promoted ds spot (o ∷ os) h = (h.0, h.1, objects-promoted ds (next_spot spot (size_of_object ds o) o.place) os h.2)

  -- one more object
  pub objects-push : (os : List Object) (o : Object) → AreObjects cs os → IsShape cs o.shape → AreSlots cs o.shape o.slots → AreObjects cs (os ++ o ∷ [])
  objects-push [] o h shape slots = (shape, slots, tt)
  objects-push (x ∷ os) o h shape slots = (h.0, h.1, objects-push os o h.2 shape slots)

  -- a store leaves the other offsets
  stored-offsets : (offset : ℕ) (ss : List Stored) (new : Stored) → list_any (λ r. nat_eq r.at.offset offset) ss ≡ false → nat_eq new.at.offset offset ≡ false
      → list_any (λ r. nat_eq r.at.offset offset) (with_stored ss new) ≡ false
  stored-offsets offset [] new h e = or_from (nat_eq new.at.offset offset) false e refl
  stored-offsets offset (s ∷ ss) new h e =
      let parts = or_parts (nat_eq s.at.offset offset) (list_any (λ r. nat_eq r.at.offset offset) ss) h in
      by (nat_eq s.at.offset new.at.offset) parts.0 parts.1 (stored-offsets offset ss new parts.1 e)
    where
      by : (b : Bool) → nat_eq s.at.offset offset ≡ false → list_any (λ r. nat_eq r.at.offset offset) ss ≡ false → list_any (λ r. nat_eq r.at.offset offset) (with_stored ss new) ≡ false
          → list_any (λ r. nat_eq r.at.offset offset) (stored_if b new ss (with_stored ss new) s) ≡ false
      by true here later rest = or_from (nat_eq new.at.offset offset) (list_any (λ r. nat_eq r.at.offset offset) ss) e later
      by false here later rest = or_from (nat_eq s.at.offset offset) (list_any (λ r. nat_eq r.at.offset offset) (with_stored ss new)) here rest

  -- a store to a slot of the shape
  slots-stored : (shape : Shape) (ss : List Stored) (new : Stored) → HasSlot cs shape new.at → AreSlots cs shape ss → AreSlots cs shape (with_stored ss new)
  slots-stored shape [] new has h = (has, refl, tt)
  slots-stored shape (s ∷ ss) new has h = by (nat_eq s.at.offset new.at.offset) refl (slots-stored shape ss new has h.2)
    where
      by : (b : Bool) → nat_eq s.at.offset new.at.offset ≡ b → AreSlots cs shape (with_stored ss new) → AreSlots cs shape (stored_if b new ss (with_stored ss new) s)
      by true e rest = (has, ap (λ offset. list_any (λ r. nat_eq r.at.offset offset) ss) (sym (eqb-true s.at.offset new.at.offset e)) ∙ h.1, h.2)
      by false e rest = (h.0, stored-offsets s.at.offset ss new h.1 (other_way s.at.offset new.at.offset e), rest)

  -- a store to the object of a number
  pub objects-stored : (low next : ℕ) (os : List Object) (n : ℕ) (o : Object) (new : Stored) → AreRising low next os → find (λ x. nat_eq x.number n) os ≡ Some o
      → HasSlot cs o.shape new.at → AreObjects cs os → AreObjects cs (stored_in os n new)
  objects-stored low next [] n o new rising found has h = tt
  objects-stored low next (x ∷ os) n o new rising found has h = by (nat_eq x.number n) refl found (λ found. objects-stored (x.number + 1) next os n o new rising.1 found has h.2)
    where
      by : (b : Bool) → nat_eq x.number n ≡ b → cond b (Some x) (find (λ x. nat_eq x.number n) os) ≡ Some o → (find (λ x. nat_eq x.number n) os ≡ Some o → AreObjects cs (stored_in os n new))
          → AreObjects cs (stored_in_if b x new ∷ stored_in os n new)
      by true e found rest =
          let same : x ≡ o = same_Some x o found in
          let P : Object → Type 0 = λ y. HasSlot cs y.shape new.at in
          let R : List Object → Type 0 = λ ys. AreObjects cs ys in
          let number : x.number ≡ n = eqb-true x.number n e in (
            h.0,
            slots-stored x.shape x.slots new (subst P (sym same) has) h.1,
            subst R (sym (stored_in-below (x.number + 1) next os n new (omega (arith, number)) rising.1)) h.2,
          )
      by false e found rest = (h.0, h.1, rest found)

module _ (ns : List ℕ) where
  -- what the slots hold after a store
  slots_aim-stored : (ss : List Stored) (new : Stored) → SlotsAim ns ss → Aims ns new.value → SlotsAim ns (with_stored ss new)
  slots_aim-stored [] new a value = (value, tt)
  slots_aim-stored (s ∷ ss) new a value = by (nat_eq s.at.offset new.at.offset) (slots_aim-stored ss new a.1 value)
    where
      by : (b : Bool) → SlotsAim ns (with_stored ss new) → SlotsAim ns (stored_if b new ss (with_stored ss new) s)
      by true rest = (value, a.1)
      by false rest = (a.0, rest)

  -- the same for objects
  pub objects_aim-stored : (os : List Object) (n : ℕ) (new : Stored) → ObjectsAim ns os → Aims ns new.value → ObjectsAim ns (stored_in os n new)
  objects_aim-stored [] n new a value = tt
  objects_aim-stored (o ∷ os) n new a value = by (nat_eq o.number n) (objects_aim-stored os n new a.1 value)
    where
      by : (b : Bool) → ObjectsAim ns (stored_in os n new) → ObjectsAim ns (stored_in_if b o new ∷ stored_in os n new)
      by true rest = (slots_aim-stored o.slots new a.0 value, rest)
      by false rest = (a.0, rest)

  -- and after a promotion
  pub objects_aim-promoted : (cs : List Class) (spot : ℕ) (os : List Object) → ObjectsAim ns os → ObjectsAim ns (promoted_from cs spot os)
  objects_aim-promoted cs spot [] a = tt
  objects_aim-promoted cs spot (o ∷ os) a = (a.0, objects_aim-promoted cs (next_spot spot (size_of_object cs o) o.place) os a.1)
