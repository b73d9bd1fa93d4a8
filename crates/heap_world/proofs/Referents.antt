-- The referents of weak references are the weak slots.
use Rattle.std.proofs.Common.{◌≡◌, ℕ, zero, suc, ◌≤◌, Bool, true, false, ◌||◌, ◌&&◌, List, [], ◌∷◌, ◌++◌, Option, None, Some, length, length-append, nat_eq, slice_get, unwrap_or, refl, sym, ap, subst, arith}
use Rattle.std.specs.List.{AllByRecursion}
use Rattle.std.proofs.lemmas.Bool.{ne_eqb}
use Rattle.class_layout.specs.declared.kind.FieldAt.{FieldAt}
use Rattle.class_layout.specs.declared.kind.FieldDecl.{FieldDecl}
use Rattle.class_layout.specs.ClassList.{Class, IsClassList, builtin_classes, inherited, layout_of, layouts, layouts_after}
use Rattle.class_layout.specs.Kinds.{kind_bytes, next_multiple}
use Rattle.class_layout.specs.Layout.{Laid, bare, in_layout_order, lay_out, place_field, place_fields}
use Rattle.heap_graph.specs.declared.names.Shape.{Shape}
use Rattle.heap_graph.specs.declared.names.Shape.TheVariants.{Instance, Array}
use Rattle.heap_graph.specs.declared.names.Stored.{Stored}
use Rattle.heap_graph.specs.Graph.{Object}
use Rattle.heap_graph.specs.Formed.{AreObjects, AreReferents, AreSlots, HasSlot, has_weak_parent, is_referent, is_weak_class, weak_classes_after}
use Rattle.heap_graph.proofs.LaidOut.{all-push, found-all, multiple-le}

-- the fields of a layout that are weak: the one at offset 8 in weak references and below, and no other
pub record IsFlagged (weak : Bool) (laid : Laid) : Type 0 where
  pub end : weak ≡ true → 12 ≤ laid.end
  pub fields : AllByRecursion (λ p. p.at.weak ≡ (weak && nat_eq p.at.offset 8)) laid.fields

flagged-bare : IsFlagged false bare
flagged-bare = record { end = λ e. cc; fields = tt }

-- a field more that isn't weak
flagged-field : (weak : Bool) (laid : Laid) (f : FieldDecl) → IsFlagged weak laid → IsFlagged weak (place_field false laid f)
flagged-field weak laid f h =
    let le = multiple-le f.kind laid.end in
    let offset : ℕ = next_multiple (kind_bytes f.kind) laid.end in
    record {
      end = λ e. let least = h.end e in omega (arith, le, least);
      fields = all-push (λ p. p.at.weak ≡ (weak && nat_eq p.at.offset 8)) laid.fields (record { name = f.name; at = record { kind = f.kind; offset = offset; weak = false } }) h.fields
          (by weak h.end le);
    }
  where
    by : (b : Bool) → (b ≡ true → 12 ≤ laid.end) → laid.end ≤ next_multiple (kind_bytes f.kind) laid.end → false ≡ (b && nat_eq (next_multiple (kind_bytes f.kind) laid.end) 8)
    by true least le = sym (ne_eqb (next_multiple (kind_bytes f.kind) laid.end) 8 (λ same. let low = least refl in omega (arith, low, le, same)))
    by false least le = refl

flagged-fields : (weak : Bool) (laid : Laid) (fs : List FieldDecl) → IsFlagged weak laid → IsFlagged weak (place_fields false laid fs)
flagged-fields weak laid [] h = h
flagged-fields weak laid (f ∷ fs) h = flagged-fields weak (place_field false laid f) fs (flagged-field weak laid f h)

-- class by class
abbrev AreFlagged : List Bool → List Laid → Type 0
AreFlagged [] [] = Unit {0}
AreFlagged [] (l ∷ ls) = ⊥
AreFlagged (b ∷ bs) [] = ⊥
AreFlagged (b ∷ bs) (l ∷ ls) = IsFlagged b l × AreFlagged bs ls

flagged-push : (bs : List Bool) (ls : List Laid) (b : Bool) (l : Laid) → AreFlagged bs ls → IsFlagged b l → AreFlagged (bs ++ b ∷ []) (ls ++ l ∷ [])
flagged-push [] [] b l h new = (new, tt)
flagged-push [] (m ∷ ls) b l h new = absurd h
flagged-push (a ∷ bs) [] b l h new = absurd h
flagged-push (a ∷ bs) (m ∷ ls) b l h new = (h.0, flagged-push bs ls b l h.1 new)

flagged-at : (bs : List Bool) (ls : List Laid) (k : ℕ) → AreFlagged bs ls → IsFlagged (unwrap_or (slice_get bs k) false) (unwrap_or (slice_get ls k) bare)
flagged-at [] [] k h = flagged-bare
flagged-at [] (l ∷ ls) k h = absurd h
flagged-at (b ∷ bs) [] k h = absurd h
flagged-at (b ∷ bs) (l ∷ ls) zero h = h.0
flagged-at (b ∷ bs) (l ∷ ls) (suc k) h = flagged-at bs ls k h.1

flagged-parent : (bs : List Bool) (ls : List Laid) (parent : Option ℕ) → AreFlagged bs ls → IsFlagged (has_weak_parent bs parent) (inherited ls parent)
flagged-parent bs ls None h = flagged-bare
flagged-parent bs ls (Some p) h = flagged-at bs ls p h

-- behind the two classes that are built in
flagged-after : (bs : List Bool) (ls : List Laid) (cs : List Class) → 2 ≤ length bs → 2 ≤ length ls → AreFlagged bs ls → AreFlagged (weak_classes_after bs cs) (layouts_after ls cs)
flagged-after bs ls [] two also h = h
flagged-after bs ls (c ∷ cs) two also h =
    let b : Bool = nat_eq (length bs) 1 || has_weak_parent bs c.parent in
    let l : Laid = lay_out (nat_eq (length ls) 1) (inherited ls c.parent) c.fields in
    let no : nat_eq (length bs) 1 ≡ false = ne_eqb (length bs) 1 (λ same. omega (arith, same)) in
    let none : nat_eq (length ls) 1 ≡ false = ne_eqb (length ls) 1 (λ same. omega (arith, same)) in
    let plain : IsFlagged (has_weak_parent bs c.parent) (lay_out false (inherited ls c.parent) c.fields) =
    flagged-fields (has_weak_parent bs c.parent) (inherited ls c.parent) (in_layout_order c.fields) (flagged-parent bs ls c.parent h) in
    let P : Bool → Bool → Type 0 = λ x y. IsFlagged (x || has_weak_parent bs c.parent) (lay_out y (inherited ls c.parent) c.fields) in
    let new : IsFlagged b l = subst (λ y. P (nat_eq (length bs) 1) y) (sym none) (subst (λ x. P x false) (sym no) plain) in
    flagged-after (bs ++ b ∷ []) (ls ++ l ∷ []) cs (omega (arith, length-append bs (b ∷ []))) (omega (arith, length-append ls (l ∷ []))) (flagged-push bs ls b l h new)

builtin-flagged : AreFlagged (false ∷ true ∷ []) (layouts builtin_classes)
builtin-flagged = (flagged-bare, (record { end = λ e. omega arith; fields = (refl, tt) }, tt))

layout-flagged : (cs : List Class) (k : ℕ) → IsClassList cs → IsFlagged (is_weak_class cs k) (layout_of cs k)
layout-flagged cs k list =
    let rest : List Class = list.builtin.0 in
    let all : AreFlagged (weak_classes_after [] (builtin_classes ++ rest)) (layouts (builtin_classes ++ rest)) =
    flagged-after (false ∷ true ∷ []) (layouts builtin_classes) rest (omega arith) (omega arith) builtin-flagged in
    flagged-at (weak_classes_after [] cs) (layouts cs) k (subst (λ ds. AreFlagged (weak_classes_after [] ds) (layouts ds)) (sym list.builtin.1) all)

-- so is each slot
pub slot-weak : (cs : List Class) (shape : Shape) (at : FieldAt) → IsClassList cs → HasSlot cs shape at → at.weak ≡ is_referent cs shape at.offset
slot-weak cs (Instance class) at list has =
    found-all (λ at. at.weak ≡ (is_weak_class cs class && nat_eq at.offset 8)) (layout_of cs class).fields has.0 at (layout-flagged cs class list).fields has.1
slot-weak cs (Array kind count) at list has = ap (λ (x : FieldAt). x.weak) has.2

slots-weak : (cs : List Class) (shape : Shape) (ss : List Stored) → IsClassList cs → AreSlots cs shape ss → AllByRecursion (λ s. s.at.weak ≡ is_referent cs shape s.at.offset) ss
slots-weak cs shape [] list h = tt
slots-weak cs shape (s ∷ ss) list h = (slot-weak cs shape s.at list h.0, slots-weak cs shape ss list h.2)

pub referents-weak : (cs : List Class) → IsClassList cs → (os : List Object) → AreObjects cs os → AllByRecursion (AreReferents cs) os
referents-weak cs list [] h = tt
referents-weak cs list (o ∷ os) h = (slots-weak cs o.shape o.slots list h.1, referents-weak cs list os h.2)
