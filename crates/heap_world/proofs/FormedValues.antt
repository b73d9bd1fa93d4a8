-- Root names stand once, and stored values fit their slots.
use Rattle.std.proofs.Common.{◌≡◌, ℕ, Bool, true, false, not, cond, List, [], ◌∷◌, map, filter, nat_eq, refl}
use Rattle.std.specs.List.{AllByRecursion, IsDistinct}
use Rattle.class_layout.specs.declared.kind.Kind.{Kind}
use Rattle.class_layout.specs.declared.kind.Value.{Value}
use Rattle.class_layout.specs.declared.kind.Value.TheVariants as value
use Rattle.class_layout.specs.ClassList.{Class}
use Rattle.class_layout.specs.Kinds.{in_range, is_ref}
use Rattle.class_layout.specs.Names.{same_name}
use Rattle.heap_graph.specs.declared.names.Held.{Held}
use Rattle.heap_graph.specs.declared.names.Held.TheVariants as held
use Rattle.heap_graph.specs.declared.names.Root.{Root}
use Rattle.heap_graph.specs.declared.names.Content.{Content}
use Rattle.heap_graph.specs.declared.names.Content.TheVariants as content
use Rattle.heap_graph.specs.declared.names.Stored.{Stored}
use Rattle.heap_graph.specs.Collection.{clear_if, cleared, cleared_slots, if_kept}
use Rattle.heap_graph.specs.Fork.{next_spot, promoted_from}
use Rattle.heap_graph.specs.Graph.{Object, drop_root, size_of_object, write_first, write_root}
use Rattle.heap_graph.specs.Reach.{is_among}
use Rattle.heap_graph.specs.Values.{slot_of, stored_if, with_stored}
use Rattle.heap_world.specs.declared.reply.Refusal.{Refusal}
use Rattle.heap_world.specs.Acts.{stored_in, stored_in_if}
use Rattle.heap_graph.specs.Formed.{FitsKind, HoldsValues}
use Rattle.heap_world.specs.Slots.{number_if_fits, reference_if, stored_value}
use Rattle.heap_world.proofs.PlacedFilter.{all-filter}
use Rattle.std.proofs.Common.{Result, Ok, Err, IfOk}

-- the names of two roots are the same
abbrev pub SameNamed : Root → Root → Bool
SameNamed r s = same_name r.name s.name

-- a name that no root has, and that isn't written
apart-write : (other : List ℕ) (rs : List Root) (name : List ℕ) (h : Held) → same_name other name ≡ false → AllByRecursion (λ s. same_name other s.name ≡ false) rs
    → AllByRecursion (λ s. same_name other s.name ≡ false) (write_root rs name h)
apart-write other [] name h e a = (e, tt)
apart-write other (r ∷ rs) name h e a = by (same_name r.name name) (apart-write other rs name h e a.1)
  where
    by : (b : Bool) → AllByRecursion (λ s. same_name other s.name ≡ false) (write_root rs name h) → AllByRecursion (λ s. same_name other s.name ≡ false) (write_first b r name h rs (write_root rs name h))
    by true rest = (a.0, a.1)
    by false rest = (a.0, rest)

-- names stay once as a root is written, and as one is dropped
pub names-write : (rs : List Root) (name : List ℕ) (h : Held) → IsDistinct SameNamed rs → IsDistinct SameNamed (write_root rs name h)
unfolding IsDistinct
names-write [] name h d = (tt, tt)
names-write (r ∷ rs) name h d = by (same_name r.name name) refl (names-write rs name h d.1)
  where
    by : (b : Bool) → same_name r.name name ≡ b → IsDistinct SameNamed (write_root rs name h) → IsDistinct SameNamed (write_first b r name h rs (write_root rs name h))
    by true e rest = (d.0, d.1)
    by false e rest = (apart-write r.name rs name h e d.0, rest)

pub distinct-filter : {X : Type 0} (same : X → X → Bool) (keep : X → Bool) (xs : List X) → IsDistinct same xs → IsDistinct same (filter keep xs)
unfolding IsDistinct
distinct-filter same keep [] d = tt
distinct-filter same keep (x ∷ xs) d = by (keep x) (distinct-filter same keep xs d.1)
  where
    by : (b : Bool) → IsDistinct same (filter keep xs) → IsDistinct same (cond b (x ∷ filter keep xs) (filter keep xs))
    by true rest = (all-filter (λ y. same x y ≡ false) keep xs d.0, rest)
    by false rest = rest

pub names-drop : (rs : List Root) (name : List ℕ) → IsDistinct SameNamed rs → IsDistinct SameNamed (drop_root rs name)
names-drop rs name d = distinct-filter SameNamed (λ r. not (same_name r.name name)) rs d

-- values of slots
abbrev pub AreValues : List Stored → Type 0
AreValues ss = AllByRecursion (λ s. FitsKind s.at.kind s.value) ss

-- a cleared slot fits
fits-cleared : (k : Kind) (weak : Bool) (kept : List ℕ) (v : Content) → FitsKind k v → FitsKind k (clear_if weak kept v)
fits-cleared k false kept v h = h
fits-cleared k true kept (content.Number z) h = h
fits-cleared k true kept content.Null h = h
fits-cleared k true kept (content.Object n) h = by (is_among kept n)
  where
    by : (b : Bool) → FitsKind k (if_kept b n)
    by true = h
    by false = h

slots-fit-cleared : (kept : List ℕ) (ss : List Stored) → AreValues ss → AreValues (cleared_slots kept ss)
slots-fit-cleared kept [] h = tt
slots-fit-cleared kept (s ∷ ss) h = (fits-cleared s.at.kind s.at.weak kept s.value h.0, slots-fit-cleared kept ss h.1)

pub values-cleared : (kept : List ℕ) (os : List Object) → AllByRecursion HoldsValues os → AllByRecursion HoldsValues (map (cleared kept) os)
values-cleared kept [] h = tt
values-cleared kept (o ∷ os) h = (slots-fit-cleared kept o.slots h.0, values-cleared kept os h.1)

-- a store of what fits
slots-fit-stored : (ss : List Stored) (new : Stored) → FitsKind new.at.kind new.value → AreValues ss → AreValues (with_stored ss new)
slots-fit-stored [] new fits h = (fits, tt)
slots-fit-stored (s ∷ ss) new fits h = by (nat_eq s.at.offset new.at.offset) (slots-fit-stored ss new fits h.1)
  where
    by : (b : Bool) → AreValues (with_stored ss new) → AreValues (stored_if b new ss (with_stored ss new) s)
    by true rest = (fits, h.1)
    by false rest = (h.0, rest)

pub values-stored : (os : List Object) (n : ℕ) (new : Stored) → FitsKind new.at.kind new.value → AllByRecursion HoldsValues os → AllByRecursion HoldsValues (stored_in os n new)
values-stored [] n new fits h = tt
values-stored (o ∷ os) n new fits h = (by (nat_eq o.number n), values-stored os n new fits h.1)
  where
    by : (b : Bool) → HoldsValues (stored_in_if b o new)
    by true = slots-fit-stored o.slots new fits h.0
    by false = h.0

-- other places
pub values-promoted : (cs : List Class) (at : ℕ) (os : List Object) → AllByRecursion HoldsValues os → AllByRecursion HoldsValues (promoted_from cs at os)
values-promoted cs at [] h = tt
values-promoted cs at (o ∷ os) h = (h.0, values-promoted cs (next_spot at (size_of_object cs o) o.place) os h.1)

-- what a root holds fits a reference
pub held-fits : (k : Kind) (h : Held) → is_ref k ≡ true → FitsKind k (slot_of h)
held-fits k held.Null e = e
held-fits k (held.Object n) e = e

-- what is stored fits
pub stored-fits : (k : Kind) (v : Value) (h : Held) → IfOk (stored_value k v h) (FitsKind k)
stored-fits k (value.Number z) h = by (in_range k z) refl
  where
    by : (b : Bool) → in_range k z ≡ b → IfOk (number_if_fits b z) (FitsKind k)
    by true e = e
    by false e = tt
stored-fits k value.Null h = by (is_ref k) refl
  where
    by : (b : Bool) → is_ref k ≡ b → IfOk (reference_if b held.Null) (FitsKind k)
    by true e = e
    by false e = tt
stored-fits k (value.Root name) h = by (is_ref k) refl
  where
    by : (b : Bool) → is_ref k ≡ b → IfOk (reference_if b h) (FitsKind k)
    by true e = held-fits k h e
    by false e = tt

-- both of two facts
pub both-ok : {A : Type 0} (P Q : A → Type 0) (r : Result A Refusal) → IfOk r P → IfOk r Q → IfOk r (λ x. P x × Q x)
both-ok P Q (Ok x) p q = (p, q)
both-ok P Q (Err e) p q = tt
