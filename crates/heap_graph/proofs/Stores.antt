-- What places hold after a store, and after a collection cleared weak ones; what a place holds is a target.
use Rattle.std.proofs.Common.{◌≡◌, ◌∙◌, ℕ, nat_eq, Bool, true, false, List, [], ◌∷◌, refl, sym, ap, subst}
use Rattle.std.proofs.lemmas.Bool.{eqb-true, eq-eqb, false≢true, or_left}
use Rattle.class_layout.specs.declared.kind.FieldAt.{FieldAt}
use Rattle.class_layout.specs.ClassList.{Class}
use Rattle.class_layout.specs.Kinds.{is_ref}
use Rattle.class_layout.specs.Placing.{IsIn}
use Rattle.heap_graph.specs.declared.names.Content.{Content}
use Rattle.heap_graph.specs.declared.names.Content.TheVariants as content
use Rattle.heap_graph.specs.declared.names.Shape.{Shape}
use Rattle.heap_graph.specs.declared.names.Stored.{Stored}
use Rattle.heap_graph.specs.Collection.{clear_if, cleared_slots}
use Rattle.heap_graph.specs.Formed.{AreSlots, IsFormed}
use Rattle.heap_graph.specs.Graph.{Graph, Object}
use Rattle.heap_graph.specs.Places.{places_of}
use Rattle.heap_graph.specs.Reach.{is_among}
use Rattle.heap_graph.specs.Values.{empty_slot, stored_if, targets, value_at, value_if, with_stored, with_target}
use Rattle.heap_graph.proofs.Places.{object-in, one-place, slot-place}
use Rattle.heap_graph.proofs.Slots.{target_later}

-- the place holds the new value where that was stored there, and else what it held
abbrev Follows : List Stored → Stored → FieldAt → Type 0
Follows ss new at = value_at (with_stored ss new) at ≡ value_if (nat_eq new.at.offset at.offset) new.value (value_at ss at)

-- a store puts its value in its own place, and leaves each other place as it was
pub stored-value : (ss : List Stored) (new : Stored) (at : FieldAt) → Follows ss new at
stored-value [] new at = refl
stored-value (s ∷ ss) new at = by (stored-value ss new at) (nat_eq s.at.offset new.at.offset) refl (nat_eq new.at.offset at.offset) refl (nat_eq s.at.offset at.offset) refl
  where
    apart : nat_eq s.at.offset new.at.offset ≡ false → nat_eq new.at.offset at.offset ≡ true → nat_eq s.at.offset at.offset ≡ true → ⊥
    apart differ new_is s_is =
        let same : s.at.offset ≡ new.at.offset = eqb-true s.at.offset at.offset s_is ∙ sym (eqb-true new.at.offset at.offset new_is) in
        false≢true (sym differ ∙ ap (λ n. nat_eq n new.at.offset) same ∙ eq-eqb new.at.offset new.at.offset refl)

    once : nat_eq s.at.offset new.at.offset ≡ true → nat_eq new.at.offset at.offset ≡ false → nat_eq s.at.offset at.offset ≡ false
    once same other = ap (λ n. nat_eq n at.offset) (eqb-true s.at.offset new.at.offset same) ∙ other

    rest : Follows ss new at → (b c : Bool) → nat_eq new.at.offset at.offset ≡ b → nat_eq s.at.offset at.offset ≡ c → (b ≡ true → c ≡ true → ⊥)
        → value_if c s.value (value_at (with_stored ss new) at) ≡ value_if b new.value (value_if c s.value (value_at ss at))
    rest later true true n_is s_is never = absurd (never refl refl)
    rest later true false n_is s_is never = later ∙ ap (λ x. value_if x new.value (value_at ss at)) n_is
    rest later false true n_is s_is never = refl
    rest later false false n_is s_is never = later ∙ ap (λ x. value_if x new.value (value_at ss at)) n_is

    by : Follows ss new at → (a : Bool) → nat_eq s.at.offset new.at.offset ≡ a → (b : Bool) → nat_eq new.at.offset at.offset ≡ b → (c : Bool) → nat_eq s.at.offset at.offset ≡ c
        → value_at (stored_if a new ss (with_stored ss new) s) at ≡ value_if (nat_eq new.at.offset at.offset) new.value (value_if (nat_eq s.at.offset at.offset) s.value (value_at ss at))
    by later true same true n_is c s_is = ap (λ x. value_if x new.value (value_at ss at)) n_is ∙ sym (ap (λ x. value_if x new.value (value_if (nat_eq s.at.offset at.offset) s.value (value_at ss at))) n_is)
    by later true same false n_is c s_is = ap (λ x. value_if (nat_eq new.at.offset at.offset) new.value (value_if x s.value (value_at ss at))) (sym (once same n_is))
    by later false differ b n_is c s_is =
        ap (λ x. value_if x s.value (value_at (with_stored ss new) at)) s_is
        ∙ rest later b c n_is s_is (λ bt ct. apart differ (n_is ∙ bt) (s_is ∙ ct))
        ∙ ap (λ x. value_if x new.value (value_if c s.value (value_at ss at))) (sym n_is)
        ∙ ap (λ x. value_if (nat_eq new.at.offset at.offset) new.value (value_if x s.value (value_at ss at))) (sym s_is)

-- null and 0 stay where a collection clears
clear-empty : (weak : Bool) (kept : List ℕ) (ref : Bool) → clear_if weak kept (empty_slot ref) ≡ empty_slot ref
clear-empty true kept true = refl
clear-empty true kept false = refl
clear-empty false kept ref = refl

-- clearing is of each place alone
cleared-values : (cs : List Class) (shape : Shape) (at : FieldAt) (kept : List ℕ) (ss : List Stored) → IsIn at (places_of cs shape) → AreSlots cs shape ss
    → value_at (cleared_slots kept ss) at ≡ clear_if at.weak kept (value_at ss at)
cleared-values cs shape at kept [] there slots = sym (clear-empty at.weak kept (is_ref at.kind))
cleared-values cs shape at kept (s ∷ ss) there slots = by (nat_eq s.at.offset at.offset) refl (cleared-values cs shape at kept ss there slots.2)
  where
    by : (b : Bool) → nat_eq s.at.offset at.offset ≡ b → value_at (cleared_slots kept ss) at ≡ clear_if at.weak kept (value_at ss at)
        → value_if b (clear_if s.at.weak kept s.value) (value_at (cleared_slots kept ss) at) ≡ clear_if at.weak kept (value_if b s.value (value_at ss at))
    by true is later =
        let same : s.at ≡ at = one-place cs shape s.at at (slot-place cs shape s.at slots.0) there (eqb-true s.at.offset at.offset is) in
        ap (λ (p : FieldAt). clear_if p.weak kept s.value) same
    by false is later = later

pub cleared-value : (g : Graph) (o : Object) (at : FieldAt) (kept : List ℕ) → IsFormed g → IsIn o g.objects → IsIn at (places_of g.classes o.shape)
    → value_at (cleared_slots kept o.slots) at ≡ clear_if at.weak kept (value_at o.slots at)
cleared-value g o at kept formed there here = cleared-values g.classes o.shape at kept o.slots here (object-in g.classes g.objects o formed.objects there).1

-- no object stands here
is_number_or_null : Content → Type 0
is_number_or_null (content.Number z) = Unit {0}
is_number_or_null content.Null = Unit {0}
is_number_or_null (content.Object n) = ⊥

-- nothing stored is no object
empty-holds : (ref : Bool) (n : ℕ) → empty_slot ref ≡ content.Object n → ⊥
unfolding is_number_or_null
empty-holds true n e = subst is_number_or_null e tt
empty-holds false n e = subst is_number_or_null e tt

target-first : (s : Content) (ns : List ℕ) (n : ℕ) → s ≡ content.Object n → is_among (with_target s ns) n ≡ true
target-first s ns n e = subst (λ c. is_among (with_target c ns) n ≡ true) (sym e) (or_left (nat_eq n n) (is_among ns n) (eq-eqb n n refl))

-- the object that a place holds is among the targets
pub value-among : (ss : List Stored) (at : FieldAt) (n : ℕ) → value_at ss at ≡ content.Object n → is_among (targets ss) n ≡ true
value-among [] at n e = absurd (empty-holds (is_ref at.kind) n e)
value-among (s ∷ ss) at n e = by (nat_eq s.at.offset at.offset) e (value-among ss at n)
  where
    by : (b : Bool) → value_if b s.value (value_at ss at) ≡ content.Object n → (value_at ss at ≡ content.Object n → is_among (targets ss) n ≡ true) → is_among (with_target s.value (targets ss)) n ≡ true
    by true is rest = target-first s.value (targets ss) n is
    by false is rest = target_later s.value (targets ss) n (rest is)
