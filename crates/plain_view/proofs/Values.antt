-- What stands at a place of an object is a value of the place's kind.
use Rattle.std.proofs.Common.{◌≡◌, ℕ, ◌^◌, ◌<◌, length, get_or, map, slice_index, true, false, true≢false, ◌&&◌, List, [], ◌∷◌, nat_eq, nat_le, sym, ap, subst, ◌∙◌, arith}
use Rattle.std.specs.Prelude.{ℤ, pos, IsTrue}
use Rattle.std.proofs.lemmas.Bool.{le-leb}
use Rattle.class_layout.specs.declared.kind.Kind.{Kind}
use Rattle.class_layout.specs.declared.kind.Kind.TheVariants.{Ref, Boolean, Byte, Char, Short, Int, Long}
use Rattle.class_layout.specs.declared.kind.FieldAt.{FieldAt}
use Rattle.class_layout.specs.Kinds.{in_range, is_ref}
use Rattle.heap_graph.specs.declared.names.Content.{Content}
use Rattle.heap_graph.specs.declared.names.Content.TheVariants as content
use Rattle.heap_graph.specs.declared.names.Stored.{Stored}
use Rattle.heap_graph.specs.Graph.{Graph, Object}
use Rattle.heap_graph.specs.Values.{empty_slot, value_at, value_if}
use Rattle.heap_graph.specs.Formed.{FitsKind, IsFormed}
use Rattle.object_view.specs.Seen.{seen_value, value_in, HasValue}
use Rattle.object_view.specs.Values.{is_value}
use Rattle.heap_graph.proofs.Places.{value-fits as suits}
use Rattle.object_view.proofs.Laid.{ref-kind}
use Rattle.plain_view.specs.Viewed.{first_table}
use Rattle.plain_view.proofs.Found.{object-there}

-- a number in the range of a kind is a value of it
number-value : (kind : Kind) (z : ℤ) → in_range kind z ≡ true → is_value kind z ≡ true
number-value Ref z h = absurd (true≢false (sym h))
number-value Boolean z h = h
number-value Byte z h = h
number-value Char z h = h
number-value Short z h = h
number-value Int z h = h
number-value Long z h = h

-- an address is a value of references
reference-value : (kind : Kind) (n : ℕ) → is_ref kind ≡ true → n < 2 ^ 32 → is_value kind (pos n) ≡ true
reference-value kind n is less =
    subst (λ (k : Kind). is_value k (pos n) ≡ true) (sym (ref-kind kind is))
    (ap (λ b. b && nat_le n 4294967295) (le-leb 0 n (omega arith)) ∙ le-leb n 4294967295 (omega (arith, less)))

seen-fits : (table : ℕ → ℕ) (kind : Kind) (v : Content) → ((n : ℕ) → table n < 2 ^ 32) → FitsKind kind v → is_value kind (seen_value table v) ≡ true
seen-fits table kind (content.Number z) below h = number-value kind z h
seen-fits table kind content.Null below h = reference-value kind 0 h (omega arith)
seen-fits table kind (content.Object n) below h = reference-value kind (table n) h (below n)

-- the value at a place is one of its kind
pub value-fits : (g : Graph) (table : ℕ → ℕ) (at : ℕ) (kind : Kind) (offset : ℕ) (o : Object) (place : FieldAt) → IsFormed g → ((n : ℕ) → table n < 2 ^ 32)
    → HasValue g table at kind offset o place → IsTrue (is_value kind (value_in table o place))
value-fits g table at kind offset o place formed below has =
    let fit = suits g o place formed has.is_in has.is_place.is_in in
    subst (λ (k : Kind). is_value k (value_in table o place) ≡ true) has.is_place.kind_is (seen-fits table place.kind (value_at o.slots place) below fit)

-- a kind and an offset tell what stands there
pub same-value : (ss : List Stored) (p q : FieldAt) → p.kind ≡ q.kind → p.offset ≡ q.offset → value_at ss p ≡ value_at ss q
same-value [] p q k e = ap (λ (x : Kind). empty_slot (is_ref x)) k
same-value (s ∷ ss) p q k e =
    ap (λ n. value_if (nat_eq s.at.offset n) s.value (value_at ss p)) e ∙ ap (value_if (nat_eq s.at.offset q.offset) s.value) (same-value ss p q k e)

-- what is read at the place of an address is the value of the object that stands there
pub value-there : (g : Graph) (items : List ℕ) (i at : ℕ) (r : Object) (kind : Kind) (offset : ℕ) (v : Content) (z : ℤ) → IsFormed g → items ≡ map (λ o. first_table g o.number) g.objects
    → i < length g.objects → slice_index items i ≡ at → r ≡ get_or g.objects i r → v ≡ value_at r.slots (record { kind = kind; offset = offset; weak = false })
    → z ≡ seen_value (first_table g) v → (o : Object) (place : FieldAt) → HasValue g (first_table g) at kind offset o place → z ≡ value_in (first_table g) o place
value-there g items i at r kind offset v z formed is less found r-is v-is z-is o place has =
    let p : FieldAt = record { kind = kind; offset = offset; weak = false } in
    let same : r ≡ o = object-there g formed items i at r o is less found r-is has.is_in has.at_is in
    z-is ∙ ap (seen_value (first_table g))
    (v-is ∙ ap (λ (x : Object). value_at x.slots p) same ∙ same-value o.slots p place (sym has.is_place.kind_is) (sym has.is_place.offset_is))
