-- What the words of an object tell.
use Rattle.std.proofs.Common.{Bool, true, ◌&&◌, nat_le, ℤ, pos, subst, List, Option, Some, None, ◌≡◌, ◌∙◌, ℕ, ◌+◌, ◌*◌, ◌-◌, ◌%◌, ◌^◌, ◌<◌, ◌≤◌, refl, sym, ap, arith}
use Rattle.std.specs.Prelude.{◌==◌, if◌then◌else◌, option_map, IsSomeAnd}
use Rattle.std.proofs.lemmas.Bool.{le-leb}
use Rattle.std.proofs.lemmas.Option.{same_Some, none-some}
use Rattle.model_numbers.specs.Numbers.{class_base, class_bytes}
use Rattle.class_layout.specs.ClassList.{Class}
use Rattle.class_layout.specs.declared.kind.FieldAt.{FieldAt}
use Rattle.object_view.specs.declared.names.Slot.{Slot}
use Rattle.class_layout.specs.declared.kind.Kind.{Kind}
use Rattle.class_layout.specs.declared.kind.Kind.TheVariants.{Ref, Boolean, Byte, Char, Short, Int, Long}
use Rattle.cow_pages.specs.Memory.{IsSound, Memory}
use Rattle.cow_pages.specs.View.{byte_at, u32_at, view_of, SameView, View}
use Rattle.heap_graph.specs.declared.names.Shape.{Shape}
use Rattle.heap_graph.specs.declared.names.Shape.TheVariants.{Instance, Array}
use Rattle.object_view.specs.declared.names.Header.{Header}
use Rattle.object_view.specs.declared.names.Header.TheVariants.{Number, Forward}
use Rattle.object_view.specs.Objects.{reference_place, slot_at, HasShape, IsObject, IsSlotOf, Stands}
use Rattle.object_view.specs.Values.{is_value, number_at}
use Rattle.object_view.specs.Words.{array_word, lock_word, IsHeader}
use Rattle.cow_pages.proofs.LawLemmas.{numbers, paged}
use Rattle.object_view.proofs.Numbers.{number-same}
use Rattle.object_view.proofs.Laid.{place-within, reference-in}
use Rattle.object_view.proofs.Stores.{loaded}

-- a word that tells where an object went tells an address of 32 bits
pub forward-small : (word : ℕ) (header : Header) → IsHeader header → word ≡ lock_word header → 0xc0000000 ≤ word → (word - 0xc0000000) * 8 < 2 ^ 32
forward-small word (Number n) fits is high = absurd (omega arith)
forward-small word (Forward to) fits is high = omega arith

-- the kind of a class word
abbrev kind_in : ℕ → Kind
kind_in n =
    if n == 0x10000020 then Ref else if n == 0x10000024 then Boolean else if n == 0x10000028 then Byte else if n == 0x1000002c then Char
    else if n == 0x10000030 then Short else if n == 0x10000034 then Int else Long

kind-again : (kind : Kind) → kind_in (array_word kind) ≡ kind
kind-again Ref = refl
kind-again Boolean = refl
kind-again Byte = refl
kind-again Char = refl
kind-again Short = refl
kind-again Int = refl
kind-again Long = refl

-- kinds with one class word are one
pub same-kind : (a b : Kind) → array_word a ≡ array_word b → a ≡ b
same-kind a b is = sym (kind-again a) ∙ ap kind_in is ∙ kind-again b

-- no class word of a class is one of arrays
pub no-class : (class : ℕ) (kind : Kind) → class_base + class_bytes * class ≡ array_word kind → ⊥
no-class class Ref is = omega arith
no-class class Boolean is = omega arith
no-class class Byte is = omega arith
no-class class Char is = omega arith
no-class class Short is = omega arith
no-class class Int is = omega arith
no-class class Long is = omega arith

-- what an array's words tell
pub HasShape-array : (v : View) (at : ℕ) (shape : Shape) (kind : Kind) (count : ℕ) → HasShape v at shape → u32_at v at ≡ array_word kind → u32_at v (at + 8) ≡ count → HasShape v at (Array kind count)
HasShape-array v at (Instance class) kind count has word length = absurd (no-class class kind (sym has.class_is ∙ word))
HasShape-array v at (Array other n) kind count has word length = record { aligned = has.aligned; space = has.space; class_is = word; length_is = length }

pub array-only : (v : View) (at : ℕ) (shape : Shape) (kind : Kind) (count : ℕ) → HasShape v at shape → u32_at v at ≡ array_word kind → u32_at v (at + 8) ≡ count → Array kind count ≡ shape
array-only v at (Instance class) kind count has word length = absurd (no-class class kind (sym has.class_is ∙ word))
array-only v at (Array other n) kind count has word length =
    let kind_is : kind ≡ other = same-kind kind other (sym word ∙ has.class_is) in
    let count_is : count ≡ n = sym length ∙ has.length_is in
    cc

-- a word is the same whatever reads were counted
pub byte-reads : (m : Memory) (t n at : ℕ) → byte_at (record m { reads = n }) t at ≡ byte_at m t at
unfolding byte_at
byte-reads m t n at = refl

-- and the table is seen as it was
pub SameView-reads : (m : Memory) (t n : ℕ) → SameView (view_of m t) (view_of (record m { reads = n }) t)
SameView-reads m t n = record { byte = byte-reads m t n; mapped = λ at. refl }

pub number-reads : (m : Memory) (t n : ℕ) (kind : Kind) (at : ℕ) → number_at (view_of (record m { reads = n }) t) kind at ≡ number_at (view_of m t) kind at
number-reads m t n kind at = number-same (view_of m t) (view_of (record m { reads = n }) t) kind at at (λ i below. byte-reads m t n (at + i))

-- a word that was read later
pub u32-later : (old new : Memory) (t n at : ℕ) → new ≡ record old { reads = n } → u32_at (view_of new t) at ≡ u32_at (view_of old t) at
u32-later old new t n at is = ap (λ (m : Memory). u32_at (view_of m t) at) is ∙ number-reads old t n Int at

-- a word of memory is an address of 32 bits
pub word-fits : (old new : Memory) (t n at : ℕ) → new ≡ record old { reads = n } → IsSound new → u32_at (view_of old t) at < 2 ^ 32
word-fits old new t n at is sound = let fits = numbers (view_of new t) at (paged new t sound) in subst (λ k. k < 2 ^ 32) (u32-later old new t n at is) fits.u32_fits

pub address-fits : (n : ℕ) → n < 2 ^ 32 → is_value Ref (pos n) ≡ true
address-fits n small = ap (λ b. b && nat_le n 4294967295) (le-leb 0 n (omega arith)) ∙ le-leb n 4294967295 (omega arith)

-- the place that a reference's offset was taken from
pub record Found (cs : List Class) (v : View) (at : ℕ) (shape : Shape) (k offset : ℕ) (weak : Bool) : Type 0 where
  pub place : FieldAt
  pub is : reference_place cs shape k ≡ Some place
  pub offset_is : place.offset ≡ offset
  pub weak_is : place.weak ≡ weak
  pub multiple : (at + offset) % 4 ≡ 0
  pub below : at + offset < 2 ^ 32
  pub mapped : v.mapped (at + offset) ≡ true

pub found-slot : (cs : List Class) (v : View) (at : ℕ) (shape : Shape) (k offset : ℕ) (weak : Bool) → IsObject cs v at shape
    → ◌≡◌ {A = Option (ℕ × Bool)} (Some (offset, weak)) (option_map (λ (place : FieldAt). (place.offset, place.weak)) (reference_place cs shape k)) → Found cs v at shape k offset weak
found-slot cs v at shape k offset weak object found = by (reference_place cs shape k) refl found
  where
    by : (o : Option FieldAt) → reference_place cs shape k ≡ o → ◌≡◌ {A = Option (ℕ × Bool)} (Some (offset, weak)) (option_map (λ (place : FieldAt). (place.offset, place.weak)) o) → Found cs v at shape k offset weak
    by None is found = let one : ℕ × Bool = (offset, weak) in absurd (none-some one (sym found))
    by (Some place) is found =
        let one : ℕ × Bool = (offset, weak) in
        let other : ℕ × Bool = (place.offset, place.weak) in
        let pair : one ≡ other = same_Some one other found in
        let offset_is : place.offset ≡ offset = sym (ap (λ (p : ℕ × Bool). p.0) pair) in
        let there = reference-in cs shape k place is in
        let lies = place-within cs shape Ref place.offset place (record { is_in = there.0; kind_is = there.1; offset_is = refl }) in
        record {
          place = place;
          is = is;
          offset_is = offset_is;
          weak_is = sym (ap (λ (p : ℕ × Bool). p.1) pair);
          multiple = omega (arith, object.has_shape.aligned, lies.1, offset_is);
          below = omega (arith, object.space.below, lies.2, offset_is);
          mapped = object.space.mapped offset (omega (arith, lies.2, offset_is));
        }

pub slot-is : (v : View) (at offset target : ℕ) (weak : Bool) (place : FieldAt) → place.offset ≡ offset → place.weak ≡ weak → target ≡ u32_at v (at + offset)
    → ◌≡◌ {A = Option Slot} (Some (record { at = record { 0 = at + offset }; target = record { 0 = target }; weak = weak })) (Some (slot_at v at place))
slot-is v at offset target weak place offset_is weak_is target_is =
    let slot : ℕ → ℕ → Bool → Option Slot = λ o n w. Some (record { at = record { 0 = at + o }; target = record { 0 = n }; weak = w }) in
    ap (λ n. slot offset n weak) target_is ∙ ap (λ o. slot o (u32_at v (at + o)) weak) (sym offset_is) ∙ ap (λ w. slot place.offset (u32_at v (at + place.offset)) w) (sym weak_is)

-- the slot that is found is that of the object's place
pub slot-object : (cs : List Class) (v : View) (at : ℕ) (shape : Shape) (header : Header) (values : FieldAt → ℤ) (k : ℕ) (place : FieldAt) (found : Option Slot) → Stands cs v at shape header values
    → reference_place cs shape k ≡ Some place → is_value Ref (values place) ≡ true → found ≡ option_map (slot_at v at) (reference_place cs shape k) → IsSomeAnd found (IsSlotOf at place values)
slot-object cs v at shape header values k place found s is value found_is =
    let there = reference-in cs shape k place is in
    let slot : IsSlotOf at place values (slot_at v at place) = record {
      at_is = refl;
      target_is = loaded cs v at shape header values Ref place.offset place s (record { is_in = there.0; kind_is = there.1; offset_is = refl }) value;
      weak_is = refl;
    } in
    let e : found ≡ Some (slot_at v at place) = found_is ∙ ap (option_map (slot_at v at)) is in
    subst (λ (o : Option Slot). IsSomeAnd o (IsSlotOf at place values)) (sym e) slot
