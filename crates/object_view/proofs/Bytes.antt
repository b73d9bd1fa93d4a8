-- An object's words and values determine its bytes.
use Rattle.std.proofs.Common.{◌≡◌, ◌⊎◌, ◌∙◌, ℕ, zero, suc, ◌+◌, ◌-◌, ◌<◌, ◌≤◌, Bool, true, false, true≢false, ◌&&◌, ◌||◌, nat_le, nat_lt, List, [], ◌∷◌, map, length, get_or, Option, Some, None, refl, sym, ap, subst, inl, inr, arith, ℤ}
use Rattle.std.specs.Int.{w16, w32, w64, to_le_bytes}
use Rattle.std.proofs.lemmas.Bool.{cases_lt, leb-true, ltb-true}
use Rattle.std.proofs.lemmas.List.{get_or_past}
use Rattle.std.proofs.lemmas.Nat.{le_bytes_2, le_bytes_4, le_bytes_8}
use Rattle.class_layout.specs.declared.kind.Kind.{Kind}
use Rattle.class_layout.specs.declared.kind.Kind.TheVariants.{Ref, Boolean, Byte, Char, Short, Int, Long}
use Rattle.class_layout.specs.declared.kind.FieldAt.{FieldAt}
use Rattle.class_layout.specs.ClassList.{Class}
use Rattle.class_layout.specs.Kinds.{kind_bytes}
use Rattle.class_layout.specs.Placing.{IsIn}
use Rattle.page_tables.specs.Address.{page_of, offset_of, is_in, is_in_window}
use Rattle.page_tables.specs.declared.address.Window.TheVariants.{Image, Zygote, Regions, Large}
use Rattle.cow_pages.specs.Memory.{Memory, Page, page_at, IsSound}
use Rattle.cow_pages.specs.View.{View, byte_at, byte_in, bytes_at, numbers_from, u16_at, u32_at, u64_at}
use Rattle.heap_graph.specs.declared.names.Shape.{Shape}
use Rattle.heap_graph.specs.declared.names.Shape.TheVariants.{Instance, Array}
use Rattle.heap_graph.specs.Sizes.{size_in}
use Rattle.object_view.specs.declared.names.Header.{Header}
use Rattle.object_view.specs.Changes.{HasBytes}
use Rattle.heap_graph.specs.Places.{places_of}
use Rattle.object_view.specs.Objects.{is_in_value, Stands}
use Rattle.object_view.specs.Values.{number_at, number_of, AreBytes}
use Rattle.object_view.specs.Words.{head_end, HasLength}
use Rattle.object_view.proofs.Numbers.{bytes_at-nth}
use Rattle.object_view.proofs.Stores.{all-in}

length-mapped : (f : ℕ → ℕ) (k n : ℕ) → length (map f (numbers_from k n)) ≡ n
length-mapped f k zero = refl
length-mapped f k (suc n) = ap suc (length-mapped f (k + 1) n)

small : (v : View) → AreBytes v → (a n i : ℕ) → get_or (bytes_at v a n) i 0 < 256
small v bytes a n i = elim (cases_lt i n) [
  | inl below ↦ subst (λ b. b < 256) (sym (bytes_at-nth v a n i below)) (bytes (a + i))
  | inr past ↦
      let long = length-mapped (λ i. v.byte (a + i)) 0 n in
      subst (λ b. b < 256) (sym (get_or_past (bytes_at v a n) i 0 (omega (arith, long)))) (omega arith)
]

module _ (v w : View) (bytes_v : AreBytes v) (bytes_w : AreBytes w) where
  same-nth : (a b n i : ℕ) → i < n → bytes_at w b n ≡ bytes_at v a n → w.byte (b + i) ≡ v.byte (a + i)
  same-nth a b n i below same = sym (bytes_at-nth w b n i below) ∙ ap (λ (bs : List ℕ). get_or bs i 0) same ∙ bytes_at-nth v a n i below

  bytes-2 : (a b : ℕ) → u16_at w b ≡ u16_at v a → bytes_at w b 2 ≡ bytes_at v a 2
  unfolding u16_at
  bytes-2 a b same = sym (le_bytes_2 (bytes_at w b 2) (u16_at w b) refl (small w bytes_w b 2) refl) ∙ ap (to_le_bytes w16) same ∙ le_bytes_2 (bytes_at v a 2) (u16_at v a) refl (small v bytes_v a 2) refl

  bytes-4 : (a b : ℕ) → u32_at w b ≡ u32_at v a → bytes_at w b 4 ≡ bytes_at v a 4
  unfolding u32_at
  bytes-4 a b same = sym (le_bytes_4 (bytes_at w b 4) (u32_at w b) refl (small w bytes_w b 4) refl) ∙ ap (to_le_bytes w32) same ∙ le_bytes_4 (bytes_at v a 4) (u32_at v a) refl (small v bytes_v a 4) refl

  bytes-8 : (a b : ℕ) → u64_at w b ≡ u64_at v a → bytes_at w b 8 ≡ bytes_at v a 8
  unfolding u64_at
  bytes-8 a b same = sym (le_bytes_8 (bytes_at w b 8) (u64_at w b) refl (small w bytes_w b 8) refl) ∙ ap (to_le_bytes w64) same ∙ le_bytes_8 (bytes_at v a 8) (u64_at v a) refl (small v bytes_v a 8) refl

  one : (a b i : ℕ) → i < 1 → w.byte b ≡ v.byte a → w.byte (b + i) ≡ v.byte (a + i)
  one a b i below same = ap w.byte (let e : b + i ≡ b = omega arith in e) ∙ same ∙ ap v.byte (let e : a ≡ a + i = omega arith in e)

  -- equal numbers have equal bytes
  number-bytes : (kind : Kind) (a b i : ℕ) → i < kind_bytes kind → number_at w kind b ≡ number_at v kind a → w.byte (b + i) ≡ v.byte (a + i)
  number-bytes Ref a b i below same = same-nth a b 4 i below (bytes-4 a b same)
  number-bytes Boolean a b i below same = one a b i below same
  number-bytes Byte a b i below same = one a b i below same
  number-bytes Char a b i below same = same-nth a b 2 i below (bytes-2 a b same)
  number-bytes Short a b i below same = same-nth a b 2 i below (bytes-2 a b same)
  number-bytes Int a b i below same = same-nth a b 4 i below (bytes-4 a b same)
  number-bytes Long a b i below same = same-nth a b 8 i below (bytes-8 a b same)

  -- the byte at an offset, in a number that stands at another
  byte-in-number : (kind : Kind) (from to at i : ℕ) → at ≤ i → i < at + kind_bytes kind → number_at w kind (to + at) ≡ number_at v kind (from + at) → w.byte (to + i) ≡ v.byte (from + i)
  byte-in-number kind from to at i low high same =
      ap w.byte (let e : to + i ≡ to + at + (i - at) = omega arith in e) ∙ number-bytes kind (from + at) (to + at) (i - at) (omega arith) same
      ∙ ap v.byte (let e : from + at + (i - at) ≡ from + i = omega arith in e)

  length-bytes : (from to i : ℕ) (shape : Shape) → HasLength v from shape → HasLength w to shape → 8 ≤ i → i < head_end shape → w.byte (to + i) ≡ v.byte (from + i)
  length-bytes from to i (Instance class) old new low high = absurd (omega arith)
  length-bytes from to i (Array kind count) old new low high = byte-in-number Int from to 8 i low high (new ∙ sym old)

-- the place in which a byte lies
pub value-place : (ps : List FieldAt) (i : ℕ) → is_in_value ps i ≡ true → (p : FieldAt) × IsIn p ps × (p.offset ≤ i) × (i < p.offset + kind_bytes p.kind)
value-place [] i is = absurd (true≢false (sym is))
value-place (p ∷ ps) i is = by (nat_le p.offset i) (nat_lt i (p.offset + kind_bytes p.kind)) refl refl is (value-place ps i)
  where
    by : (a b : Bool) → nat_le p.offset i ≡ a → nat_lt i (p.offset + kind_bytes p.kind) ≡ b → ((a && b) || is_in_value ps i) ≡ true
        → (is_in_value ps i ≡ true → (q : FieldAt) × IsIn q ps × (q.offset ≤ i) × (i < q.offset + kind_bytes q.kind))
        → (q : FieldAt) × IsIn q (p ∷ ps) × (q.offset ≤ i) × (i < q.offset + kind_bytes q.kind)
    by true true low high is rest = (p, inl refl, leb-true p.offset i low, ltb-true i (p.offset + kind_bytes p.kind) high)
    by true false low high is rest = let there = rest is in (there.0, inr there.1, there.2, there.3)
    by false b low high is rest = let there = rest is in (there.0, inr there.1, there.2, there.3)

-- objects with the same words and values have the same bytes
pub bytes-same : (cs : List Class) (v w : View) (from to : ℕ) (shape : Shape) (header : Header) (values : FieldAt → ℤ) → AreBytes v → AreBytes w → Stands cs v from shape header values → Stands cs w to shape header values
    → HasBytes v w from to (size_in cs shape)
bytes-same cs v w from to shape header values bytes_v bytes_w old new i below = elim (cases_lt i 4) [
  | inl first ↦ number-bytes v w bytes_v bytes_w Int from to i first (new.class_is ∙ sym old.class_is)
  | inr behind ↦ elim (cases_lt i 8) [
    | inl second ↦ byte-in-number v w bytes_v bytes_w Int from to 4 i behind second (new.lock_is ∙ sym old.lock_is)
    | inr behind ↦ elim (cases_lt i (head_end shape)) [
      | inl third ↦ length-bytes v w bytes_v bytes_w from to i shape old.length_is new.length_is behind third
      | inr behind ↦ by (is_in_value (places_of cs shape) i) refl behind
    ]
  ]
]
  where
    by : (b : Bool) → is_in_value (places_of cs shape) i ≡ b → head_end shape ≤ i → w.byte (to + i) ≡ v.byte (from + i)
    by false none behind = new.zeros i behind below none ∙ sym (old.zeros i behind below none)
    by true some behind =
        let p = value-place (places_of cs shape) i some in
        let one = all-in (λ q. number_at v q.kind (from + q.offset) ≡ number_of q.kind (values q)) (places_of cs shape) p.0 p.1 old.numbers in
        let two = all-in (λ q. number_at w q.kind (to + q.offset) ≡ number_of q.kind (values q)) (places_of cs shape) p.0 p.1 new.numbers in
        byte-in-number v w bytes_v bytes_w p.0.kind from to p.0.offset i p.2 p.3 (two ∙ sym one)

byte-small : (page : Option Page) (o : ℕ) → ((it : Page) → page ≡ Some it → (k : ℕ) → get_or it.bytes k 0 < 256) → byte_in page o < 256
byte-small None o each = omega arith
byte-small (Some page) o each = each page refl o

-- each byte of a table is below 256
pub bytes-below : (m : Memory) (t : ℕ) → IsSound m → (at : ℕ) → byte_at m t at < 256
unfolding byte_at
bytes-below m t sound at = byte-small (page_at m t (page_of at)) (offset_of at) (λ page is k. elim (cases_lt k (length page.bytes)) [
  | inl within ↦ sound.bytes t (page_of at) page is k 0 within
  | inr past ↦ subst (λ b. b < 256) (sym (get_or_past page.bytes k 0 past)) (omega arith)
])

one-of : (a b : Bool) → (a || b) ≡ true → (a ≡ true) ⊎ (b ≡ true)
one-of true b is = inl refl
one-of false b is = inr is

second : (a b : Bool) → (a && b) ≡ true → b ≡ true
second true b is = is
second false b is = absurd (true≢false (sym is))

-- a page of a window lies before the last window's end
pub window-below : (p : ℕ) → is_in_window p ≡ true → p < 0xa0000
window-below p is = elim (one-of (is_in Image p || is_in Zygote p || is_in Regions p) (is_in Large p) is) [
  | inr large ↦ ltb-true p 0xa0000 (second (nat_le 0x80000 p) (nat_lt p 0xa0000) large)
  | inl is ↦ elim (one-of (is_in Image p || is_in Zygote p) (is_in Regions p) is) [
    | inr regions ↦ omega (arith, ltb-true p 0x50000 (second (nat_le 0x40000 p) (nat_lt p 0x50000) regions))
    | inl is ↦ elim (one-of (is_in Image p) (is_in Zygote p) is) [
      | inl image ↦ omega (arith, ltb-true p 0x24000 (second (nat_le 0x20000 p) (nat_lt p 0x24000) image))
      | inr zygote ↦ omega (arith, ltb-true p 0x40000 (second (nat_le 0x30000 p) (nat_lt p 0x40000) zygote))
    ]
  ]
]
