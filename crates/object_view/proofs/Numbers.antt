-- Numbers in memory, as far as they follow from the bytes that they stand in.
use Rattle.std.proofs.Common.{◌≡◌, ◌∙◌, ℕ, zero, suc, ◌+◌, ◌*◌, ◌^◌, ◌<◌, ◌≤◌, List, ◌∷◌, map, get_or, refl, sym, ap, arith, true, pos}
use Rattle.std.specs.Int.{w16, w32, w64, from_le_bytes, to_le_bytes}
use Rattle.std.proofs.lemmas.Nat.{from_le_bytes-to_le_bytes_4}
use Rattle.class_layout.specs.declared.kind.Kind.{Kind}
use Rattle.class_layout.specs.declared.kind.Kind.TheVariants.{Ref, Boolean, Byte, Char, Short, Int, Long}
use Rattle.class_layout.specs.Kinds.{kind_bytes}
use Rattle.cow_pages.specs.View.{View, bytes_at, numbers_from, u16_at, u32_at, u64_at}
use Rattle.object_view.specs.Values.{number_at, number_of}

mapped-same : (f g : ℕ → ℕ) (k n : ℕ) → ((i : ℕ) → k ≤ i → i < k + n → f i ≡ g i) → map f (numbers_from k n) ≡ map g (numbers_from k n)
mapped-same f g k zero same = refl
mapped-same f g k (suc n) same =
    let rest = mapped-same f g (k + 1) n (λ i low high. same i (omega arith) (omega arith)) in
    ap (λ x. x ∷ map f (numbers_from (k + 1) n)) (same k (omega arith) (omega arith)) ∙ ap (λ xs. g k ∷ xs) rest

-- the same bytes elsewhere
pub bytes_at-same : (v w : View) (a b n : ℕ) → ((i : ℕ) → i < n → w.byte (b + i) ≡ v.byte (a + i)) → bytes_at w b n ≡ bytes_at v a n
bytes_at-same v w a b n same = mapped-same (λ i. w.byte (b + i)) (λ i. v.byte (a + i)) 0 n (λ i low high. same i (omega arith))

mapped-nth : (f : ℕ → ℕ) (k n i : ℕ) → i < n → get_or (map f (numbers_from k n)) i 0 ≡ f (k + i)
mapped-nth f k zero i below = absurd (omega arith)
mapped-nth f k (suc n) zero below = ap f (omega arith)
mapped-nth f k (suc n) (suc i) below = mapped-nth f (k + 1) n i (omega arith) ∙ ap f (omega arith)

pub bytes_at-nth : (v : View) (a n i : ℕ) → i < n → get_or (bytes_at v a n) i 0 ≡ v.byte (a + i)
bytes_at-nth v a n i below = mapped-nth (λ i. v.byte (a + i)) 0 n i below ∙ ap (λ k. v.byte (a + k)) (omega arith)

-- equal bytes are an equal number
pub number-same : (v w : View) (kind : Kind) (a b : ℕ) → ((i : ℕ) → i < kind_bytes kind → w.byte (b + i) ≡ v.byte (a + i)) → number_at w kind b ≡ number_at v kind a
unfolding u16_at u32_at u64_at
number-same v w Ref a b same = ap (from_le_bytes w32) (bytes_at-same v w a b 4 same)
number-same v w Boolean a b same = ap w.byte (omega arith) ∙ same 0 (omega arith) ∙ ap v.byte (omega arith)
number-same v w Byte a b same = ap w.byte (omega arith) ∙ same 0 (omega arith) ∙ ap v.byte (omega arith)
number-same v w Char a b same = ap (from_le_bytes w16) (bytes_at-same v w a b 2 same)
number-same v w Short a b same = ap (from_le_bytes w16) (bytes_at-same v w a b 2 same)
number-same v w Int a b same = ap (from_le_bytes w32) (bytes_at-same v w a b 4 same)
number-same v w Long a b same = ap (from_le_bytes w64) (bytes_at-same v w a b 8 same)

-- a view in which each byte is 0
abbrev zeros : View
zeros = record { byte = λ at. 0; mapped = λ at. true }

zero-number : (kind : Kind) → number_at zeros kind 0 ≡ number_of kind (pos 0)
unfolding u16_at u32_at u64_at
zero-number Ref = refl
zero-number Boolean = refl
zero-number Byte = refl
zero-number Char = refl
zero-number Short = refl
zero-number Int = refl
zero-number Long = refl

-- where each byte is 0 the number is
pub number-zero : (v : View) (kind : Kind) (a : ℕ) → ((i : ℕ) → i < kind_bytes kind → v.byte (a + i) ≡ 0) → number_at v kind a ≡ number_of kind (pos 0)
number-zero v kind a none = number-same zeros v kind 0 a none ∙ zero-number kind

-- a byte of eight that were written
byte-of : (v : View) (a n i : ℕ) → i < 8 → bytes_at v a 8 ≡ to_le_bytes w64 n → v.byte (a + i) ≡ get_or (to_le_bytes w64 n) i 0
byte-of v a n i below is = sym (bytes_at-nth v a 8 i below) ∙ ap (λ (bs : List ℕ). get_or bs i 0) is

four-bytes : (v : View) (a n : ℕ) → n < 2 ^ 32 → v.byte (a + 0) ≡ get_or (to_le_bytes w32 n) 0 0 → v.byte (a + 1) ≡ get_or (to_le_bytes w32 n) 1 0
    → v.byte (a + 2) ≡ get_or (to_le_bytes w32 n) 2 0 → v.byte (a + 3) ≡ get_or (to_le_bytes w32 n) 3 0 → u32_at v a ≡ n
unfolding u32_at
four-bytes v a n small b0 b1 b2 b3 =
    let e : bytes_at v a 4 ≡ to_le_bytes w32 n = rw (b0, b1, b2, b3) refl in
    ap (from_le_bytes w32) e ∙ from_le_bytes-to_le_bytes_4 n small

-- two words that were written as one
pub two-words : (v : View) (a low high : ℕ) → low < 2 ^ 32 → high < 2 ^ 32 → bytes_at v a 8 ≡ to_le_bytes w64 (low + high * 2 ^ 32) → (u32_at v a ≡ low) × (u32_at v (a + 4) ≡ high)
two-words v a low high small_low small_high is =
    let b : (i : ℕ) → i < 8 → v.byte (a + i) ≡ get_or (to_le_bytes w64 (low + high * 2 ^ 32)) i 0 = λ i below. byte-of v a (low + high * 2 ^ 32) i below is in
    let c : (i : ℕ) → i < 4 → v.byte (a + 4 + i) ≡ get_or (to_le_bytes w64 (low + high * 2 ^ 32)) (4 + i) 0 =
    λ i below. ap v.byte (let e : a + 4 + i ≡ a + (4 + i) = omega arith in e) ∙ b (4 + i) (omega arith) in (
      four-bytes v a low small_low (b 0 (omega arith) ∙ omega arith) (b 1 (omega arith) ∙ omega arith) (b 2 (omega arith) ∙ omega arith) (b 3 (omega arith) ∙ omega arith),
      four-bytes v (a + 4) high small_high (c 0 (omega arith) ∙ omega arith) (c 1 (omega arith) ∙ omega arith) (c 2 (omega arith) ∙ omega arith) (c 3 (omega arith) ∙ omega arith),
    )

-- the bytes of a small number that was written in eight
pub one-word : (v : View) (a n : ℕ) → n < 2 ^ 32 → bytes_at v a 8 ≡ to_le_bytes w64 n → (u32_at v a ≡ n) × ((i : ℕ) → 4 ≤ i → i < 8 → v.byte (a + i) ≡ 0)
one-word v a n small is =
    let whole : bytes_at v a 8 ≡ to_le_bytes w64 (n + 0 * 2 ^ 32) = is ∙ ap (to_le_bytes w64) (omega arith) in
    ((two-words v a n 0 small (omega arith) whole).0, λ i low below. byte-of v a n i below is ∙ high i low below)
  where
    high : (i : ℕ) → 4 ≤ i → i < 8 → get_or (to_le_bytes w64 n) i 0 ≡ 0
    high zero low below = absurd (omega arith)
    high (suc zero) low below = absurd (omega arith)
    high (suc (suc zero)) low below = absurd (omega arith)
    high (suc (suc (suc zero))) low below = absurd (omega arith)
    high (suc (suc (suc (suc zero)))) low below = omega arith
    high (suc (suc (suc (suc (suc zero))))) low below = omega arith
    high (suc (suc (suc (suc (suc (suc zero)))))) low below = omega arith
    high (suc (suc (suc (suc (suc (suc (suc zero))))))) low below = omega arith
    high (suc (suc (suc (suc (suc (suc (suc (suc i)))))))) low below = absurd (omega arith)
