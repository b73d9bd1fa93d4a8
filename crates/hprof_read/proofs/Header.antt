-- The header, piece by piece.
use Rattle.std.proofs.Common.{◌≡◌, ◌≢◌, ℕ, ◌^◌, ◌<◌, Bool, true, false, List, [], ◌∷◌, ◌++◌, length, take, drop, refl, sym, ap, ◌∙◌}
use Rattle.std.specs.Prelude.{nat_eq, ◌&&◌}
use Rattle.std.specs.Int.{w32, from_be_bytes}
use Rattle.std.specs.Cmp.Lexicographic.{pointwise}
use Rattle.std.proofs.lemmas.List.{take-append-drop, take_at}
use Rattle.std.proofs.lemmas.Bool.{eqb-true, eq-eqb}
use Rattle.std.proofs.lemmas.Nat.{from_be_bytes-to_be_bytes_4}
use Rattle.hprof_records.specs.Fields.{field, bytes_at}
use Rattle.hprof_records.specs.Parts.{word}

and_is : (a b : Bool) → (a && b) ≡ true → (a ≡ true) × (b ≡ true)
and_is true b h = (refl, h)
and_is false b h = absurd cc

pub same_cells : (xs ys : List ℕ) → pointwise nat_eq xs ys ≡ true → xs ≡ ys
same_cells [] [] h = refl
same_cells [] (y ∷ ys) h = absurd cc
same_cells (x ∷ xs) [] h = absurd cc
same_cells (x ∷ xs) (y ∷ ys) h =
    let p = and_is (nat_eq x y) (pointwise nat_eq xs ys) h in
    let head = eqb-true _ _ p.0 in
    let tail = same_cells xs ys p.1 in
    cc

pub cells_same : (xs : List ℕ) → pointwise nat_eq xs xs ≡ true
cells_same [] = refl
cells_same (x ∷ xs) = rw (eq-eqb x x refl) (cells_same xs)

-- bytes that begin with a text
pub begins : (text bytes : List ℕ) → pointwise nat_eq (take (length text) bytes) text ≡ true → bytes ≡ text ++ drop (length text) bytes
begins text bytes h = sym (take-append-drop (length text) bytes) ∙ ap (λ (t : List ℕ). t ++ drop (length text) bytes) (same_cells (take (length text) bytes) text h)

pub begins_not : (text bytes rest : List ℕ) → pointwise nat_eq (take (length text) bytes) text ≡ false → bytes ≡ text ++ rest → ⊥
begins_not text bytes rest h e =
    let front : take (length text) bytes ≡ text = ap (take (length text)) e ∙ take_at text rest (length text) refl in
    let yes : pointwise nat_eq (take (length text) bytes) text ≡ true = ap (λ (t : List ℕ). pointwise nat_eq t text) front ∙ cells_same text in
    let both = sym yes ∙ h in
    absurd cc

-- a number at the front
pub front_number : (n x : ℕ) (bytes : List ℕ) → bytes_at bytes 0 n ≡ field n x → bytes ≡ field n x ++ drop n bytes
front_number n x bytes e = sym (take-append-drop n bytes) ∙ ap (λ (t : List ℕ). t ++ drop n bytes) e

pub other_word : (x y : ℕ) → x < 2 ^ 32 → y < 2 ^ 32 → x ≢ y → word x ≢ word y
other_word x y hx hy differ e =
    differ (sym (from_be_bytes-to_be_bytes_4 x hx) ∙ ap (from_be_bytes w32) e ∙ from_be_bytes-to_be_bytes_4 y hy)
