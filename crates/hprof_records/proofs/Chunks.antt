-- The bytes at a place: how many they are, and that each is a byte.
use Rattle.std.proofs.Common.{◌≡◌, ℕ, zero, suc, ◌+◌, ◌≤◌, ◌<◌, List, [], ◌∷◌, length, get_or, take, drop, arith}
use Rattle.std.proofs.lemmas.List.{length-take, length-drop, get_or-drop}
use Rattle.hprof_records.specs.Fields.{bytes_at}

-- numbers below 256 at each place
abbrev pub AreBytes : List ℕ → Type 0
AreBytes xs = (i : ℕ) → get_or xs i 0 < 256

-- a front of bytes has bytes
pub AreBytes-take : (n : ℕ) (xs : List ℕ) → AreBytes xs → AreBytes (take n xs)
AreBytes-take zero xs h i = omega arith
AreBytes-take (suc n) [] h i = omega arith
AreBytes-take (suc n) (x ∷ xs) h zero = h 0
AreBytes-take (suc n) (x ∷ xs) h (suc i) = AreBytes-take n xs (λ k. h (suc k)) i

-- bytes from a place on are bytes
pub AreBytes-at : (bytes : List ℕ) (at n : ℕ) → AreBytes bytes → AreBytes (bytes_at bytes at n)
AreBytes-at bytes at n h = AreBytes-take n (drop at bytes) (λ i. rw (get_or-drop at bytes i) (h (at + i)))

-- that many bytes stand there
pub length-bytes_at : (bytes : List ℕ) (at n : ℕ) → at + n ≤ length bytes → length (bytes_at bytes at n) ≡ n
length-bytes_at bytes at n h = simp (length-take, length-drop) (omega arith)
