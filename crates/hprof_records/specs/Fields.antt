-- The fields of HPROF: numbers of 1, 2, 4 or 8 bytes.
use Rattle.std.specs.Prelude.{ℕ, List, take, drop}
use Rattle.std.specs.Int.{bytes_high_first}

-- a number as a field of n bytes, the highest first
abbrev pub field : ℕ → ℕ → List ℕ
field n number = bytes_high_first n number

-- the n bytes from a place on
abbrev pub bytes_at : List ℕ → ℕ → ℕ → List ℕ
bytes_at bytes at n = take n (drop at bytes)
