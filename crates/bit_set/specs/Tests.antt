-- What a search over a set finds. A set is a test of numbers: its members are the numbers that pass.
use Rattle.std.specs.Prelude.{ℕ, ◌<◌, ◌≤◌, Bool, IsTrue, IsFalse}

-- no number from n on is a member
abbrev pub NoneFrom : (ℕ → Bool) → ℕ → Type 0
NoneFrom has n = (k : ℕ) → n ≤ k → IsFalse (has k)

-- no number below n is a member
abbrev pub NoneBelow : (ℕ → Bool) → ℕ → Type 0
NoneBelow has n = (k : ℕ) → k < n → IsFalse (has k)

-- q is the least member that is at least n
pub record IsLeastFrom (has : ℕ → Bool) (n q : ℕ) : Type 0 where
  pub from : n ≤ q
  pub member : IsTrue (has q)
  pub least : (k : ℕ) → n ≤ k → k < q → IsFalse (has k)

-- q is the greatest member below n
pub record IsGreatestBelow (has : ℕ → Bool) (n q : ℕ) : Type 0 where
  pub below : q < n
  pub member : IsTrue (has q)
  pub greatest : (k : ℕ) → q < k → k < n → IsFalse (has k)
