-- What is said of an input.
use Rattle.std.specs.Prelude.{◌≡◌, ◌≤◌, ℕ, List, [], Option, IfSome, IsSomeAnd, length}
use Rattle.model_numbers.specs.Numbers.{input_limit}

-- the source tells what it has left, and that is no longer than an input may be
abbrev pub HasFewLeft : Option (List ℕ) → Type 0
HasFewLeft left = IsSomeAnd left (λ text. length text ≤ input_limit)

-- nothing is left, where the source tells it
abbrev pub NothingLeft : Option (List ℕ) → Type 0
NothingLeft left = IfSome left (λ rest. rest ≡ [])
