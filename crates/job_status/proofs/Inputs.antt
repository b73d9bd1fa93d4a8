-- What a source gave, and what it has left.
use Rattle.std.proofs.Common.{◌≡◌, ℕ, ◌<◌, ◌≤◌, List, [], ◌++◌, Option, None, Some, length, length-append, sym, ◌∙◌, ap, arith}
use Rattle.std.specs.Prelude.{IfSome, ◌↔◌}
use Rattle.ah_outside.specs.Outside.{Gave}
use Rattle.model_numbers.specs.Numbers.{input_limit}
use Rattle.job_status.specs.Inputs.{HasFewLeft, NothingLeft}

-- nothing was given, and so nothing is left
pub nothing_given : (n : ℕ) (bytes : List ℕ) (old new : Option (List ℕ)) → Gave old bytes new → IfSome old (λ rest. (n ≡ 0) ↔ (rest ≡ [])) → n ≡ 0 → bytes ≡ [] → NothingLeft new
nothing_given n bytes old None gave end none empty = tt
nothing_given n bytes None (Some rest) gave end none empty = absurd (cc (gave))
nothing_given n bytes (Some all) (Some rest) gave end none empty =
    let is : all ≡ bytes ++ rest = cc (gave) in
    ap (λ (xs : List ℕ). xs ++ rest) (sym empty) ∙ (sym is ∙ end.0 none)

few_length : (bytes rest text : List ℕ) → text ≡ bytes ++ rest → length text ≤ input_limit → input_limit < length bytes → ⊥
few_length bytes rest text is few many = omega (arith, ap length is, length-append bytes rest, few, many)

-- no source that has few bytes left gives too many
pub few_given : (left left' : Option (List ℕ)) (bytes : List ℕ) → HasFewLeft left → Gave left bytes left' → input_limit < length bytes → ⊥
few_given None left' bytes few gave many = absurd few
few_given (Some text) None bytes few gave many = absurd (cc (gave))
few_given (Some text) (Some rest) bytes few gave many = let is : text ≡ bytes ++ rest = cc (gave) in few_length bytes rest text is few many
