-- Different identifiers have different numbers.
use Rattle.std.proofs.Common.{◌≡◌, ◌≢◌, ℕ, ◌+◌, nat_eq, List, get_or, Option, Some, None, refl, sym, ap, ◌∙◌, arith}
use Rattle.std.specs.Prelude.{position}
use Rattle.dump_graph.proofs.Positions.{equal_from, position-at}
use Rattle.hprof_convert.specs.Names.{number_at, rename}

pub rename-apart : (names : List ℕ) (a b : ℕ) → rename names a ≡ rename names b → rename names a ≢ 0 → a ≡ b
rename-apart names a b same some = by (position (nat_eq a) names) (position (nat_eq b) names) refl refl
  where
    at : (q n : ℕ) → position (nat_eq q) names ≡ Some n → q ≡ get_or names n 0
    at q n is = equal_from q (get_or names n 0) (position-at (nat_eq q) names n 0 is).1

    by : (o p : Option ℕ) → position (nat_eq a) names ≡ o → position (nat_eq b) names ≡ p → a ≡ b
    by None p is also = absurd (some (ap number_at is))
    by (Some m) None is also = let e : m + 1 ≡ 0 = sym (ap number_at is) ∙ (same ∙ ap number_at also) in absurd (omega (arith, e))
    by (Some m) (Some n) is also =
        let e : m + 1 ≡ n + 1 = sym (ap number_at is) ∙ (same ∙ ap number_at also) in
        let k : m ≡ n = omega (arith, e) in
        at a m is ∙ (ap (λ j. get_or names j 0) k ∙ sym (at b n also))
