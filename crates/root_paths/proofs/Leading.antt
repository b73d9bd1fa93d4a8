-- Nodes that lead to others, one after another.
use Rattle.std.proofs.Common.{◌≡◌, ℕ, ◌+◌, ◌<◌, Bool, true, false, cond, ◌&&◌, ◌||◌, nat_eq, min, List, [], length, get_or, take, Option, None, Some, is_some, is_none, refl, ap, sym, ◌∙◌, arith}
use Rattle.std.specs.List.{list_any}
use Rattle.std.specs.Option.{option_or}
use Rattle.std.proofs.lemmas.Bool.{eq-eqb, ne_eqb}
use Rattle.std.proofs.lemmas.List.Folds.{list_any_more}
use Rattle.dump_graph.specs.Graph.{Node}
use Rattle.root_paths.specs.Paths.{targets, has_edge}
use Rattle.root_paths.specs.Levels.{IsBelow, Led, MadeLevel, first_of, led_if, reach_by}
use Rattle.root_paths.specs.declared.levels.Reach.{Reach}
use Rattle.root_paths.proofs.Finding.{find-none-is, find-same, find-with, least}

-- no node led yet
pub MadeLevel-none : (g : List Node) (level : ℕ) (reached : List (Option Reach)) → MadeLevel g level [] reached reached []
MadeLevel-none g level reached = record { as_many = refl; reached = λ n. still n; added = λ n. none n; counted = omega arith }
  where
    nothing : (n : ℕ) → first_of g [] n ≡ None
    nothing n = find-none-is (λ m. false && has_edge g m n) (length g) 0 (λ k ge lt. refl)

    same : (r : Option Reach) → r ≡ option_or r None
    same None = refl
    same (Some r) = refl

    and-none : (b : Bool) → false ≡ (b && false)
    and-none true = refl
    and-none false = refl

    still : (n : ℕ) → get_or reached n None ≡ option_or (get_or reached n None) (reach_by level (first_of g [] n))
    still n = same (get_or reached n None) ∙ ap (λ o. option_or (get_or reached n None) (reach_by level o)) (sym (nothing n))

    none : (n : ℕ) → false ≡ (is_none (get_or reached n None) && is_some (first_of g [] n))
    none n = and-none (is_none (get_or reached n None)) ∙ ap (λ (o : Option ℕ). is_none (get_or reached n None) && is_some o) (sym (nothing n))

-- one node more
pub MadeLevel-more : (g : List Node) (level : ℕ) (from : List ℕ) (i x : ℕ) (old new : List (Option Reach)) (next : List ℕ) (new2 : List (Option Reach)) (next2 : List ℕ)
    → IsBelow level old → MadeLevel g level (take i from) old new next → i < length from → x ≡ get_or from i 0 → x < length g
    → Led level x (targets g x) new next new2 next2 → MadeLevel g level (take (i + 1) from) old new2 next2
MadeLevel-more g level from i x old new next new2 next2 below made lt is within more = record {
  as_many = more.as_many ∙ made.as_many;
  reached = reached;
  added = added;
  counted = omega (arith, more.counted, made.counted);
}
  where
    first : (n : ℕ) → first_of g (take (i + 1) from) n ≡ cond (has_edge g x n) (Some (least x (first_of g (take i from) n))) (first_of g (take i from) n)
    first n =
        find-same (λ m. list_any (nat_eq m) (take (i + 1) from) && has_edge g m n) (λ m. (list_any (nat_eq m) (take i from) || nat_eq m x) && has_edge g m n) (length g) 0
        (λ m ge less. ap (λ b. b && has_edge g m n) (list_any_more (nat_eq m) from i 0 lt ∙ ap (λ y. list_any (nat_eq m) (take i from) || nat_eq m y) (sym is)))
        ∙ find-with (λ m. list_any (nat_eq m) (take i from)) (λ m. has_edge g m n) x (length g) 0 (omega arith) (omega arith)

    led-by : (e : Bool) (r : Option Reach) (f : Option ℕ) → ((q : Reach) → r ≡ Some q → q.level < level)
        → led_if e level x (option_or r (reach_by level f)) ≡ option_or r (reach_by level (cond e (Some (least x f)) f))
    led-by false r f low = refl
    led-by true (Some q) f low = ap (λ b. cond b (Some (record { level = level; before = min x q.before })) (Some q)) (ne_eqb q.level level (λ same. omega (arith, low q refl)))
    led-by true None None low = refl
    led-by true None (Some b) low = ap (λ t. cond t (Some (record { level = level; before = min x b })) (Some (record { level = level; before = b }))) (eq-eqb level level refl)

    reached : (n : ℕ) → get_or new2 n None ≡ option_or (get_or old n None) (reach_by level (first_of g (take (i + 1) from) n))
    reached n =
        more.reached n ∙ (ap (led_if (has_edge g x n) level x) (made.reached n)
        ∙ (led-by (has_edge g x n) (get_or old n None) (first_of g (take i from) n) (λ q at. below n q at)
        ∙ ap (λ o. option_or (get_or old n None) (reach_by level o)) (sym (first n))))

    added-by : (e : Bool) (r : Option Reach) (f : Option ℕ) → ((is_none r && is_some f) || (is_none (option_or r (reach_by level f)) && e)) ≡ (is_none r && is_some (cond e (Some (least x f)) f))
    added-by true (Some q) f = refl
    added-by false (Some q) f = refl
    added-by true None None = refl
    added-by false None None = refl
    added-by true None (Some b) = refl
    added-by false None (Some b) = refl

    added : (n : ℕ) → list_any (nat_eq n) next2 ≡ (is_none (get_or old n None) && is_some (first_of g (take (i + 1) from) n))
    added n =
        more.added n
        ∙ (ap (λ b. b || (is_none (get_or new n None) && has_edge g x n)) (made.added n)
        ∙ (ap (λ (r : Option Reach). (is_none (get_or old n None) && is_some (first_of g (take i from) n)) || (is_none r && has_edge g x n)) (made.reached n)
        ∙ (added-by (has_edge g x n) (get_or old n None) (first_of g (take i from) n)
        ∙ ap (λ (o : Option ℕ). is_none (get_or old n None) && is_some o) (sym (first n)))))
