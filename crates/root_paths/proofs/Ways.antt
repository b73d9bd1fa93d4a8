-- The path to a node, from the last node back.
use Rattle.std.proofs.Common.{◌≡◌, ℕ, zero, suc, ◌<◌, true, ◌&&◌, List, [], ◌∷◌, ◌++◌, length, get_or, Option, None, Some, option_map, refl, ap, sym, ◌∙◌, arith, subst, append_assoc}
use Rattle.std.specs.Prelude.{All, reverse, unwrap_or}
use Rattle.std.proofs.lemmas.Bool.{and_parts, eqb-true}
use Rattle.std.proofs.lemmas.List.{reverse-append}
use Rattle.std.proofs.lemmas.List.Elements.{All-head, All-push, All-tail}
use Rattle.dump_graph.specs.Graph.{Node}
use Rattle.root_paths.specs.Paths.{has_edge, dist, is_at, before, way}
use Rattle.root_paths.specs.Levels.{IsReachedAt, IsWayBack, before_of, level_of}
use Rattle.root_paths.specs.declared.levels.Reach.{Reach}
use Rattle.root_paths.proofs.Finding.{find-some}

-- the last node of the path
pub way-back-one : (reached : List (Option Reach)) (level n : ℕ) → (g : List Node) × IsReachedAt g reached level n → IsWayBack reached level n level n (n ∷ [])
way-back-one reached level n known = record {
  rest = [];
  behind = refl;
  nodes = λ k d lt. one k d lt;
  reached_at = λ g is. is;
  goes_on = λ g is. all (way g level n);
}
  where
    below : n < length reached
    below = omega (arith, known.1.within, known.1.all.as_many)

    one : (k d : ℕ) → k < length (n ∷ []) → get_or (n ∷ []) k d < length reached
    one zero d lt = below
    one (suc k) d lt = absurd (omega arith)

    all : (xs : List ℕ) → xs ++ [] ≡ xs
    all [] = refl
    all (x ∷ xs) = ap (λ (ys : List ℕ). x ∷ ys) (all xs)

-- the node before a node above level 0
pub before-at : (g : List Node) (reached : List (Option Reach)) (k n : ℕ) → IsReachedAt g reached (suc k) n
    → (before g k n ≡ Some (unwrap_or (before_of (get_or reached n None)) n)) × IsReachedAt g reached k (unwrap_or (before_of (get_or reached n None)) n)
before-at g reached k n is = by (get_or reached n None) refl
  where
    at : (o : Option ℕ) (m : ℕ) → dist g m ≡ o → is_at k o ≡ true → dist g m ≡ Some k
    at None m e t = absurd cc
    at (Some j) m e t = e ∙ ap (λ (x : ℕ). Some x) (sym (eqb-true k j t))

    by : (o : Option Reach) → get_or reached n None ≡ o → (before g k n ≡ Some (unwrap_or (before_of o) n)) × IsReachedAt g reached k (unwrap_or (before_of o) n)
    by None e = let f : None ≡ Some (suc k) = ap level_of (sym e) ∙ (is.all.levels n is.within ∙ is.distance) in absurd cc
    by (Some r) e =
        let first : before g k n ≡ Some r.before = sym (is.all.befores n k is.within is.distance) ∙ ap before_of e in
        let f = find-some (λ m. is_at k (dist g m) && has_edge g m n) (length g) 0 r.before first in
        let both = and_parts (is_at k (dist g r.before)) (has_edge g r.before n) f.passes in
        (first, record { all = is.all; within = omega (arith, f.below); distance = at (dist g r.before) r.before refl both.0 })

-- one node more
pub way-back-more : (reached : List (Option Reach)) (level n left at : ℕ) (back : List ℕ) → (g : List Node) × IsReachedAt g reached level n → IsWayBack reached level n (suc left) at back
    → (m : ℕ) → m ≡ unwrap_or (before_of (get_or reached at None)) at → IsWayBack reached level n left m (back ++ m ∷ [])
way-back-more reached level n left at back known so m is = record {
  rest = at ∷ so.rest;
  behind = reverse-append back (m ∷ []) ∙ ap (λ (ys : List ℕ). m ∷ ys) so.behind;
  nodes = All-push (λ x. x < length reached) back m so.nodes below;
  reached_at = reached_at;
  goes_on = λ g h. goes g h;
}
  where
    reached_at : (g : List Node) → IsReachedAt g reached level n → IsReachedAt g reached left m
    reached_at g h = subst (IsReachedAt g reached left) (sym is) (before-at g reached left at (so.reached_at g h)).1

    below : m < length reached
    below = let r = reached_at known.0 known.1 in omega (arith, r.within, r.all.as_many)

    step : (g : List Node) → IsReachedAt g reached level n → way g (suc left) at ≡ way g left m ++ at ∷ []
    step g h = ap (λ (o : Option ℕ). unwrap_or (option_map (way g left) o) [] ++ at ∷ []) ((before-at g reached left at (so.reached_at g h)).0 ∙ ap (λ (x : ℕ). Some x) (sym is))

    goes : (g : List Node) → IsReachedAt g reached level n → way g left m ++ (at ∷ so.rest) ≡ way g level n
    goes g h = sym (append_assoc (way g left m) (at ∷ []) so.rest) ∙ (ap (λ (ys : List ℕ). ys ++ so.rest) (sym (step g h)) ∙ so.goes_on g h)

-- where no node is left, it is the whole path
pub way-back-all : (reached : List (Option Reach)) (level n at : ℕ) (back : List ℕ) → IsWayBack reached level n 0 at back → (g : List Node) → IsReachedAt g reached level n → reverse back ≡ way g level n
way-back-all reached level n at back so g h = so.behind ∙ so.goes_on g h

pub way-back-at : (reached : List (Option Reach)) (level n left at : ℕ) (back : List ℕ) → (g : List Node) × IsReachedAt g reached level n → IsWayBack reached level n left at back → at < length reached
way-back-at reached level n left at back known so = let r = so.reached_at known.0 known.1 in omega (arith, r.within, r.all.as_many)

-- the nodes of the whole path stay nodes
pub way-back-nodes : (reached : List (Option Reach)) (level n left at : ℕ) (back : List ℕ) → IsWayBack reached level n left at back → All (λ m. m < length reached) (reverse back)
way-back-nodes reached level n left at back so = All-reverse back so.nodes
  where
    All-reverse : (xs : List ℕ) → All (λ m. m < length reached) xs → All (λ m. m < length reached) (reverse xs)
    All-reverse [] all = all
    All-reverse (x ∷ xs) all =
        subst (All (λ m. m < length reached)) (sym (reverse-append (x ∷ []) xs))
        (All-push (λ m. m < length reached) (reverse xs) x (All-reverse xs (All-tail (λ m. m < length reached) x xs all)) (All-head (λ m. m < length reached) x xs all))
