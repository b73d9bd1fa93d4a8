-- Paths, and how far nodes are from the roots.
use Rattle.std.proofs.Common.{◌≡◌, ℕ, zero, suc, ◌+◌, ◌<◌, ◌≤◌, Bool, true, false, cond, ◌&&◌, ◌||◌, ◌⊎◌, inl, inr, not, nat_eq, List, [], ◌∷◌, ◌++◌, length, Option, None, Some, is_some, option_map, refl, ap, sym, ◌∙◌, arith, subst, length-append}
use Rattle.std.specs.Prelude.{count_by, unwrap_or}
use Rattle.std.specs.List.{list_any, range_with_len}
use Rattle.std.specs.Option.{option_or}
use Rattle.std.proofs.lemmas.Bool.{and_from, and_parts, both_ways, cases_eq, cases_lt, eq-eqb, eqb-true, or_parts}
use Rattle.std.proofs.lemmas.List.FromFn.{length-range_with_len}
use Rattle.std.proofs.lemmas.List.Sums.{count_by-le-length, sum_by-cons}
use Rattle.dump_graph.specs.Graph.{Node, LeadsWithin}
use Rattle.root_paths.specs.Paths.{numbers, is_root, has_edge, Follows, IsPath, ends_with, dist, is_at, before, way}
use Rattle.root_paths.specs.Levels.{dist_within}
use Rattle.root_paths.specs.Shortest.{last, EndsWith}
use Rattle.root_paths.proofs.Finding.{Finds, find-some, find-upto}
use Rattle.root_paths.proofs.Ends.{any-filter-range, element-from, element-to, ends-from, ends-root, ends-to, none-farther, past-map, within-finds, within-is-dist, within-more}

-- roots are nodes, and so is each node that has an edge
pub root-within : (g : List Node) (n : ℕ) → is_root g n ≡ true → n < length g
root-within g n is =
    elim (cases_lt n (length g)) [
      | inl lt ↦ lt
      | inr ge ↦ absurd (both_ways (is_root g n) (past-map (λ (x : Node). x.is_root) g n false ge) is)
    ]

pub source-within : (g : List Node) (m n : ℕ) → has_edge g m n ≡ true → m < length g
source-within g m n edge =
    elim (cases_lt m (length g)) [
      | inl lt ↦ lt
      | inr ge ↦ absurd (both_ways (has_edge g m n) (ap (list_any (nat_eq n)) (past-map (λ (x : Node). x.targets) g m [] ge)) edge)
    ]

root-ends : (g : List Node) (n : ℕ) → is_root g n ≡ true → ends_with g n 0 ≡ true
root-ends g n is = ends-root g n (root-within g n is) ∙ is

-- a path ends with its last node, by as many edges as nodes follow its root
follows-ends : (g : List Node) (m k : ℕ) (ns : List ℕ) → ends_with g m k ≡ true → Follows g m ns → ends_with g (last m ns) (k + length ns) ≡ true
follows-ends g m k [] is f = let e : k ≡ k + 0 = omega arith in subst (λ j. ends_with g m j ≡ true) e is
follows-ends g m k (n ∷ ns) is f =
    let e : suc k + length ns ≡ k + suc (length ns) = omega arith in
    subst (λ j. ends_with g (last n ns) j ≡ true) e (follows-ends g n (suc k) ns (ends-to g m n k is f.0) f.1)

pub path-ends : (g : List Node) (n m : ℕ) (ns : List ℕ) → IsPath g (m ∷ ns) → last m ns ≡ n → ends_with g n (length ns) ≡ true
path-ends g n m ns p is =
    let e : 0 + length ns ≡ length ns = omega arith in
    subst (λ x. ends_with g x (length ns) ≡ true) is (subst (λ j. ends_with g (last m ns) j ≡ true) e (follows-ends g m 0 ns (root-ends g m p.0) p.1))

-- no path is shorter than the distance
pub path-longer : (g : List Node) (n k : ℕ) (p : List ℕ) → dist g n ≡ Some k → IsPath g p → EndsWith n p → k + 1 ≤ length p
path-longer g n k [] is path end = absurd path
path-longer g n k (m ∷ ms) is path end =
    elim (cases_lt (length ms) k) [
      | inl less ↦ absurd (both_ways (ends_with g n (length ms)) ((find-some (ends_with g n) (length g) 0 k is).first (length ms) (omega arith) less) (path-ends g n m ms path end))
      | inr ge ↦ omega arith
    ]

-- the node before a node above distance 0
dist-before : (g : List Node) (n k : ℕ) → dist g n ≡ Some (suc k) → (m : ℕ) × ((before g k n ≡ Some m) × ((dist g m ≡ Some k) × (has_edge g m n ≡ true)))
dist-before g n k is = found (ends-from g n k f.passes)
  where
    f : Finds (ends_with g n) 0 (length g) (suc k)
    f = find-some (ends_with g n) (length g) 0 (suc k) is

    test : ℕ → Bool
    test m = is_at k (dist g m) && has_edge g m n

    at : (m e : ℕ) → has_edge g m n ≡ true → dist g m ≡ Some e → e ≤ k → is_at k (dist g m) ≡ true
    at m e edge d le =
        elim (cases_eq k e) [
          | inl same ↦ ap (is_at k) d ∙ eq-eqb k e same
          | inr ne ↦ absurd (both_ways (ends_with g n (suc e)) (f.first (suc e) (omega arith) (omega arith)) (ends-to g m n e (find-some (ends_with g m) (length g) 0 e d).passes edge))
        ]

    dist-at : (o : Option ℕ) (m : ℕ) → dist g m ≡ o → is_at k o ≡ true → dist g m ≡ Some k
    dist-at None m e t = absurd cc
    dist-at (Some j) m e t = e ∙ ap (λ (x : ℕ). Some x) (sym (eqb-true k j t))

    found : (m : ℕ) × ((ends_with g m k ≡ true) × (has_edge g m n ≡ true)) → (m : ℕ) × ((before g k n ≡ Some m) × ((dist g m ≡ Some k) × (has_edge g m n ≡ true)))
    found r =
        let d = find-upto (ends_with g r.0) (length g) 0 k r.1.0 (omega arith) (omega (arith, f.below)) in
        let t = and_from (is_at k (dist g r.0)) (has_edge g r.0 n) (at r.0 d.0 r.1.1 d.1.0 d.1.1) r.1.1 in
        let b = find-upto (λ m. is_at k (dist g m) && has_edge g m n) (length g) 0 r.0 t (omega arith) (omega (arith, source-within g r.0 n r.1.1)) in
        let both = and_parts (is_at k (dist g b.0)) (has_edge g b.0 n) (find-some (λ m. is_at k (dist g m) && has_edge g m n) (length g) 0 b.0 b.1.0).passes in
        (b.0, (b.1.0, (dist-at (dist g b.0) b.0 refl both.0, both.1)))

-- a path goes on by an edge
follows-push : (g : List Node) (m n : ℕ) (ms : List ℕ) → Follows g m ms → has_edge g (last m ms) n ≡ true → Follows g m (ms ++ n ∷ [])
follows-push g m n [] f edge = (edge, tt)
follows-push g m n (x ∷ xs) f edge = (f.0, follows-push g x n xs f.1 edge)

last-push : (m n : ℕ) (ms : List ℕ) → last m (ms ++ n ∷ []) ≡ n
last-push m n [] = refl
last-push m n (x ∷ xs) = last-push x n xs

path-push : (g : List Node) (m n : ℕ) (p : List ℕ) → IsPath g p → EndsWith m p → has_edge g m n ≡ true → IsPath g (p ++ n ∷ []) × EndsWith n (p ++ n ∷ [])
path-push g m n [] path end edge = absurd path
path-push g m n (x ∷ xs) path end edge = ((path.0, follows-push g x n xs path.1 (subst (λ y. has_edge g y n ≡ true) (sym end) edge)), last-push x n xs)

-- the way to a node is a path that ends with it, of as many edges as its distance
pub way-is-path : (g : List Node) (k n : ℕ) → dist g n ≡ Some k → IsPath g (way g k n) × EndsWith n (way g k n) × (length (way g k n) ≡ k + 1)
way-is-path g zero n is =
    ((((any-filter-range (is_root g) n (length g) 0 (find-some (ends_with g n) (length g) 0 0 is).passes).1, tt), refl, refl))
way-is-path g (suc k) n is =
    let b = dist-before g n k is in
    let w = way-is-path g k b.0 b.1.1.0 in
    let p = path-push g b.0 n (way g k b.0) w.0 w.1 b.1.1.1 in
    let e : way g k b.0 ++ n ∷ [] ≡ way g (suc k) n = ap (λ (o : Option ℕ). unwrap_or (option_map (way g k) o) [] ++ n ∷ []) (sym b.1.0) in
    let long : length (way g k b.0 ++ n ∷ []) ≡ suc k + 1 = length-append (way g k b.0) (n ∷ []) ∙ long-by (length (way g k b.0)) w.2 in
    (subst (IsPath g) e p.0, subst (EndsWith n) e p.1, subst (λ (l : List ℕ). length l ≡ suc k + 1) e long)
  where
    long-by : (l : ℕ) → l ≡ k + 1 → l + length (n ∷ []) ≡ suc k + 1
    long-by l e = omega arith

-- roots have distance 0
pub root-dist : (g : List Node) (n : ℕ) → is_root g n ≡ true → dist g n ≡ Some 0
root-dist g n is =
    let d = find-upto (ends_with g n) (length g) 0 0 (root-ends g n is) (omega arith) (omega (arith, root-within g n is)) in
    let e : d.0 ≡ 0 = omega (arith, d.1.1) in
    d.1.0 ∙ ap (λ (x : ℕ). Some x) e

abbrev weight : Bool → ℕ
weight b = cond b 1 0

-- more elements pass a weaker test
count-more : (p q : ℕ → Bool) → ((m : ℕ) → p m ≡ true → q m ≡ true) → (xs : List ℕ) → count_by p xs + cond (list_any (λ m. q m && not (p m)) xs) 1 0 ≤ count_by q xs
count-more p q weaker [] = omega arith
count-more p q weaker (x ∷ xs) = by (count-more p q weaker xs) (p x) refl (q x) refl
  where
    tested : (a : Bool) → p x ≡ a → (b : Bool) → q x ≡ b → weight (list_any (λ m. q m && not (p m)) (x ∷ xs)) ≡ weight ((b && not a) || list_any (λ m. q m && not (p m)) xs)
    tested a pa b qb = ap (λ t. weight ((t && not (p x)) || list_any (λ m. q m && not (p m)) xs)) qb ∙ ap (λ t. weight ((b && not t) || list_any (λ m. q m && not (p m)) xs)) pa

    by : count_by p xs + cond (list_any (λ m. q m && not (p m)) xs) 1 0 ≤ count_by q xs → (a : Bool) → p x ≡ a → (b : Bool) → q x ≡ b
        → count_by p (x ∷ xs) + cond (list_any (λ m. q m && not (p m)) (x ∷ xs)) 1 0 ≤ count_by q (x ∷ xs)
    by rest true pa false qb = absurd (both_ways (q x) qb (weaker x pa))
    by rest true pa true qb = omega (arith, rest, sum_by-cons (λ m. cond (p m) 1 0) x xs, sum_by-cons (λ m. cond (q m) 1 0) x xs, ap weight pa, ap weight qb, tested true pa true qb)
    by rest false pa true qb = omega (arith, rest, sum_by-cons (λ m. cond (p m) 1 0) x xs, sum_by-cons (λ m. cond (q m) 1 0) x xs, ap weight pa, ap weight qb, tested false pa true qb)
    by rest false pa false qb = omega (arith, rest, sum_by-cons (λ m. cond (p m) 1 0) x xs, sum_by-cons (λ m. cond (q m) 1 0) x xs, ap weight pa, ap weight qb, tested false pa false qb)

-- a distance up to the number of nodes at which no node is
none-at : (g : List Node) (d : ℕ) → list_any (λ m. is_at d (dist_within g d m)) (numbers g) ≡ false → (m : ℕ) → m < length g → is_at d (dist_within g d m) ≡ false
none-at g d none m lt = each (length g) 0 none (omega arith) (omega arith)
  where
    each : (n a : ℕ) → list_any (λ x. is_at d (dist_within g d x)) (range_with_len a n) ≡ false → a ≤ m → m < a + n → is_at d (dist_within g d m) ≡ false
    each zero a nowhere ge less = absurd (omega arith)
    each (suc n) a nowhere ge less =
        let both = or_parts (is_at d (dist_within g d a)) (list_any (λ x. is_at d (dist_within g d x)) (range_with_len (a + 1) n)) nowhere in
        elim (cases_eq a m) [
          | inl e ↦ subst (λ x. is_at d (dist_within g d x) ≡ false) e both.0
          | inr ne ↦ each n (a + 1) both.1 (omega arith) (omega arith)
        ]

abbrev IsEmptyUpto : List Node → ℕ → Type 0
IsEmptyUpto g d = (e : ℕ) × ((e ≤ d) × ((m : ℕ) → m < length g → is_at e (dist_within g e m) ≡ false))

-- one more node is within the limit where one is at it
within-counts : (g : List Node) (d : ℕ) → list_any (λ m. is_at (suc d) (dist_within g (suc d) m)) (numbers g) ≡ true
    → count_by (λ m. is_some (dist_within g d m)) (numbers g) + 1 ≤ count_by (λ m. is_some (dist_within g (suc d) m)) (numbers g)
within-counts g d at-one =
    let r = element-from (λ m. is_at (suc d) (dist_within g (suc d) m)) (numbers g) at-one in
    let t = element-to (λ m. is_some (dist_within g (suc d) m) && not (is_some (dist_within g d m))) r.0 (numbers g) r.1.0 (new r.0 (dist_within g d r.0) refl (dist_within g (suc d) r.0) refl r.1.1) in
    let more = count-more (λ m. is_some (dist_within g d m)) (λ m. is_some (dist_within g (suc d) m)) weaker (numbers g) in
    omega (arith, more, ap weight t)
  where
    keeps : (o u : Option ℕ) → is_some o ≡ true → is_some (option_or o u) ≡ true
    keeps None u is = absurd cc
    keeps (Some k) u is = refl

    weaker : (m : ℕ) → is_some (dist_within g d m) ≡ true → is_some (dist_within g (suc d) m) ≡ true
    weaker m is = ap (λ (o : Option ℕ). is_some o) (within-more g d m) ∙ keeps (dist_within g d m) (cond (ends_with g m (suc d)) (Some (suc d)) None) is

    new : (m : ℕ) (o : Option ℕ) → dist_within g d m ≡ o → (u : Option ℕ) → dist_within g (suc d) m ≡ u → is_at (suc d) u ≡ true → (is_some (dist_within g (suc d) m) && not (is_some (dist_within g d m))) ≡ true
    new m o old None now at = absurd cc
    new m None old (Some k) now at = ap (λ (x : Option ℕ). is_some x && not (is_some (dist_within g d m))) now ∙ ap (λ (x : Option ℕ). not (is_some x)) old
    new m (Some j) old (Some k) now at =
        let same : Some k ≡ Some j = sym now ∙ (within-more g d m ∙ ap (λ (x : Option ℕ). option_or x (cond (ends_with g m (suc d)) (Some (suc d)) None)) old) in
        let equal : k ≡ j = cc in
        let is : suc d ≡ k = eqb-true (suc d) k at in
        absurd (omega (arith, (within-finds g d m j old).below))

-- one is within the limit 0 where one is at it
first-counts : (g : List Node) → list_any (λ m. is_at 0 (dist_within g 0 m)) (numbers g) ≡ true → 1 ≤ count_by (λ m. is_some (dist_within g 0 m)) (numbers g)
first-counts g at-one =
    let r = element-from (λ m. is_at 0 (dist_within g 0 m)) (numbers g) at-one in
    let t = element-to (λ m. is_some (dist_within g 0 m) && not false) r.0 (numbers g) r.1.0 (some (dist_within g 0 r.0) r.1.1) in
    let more = count-more (λ m. false) (λ m. is_some (dist_within g 0 m)) (λ m never. absurd cc) (numbers g) in
    omega (arith, more, ap weight t)
  where
    some : (o : Option ℕ) → is_at 0 o ≡ true → (is_some o && not false) ≡ true
    some None t = absurd cc
    some (Some k) t = refl

empty-or-more : (g : List Node) (d : ℕ) → IsEmptyUpto g d ⊎ (d + 1 ≤ count_by (λ m. is_some (dist_within g d m)) (numbers g))
empty-or-more g zero = by (list_any (λ m. is_at 0 (dist_within g 0 m)) (numbers g)) refl
  where
    by : (b : Bool) → list_any (λ m. is_at 0 (dist_within g 0 m)) (numbers g) ≡ b → IsEmptyUpto g 0 ⊎ (0 + 1 ≤ count_by (λ m. is_some (dist_within g 0 m)) (numbers g))
    by false nowhere = inl (0, (omega arith, none-at g 0 nowhere))
    by true at-one = inr (omega (arith, first-counts g at-one))
empty-or-more g (suc d) = by (empty-or-more g d) (list_any (λ m. is_at (suc d) (dist_within g (suc d) m)) (numbers g)) refl
  where
    by : IsEmptyUpto g d ⊎ (d + 1 ≤ count_by (λ m. is_some (dist_within g d m)) (numbers g)) → (b : Bool) → list_any (λ m. is_at (suc d) (dist_within g (suc d) m)) (numbers g) ≡ b
        → IsEmptyUpto g (suc d) ⊎ (suc d + 1 ≤ count_by (λ m. is_some (dist_within g (suc d) m)) (numbers g))
    by (inl e) b is = inl (e.0, (omega (arith, e.1.0), e.1.1))
    by (inr more) false nowhere = inl (suc d, (omega arith, none-at g (suc d) nowhere))
    by (inr more) true at-one = inr (omega (arith, more, within-counts g d at-one))

pub empty-level : (g : List Node) → IsEmptyUpto g (length g)
empty-level g =
    elim (empty-or-more g (length g)) [
      | inl e ↦ e
      | inr more ↦ absurd (omega (arith, more, count_by-le-length (λ m. is_some (dist_within g (length g) m)) (numbers g), length-range_with_len 0 (length g)))
    ]

-- where a path ends with a node, the node has a distance, which isn't greater than the path's length
pub ends-dist : (g : List Node) → LeadsWithin g → (n k : ℕ) → ends_with g n k ≡ true → (e : ℕ) × ((dist g n ≡ Some e) × (e ≤ k))
ends-dist g lead n k is =
    let empty = empty-level g in
    let far = none-farther g empty.0 lead empty.1.1 k n is in
    let d = sym (within-is-dist g empty.0 lead empty.1.0 empty.1.1 n) ∙ far.1.0 in (
      far.0,
      (
        d,
        elim (cases_lt k far.0) [
          | inl less ↦ absurd (both_ways (ends_with g n k) ((find-some (ends_with g n) (length g) 0 far.0 d).first k (omega arith) less) is)
          | inr ge ↦ ge
        ],
      ),
    )

-- where a node has no distance, no path ends with it
pub no-path : (g : List Node) → LeadsWithin g → (n : ℕ) (p : List ℕ) → dist g n ≡ None → IsPath g p → EndsWith n p → ⊥
no-path g lead n [] none path end = absurd path
no-path g lead n (m ∷ ms) none path end =
    let d = ends-dist g lead n (length ms) (path-ends g n m ms path end) in
    let f : Some d.0 ≡ None = sym d.1.0 ∙ none in
    absurd cc

-- an edge leads at most one farther
pub edge-near : (g : List Node) → LeadsWithin g → (m n d : ℕ) → dist g m ≡ Some d → has_edge g m n ≡ true → (e : ℕ) × ((dist g n ≡ Some e) × (e ≤ d + 1))
edge-near g lead m n d is edge =
    let r = ends-dist g lead n (suc d) (ends-to g m n d (find-some (ends_with g m) (length g) 0 d is).passes edge) in
    (r.0, (r.1.0, omega (arith, r.1.1)))
