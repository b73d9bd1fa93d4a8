-- Where paths end, and how far nodes are from the roots.
use Rattle.std.proofs.Common.{◌≡◌, ◌≢◌, ℕ, zero, suc, ◌+◌, ◌<◌, ◌≤◌, Bool, true, false, cond, ◌||◌, inl, inr, nat_eq, List, [], ◌∷◌, map, length, get_or, Option, None, Some, refl, ap, sym, ◌∙◌, arith, subst}
use Rattle.std.specs.Prelude.{filter, All}
use Rattle.std.specs.List.{flat_map, list_any, range_with_len}
use Rattle.std.specs.Option.{option_or}
use Rattle.std.proofs.lemmas.Bool.{both_ways, cases_eq, cases_lt, eq-eqb, eqb-true, or_cases, or_left, or_right}
use Rattle.std.proofs.lemmas.List.{get_or-map}
use Rattle.std.proofs.lemmas.List.Elements.{All-head, All-tail, All-get_or}
use Rattle.std.proofs.lemmas.List.Folds.{list_any-append}
use Rattle.dump_graph.specs.Graph.{Node, LeadsWithin}
use Rattle.root_paths.specs.Paths.{is_root, targets, has_edge, ends, ends_with, dist, is_at}
use Rattle.root_paths.specs.Levels.{dist_within}
use Rattle.root_paths.proofs.Finding.{Finds, find-is, find-more, find-none-is, find-some, find-upto, is_at-found}

-- what passes is an element
pub element-from : (p : ℕ → Bool) (xs : List ℕ) → list_any p xs ≡ true → (m : ℕ) × ((list_any (nat_eq m) xs ≡ true) × (p m ≡ true))
element-from p [] any = absurd cc
element-from p (x ∷ xs) any =
    elim (or_cases (p x) (list_any p xs) any) [
      | inl t ↦ (x, (or_left (nat_eq x x) (list_any (nat_eq x) xs) (eq-eqb x x refl), t))
      | inr t ↦ (let r = element-from p xs t in (r.0, (or_right (nat_eq r.0 x) (list_any (nat_eq r.0) xs) r.1.0, r.1.1)))
    ]

pub element-to : (p : ℕ → Bool) (m : ℕ) (xs : List ℕ) → list_any (nat_eq m) xs ≡ true → p m ≡ true → list_any p xs ≡ true
element-to p m [] is t = absurd cc
element-to p m (x ∷ xs) is t =
    elim (or_cases (nat_eq m x) (list_any (nat_eq m) xs) is) [
      | inl e ↦ or_left (p x) (list_any p xs) (subst (λ y. p y ≡ true) (eqb-true m x e) t)
      | inr rest ↦ or_right (p x) (list_any p xs) (element-to p m xs rest t)
    ]

pub element-all : (P : ℕ → Type 0) (m : ℕ) (xs : List ℕ) → All P xs → list_any (nat_eq m) xs ≡ true → P m
element-all P m [] all is = absurd cc
element-all P m (x ∷ xs) all is =
    elim (or_cases (nat_eq m x) (list_any (nat_eq m) xs) is) [
      | inl e ↦ subst P (sym (eqb-true m x e)) (All-head P x xs all)
      | inr rest ↦ element-all P m xs (All-tail P x xs all) rest
    ]

pub any-flat_map : (p : ℕ → Bool) (f : ℕ → List ℕ) (xs : List ℕ) → list_any p (flat_map f xs) ≡ list_any (λ m. list_any p (f m)) xs
any-flat_map p f [] = refl
any-flat_map p f (x ∷ xs) = list_any-append p (f x) (flat_map f xs) ∙ ap (λ b. list_any p (f x) || b) (any-flat_map p f xs)

-- a path of one edge more comes from the end of one
pub ends-from : (g : List Node) (n k : ℕ) → ends_with g n (suc k) ≡ true → (m : ℕ) × ((ends_with g m k ≡ true) × (has_edge g m n ≡ true))
ends-from g n k is = element-from (λ m. has_edge g m n) (ends g k) (sym (any-flat_map (nat_eq n) (targets g) (ends g k)) ∙ is)

pub ends-to : (g : List Node) (m n k : ℕ) → ends_with g m k ≡ true → has_edge g m n ≡ true → ends_with g n (suc k) ≡ true
ends-to g m n k is edge = any-flat_map (nat_eq n) (targets g) (ends g k) ∙ element-to (λ x. has_edge g x n) m (ends g k) is edge

-- edges lead to nodes, and paths end with nodes
pub targets-at : (g : List Node) (m : ℕ) (d : Node) → m < length g → targets g m ≡ (get_or g m d).targets
targets-at g m d lt = get_or-map (λ (x : Node). x.targets) g m d [] lt

pub past-map : {X Y : Type 0} (f : X → Y) (xs : List X) (i : ℕ) (e : Y) → length xs ≤ i → get_or (map f xs) i e ≡ e
past-map f [] i e le = refl
past-map f (x ∷ xs) zero e le = absurd (omega arith)
past-map f (x ∷ xs) (suc i) e le = past-map f xs i e (omega arith)

pub targets-within : (g : List Node) (m : ℕ) → LeadsWithin g → All (λ t. t < length g) (targets g m)
targets-within g m lead =
    elim (cases_lt m (length g)) [
      | inl lt ↦ inside g lt lead
      | inr ge ↦ subst (All (λ t. t < length g)) (sym (past-map (λ (x : Node). x.targets) g m [] ge)) (λ k d below. absurd (omega arith))
    ]
  where
    inside : (h : List Node) → m < length h → All (λ x. All (λ t. t < length g) x.targets) h → All (λ t. t < length g) (targets h m)
    inside [] lt all = absurd (omega arith)
    inside (x ∷ xs) lt all = subst (All (λ t. t < length g)) (sym (targets-at (x ∷ xs) m x lt)) (All-get_or (λ (y : Node). All (λ t. t < length g) y.targets) (x ∷ xs) m x lt all)

pub edge-within : (g : List Node) (m n : ℕ) → LeadsWithin g → has_edge g m n ≡ true → n < length g
edge-within g m n lead edge = element-all (λ t. t < length g) n (targets g m) (targets-within g m lead) edge

pub any-filter-range : (p : ℕ → Bool) (n len a : ℕ) → list_any (nat_eq n) (filter p (range_with_len a len)) ≡ true → (n < a + len) × (p n ≡ true)
any-filter-range p n zero a is = absurd cc
any-filter-range p n (suc len) a is = by (any-filter-range p n len (a + 1)) (p a) refl is
  where
    by : (list_any (nat_eq n) (filter p (range_with_len (a + 1) len)) ≡ true → (n < (a + 1) + len) × (p n ≡ true)) → (b : Bool) → p a ≡ b
        → list_any (nat_eq n) (cond b (a ∷ filter p (range_with_len (a + 1) len)) (filter p (range_with_len (a + 1) len))) ≡ true → (n < a + suc len) × (p n ≡ true)
    by rest true t any =
        elim (or_cases (nat_eq n a) (list_any (nat_eq n) (filter p (range_with_len (a + 1) len))) any) [
          | inl e ↦ (let same : n ≡ a = eqb-true n a e in (omega arith, subst (λ x. p x ≡ true) (sym same) t))
          | inr more ↦ (let r = rest more in (omega (arith, r.0), r.1))
        ]
    by rest false t any = let r = rest any in (omega (arith, r.0), r.1)

pub any-filter-range-to : (p : ℕ → Bool) (n len a : ℕ) → a ≤ n → n < a + len → p n ≡ true → list_any (nat_eq n) (filter p (range_with_len a len)) ≡ true
any-filter-range-to p n zero a ge lt t = absurd (omega arith)
any-filter-range-to p n (suc len) a ge lt t = by (any-filter-range-to p n len (a + 1)) (p a) refl
  where
    by : (a + 1 ≤ n → n < (a + 1) + len → p n ≡ true → list_any (nat_eq n) (filter p (range_with_len (a + 1) len)) ≡ true) → (b : Bool) → p a ≡ b
        → list_any (nat_eq n) (cond b (a ∷ filter p (range_with_len (a + 1) len)) (filter p (range_with_len (a + 1) len))) ≡ true
    by rest true is =
        elim (cases_eq n a) [
          | inl e ↦ or_left (nat_eq n a) (list_any (nat_eq n) (filter p (range_with_len (a + 1) len))) (eq-eqb n a e)
          | inr ne ↦ or_right (nat_eq n a) (list_any (nat_eq n) (filter p (range_with_len (a + 1) len))) (rest (omega arith) (omega arith) t)
        ]
    by rest false is =
        elim (cases_eq n a) [
          | inl e ↦ absurd (both_ways (p n) (subst (λ x. p x ≡ false) (sym e) is) t)
          | inr ne ↦ rest (omega arith) (omega arith) t
        ]

-- the paths without an edge are those of a root
pub ends-root : (g : List Node) (n : ℕ) → n < length g → ends_with g n 0 ≡ is_root g n
ends-root g n lt = by (is_root g n) refl (ends_with g n 0) refl
  where
    by : (b : Bool) → is_root g n ≡ b → (c : Bool) → ends_with g n 0 ≡ c → c ≡ b
    by true r true e = refl
    by false r false e = refl
    by true r false e = absurd (both_ways (ends_with g n 0) e (any-filter-range-to (is_root g) n (length g) 0 (omega arith) (omega arith) r))
    by false r true e = absurd (both_ways (is_root g n) r (any-filter-range (is_root g) n (length g) 0 e).1)

pub ends-within : (g : List Node) → LeadsWithin g → (k n : ℕ) → ends_with g n k ≡ true → n < length g
ends-within g lead zero n is = omega (arith, (any-filter-range (is_root g) n (length g) 0 is).0)
ends-within g lead (suc k) n is = let r = ends-from g n k is in edge-within g r.0 n lead r.1.1

-- what distances within a limit say
pub within-finds : (g : List Node) (d n k : ℕ) → dist_within g d n ≡ Some k → Finds (ends_with g n) 0 (suc d) k
within-finds g d n k is = find-some (ends_with g n) (suc d) 0 k is

pub within-upto : (g : List Node) (d n k : ℕ) → ends_with g n k ≡ true → k ≤ d → (e : ℕ) × ((dist_within g d n ≡ Some e) × (e ≤ k))
within-upto g d n k is le = find-upto (ends_with g n) (suc d) 0 k is (omega arith) (omega arith)

pub within-more : (g : List Node) (d n : ℕ) → dist_within g (suc d) n ≡ option_or (dist_within g d n) (cond (ends_with g n (suc d)) (Some (suc d)) None)
within-more g d n = find-more (ends_with g n) (suc d) 0 ∙ ap (λ x. option_or (dist_within g d n) (cond (ends_with g n x) (Some x) None)) zero-suc
  where
    zero-suc : 0 + suc d ≡ suc d
    zero-suc = omega arith

-- a node to which one at the limit leads, and which isn't within it, ends a path of one edge more
pub last-leads : (g : List Node) (d m n : ℕ) → is_at d (dist_within g d m) ≡ true → has_edge g m n ≡ true → ends_with g n (suc d) ≡ true
last-leads g d m n at edge = by (dist_within g d m) refl at
  where
    by : (o : Option ℕ) → dist_within g d m ≡ o → is_at d o ≡ true → ends_with g n (suc d) ≡ true
    by None is t = absurd cc
    by (Some e) is t = ends-to g m n d (subst (λ x. ends_with g m x ≡ true) (sym (eqb-true d e t)) (within-finds g d m e is).passes) edge

-- where a path of one edge more ends with a node that isn't within the limit, a node at the limit leads to it
pub led-from-last : (g : List Node) (d n : ℕ) → dist_within g d n ≡ None → ends_with g n (suc d) ≡ true
    → (m : ℕ) × ((ends_with g m d ≡ true) × ((is_at d (dist_within g d m) ≡ true) × (has_edge g m n ≡ true)))
led-from-last g d n none is =
    let r = ends-from g n d is in
    let w = within-upto g d r.0 d r.1.0 (omega arith) in
    (r.0, (r.1.0, (at r.0 w.0 r.1.1 w.1.0 w.1.1, r.1.1)))
  where
    at : (m e : ℕ) → has_edge g m n ≡ true → dist_within g d m ≡ Some e → e ≤ d → is_at d (dist_within g d m) ≡ true
    at m e edge found le =
        elim (cases_eq d e) [
          | inl same ↦ ap (is_at d) found ∙ eq-eqb d e same
          | inr ne ↦ (let longer : ends_with g n (suc e) ≡ true = ends-to g m n e (within-finds g d m e found).passes edge in
              let w = within-upto g d n (suc e) longer (omega arith) in
              let f : Some w.0 ≡ None = sym w.1.0 ∙ none in
              absurd cc)
        ]

-- where no node is at the limit, every path ends with a node within it
pub none-farther : (g : List Node) (d : ℕ) → LeadsWithin g → ((m : ℕ) → m < length g → is_at d (dist_within g d m) ≡ false) → (k n : ℕ) → ends_with g n k ≡ true → (e : ℕ) × ((dist_within g d n ≡ Some e) × (e < d))
none-farther g d lead none k n is = upto k n is
  where
    less : (n k : ℕ) → ends_with g n k ≡ true → k ≤ d → (e : ℕ) × ((dist_within g d n ≡ Some e) × (e < d))
    less n k is le =
        let w = within-upto g d n k is le in
        let ne : d ≢ w.0 = λ same. both_ways (is_at d (dist_within g d n)) (none n (ends-within g lead k n is)) (ap (is_at d) w.1.0 ∙ eq-eqb d w.0 same) in
        (w.0, (w.1.0, omega (arith, w.1.1)))

    upto : (k n : ℕ) → ends_with g n k ≡ true → (e : ℕ) × ((dist_within g d n ≡ Some e) × (e < d))
    upto zero n is = less n 0 is (omega arith)
    upto (suc k) n is =
        let r = ends-from g n k is in
        let w = upto k r.0 r.1.0 in
        less n (suc w.0) (ends-to g r.0 n w.0 (within-finds g d r.0 w.0 w.1.0).passes r.1.1) (omega (arith, w.1.1))

-- then the distances within the limit are the distances
pub within-is-dist : (g : List Node) (d : ℕ) → LeadsWithin g → d ≤ length g → ((m : ℕ) → m < length g → is_at d (dist_within g d m) ≡ false) → (n : ℕ) → dist_within g d n ≡ dist g n
within-is-dist g d lead le none n = by (dist_within g d n) refl
  where
    no : dist_within g d n ≡ None → (k : ℕ) (b : Bool) → ends_with g n k ≡ b → ends_with g n k ≡ false
    no is k false e = e
    no is k true e = let w = none-farther g d lead none k n e in let f : Some w.0 ≡ None = sym w.1.0 ∙ is in absurd cc

    by : (o : Option ℕ) → dist_within g d n ≡ o → o ≡ dist g n
    by None is = sym (find-none-is (ends_with g n) (length g) 0 (λ k ge lt. no is k (ends_with g n k) refl))
    by (Some e) is =
        let f = within-finds g d n e is in
        let w = none-farther g d lead none e n f.passes in
        let lt : e < d = (let same : Some e ≡ Some w.0 = sym is ∙ w.1.0 in let same-number : e ≡ w.0 = cc in omega (arith, w.1.1)) in
        sym (find-is (ends_with g n) (length g) 0 e (record { passes = f.passes; above = f.above; below = omega arith; first = f.first }))

-- below the number of nodes, being at a distance is being at it within any limit from it on
pub at-dist : (g : List Node) (d n : ℕ) → d < length g → is_at d (dist g n) ≡ is_at d (dist_within g d n)
at-dist g d n lt = is_at-found (ends_with g n) (length g) d lt
