-- Rounds of reaching: they grow until nothing is added, and they are the ends of paths.
use Rattle.std.proofs.Common.{◌≡◌, ℕ, zero, suc, ◌<◌, ◌≤◌, Bool, true, false, not, ◌||◌, ◌&&◌, ◌⊎◌, ◌↔◌, inl, inr, List, [], ◌∷◌, map, filter, length, nat_eq, refl, sym, ap, ◌∙◌, arith}
use Rattle.std.specs.List.{list_any}
use Rattle.std.proofs.lemmas.Bool.{or_cases, or_left, or_right, and_parts, and_from, eqb-true, eq-eqb, false≢true}
use Rattle.std.proofs.lemmas.List.{length-map}
use Rattle.std.proofs.lemmas.List.Filters.{length-filter_both}
use Rattle.heap_graph.specs.Reach.{Node, is_among, held_by, next_round, round, reached_from}
use Rattle.heap_graph.specs.Paths.{IsNumber, LeadsTo}
use Rattle.heap_graph.proofs.Lists.{Stands, any_at, any-filter, any-flat_map, filters_nested, among-filter, among_filter_at}

-- what the members of a set hold, by a test on the nodes
pub held-is : (vs : List Node) (seen : List ℕ) (n : ℕ) → is_among (held_by vs seen) n ≡ list_any (λ v. is_among seen v.number && is_among v.targets n) vs
held-is vs seen n =
    any-flat_map (λ v. v.targets) (nat_eq n) (filter (λ v. is_among seen v.number) vs)
    ∙ any-filter (λ v. is_among v.targets n) (λ v. is_among seen v.number) vs

-- the member that holds a number
pub held_at : (vs : List Node) (seen : List ℕ) (n : ℕ) → is_among (held_by vs seen) n ≡ true → (v : Node) × (is_among seen v.number ≡ true) × (is_among v.targets n ≡ true) × Stands vs v
held_at vs seen n h =
    let (v, both, stands) = any_at (λ v. is_among seen v.number && is_among v.targets n) vs (sym (held-is vs seen n) ∙ h) in
    let parts = and_parts (is_among seen v.number) (is_among v.targets n) both in
    (v, parts.0, parts.1, stands)

-- what a member holds, the set holds
pub held_from : (vs : List Node) (seen : List ℕ) (n : ℕ) (v : Node) → is_among seen v.number ≡ true → is_among v.targets n ≡ true → Stands vs v → is_among (held_by vs seen) n ≡ true
held_from vs seen n v member holds stands =
    held-is vs seen n ∙ stands (λ v. is_among seen v.number && is_among v.targets n) (and_from _ _ member holds)

-- more members hold no less
held_more : (vs : List Node) (seen more : List ℕ) (n : ℕ) → ((m : ℕ) → is_among seen m ≡ true → is_among more m ≡ true) → is_among (held_by vs seen) n ≡ true → is_among (held_by vs more) n ≡ true
held_more vs seen more n inner h =
    let (v, member, holds, stands) = held_at vs seen n h in
    held_from vs more n v (inner v.number member) holds stands

-- a number is the one member of its list
pub alone : (m : ℕ) → is_among (m ∷ []) m ≡ true
alone m = or_left (nat_eq m m) false (eq-eqb m m refl)

-- and no other number is
pub alone_at : (m k : ℕ) → is_among (m ∷ []) k ≡ true → k ≡ m
alone_at m k h =
    elim (or_cases (nat_eq k m) false h) [
      | inl same ↦ eqb-true k m same
      | inr wrong ↦ absurd (false≢true wrong)
    ]

module _ (vs : List Node) (from : List ℕ) where
  -- why a number is in the next round
  pub next_at : (seen : List ℕ) (n : ℕ) → is_among (next_round vs from seen) n ≡ true → IsNumber vs n × ((is_among from n ≡ true) ⊎ (is_among (held_by vs seen) n ≡ true))
  next_at seen n h =
      let parts = among_filter_at (λ n. is_among from n || is_among (held_by vs seen) n) (map (λ v. v.number) vs) n h in
      (parts.1, or_cases (is_among from n) (is_among (held_by vs seen) n) parts.0)

  -- what a start or a member holds is in the next round
  pub next_from : (seen : List ℕ) (n : ℕ) → IsNumber vs n → (is_among from n ≡ true) ⊎ (is_among (held_by vs seen) n ≡ true) → is_among (next_round vs from seen) n ≡ true
  next_from seen n number why =
      among-filter (λ n. is_among from n || is_among (held_by vs seen) n) (map (λ v. v.number) vs) n (by why) number
    where
      by : (is_among from n ≡ true) ⊎ (is_among (held_by vs seen) n ≡ true) → (is_among from n || is_among (held_by vs seen) n) ≡ true
      by (inl start) = or_left (is_among from n) (is_among (held_by vs seen) n) start
      by (inr held) = or_right (is_among from n) (is_among (held_by vs seen) n) held

  -- the next round of more members has no less
  next_more : (seen more : List ℕ) → ((m : ℕ) → is_among seen m ≡ true → is_among more m ≡ true) → (n : ℕ) → is_among (next_round vs from seen) n ≡ true → is_among (next_round vs from more) n ≡ true
  next_more seen more inner n h =
      let (number, why) = next_at seen n h in
      elim why [
        | inl start ↦ next_from more n number (inl start)
        | inr held ↦ next_from more n number (inr (held_more vs seen more n inner held))
      ]

  -- a round has no less than the one before it
  round_more : (k n : ℕ) → is_among (round vs from k) n ≡ true → is_among (round vs from (suc k)) n ≡ true
  round_more zero n h = absurd (false≢true h)
  round_more (suc k) n h = next_more (round vs from k) (round vs from (suc k)) (round_more k) n h

  -- a list is empty or it has a number
  none_or_some : (ns : List ℕ) → ([] ≡ ns) ⊎ (0 < length ns)
  none_or_some [] = inl refl
  none_or_some (n ∷ ns) = inr (omega arith)

  -- a round adds nothing, or it is longer than the one before it
  same_or_longer : (k : ℕ) → (round vs from k ≡ round vs from (suc k)) ⊎ (length (round vs from k) < length (round vs from (suc k)))
  same_or_longer zero = none_or_some (round vs from (suc zero))
  same_or_longer (suc k) =
      filters_nested (λ n. is_among from n || is_among (held_by vs (round vs from k)) n) (λ n. is_among from n || is_among (held_by vs (round vs from (suc k))) n) inner (map (λ v. v.number) vs)
    where
      inner : (n : ℕ) → (is_among from n || is_among (held_by vs (round vs from k)) n) ≡ true → (is_among from n || is_among (held_by vs (round vs from (suc k))) n) ≡ true
      inner n h =
          elim (or_cases (is_among from n) (is_among (held_by vs (round vs from k)) n) h) [
            | inl start ↦ or_left (is_among from n) (is_among (held_by vs (round vs from (suc k))) n) start
            | inr held ↦ or_right (is_among from n) (is_among (held_by vs (round vs from (suc k))) n) (held_more vs (round vs from k) (round vs from (suc k)) n (round_more k) held)
          ]

  -- round k adds nothing, or it has k numbers
  same_or_many : (k : ℕ) → (round vs from k ≡ round vs from (suc k)) ⊎ (k ≤ length (round vs from k))
  same_or_many zero = inr (omega arith)
  same_or_many (suc k) = by (same_or_many k) (same_or_longer k)
    where
      by : (round vs from k ≡ round vs from (suc k)) ⊎ (k ≤ length (round vs from k)) → (round vs from k ≡ round vs from (suc k)) ⊎ (length (round vs from k) < length (round vs from (suc k))) →
          (round vs from (suc k) ≡ round vs from (suc (suc k))) ⊎ (suc k ≤ length (round vs from (suc k)))
      by (inl same) step = inl (ap (next_round vs from) same)
      by (inr many) (inl same) = inl (ap (next_round vs from) same)
      by (inr many) (inr longer) = inr (omega arith)

  -- as many rounds as there are objects: the next one adds nothing
  settled : reached_from vs from ≡ next_round vs from (reached_from vs from)
  settled = by (same_or_many (length vs)) (same_or_longer (length vs))
    where
      by : (round vs from (length vs) ≡ round vs from (suc (length vs))) ⊎ (length vs ≤ length (round vs from (length vs))) → (round vs from (length vs) ≡ round vs from (suc (length vs))) ⊎ (length (round vs from (length vs)) < length (round vs from (suc (length vs)))) →
          reached_from vs from ≡ next_round vs from (reached_from vs from)
      by (inl same) step = same
      by (inr many) (inl same) = same
      by (inr many) (inr longer) =
          let test : ℕ → Bool = λ n. is_among from n || is_among (held_by vs (reached_from vs from)) n in
          let most = length-filter_both test (λ n. not (test n)) (λ _. refl) (map (λ v. v.number) vs) in
          absurd (omega (arith, most, length-map vs (λ v. v.number)))

  -- what a start or a reached object holds is reached
  pub reached_next : (n : ℕ) → IsNumber vs n → (is_among from n ≡ true) ⊎ (is_among (held_by vs (reached_from vs from)) n ≡ true) → is_among (reached_from vs from) n ≡ true
  reached_next n number why = ap (λ ns. is_among ns n) settled ∙ next_from (reached_from vs from) n number why

  -- what a round has is reached
  pub round_reached : (k n : ℕ) → is_among (round vs from k) n ≡ true → is_among (reached_from vs from) n ≡ true
  round_reached zero n h = absurd (false≢true h)
  round_reached (suc k) n h = ap (λ ns. is_among ns n) settled ∙ next_more (round vs from k) (reached_from vs from) (round_reached k) n h

  -- a path leads to what a round has
  path_of : (k n : ℕ) → is_among (round vs from k) n ≡ true → (path : List ℕ) × LeadsTo vs from path n
  path_of zero n h = absurd (false≢true h)
  path_of (suc k) n h =
      let (number, why) = next_at (round vs from k) n h in
      elim why [
        | inl start ↦ ([], (number, start))
        | inr held ↦
            let (v, member, holds, stands) = held_at vs (round vs from k) n held in
            let (path, leads) = path_of k v.number member in
            (v.number ∷ path, (number, held_from vs (v.number ∷ []) n v (alone v.number) holds stands, leads))
      ]

  -- what a path leads to is reached
  reached_by : (path : List ℕ) (n : ℕ) → LeadsTo vs from path n → is_among (reached_from vs from) n ≡ true
  reached_by [] n leads = reached_next n leads.0 (inl leads.1)
  reached_by (m ∷ path) n leads =
      let member = reached_by path m leads.2 in
      let only : (k : ℕ) → is_among (m ∷ []) k ≡ true → is_among (reached_from vs from) k ≡ true = λ k h. ap (is_among (reached_from vs from)) (alone_at m k h) ∙ member in
      reached_next n leads.0 (inr (held_more vs (m ∷ []) (reached_from vs from) n only leads.1))

  -- reaching by rounds is a path
  pub is_a_path : (n : ℕ) → (is_among (reached_from vs from) n ≡ true) ↔ ((path : List ℕ) × LeadsTo vs from path n)
  is_a_path n = (path_of (length vs) n, λ (path, leads). reached_by path n leads)
