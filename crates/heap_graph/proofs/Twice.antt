-- Collected twice is collected once.
use Rattle.std.proofs.Common.{◌≡◌, ℕ, zero, suc, Bool, true, ◌||◌, ◌&&◌, inl, inr, List, ◌++◌, map, filter, length, nat_eq, sym, ap, ◌∙◌}
use Rattle.std.specs.List.{flat_map}
use Rattle.std.proofs.lemmas.Bool.{or_cases, or_left, or_right, and_from, eqb-true, false≢true}
use Rattle.std.proofs.lemmas.Simd.{map-map}
use Rattle.heap_graph.specs.Values.{targets, held_targets}
use Rattle.heap_graph.specs.Graph.{Object, Graph, is_immune}
use Rattle.heap_graph.specs.Reach.{Node, node_of, nodes, starts, is_among, round, reached_from, reached}
use Rattle.heap_graph.specs.Collection.{is_kept, cleared, cleared_all, collect}
use Rattle.heap_graph.specs.Paths.{IsNumber, numbers}
use Rattle.heap_graph.proofs.Lists.{Stands, any_at, any-filter, any-map, filter-passed, map-filter, filter-filter}
use Rattle.heap_graph.proofs.Paths.{held_at, held_from, next_at, reached_next, round_reached}
use Rattle.heap_graph.proofs.Slots.{strong-cleared, cleared_slots-twice}

-- a node is immune or in a set
abbrev stays_in : List ℕ → Node → Bool
stays_in seen v = v.immune || is_among seen v.number

-- what is reached among nodes is reached among those of them that stay
module _ (vs : List Node) (from : List ℕ) where
  abbrev staying : List Node
  staying = filter (stays_in (reached_from vs from)) vs

  -- a node whose number is reached stays
  stays_if_reached : (v : Node) → is_among (reached_from vs from) v.number ≡ true → Stands vs v → Stands staying v
  stays_if_reached v seen stands q e =
      any-filter q (stays_in (reached_from vs from)) vs
      ∙ stands (λ v. stays_in (reached_from vs from) v && q v) (and_from _ _ (or_right v.immune (is_among (reached_from vs from) v.number) seen) e)

  -- the number of a reached node stays
  number_stays : (n : ℕ) → IsNumber vs n → is_among (reached_from vs from) n ≡ true → IsNumber staying n
  number_stays n number seen =
      let (v, same, stands) = any_at (λ v. nat_eq n v.number) vs (sym (any-map (λ v. v.number) (nat_eq n) vs) ∙ number) in
      let v_seen = ap (is_among (reached_from vs from)) (sym (eqb-true n v.number same)) ∙ seen in
      any-map (λ v. v.number) (nat_eq n) staying ∙ stays_if_reached v v_seen stands (λ v. nat_eq n v.number) same

  -- what a round has is reached among the nodes that stay
  still_reached : (k n : ℕ) → is_among (round vs from k) n ≡ true → is_among (reached_from staying from) n ≡ true
  still_reached zero n h = absurd (false≢true h)
  still_reached (suc k) n h =
      let (number, why) = next_at vs from (round vs from k) n h in
      let stays = number_stays n number (round_reached vs from (suc k) n h) in
      elim why [
        | inl start ↦ reached_next staying from n stays (inl start)
        | inr held ↦
            let (v, member, holds, stands) = held_at vs (round vs from k) n held in
            let v_stays = stays_if_reached v (round_reached vs from k v.number member) stands in
            reached_next staying from n stays (inr (held_from staying (reached_from staying from) n v (still_reached k v.number member) holds v_stays))
      ]

module _ (g : Graph) where
  abbrev keep : Object → Bool
  keep = is_kept g.sealed (reached g)

  abbrev kept : List Object
  kept = filter keep g.objects

  abbrev clear : Object → Object
  clear = cleared (numbers kept)

  -- clearing leaves an object's node
  node-cleared : (o : Object) → node_of g.sealed (clear o) ≡ node_of g.sealed o
  node-cleared o =
      ap (λ ss. record { number = o.number; immune = is_immune g.sealed o.place; targets = targets ss }) (strong-cleared (numbers kept) o.slots)

  -- the nodes after a collection are those that stay
  nodes-collect : nodes (collect g) ≡ filter (stays_in (reached g)) (nodes g)
  nodes-collect =
      map-map (node_of g.sealed) clear kept
      ∙ (ap (λ f. map f kept) (λ i o. node-cleared o i)
      ∙ map-filter (node_of g.sealed) (stays_in (reached g)) g.objects)

  -- a collection leaves the starts
  starts-collect : starts (collect g) ≡ starts g
  starts-collect =
      let immune : List Node → List ℕ = λ vs. held_targets (map (λ r. r.holds) g.roots) ++ flat_map (λ v. v.targets) vs in
      ap (λ vs. immune (filter (λ v. v.immune) vs)) nodes-collect
      ∙ ap immune (filter-filter (stays_in (reached g)) (λ v. v.immune) (λ v e. or_left v.immune (is_among (reached g) v.number) e) (nodes g))

  -- what is reached is reached after a collection
  reached_after : (n : ℕ) → is_among (reached g) n ≡ true → is_among (reached (collect g)) n ≡ true
  reached_after n h =
      ap (λ vs. is_among (reached_from vs (starts (collect g))) n) nodes-collect
      ∙ (ap (λ from. is_among (reached_from (filter (stays_in (reached g)) (nodes g)) from) n) starts-collect
      ∙ still_reached (nodes g) (starts g) (length (nodes g)) n h)

  -- what a collection keeps, the next one keeps
  kept_again : (o : Object) → keep o ≡ true → is_kept g.sealed (reached (collect g)) (clear o) ≡ true
  kept_again o h =
      elim (or_cases (is_immune g.sealed o.place) (is_among (reached g) o.number) h) [
        | inl immune ↦ or_left (is_immune g.sealed o.place) (is_among (reached (collect g)) o.number) immune
        | inr seen ↦ or_right (is_immune g.sealed o.place) (is_among (reached (collect g)) o.number) (reached_after o.number seen)
      ]

  -- clearing an object twice is clearing it once
  clear-twice : (o : Object) → clear (clear o) ≡ clear o
  clear-twice o = ap (λ ss. record o { slots = ss }) (cleared_slots-twice (numbers kept) o.slots)

  -- a collection of a collection changes nothing
  pub twice_is_once : collect (collect g) ≡ collect g
  twice_is_once =
      let once : List Object = map clear kept in
      let all_kept : filter (is_kept g.sealed (reached (collect g))) once ≡ once = filter-passed keep clear (is_kept g.sealed (reached (collect g))) kept_again g.objects in
      let same_numbers : numbers once ≡ numbers kept = map-map (λ o. o.number) clear kept in
      let cleared_once : map clear once ≡ once = map-map clear clear kept ∙ ap (λ f. map f kept) (λ i o. clear-twice o i) in
      ap (λ os. record (collect g) { objects = os })
      (ap cleared_all all_kept ∙ (ap (λ ns. map (cleared ns) once) same_numbers ∙ cleared_once))
