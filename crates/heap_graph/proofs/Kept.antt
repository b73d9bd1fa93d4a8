-- What a collection keeps, and that it leaves nothing dangling.
use Rattle.std.proofs.Common.{◌≡◌, ℕ, Bool, true, ◌&&◌, ◌⊎◌, ◌↔◌, inl, inr, List, map, filter, nat_eq, sym, ap, ◌∙◌}
use Rattle.std.specs.List.{list_any, flat_map}
use Rattle.std.proofs.lemmas.Bool.{or_cases, or_left, or_right, and_parts, and_from, eqb-true}
use Rattle.std.proofs.lemmas.List.Folds.{list_any-append}
use Rattle.heap_graph.specs.Values.{targets, held_targets, strong_slots}
use Rattle.heap_graph.specs.Graph.{Object, Graph, is_immune}
use Rattle.heap_graph.specs.Reach.{Node, node_of, nodes, starts, is_among, reached}
use Rattle.heap_graph.specs.Collection.{is_kept, cleared, collect}
use Rattle.heap_graph.specs.Paths.{IsNumber, IsReached, IsClosed, numbers}
use Rattle.heap_graph.proofs.Lists.{Stands, any_at, any-filter, any-map, any-flat_map}
use Rattle.heap_graph.proofs.Paths.{held_from, reached_next}
use Rattle.heap_graph.proofs.Reached.{reached-is}
use Rattle.heap_graph.proofs.Slots.{strong_is_target, kept_or_strong}

-- an object is kept exactly where it is immune or a path reaches it
pub kept_is : (g : Graph) (o : Object) → (is_kept g.sealed (reached g) o ≡ true) ↔ ((is_immune g.sealed o.place ≡ true) ⊎ IsReached g o.number)
kept_is g o = (why, keeps)
  where
    why : is_kept g.sealed (reached g) o ≡ true → (is_immune g.sealed o.place ≡ true) ⊎ IsReached g o.number
    why h =
        elim (or_cases (is_immune g.sealed o.place) (is_among (reached g) o.number) h) [
          | inl immune ↦ inl immune
          | inr seen ↦ inr ((reached-is g o.number).0 seen)
        ]

    keeps : (is_immune g.sealed o.place ≡ true) ⊎ IsReached g o.number → is_kept g.sealed (reached g) o ≡ true
    keeps (inl immune) = or_left (is_immune g.sealed o.place) (is_among (reached g) o.number) immune
    keeps (inr path) = or_right (is_immune g.sealed o.place) (is_among (reached g) o.number) ((reached-is g o.number).1 path)

module _ (g : Graph) where
  -- the numbers of the nodes are those of the objects
  is_number : (n : ℕ) → is_among (numbers g.objects) n ≡ true → IsNumber (nodes g) n
  is_number n h =
      any-map (λ v. v.number) (nat_eq n) (nodes g)
      ∙ (any-map (node_of g.sealed) (λ v. nat_eq n v.number) g.objects
      ∙ (sym (any-map (λ o. o.number) (nat_eq n) g.objects) ∙ h))

  -- what a collection keeps, by a test on the objects
  stays-is : (n : ℕ) → is_among (numbers (collect g).objects) n ≡ list_any (λ o. is_kept g.sealed (reached g) o && nat_eq n o.number) g.objects
  stays-is n =
      let keep : Object → Bool = is_kept g.sealed (reached g) in
      let kept : List Object = filter keep g.objects in
      any-map (λ o. o.number) (nat_eq n) (map (cleared (numbers kept)) kept)
      ∙ (any-map (cleared (numbers kept)) (λ o. nat_eq n o.number) kept
      ∙ any-filter (λ o. nat_eq n o.number) keep g.objects)

  -- a reached object stays
  stays : (n : ℕ) → is_among (numbers g.objects) n ≡ true → is_among (reached g) n ≡ true → is_among (numbers (collect g).objects) n ≡ true
  stays n number seen =
      let (o, same, stands) = any_at (λ o. nat_eq n o.number) g.objects (sym (any-map (λ o. o.number) (nat_eq n) g.objects) ∙ number) in
      let e : n ≡ o.number = eqb-true n o.number same in
      let keeps = or_right (is_immune g.sealed o.place) (is_among (reached g) o.number) (ap (is_among (reached g)) (sym e) ∙ seen) in
      stays-is n ∙ stands (λ o. is_kept g.sealed (reached g) o && nat_eq n o.number) (and_from (is_kept g.sealed (reached g) o) (nat_eq n o.number) keeps same)

  -- a root's target is a start
  root_starts : (n : ℕ) → is_among (held_targets (map (λ r. r.holds) g.roots)) n ≡ true → is_among (starts g) n ≡ true
  root_starts n h =
      let roots : List ℕ = held_targets (map (λ r. r.holds) g.roots) in
      let immune : List ℕ = flat_map (λ v. v.targets) (filter (λ v. v.immune) (nodes g)) in
      list_any-append (nat_eq n) roots immune ∙ or_left (is_among roots n) (is_among immune n) h

  -- a strong slot's target in an immune object is a start
  immune_starts : (o : Object) (n : ℕ) → Stands g.objects o → is_immune g.sealed o.place ≡ true → is_among (targets (strong_slots o.slots)) n ≡ true → is_among (starts g) n ≡ true
  immune_starts o n stands immune strong =
      let roots : List ℕ = held_targets (map (λ r. r.holds) g.roots) in
      let held : List ℕ = flat_map (λ v. v.targets) (filter (λ v. v.immune) (nodes g)) in
      let test : Node → Bool = λ v. v.immune && is_among v.targets n in
      list_any-append (nat_eq n) roots held
      ∙ or_right (is_among roots n) (is_among held n)
      (any-flat_map (λ v. v.targets) (nat_eq n) (filter (λ v. v.immune) (nodes g))
      ∙ (any-filter (λ v. is_among v.targets n) (λ v. v.immune) (nodes g)
      ∙ (any-map (node_of g.sealed) test g.objects
      ∙ stands (λ o. test (node_of g.sealed o)) (and_from _ _ immune strong))))

  -- what a strong slot of a kept object holds is reached
  strong_reached : (o : Object) (n : ℕ) → Stands g.objects o → is_kept g.sealed (reached g) o ≡ true → is_among (targets (strong_slots o.slots)) n ≡ true → is_among (numbers g.objects) n ≡ true → is_among (reached g) n ≡ true
  strong_reached o n stands kept strong number =
      let node : Node = node_of g.sealed o in
      let is_node : Stands (nodes g) node = λ q e. any-map (node_of g.sealed) q g.objects ∙ stands (λ o. q (node_of g.sealed o)) e in
      reached_next (nodes g) (starts g) n (is_number n number)
      (elim (or_cases (is_immune g.sealed o.place) (is_among (reached g) o.number) kept) [
        | inl immune ↦ inl (immune_starts o n stands immune strong)
        | inr seen ↦ inr (held_from (nodes g) (reached g) n node seen strong is_node)
      ])

  -- an object that holds a number after the collection
  held_after : (n : ℕ) → is_among (flat_map (λ o. targets o.slots) (collect g).objects) n ≡ true →
      (o : Object) × (is_kept g.sealed (reached g) o ≡ true) × (is_among (targets (cleared (numbers (filter (is_kept g.sealed (reached g)) g.objects)) o).slots) n ≡ true) × Stands g.objects o
  held_after n h =
      let keep : Object → Bool = is_kept g.sealed (reached g) in
      let kept : List Object = filter keep g.objects in
      let clear : Object → Object = cleared (numbers kept) in
      let holds : Object → Bool = λ o. is_among (targets (clear o).slots) n in
      let e = any-flat_map (λ o. targets o.slots) (nat_eq n) (map clear kept) ∙ (any-map clear (λ o. is_among (targets o.slots) n) kept ∙ any-filter holds keep g.objects) in
      let (o, both, stands) = any_at (λ o. keep o && holds o) g.objects (sym e ∙ h) in
      let parts = and_parts (keep o) (holds o) both in
      (o, parts.0, parts.1, stands)

  -- a kept object's number stays
  kept_stays : (n : ℕ) → is_among (numbers (filter (is_kept g.sealed (reached g)) g.objects)) n ≡ true → is_among (numbers (collect g).objects) n ≡ true
  kept_stays n h =
      let keep : Object → Bool = is_kept g.sealed (reached g) in
      stays-is n ∙ (sym (any-filter (λ o. nat_eq n o.number) keep g.objects) ∙ (sym (any-map (λ o. o.number) (nat_eq n) (filter keep g.objects)) ∙ h))

  -- a collection leaves nothing dangling
  pub nothing_dangles : IsClosed g → IsClosed (collect g)
  nothing_dangles closed = record {
    roots = λ n h.
        let number = closed.roots n h in
        stays n number (reached_next (nodes g) (starts g) n (is_number n number) (inl (root_starts n h)));
    slots = λ n h.
        let (o, kept, holds, stands) = held_after n h in
        elim (kept_or_strong (numbers (filter (is_kept g.sealed (reached g)) g.objects)) o.slots n holds) [
          | inl stay ↦ kept_stays n stay
          | inr strong ↦
              let slot = strong_is_target o.slots n strong in
              let number = closed.slots n (any-flat_map (λ o. targets o.slots) (nat_eq n) g.objects ∙ stands (λ o. is_among (targets o.slots) n) slot) in
              stays n number (strong_reached o n stands kept strong number)
        ];
  }
