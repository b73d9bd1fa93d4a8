-- What is reached, and what marking under way leaves of it.
use Rattle.std.proofs.Common.{◌≡◌, ◌∙◌, ◌↔◌, ◌⊎◌, ℕ, true, false, List, [], ◌∷◌, ◌++◌, sym, ap, subst, inl, inr, arith}
use Rattle.std.specs.List.{Contains}
use Rattle.std.proofs.lemmas.Bool.{and_parts, both_ways}
use Rattle.std.proofs.lemmas.List.Elements.{Contains-append_left, Contains-push, Contains-push_cases}
use Rattle.class_layout.specs.ClassList.{Class}
use Rattle.large_objects.specs.declared.rows.LargeRow.{LargeRow}
use Rattle.raw_objects.specs.Raws.{Raws}
use Rattle.live_objects.specs.Marks.{HeldIn, Marking, State, Takes, marked}
use Rattle.live_objects.specs.Reach.{Holds, Path, Reached, is_mortal, is_node}

module _ (cs : List Class) (rows : List LargeRow) (raws : Raws) (starts : List ℕ) where
  path-node : (b : ℕ) (before : List ℕ) → Path cs rows raws starts b before → is_node rows raws b ≡ true
  path-node b [] h = h.1
  path-node b (a ∷ before) h = h.0.node

  pub reached-node : (b : ℕ) → Reached cs rows raws starts b → is_node rows raws b ≡ true
  reached-node b r = path-node b r.0 r.1

  pub reached-start : (b : ℕ) → Contains starts b → is_node rows raws b ≡ true → Reached cs rows raws starts b
  reached-start b c node = ([], (c, node))

  pub reached-held : (a b : ℕ) → Reached cs rows raws starts a → Holds cs rows raws a b → Reached cs rows raws starts b
  reached-held a b r held = (a ∷ r.0, (held, r.1))

  path-cases : (b : ℕ) (before : List ℕ) → Path cs rows raws starts b before → Contains starts b ⊎ ((a : ℕ) × Reached cs rows raws starts a × Holds cs rows raws a b)
  path-cases b [] h = inl h.0
  path-cases b (a ∷ before) h = inr (a, (before, h.1), h.0)

  pub reached-cases : (b : ℕ) → Reached cs rows raws starts b → Contains starts b ⊎ ((a : ℕ) × Reached cs rows raws starts a × Holds cs rows raws a b)
  reached-cases b r = path-cases b r.0 r.1

  -- MARKING

  none-waits : (a : ℕ) → Contains [] a → ⊥
  none-waits a c = omega (arith, c.1)

  pub marking-start : (old new : State) → old.waiting ≡ [] → ((a : ℕ) → marked old a ≡ false) → ((b : ℕ) → HeldIn rows starts b → is_node rows raws b ≡ true) → Takes (HeldIn rows starts) old new
      → Marking cs rows raws starts new
  marking-start old new empty clear found takes =
      let first = λ (a : ℕ) (e : marked new a ≡ true). elim (takes.origin a e) as (λ _. Contains new.waiting a × HeldIn rows starts a) [ inl was ↦ absurd (both_ways (marked old a) (clear a) was) | inr it ↦ it ] in
      record {
        reached = λ a e. let it = first a e in reached-start a it.1.0 (found a it.1);
        waiting = λ a c. elim (takes.fresh a c) [ inl was ↦ absurd (none-waits a (subst (λ ws. Contains ws a) empty was)) | inr e ↦ e ];
        scanned = λ a e. inl (first a e).0;
        start = λ b h. takes.all b (h.0, (and_parts (raws.has b) (is_mortal rows b) h.1).1);
      }

  -- what waits last is an object that isn't immune
  pub marking-node : (s : State) (ws : List ℕ) (a : ℕ) → s.waiting ≡ ws ++ a ∷ [] → Marking cs rows raws starts s → is_node rows raws a ≡ true
  marking-node s ws a waits is = reached-node a (is.reached a (is.waiting a (subst (λ ns. Contains ns a) (sym waits) (Contains-push ws a))))

  -- the last that waited was looked at
  pub marking-more : (s mid new : State) (a : ℕ) → s.waiting ≡ mid.waiting ++ a ∷ [] → mid ≡ record s { waiting = mid.waiting } → Marking cs rows raws starts s → Takes (Holds cs rows raws a) mid new
      → Marking cs rows raws starts new
  marking-more s mid new a waits rest before takes =
      let same = λ (b : ℕ). ap (λ (it : State). marked it b) rest in
      let kept = λ (b : ℕ) (e : marked s b ≡ true). takes.kept b (same b ∙ e) in
      let here : marked s a ≡ true = before.waiting a (subst (λ ws. Contains ws a) (sym waits) (Contains-push mid.waiting a)) in
      record {
        reached = λ b e. elim (takes.origin b e) [
          | inl was ↦ before.reached b (sym (same b) ∙ was)
          | inr it ↦ reached-held a b (before.reached a here) it.1
        ];
        waiting = λ b c. elim (takes.fresh b c) [
          | inl was ↦ kept b (before.waiting b (subst (λ ws. Contains ws b) (sym waits) (Contains-append_left mid.waiting (a ∷ []) b was)))
          | inr e ↦ e
        ];
        scanned = λ b e. elim (takes.origin b e) [
          | inl was ↦ elim (before.scanned b (sym (same b) ∙ was)) [
            | inl waited ↦ elim (Contains-push_cases mid.waiting a b (subst (λ ws. Contains ws b) waits waited)) [
              | inl c ↦ inl (takes.waits b c)
              | inr it ↦ inr (subst (λ x. (d : ℕ) → Holds cs rows raws x d → marked new d ≡ true) it takes.all)
            ]
            | inr done ↦ inr (λ d held. kept d (done d held))
          ]
          | inr it ↦ inl it.0
        ];
        start = λ b h. kept b (before.start b h);
      }

  path-marked : (s : State) → s.waiting ≡ [] → Marking cs rows raws starts s → (b : ℕ) (before : List ℕ) → Path cs rows raws starts b before → marked s b ≡ true
  path-marked s empty is b [] h = is.start b h
  path-marked s empty is b (a ∷ before) h = elim (is.scanned a (path-marked s empty is a before h.1)) [
    | inl c ↦ absurd (none-waits a (subst (λ ws. Contains ws a) empty c))
    | inr all ↦ all b h.0
  ]

  pub marking-done : (s : State) → s.waiting ≡ [] → Marking cs rows raws starts s → (a : ℕ) → (marked s a ≡ true) ↔ Reached cs rows raws starts a
  marking-done s empty is a = (is.reached a, λ r. path-marked s empty is a r.0 r.1)

pub reached-more : (cs : List Class) (rows : List LargeRow) (raws : Raws) (few many : List ℕ) (b : ℕ) → ((n : ℕ) → Contains few n → Contains many n) → Reached cs rows raws few b → Reached cs rows raws many b
reached-more cs rows raws few many b more r = (r.0, by b r.0 r.1)
  where
    by : (b : ℕ) (before : List ℕ) → Path cs rows raws few b before → Path cs rows raws many b before
    by b [] h = (more b h.0, h.1)
    by b (a ∷ before) h = (h.0, by a before h.1)
