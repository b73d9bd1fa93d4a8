-- What is reached among the objects of a graph.
use Rattle.std.proofs.Common.{◌≡◌, ℕ, Bool, true, false, not, cond, ◌&&◌, ◌⊎◌, ◌↔◌, inl, inr, List, [], ◌∷◌, map, filter, nat_eq, refl, sym, ap, subst, ◌∙◌}
use Rattle.std.specs.List.{list_any, flat_map}
use Rattle.std.proofs.lemmas.Bool.{or_cases, or_left, or_right, and_parts, and_from, eqb-true, eq-eqb, false≢true}
use Rattle.std.proofs.lemmas.List.Folds.{list_any-append}
use Rattle.class_layout.specs.Placing.{IsIn}
use Rattle.heap_graph.specs.declared.names.Held.{Held}
use Rattle.heap_graph.specs.declared.names.Held.TheVariants as held
use Rattle.heap_graph.specs.declared.names.Root.{Root}
use Rattle.heap_graph.specs.declared.names.Content.{Content}
use Rattle.heap_graph.specs.declared.names.Content.TheVariants as content
use Rattle.heap_graph.specs.declared.names.Stored.{Stored}
use Rattle.heap_graph.specs.Graph.{Object, Graph, is_immune}
use Rattle.heap_graph.specs.Paths.{HoldsStrongly, IsNumber, IsPathTo, IsReached, IsStart, LeadsTo}
use Rattle.heap_graph.specs.Reach.{held_by, is_among, node_of, nodes, reached, starts}
use Rattle.heap_graph.specs.Values.{held_targets, slot_of, strong_slots, targets, with_target}
use Rattle.heap_graph.proofs.Lists.{any-filter, any-flat_map, any-map}
use Rattle.heap_graph.proofs.Paths.{alone_at, held-is, is_a_path, reached_next}
use Rattle.heap_graph.proofs.Slots.{target_later}

module _ {X : Type 0} where
  -- an element that passes, and what passes since an element does
  any-in : (p : X → Bool) (xs : List X) → list_any p xs ≡ true → (x : X) × IsIn x xs × (p x ≡ true)
  any-in p [] h = absurd (false≢true h)
  any-in p (x ∷ xs) h =
      elim (or_cases (p x) (list_any p xs) h) [
        | inl here ↦ (x, inl refl, here)
        | inr later ↦ let found = any-in p xs later in (found.0, inr found.1, found.2)
      ]

  in-any : (p : X → Bool) (xs : List X) (x : X) → IsIn x xs → p x ≡ true → list_any p xs ≡ true
  in-any p [] x i h = absurd i
  in-any p (y ∷ xs) x (inl e) h = or_left (p y) (list_any p xs) (ap p e ∙ h)
  in-any p (y ∷ xs) x (inr i) h = or_right (p y) (list_any p xs) (in-any p xs x i h)

  -- an element of a filtered list
  in-filter : (p : X → Bool) (xs : List X) (x : X) → IsIn x (filter p xs) → IsIn x xs × (p x ≡ true)
  in-filter p [] x i = absurd i
  in-filter p (y ∷ xs) x i = by (p y) refl i (in-filter p xs x)
    where
      by : (b : Bool) → p y ≡ b → IsIn x (cond b (y ∷ filter p xs) (filter p xs)) → (IsIn x (filter p xs) → IsIn x xs × (p x ≡ true)) → ((y ≡ x) ⊎ IsIn x xs) × (p x ≡ true)
      by true e (inl same) rest = (inl same, ap p (sym same) ∙ e)
      by true e (inr i) rest = let found = rest i in (inr found.0, found.1)
      by false e i rest = let found = rest i in (inr found.0, found.1)

  filter-in : (p : X → Bool) (xs : List X) (x : X) → IsIn x xs → p x ≡ true → IsIn x (filter p xs)
  filter-in p [] x i h = absurd i
  filter-in p (y ∷ xs) x i h = by (p y) refl i (λ j. filter-in p xs x j h)
    where
      by : (b : Bool) → p y ≡ b → (y ≡ x) ⊎ IsIn x xs → (IsIn x xs → IsIn x (filter p xs)) → IsIn x (cond b (y ∷ filter p xs) (filter p xs))
      by true e (inl same) rest = inl same
      by true e (inr i) rest = inr (rest i)
      by false e (inl same) rest = absurd (false≢true (sym e ∙ ap p same ∙ h))
      by false e (inr i) rest = rest i

-- a slot that holds a target, and the target of a slot
target-slot : (ss : List Stored) (n : ℕ) → is_among (targets ss) n ≡ true → (s : Stored) × IsIn s ss × (s.value ≡ content.Object n)
target-slot [] n h = absurd (false≢true h)
target-slot (s ∷ ss) n h = by s.value refl h (target-slot ss n)
  where
    later : ((t : Stored) × IsIn t ss × (t.value ≡ content.Object n)) → (t : Stored) × IsIn t (s ∷ ss) × (t.value ≡ content.Object n)
    later found = (found.0, inr found.1, found.2)

    by : (v : Content) → s.value ≡ v → is_among (with_target v (targets ss)) n ≡ true → (is_among (targets ss) n ≡ true → (t : Stored) × IsIn t ss × (t.value ≡ content.Object n))
        → (t : Stored) × IsIn t (s ∷ ss) × (t.value ≡ content.Object n)
    by (content.Number z) e h rest = later (rest h)
    by content.Null e h rest = later (rest h)
    by (content.Object m) e h rest =
        elim (or_cases (nat_eq n m) (is_among (targets ss) n) h) [
          | inl here ↦ (s, inl refl, e ∙ ap content.Object (sym (eqb-true n m here)))
          | inr more ↦ later (rest more)
        ]

slot-target : (ss : List Stored) (n : ℕ) (s : Stored) → IsIn s ss → s.value ≡ content.Object n → is_among (targets ss) n ≡ true
slot-target [] n s i h = absurd i
slot-target (t ∷ ss) n s (inl e) h =
    ap (λ v. is_among (with_target v (targets ss)) n) (ap (λ (x : Stored). x.value) e ∙ h) ∙ or_left (nat_eq n n) (is_among (targets ss) n) (eq-eqb n n refl)
slot-target (t ∷ ss) n s (inr i) h = target_later t.value (targets ss) n (slot-target ss n s i h)

-- the same of roots
target-root : (rs : List Root) (n : ℕ) → is_among (held_targets (map (λ r. r.holds) rs)) n ≡ true → (r : Root) × IsIn r rs × (r.holds ≡ held.Object n)
target-root [] n h = absurd (false≢true h)
target-root (r ∷ rs) n h = by r.holds refl h (target-root rs n)
  where
    later : ((t : Root) × IsIn t rs × (t.holds ≡ held.Object n)) → (t : Root) × IsIn t (r ∷ rs) × (t.holds ≡ held.Object n)
    later found = (found.0, inr found.1, found.2)

    by : (v : Held) → r.holds ≡ v → is_among (with_target (slot_of v) (held_targets (map (λ r. r.holds) rs))) n ≡ true
        → (is_among (held_targets (map (λ r. r.holds) rs)) n ≡ true → (t : Root) × IsIn t rs × (t.holds ≡ held.Object n))
        → (t : Root) × IsIn t (r ∷ rs) × (t.holds ≡ held.Object n)
    by held.Null e h rest = later (rest h)
    by (held.Object m) e h rest =
        elim (or_cases (nat_eq n m) (is_among (held_targets (map (λ r. r.holds) rs)) n) h) [
          | inl here ↦ (r, inl refl, e ∙ ap held.Object (sym (eqb-true n m here)))
          | inr more ↦ later (rest more)
        ]

root-target : (rs : List Root) (n : ℕ) (r : Root) → IsIn r rs → r.holds ≡ held.Object n → is_among (held_targets (map (λ r. r.holds) rs)) n ≡ true
root-target [] n r i h = absurd i
root-target (t ∷ rs) n r (inl e) h =
    let more : List ℕ = held_targets (map (λ r. r.holds) rs) in
    ap (λ v. is_among (with_target (slot_of v) more) n) (ap (λ (x : Root). x.holds) e ∙ h) ∙ or_left (nat_eq n n) (is_among more n) (eq-eqb n n refl)
root-target (t ∷ rs) n r (inr i) h = target_later (slot_of t.holds) (held_targets (map (λ r. r.holds) rs)) n (root-target rs n r i h)

-- what strong slots hold
strong-from : (o : Object) (n : ℕ) → is_among (targets (strong_slots o.slots)) n ≡ true → HoldsStrongly o n
strong-from o n h =
    let found = target-slot (strong_slots o.slots) n h in
    let kept = in-filter (λ s. not s.at.weak) o.slots found.0 found.1 in
    (found.0, kept.0, strong found.0.at.weak kept.1, found.2)
  where
    strong : (b : Bool) → not b ≡ true → b ≡ false
    strong true e = absurd (false≢true e)
    strong false e = refl

strong-to : (o : Object) (n : ℕ) → HoldsStrongly o n → is_among (targets (strong_slots o.slots)) n ≡ true
strong-to o n (s, i, strong, h) = slot-target (strong_slots o.slots) n s (filter-in (λ s. not s.at.weak) o.slots s i (ap not strong)) h

module _ (g : Graph) where
  -- the roots' targets, and what immune objects hold
  abbrev rooted : List ℕ
  rooted = held_targets (map (λ r. r.holds) g.roots)

  abbrev immune_held : List ℕ
  immune_held = flat_map (λ v. v.targets) (filter (λ v. v.immune) (nodes g))

  immune-is : (n : ℕ) → is_among immune_held n ≡ list_any (λ o. is_immune g.sealed o.place && is_among (targets (strong_slots o.slots)) n) g.objects
  immune-is n =
      any-flat_map (λ v. v.targets) (nat_eq n) (filter (λ v. v.immune) (nodes g))
      ∙ any-filter (λ v. is_among v.targets n) (λ v. v.immune) (nodes g)
      ∙ any-map (node_of g.sealed) (λ v. v.immune && is_among v.targets n) g.objects

  -- the starts
  start-from : (n : ℕ) → is_among (starts g) n ≡ true → IsStart g n
  start-from n h =
      elim (or_cases (is_among rooted n) (is_among immune_held n) (sym (list_any-append (nat_eq n) rooted immune_held) ∙ h)) [
        | inl root ↦ inl (target-root g.roots n root)
        | inr immune ↦
            let found = any-in (λ o. is_immune g.sealed o.place && is_among (targets (strong_slots o.slots)) n) g.objects (sym (immune-is n) ∙ immune) in
            let parts = and_parts (is_immune g.sealed found.0.place) (is_among (targets (strong_slots found.0.slots)) n) found.2 in
            inr (found.0, found.1, parts.0, strong-from found.0 n parts.1)
      ]

  start-to : (n : ℕ) → IsStart g n → is_among (starts g) n ≡ true
  start-to n (inl (r, i, h)) = list_any-append (nat_eq n) rooted immune_held ∙ or_left (is_among rooted n) (is_among immune_held n) (root-target g.roots n r i h)
  start-to n (inr (o, i, immune, holds)) =
      list_any-append (nat_eq n) rooted immune_held
      ∙ or_right (is_among rooted n) (is_among immune_held n)
      (immune-is n
      ∙ in-any (λ o. is_immune g.sealed o.place && is_among (targets (strong_slots o.slots)) n) g.objects o i (and_from (is_immune g.sealed o.place) (is_among (targets (strong_slots o.slots)) n) immune (strong-to o n holds)))

  -- what the members of a set hold
  held-objects : (seen : List ℕ) (n : ℕ) → is_among (held_by (nodes g) seen) n ≡ list_any (λ o. is_among seen o.number && is_among (targets (strong_slots o.slots)) n) g.objects
  held-objects seen n = held-is (nodes g) seen n ∙ any-map (node_of g.sealed) (λ v. is_among seen v.number && is_among v.targets n) g.objects

  -- a number is that of an object
  number-is : (n : ℕ) → is_among (map (λ v. v.number) (nodes g)) n ≡ list_any (λ o. nat_eq n o.number) g.objects
  number-is n = any-map (λ v. v.number) (nat_eq n) (nodes g) ∙ any-map (node_of g.sealed) (λ v. nat_eq n v.number) g.objects

  number-from : (n : ℕ) → IsNumber (nodes g) n → (o : Object) × IsIn o g.objects × (o.number ≡ n)
  number-from n h =
      let found = any-in (λ o. nat_eq n o.number) g.objects (sym (number-is n) ∙ h) in
      (found.0, found.1, sym (eqb-true n found.0.number found.2))

  number-to : (n : ℕ) (o : Object) → IsIn o g.objects → o.number ≡ n → IsNumber (nodes g) n
  number-to n o i e = number-is n ∙ in-any (λ o. nat_eq n o.number) g.objects o i (eq-eqb n o.number (sym e))

  -- a path of numbers is one of objects
  path-from : (path : List ℕ) (n : ℕ) → LeadsTo (nodes g) (starts g) path n → (os : List Object) × IsPathTo g os n
  path-from [] n leads = ([], start-from n leads.1)
  path-from (m ∷ path) n leads =
      let found = any-in (λ o. is_among (m ∷ []) o.number && is_among (targets (strong_slots o.slots)) n) g.objects (sym (held-objects (m ∷ []) n) ∙ leads.1) in
      let parts = and_parts (is_among (m ∷ []) found.0.number) (is_among (targets (strong_slots found.0.slots)) n) found.2 in
      let same : m ≡ found.0.number = sym (alone_at m found.0.number parts.0) in
      let rest = path-from path m leads.2 in
      (found.0 ∷ rest.0, (found.1, strong-from found.0 n parts.1, subst (λ k. IsPathTo g rest.0 k) same rest.1))

  -- what a path of objects leads to is reached
  path-to : (os : List Object) (n : ℕ) → IsNumber (nodes g) n → IsPathTo g os n → is_among (reached g) n ≡ true
  path-to [] n number leads = reached_next (nodes g) (starts g) n number (inl (start-to n leads))
  path-to (o ∷ os) n number leads =
      let member = path-to os o.number (number-to o.number o leads.0 refl) leads.2 in
      let holds = and_from (is_among (reached g) o.number) (is_among (targets (strong_slots o.slots)) n) member (strong-to o n leads.1) in
      reached_next (nodes g) (starts g) n number
      (inr (held-objects (reached g) n ∙ in-any (λ o. is_among (reached g) o.number && is_among (targets (strong_slots o.slots)) n) g.objects o leads.0 holds))

  -- the number that a path of numbers leads to
  leads-number : (path : List ℕ) (n : ℕ) → LeadsTo (nodes g) (starts g) path n → IsNumber (nodes g) n
  leads-number [] n leads = leads.0
  leads-number (m ∷ path) n leads = leads.0

  -- reaching is a path of objects
  pub reached-is : (n : ℕ) → (is_among (reached g) n ≡ true) ↔ IsReached g n
  reached-is n = (there, back)
    where
      there : is_among (reached g) n ≡ true → IsReached g n
      there h =
          let path = (is_a_path (nodes g) (starts g) n).0 h in
          (number-from n (leads-number path.0 n path.1), path-from path.0 n path.1)

      back : IsReached g n → is_among (reached g) n ≡ true
      back r = path-to r.1.0 n (number-to n r.0.0 r.0.1 r.0.2) r.1.1
