-- The cards of outward slots, as a graph changes.
use Rattle.std.proofs.Common.{◌≡◌, ℕ, ◌+◌, Bool, true, false, true≢false, not, cond, inl, inr, List, [], ◌∷◌, ◌++◌, Some, map, filter, nat_eq, refl, sym, ap, subst, ◌∙◌, arith}
use Rattle.std.specs.List.{AllByRecursion, find, flat_map}
use Rattle.std.proofs.lemmas.Bool.{eqb-true, eq-eqb, or_cases, or_left, or_parts, or_right}
use Rattle.std.proofs.lemmas.Grind.{flat_map-append}
use Rattle.std.proofs.lemmas.Option.{same_Some}
use Rattle.heap_graph.specs.declared.names.Place.{Place}
use Rattle.heap_graph.specs.declared.names.Content.{Content}
use Rattle.heap_graph.specs.declared.names.Content.TheVariants as content
use Rattle.heap_graph.specs.declared.names.Stored.{Stored}
use Rattle.heap_graph.specs.Collection.{clear_if, cleared, cleared_slots, collect, if_kept, is_kept}
use Rattle.heap_graph.specs.Graph.{Graph, Object, is_immune, object_at}
use Rattle.heap_graph.specs.Paths.{numbers}
use Rattle.heap_graph.specs.Reach.{is_among, reached}
use Rattle.heap_graph.specs.Values.{stored_if, with_stored}
use Rattle.heap_graph.proofs.LaidOut.{all-weaken}
use Rattle.heap_world.specs.declared.names.Card.{Card}
use Rattle.heap_world.specs.declared.names.Card.TheVariants as card
use Rattle.heap_world.specs.Acts.{stored_in, stored_in_if, with_slot}
use Rattle.heap_world.specs.Cards.{add_card, add_card_if, add_cards, cards_if, cards_in, is_card_among, is_outward, loose_if, object_cards, outward_cards, same_card, slot_cards}
use Rattle.heap_graph.specs.Formed.{AreRising}
use Rattle.heap_world.proofs.FormedAims.{Aims, ObjectsAim, SlotsAim}
use Rattle.heap_world.proofs.FormedNumbers.{stored_in-below}

-- a card is among those that it was added to, and the others stay
card-refl : (c : Card) → same_card c c ≡ true
card-refl (card.Image k) = eq-eqb k k refl
card-refl (card.Zygote k) = eq-eqb k k refl

has-card : (c : Card) (cards : List Card) → is_card_among (add_card c cards) c ≡ true
has-card c cards = by (is_card_among cards c) refl
  where
    by : (b : Bool) → is_card_among cards c ≡ b → is_card_among (add_card_if b c cards) c ≡ true
    by true e = e
    by false e = or_left (same_card c c) (is_card_among cards c) (card-refl c)

stays-card : (c d : Card) (cards : List Card) → is_card_among cards d ≡ true → is_card_among (add_card c cards) d ≡ true
stays-card c d cards h = by (is_card_among cards c)
  where
    by : (b : Bool) → is_card_among (add_card_if b c cards) d ≡ true
    by true = h
    by false = or_right (same_card d c) (is_card_among cards d) h

pub stays-cards : (cs : List Card) (d : Card) (cards : List Card) → is_card_among cards d ≡ true → is_card_among (add_cards cs cards) d ≡ true
stays-cards [] d cards h = h
stays-cards (c ∷ cs) d cards h = stays-card c d (add_cards cs cards) (stays-cards cs d cards h)

pub has-cards : (cs cards : List Card) → AllByRecursion (λ c. is_card_among (add_cards cs cards) c ≡ true) cs
has-cards [] cards = tt
has-cards (c ∷ cs) cards =
    (has-card c (add_cards cs cards), all-weaken _ _ (λ d h. stays-card c d (add_cards cs cards) h) cs (has-cards cs cards))

module _ {X : Type 0} (P : X → Type 0) where
  -- all of two lists joined end to end
  all-left : (xs ys : List X) → AllByRecursion P (xs ++ ys) → AllByRecursion P xs
  all-left [] ys h = tt
  all-left (x ∷ xs) ys h = (h.0, all-left xs ys h.1)

  all-right : (xs ys : List X) → AllByRecursion P (xs ++ ys) → AllByRecursion P ys
  all-right [] ys h = h
  all-right (x ∷ xs) ys h = all-right xs ys h.1

  all-join : (xs ys : List X) → AllByRecursion P xs → AllByRecursion P ys → AllByRecursion P (xs ++ ys)
  all-join [] ys h k = k
  all-join (x ∷ xs) ys h k = (h.0, all-join xs ys h.1 k)

-- what is outward in one graph is outward in another
abbrev Outward : Graph → Graph → Stored → Type 0
Outward g h s = is_outward h s.value ≡ true → is_outward g s.value ≡ true

module _ (P : Card → Type 0) where
  -- where fewer slots are outward, no more cards have one
  one-fewer : (b c : Bool) (at : Place) (offset : ℕ) → (c ≡ true → b ≡ true) → AllByRecursion P (cards_if b at offset) → AllByRecursion P (cards_if c at offset)
  one-fewer b false at offset less h = tt
  one-fewer true true at offset less h = h
  one-fewer false true at offset less h = absurd (true≢false (sym (less refl)))

  slots-fewer : (g h : Graph) (at : Place) (ss : List Stored) → AllByRecursion (Outward g h) ss → AllByRecursion P (slot_cards g at ss) → AllByRecursion P (slot_cards h at ss)
  slots-fewer g h at [] less all = tt
  slots-fewer g h at (s ∷ ss) less all =
      all-join P (cards_if (is_outward h s.value) at s.at.offset) (slot_cards h at ss)
      (one-fewer (is_outward g s.value) (is_outward h s.value) at s.at.offset less.0 (all-left P (cards_if (is_outward g s.value) at s.at.offset) (slot_cards g at ss) all))
      (slots-fewer g h at ss less.1 (all-right P (cards_if (is_outward g s.value) at s.at.offset) (slot_cards g at ss) all))

  object-fewer : (g h : Graph) (immune : Bool) (o : Object) → AllByRecursion (Outward g h) o.slots → AllByRecursion P (object_cards g immune o) → AllByRecursion P (object_cards h immune o)
  object-fewer g h true o less all = slots-fewer g h o.place o.slots less all
  object-fewer g h false o less all = tt

  objects-fewer : (g h : Graph) (sealed : Bool) (os : List Object) → AllByRecursion (λ o. AllByRecursion (Outward g h) o.slots) os
      → AllByRecursion P (flat_map (λ o. object_cards g (is_immune sealed o.place) o) os) → AllByRecursion P (flat_map (λ o. object_cards h (is_immune sealed o.place) o) os)
  objects-fewer g h sealed [] less all = tt
  objects-fewer g h sealed (o ∷ os) less all =
      let here = object_cards g (is_immune sealed o.place) o in
      let later = flat_map (λ o. object_cards g (is_immune sealed o.place) o) os in
      all-join P (object_cards h (is_immune sealed o.place) o) (flat_map (λ o. object_cards h (is_immune sealed o.place) o) os)
      (object-fewer g h (is_immune sealed o.place) o less.0 (all-left P here later all))
      (objects-fewer g h sealed os less.1 (all-right P here later all))

  -- where no slot is outward, no card has one
  slots-none : (g : Graph) (at : Place) (ss : List Stored) → ((v : Content) → is_outward g v ≡ false) → AllByRecursion P (slot_cards g at ss)
  slots-none g at [] none = tt
  slots-none g at (s ∷ ss) none =
      all-join P (cards_if (is_outward g s.value) at s.at.offset) (slot_cards g at ss) (subst (λ b. AllByRecursion P (cards_if b at s.at.offset)) (sym (none s.value)) tt) (slots-none g at ss none)

  object-none : (g : Graph) (immune : Bool) (o : Object) → ((v : Content) → is_outward g v ≡ false) → AllByRecursion P (object_cards g immune o)
  object-none g true o none = slots-none g o.place o.slots none
  object-none g false o none = tt

  objects-none : (g : Graph) (sealed : Bool) (os : List Object) → ((v : Content) → is_outward g v ≡ false) → AllByRecursion P (flat_map (λ o. object_cards g (is_immune sealed o.place) o) os)
  objects-none g sealed [] none = tt
  objects-none g sealed (o ∷ os) none =
      all-join P (object_cards g (is_immune sealed o.place) o) (flat_map (λ o. object_cards g (is_immune sealed o.place) o) os) (object-none g (is_immune sealed o.place) o none) (objects-none g sealed os none)

  -- nor where no object is immune
  pub objects-loose : (g : Graph) (sealed : Bool) (os : List Object) → AllByRecursion (λ o. is_immune sealed o.place ≡ false) os → AllByRecursion P (flat_map (λ o. object_cards g (is_immune sealed o.place) o) os)
  objects-loose g sealed [] loose = tt
  objects-loose g sealed (o ∷ os) loose =
      all-join P (object_cards g (is_immune sealed o.place) o) (flat_map (λ o. object_cards g (is_immune sealed o.place) o) os)
      (subst (λ b. AllByRecursion P (object_cards g b o)) (sym loose.0) tt) (objects-loose g sealed os loose.1)

  -- where all objects are immune, no slot is outward
  found-immune : (sealed : Bool) (os : List Object) (n : ℕ) → AllByRecursion (λ o. is_immune sealed o.place ≡ true) os → loose_if (find (λ o. nat_eq o.number n) os) sealed ≡ false
  found-immune sealed [] n h = refl
  found-immune sealed (o ∷ os) n h = by (nat_eq o.number n) (found-immune sealed os n h.1)
    where
      by : (b : Bool) → loose_if (find (λ o. nat_eq o.number n) os) sealed ≡ false → loose_if (cond b (Some o) (find (λ o. nat_eq o.number n) os)) sealed ≡ false
      by true rest = ap not h.0
      by false rest = rest

  none-outward : (g : Graph) → AllByRecursion (λ o. is_immune g.sealed o.place ≡ true) g.objects → (v : Content) → is_outward g v ≡ false
  none-outward g h (content.Number z) = refl
  none-outward g h content.Null = refl
  none-outward g h (content.Object n) = found-immune g.sealed g.objects n h

  pub all-immune : (g : Graph) → AllByRecursion (λ o. is_immune g.sealed o.place ≡ true) g.objects → AllByRecursion P (outward_cards g)
  all-immune g h = objects-none g g.sealed g.objects (none-outward g h)

-- a number that is there is found as before where one more object stands
find-push : (os : List Object) (o : Object) (n : ℕ) → is_among (numbers os) n ≡ true → find (λ x. nat_eq x.number n) (os ++ o ∷ []) ≡ find (λ x. nat_eq x.number n) os
find-push [] o n h = cc
find-push (x ∷ os) o n h = by (nat_eq x.number n) refl (find-push os o n)
  where
    flip : (b : Bool) → nat_eq x.number n ≡ false → nat_eq n x.number ≡ b → b ≡ false
    flip true e f = absurd (true≢false (sym (eq-eqb x.number n (sym (eqb-true n x.number f))) ∙ e))
    flip false e f = refl

    by : (b : Bool) → nat_eq x.number n ≡ b → (is_among (numbers os) n ≡ true → find (λ x. nat_eq x.number n) (os ++ o ∷ []) ≡ find (λ x. nat_eq x.number n) os)
        → cond b (Some x) (find (λ x. nat_eq x.number n) (os ++ o ∷ [])) ≡ cond b (Some x) (find (λ x. nat_eq x.number n) os)
    by true e rest = refl
    by false e rest =
        elim (or_cases (nat_eq n x.number) (is_among (numbers os) n) h) [
          | inl here ↦ absurd (true≢false (sym here ∙ flip (nat_eq n x.number) e refl))
          | inr later ↦ rest later
        ]

module _ (P : Card → Type 0) (g h : Graph) (made : Object) (objects : h.objects ≡ g.objects ++ made ∷ []) (sealed : h.sealed ≡ g.sealed) where
  -- with one more object, what was there is outward as before
  value-pushed : (v : Content) → Aims (numbers g.objects) v → is_outward h v ≡ true → is_outward g v ≡ true
  value-pushed (content.Number z) there e = e
  value-pushed content.Null there e = e
  value-pushed (content.Object n) there e =
      sym (ap (λ os. loose_if (find (λ x. nat_eq x.number n) os) h.sealed) objects ∙ ap (λ o. loose_if o h.sealed) (find-push g.objects made n there) ∙ ap (loose_if (object_at g n)) sealed) ∙ e

  slots-pushed : (ss : List Stored) → SlotsAim (numbers g.objects) ss → AllByRecursion (Outward g h) ss
  slots-pushed [] a = tt
  slots-pushed (s ∷ ss) a = (value-pushed s.value a.0, slots-pushed ss a.1)

  objects-pushed : (os : List Object) → ObjectsAim (numbers g.objects) os → AllByRecursion (λ o. AllByRecursion (Outward g h) o.slots) os
  objects-pushed [] a = tt
  objects-pushed (o ∷ os) a = (slots-pushed o.slots a.0, objects-pushed os a.1)

  -- and an object that isn't immune adds no card
  pub outward-pushed : ObjectsAim (numbers g.objects) g.objects → is_immune g.sealed made.place ≡ false → AllByRecursion P (outward_cards g) → AllByRecursion P (outward_cards h)
  outward-pushed aims loose all =
      let f : Object → List Card = λ o. object_cards h (is_immune g.sealed o.place) o in
      let old : AllByRecursion P (flat_map f g.objects) = objects-fewer P g h g.sealed g.objects (objects-pushed g.objects aims) all in
      let new : AllByRecursion P (flat_map f (made ∷ [])) = objects-loose P h g.sealed (made ∷ []) (loose, tt) in
      let both : AllByRecursion P (flat_map f (g.objects ++ made ∷ [])) = subst (λ cs. AllByRecursion P cs) (sym (flat_map-append f g.objects (made ∷ []))) (all-join P (flat_map f g.objects) (flat_map f (made ∷ [])) old new) in
      subst (λ b. AllByRecursion P (flat_map (λ o. object_cards h (is_immune b o.place) o) h.objects)) (sym sealed)
      (subst (λ os. AllByRecursion P (flat_map f os)) (sym objects) both)

-- a collection
module _ (P : Card → Type 0) (g : Graph) where
  abbrev keep : Object → Bool
  keep = is_kept g.sealed (reached g)

  loose : (o : Object) → keep o ≡ false → is_immune g.sealed o.place ≡ false
  loose o e = (or_parts (is_immune g.sealed o.place) (is_among (reached g) o.number) e).0

  -- what is found after it, and isn't immune, wasn't before
  loose-before : (kept : List ℕ) (os : List Object) (n : ℕ) → loose_if (find (λ o. nat_eq o.number n) (map (cleared kept) (filter keep os))) g.sealed ≡ true
      → loose_if (find (λ o. nat_eq o.number n) os) g.sealed ≡ true
  loose-before kept [] n h = h
  loose-before kept (o ∷ os) n h = by (keep o) refl h (loose-before kept os n)
    where
      stays : (c : Bool) → loose_if (cond c (Some (cleared kept o)) (find (λ o. nat_eq o.number n) (map (cleared kept) (filter keep os)))) g.sealed ≡ true
          → (loose_if (find (λ o. nat_eq o.number n) (map (cleared kept) (filter keep os))) g.sealed ≡ true → loose_if (find (λ o. nat_eq o.number n) os) g.sealed ≡ true)
          → loose_if (cond c (Some o) (find (λ o. nat_eq o.number n) os)) g.sealed ≡ true
      stays true h rest = h
      stays false h rest = rest h

      goes : (c : Bool) → keep o ≡ false → loose_if (find (λ o. nat_eq o.number n) (map (cleared kept) (filter keep os))) g.sealed ≡ true
          → (loose_if (find (λ o. nat_eq o.number n) (map (cleared kept) (filter keep os))) g.sealed ≡ true → loose_if (find (λ o. nat_eq o.number n) os) g.sealed ≡ true)
          → loose_if (cond c (Some o) (find (λ o. nat_eq o.number n) os)) g.sealed ≡ true
      goes true e h rest = ap not (loose o e)
      goes false e h rest = rest h

      by : (b : Bool) → keep o ≡ b → loose_if (find (λ o. nat_eq o.number n) (map (cleared kept) (cond b (o ∷ filter keep os) (filter keep os)))) g.sealed ≡ true
          → (loose_if (find (λ o. nat_eq o.number n) (map (cleared kept) (filter keep os))) g.sealed ≡ true → loose_if (find (λ o. nat_eq o.number n) os) g.sealed ≡ true)
          → loose_if (cond (nat_eq o.number n) (Some o) (find (λ o. nat_eq o.number n) os)) g.sealed ≡ true
      by true e h rest = stays (nat_eq o.number n) h rest
      by false e h rest = goes (nat_eq o.number n) e h rest

  abbrev kept : List ℕ
  kept = numbers (filter keep g.objects)

  -- a slot that is outward after it was so before
  object-cleared : (n : ℕ) → is_outward (collect g) (content.Object n) ≡ true → is_outward g (content.Object n) ≡ true
  object-cleared n h = loose-before kept g.objects n h

  value-cleared : (weak : Bool) (v : Content) → is_outward (collect g) (clear_if weak kept v) ≡ true → is_outward g v ≡ true
  value-cleared false (content.Number z) h = h
  value-cleared false content.Null h = h
  value-cleared false (content.Object n) h = object-cleared n h
  value-cleared true (content.Number z) h = h
  value-cleared true content.Null h = h
  value-cleared true (content.Object n) h = by (is_among kept n) h
    where
      by : (b : Bool) → is_outward (collect g) (if_kept b n) ≡ true → is_outward g (content.Object n) ≡ true
      by true h = object-cleared n h
      by false h = absurd (true≢false (sym h))

  slots-collected : (at : Place) (ss : List Stored) → AllByRecursion P (slot_cards g at ss) → AllByRecursion P (slot_cards (collect g) at (cleared_slots kept ss))
  slots-collected at [] all = tt
  slots-collected at (s ∷ ss) all =
      let after : Content = clear_if s.at.weak kept s.value in
      let here = cards_if (is_outward g s.value) at s.at.offset in
      all-join P (cards_if (is_outward (collect g) after) at s.at.offset) (slot_cards (collect g) at (cleared_slots kept ss))
      (one-fewer P (is_outward g s.value) (is_outward (collect g) after) at s.at.offset (value-cleared s.at.weak s.value) (all-left P here (slot_cards g at ss) all))
      (slots-collected at ss (all-right P here (slot_cards g at ss) all))

  object-collected : (immune : Bool) (o : Object) → AllByRecursion P (object_cards g immune o) → AllByRecursion P (object_cards (collect g) immune (cleared kept o))
  object-collected true o all = slots-collected o.place o.slots all
  object-collected false o all = tt

  objects-collected : (os : List Object) → AllByRecursion P (flat_map (λ o. object_cards g (is_immune g.sealed o.place) o) os)
      → AllByRecursion P (flat_map (λ o. object_cards (collect g) (is_immune g.sealed o.place) o) (map (cleared kept) (filter keep os)))
  objects-collected [] all = tt
  objects-collected (o ∷ os) all =
      let here = object_cards g (is_immune g.sealed o.place) o in
      let later = flat_map (λ o. object_cards g (is_immune g.sealed o.place) o) os in
      by (keep o) (object-collected (is_immune g.sealed o.place) o (all-left P here later all)) (objects-collected os (all-right P here later all))
    where
      by : (b : Bool) → AllByRecursion P (object_cards (collect g) (is_immune g.sealed o.place) (cleared kept o))
          → AllByRecursion P (flat_map (λ o. object_cards (collect g) (is_immune g.sealed o.place) o) (map (cleared kept) (filter keep os)))
          → AllByRecursion P (flat_map (λ o. object_cards (collect g) (is_immune g.sealed o.place) o) (map (cleared kept) (cond b (o ∷ filter keep os) (filter keep os))))
      by true here rest =
          all-join P (object_cards (collect g) (is_immune g.sealed o.place) (cleared kept o)) (flat_map (λ o. object_cards (collect g) (is_immune g.sealed o.place) o) (map (cleared kept) (filter keep os))) here rest
      by false here rest = rest

  pub outward-collected : AllByRecursion P (outward_cards g) → AllByRecursion P (outward_cards (collect g))
  outward-collected all = objects-collected g.objects all

-- what holds of each element holds of all
all-of : {X : Type 0} (P : X → Type 0) (xs : List X) → ((x : X) → P x) → AllByRecursion P xs
all-of P [] h = tt
all-of P (x ∷ xs) h = (h x, all-of P xs h)

-- a store to an object that is found
module _ (P Q : Card → Type 0) (more : (c : Card) → P c → Q c) (g : Graph) (n : ℕ) (new : Stored) where
  abbrev after : Graph
  after = with_slot g n new

  -- it leaves which objects are immune
  loose-stored : (os : List Object) (m : ℕ) → loose_if (find (λ x. nat_eq x.number m) (stored_in os n new)) g.sealed ≡ loose_if (find (λ x. nat_eq x.number m) os) g.sealed
  loose-stored [] m = refl
  loose-stored (x ∷ os) m = by (nat_eq x.number n) (nat_eq x.number m) (loose-stored os m)
    where
      found : (b c : Bool) → loose_if (find (λ x. nat_eq x.number m) (stored_in os n new)) g.sealed ≡ loose_if (find (λ x. nat_eq x.number m) os) g.sealed
          → loose_if (cond c (Some (stored_in_if b x new)) (find (λ x. nat_eq x.number m) (stored_in os n new))) g.sealed ≡ loose_if (cond c (Some x) (find (λ x. nat_eq x.number m) os)) g.sealed
      found true true rest = refl
      found false true rest = refl
      found true false rest = rest
      found false false rest = rest

      by : (b c : Bool) → loose_if (find (λ x. nat_eq x.number m) (stored_in os n new)) g.sealed ≡ loose_if (find (λ x. nat_eq x.number m) os) g.sealed
          → loose_if (cond (nat_eq (stored_in_if b x new).number m) (Some (stored_in_if b x new)) (find (λ x. nat_eq x.number m) (stored_in os n new))) g.sealed
          ≡ loose_if (cond (nat_eq x.number m) (Some x) (find (λ x. nat_eq x.number m) os)) g.sealed
      by true c rest = found true (nat_eq x.number m) rest
      by false c rest = found false (nat_eq x.number m) rest

  value-stored : (v : Content) → is_outward after v ≡ true → is_outward g v ≡ true
  value-stored (content.Number z) e = e
  value-stored content.Null e = e
  value-stored (content.Object m) e = sym (loose-stored g.objects m) ∙ e

  -- slots and objects that stay
  slots-stay : (at : Place) (ss : List Stored) → AllByRecursion P (slot_cards g at ss) → AllByRecursion Q (slot_cards after at ss)
  slots-stay at ss all = all-weaken P Q more (slot_cards after at ss) (slots-fewer P g after at ss (all-of (Outward g after) ss (λ s. value-stored s.value)) all)

  objects-stay : (os : List Object) → AllByRecursion P (flat_map (λ o. object_cards g (is_immune g.sealed o.place) o) os) → AllByRecursion Q (flat_map (λ o. object_cards after (is_immune g.sealed o.place) o) os)
  objects-stay os all =
      all-weaken P Q more (flat_map (λ o. object_cards after (is_immune g.sealed o.place) o) os)
      (objects-fewer P g after g.sealed os (all-of (λ o. AllByRecursion (Outward g after) o.slots) os (λ o. all-of (Outward g after) o.slots (λ s. value-stored s.value))) all)

  object-stays : (immune : Bool) (o : Object) → AllByRecursion P (object_cards g immune o) → AllByRecursion Q (object_cards after immune o)
  object-stays true o all = slots-stay o.place o.slots all
  object-stays false o all = tt

  -- the slot that is stored to
  slot-stored : (at : Place) → (is_outward g new.value ≡ true → AllByRecursion Q (cards_in at new.at.offset)) → AllByRecursion Q (cards_if (is_outward after new.value) at new.at.offset)
  slot-stored at noted = by (is_outward after new.value) (value-stored new.value)
    where
      by : (b : Bool) → (b ≡ true → is_outward g new.value ≡ true) → AllByRecursion Q (cards_if b at new.at.offset)
      by true was = noted (was refl)
      by false was = tt

  slots-stored-to : (at : Place) (ss : List Stored) → (is_outward g new.value ≡ true → AllByRecursion Q (cards_in at new.at.offset)) → AllByRecursion P (slot_cards g at ss) → AllByRecursion Q (slot_cards after at (with_stored ss new))
  slots-stored-to at [] noted all = all-join Q (cards_if (is_outward after new.value) at new.at.offset) [] (slot-stored at noted) tt
  slots-stored-to at (s ∷ ss) noted all =
      let here = cards_if (is_outward g s.value) at s.at.offset in
      let first = all-weaken P Q more (cards_if (is_outward after s.value) at s.at.offset) (one-fewer P (is_outward g s.value) (is_outward after s.value) at s.at.offset (value-stored s.value) (all-left P here (slot_cards g at ss) all)) in
      let rest = all-right P here (slot_cards g at ss) all in
      by (nat_eq s.at.offset new.at.offset) first (slots-stay at ss rest) (slots-stored-to at ss noted rest) (slot-stored at noted)
    where
      by : (b : Bool) → AllByRecursion Q (cards_if (is_outward after s.value) at s.at.offset) → AllByRecursion Q (slot_cards after at ss) → AllByRecursion Q (slot_cards after at (with_stored ss new))
          → AllByRecursion Q (cards_if (is_outward after new.value) at new.at.offset) → AllByRecursion Q (slot_cards after at (stored_if b new ss (with_stored ss new) s))
      by true first same rest stored = all-join Q (cards_if (is_outward after new.value) at new.at.offset) (slot_cards after at ss) stored same
      by false first same rest stored = all-join Q (cards_if (is_outward after s.value) at s.at.offset) (slot_cards after at (with_stored ss new)) first rest

  object-stored-to : (immune : Bool) (o : Object) → (immune ≡ true → is_outward g new.value ≡ true → AllByRecursion Q (cards_in o.place new.at.offset)) → AllByRecursion P (object_cards g immune o)
      → AllByRecursion Q (object_cards after immune (record o { slots = with_stored o.slots new }))
  object-stored-to true o noted all = slots-stored-to o.place o.slots (noted refl) all
  object-stored-to false o noted all = tt

  objects-stored-to : (low next : ℕ) (os : List Object) (o : Object) → AreRising low next os → find (λ x. nat_eq x.number n) os ≡ Some o
      → (is_immune g.sealed o.place ≡ true → is_outward g new.value ≡ true → AllByRecursion Q (cards_in o.place new.at.offset))
      → AllByRecursion P (flat_map (λ o. object_cards g (is_immune g.sealed o.place) o) os) → AllByRecursion Q (flat_map (λ o. object_cards after (is_immune g.sealed o.place) o) (stored_in os n new))
  objects-stored-to low next [] o rising found noted all = tt
  objects-stored-to low next (x ∷ os) o rising found noted all =
      let here = object_cards g (is_immune g.sealed x.place) x in
      let later = flat_map (λ o. object_cards g (is_immune g.sealed o.place) o) os in
      by (nat_eq x.number n) refl found (all-left P here later all) (all-right P here later all) (λ found. objects-stored-to (x.number + 1) next os o rising.1 found noted (all-right P here later all))
    where
      by : (b : Bool) → nat_eq x.number n ≡ b → cond b (Some x) (find (λ x. nat_eq x.number n) os) ≡ Some o → AllByRecursion P (object_cards g (is_immune g.sealed x.place) x)
          → AllByRecursion P (flat_map (λ o. object_cards g (is_immune g.sealed o.place) o) os)
          → (find (λ x. nat_eq x.number n) os ≡ Some o → AllByRecursion Q (flat_map (λ o. object_cards after (is_immune g.sealed o.place) o) (stored_in os n new)))
          → AllByRecursion Q (object_cards after (is_immune g.sealed (stored_in_if b x new).place) (stored_in_if b x new) ++ flat_map (λ o. object_cards after (is_immune g.sealed o.place) o) (stored_in os n new))
      by true e found here later rest =
          let number : x.number ≡ n = eqb-true x.number n e in
          let there : stored_in os n new ≡ os = stored_in-below (x.number + 1) next os n new (omega (arith, number)) rising.1 in
          let N : Object → Type 0 = λ y. is_immune g.sealed y.place ≡ true → is_outward g new.value ≡ true → AllByRecursion Q (cards_in y.place new.at.offset) in
          let F : List Object → List Card = λ ys. flat_map (λ o. object_cards after (is_immune g.sealed o.place) o) ys in
          all-join Q (object_cards after (is_immune g.sealed x.place) (record x { slots = with_stored x.slots new })) (F (stored_in os n new))
          (object-stored-to (is_immune g.sealed x.place) x (subst N (sym (same_Some x o found)) noted) here)
          (subst (λ ys. AllByRecursion Q (F ys)) (sym there) (objects-stay os later))
      by false e found here later rest =
          all-join Q (object_cards after (is_immune g.sealed x.place) x) (flat_map (λ o. object_cards after (is_immune g.sealed o.place) o) (stored_in os n new))
          (object-stays (is_immune g.sealed x.place) x here) (rest found)

  pub outward-stored : (o : Object) → AreRising 0 g.next g.objects → object_at g n ≡ Some o
      → (is_immune g.sealed o.place ≡ true → is_outward g new.value ≡ true → AllByRecursion Q (cards_in o.place new.at.offset))
      → AllByRecursion P (outward_cards g) → AllByRecursion Q (outward_cards after)
  outward-stored o rising found noted all = objects-stored-to 0 g.next g.objects o rising found noted all
