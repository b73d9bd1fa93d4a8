-- A collected graph stands where each kept object stands at its new address with its references turned.
use Rattle.std.proofs.Common.{◌≡◌, ◌∙◌, ◌⊎◌, ℕ, Bool, true, false, cond, List, [], ◌∷◌, refl, sym, ap, subst, inl, inr, filter, pos, true≢false}
use Rattle.std.specs.Prelude.{nat_eq, ◌||◌}
use Rattle.std.proofs.lemmas.Bool.{eq-eqb, eqb-true, cases_Bool}
use Rattle.class_layout.specs.declared.kind.Kind.{Kind}
use Rattle.class_layout.specs.declared.kind.Kind.TheVariants.{Ref}
use Rattle.class_layout.specs.declared.kind.FieldAt.{FieldAt}
use Rattle.class_layout.specs.ClassList.{Class}
use Rattle.class_layout.specs.Kinds.{is_ref}
use Rattle.class_layout.specs.Placing.{IsIn}
use Rattle.cow_pages.specs.View.{View}
use Rattle.heap_graph.specs.declared.names.Shape.{Shape}
use Rattle.heap_graph.specs.declared.names.Content.{Content}
use Rattle.heap_graph.specs.declared.names.Content.TheVariants as content
use Rattle.heap_graph.specs.declared.names.Stored.{Stored}
use Rattle.heap_graph.specs.Graph.{Graph, Object}
use Rattle.heap_graph.specs.Reach.{is_among}
use Rattle.heap_graph.specs.Values.{empty_slot, targets, value_at, value_if, with_target}
use Rattle.heap_graph.specs.Collection.{cleared, cleared_slots, clear_if, collect, if_kept}
use Rattle.heap_graph.specs.Paths.{numbers}
use Rattle.heap_graph.proofs.Lists.{any-flat_map, any-map}
use Rattle.heap_graph.proofs.Kept.{nothing_dangles}
use Rattle.heap_graph.proofs.Slots.{target_later}
use Rattle.heap_graph.specs.Formed.{AreSlots, FitsKind, IsFormed}
use Rattle.heap_world.proofs.FormedNumbers.{numbers-cleared}
use Rattle.heap_graph.specs.Places.{places_of}
use Rattle.heap_graph.proofs.Places.{object-in, one-place, slot-place, value-fits}
use Rattle.object_view.proofs.Laid.{ref-kind}
use Rattle.raw_objects.specs.Raws.{Raw, Raws, HoldsRaws, SameRaw}
use Rattle.raw_objects.specs.References.{address_in}
use Rattle.object_view.specs.Seen.{seen_value, value_in}
use Rattle.graph_pages.specs.Holds.{raw_under, HoldsGraph}
use Rattle.graph_pages.specs.Collected.{keeps, turned_by, AreTurned, Going}
use Rattle.graph_pages.proofs.Graphs.{raws-graph}
use Rattle.graph_pages.proofs.Lists.{any-from, any-to, filter-in, in-filter, in-map, map-in}

module _ (cs : List Class) (shape : Shape) (kept : List ℕ) (p : FieldAt) (there : IsIn p (places_of cs shape)) where
  -- what stands in the place is cleared as the place is weak
  value_at-cleared : (ss : List Stored) → AreSlots cs shape ss → value_at (cleared_slots kept ss) p ≡ clear_if p.weak kept (value_at ss p)
  value_at-cleared [] h = by (is_ref p.kind) p.weak
    where
      by : (b weak : Bool) → empty_slot b ≡ clear_if weak kept (empty_slot b)
      by true true = refl
      by true false = refl
      by false true = refl
      by false false = refl
  value_at-cleared (s ∷ ss) h = by (cases_Bool (nat_eq s.at.offset p.offset)) (value_at-cleared ss h.2)
    where
      by : (nat_eq s.at.offset p.offset ≡ true) ⊎ (nat_eq s.at.offset p.offset ≡ false) → value_at (cleared_slots kept ss) p ≡ clear_if p.weak kept (value_at ss p)
          → value_if (nat_eq s.at.offset p.offset) (clear_if s.at.weak kept s.value) (value_at (cleared_slots kept ss) p) ≡ clear_if p.weak kept (value_if (nat_eq s.at.offset p.offset) s.value (value_at ss p))
      by (inl e) rest =
          let same : s.at ≡ p = one-place cs shape s.at p (slot-place cs shape s.at h.0) there (eqb-true s.at.offset p.offset e) in
          ap (λ b. value_if b (clear_if s.at.weak kept s.value) (value_at (cleared_slots kept ss) p)) e ∙ ap (λ (q : FieldAt). clear_if q.weak kept s.value) same
          ∙ sym (ap (λ b. clear_if p.weak kept (value_if b s.value (value_at ss p))) e)
      by (inr e) rest = ap (λ b. value_if b (clear_if s.at.weak kept s.value) (value_at (cleared_slots kept ss) p)) e ∙ rest ∙ sym (ap (λ b. clear_if p.weak kept (value_if b s.value (value_at ss p))) e)

-- what a place holds is a target
pub held-target : (ss : List Stored) (p : FieldAt) (n : ℕ) → value_at ss p ≡ content.Object n → is_among (targets ss) n ≡ true
held-target [] p n is = by (is_ref p.kind) is
  where
    by : (b : Bool) → empty_slot b ≡ content.Object n → is_among [] n ≡ true
    by true is = cc
    by false is = cc
held-target (s ∷ ss) p n is = by (nat_eq s.at.offset p.offset) is (held-target ss p n)
  where
    by : (b : Bool) → value_if b s.value (value_at ss p) ≡ content.Object n → (value_at ss p ≡ content.Object n → is_among (targets ss) n ≡ true) → is_among (with_target s.value (targets ss)) n ≡ true
    by true is rest = subst (λ (v : Content). is_among (with_target v (targets ss)) n ≡ true) (sym is) (ap (λ b. b || is_among (targets ss) n) (eq-eqb n n refl))
    by false is rest = target_later s.value (targets ss) n (rest is)

module _ (g : Graph) (formed : IsFormed g) (table next go : ℕ → ℕ) (going : Going g table next go) where
  abbrev kept : List ℕ
  kept = numbers (filter (keeps g) g.objects)

  pub numbered : (n : ℕ) → is_among (numbers g.objects) n ≡ true → (o : Object) × IsIn o g.objects × (o.number ≡ n)
  numbered n is =
      let it = any-from (λ o. nat_eq n o.number) g.objects (sym (any-map (λ o. o.number) (nat_eq n) g.objects) ∙ is) in
      (it.0, it.1, sym (eqb-true n it.0.number it.2))

  -- a number is among the kept ones exactly where its object is kept
  goes-kept : (n : ℕ) → is_among kept n ≡ true → go (table n) ≡ next n
  goes-kept n is =
      let it = any-from (λ o. nat_eq n o.number) (filter (keeps g) g.objects) (sym (any-map (λ o. o.number) (nat_eq n) (filter (keeps g) g.objects)) ∙ is) in
      let there = in-filter (keeps g) g.objects it.0 it.1 in
      subst (λ m. go (table m) ≡ next m) (sym (eqb-true n it.0.number it.2)) (going.kept it.0 there.0 there.1)

  goes-dead : (n : ℕ) → is_among (numbers g.objects) n ≡ true → is_among kept n ≡ false → go (table n) ≡ 0
  goes-dead n is none =
      let it = numbered n is in
      elim (cases_Bool (keeps g it.0)) [
        | inl e ↦ absurd (true≢false (sym (any-map (λ o. o.number) (nat_eq n) (filter (keeps g) g.objects)
            ∙ any-to (λ o. nat_eq n o.number) (filter (keeps g) g.objects) it.0 (filter-in (keeps g) g.objects it.0 it.1 e) (eq-eqb n it.0.number (sym it.2))) ∙ none))
        | inr e ↦ subst (λ m. go (table m) ≡ 0) it.2 (going.dead it.0 it.1 e)
      ]

  -- what a slot is after the collection is what its value went to
  slot-turned : (weak : Bool) (s : Content) → ((n : ℕ) → s ≡ content.Object n → is_among (numbers g.objects) n ≡ true)
      → ((n : ℕ) → clear_if weak kept s ≡ content.Object n → is_among kept n ≡ true) → FitsKind Ref s → seen_value next (clear_if weak kept s) ≡ pos (go (address_in (seen_value table s)))
  slot-turned weak (content.Number z) known closed fits = absurd (true≢false (sym fits))
  slot-turned true content.Null known closed fits = ap (λ n. pos n) (sym going.null)
  slot-turned false content.Null known closed fits = ap (λ n. pos n) (sym going.null)
  slot-turned false (content.Object n) known closed fits = ap (λ m. pos m) (sym (goes-kept n (closed n refl)))
  slot-turned true (content.Object n) known closed fits = by (is_among kept n) refl
    where
      by : (b : Bool) → is_among kept n ≡ b → seen_value next (if_kept b n) ≡ pos (go (table n))
      by true e = ap (λ m. pos m) (sym (goes-kept n e))
      by false e = ap (λ m. pos m) (sym (goes-dead n (known n refl) e))

  plain-turned : (weak : Bool) (kind : Kind) (s : Content) → is_ref kind ≡ false → FitsKind kind s → seen_value next (clear_if weak kept s) ≡ seen_value table s
  plain-turned true kind (content.Number z) is fits = refl
  plain-turned false kind (content.Number z) is fits = refl
  plain-turned weak kind content.Null is fits = absurd (true≢false (sym fits ∙ is))
  plain-turned weak kind (content.Object n) is fits = absurd (true≢false (sym fits ∙ is))

  -- an object that is kept
  one-collected : (o : Object) → IsIn o g.objects → keeps g o ≡ true → SameRaw g.classes (record (raw_under table o) { values = λ p. turned_by go p (value_in table o p) }) (raw_under next (cleared kept o))
  one-collected o o_in keep = record {
    shape = refl;
    header = refl;
    values = λ p within.
        let slots = (object-in g.classes g.objects o formed.objects o_in).1 in
        let fits = value-fits g o p formed o_in within in
        let clear = value_at-cleared g.classes o.shape kept p within o.slots slots in
        ap (seen_value next) clear ∙ by p (value_at o.slots p) (is_ref p.kind) refl fits
        (λ n is. formed.closed.slots n (any-flat_map (λ q. targets q.slots) (nat_eq n) g.objects ∙ any-to (λ q. is_among (targets q.slots) n) g.objects o o_in (held-target o.slots p n is)))
        (λ n is. closed-kept n (held-target (cleared_slots kept o.slots) p n (clear ∙ is)));
  }
    where
      closed-kept : (n : ℕ) → is_among (targets (cleared_slots kept o.slots)) n ≡ true → is_among kept n ≡ true
      closed-kept n is =
          let there : IsIn (cleared kept o) (collect g).objects = map-in (cleared kept) (filter (keeps g) g.objects) o (filter-in (keeps g) g.objects o o_in keep) in
          let stays = (nothing_dangles g formed.closed).slots n (any-flat_map (λ q. targets q.slots) (nat_eq n) (collect g).objects ∙ any-to (λ q. is_among (targets q.slots) n) (collect g).objects (cleared kept o) there is) in
          ap (λ ns. is_among ns n) (sym (numbers-cleared kept (filter (keeps g) g.objects))) ∙ stays

      by : (p : FieldAt) (s : Content) (b : Bool) → is_ref p.kind ≡ b → FitsKind p.kind s → ((n : ℕ) → s ≡ content.Object n → is_among (numbers g.objects) n ≡ true)
          → ((n : ℕ) → clear_if p.weak kept s ≡ content.Object n → is_among kept n ≡ true) → seen_value next (clear_if p.weak kept s) ≡ cond b (pos (go (address_in (seen_value table s)))) (seen_value table s)
      by p s true e fits known closed = slot-turned p.weak s known closed (subst (λ (k : Kind). FitsKind k s) (ref-kind p.kind e) fits)
      by p s false e fits known closed = plain-turned p.weak p.kind s e fits

  same-after : (r x y : Raw) → SameRaw g.classes r x → SameRaw g.classes x y → SameRaw g.classes r y
  same-after r x y one two = record {
    shape = two.shape ∙ one.shape;
    header = two.header ∙ one.header;
    values = λ p within. two.values p (subst (λ (s : Shape). IsIn p (places_of g.classes s)) (sym one.shape) within) ∙ one.values p within;
  }

  -- all of them
  pub graph-collected : (w : View) (raws : Raws) → HoldsRaws g.classes w raws → AreTurned g raws table next go → HoldsGraph g.classes w next (collect g).objects
  graph-collected w raws h turned = raws-graph g.classes w raws next (collect g).objects h (λ q q_in.
      let it = in-map (cleared kept) (filter (keeps g) g.objects) q q_in in
      let o : Object = it.0 in
      let there = in-filter (keeps g) g.objects o it.1 in
      let stands = turned o there.0 there.1 in
      subst (λ (p : Object). (raws.has (next p.number) ≡ true) × SameRaw g.classes (raws.raw (next p.number)) (raw_under next p)) it.2
      (stands.0, same-after (raws.raw (next o.number)) (record (raw_under table o) { values = λ p. turned_by go p (value_in table o p) }) (raw_under next (cleared kept o)) stands.1 (one-collected o there.0 there.1)))
