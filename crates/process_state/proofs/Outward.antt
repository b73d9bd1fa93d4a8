-- Between the references that lead out in memory and the outward slots of the graph, with their cards.
use Rattle.std.proofs.Common.{◌≡◌, ◌∙◌, ℕ, ◌+◌, ◌-◌, ◌/◌, ◌<◌, ◌≤◌, Bool, true, false, cond, not, List, [], ◌∷◌, Option, None, Some, nat_eq, refl, sym, ap, subst, inl, inr, arith, true≢false, pos}
use Rattle.std.specs.Prelude.{◌||◌, ◌&&◌}
use Rattle.std.specs.List.{find, AllByRecursion}
use Rattle.std.proofs.lemmas.Bool.{cases_Bool, eq-eqb, eqb-true, ne_eqb, or_left}
use Rattle.model_numbers.specs.Numbers.{card_bytes}
use Rattle.card_table.specs.CardSet.{card_of}
use Rattle.class_layout.specs.declared.kind.FieldAt.{FieldAt}
use Rattle.class_layout.specs.ClassList.{Class}
use Rattle.class_layout.specs.Kinds.{is_ref}
use Rattle.class_layout.specs.Placing.{IsIn}
use Rattle.cow_pages.specs.Memory.{Memory}
use Rattle.heap_graph.specs.declared.names.Content.{Content}
use Rattle.heap_graph.specs.declared.names.Content.TheVariants as content
use Rattle.heap_graph.specs.declared.names.Place.{Place}
use Rattle.heap_graph.specs.declared.names.Shape.{Shape}
use Rattle.heap_graph.specs.declared.names.Stored.{Stored}
use Rattle.heap_graph.specs.Formed.{AreRising, AreSlots, FitsKind}
use Rattle.heap_graph.specs.Graph.{is_immune, Graph, Object}
use Rattle.heap_graph.specs.Places.{places_of}
use Rattle.heap_graph.specs.Sizes.{size_in}
use Rattle.heap_graph.specs.Values.{empty_slot, value_at, value_if}
use Rattle.heap_graph.proofs.Places.{bytes-low, laid-in, object-in, slot-place, stored-slot, value-fits}
use Rattle.heap_world.specs.declared.names.Card.{Card}
use Rattle.heap_world.specs.Cards.{cards_in, is_outward, loose_if, outward_cards}
use Rattle.heap_world.specs.Part.{Part}
use Rattle.world_laws.proofs.OutwardPages.{cards_one}
use Rattle.object_view.specs.declared.names.Slot.{Slot}
use Rattle.object_view.specs.Seen.{seen_value, value_in}
use Rattle.object_view.proofs.Laid.{places-laid, ref-kind, size-bounds}
use Rattle.raw_objects.specs.Raws.{Raw}
use Rattle.raw_objects.specs.References.{in_regions}
use Rattle.address_table.specs.Computed.{Homes}
use Rattle.address_table.proofs.Behind.{rising-in}
use Rattle.large_objects.specs.declared.rows.LargeRow.{LargeRow}
use Rattle.large_objects.specs.Rows.{row_at, AreRows}
use Rattle.live_objects.specs.Reach.{in_large, is_mortal, waits_in}
use Rattle.live_objects.proofs.MarkLemmas.{immune-off}
use Rattle.graph_pages.proofs.Lists.{any-to}
use Rattle.mod_union.specs.ModUnion.{is_outside, stays_out, IsOutwardSlot}
use Rattle.evacuate.specs.Stands.{homes_in}
use Rattle.evacuate.proofs.Stand.{are-rows, mortal-is}
use Rattle.process_state.specs.Slots.{raws_in}
use Rattle.process_state.specs.Stands.{StandsIn}
use Rattle.process_state.specs.State.{addresses_in, State}
use Rattle.process_state.proofs.Spaces.{in-space, place-of, reference, to-space, IsWindow, SpotWindow}

-- an object is found by its number
found-object : (low next : ℕ) (os : List Object) (q : Object) → AreRising low next os → IsIn q os → find (λ (x : Object). nat_eq x.number q.number) os ≡ Some q
found-object low next [] q rising none = absurd none
found-object low next (x ∷ os) q rising (inl e) =
    subst (λ (y : Object). find (λ (x : Object). nat_eq x.number y.number) (x ∷ os) ≡ Some y) e
    (ap (λ b. cond b (Some x) (find (λ (y : Object). nat_eq y.number x.number) os)) (eq-eqb x.number x.number refl))
found-object low next (x ∷ os) q rising (inr later) =
    let above = rising-in (x.number + 1) next os q rising.1 later in
    ap (λ b. cond b (Some x) (find (λ (y : Object). nat_eq y.number q.number) os)) (ne_eqb x.number q.number (λ e. omega (arith, above, e)))
    ∙ found-object (x.number + 1) next os q rising.1 later

-- an object that a place holds was stored there
found-stored : (ss : List Stored) (at : FieldAt) (n : ℕ) → value_at ss at ≡ content.Object n → (st : Stored) × IsIn st ss × (st.at.offset ≡ at.offset) × (st.value ≡ content.Object n)
found-stored [] at n is = absurd (by (is_ref at.kind) is)
  where
    by : (b : Bool) → empty_slot b ≡ content.Object n → ⊥
    by true e = cc
    by false e = cc
found-stored (s ∷ ss) at n is = by (nat_eq s.at.offset at.offset) refl is (found-stored ss at n)
  where
    by : (b : Bool) → nat_eq s.at.offset at.offset ≡ b → value_if b s.value (value_at ss at) ≡ content.Object n
        → (value_at ss at ≡ content.Object n → (st : Stored) × IsIn st ss × (st.at.offset ≡ at.offset) × (st.value ≡ content.Object n))
        → (st : Stored) × IsIn st (s ∷ ss) × (st.at.offset ≡ at.offset) × (st.value ≡ content.Object n)
    by true e is rest = (s, inl refl, eqb-true s.at.offset at.offset e, is)
    by false e is rest = let it = rest is in (it.0, inr it.1, it.2, it.3)

-- what was stored stands in its place
stored-value : (cs : List Class) (shape : Shape) (ss : List Stored) (st : Stored) → AreSlots cs shape ss → IsIn st ss → value_at ss st.at ≡ st.value
stored-value cs shape [] st slots none = absurd none
stored-value cs shape (s ∷ ss) st slots (inl e) =
    subst (λ (x : Stored). value_at (s ∷ ss) x.at ≡ x.value) e (ap (λ b. value_if b s.value (value_at ss s.at)) (eq-eqb s.at.offset s.at.offset refl))
stored-value cs shape (s ∷ ss) st slots (inr later) = elim (cases_Bool (nat_eq s.at.offset st.at.offset)) [
  | inl same ↦
      let again = any-to (λ (r : Stored). nat_eq r.at.offset s.at.offset) ss st later (eq-eqb st.at.offset s.at.offset (sym (eqb-true s.at.offset st.at.offset same))) in
      absurd (true≢false (sym again ∙ slots.1))
  | inr other ↦ ap (λ b. value_if b s.value (value_at ss st.at)) other ∙ stored-value cs shape ss st slots.2 later
]

same-stay : (row : Option LargeRow) → stays_out row ≡ waits_in row
same-stay None = refl
same-stay (Some row) = refl

module _ (s : State) (m : Memory) (p : Part) (k : StandsIn s m p) (sealed : p.graph.sealed ≡ true) where
  abbrev g : Graph
  g = p.graph

  abbrev homes : Homes
  homes = homes_in s.regions.in_use s.rows

  abbrev table : ℕ → ℕ
  table = addresses_in s p.graph

  abbrev IsOut : (Place → Bool) → Slot → Type 0
  IsOut test slot = IsOutwardSlot s.classes (raws_in test s p.graph) s.rows slot

  -- what isn't immune, in both words for it
  pub outside-is : (a : ℕ) → is_outside s.rows a ≡ is_mortal s.rows a
  outside-is a = elim (cases_Bool (in_large a)) [
    | inl inside ↦ ap (λ b. in_regions a || (b && stays_out (row_at s.rows a))) inside ∙ ap (λ b. in_regions a || b) (same-stay (row_at s.rows a))
    | inr off ↦ elim (cases_Bool (in_regions a)) [
      | inl young ↦ or_left _ _ young ∙ sym (or_left _ _ young)
      | inr old ↦
          ap (λ b. b || (in_large a && stays_out (row_at s.rows a))) old ∙ ap (λ b. b && stays_out (row_at s.rows a)) off
          ∙ sym (immune-off s.rows a (subst AreRows (sym k.heap.stands.rows) (are-rows homes g k.heap.formed k.heap.house)) old off)
    ]
  ]

  pub mortal-of : (q : Object) → IsIn q p.graph.objects → is_mortal s.rows (addresses_in s p.graph q.number) ≡ not (is_immune true q.place)
  mortal-of q there = ap (λ (rs : List LargeRow). is_mortal rs (table q.number)) k.heap.stands.rows ∙ mortal-is homes g k.heap.formed k.heap.house q there

  outward-of : (q : Object) (v : Content) → IsIn q p.graph.objects → v ≡ content.Object q.number → is_outward p.graph v ≡ not (is_immune true q.place)
  outward-of q v there e =
      ap (is_outward g) e ∙ ap (λ found. loose_if found g.sealed) (found-object 0 g.next g.objects q k.heap.formed.numbers there) ∙ ap (λ b. not (is_immune b q.place)) sealed

  -- the stored reference of a slot
  pub record StoredOut (test : Place → Bool) (slot : Slot) : Type 0 where
    pub object : Object
    pub is_in : IsIn object p.graph.objects
    pub here : test object.place ≡ true
    pub stored : Stored
    pub there : IsIn stored object.slots
    pub out : is_outward p.graph stored.value ≡ true
    pub at_is : slot.at.0 ≡ addresses_in s p.graph object.number + stored.at.offset

  pub stored-out : (test : Place → Bool) (slot : Slot) → IsOutwardSlot s.classes (raws_in test s p.graph) s.rows slot → StoredOut test slot
  stored-out test slot is =
      let it = in-space s m p k test is.object is.has in
      let o : Object = it.object in
      let within = place-of s m p k ((raws_in test s p.graph).raw is.object) o is.place it.raw_is is.is_in in
      let value : pos slot.target.0 ≡ value_in table o is.place = is.target_is ∙ ap (λ (r : Raw). r.values is.place) it.raw_is in
      elim (reference s m p k o is.place it.is_in within is.kind_is) [
        | inl null ↦
            let none : pos slot.target.0 ≡ pos 0 = value ∙ ap (seen_value table) null in
            let zero_is : slot.target.0 ≡ 0 = cc in
            absurd (true≢false (sym is.outside ∙ ap (is_outside s.rows) zero_is))
        | inr q ↦
            let same : pos slot.target.0 ≡ pos (table q.0.number) = value ∙ ap (seen_value table) q.2 in
            let target : slot.target.0 ≡ table q.0.number = cc in
            let st = found-stored o.slots is.place q.0.number q.2 in
            record {
              object = o;
              is_in = it.is_in;
              here = it.here;
              stored = st.0;
              there = st.1;
              out = outward-of q.0 st.0.value q.1 st.3 ∙ sym (mortal-of q.0 q.1) ∙ ap (is_mortal s.rows) (sym target) ∙ sym (outside-is slot.target.0) ∙ is.outside;
              at_is = omega (arith, is.at_is, it.at_is, st.2);
            }
      ]

  -- the slot of a stored reference
  pub slot-out : (test : Place → Bool) (o : Object) (st : Stored) → IsIn o p.graph.objects → test o.place ≡ true → IsIn st o.slots → is_outward p.graph st.value ≡ true
      → (slot : Slot) × IsOutwardSlot s.classes (raws_in test s p.graph) s.rows slot × (slot.at.0 ≡ addresses_in s p.graph o.number + st.at.offset)
  slot-out test o st there here stored out = by st.value refl out
    where
      is-place : IsIn st.at (places_of g.classes o.shape)
      is-place = slot-place g.classes o.shape st.at (stored-slot g o st k.heap.formed there stored)

      value : value_at o.slots st.at ≡ st.value
      value = stored-value g.classes o.shape o.slots st (object-in g.classes g.objects o k.heap.formed.objects there).1 stored

      by : (v : Content) → st.value ≡ v → is_outward p.graph v ≡ true → (slot : Slot) × IsOut test slot × (slot.at.0 ≡ table o.number + st.at.offset)
      by (content.Number z) e out = absurd (true≢false (sym out))
      by content.Null e out = absurd (true≢false (sym out))
      by (content.Object n) e out =
          let fit : FitsKind st.at.kind (content.Object n) = subst (FitsKind st.at.kind) (value ∙ e) (value-fits g o st.at k.heap.formed there is-place) in
          let kind = ref-kind st.at.kind fit in
          elim (reference s m p k o st.at there is-place kind) [
            | inl null ↦ (let not : content.Null ≡ content.Object n = sym null ∙ value ∙ e in absurd cc)
            | inr q ↦
                let raw = to-space s m p k test o there here in
                let at : ℕ = table o.number in
                let slot : Slot = record { at = record { 0 = table o.number + st.at.offset }; target = record { 0 = table q.0.number }; weak = st.at.weak } in
                let is : IsOut test slot = record {
                  object = table o.number;
                  place = st.at;
                  has = raw.0;
                  is_in = subst (λ cs. IsIn st.at (places_of cs ((raws_in test s p.graph).raw (table o.number)).shape)) (sym k.heap.stands.classes)
                      (subst (λ (r : Raw). IsIn st.at (places_of g.classes r.shape)) (sym raw.1) is-place);
                  kind_is = kind;
                  at_is = refl;
                  target_is = sym (ap (λ (r : Raw). r.values st.at) raw.1 ∙ ap (seen_value table) q.2);
                  weak_is = refl;
                  outside = outside-is (table q.0.number) ∙ mortal-of q.0 q.1 ∙ sym (outward-of q.0 st.value q.1 (sym value ∙ q.2)) ∙ ap (is_outward g) e ∙ out;
                } in
                (slot, is, refl)
          ]

  -- IN A WINDOW

  module _ (w : SpotWindow) (is_window : IsWindow s m p k w) where
    -- a slot lies in it
    pub slot-lies : (slot : Slot) → IsOutwardSlot s.classes (raws_in w.has s p.graph) s.rows slot → (w.base ≤ slot.at.0) × (slot.at.0 < w.base + w.bytes)
    slot-lies slot is =
        let it = in-space s m p k w.has is.object is.has in
        let o : Object = it.object in
        let spot = is_window.spots o it.is_in it.here in
        let within = place-of s m p k ((raws_in w.has s p.graph).raw is.object) o is.place it.raw_is is.is_in in
        let lies = laid-in _ _ (places_of g.classes o.shape) is.place (places-laid g.classes o.shape) within in
        let size = size-bounds g.classes o.shape in
        let end : is.place.offset < size_in g.classes o.shape = omega (arith, lies.2, size.1, bytes-low is.place.kind) in
        (omega (arith, is.at_is, it.at_is, spot.low), omega (arith, is.at_is, it.at_is, spot.high, end))

    -- its card is one of the graph's
    pub slot-card : (P : Card → Type 0) (slot : Slot) → IsOutwardSlot s.classes (raws_in w.has s p.graph) s.rows slot → AllByRecursion P (outward_cards p.graph)
        → (n : ℕ) × (card_of w.base + n ≡ card_of slot.at.0) × P (w.card n)
    slot-card P slot is all =
        let it = stored-out w.has slot is in
        let o : Object = it.object in
        let spot = is_window.spots o it.is_in it.here in
        let here = subst (AllByRecursion P) (spot.cards it.stored.at.offset)
        (cards_one P g g.objects o it.stored all it.is_in it.there (ap (λ b. is_immune b o.place) sealed ∙ spot.immune) it.out) in
        ((table o.number + it.stored.at.offset - w.base) / card_bytes, omega (arith, it.at_is, spot.low, is_window.aligned), here.0)

    -- and one of the graph's is that of a slot
    pub card-slots : (P : Card → Type 0) → ((slot : Slot) (n : ℕ) → IsOutwardSlot s.classes (raws_in w.has s p.graph) s.rows slot → card_of w.base + n ≡ card_of slot.at.0 → P (w.card n))
        → (o : Object) (st : Stored) → IsIn o p.graph.objects → w.has o.place ≡ true → IsIn st o.slots → is_outward p.graph st.value ≡ true → AllByRecursion P (cards_in o.place st.at.offset)
    card-slots P each o st there here stored out =
        let it = slot-out w.has o st there here stored out in
        let spot = is_window.spots o there here in
        subst (AllByRecursion P) (sym (spot.cards st.at.offset))
        (each it.0 ((table o.number + st.at.offset - w.base) / card_bytes) it.1 (omega (arith, it.2, spot.low, is_window.aligned)), tt)
