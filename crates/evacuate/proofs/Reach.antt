-- What is reached in a graph is reached among the raw objects that stand for it.
use Rattle.std.proofs.Common.{◌≡◌, ◌∙◌, ◌↔◌, ℕ, ◌+◌, Bool, true, false, not, List, [], ◌∷◌, map, refl, sym, ap, subst, inl, inr, true≢false, pos}
use Rattle.std.specs.Prelude.{nat_eq, filter}
use Rattle.std.specs.List.{Contains}
use Rattle.std.proofs.lemmas.Bool.{and_from, and_parts, cases_Bool, eq-eqb, eqb-true, ne_eqb}
use Rattle.std.proofs.lemmas.List.Elements.{Contains-append_cases, Contains-append_left, Contains-append_right}
use Rattle.class_layout.specs.ClassList.{Class}
use Rattle.class_layout.specs.declared.kind.Kind.TheVariants.{Ref}
use Rattle.class_layout.specs.declared.kind.FieldAt.{FieldAt}
use Rattle.class_layout.specs.Kinds.{is_ref}
use Rattle.class_layout.specs.Placing.{IsIn}
use Rattle.cow_pages.specs.Memory.{Memory}
use Rattle.heap_graph.specs.declared.names.Content.{Content}
use Rattle.heap_graph.specs.declared.names.Content.TheVariants as content
use Rattle.heap_graph.specs.declared.names.Held.{Held}
use Rattle.heap_graph.specs.declared.names.Held.TheVariants as held
use Rattle.heap_graph.specs.declared.names.Root.{Root}
use Rattle.heap_graph.specs.declared.names.Shape.{Shape}
use Rattle.heap_graph.specs.declared.names.Stored.{Stored}
use Rattle.heap_graph.specs.Formed.{AreSlots, FitsKind}
use Rattle.heap_graph.specs.Graph.{is_immune, Graph, Object}
use Rattle.heap_graph.specs.Paths.{HoldsStrongly, IsPathTo, IsStart}
use Rattle.heap_graph.specs.Places.{places_of}
use Rattle.heap_graph.specs.Reach.{is_among, reached}
use Rattle.heap_graph.specs.Values.{empty_slot, value_at, value_if}
use Rattle.heap_graph.proofs.Places.{object-in, one-place, slot-place, stored-slot, value-fits}
use Rattle.heap_graph.proofs.Reached.{reached-is}
use Rattle.object_view.specs.declared.names.Slot.{Slot}
use Rattle.object_view.specs.Seen.{root_address, seen_value, value_in}
use Rattle.object_view.proofs.Laid.{ref-kind}
use Rattle.raw_objects.specs.Raws.{Raw, Raws}
use Rattle.address_table.specs.Computed.{table_of}
use Rattle.address_table.proofs.Fitting.{fits}
use Rattle.graph_pages.specs.Holds.{raw_under}
use Rattle.graph_pages.proofs.Lists.{any-to, filter-in, in-filter, in-map, map-in}
use Rattle.live_objects.specs.Live.{addresses}
use Rattle.live_objects.specs.Reach.{is_mortal, is_node, is_strong, starts_of, Holds, Path, Reached}
use Rattle.object_collection.specs.Collects.{HeapState, IsReached, LeadsOut}
use Rattle.evacuate.specs.Stands.{homes_of, raws_of, KeepsGraph}
use Rattle.evacuate.proofs.Found.{held-one, null-not, numbered, object-at, raw-there, target}
use Rattle.evacuate.proofs.Members.{contains-in, in-contains}
use Rattle.evacuate.proofs.Stand.{mortal-is}

-- what a place holds was stored there
stored-there : (ss : List Stored) (p : FieldAt) (n : ℕ) → value_at ss p ≡ content.Object n → (s : Stored) × IsIn s ss × (s.at.offset ≡ p.offset) × (s.value ≡ content.Object n)
stored-there [] p n is = absurd (by (is_ref p.kind) is)
  where
    by : (b : Bool) → empty_slot b ≡ content.Object n → ⊥
    by true is = cc
    by false is = cc
stored-there (s ∷ ss) p n is = by (nat_eq s.at.offset p.offset) refl is (stored-there ss p n)
  where
    by : (b : Bool) → nat_eq s.at.offset p.offset ≡ b → value_if b s.value (value_at ss p) ≡ content.Object n
        → (value_at ss p ≡ content.Object n → (r : Stored) × IsIn r ss × (r.at.offset ≡ p.offset) × (r.value ≡ content.Object n))
        → (r : Stored) × IsIn r (s ∷ ss) × (r.at.offset ≡ p.offset) × (r.value ≡ content.Object n)
    by true e is rest = (s, inl refl, eqb-true s.at.offset p.offset e, is)
    by false e is rest = let it = rest is in (it.0, inr it.1, it.2, it.3)

-- and what was stored is held there
value-stored : (cs : List Class) (shape : Shape) (ss : List Stored) (s : Stored) → AreSlots cs shape ss → IsIn s ss → value_at ss s.at ≡ s.value
value-stored cs shape [] s slots none = absurd none
value-stored cs shape (r ∷ ss) s slots (inl e) =
    subst (λ (x : Stored). value_at (r ∷ ss) x.at ≡ x.value) e (ap (λ b. value_if b r.value (value_at ss r.at)) (eq-eqb r.at.offset r.at.offset refl))
value-stored cs shape (r ∷ ss) s slots (inr later) =
    let other : nat_eq r.at.offset s.at.offset ≡ false = ne_eqb r.at.offset s.at.offset (λ same. true≢false (
    sym (any-to (λ (x : Stored). nat_eq x.at.offset r.at.offset) ss s later (eq-eqb s.at.offset r.at.offset (sym same))) ∙ slots.1)) in
    ap (λ b. value_if b r.value (value_at ss s.at)) other ∙ value-stored cs shape ss s slots.2 later

not-flips : (b : Bool) → not b ≡ true → b ≡ false
not-flips true e = absurd (true≢false (sym e))
not-flips false e = refl

not-true : (b : Bool) → not b ≡ false → b ≡ true
not-true true e = refl
not-true false e = absurd (true≢false e)

module _ (h : HeapState) (m : Memory) (t : ℕ) (g : Graph) (keeps : KeepsGraph h m t g) where
  abbrev table : ℕ → ℕ
  table = table_of (homes_of h) g

  abbrev raws : Raws
  raws = raws_of (homes_of h) g

  -- an object is mortal where it isn't immune
  pub mortal : (o : Object) → IsIn o g.objects → is_mortal h.rows (table_of (homes_of h) g o.number) ≡ not (is_immune g.sealed o.place)
  mortal o there =
      ap (λ rows. is_mortal rows (table o.number)) keeps.heap.stands.rows ∙ mortal-is (homes_of h) g keeps.heap.formed keeps.heap.house o there
      ∙ ap (λ b. not (is_immune b o.place)) (sym keeps.is_sealed)

  pub is-node : (o : Object) → IsIn o g.objects → is_immune g.sealed o.place ≡ false → is_node h.rows (raws_of (homes_of h) g) (table_of (homes_of h) g o.number) ≡ true
  is-node o there free = and_from _ _ (raw-there (homes_of h) g keeps.heap.formed keeps.heap.house o there).0 (mortal o there ∙ ap not free)

  -- an object that isn't immune
  pub record NodeAt (a : ℕ) : Type 0 where
    pub object : Object
    pub is_in : IsIn object g.objects
    pub at_is : table_of (homes_of h) g object.number ≡ a
    pub free : is_immune g.sealed object.place ≡ false

  pub node-at : (a : ℕ) → is_node h.rows (raws_of (homes_of h) g) a ≡ true → NodeAt a
  node-at a node =
      let parts = and_parts (raws.has a) (is_mortal h.rows a) node in
      let it = object-at (homes_of h) g keeps.heap.formed keeps.heap.house a parts.0 in
      record {
        object = it.object;
        is_in = it.is_in;
        at_is = it.at_is;
        free = not-flips _ (sym (mortal it.object it.is_in) ∙ subst (λ b. is_mortal h.rows b ≡ true) (sym it.at_is) parts.1);
      }

  -- a strong slot, and its place
  strong-place : (o : Object) (n : ℕ) → IsIn o g.objects → (strong : HoldsStrongly o n) → IsIn strong.0.at (places_of g.classes o.shape) × (strong.0.at.kind ≡ Ref) × (value_in table o strong.0.at ≡ pos (table n))
  strong-place o n there strong =
      let s : Stored = strong.0 in
      let within : IsIn s.at (places_of g.classes o.shape) = slot-place g.classes o.shape s.at (stored-slot g o s keeps.heap.formed there strong.1) in
      let is : value_at o.slots s.at ≡ content.Object n = value-stored g.classes o.shape o.slots s (object-in g.classes g.objects o keeps.heap.formed.objects there).1 strong.1 ∙ strong.3 in
      (within, ref-kind s.at.kind (subst (λ (c : Content). FitsKind s.at.kind c) is (value-fits g o s.at keeps.heap.formed there within)), ap (seen_value table) is)

  holds-strongly : (o : Object) (p : FieldAt) (n : ℕ) → IsIn o g.objects → IsIn p (places_of g.classes o.shape) → p.weak ≡ false → value_at o.slots p ≡ content.Object n → HoldsStrongly o n
  holds-strongly o p n there within strong is =
      let it = stored-there o.slots p n is in
      let s : Stored = it.0 in
      let same : s.at ≡ p = one-place g.classes o.shape s.at p (slot-place g.classes o.shape s.at (stored-slot g o s keeps.heap.formed there it.1)) within it.2 in
      (s, it.1, ap (λ (q : FieldAt). q.weak) same ∙ strong, it.3)

  -- one object holds another
  holds-from : (o q : Object) → IsIn o g.objects → IsIn q g.objects → is_immune g.sealed q.place ≡ false → HoldsStrongly o q.number → Holds g.classes h.rows raws (table o.number) (table q.number)
  holds-from o q o_in q_in free strong =
      let it = strong-place o q.number o_in strong in
      let raw = (raw-there (homes_of h) g keeps.heap.formed keeps.heap.house o o_in).1 in
      record {
        place = strong.0.at;
        is_in = subst (λ (r : Raw). IsIn strong.0.at (places_of g.classes r.shape)) (sym raw) it.0;
        kind_is = it.1;
        strong = strong.2;
        target_is = ap (λ (r : Raw). r.values strong.0.at) raw ∙ it.2;
        node = is-node q q_in free;
      }

  holds-to : (o : Object) (b : ℕ) → IsIn o g.objects → Holds g.classes h.rows raws (table o.number) b → (n : NodeAt b) × HoldsStrongly o n.object.number
  holds-to o b there it =
      let raw = (raw-there (homes_of h) g keeps.heap.formed keeps.heap.house o there).1 in
      let within : IsIn it.place (places_of g.classes o.shape) = subst (λ (r : Raw). IsIn it.place (places_of g.classes r.shape)) raw it.is_in in
      let node = node-at b it.node in
      let has : raws.has b ≡ true = (and_parts (raws.has b) (is_mortal h.rows b) it.node).0 in
      let to = target (homes_of h) g keeps.heap.formed keeps.heap.house o it.place b there within it.kind_is (sym (ap (λ (r : Raw). r.values it.place) raw) ∙ it.target_is) has in
      let same : to.object ≡ node.object = (fits (homes_of h) g keeps.heap.formed keeps.heap.house).apart to.object node.object to.is_in node.is_in (to.at_is ∙ sym node.at_is) in
      (node, subst (λ (q : Object). HoldsStrongly o q.number) same (holds-strongly o it.place to.object.number there within it.strong to.value_is))

  -- STARTS

  abbrev starts : List ℕ
  starts = starts_of h.roots h.slots

  root-target : (r : Root) (b : ℕ) → IsIn r g.roots → root_address table r.holds ≡ b → raws.has b ≡ true → (q : Object) × IsIn q g.objects × (table q.number ≡ b) × (r.holds ≡ held.Object q.number)
  root-target r b there is has = by r.holds refl is
    where
      by : (x : Held) → r.holds ≡ x → root_address table x ≡ b → (q : Object) × IsIn q g.objects × (table q.number ≡ b) × (r.holds ≡ held.Object q.number)
      by held.Null e is = absurd (null-not (homes_of h) g keeps.heap.formed keeps.heap.house (subst (λ c. raws.has c ≡ true) (sym is) has))
      by (held.Object n) e is =
          let it = numbered (homes_of h) g keeps.heap.formed keeps.heap.house n (keeps.heap.formed.closed.roots n (held-one (map (λ r. r.holds) g.roots) n (subst (λ (x : Held). IsIn x (map (λ r. r.holds) g.roots)) e (map-in (λ r. r.holds) g.roots r there)))) in
          (it.0, it.1, ap table it.2 ∙ is, e ∙ ap (λ k. held.Object k) (sym it.2))

  start-to : (b : ℕ) → Contains starts b → is_node h.rows raws b ≡ true → (n : NodeAt b) × IsStart g n.object.number
  start-to b c node =
      let n = node-at b node in
      let has : raws.has b ≡ true = (and_parts (raws.has b) (is_mortal h.rows b) node).0 in
      let one : (q : Object) → IsIn q g.objects → table q.number ≡ b → q ≡ n.object = λ q q_in at. (fits (homes_of h) g keeps.heap.formed keeps.heap.house).apart q n.object q_in n.is_in (at ∙ sym n.at_is) in (
        n,
        elim (Contains-append_cases (addresses h.roots) (map (λ (slot : Slot). slot.target.0) (filter is_strong h.slots)) b c) [
          | inl rooted ↦
              let it = in-map (λ r. root_address table r.holds) g.roots b (subst (λ ns. IsIn b ns) keeps.heap.stands.roots (contains-in (addresses h.roots) b rooted)) in
              let to = root-target it.0 b it.1 it.2 has in
              inl (it.0, it.1, to.3 ∙ ap (λ (q : Object). held.Object q.number) (one to.0 to.1 to.2))
          | inr led ↦
              let it = in-map (λ (slot : Slot). slot.target.0) (filter is_strong h.slots) b (contains-in _ b led) in
              let slot : Slot = it.0 in
              let there = in-filter is_strong h.slots slot it.1 in
              let out = (keeps.out.exact slot).0 there.0 in
              let from = object-at (homes_of h) g keeps.heap.formed keeps.heap.house out.object out.has in
              let o : Object = from.object in
              let raw : raws.raw out.object ≡ raw_under table o = ap raws.raw (sym from.at_is) ∙ (raw-there (homes_of h) g keeps.heap.formed keeps.heap.house o from.is_in).1 in
              let within : IsIn out.place (places_of g.classes o.shape) =
              subst (λ (r : Raw). IsIn out.place (places_of g.classes r.shape)) raw (subst (λ cs. IsIn out.place (places_of cs (raws.raw out.object).shape)) keeps.heap.stands.classes out.is_in) in
              let immune : is_immune g.sealed o.place ≡ true = not-true _ (sym (mortal o from.is_in) ∙ ap (is_mortal h.rows) from.at_is ∙ out.immune) in
              let value : value_in table o out.place ≡ pos b = sym (ap (λ (r : Raw). r.values out.place) raw) ∙ sym out.target_is ∙ ap (λ k. pos k) it.2 in
              let to = target (homes_of h) g keeps.heap.formed keeps.heap.house o out.place b from.is_in within out.kind_is value has in
              let weak : out.place.weak ≡ false = sym out.weak_is ∙ not-flips slot.weak there.1 in
              inr (o, from.is_in, immune, subst (λ (q : Object). HoldsStrongly o q.number) (one to.object to.is_in to.at_is) (holds-strongly o out.place to.object.number from.is_in within weak to.value_is))
        ],
      )

  start-from : (q : Object) → IsIn q g.objects → is_immune g.sealed q.place ≡ false → IsStart g q.number → Contains starts (table q.number)
  start-from q there free (inl (r, r_in, is)) =
      Contains-append_left (addresses h.roots) _ (table q.number) (in-contains (addresses h.roots) (table q.number)
      (subst (λ ns. IsIn (table q.number) ns) (sym keeps.heap.stands.roots) (subst (λ (x : Held). IsIn (root_address table x) (map (λ r. root_address table r.holds) g.roots)) is (map-in (λ r. root_address table r.holds) g.roots r r_in))))
  start-from q there free (inr (o, o_in, immune, strong)) =
      let it = strong-place o q.number o_in strong in
      let raw = (raw-there (homes_of h) g keeps.heap.formed keeps.heap.house o o_in).1 in
      let slot : Slot = record { at = record { 0 = table o.number + strong.0.at.offset }; target = record { 0 = table q.number }; weak = false } in
      let out : LeadsOut h raws slot = record {
        object = table o.number;
        place = strong.0.at;
        has = (raw-there (homes_of h) g keeps.heap.formed keeps.heap.house o o_in).0;
        immune = mortal o o_in ∙ ap not immune;
        is_in = subst (λ cs. IsIn strong.0.at (places_of cs (raws.raw (table o.number)).shape)) (sym keeps.heap.stands.classes) (subst (λ (r : Raw). IsIn strong.0.at (places_of g.classes r.shape)) (sym raw) it.0);
        kind_is = it.1;
        at_is = refl;
        target_is = sym (ap (λ (r : Raw). r.values strong.0.at) raw ∙ it.2);
        weak_is = sym strong.2;
        outside = mortal q there ∙ ap not free;
      } in
      Contains-append_right (addresses h.roots) _ (table q.number) (in-contains _ (table q.number)
      (map-in (λ (s : Slot). s.target.0) (filter is_strong h.slots) slot (filter-in is_strong h.slots slot ((keeps.out.exact slot).1 out) refl)))

  -- PATHS

  path-from : (path : List Object) (q : Object) → IsIn q g.objects → is_immune g.sealed q.place ≡ false → IsPathTo g path q.number → Reached g.classes h.rows raws starts (table q.number)
  path-from [] q there free start = ([], (start-from q there free start, is-node q there free))
  path-from (o ∷ path) q there free (o_in, strong, before) = elim (cases_Bool (is_immune g.sealed o.place)) [
    | inl immune ↦ ([], (start-from q there free (inr (o, o_in, immune, strong)), is-node q there free))
    | inr mortal_o ↦ let r = path-from path o o_in mortal_o before in (table o.number ∷ r.0, (holds-from o q o_in there free strong, r.1))
  ]

  path-to : (b : ℕ) (before : List ℕ) → Path g.classes h.rows raws starts b before → (n : NodeAt b) × ((path : List Object) × IsPathTo g path n.object.number)
  path-to b [] p = let it = start-to b p.0 p.1 in (it.0, ([], it.1))
  path-to b (a ∷ before) p =
      let prior = path-to a before p.1 in
      let n : NodeAt a = prior.0 in
      let it = holds-to n.object b n.is_in (subst (λ c. Holds g.classes h.rows raws c b) (sym n.at_is) p.0) in
      (it.0, (n.object ∷ prior.1.0, (n.is_in, it.1, prior.1.1)))

  -- an object is reached, and isn't immune, exactly where it is reached among the raw ones
  pub reached-same : (o : Object) → IsIn o g.objects
      → ((is_among (reached g) o.number ≡ true) × (is_immune g.sealed o.place ≡ false)) ↔ IsReached h (raws_of (homes_of h) g) (table_of (homes_of h) g o.number)
  reached-same o there = (
    (λ it.
        let path = ((reached-is g o.number).0 it.0).1 in
        subst (λ cs. Reached cs h.rows raws starts (table o.number)) (sym keeps.heap.stands.classes) (path-from path.0 o there it.1 path.1)),
    (λ r.
        let p : Reached g.classes h.rows raws starts (table o.number) = subst (λ cs. Reached cs h.rows raws starts (table o.number)) keeps.heap.stands.classes r in
        let it = path-to (table o.number) p.0 p.1 in
        let n : NodeAt (table o.number) = it.0 in
        let same : n.object ≡ o = (fits (homes_of h) g keeps.heap.formed keeps.heap.house).apart n.object o n.is_in there n.at_is in (
          (reached-is g o.number).1 ((o, there, refl), (it.1.0, subst (λ (q : Object). IsPathTo g it.1.0 q.number) same it.1.1)),
          ap (λ (q : Object). is_immune g.sealed q.place) (sym same) ∙ n.free,
        )),
  )
