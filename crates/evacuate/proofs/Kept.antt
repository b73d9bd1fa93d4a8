-- After a collection the process keeps the collected graph as it kept the graph before.
use Rattle.std.proofs.Common.{◌≡◌, ◌∙◌, ℕ, ◌+◌, ◌<◌, Bool, true, false, not, List, filter, refl, sym, ap, subst, arith, true≢false, pos}
use Rattle.std.specs.Prelude.{IsTrue, ◌||◌, nat_eq}
use Rattle.std.specs.List.{list_any}
use Rattle.std.proofs.lemmas.Bool.{eq-eqb, or_left, or_right}
use Rattle.std.proofs.lemmas.List.Elements.{All-filter}
use Rattle.class_layout.specs.declared.kind.Kind.TheVariants.{Ref}
use Rattle.class_layout.specs.declared.kind.FieldAt.{FieldAt}
use Rattle.class_layout.specs.Placing.{IsIn}
use Rattle.page_tables.specs.declared.address.Addr.{Addr}
use Rattle.page_tables.specs.declared.address.Window.TheVariants as window
use Rattle.page_tables.specs.Address.{is_in, page_of}
use Rattle.cow_pages.specs.Memory.{is_mapped, HasOneSharer, Memory}
use Rattle.heap_graph.specs.declared.names.Content.{Content}
use Rattle.heap_graph.specs.declared.names.Content.TheVariants as content
use Rattle.heap_graph.specs.Collection.{clear_if, collect, if_kept}
use Rattle.heap_graph.specs.Graph.{is_immune, Graph, Object}
use Rattle.heap_graph.specs.Paths.{numbers}
use Rattle.heap_graph.specs.Places.{places_of}
use Rattle.heap_graph.specs.Reach.{is_among}
use Rattle.heap_graph.specs.Values.{value_at}
use Rattle.heap_graph.specs.declared.names.Shape.{Shape}
use Rattle.heap_graph.specs.Formed.{FitsKind}
use Rattle.heap_graph.proofs.Places.{value-fits}
use Rattle.heap_graph.proofs.Stores.{cleared-value}
use Rattle.object_view.specs.declared.names.Slot.{Slot}
use Rattle.object_view.specs.Seen.{seen_value, value_in}
use Rattle.object_view.proofs.Laid.{place-within}
use Rattle.raw_objects.specs.Raws.{Raw}
use Rattle.region_space.specs.Space.{Space}
use Rattle.large_objects.specs.declared.rows.LargeRow.{LargeRow}
use Rattle.large_objects.specs.Rows.{waits, AreRows, IsBytes}
use Rattle.large_objects.specs.Pages as large
use Rattle.large_objects.proofs.PageLemmas.{any-in-window}
use Rattle.address_table.specs.Computed.{table_of, Homes, HouseAll}
use Rattle.graph_pages.specs.Collected.{keeps}
use Rattle.graph_pages.specs.Holds.{raw_under}
use Rattle.graph_pages.proofs.Lists.{any-from, any-to, filter-in, in-filter}
use Rattle.live_objects.specs.Reach.{is_mortal}
use Rattle.live_objects.proofs.MarkLemmas.{immune-off}
use Rattle.object_collection.specs.Collects.{state_of, HeapState, IsCollected, LeadsOut, LeavesPages}
use Rattle.evacuate.specs.Stands.{homes_in, homes_of, raws_of, HasSlotsOut, HoldsHeap, KeepsGraph, StoodBefore}
use Rattle.evacuate.proofs.Found.{object-at, raw-there, target-in}
use Rattle.evacuate.proofs.Held.{pages-left}
use Rattle.evacuate.proofs.Left.{formed, housed, old-are, rows-is}
use Rattle.evacuate.proofs.Reach.{mortal}
use Rattle.evacuate.proofs.Stand.{are-rows, mortal-is}
use Rattle.evacuate.proofs.Turned.{back-in, graph-left, immune-old, next-is, state-left}

-- what a cleared slot holds it held before
held-before : (weak : Bool) (kept : List ℕ) (s : Content) (n : ℕ) → clear_if weak kept s ≡ content.Object n → s ≡ content.Object n
held-before false kept s n is = is
held-before true kept (content.Number z) n is = is
held-before true kept content.Null n is = is
held-before true kept (content.Object j) n is = by (is_among kept j) is
  where
    by : (b : Bool) → if_kept b j ≡ content.Object n → content.Object j ≡ content.Object n
    by true is = is
    by false is = absurd (cc)

not-back : (a b : Bool) → not a ≡ not b → a ≡ b
not-back true true e = refl
not-back true false e = cc
not-back false true e = cc
not-back false false e = refl

module _ (h : HeapState) (old new : Memory) (t : ℕ) (g : Graph) (regions : Space) (rows : List LargeRow) (roots : List Addr) (slots : List Slot) (k : KeepsGraph h old t g)
    (c : IsCollected h new t (raws_of (homes_of h) g) regions rows roots) (leaves : LeavesPages h old new t) where
  abbrev left : Graph
  left = collect g

  abbrev next_homes : Homes
  next_homes = homes_in regions.in_use rows

  abbrev table : ℕ → ℕ
  table = table_of (homes_of h) g

  abbrev next : ℕ → ℕ
  next = table_of (homes_in regions.in_use rows) (collect g)

  abbrev kept : List ℕ
  kept = numbers (filter (keeps g) g.objects)

  abbrev state : HeapState
  state = state_of h.classes regions rows roots slots

  house : HouseAll next_homes left
  house = housed h old new t g regions rows roots k c

  -- LARGE

  large-alone : (p : ℕ) → IsTrue (list_any (large.holds_page p) (filter waits rows)) → HasOneSharer new t p
  large-alone p any =
      let it = any-from (large.holds_page p) (filter waits rows) any in
      let row : LargeRow = it.0 in
      let here = in-filter waits rows row it.1 in
      let was = in-filter c.rows_left.stays h.rows row (subst (IsIn row) c.rows_left.rows_are here.0) in
      let before : list_any (large.holds_page p) (filter waits h.rows) ≡ true = any-to (large.holds_page p) (filter waits h.rows) row (filter-in waits h.rows row was.0 here.1) it.2 in
      let are = old-are h old new t g regions rows roots k c in
      let inside : IsTrue (is_in window.Large p) =
      any-in-window p (filter waits h.rows) (All-filter waits (λ (row : LargeRow). row.slot < 512) h.rows are.within) (All-filter waits (λ (row : LargeRow). IsBytes row.bytes) h.rows are.bytes) before in
      leaves.alone p (or_left _ _ (or_right (is_in window.Regions p) _ before)) (c.large_pages p inside ∙ any-to (large.holds_page p) rows row here.0 it.2)

  -- SLOTS

  mortal-next : (q : Object) → IsIn q left.objects → is_mortal rows (next q.number) ≡ not (is_immune true q.place)
  mortal-next q there =
      ap (λ rs. is_mortal rs (next q.number)) (rows-is h old new t g regions rows roots k c)
      ∙ mortal-is next_homes left (formed h old new t g regions rows roots k c) house q there

  seal : (o : Object) → is_immune g.sealed o.place ≡ is_immune true o.place
  seal o = ap (λ b. is_immune b o.place) k.is_sealed

  -- what a reference to an object that isn't immune leads to
  object-held : (q : Object) (p : FieldAt) (b : ℕ) → IsIn q left.objects → IsIn p (places_of g.classes q.shape) → p.kind ≡ Ref → value_in next q p ≡ pos b → is_mortal rows b ≡ true
      → (x : Object) × IsIn x left.objects × (value_at q.slots p ≡ content.Object x.number) × (next x.number ≡ b)
  object-held q p b there within kind value free =
      by (value_at q.slots p) refl value (subst (λ kd. FitsKind kd (value_at q.slots p)) kind (value-fits left q p (formed h old new t g regions rows roots k c) there within))
    where
      null-off : is_mortal rows 0 ≡ false
      null-off =
          let is_formed = formed h old new t g regions rows roots k c in
          immune-off rows 0 (subst AreRows (sym (rows-is h old new t g regions rows roots k c)) (are-rows next_homes left is_formed house)) refl refl

      by : (s : Content) → value_at q.slots p ≡ s → seen_value next s ≡ pos b → FitsKind Ref s → (x : Object) × IsIn x left.objects × (value_at q.slots p ≡ content.Object x.number) × (next x.number ≡ b)
      by (content.Number z) e is fit = absurd (true≢false (sym fit))
      by content.Null e is fit = let zero_is : 0 ≡ b = cc in absurd (true≢false (sym free ∙ ap (is_mortal rows) (sym zero_is) ∙ null-off))
      by (content.Object n) e is fit =
          let same : next n ≡ b = cc in
          let it = target-in next_homes left (formed h old new t g regions rows roots k c) house q p n there e in
          (it.0, it.1, e ∙ ap (λ j. content.Object j) (sym it.2), ap next it.2 ∙ same)

  -- a slot that leads out led out before
  pub stood-before : (slot : Slot) → LeadsOut (state_of h.classes regions rows roots slots) (raws_of (homes_in regions.in_use rows) (collect g)) slot → StoodBefore h.slots new t slot
  stood-before slot leads =
      let is_formed = formed h old new t g regions rows roots k c in
      let from = object-at next_homes left is_formed house leads.object leads.has in
      let q : Object = from.object in
      let raw : (raws_of next_homes left).raw leads.object ≡ raw_under next q = ap (raws_of next_homes left).raw (sym from.at_is) ∙ (raw-there next_homes left is_formed house q from.is_in).1 in
      let within : IsIn leads.place (places_of g.classes q.shape) =
      subst (λ (r : Raw). IsIn leads.place (places_of g.classes r.shape)) raw (subst (λ cs. IsIn leads.place (places_of cs ((raws_of next_homes left).raw leads.object).shape)) k.heap.stands.classes leads.is_in) in
      let immune : is_immune true q.place ≡ true = not-back _ _ (sym (mortal-next q from.is_in) ∙ ap (is_mortal rows) from.at_is ∙ leads.immune) in
      let value : value_in next q leads.place ≡ pos slot.target.0 = sym (ap (λ (r : Raw). r.values leads.place) raw) ∙ sym leads.target_is in
      let b = back-in h old new t g regions rows roots k c q from.is_in in
      let o : Object = b.0 in
      let place_is : o.place ≡ q.place = ap (λ (x : Object). x.place) b.3 in
      let immune_o : is_immune true o.place ≡ true = ap (is_immune true) place_is ∙ immune in
      let stays : next o.number ≡ table o.number = next-is h old new t g regions rows roots k c o b.1 b.2 (immune-old o.place immune_o) in
      let at : table o.number ≡ leads.object = sym stays ∙ ap (λ (x : Object). next x.number) b.3 ∙ from.at_is in
      let shape_is : q.shape ≡ o.shape = sym (ap (λ (x : Object). x.shape) b.3) in
      let held = object-held q leads.place slot.target.0 from.is_in within leads.kind_is value leads.outside in
      let x : Object = held.0 in
      let y = back-in h old new t g regions rows roots k c x held.1 in
      let number : y.0.number ≡ x.number = ap (λ (z : Object). z.number) y.3 in
      let free : is_immune true y.0.place ≡ false =
      ap (λ (z : Object). is_immune true z.place) y.3 ∙ not-back _ _ (sym (mortal-next x held.1) ∙ ap (is_mortal rows) held.3 ∙ leads.outside) in
      let within_o : IsIn leads.place (places_of g.classes o.shape) = subst (λ (s : Shape). IsIn leads.place (places_of g.classes s)) shape_is within in
      let held_o : value_at o.slots leads.place ≡ content.Object x.number =
      held-before leads.place.weak kept (value_at o.slots leads.place) x.number
      (sym (cleared-value g o leads.place kept k.heap.formed b.1 within_o) ∙ ap (λ (z : Object). value_at z.slots leads.place) b.3 ∙ held.2) in
      let raw_o = raw-there (homes_of h) g k.heap.formed k.heap.house o b.1 in
      let was : Slot = record { at = record { 0 = table o.number + leads.place.offset }; target = record { 0 = table y.0.number }; weak = leads.place.weak } in
      let led : LeadsOut h (raws_of (homes_of h) g) was = record {
        object = table o.number;
        place = leads.place;
        has = raw_o.0;
        immune = mortal h old t g k o b.1 ∙ ap not (seal o ∙ immune_o);
        is_in = subst (λ cs. IsIn leads.place (places_of cs ((raws_of (homes_of h) g).raw (table o.number)).shape)) (sym k.heap.stands.classes)
            (subst (λ (r : Raw). IsIn leads.place (places_of g.classes r.shape)) (sym raw_o.1) within_o);
        kind_is = leads.kind_is;
        at_is = refl;
        target_is = sym (ap (λ (r : Raw). r.values leads.place) raw_o.1 ∙ ap (seen_value table) held_o ∙ ap (λ j. pos (table j)) (sym number));
        weak_is = refl;
        outside = mortal h old t g k y.0 y.1 ∙ ap not (seal y.0 ∙ free);
      } in
      let stands = (graph-left h old new t g regions rows roots k c).stands q from.is_in in
      let bytes = (place-within g.classes q.shape Ref leads.place.offset leads.place (record { is_in = within; kind_is = leads.kind_is; offset_is = refl })).2 in
      let there : is_mapped new t (page_of (next q.number + leads.place.offset)) ≡ true = stands.space.mapped leads.place.offset (omega (arith, bytes)) in
      record {
        before = was;
        is_in = (k.out.exact was).1 led;
        at_is = ap (λ a. a + leads.place.offset) at ∙ sym leads.at_is;
        mapped = ap (λ a. is_mapped new t (page_of a)) (leads.at_is ∙ ap (λ a. a + leads.place.offset) (sym from.at_is)) ∙ there;
      }

  -- what the process holds afterwards, whichever slots it keeps
  pub heap-left : HoldsHeap (state_of h.classes regions rows roots slots) new t (collect g)
  heap-left = record {
    formed = formed h old new t g regions rows roots k c;
    house = house;
    pages = pages-left h old new t g regions rows roots k c leaves;
    stands = state-left h old new t g regions rows roots k c slots;
    space = c.held.space;
    sound = c.held.sound;
    live = c.held.live;
    regions = c.held.alone;
    large = large-alone;
  }

  module _ (out : HasSlotsOut (state_of h.classes regions rows roots slots) (raws_of (homes_in regions.in_use rows) (collect g))) where
    slots-alone : (slot : Slot) → IsIn slot slots → HasOneSharer new t (page_of slot.at.0)
    slots-alone slot there =
        let it = stood-before slot ((out.exact slot).0 there) in
        let p : ℕ = page_of slot.at.0 in
        let any : list_any (λ (s : Slot). nat_eq (page_of s.at.0) p) h.slots ≡ true =
        any-to (λ (s : Slot). nat_eq (page_of s.at.0) p) h.slots it.before it.is_in (eq-eqb (page_of it.before.at.0) p (ap page_of it.at_is)) in
        leaves.alone p (or_right (is_in window.Regions p || list_any (large.holds_page p) (filter waits h.rows)) _ any) it.mapped

    pub graph-kept : KeepsGraph (state_of h.classes regions rows roots slots) new t (collect g)
    graph-kept = record { heap = heap-left; is_sealed = k.is_sealed; out = out; alone = slots-alone }
