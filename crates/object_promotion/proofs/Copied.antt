-- What stands once the objects are copied: all references can be turned.
use Rattle.std.proofs.Common.{◌≡◌, ◌≢◌, ◌∙◌, ℕ, ◌+◌, ◌<◌, ◌≤◌, Bool, true, false, cond, List, [], ◌∷◌, filter, get_or, length, map, nat_eq, sum, refl, sym, ap, subst, arith}
use Rattle.std.specs.Prelude.{IsTrue}
use Rattle.std.specs.List.{AllByRecursion, Contains, IsDistinct}
use Rattle.std.proofs.lemmas.Bool.{eq-eqb, ne_eqb, or_from, or_left, or_parts, or_right, true≢false}
use Rattle.std.proofs.lemmas.List.{get_or-map, get_or_default, length-map, same_lists}
use Rattle.std.proofs.lemmas.Map.Keys.{apart_from_distinct}
use Rattle.model_numbers.specs.Numbers.{region_base}
use Rattle.class_layout.specs.ClassList.{Class}
use Rattle.class_layout.specs.Placing.{IsIn}
use Rattle.class_layout.specs.declared.kind.FieldAt.{FieldAt}
use Rattle.class_layout.specs.declared.kind.Kind.TheVariants.{Ref}
use Rattle.page_tables.specs.declared.address.Addr.{Addr}
use Rattle.page_tables.specs.Address.{page_of}
use Rattle.cow_pages.specs.Memory.{is_mapped, HasOneSharer, Memory}
use Rattle.cow_pages.specs.Only.{OnlyTable}
use Rattle.cow_pages.proofs.OnlyLemmas.{only-trans}
use Rattle.heap_graph.specs.Places.{places_of}
use Rattle.heap_graph.specs.Sizes.{size_in}
use Rattle.object_view.specs.declared.names.Slot.{Slot}
use Rattle.object_view.specs.Changes.{pages_in}
use Rattle.object_view.proofs.Laid.{place-within, size-bounds}
use Rattle.raw_objects.specs.Keeps.{Keeps}
use Rattle.raw_objects.specs.Raws.{raw_size, Raw, Raws}
use Rattle.raw_objects.specs.References.{in_regions, IsTarget}
use Rattle.raw_objects.specs.References.{address_in as address_of}
use Rattle.raw_objects.proofs.Kept.{one-table}
use Rattle.region_space.specs.Space.{lists_of}
use Rattle.large_objects.specs.declared.rows.LargeRow.{LargeRow}
use Rattle.large_objects.specs.Rows.{row_at, slot_base, waits}
use Rattle.live_objects.specs.Live.{addresses}
use Rattle.live_objects.specs.Reach.{waits_in}
use Rattle.live_objects.proofs.YoungLemmas.{map-from}
use Rattle.object_moves.specs.Copies.{at_of, moved, sizes_at, AreMoved, HoldsRegions}
use Rattle.object_moves.specs.Turns.{is_reference_at, is_reference_of, reads_to_turn, slot_of, ObjectsWithin}
use Rattle.object_moves.proofs.Many.{reference-within}
use Rattle.object_moves.proofs.One.{covered-page}
use Rattle.object_collection.specs.Collects.{may_change, CanCollect, HeapState, LeadsOut}
use Rattle.object_collection.specs.Listed.{leads_young}
use Rattle.object_collection.specs.Phases.{CanTurn, Turning}
use Rattle.object_collection.proofs.Dropping.{mapped-alone}
use Rattle.object_collection.proofs.Facts.{any-at, any-of, filter-from, free-may, may-slot, waiting-page, IsWaiting}
use Rattle.object_collection.proofs.Final.{slot-outside}
use Rattle.object_collection.proofs.Marked.{row-found-at}
use Rattle.object_collection.proofs.Running.{contains-in, get-in, page-byte}
use Rattle.zygote_space.specs.Space.{to_page, zygote_spot, Space}
use Rattle.object_promotion.specs.Listed.{waiting_at}
use Rattle.object_promotion.specs.Promotes.{in_segment, may_promote, spots_for}
use Rattle.object_promotion.specs.Phases.{HasOwnPages, IsOpened}
use Rattle.object_promotion.proofs.OneCopy.{below-out, covers-inside}
use Rattle.object_promotion.proofs.Opened.{bounded, only1, own1, sizes, total, young-there}
use Rattle.object_promotion.proofs.Spots.{spots-apart, spots-length, spots-within}

not-true : (b : Bool) → (b ≡ true → ⊥) → b ≡ false
not-true true fails = absurd (fails refl)
not-true false fails = refl

-- no two waiting objects have one slot
apart-waiting : (x : ℕ) (rows : List LargeRow) → AllByRecursion (λ y. nat_eq x y ≡ false) (map (λ (row : LargeRow). row.slot) rows) → AllByRecursion (λ y. nat_eq (slot_base x) y ≡ false) (waiting_at rows)
apart-waiting x [] all = tt
apart-waiting x (row ∷ rows) all = by (waits row) (apart-waiting x rows all.1)
  where
    by : (b : Bool) → AllByRecursion (λ y. nat_eq (slot_base x) y ≡ false) (waiting_at rows)
        → AllByRecursion (λ y. nat_eq (slot_base x) y ≡ false) (map (λ (r : LargeRow). slot_base r.slot) (cond b (row ∷ filter waits rows) (filter waits rows)))
    by true rest = (ne_eqb (slot_base x) (slot_base row.slot) (λ e. true≢false (sym (eq-eqb x row.slot (omega (arith, e))) ∙ all.0)), rest)
    by false rest = rest

distinct-waiting : (rows : List LargeRow) → IsDistinct nat_eq (map (λ (row : LargeRow). row.slot) rows) → IsDistinct nat_eq (waiting_at rows)
unfolding IsDistinct
distinct-waiting [] d = tt
distinct-waiting (row ∷ rows) d = by (waits row) (distinct-waiting rows d.1)
  where
    by : (b : Bool) → IsDistinct nat_eq (waiting_at rows) → IsDistinct nat_eq (map (λ (r : LargeRow). slot_base r.slot) (cond b (row ∷ filter waits rows) (filter waits rows)))
    by true rest = (apart-waiting row.slot rows d.0, rest)
    by false rest = rest

module _ (h : HeapState) (m m1 : Memory) (t : ℕ) (raws : Raws) (z z1 : Space) (plan : Turning) (ok : IsOpened h m m1 t raws z z1 plan) where
  abbrev cs : List Class
  cs = h.classes

  abbrev young : List Addr
  young = plan.young

  abbrev can : CanCollect h m t raws
  can = ok.can.can

  abbrev pub may : ℕ → Bool
  may p = may_promote h z.fill (total h m m1 t raws z z1 plan ok) p

  -- the objects after the copies were made
  abbrev pub now : List Addr → Raws
  now tos = moved raws plan.young tos (length plan.young)

  -- they were copied to their spots
  pub record HaveMoved (m2 : Memory) (tos : List Addr) : Type 0 where
    pub held : HoldsRegions h.classes m2 t (lists_of h.regions) (now tos)
    pub moves : AreMoved raws (now tos) plan.young tos (length plan.young)
    pub spots : addresses tos ≡ spots_for z.fill (sizes h m m1 t raws z z1 plan ok)
    pub keeps : Keeps m1 m2 t (may)

  module _ (m2 : Memory) (tos : List Addr) (have : HaveMoved m2 tos) where
    abbrev base : ℕ
    base = zygote_spot (to_page z.fill)

    pub same-length : length tos ≡ length young
    same-length =
        sym (length-map tos (λ (a : Addr). a.0)) ∙ ap length have.spots ∙ spots-length base (sizes h m m1 t raws z z1 plan ok) ∙ length-map young (λ (a : Addr). raw_size cs raws a.0)

    sizes-length : length (sizes h m m1 t raws z z1 plan ok) ≡ length young
    sizes-length = length-map young (λ (a : Addr). raw_size cs raws a.0)

    pub spot-is : (i : ℕ) → i < length young → at_of tos i ≡ get_or (spots_for z.fill (sizes h m m1 t raws z z1 plan ok)) i 0
    spot-is i below = sym (get_or-map (λ (a : Addr). a.0) tos i (record { 0 = 0 }) 0 (omega (arith, below, same-length))) ∙ ap (λ (ns : List ℕ). get_or ns i 0) have.spots

    size-at : (i : ℕ) → i < length young → get_or (sizes h m m1 t raws z z1 plan ok) i 0 ≡ raw_size cs raws (at_of young i)
    size-at i below = get_or-map (λ (a : Addr). raw_size cs raws a.0) young i (record { 0 = 0 }) 0 below

    pub copy-size : (i : ℕ) → i < length young → raw_size cs (now tos) (at_of tos i) ≡ raw_size cs raws (at_of young i)
    copy-size i below = ap (λ (r : Raw). size_in cs r.shape) (have.moves.copy i below)

    size-least : (r : Raws) (a : ℕ) → 8 ≤ raw_size cs r a
    size-least r a = let bounds = size-bounds cs (r.raw a).shape in omega (arith, bounds.0, bounds.1, bounds.2)

    -- a copy lies in the segment
    record Lies (i : ℕ) : Type 0 where
      from : base ≤ at_of tos i
      to : at_of tos i + raw_size cs (now tos) (at_of tos i) ≤ base + total h m m1 t raws z z1 plan ok

    lies : (i : ℕ) → i < length young → Lies i
    lies i below =
        let within = spots-within base (sizes h m m1 t raws z z1 plan ok) i (omega (arith, below, sizes-length)) in
        let at = spot-is i below in
        let size = size-at i below in
        let copy = copy-size i below in
        record { from = omega (arith, within.0, at); to = omega (arith, within.1, at, size, copy) }

    pub copy-below : (i : ℕ) → i < length young → at_of tos i + raw_size cs (now tos) (at_of tos i) ≤ region_base
    copy-below i below = let it = lies i below in let most = bounded h m m1 t raws z z1 plan ok in omega (arith, it.to, most)

    pub copy-out : (i : ℕ) → i < length young → in_regions (at_of tos i) ≡ false
    copy-out i below = below-out (at_of tos i) (let most = copy-below i below in let least = size-least (now tos) (at_of tos i) in omega (arith, most, least))

    copy-page : (i p : ℕ) → i < length young → page_of (at_of tos i) ≤ p → p < page_of (at_of tos i) + pages_in (at_of tos i) (at_of tos i + raw_size cs (now tos) (at_of tos i))
        → in_segment z.fill (total h m m1 t raws z z1 plan ok) p ≡ true
    copy-page i p below low high =
        let it = lies i below in
        let least = size-least (now tos) (at_of tos i) in
        covers-inside (at_of tos i) (raw_size cs (now tos) (at_of tos i)) base (total h m m1 t raws z z1 plan ok) p it.from it.to
        (covered-page (at_of tos i) (raw_size cs (now tos) (at_of tos i)) p (omega (arith, least)) low high)

    copy-once : (i j : ℕ) → i < j → j < length young → at_of tos i ≢ at_of tos j
    copy-once i j low below same =
        let before : i < length young = omega (arith, low, below) in
        let apart = spots-apart base (sizes h m m1 t raws z z1 plan ok) i j low (omega (arith, below, sizes-length)) in
        let here = spot-is i before in
        let there = spot-is j below in
        let size = size-at i before in
        let least = size-least raws (at_of young i) in
        omega (arith, same, apart, here, there, size, least)

    pub own2 : HasOwnPages m2 t base (total h m m1 t raws z z1 plan ok)
    own2 =
        let own = own1 h m m1 t raws z z1 plan ok in
        record { mapped = λ p is. have.keeps.mapped p ∙ own.mapped p is; alone = λ p is. have.keeps.alone p (own.mapped p is) (own.alone p is) }

    pub only2 : OnlyTable m m2 t
    only2 = only-trans m m1 m2 t (only1 h m m1 t raws z z1 plan ok) (one-table m1 m2 t may have.keeps)

    -- an object outside the regions is as it was
    pub stays-raw : (a : ℕ) → raws.has a ≡ true → in_regions a ≡ false → (now tos).raw a ≡ raws.raw a
    stays-raw a has out =
        have.moves.same a has (λ i below same. true≢false (sym (ap in_regions (sym same) ∙ (young-there h m m1 t raws z z1 plan ok i below).1) ∙ out))

    target : (r : Raw) (a : ℕ) (p : FieldAt) → r ≡ raws.raw a → raws.has a ≡ true → IsIn p (places_of cs r.shape) → p.kind ≡ Ref → IsTarget (now tos) (r.values p)
    target r a p same has there kind =
        let held = can.targets a p has (subst (λ (x : Raw). IsIn p (places_of cs x.shape)) same there) kind in
        subst (λ (x : Raw). IsTarget (now tos) (x.values p)) (sym same) (record { address = held.address; is = held.is; below = held.below; stands = λ inside. have.moves.has held.address (held.found.young inside) })

    -- a large object that isn't promoted
    pub listed-large : (i : ℕ) → i < length plan.large → IsWaiting h.rows (at_of plan.large i) × (raws.has (at_of plan.large i) ≡ true) × (in_regions (at_of plan.large i) ≡ false)
    listed-large i below =
        let a : ℕ = at_of plan.large i in
        let there : Contains (waiting_at h.rows) a = subst (λ (xs : List ℕ). Contains xs a) ok.plan_is.large (get-in plan.large i below) in
        let it = map-from (λ (row : LargeRow). slot_base row.slot) (filter waits h.rows) a there in
        let row = filter-from waits h.rows it.0 it.1 in
        let found = row-found-at h.rows it.0 can.large.rows row.0 in (
          record { row = it.0; found = ap (row_at h.rows) (sym it.2) ∙ found; is_in = row.0; waits_is = row.1; at_is = it.2 },
          subst (λ (n : ℕ). raws.has n ≡ true) it.2 (can.large.has it.0 row.0).0,
          subst (λ (n : ℕ). in_regions n ≡ false) it.2 (slot-outside it.0.slot),
        )

    large-once : (i j : ℕ) → i < j → j < length plan.large → at_of plan.large i ≢ at_of plan.large j
    large-once i j low below same =
        let n = length-map plan.large (λ (a : Addr). a.0) in
        let distinct : IsDistinct nat_eq (addresses plan.large) = subst (IsDistinct nat_eq) (sym ok.plan_is.large) (distinct-waiting h.rows can.large.rows.apart) in
        let apart = apart_from_distinct nat_eq (addresses plan.large) i j 0 distinct low (omega (arith, below, n)) in
        let none : Addr = record { 0 = 0 } in
        let one = get_or-map (λ (a : Addr). a.0) plan.large i none 0 (omega (arith, low, below)) in
        let two = get_or-map (λ (a : Addr). a.0) plan.large j none 0 below in
        true≢false (sym (eq-eqb (get_or (addresses plan.large) i 0) (get_or (addresses plan.large) j 0) (one ∙ same ∙ sym two)) ∙ apart)

    large-size : (i : ℕ) → i < length plan.large → raw_size cs (now tos) (at_of plan.large i) ≡ raw_size cs raws (at_of plan.large i)
    large-size i below = let it = listed-large i below in ap (λ (r : Raw). size_in cs r.shape) (stays-raw (at_of plan.large i) it.1 it.2)

    -- a reference of a copy lies below the regions
    copy-low : (b : ℕ) → is_reference_of cs (now tos) tos b ≡ true → b < region_base
    copy-low b is =
        let it = any-at (λ (a : Addr). is_reference_at cs (now tos) b a.0) tos is in
        let below : it.1.0 < length young = omega (arith, it.1.1, same-length) in
        let at : at_of tos it.1.0 ≡ it.0.0 = ap (λ (a : Addr). a.0) (get_or_default tos it.1.0 (record { 0 = 0 }) it.0 it.1.1 ∙ it.1.2) in
        let within = reference-within cs ((now tos).raw it.0.0).shape it.0.0 b it.2 in
        let size : raw_size cs (now tos) (at_of tos it.1.0) ≡ raw_size cs (now tos) it.0.0 = ap (raw_size cs (now tos)) at in
        let most = copy-below it.1.0 below in
        omega (arith, within.1, at, size, most)

    -- a byte of an object is mapped
    byte-mapped : (a k : ℕ) → raws.has a ≡ true → k < raw_size cs (now tos) a → IsTrue (is_mapped m2 t (page_of (a + k)))
    byte-mapped a k has less = (have.held.holds.stands a (have.moves.has a has)).space.mapped k less

    pub listed-slot : (i : ℕ) → i < length plan.slots → Contains h.slots (slot_of plan.slots i) × (in_regions (slot_of plan.slots i).target.0 ≡ true)
    listed-slot i below =
        let slot : Slot = slot_of plan.slots i in
        let there : Contains plan.slots slot = (i, below, get_or_default plan.slots i slot (record { at = record { 0 = 0 }; target = record { 0 = 0 }; weak = false }) below) in
        filter-from leads_young h.slots slot (subst (λ (xs : List Slot). Contains xs slot) ok.plan_is.turned there)

    turned-slot : (i : ℕ) → i < length plan.slots → LeadsOut h raws (slot_of plan.slots i)
    turned-slot i below = (can.slots.exact (slot_of plan.slots i)).0 (contains-in h.slots (slot_of plan.slots i) (listed-slot i below).0)

    slot-raw : (i : ℕ) (below : i < length plan.slots) → (now tos).raw (turned-slot i below).object ≡ raws.raw (turned-slot i below).object
    slot-raw i below = let out = turned-slot i below in stays-raw out.object out.has (or_parts (in_regions out.object) (waits_in (row_at h.rows out.object)) out.immune).0

    pub can-turn : CanTurn cs m2 t (now tos) (record { young = tos; large = plan.large; slots = plan.slots }) h.roots
    can-turn = record {
      holds = have.held.holds;
      young = record {
        has = λ i below. have.moves.has_copy i (omega (arith, below, same-length));
        once = λ i j low below. copy-once i j low (omega (arith, below, same-length));
        targets = λ i p below there kind.
            let less : i < length young = omega (arith, below, same-length) in
            target ((now tos).raw (at_of tos i)) (at_of young i) p (have.moves.copy i less) (young-there h m m1 t raws z z1 plan ok i less).0 there kind;
        undone = λ i b below is. refl;
      };
      large = record {
        has = λ i below. have.moves.has (at_of plan.large i) (listed-large i below).1;
        once = λ i j low below same. large-once i j low below same;
        targets = λ i p below there kind. let it = listed-large i below in target ((now tos).raw (at_of plan.large i)) (at_of plan.large i) p (stays-raw (at_of plan.large i) it.1 it.2) it.1 there kind;
        undone = λ i b below is.
            let at = (listed-large i below).0.at_is in
            let within = reference-within cs ((now tos).raw (at_of plan.large i)).shape (at_of plan.large i) b is in
            or_from (is_reference_of cs (now tos) tos b) false (not-true (is_reference_of cs (now tos) tos b) (λ copy. let low = copy-low b copy in omega (arith, low, at, within.0))) refl;
      };
      young_alone = λ i below p low high. own2.alone p (copy-page i p (omega (arith, below, same-length)) low high);
      large_alone = λ i below p low high.
          let a : ℕ = at_of plan.large i in
          let it = listed-large i below in
          let least = size-least (now tos) a in
          let size = large-size i below in
          let byte = page-byte a (raw_size cs (now tos) a) p (omega (arith, least)) low high in
          let free = waiting-page h m t raws can a byte.0 it.0 (omega (arith, byte.1, size)) in
          subst (λ (q : ℕ). HasOneSharer m2 t q) byte.2 (mapped-alone m m2 t (page_of (a + byte.0)) only2 free.alone (byte-mapped a byte.0 it.1 byte.1));
      slots = record {
        each = λ i below.
            let out = turned-slot i below in
            let raw = slot-raw i below in
            let held = can.targets out.object out.place out.has out.is_in out.kind_is in
            record {
              object = out.object;
              place = out.place;
              has = have.moves.has out.object out.has;
              is_in = subst (λ (r : Raw). IsIn out.place (places_of cs r.shape)) (sym raw) out.is_in;
              kind_is = out.kind_is;
              at_is = out.at_is;
              target_is = out.target_is ∙ sym (ap (λ (r : Raw). r.values out.place) raw);
              stands = λ inside.
                  let same : (slot_of plan.slots i).target.0 ≡ held.address = ap address_of (out.target_is ∙ held.is) in
                  have.moves.has (slot_of plan.slots i).target.0 (ap raws.has same ∙ held.found.young (sym (ap in_regions same) ∙ inside));
            };
        alone = λ i below.
            let out = turned-slot i below in
            let slot : Slot = slot_of plan.slots i in
            let raw = slot-raw i below in
            let within = place-within cs (raws.raw out.object).shape Ref out.place.offset out.place (record { is_in = out.is_in; kind_is = out.kind_is; offset_is = refl }) in
            let size : raw_size cs (now tos) out.object ≡ raw_size cs raws out.object = ap (λ (r : Raw). size_in cs r.shape) raw in
            let mapped = byte-mapped out.object out.place.offset out.has (omega (arith, within.2, size)) in
            mapped-alone m m2 t (page_of slot.at.0) only2 (can.slots.alone slot (contains-in h.slots slot (listed-slot i below).0))
            (subst (λ (n : ℕ). IsTrue (is_mapped m2 t (page_of n))) (sym out.at_is) mapped);
      };
      targets = λ i below inside. have.moves.has (at_of h.roots i) ((can.roots (at_of h.roots i) (get-in h.roots i below)).young inside);
    }

    -- the pages of what is turned may change
    pub young-within : ObjectsWithin cs may (now tos) tos
    young-within i below p low high = or_right (may_change h p) (in_segment z.fill (total h m m1 t raws z z1 plan ok) p) (copy-page i p (omega (arith, below, same-length)) low high)

    pub large-within : ObjectsWithin cs may (now tos) plan.large
    large-within i below p low high =
        let a : ℕ = at_of plan.large i in
        let it = listed-large i below in
        let least = size-least (now tos) a in
        let size = large-size i below in
        let byte = page-byte a (raw_size cs (now tos) a) p (omega (arith, least)) low high in
        or_left (may_change h p) (in_segment z.fill (total h m m1 t raws z z1 plan ok) p)
        (ap (may_change h) (sym byte.2) ∙ free-may h m t raws can (page_of (a + byte.0)) (waiting-page h m t raws can a byte.0 it.0 (omega (arith, byte.1, size))))

    pub slots-within : (i : ℕ) → i < length plan.slots → may (page_of (slot_of plan.slots i).at.0) ≡ true
    slots-within i below =
        let slot : Slot = slot_of plan.slots i in
        let p : ℕ = page_of slot.at.0 in
        or_left (may_change h p) (in_segment z.fill (total h m m1 t raws z z1 plan ok) p)
        (may-slot h m t raws can p (any-of (λ (s : Slot). nat_eq (page_of s.at.0) p) h.slots slot (listed-slot i below).0 (eq-eqb p p refl)))

    pub large-high : (i : ℕ) → i < length plan.large → region_base ≤ at_of plan.large i
    large-high i below = let at = (listed-large i below).0.at_is in omega (arith, at)

    -- the copies are as large as the objects
    pub reads-same : reads_to_turn cs (now tos) tos ≡ reads_to_turn cs raws young
    reads-same = ap (λ (ns : List ℕ). sum (map (λ (size : ℕ). size + 16) ns)) (same_lists (sizes_at cs (now tos) tos) (sizes h m m1 t raws z z1 plan ok)
        (length-map tos (λ (a : Addr). raw_size cs (now tos) a.0) ∙ same-length ∙ sym sizes-length)
        (λ k d below.
        let under : k < length tos = omega (arith, below, length-map tos (λ (a : Addr). raw_size cs (now tos) a.0)) in
        let less : k < length young = omega (arith, under, same-length) in
        get_or-map (λ (a : Addr). raw_size cs (now tos) a.0) tos k (record { 0 = 0 }) d under ∙ copy-size k less ∙ sym (get_or-map (λ (a : Addr). raw_size cs raws a.0) young k (record { 0 = 0 }) d less)))
