-- What holds after a promotion.
use Rattle.std.proofs.Common.{◌≡◌, ◌≢◌, ◌∙◌, ◌⊎◌, ◌||◌, ◌&&◌, ℕ, ◌+◌, ◌<◌, inl, inr, Bool, true, false, cond, List, [], ◌∷◌, ◌++◌, Option, pos, filter, length, map, nat_eq, sum, refl, sym, ap, subst, arith, is_some}
use Rattle.std.specs.Prelude.{ℤ, IsTrue, nat_le, nat_lt, not}
use Rattle.std.specs.List.{list_any, Contains}
use Rattle.std.proofs.lemmas.Bool.{and_from, and_parts, eq-eqb, eqb-true, or_cases, or_left, or_parts, or_right}
use Rattle.std.proofs.lemmas.List.{append-nil, get_or-map, get_or_default, length-map}
use borrow.Author.Tests.{leb-true, ltb-true}
use Rattle.class_layout.specs.ClassList.{Class}
use Rattle.class_layout.specs.Kinds.{is_ref}
use Rattle.class_layout.specs.Placing.{IsIn}
use Rattle.class_layout.specs.declared.kind.FieldAt.{FieldAt}
use Rattle.class_layout.specs.declared.kind.Kind.TheVariants.{Ref}
use Rattle.page_tables.specs.declared.address.Addr.{Addr}
use Rattle.page_tables.specs.declared.address.Window.TheVariants.{Regions}
use Rattle.page_tables.specs.Address.{is_in, page_of}
use Rattle.cow_pages.specs.Memory.{flag_of, frame_at, is_live, is_mapped, page_at, HasOneSharer, IsSound, Memory, Page}
use Rattle.cow_pages.specs.Only.{OnlyTable}
use Rattle.cow_pages.specs.View.{view_of}
use Rattle.cow_pages.proofs.OnlyLemmas.{only-trans}
use Rattle.cow_pages.proofs.ViewLemmas.{byte-page, mapped-page}
use Rattle.graph_pages.specs.Collected.{turned_by}
use Rattle.heap_graph.specs.Places.{places_of}
use Rattle.image_space.specs.Space.{pages_up_to}
use Rattle.mark_bitmap.specs.Marks.{is_marked}
use Rattle.object_view.specs.declared.names.Slot.{Slot}
use Rattle.object_view.specs.Seen.{RoseBy}
use Rattle.object_view.proofs.Laid.{ref-kind}
use Rattle.object_view.proofs.Spans.{frame-same}
use Rattle.raw_objects.specs.Keeps.{Keeps}
use Rattle.raw_objects.specs.Raws.{among, raw_size, HoldsRaws, Raw, Raws, SameRaw}
use Rattle.raw_objects.specs.References.{goes, in_regions, now_at, turned, turned_where}
use Rattle.raw_objects.specs.References.{address_in as address_of}
use Rattle.raw_objects.proofs.Kept.{one-table}
use Rattle.raw_objects.proofs.Paging.{raws-among, raws-gone}
use Rattle.region_lists.specs.Rows.{Row}
use Rattle.region_space.specs.Pages.{ReleasesRows}
use Rattle.region_space.specs.Space.{filled, lists_of, IsSpace, Space}
use Rattle.region_space.specs.Space.{AreAlone as AreRegionsAlone, HasPages as HasRegionPages, holds_page as region_page}
use Rattle.large_objects.specs.declared.rows.LargeRow.{LargeRow}
use Rattle.large_objects.specs.Pages.{holds_page, HasPages}
use Rattle.large_objects.specs.Rows.{promoted_row, row_at, slot_base, waits}
use Rattle.large_objects.proofs.LawLemmas.{pages-kept}
use Rattle.large_objects.proofs.RowLemmas.{keeps-promoted}
use Rattle.live_objects.specs.Live.{addresses}
use Rattle.live_objects.specs.Reach.{is_mortal, waits_in}
use Rattle.live_objects.proofs.YoungLemmas.{map-from, map-in}
use Rattle.object_moves.specs.Copies.{at_of, HoldsRegions}
use Rattle.object_moves.specs.Turns.{gone_to, is_reference_at, is_reference_of, is_slot_of, reads_to_turn}
use Rattle.object_moves.proofs.Many.{place-reference}
use Rattle.object_collection.specs.Collects.{led, may_change, CanCollect, HeapState}
use Rattle.object_collection.specs.Listed.{leads_young}
use Rattle.object_collection.specs.Phases.{is_turned, Turning}
use Rattle.object_collection.proofs.Dropping.{mapped-alone, windows-apart}
use Rattle.object_collection.proofs.Facts.{any-at, any-of, filter-in, may-young, mortal-cases, IsWaiting}
use Rattle.object_collection.proofs.Nulled.{slot-in}
use Rattle.object_collection.proofs.Running.{contains-in, filled-window, get-in}
use Rattle.zygote_space.specs.Space as zygote
use Rattle.zygote_space.specs.Space.{end_in, segment_end, to_page, zygote_spot, GainsSegment, HasPagesUpTo}
use Rattle.object_promotion.specs.Listed.{waiting_at}
use Rattle.object_promotion.specs.Promotes.{in_segment, spots_for, IsPromoted, Leads, LeavesPages}
use Rattle.object_promotion.specs.Phases.{IsOpened}
use Rattle.object_promotion.proofs.Opened.{beside-run, in-run, only1, segment-below, sizes, total, young-there}
use Rattle.object_promotion.proofs.Copied.{copy-out, may, now, only2, own2, reads-same, same-length, spot-is, stays-raw, HaveMoved}

no : (b : Bool) → (b ≡ true → ⊥) → b ≡ false
no true fails = absurd (fails refl)
no false fails = refl

clash : (b : Bool) → b ≡ true → b ≡ false → ⊥
clash true e f = cc
clash false e f = cc

-- where a listed address stands
index-of : (ats : List Addr) (a : ℕ) → Contains (addresses ats) a → (i : ℕ) × (i < length ats) × (at_of ats i ≡ a)
index-of ats a c =
    let n = length-map ats (λ (x : Addr). x.0) in
    let below : c.0 < length ats = omega (arith, c.1, n) in
    (c.0, below, sym (get_or-map (λ (x : Addr). x.0) ats c.0 (record { 0 = 0 }) 0 below) ∙ get_or_default (addresses ats) c.0 0 a c.1 ∙ c.2)

-- the pages of the closed segment are those of the open one
pages-end : (fill : ℕ) (sizes : List ℕ) → pages_up_to (segment_end fill sizes) ≡ pages_up_to (to_page fill + sum sizes)
pages-end fill [] = omega arith
pages-end fill (s ∷ ss) = refl

module _ (h : HeapState) (m m1 : Memory) (t : ℕ) (raws : Raws) (z z1 : zygote.Space) (plan : Turning) (ok : IsOpened h m m1 t raws z z1 plan) where
  abbrev cs : List Class
  cs = h.classes

  abbrev young : List Addr
  young = plan.young

  abbrev can : CanCollect h m t raws
  can = ok.can.can

  abbrev may_write : ℕ → Bool
  may_write = may h m m1 t raws z z1 plan ok

  abbrev bytes : ℕ
  bytes = total h m m1 t raws z z1 plan ok

  abbrev copied : List Addr → Raws
  copied tos = now h m m1 t raws z z1 plan ok tos

  -- what is turned
  abbrev pub tests : List Addr → ℕ → Bool
  tests tos = is_turned h.classes (now h m m1 t raws z z1 plan ok tos) (record { young = tos; large = plan.large; slots = plan.slots })

  -- a promotion ran: the memory, the regions, the spots, the roots, the rows and the zygote space after its steps
  pub record HasRun (m2 m3 m4 : Memory) (s4 : Space) (tos roots : List Addr) (rows : List LargeRow) (z2 : zygote.Space) : Type 0 where
    pub have : HaveMoved h m m1 t raws z z1 plan ok m2 tos
    pub gains : GainsSegment z1 z2 (sizes h m m1 t raws z z1 plan ok)
    pub reads2 : m2.reads ≡ m1.reads
    pub turned_all : HoldsRaws h.classes (view_of m3 t) (turned_where (now h m m1 t raws z z1 plan ok tos) (tests tos))
    pub roots_are : roots ≡ map (gone_to (now h m m1 t raws z z1 plan ok tos)) h.roots
    pub keeps3 : Keeps m2 m3 t (may h m m1 t raws z z1 plan ok)
    pub rose3 : RoseBy (reads_to_turn h.classes (now h m m1 t raws z z1 plan ok tos) tos) m2.reads m3.reads
    pub releases : ReleasesRows m3 m4 t h.regions.in_use
    pub none_left : (s4.in_use ≡ []) × (s4.from ≡ []) × (s4.objects ≡ 0) × (s4.from_objects ≡ 0)
    pub count : s4.count ≡ h.regions.count
    pub only4 : OnlyTable m3 m4 t
    pub space4 : IsSpace (lists_of s4)
    pub pages4 : HasRegionPages m4 t (filled (lists_of s4))
    pub sound4 : IsSound m4
    pub rows_are : rows ≡ map promoted_row h.rows

  module _ (m2 m3 m4 : Memory) (s4 : Space) (tos roots : List Addr) (rows : List LargeRow) (z2 : zygote.Space) (run : HasRun m2 m3 m4 s4 tos roots rows z2) where
    abbrev at_now : Raws
    at_now = copied tos

    abbrev go : ℕ → ℕ
    go a = goes at_now a

    have' : HaveMoved h m m1 t raws z z1 plan ok m2 tos
    have' = run.have

    beside : (a : ℕ) → in_regions a ≡ false → go a ≡ a
    beside a is = ap (λ (b : Bool). cond b (now_at (at_now.raw a).header) a) is

    inside-goes : (i : ℕ) → i < length young → go (at_of young i) ≡ at_of tos i
    inside-goes i below =
        ap (λ (b : Bool). cond b (now_at (at_now.raw (at_of young i)).header) (at_of young i)) (young-there h m m1 t raws z z1 plan ok i below).1
        ∙ ap (λ (r : Raw). now_at r.header) (have'.moves.forwarded i below)

    leads : Leads young (spots_for z.fill (sizes h m m1 t raws z z1 plan ok)) go
    leads = record { moves = λ i below. inside-goes i below ∙ spot-is h m m1 t raws z z1 plan ok m2 tos have' i below; stays = beside }

    -- where an object is
    cases : (a : ℕ) → raws.has a ≡ true → ((i : ℕ) × (i < length young) × (at_of young i ≡ a) × (go a ≡ at_of tos i)) ⊎ ((in_regions a ≡ false) × (go a ≡ a))
    cases a has = by (in_regions a) refl
      where
        by : (b : Bool) → in_regions a ≡ b → ((i : ℕ) × (i < length young) × (at_of young i ≡ a) × (go a ≡ at_of tos i)) ⊎ ((in_regions a ≡ false) × (go a ≡ a))
        by true inside = let it = index-of young a ((ok.plan_is.young.only a).1 (has, inside)) in inl (it.0, it.1, it.2, ap go (sym it.2) ∙ inside-goes it.0 it.1)
        by false out = inr (out, beside a out)

    copy-raw : (a : ℕ) → raws.has a ≡ true → at_now.raw (go a) ≡ raws.raw a
    copy-raw a has = elim (cases a has) [
      | inl it ↦ ap at_now.raw it.3 ∙ have'.moves.copy it.0 it.1 ∙ ap raws.raw it.2
      | inr it ↦ ap at_now.raw it.1 ∙ stays-raw h m m1 t raws z z1 plan ok m2 tos have' a has it.0
    ]

    abbrev outside : ℕ → Bool
    outside a = not (in_regions a)

    abbrev left : Raws
    left = among (turned_where at_now (tests tos)) outside

    off-of : (b : Bool) → not b ≡ true → b ≡ false
    off-of true e = sym e
    off-of false e = refl

    left-out : (b : ℕ) → left.has b ≡ true → in_regions b ≡ false
    left-out b has = off-of (in_regions b) (and_parts (at_now.has b) (outside b) has).1

    goes-left : (a : ℕ) → raws.has a ≡ true → left.has (go a) ≡ true
    goes-left a has = elim (cases a has) [
      | inl it ↦ subst (λ (n : ℕ). left.has n ≡ true) (sym it.3)
          (and_from (at_now.has (at_of tos it.0)) (outside (at_of tos it.0)) (have'.moves.has_copy it.0 it.1) (ap not (copy-out h m m1 t raws z z1 plan ok m2 tos have' it.0 it.1)))
      | inr it ↦ subst (λ (n : ℕ). left.has n ≡ true) (sym it.1) (and_from (at_now.has a) (outside a) (have'.moves.has a has) (ap not it.0))
    ]

    left-from : (b : ℕ) → left.has b ≡ true → (a : ℕ) × (raws.has a ≡ true) × (go a ≡ b)
    left-from b has = elim (have'.moves.only b (and_parts (at_now.has b) (outside b) has).0) [
      | inl old ↦ (b, old, beside b (left-out b has))
      | inr it ↦ (at_of young it.0, (young-there h m m1 t raws z z1 plan ok it.0 it.1).0, inside-goes it.0 it.1 ∙ it.2)
    ]

    -- a reference that isn't turned leads outside the regions
    unturned-outside : (a : ℕ) (p : FieldAt) (n : ℕ) → raws.has a ≡ true → IsIn p (places_of cs (raws.raw a).shape) → p.kind ≡ Ref → (raws.raw a).values p ≡ pos n → tests tos (go a + p.offset) ≡ false → in_regions n ≡ false
    unturned-outside a p n has there kind value off = no (in_regions n) (λ inside. clash (tests tos (go a + p.offset)) (turned-there inside) off)
      where
        here : is_reference_at cs at_now (go a + p.offset) (go a) ≡ true
        here = place-reference cs (at_now.raw (go a)).shape (go a) p (subst (λ (r : Raw). IsIn p (places_of cs r.shape)) (sym (copy-raw a has)) there) kind

        object : (ats : List Addr) → Contains (addresses ats) (go a) → is_reference_of cs at_now ats (go a + p.offset) ≡ true
        object ats c =
            let it = map-from (λ (x : Addr). x.0) ats (go a) c in
            any-of (λ (x : Addr). is_reference_at cs at_now (go a + p.offset) x.0) ats it.0 it.1 (ap (is_reference_at cs at_now (go a + p.offset)) it.2 ∙ here)

        slot-turned : is_mortal h.rows a ≡ false → in_regions a ≡ false → go a ≡ a → in_regions n ≡ true → tests tos (go a + p.offset) ≡ true
        slot-turned immortal out stays inside =
            let slot : Slot = record { at = record { 0 = a + p.offset }; target = record { 0 = n }; weak = p.weak } in
            let listed = (can.slots.exact slot).1 (record { object = a; place = p; has = has; immune = immortal; is_in = there; kind_is = kind; at_is = refl; target_is = sym value; weak_is = refl; outside = or_left (in_regions n) (waits_in (row_at h.rows n)) inside }) in
            let c = filter-in leads_young h.slots slot (slot-in h.slots slot listed) inside in
            let same : a + p.offset ≡ go a + p.offset = omega (arith, stays) in
            or_left (is_slot_of plan.slots (go a + p.offset)) _
            (any-of (λ (s : Slot). nat_eq s.at.0 (go a + p.offset)) plan.slots slot (subst (λ (xs : List Slot). Contains xs slot) (sym ok.plan_is.turned) c) (eq-eqb (a + p.offset) (go a + p.offset) same))

        large-turned : IsWaiting h.rows a → go a ≡ a → tests tos (go a + p.offset) ≡ true
        large-turned it stays =
            let row : Contains (waiting_at h.rows) a = subst (λ (n : ℕ). Contains (waiting_at h.rows) n) it.at_is (map-in (λ (r : LargeRow). slot_base r.slot) (filter waits h.rows) it.row (filter-in waits h.rows it.row it.is_in it.waits_is)) in
            let c : Contains (addresses plan.large) (go a) = subst (λ (n : ℕ). Contains (addresses plan.large) n) (sym stays) (subst (λ (xs : List ℕ). Contains xs a) (sym ok.plan_is.large) row) in
            or_right (is_slot_of plan.slots (go a + p.offset)) _ (or_left (is_reference_of cs at_now plan.large (go a + p.offset)) _ (object plan.large c))

        turned-there : in_regions n ≡ true → tests tos (go a + p.offset) ≡ true
        turned-there inside = elim (cases a has) [
          | inl it ↦
              let c : Contains (addresses tos) (go a) = subst (λ (x : ℕ). Contains (addresses tos) x) (sym it.3) (get-in tos it.0 (let same = same-length h m m1 t raws z z1 plan ok m2 tos have' in omega (arith, it.1, same))) in
              or_right (is_slot_of plan.slots (go a + p.offset)) _ (or_right (is_reference_of cs at_now plan.large (go a + p.offset)) _ (or_left (is_reference_of cs at_now tos (go a + p.offset)) false (object tos c)))
          | inr it ↦ by (is_mortal h.rows a) refl it.0 it.1
        ]
          where
            by : (b : Bool) → is_mortal h.rows a ≡ b → in_regions a ≡ false → go a ≡ a → tests tos (go a + p.offset) ≡ true
            by false immortal out stays = slot-turned immortal out stays inside
            by true mortal out stays = elim (mortal-cases h.rows a mortal) [ inl young' ↦ absurd (clash (in_regions a) young' out) | inr waiting ↦ large-turned waiting stays ]

    -- the value at a place is the old one, led to where it goes
    led-value : (a : ℕ) (p : FieldAt) → raws.has a ≡ true → IsIn p (places_of cs (raws.raw a).shape)
        → cond (tests tos (go a + p.offset)) (turned at_now p ((raws.raw a).values p)) ((raws.raw a).values p) ≡ turned_by go p ((raws.raw a).values p)
    led-value a p has there = by (tests tos (go a + p.offset)) refl (is_ref p.kind) refl
      where
        v : ℤ
        v = (raws.raw a).values p

        by : (d : Bool) → tests tos (go a + p.offset) ≡ d → (b : Bool) → is_ref p.kind ≡ b → cond d (turned at_now p ((raws.raw a).values p)) ((raws.raw a).values p) ≡ turned_by go p ((raws.raw a).values p)
        by true e b k = refl
        by false e false plain = sym (ap (λ (b : Bool). cond b (pos (go (address_of ((raws.raw a).values p)))) ((raws.raw a).values p)) plain)
        by false e true ref =
            let kind : p.kind ≡ Ref = ref-kind p.kind ref in
            let held = can.targets a p has there kind in
            let stays : go held.address ≡ held.address = beside held.address (unturned-outside a p held.address has there kind held.is e) in
            held.is ∙ ap (λ (n : ℕ). pos n) (sym stays) ∙ ap (λ (x : ℤ). pos (go (address_of x))) (sym held.is) ∙ sym (ap (λ (b : Bool). cond b (pos (go (address_of ((raws.raw a).values p)))) ((raws.raw a).values p)) ref)

    same-there : (a : ℕ) → raws.has a ≡ true → SameRaw cs (led go (raws.raw a)) (left.raw (go a))
    same-there a has =
        let raw = copy-raw a has in
        record {
          shape = ap (λ (r : Raw). r.shape) raw;
          header = ap (λ (r : Raw). r.header) raw;
          values = λ p there. ap (λ (r : Raw). cond (tests tos (go a + p.offset)) (turned at_now p (r.values p)) (r.values p)) raw ∙ led-value a p has there;
        }

    roots-lead : addresses roots ≡ map go (addresses h.roots)
    roots-lead = ap (λ (xs : List Addr). addresses xs) run.roots_are ∙ each h.roots
      where
        each : (xs : List Addr) → addresses (map (gone_to at_now) xs) ≡ map go (addresses xs)
        each [] = refl
        each (x ∷ xs) = ap (λ (ns : List ℕ). go x.0 ∷ ns) (each xs)

    -- PAGES

    in_use-window : (p : ℕ) → list_any (region_page p) h.regions.in_use ≡ true → is_in Regions p ≡ true
    in_use-window p is =
        filled-window (lists_of h.regions) p can.held.space (ap (λ (rows : List Row). list_any (region_page p) rows) (ap (λ (rows : List Row). h.regions.in_use ++ rows) ok.plan_is.young.no_from ∙ append-nil h.regions.in_use) ∙ is)

    kept-page : (q : ℕ) → is_in Regions q ≡ false → page_at m4 t q ≡ page_at m3 t q
    kept-page q off = run.releases.others t q (inr (no (list_any (region_page q) h.regions.in_use) (λ is. clash (is_in Regions q) (in_use-window q is) off)))

    left-off : (p : ℕ) → list_any (region_page p) h.regions.in_use ≡ true → (b k : ℕ) → left.has b ≡ true → k < raw_size cs left b → page_of (b + k) ≡ p → ⊥
    left-off p is b k has less at =
        let parts = and_parts (nat_le 262144 p) (nat_lt p 327680) (in_use-window p is) in
        let low = leb-true 262144 p parts.0 in
        let high = ltb-true p 327680 parts.1 in
        elim (have'.held.others b (and_parts (at_now.has b) (outside b) has).0 (left-out b has)) [ inl before ↦ omega (arith, before, less, low, at) | inr behind ↦ omega (arith, behind, high, at) ]

    none-filled : (p : ℕ) → list_any (region_page p) (filled (lists_of s4)) ≡ false
    none-filled p = ap (λ (rows : List Row). list_any (region_page p) (rows ++ s4.from)) run.none_left.0 ∙ ap (λ (rows : List Row). list_any (region_page p) rows) run.none_left.1

    left-held : HoldsRegions cs m4 t (lists_of s4) left
    left-held = record {
      live = run.releases.live t ∙ run.keeps3.live t ∙ have'.held.live;
      sound = run.sound4;
      space = run.space4;
      pages = run.pages4;
      alone = λ p any. absurd (clash (list_any (region_page p) (filled (lists_of s4))) any (none-filled p));
      holds = raws-gone cs (view_of m3 t) (view_of m4 t) left (λ p. list_any (region_page p) h.regions.in_use) (raws-among cs (view_of m3 t) (turned_where at_now (tests tos)) outside run.turned_all) left-off
          (λ at none. let same = run.releases.others t (page_of at) (inr none) in (byte-page m3 m4 t t at same, mapped-page m3 m4 t t at same));
      rows = λ b has inside. absurd (clash (in_regions b) inside (left-out b has));
      others = λ b has out. have'.held.others b (and_parts (at_now.has b) (outside b) has).0 out;
    }

    -- outside the regions and the segment the same pages are mapped
    seen : (q : ℕ) → in_segment z.fill bytes q ≡ false → page_at m1 t q ≡ page_at m t q
    seen q off = ok.maps.others t q (beside-run h m m1 t raws z z1 plan ok t q (inr off))

    mapped-seen : (q : ℕ) → is_in Regions q ≡ false → in_segment z.fill bytes q ≡ false → is_mapped m4 t q ≡ is_mapped m t q
    mapped-seen q out off =
        ap (λ (o : Option Page). is_some o) (kept-page q out) ∙ run.keeps3.mapped q ∙ have'.keeps.mapped q ∙ ap (λ (o : Option Page). is_some o) (seen q off)

    -- a page that was mapped isn't one of the segment
    mapped-off : (q : ℕ) → IsTrue (is_mapped m t q) → in_segment z.fill bytes q ≡ false
    mapped-off q mapped = no (in_segment z.fill bytes q) (λ is. clash (is_mapped m t q) mapped (ok.maps.fresh q (in-run h m m1 t raws z z1 plan ok q is)))

    large-pages : HasPages m4 t rows
    large-pages =
        subst (λ (rs : List LargeRow). HasPages m4 t rs) (sym run.rows_are) (pages-kept promoted_row keeps-promoted m4 t h.rows (λ p large.
        mapped-seen p (no (is_in Regions p) (λ young'. windows-apart p young' large)) (no (in_segment z.fill bytes p) (λ is.
        let low = leb-true 524288 p (and_parts (nat_le 524288 p) (nat_lt p 655360) large).0 in
        let high = segment-below h m m1 t raws z z1 plan ok p is in
        omega (arith, low, high))) ∙ can.large.pages p large))

    pub gains : GainsSegment z z2 (sizes h m m1 t raws z z1 plan ok)
    gains = record {
      closed = run.gains.closed;
      fill = run.gains.fill ∙ ap (λ (n : ℕ). segment_end n (sizes h m m1 t raws z z1 plan ok)) ok.opens.fill;
      starts = λ q.
          let spots : ℕ → Bool = λ n. list_any (λ spot. nat_eq q spot) (spots_for n (sizes h m m1 t raws z z1 plan ok)) in
          run.gains.starts q ∙ ap (λ (b : Bool). b || spots z1.fill) (ok.opens.starts q) ∙ ap (λ (n : ℕ). is_marked z.starts q || spots n) ok.opens.fill;
    }

    zygote-pages : HasPagesUpTo m4 t z2.fill
    zygote-pages =
        let end : pages_up_to (end_in z1.fill z1.segment) ≡ pages_up_to z2.fill =
        ap (λ o. pages_up_to (end_in z1.fill o)) ok.opens.segment ∙ sym (pages-end z.fill (sizes h m m1 t raws z z1 plan ok)) ∙ ap pages_up_to (sym gains.fill) in
        λ p window.
        ap (λ (o : Option Page). is_some o) (kept-page p (no (is_in Regions p) (λ young'.
        let low = leb-true 262144 p (and_parts (nat_le 262144 p) (nat_lt p 327680) young').0 in
        let high = ltb-true p 262144 (and_parts (nat_le 196608 p) (nat_lt p 262144) window).1 in
        omega (arith, low, high))))
        ∙ run.keeps3.mapped p ∙ have'.keeps.mapped p ∙ ok.pages p window ∙ ap (λ (n : ℕ). nat_le 196608 p && nat_lt p (196608 + n)) end

    pub promoted : IsPromoted h m4 t raws z s4 rows roots z2
    promoted = record {
      go = go;
      young = young;
      now = left;
      are_young = ok.plan_is.young;
      leads = leads;
      has = λ b. (left-from b, λ it. subst (λ (x : ℕ). left.has x ≡ true) it.2 (goes-left it.0 it.1));
      same = same-there;
      held = left-held;
      none_in_use = run.none_left;
      count = run.count;
      rows_promoted = run.rows_are;
      large_pages = large-pages;
      roots_lead = roots-lead;
      gains = gains;
      zygote_pages = zygote-pages;
    }

    only-table : OnlyTable m m4 t
    only-table = only-trans m m2 m4 t (only2 h m m1 t raws z z1 plan ok m2 tos have') (only-trans m2 m3 m4 t (one-table m2 m3 t may_write run.keeps3) run.only4)

    pub only-after : OnlyTable m1 m4 t
    only-after = only-trans m1 m2 m4 t (one-table m1 m2 t may_write have'.keeps) (only-trans m2 m3 m4 t (one-table m2 m3 t may_write run.keeps3) run.only4)

    may-off : (q : ℕ) → may_write q ≡ false → (may_change h q ≡ false) × (in_segment z.fill bytes q ≡ false)
    may-off q off = or_parts (may_change h q) (in_segment z.fill bytes q) off

    others-stay : (u q : ℕ) → (u ≢ t) ⊎ (may_write q ≡ false) → page_at m4 u q ≡ page_at m u q
    others-stay u q off =
        run.releases.others u q (elim off [
          | inl ne ↦ inl ne
          | inr out ↦ inr (no (list_any (region_page q) h.regions.in_use) (λ is. clash (may_change h q) (may-young h m t raws can q (in_use-window q is)) (may-off q out).0))
        ])
        ∙ run.keeps3.others u q off ∙ have'.keeps.others u q off
        ∙ ok.maps.others u q (beside-run h m m1 t raws z z1 plan ok u q (elim off [ inl ne ↦ inl ne | inr out ↦ inr (may-off q out).1 ]))

    change-cases : (q : ℕ) → may_change h q ≡ true → (is_in Regions q ≡ true) ⊎ HasOneSharer m t q
    change-cases q change = elim (or_cases (is_in Regions q || list_any (holds_page q) (filter waits h.rows)) (list_any (λ (slot : Slot). nat_eq (page_of slot.at.0) q) h.slots) change) [
      | inl objects ↦ elim (or_cases (is_in Regions q) (list_any (holds_page q) (filter waits h.rows)) objects) [ inl inside ↦ inl inside | inr large ↦ inr (can.large.alone q large) ]
      | inr slots ↦
          let it = any-at (λ (slot : Slot). nat_eq (page_of slot.at.0) q) h.slots slots in
          inr (subst (λ (p : ℕ). HasOneSharer m t p) (eqb-true (page_of it.0.at.0) q it.2) (can.slots.alone it.0 (contains-in h.slots it.0 it.1)))
    ]

    alone-after : (q : ℕ) → may_write q ≡ true → IsTrue (is_mapped m4 t q) → HasOneSharer m4 t q
    alone-after q write mapped = elim (or_cases (may_change h q) (in_segment z.fill bytes q) write) [
      | inl change ↦ elim (change-cases q change) [
        | inl inside ↦ absurd (clash (list_any (region_page q) (filled (lists_of s4))) (sym (run.pages4 q inside) ∙ mapped) (none-filled q))
        | inr one ↦ mapped-alone m m4 t q only-table one mapped
      ]
      | inr new ↦ mapped-alone m2 m4 t q (only-trans m2 m3 m4 t (one-table m2 m3 t may_write run.keeps3) run.only4) ((own2 h m m1 t raws z z1 plan ok m2 tos have').alone q new) mapped
    ]

    frame-stays : (q : ℕ) → is_in Regions q ≡ false → IsTrue (is_mapped m t q) → frame_at m4 t q ≡ frame_at m t q
    frame-stays q out mapped = by (may_write q) refl
      where
        by : (b : Bool) → may_write q ≡ b → frame_at m4 t q ≡ frame_at m t q
        by false off = frame-same m m4 t t q q (others-stay t q (inr off))
        by true write = elim (or_cases (may_change h q) (in_segment z.fill bytes q) write) [
          | inr new ↦ absurd (clash (in_segment z.fill bytes q) new (mapped-off q mapped))
          | inl change ↦ elim (change-cases q change) [
            | inl inside ↦ absurd (clash (is_in Regions q) inside out)
            | inr one ↦
                let first' : page_at m1 t q ≡ page_at m t q = seen q (mapped-off q mapped) in
                let in1 : IsTrue (is_mapped m1 t q) = ap (λ (o : Option Page). is_some o) first' ∙ mapped in
                let one1 = mapped-alone m m1 t q (only1 h m m1 t raws z z1 plan ok) one in1 in
                let in2 : IsTrue (is_mapped m2 t q) = have'.keeps.mapped q ∙ in1 in
                frame-same m3 m4 t t q q (kept-page q out) ∙ run.keeps3.frames q in2 (have'.keeps.alone q in1 one1) ∙ have'.keeps.frames q in1 one1 ∙ frame-same m m1 t t q q first'
          ]
        ]

    pub leaves : LeavesPages h m m4 t z.fill bytes
    leaves = record {
      others = others-stay;
      live = λ u. run.releases.live u ∙ run.keeps3.live u ∙ have'.keeps.live u ∙ ok.maps.live u;
      alone = alone-after;
      mapped = mapped-seen;
      frames = frame-stays;
      written = λ q out mapped was.
          ap (λ (o : Option Page). flag_of o) (kept-page q out) ∙ run.keeps3.written q (have'.keeps.written q (ap (λ (o : Option Page). flag_of o) (seen q (mapped-off q mapped)) ∙ was));
    }

    pub rose : RoseBy (reads_to_turn cs raws young) m1.reads m4.reads
    rose =
        subst (λ (n : ℕ). RoseBy (reads_to_turn cs raws young) n m4.reads) run.reads2
        (subst (λ (n : ℕ). RoseBy (reads_to_turn cs raws young) m2.reads n) (sym run.releases.reads)
        (subst (λ (n : ℕ). RoseBy n m2.reads m3.reads) (reads-same h m m1 t raws z z1 plan ok m2 tos have') run.rose3))

-- THE REGIONS ARE DROPPED

module _ (h : HeapState) (m m1 : Memory) (t : ℕ) (raws : Raws) (z z1 : zygote.Space) (plan : Turning) (ok : IsOpened h m m1 t raws z z1 plan) (m2 : Memory) (tos : List Addr)
    (have : HaveMoved h m m1 t raws z z1 plan ok m2 tos) (m3 : Memory) (keeps3 : Keeps m2 m3 t (may h m m1 t raws z z1 plan ok)) where
  in_use-all : filled (lists_of h.regions) ≡ h.regions.in_use
  in_use-all = ap (λ (rows : List Row). h.regions.in_use ++ rows) ok.plan_is.young.no_from ∙ append-nil h.regions.in_use

  pub live3 : IsTrue (is_live m3 t)
  live3 = keeps3.live t ∙ have.held.live

  pub region-pages3 : HasRegionPages m3 t h.regions.in_use
  region-pages3 = subst (λ (rows : List Row). HasRegionPages m3 t rows) in_use-all (λ p inside. keeps3.mapped p ∙ have.held.pages p inside)

  pub region-alone3 : AreRegionsAlone m3 t h.regions.in_use
  region-alone3 = subst (λ (rows : List Row). AreRegionsAlone m3 t rows) in_use-all (λ p is.
      keeps3.alone p (have.held.pages p (filled-window (lists_of h.regions) p have.held.space is) ∙ is) (have.held.alone p is))
