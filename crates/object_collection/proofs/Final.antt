-- What holds after a collection.
use Rattle.std.proofs.Common.{◌≡◌, ◌≢◌, ◌∙◌, ◌⊎◌, ◌||◌, ◌&&◌, ℕ, ◌+◌, ◌*◌, ◌<◌, ◌≤◌, inl, inr, Bool, true, false, cond, List, [], ◌∷◌, ◌++◌, Option, Some, None, pos, filter, get_or, length, map, nat_eq, refl, sym, ap, subst, arith}
use Rattle.std.specs.Prelude.{◌↔◌, ◌^◌, if◌then◌else◌, ℤ, IsTrue, count_by, is_some, nat_le, nat_lt, not}
use Rattle.std.specs.List.{list_any, AllByRecursion, Contains}
use Rattle.std.specs.List.{IsDistinct}
use Rattle.std.proofs.lemmas.Cmp.{nat_eq_equiv}
use Rattle.std.proofs.lemmas.List.Sums.{length-filter}
use Rattle.std.proofs.lemmas.Map.Made.{is_member-Decides, length-le_from_is_member}
use borrow.Author.Tests.{ltb-true}
use Rattle.model_numbers.specs.Numbers.{large_slot_count, region_base}
use Rattle.live_objects.specs.Reach.{in_large, is_mortal, is_node, is_strong, starts_of, waits_in, IsFound}
use Rattle.live_objects.proofs.YoungLemmas.{in-first, in-rest, map-from, map-in}
use Rattle.std.proofs.lemmas.Bool.{and_from, and_parts, eq-eqb, eqb-true, or_cases, or_from, or_left, or_parts, or_right}
use Rattle.std.proofs.lemmas.List.Elements.{Contains-append_left, Contains-append_right}
use Rattle.bit_set.specs.Bits.{is_member}
use Rattle.region_space.proofs.PageLemmas.{inside}
use Rattle.live_objects.proofs.ReachLemmas.{reached-held, reached-start}
use Rattle.std.proofs.lemmas.List.{append-nil, get_or-map, get_or_default, length-map}
use Rattle.std.proofs.lemmas.List.Folds.{list_any-append}
use Rattle.page_tables.specs.declared.address.Window.TheVariants.{Image, Regions, Zygote}
use Rattle.page_tables.specs.Address.{is_immune, is_in, page_of}
use Rattle.object_view.specs.declared.names.Slot.{Slot}
use Rattle.object_view.proofs.Rises.{reads-rise, rose-more}
use Rattle.object_view.proofs.Spans.{frame-same}
use Rattle.raw_objects.proofs.Kept.{one-table}
use Rattle.region_lists.specs.Rows.{Row}
use Rattle.region_space.proofs.DropLemmas.{from-window}
use Rattle.large_objects.proofs.PageLemmas.{one-side}
use Rattle.page_tables.specs.declared.address.Addr.{Addr}
use Rattle.cow_pages.specs.Memory.{flag_of, frame_at, is_mapped, page_at, HasOneSharer, Memory, Page}
use Rattle.cow_pages.specs.Only.{OnlyTable}
use Rattle.cow_pages.specs.View.{u32_at, view_of}
use Rattle.cow_pages.proofs.OnlyLemmas.{only-trans}
use Rattle.object_view.specs.Changes.{reads_after_all}
use Rattle.object_view.specs.Seen.{RoseBy}
use Rattle.raw_objects.specs.Keeps.{Keeps}
use Rattle.raw_objects.specs.Raws.{among, Raw, Raws}
use Rattle.raw_objects.specs.References.{goes, in_regions, now_at, turned, turned_where}
use Rattle.raw_objects.specs.References.{address_in as address_of}
use Rattle.class_layout.specs.declared.kind.Kind.TheVariants.{Ref}
use Rattle.class_layout.specs.declared.kind.FieldAt.{FieldAt}
use Rattle.class_layout.specs.Kinds.{is_ref}
use Rattle.class_layout.specs.Placing.{IsIn}
use Rattle.graph_pages.specs.Collected.{turned_by}
use Rattle.heap_graph.specs.Places.{places_of}
use Rattle.heap_graph.proofs.Places.{bytes-low, one-place}
use Rattle.object_view.proofs.Laid.{place-within}
use Rattle.large_objects.proofs.TableLemmas.{row-spot}
use Rattle.std.proofs.lemmas.Bool.{cases_order, ne_eqb}
use Rattle.region_space.specs.Space.{filled, lists_of, Space}
use Rattle.region_space.specs.Space.{holds_page as region_page}
use Rattle.large_objects.specs.declared.rows.LargeRow.{LargeRow}
use Rattle.large_objects.specs.Pages.{holds_page}
use Rattle.large_objects.specs.Rows.{row_at, slot_base, waits, AreRows}
use Rattle.live_objects.specs.Live.{addresses}
use Rattle.weak_refs.specs.Weak.{is_dead, is_page_of}
use Rattle.object_moves.specs.Copies.{at_of, sizes_at, HoldsRegions, PacksAt}
use Rattle.object_moves.specs.Turns.{gone_to, is_reference_at, is_reference_of, is_slot_of}
use Rattle.object_moves.proofs.Many.{place-reference}
use Rattle.object_collection.specs.Listed.{leads_young}
use Rattle.object_view.specs.Values.{is_value}
use Rattle.object_view.proofs.Lookups.{address-fits}
use Rattle.object_view.proofs.Stores.{loaded}
use Rattle.object_view.proofs.Laid.{ref-kind}
use Rattle.object_collection.specs.Collects.{may_change, AreLeft, AreRowsLeft, CanCollect, HeapState, IsCollected, IsKept, IsReached, Leads, LeavesPages}
use Rattle.object_collection.specs.Phases.{goes_by, is_lost, is_turned, leads_to, slot_in, stays_by, stays_in, IsPlan, Listed, Turning}
use Rattle.object_collection.proofs.Marked.{filter-fewer, gone-waits}
use Rattle.object_collection.proofs.Called.{copied, HasRun}
use Rattle.object_collection.proofs.Dropping.{dead-window, mapped-alone}
use Rattle.object_collection.proofs.Facts.{all-at, any-at, any-of, filter-from, filter-in, may-large, may-young, mortal-cases, reached-has, row-in, waiting-row, IsWaiting}
use Rattle.object_collection.proofs.Nulled.{slot-in, weak-page, weak-reference}
use Rattle.object_collection.proofs.Steps.{any-fewer}
use Rattle.object_collection.proofs.Remaining.{held-left, Stays}
use Rattle.object_collection.proofs.Running.{cleared, contains-in, get-in, gone, gone-lost, stays-raw, copy-has, copy-inside, kept1, lost-large, only-three, regions-high, same-length, young-reached}

no : (b : Bool) → (b ≡ true → ⊥) → b ≡ false
no true fails = absurd (fails refl)
no false fails = refl

clash : (b : Bool) → b ≡ true → b ≡ false → ⊥
clash true e f = cc
clash false e f = cc

all-filter : (x : ℕ) (keep : ℕ → Bool) (xs : List ℕ) → AllByRecursion (λ y. nat_eq x y ≡ false) xs → AllByRecursion (λ y. nat_eq x y ≡ false) (filter keep xs)
all-filter x keep [] all = tt
all-filter x keep (y ∷ ys) all = by (keep y) (all-filter x keep ys all.1)
  where
    by : (b : Bool) → AllByRecursion (λ y. nat_eq x y ≡ false) (filter keep ys) → AllByRecursion (λ y. nat_eq x y ≡ false) (cond b (y ∷ filter keep ys) (filter keep ys))
    by true rest = (all.0, rest)
    by false rest = rest

distinct-filter : (keep : ℕ → Bool) (xs : List ℕ) → IsDistinct nat_eq xs → IsDistinct nat_eq (filter keep xs)
unfolding IsDistinct
distinct-filter keep [] d = tt
distinct-filter keep (x ∷ xs) d = by (keep x) (distinct-filter keep xs d.1)
  where
    by : (b : Bool) → IsDistinct nat_eq (filter keep xs) → IsDistinct nat_eq (cond b (x ∷ filter keep xs) (filter keep xs))
    by true rest = (all-filter x keep xs d.0, rest)
    by false rest = rest

-- the immune windows lie below the regions
immune-low : (b : ℕ) → is_immune b ≡ true → b < region_base
immune-low b is = elim (or_cases (is_in Image (page_of b)) (is_in Zygote (page_of b)) is) [
  | inl image ↦ let high = ltb-true (page_of b) 147456 (and_parts (nat_le 131072 (page_of b)) (nat_lt (page_of b) 147456) image).1 in omega (arith, high)
  | inr zygote ↦ let high = ltb-true (page_of b) 262144 (and_parts (nat_le 196608 (page_of b)) (nat_lt (page_of b) 262144) zygote).1 in omega (arith, high)
]

mortal-high : (rows : List LargeRow) (a : ℕ) → is_mortal rows a ≡ true → region_base ≤ a
mortal-high rows a is = elim (mortal-cases rows a is) [ inl young ↦ regions-high a young | inr large ↦ let at = large.at_is in omega (arith, at) ]

-- of the weak references at most as many lie in the immune windows as there are slots
immune-few : (h : HeapState) (m : Memory) (t : ℕ) (raws : Raws) (plan : Listed) → CanCollect h m t raws → IsPlan h m raws plan → count_by is_immune (addresses plan.weak) ≤ length h.slots
immune-few h m t raws plan can ok =
    let weak : List ℕ = addresses plan.weak in
    let ats : List ℕ = map (λ (slot : Slot). slot.at.0) h.slots in
    let few = length-le_from_is_member nat_eq_equiv (filter is_immune weak) ats (distinct-filter is_immune weak ok.weak.once) (λ q is.
    let there = (is_member-Decides (λ a b. (eqb-true a b, eq-eqb a b)) (filter is_immune weak) q).0 is in
    let found = filter-from is_immune weak q there in
    (is_member-Decides (λ a b. (eqb-true a b, eq-eqb a b)) ats q).1 (listed q found.0 found.1)) in
    omega (arith, few, length-filter is_immune weak, length-map h.slots (λ (slot : Slot). slot.at.0))
  where
    listed : (q : ℕ) → Contains (addresses plan.weak) q → is_immune q ≡ true → Contains (map (λ (slot : Slot). slot.at.0) h.slots) q
    listed q c immune = elim ((ok.weak.only q).0 c) [
      | inl it ↦ let low = immune-low q immune in let high = mortal-high h.rows it.object (reached-has h m t raws can it.object it.reached).1 in let at = it.at_is in absurd (omega (arith, low, high, at))
      | inr it ↦ subst (λ (n : ℕ). Contains (map (λ (slot : Slot). slot.at.0) h.slots) n) it.at_is (map-in (λ (slot : Slot). slot.at.0) h.slots it.slot (slot-in h.slots it.slot it.is_in))
    ]

flip : (b : Bool) → not b ≡ true → b ≡ false
flip true e = sym e
flip false e = refl

-- no slot lies in the regions
pub slot-outside : (slot : ℕ) → in_regions (slot_base slot) ≡ false
slot-outside slot = no (in_regions (slot_base slot)) (λ is.
    let parts = and_parts (nat_le 262144 (page_of (slot_base slot))) (nat_lt (page_of (slot_base slot)) 327680) is in
    let below = ltb-true (page_of (slot_base slot)) 327680 parts.1 in
    omega (arith, below))

-- where a listed address stands
index-of : (ats : List Addr) (a : ℕ) → Contains (addresses ats) a → (i : ℕ) × (i < length ats) × (at_of ats i ≡ a)
index-of ats a c =
    let n = length-map ats (λ (x : Addr). x.0) in
    let below : c.0 < length ats = omega (arith, c.1, n) in
    (c.0, below, sym (get_or-map (λ (x : Addr). x.0) ats c.0 (record { 0 = 0 }) 0 below) ∙ get_or_default (addresses ats) c.0 0 a c.1 ∙ c.2)

-- a slot of a waiting object lies in the large window
row-large : (rows : List LargeRow) (a : ℕ) → AreRows rows → IsWaiting rows a → in_large a ≡ true
row-large rows a are it =
    let within = all-at (λ (row : LargeRow). row.slot < large_slot_count) rows it.row are.within it.is_in in
    let at = it.at_is in
    inside 524288 655360 (page_of a) (omega (arith, at)) (omega (arith, at, within))

module _ (h : HeapState) (m : Memory) (t : ℕ) (raws : Raws) (plan : Listed) (can : CanCollect h m t raws) (ok : IsPlan h m raws plan) where
  module _ (m1 m2 m3 m4 : Memory) (s2 s4 : Space) (tos roots : List Addr) (rows : List LargeRow) (run : HasRun h m t raws plan can ok m1 m2 m3 m4 s2 s4 tos roots rows) where
    pub only-table : OnlyTable m m4 t
    only-table = only-trans m m3 m4 t (only-three h m t raws plan can ok m1 run.before.clears run.before.sound1 m2 s2 tos run.before.moves run.before.regions2.1 run.before.outside run.before.only2 m3 run.before.keeps3) run.only4

    pub objects-fewer : s4.objects ≤ h.regions.objects
    objects-fewer = let few = ok.few in let r4 = run.regions4.2 in let r2 = run.before.regions2.2 in omega (arith, few, r4, r2)

    pub waiting-fewer : length (filter waits rows) ≤ length (filter waits h.rows)
    waiting-fewer = subst (λ (rs : List LargeRow). length (filter waits rs) ≤ length (filter waits h.rows)) (sym run.rows_are) (filter-fewer waits (stays_by plan.large) h.rows)

    abbrev kept : Keeps m m1 t (is_page_of (gone h m t raws plan can ok))
    kept = kept1 h m t raws plan can ok m1 run.before.clears run.before.sound1

    gone-may : (q : ℕ) → is_page_of (gone h m t raws plan can ok) q ≡ true → may_change h q ≡ true
    gone-may q is =
        let it = any-at (λ (at : ℕ). nat_eq (page_of at) q) (addresses plan.weak) (any-fewer (λ (at : ℕ). nat_eq (page_of at) q) (is_dead (stays_in plan.stays) (view_of m t)) (addresses plan.weak) is) in
        ap (may_change h) (sym (eqb-true (page_of it.0) q it.2)) ∙ (weak-page h m t raws plan can ok it.0 it.1).1

    goes-may : (q : ℕ) → list_any (holds_page q) (filter (goes_by plan.large) h.rows) ≡ true → may_change h q ≡ true
    goes-may q is = may-large h m t raws can q (gone-waits plan.large q h.rows is)

    from-regions : (q : ℕ) → list_any (region_page q) s2.from ≡ true → is_in Regions q ≡ true
    from-regions q is = from-window (lists_of s2) q run.before.moves.held.space is

    not-gone : (q : ℕ) → may_change h q ≡ false → (list_any (region_page q) s2.from || list_any (holds_page q) (filter (goes_by plan.large) h.rows)) ≡ false
    not-gone q out = or_from (list_any (region_page q) s2.from) (list_any (holds_page q) (filter (goes_by plan.large) h.rows))
        (no (list_any (region_page q) s2.from) (λ is. clash (may_change h q) (may-young h m t raws can q (from-regions q is)) out))
        (no (list_any (holds_page q) (filter (goes_by plan.large) h.rows)) (λ is. clash (may_change h q) (goes-may q is) out))

    beside-gone : (q : ℕ) → is_in Regions q ≡ false → list_any (holds_page q) (filter waits h.rows) ≡ false
        → (list_any (region_page q) s2.from || list_any (holds_page q) (filter (goes_by plan.large) h.rows)) ≡ false
    beside-gone q beside quiet = or_from (list_any (region_page q) s2.from) (list_any (holds_page q) (filter (goes_by plan.large) h.rows))
        (no (list_any (region_page q) s2.from) (λ is. clash (is_in Regions q) (from-regions q is) beside))
        (no (list_any (holds_page q) (filter (goes_by plan.large) h.rows)) (λ is. clash (list_any (holds_page q) (filter waits h.rows)) (gone-waits plan.large q h.rows is) quiet))

    -- a page that is still mapped wasn't one of a large object that went
    mapped-stays : (q : ℕ) → is_in Regions q ≡ false → IsTrue (is_mapped m4 t q) → (list_any (region_page q) s2.from || list_any (holds_page q) (filter (goes_by plan.large) h.rows)) ≡ false
    mapped-stays q beside mapped = or_from (list_any (region_page q) s2.from) (list_any (holds_page q) (filter (goes_by plan.large) h.rows))
        (no (list_any (region_page q) s2.from) (λ is. clash (is_in Regions q) (from-regions q is) beside))
        (no (list_any (holds_page q) (filter (goes_by plan.large) h.rows)) (λ is.
        let there : list_any (holds_page q) (filter (stays_by plan.large) h.rows) ≡ true = ap (λ (rs : List LargeRow). list_any (holds_page q) rs) (sym run.rows_are) ∙ sym (run.large_pages q (dead-window h.rows (goes_by plan.large) q can.large.rows is)) ∙ mapped in
        clash (list_any (holds_page q) (filter (stays_by plan.large) h.rows)) there (one-side (stays_by plan.large) q h.rows can.large.rows.apart can.large.rows.bytes is)))

    regions-alone : (q : ℕ) → is_in Regions q ≡ true → IsTrue (is_mapped m4 t q) → HasOneSharer m4 t q
    regions-alone q inside mapped =
        let any : list_any (region_page q) (filled (lists_of s4)) ≡ true = sym (run.region_pages q inside) ∙ mapped in
        let in_use : list_any (region_page q) s2.in_use ≡ true = ap (λ (rows : List Row). list_any (region_page q) rows) (sym run.regions4.0 ∙ sym (append-nil s4.in_use) ∙ ap (λ (rows : List Row). s4.in_use ++ rows) (sym run.no_from.0)) ∙ any in
        let alone : HasOneSharer m2 t q = run.before.moves.held.alone q (list_any-append (region_page q) s2.in_use s2.from ∙ or_left (list_any (region_page q) s2.in_use) (list_any (region_page q) s2.from) in_use) in
        mapped-alone m2 m4 t q (only-trans m2 m3 m4 t (one-table m2 m3 t (may_change h) run.before.keeps3) run.only4) alone mapped

    mapped-alone' : (q : ℕ) → (is_in Regions q ≡ true) ⊎ HasOneSharer m t q → IsTrue (is_mapped m4 t q) → HasOneSharer m4 t q
    mapped-alone' q (inl inside) mapped = regions-alone q inside mapped
    mapped-alone' q (inr alone) mapped = mapped-alone m m4 t q only-table alone mapped

    may-cases : (q : ℕ) → may_change h q ≡ true → (is_in Regions q ≡ true) ⊎ HasOneSharer m t q
    may-cases q may = elim (or_cases (is_in Regions q || list_any (holds_page q) (filter waits h.rows)) (list_any (λ (slot : Slot). nat_eq (page_of slot.at.0) q) h.slots) may) [
      | inl objects ↦ elim (or_cases (is_in Regions q) (list_any (holds_page q) (filter waits h.rows)) objects) [ inl inside ↦ inl inside | inr large ↦ inr (can.large.alone q large) ]
      | inr slots ↦
          let it = any-at (λ (slot : Slot). nat_eq (page_of slot.at.0) q) h.slots slots in
          inr (subst (λ (p : ℕ). HasOneSharer m t p) (eqb-true (page_of it.0.at.0) q it.2) (can.slots.alone it.0 (contains-in h.slots it.0 it.1)))
    ]

    abbrev now : Raws
    now = copied h m t raws plan can ok tos

    abbrev go : ℕ → ℕ
    go = leads_to h.rows plan.stays now

    -- what is lost is a large object that is neither promoted nor reached
    lost-row : (a : ℕ) → is_lost h.rows plan.stays a ≡ true → IsWaiting h.rows a × (is_member plan.stays (slot_in a) ≡ false)
    lost-row a is =
        let parts = and_parts (waits_in (row_at h.rows a)) (not (is_member plan.stays (slot_in a))) is in
        (waiting-row h.rows a parts.0, flip (is_member plan.stays (slot_in a)) parts.1)

    slot-is : (a : ℕ) (it : IsWaiting h.rows a) → slot_in a ≡ it.row.slot
    slot-is a it = let at = it.at_is in omega (arith, at)

    reached-stays : (a : ℕ) → IsReached h raws a → is_lost h.rows plan.stays a ≡ false
    reached-stays a r = no (is_lost h.rows plan.stays a) (λ is.
        let lost = lost-row a is in
        let there : IsReached h raws (slot_base lost.0.row.slot) = subst (λ (n : ℕ). IsReached h raws n) (sym lost.0.at_is) r in
        let member = (ok.stays.test lost.0.row lost.0.is_in).1 (inr there) in
        clash (is_member plan.stays (slot_in a)) (ap (is_member plan.stays) (slot-is a lost.0) ∙ member) lost.1)

    young-stays : (a : ℕ) → in_regions a ≡ true → is_lost h.rows plan.stays a ≡ false
    young-stays a inside = no (is_lost h.rows plan.stays a) (λ is.
        let at = (lost-row a is).0.at_is in
        let parts = and_parts (nat_le 262144 (page_of a)) (nat_lt (page_of a) 327680) inside in
        let below = ltb-true (page_of a) 327680 parts.1 in
        omega (arith, at, below))

    -- where an address leads that isn't lost
    led-by : (a : ℕ) → is_lost h.rows plan.stays a ≡ false → go a ≡ goes now a
    led-by a is = ap (λ (b : Bool). cond b 0 (goes now a)) is

    beside : (a : ℕ) → in_regions a ≡ false → goes now a ≡ a
    beside a is = ap (λ (b : Bool). cond b (now_at (now.raw a).header) a) is

    inside-goes : (a : ℕ) → in_regions a ≡ true → goes now a ≡ now_at (now.raw a).header
    inside-goes a is = ap (λ (b : Bool). cond b (now_at (now.raw a).header) a) is

    dead-goes : (a : ℕ) → raws.has a ≡ true → is_mortal h.rows a ≡ true → (IsReached h raws a → ⊥) → go a ≡ 0
    dead-goes a has mortal unreached = elim (mortal-cases h.rows a mortal) [
      | inl inside ↦
          let same : now.raw a ≡ (cleared h m t raws plan can ok).raw a = run.before.moves.moves.same a has (λ i below e.
          unreached (subst (λ (n : ℕ). IsReached h raws n) e ((ok.young.only (at_of plan.young i)).0 (get-in plan.young i below)).1)) in
          led-by a (young-stays a inside) ∙ inside-goes a inside ∙ ap (λ (r : Raw). now_at r.header) same ∙ can.unmoved a has inside
      | inr waiting ↦
          let quiet : is_member plan.stays waiting.row.slot ≡ false = no (is_member plan.stays waiting.row.slot) (λ is. elim ((ok.stays.test waiting.row waiting.is_in).0 is) [
            | inl promoted ↦ clash waiting.row.promoted promoted (flip waiting.row.promoted waiting.waits_is)
            | inr r ↦ unreached (subst (λ (n : ℕ). IsReached h raws n) waiting.at_is r)
          ]) in
          let gone' : is_lost h.rows plan.stays a ≡ true = and_from (waits_in (row_at h.rows a)) (not (is_member plan.stays (slot_in a))) (ap waits_in waiting.found ∙ waiting.waits_is) (ap (λ (n : ℕ). not (is_member plan.stays n)) (slot-is a waiting) ∙ ap not quiet) in
          ap (λ (b : Bool). cond b 0 (goes now a)) gone'
    ]

    leads : Leads h raws plan.young tos go
    leads = record {
      listed = ok.young;
      length_is = same-length h m t raws plan can ok m1 run.before.clears run.before.sound1 m2 s2 tos run.before.moves run.before.regions2.1 run.before.outside run.before.only2;
      moves = λ i below.
          let it = young-reached h m t raws plan can ok i below in
          led-by (at_of plan.young i) (young-stays (at_of plan.young i) it.1) ∙ inside-goes (at_of plan.young i) it.1 ∙ ap (λ (r : Raw). now_at r.header) (run.before.moves.moves.forwarded i below);
      stays = λ a is. let parts = or_parts (in_regions a) (waits_in (row_at h.rows a)) is in led-by a (ap (λ (b : Bool). b && not (is_member plan.stays (slot_in a))) parts.1) ∙ beside a parts.0;
      large = λ a out r. led-by a (reached-stays a r) ∙ beside a out;
      dead = dead-goes;
    }

    listed-row : (row : LargeRow) → (list_any (nat_eq (slot_base row.slot)) (addresses plan.large) ≡ true) → IsReached h raws (slot_base row.slot)
    listed-row row is =
        let it = any-at (nat_eq (slot_base row.slot)) (addresses plan.large) is in
        subst (λ (n : ℕ). IsReached h raws n) (sym (eqb-true (slot_base row.slot) it.0 it.2)) ((ok.large.only it.0).0 it.1).1

    rows-left : AreRowsLeft h raws rows
    rows-left = record {
      stays = stays_by plan.large;
      test = λ row there. (
        λ is. elim (or_cases row.promoted (list_any (nat_eq (slot_base row.slot)) (addresses plan.large)) is) [ inl promoted ↦ inl promoted | inr listed ↦ inr (listed-row row listed) ],
        λ either. elim either [
          | inl promoted ↦ or_left row.promoted (list_any (nat_eq (slot_base row.slot)) (addresses plan.large)) promoted
          | inr r ↦ or_right row.promoted (list_any (nat_eq (slot_base row.slot)) (addresses plan.large))
              (any-of (nat_eq (slot_base row.slot)) (addresses plan.large) (slot_base row.slot) ((ok.large.only (slot_base row.slot)).1 (slot-outside row.slot, r)) (eq-eqb (slot_base row.slot) (slot_base row.slot) refl))
        ],
      );
      rows_are = run.rows_are;
    }

    -- a root leads to where its object is
    root-leads : (a : ℕ) → Contains (addresses h.roots) a → go a ≡ goes now a
    root-leads a c = led-by a (no (is_lost h.rows plan.stays a) (λ is.
        let lost = lost-row a is in
        let has = (can.roots a c).large (row-large h.rows a can.large.rows lost.0) in
        let node : is_node h.rows raws a ≡ true = and_from (raws.has a) (is_mortal h.rows a) has (or_right (in_regions a) (waits_in (row_at h.rows a)) (ap waits_in lost.0.found ∙ lost.0.waits_is)) in
        clash (is_lost h.rows plan.stays a) is (reached-stays a (reached-start h.classes h.rows raws (starts_of h.roots h.slots) a (Contains-append_left (addresses h.roots) _ a c) node))))

    roots-lead : addresses roots ≡ map go (addresses h.roots)
    roots-lead = ap (λ (xs : List Addr). addresses xs) run.before.roots_are ∙ each h.roots (λ a c. c)
      where
        each : (xs : List Addr) → ((a : ℕ) → Contains (addresses xs) a → Contains (addresses h.roots) a) → addresses (map (gone_to now) xs) ≡ map go (addresses xs)
        each [] inside = refl
        each (x ∷ xs) inside =
            ap (λ (n : ℕ). n ∷ addresses (map (gone_to now) xs)) (sym (root-leads x.0 (inside x.0 (in-first x.0 (addresses xs)))))
            ∙ ap (λ (ns : List ℕ). go x.0 ∷ ns) (each xs (λ a c. inside a (in-rest x.0 (addresses xs) a c)))

    -- the objects that are left: those of the regions in use, and the others that aren't lost
    abbrev left-test : ℕ → Bool
    left-test a = if in_regions a then list_any (λ (b : Addr). nat_eq b.0 a) tos else not (is_lost h.rows plan.stays a)

    abbrev left-raws : Raws
    left-raws = among (turned_where now (is_turned h.classes now (record { young = tos; large = plan.large; slots = plan.turned }))) left-test

    abbrev turning : Turning
    turning = record { young = tos; large = plan.large; slots = plan.turned }

    abbrev tests : ℕ → Bool
    tests = is_turned h.classes now turning

    abbrev null-at : ℕ → FieldAt → Bool
    null-at a p = list_any (λ (b : ℕ). nat_eq b (a + p.offset)) (gone h m t raws plan can ok)

    -- a target that doesn't stay leads to none
    unstaying : (n : ℕ) → IsFound raws n → stays_in plan.stays n ≡ false → is_lost h.rows plan.stays n ≡ true
    unstaying n found lost =
        let large = lost-large plan.stays n lost in
        let quiet : is_member plan.stays (slot_in n) ≡ false = (or_parts (not (in_large n)) (is_member plan.stays (slot_in n)) lost).1 in
        by (row_at h.rows n) refl (can.large.only n (found.large large) large) quiet
      where
        by : (o : Option LargeRow) → row_at h.rows n ≡ o → IsTrue (is_some (row_at h.rows n)) → is_member plan.stays (slot_in n) ≡ false → is_lost h.rows plan.stays n ≡ true
        by None e some quiet = absurd (clash (is_some (row_at h.rows n)) some (ap (λ (o : Option LargeRow). is_some o) e))
        by (Some row) e some quiet =
            let at : slot_base row.slot ≡ n = row-spot h.rows n row e in
            let slot : slot_in n ≡ row.slot = omega (arith, at) in
            let promoted : row.promoted ≡ false = no row.promoted (λ is. clash (is_member plan.stays (slot_in n)) (ap (is_member plan.stays) slot ∙ (ok.stays.test row (row-in h.rows n row e)).1 (inl is)) quiet) in
            and_from (waits_in (row_at h.rows n)) (not (is_member plan.stays (slot_in n))) (ap waits_in e ∙ ap not promoted) (ap not quiet)

    -- where a kept object is
    kept-cases : (a : ℕ) → IsKept h raws a → ((i : ℕ) × (i < length plan.young) × (at_of plan.young i ≡ a) × (go a ≡ at_of tos i)) ⊎ ((in_regions a ≡ false) × (go a ≡ a) × (is_lost h.rows plan.stays a ≡ false))
    kept-cases a k = by (in_regions a) refl
      where
        by : (b : Bool) → in_regions a ≡ b → ((i : ℕ) × (i < length plan.young) × (at_of plan.young i ≡ a) × (go a ≡ at_of tos i)) ⊎ ((in_regions a ≡ false) × (go a ≡ a) × (is_lost h.rows plan.stays a ≡ false))
        by true inside = elim k.stays [
          | inl immortal ↦ absurd (clash (in_regions a) inside (or_parts (in_regions a) (waits_in (row_at h.rows a)) immortal).0)
          | inr r ↦ let it = index-of plan.young a ((ok.young.only a).1 (inside, r)) in inl (it.0, it.1, it.2, ap go (sym it.2) ∙ leads.moves it.0 it.1)
        ]
        by false out = elim k.stays [
          | inl immortal ↦ inr (out, leads.stays a immortal, ap (λ (b : Bool). b && not (is_member plan.stays (slot_in a))) (or_parts (in_regions a) (waits_in (row_at h.rows a)) immortal).1)
          | inr r ↦ inr (out, leads.large a out r, reached-stays a r)
        ]

    -- the slot of an immune object's reference to an object that isn't immune
    slot-listed : (a : ℕ) (p : FieldAt) (n : ℕ) → raws.has a ≡ true → is_mortal h.rows a ≡ false → IsIn p (places_of h.classes (raws.raw a).shape) → p.kind ≡ Ref → (raws.raw a).values p ≡ pos n → is_mortal h.rows n ≡ true
        → IsIn (record { at = record { 0 = a + p.offset }; target = record { 0 = n }; weak = p.weak }) h.slots
    slot-listed a p n has immortal there kind value mortal = (can.slots.exact (record { at = record { 0 = a + p.offset }; target = record { 0 = n }; weak = p.weak })).1
        (record { object = a; place = p; has = has; immune = immortal; is_in = there; kind_is = kind; at_is = refl; target_is = sym value; weak_is = refl; outside = mortal })

    -- a kept object's reference to what is lost was cleared
    lost-listed : (a : ℕ) (p : FieldAt) (n : ℕ) → IsKept h raws a → IsIn p (places_of h.classes (raws.raw a).shape) → p.kind ≡ Ref → (raws.raw a).values p ≡ pos n → is_node h.rows raws n ≡ true
        → is_lost h.rows plan.stays n ≡ true → Contains (addresses plan.weak) (a + p.offset)
    lost-listed a p n k there kind value node lost' = by p.weak refl k.stays
      where
        mortal : is_mortal h.rows n ≡ true
        mortal = (and_parts (raws.has n) (is_mortal h.rows n) node).1

        never : IsReached h raws n → ⊥
        never r = clash (is_lost h.rows plan.stays n) lost' (reached-stays n r)

        by : (w : Bool) → p.weak ≡ w → (is_mortal h.rows a ≡ false) ⊎ IsReached h raws a → Contains (addresses plan.weak) (a + p.offset)
        by false strong (inl immortal) =
            let slot : Slot = record { at = record { 0 = a + p.offset }; target = record { 0 = n }; weak = p.weak } in
            let c = filter-in is_strong h.slots slot (slot-in h.slots slot (slot-listed a p n k.has immortal there kind value mortal)) (ap not strong) in
            absurd (never (reached-start h.classes h.rows raws (starts_of h.roots h.slots) n (Contains-append_right (addresses h.roots) (map (λ (s : Slot). s.target.0) (filter is_strong h.slots)) n (map-in (λ (s : Slot). s.target.0) (filter is_strong h.slots) slot c)) node))
        by false strong (inr r) = absurd (never (reached-held h.classes h.rows raws (starts_of h.roots h.slots) a n r (record { place = p; is_in = there; kind_is = kind; strong = strong; target_is = value; node = node })))
        by true weak (inl immortal) =
            (ok.weak.only (a + p.offset)).1 (inr (record { slot = record { at = record { 0 = a + p.offset }; target = record { 0 = n }; weak = p.weak }; is_in = slot-listed a p n k.has immortal there kind value mortal; weak_is = weak; at_is = refl }))
        by true weak (inr r) = (ok.weak.only (a + p.offset)).1 (inl (record { object = a; place = p; reached = r; is_in = there; kind_is = kind; weak_is = weak; at_is = refl }))

    lost-cleared : (a : ℕ) (p : FieldAt) (n : ℕ) → IsKept h raws a → IsIn p (places_of h.classes (raws.raw a).shape) → p.kind ≡ Ref → (raws.raw a).values p ≡ pos n → n < 2 ^ 32 → IsFound raws n
        → is_lost h.rows plan.stays n ≡ true → null-at a p ≡ true
    lost-cleared a p n k there kind value small found lost' =
        let row = lost-row n lost' in
        let large = row-large h.rows n can.large.rows row.0 in
        let node : is_node h.rows raws n ≡ true = and_from (raws.has n) (is_mortal h.rows n) (found.large large) (or_right (in_regions n) (waits_in (row_at h.rows n)) (ap waits_in row.0.found ∙ row.0.waits_is)) in
        let listed = lost-listed a p n k there kind value node lost' in
        let r : Raw = raws.raw a in
        let v = view_of m t in
        let fits : is_value Ref (r.values p) ≡ true = ap (is_value Ref) value ∙ address-fits n small in
        let read = loaded h.classes v a r.shape r.header r.values Ref p.offset p (can.held.holds.stands a k.has) (record { is_in = there; kind_is = kind; offset_is = refl }) fits in
        let word : u32_at v (a + p.offset) ≡ n = ap address_of (read ∙ value) in
        let at = row.0.at_is in
        let some : nat_eq n 0 ≡ false = ne_eqb n 0 (λ e. omega (arith, at, e)) in
        let leaves' : stays_in plan.stays n ≡ false = or_from (not (in_large n)) (is_member plan.stays (slot_in n)) (ap not large) row.1 in
        let dead' : is_dead (stays_in plan.stays) v (a + p.offset) ≡ true = and_from (not (nat_eq (u32_at v (a + p.offset)) 0)) (not (stays_in plan.stays (u32_at v (a + p.offset))))
        (ap (λ (x : ℕ). not (nat_eq x 0)) word ∙ ap not some) (ap (λ (x : ℕ). not (stays_in plan.stays x)) word ∙ ap not leaves') in
        any-of (λ (b : ℕ). nat_eq b (a + p.offset)) (gone h m t raws plan can ok) (a + p.offset) (filter-in (is_dead (stays_in plan.stays) v) (addresses plan.weak) (a + p.offset) listed dead') (eq-eqb (a + p.offset) (a + p.offset) refl)

    stays-here : (a : ℕ) → raws.has a ≡ true → in_regions a ≡ false → now.raw a ≡ (cleared h m t raws plan can ok).raw a
    stays-here a has out = stays-raw h m t raws plan can ok m1 run.before.clears run.before.sound1 m2 s2 tos run.before.moves run.before.regions2.1 run.before.outside run.before.only2 a has out

    length-same : length tos ≡ length plan.young
    length-same = same-length h m t raws plan can ok m1 run.before.clears run.before.sound1 m2 s2 tos run.before.moves run.before.regions2.1 run.before.outside run.before.only2

    copy-raw : (a : ℕ) → IsKept h raws a → now.raw (go a) ≡ (cleared h m t raws plan can ok).raw a
    copy-raw a k = elim (kept-cases a k) [
      | inl it ↦ ap now.raw it.3 ∙ run.before.moves.moves.copy it.0 it.1 ∙ ap (cleared h m t raws plan can ok).raw it.2
      | inr it ↦ ap now.raw it.1 ∙ stays-here a k.has it.0
    ]

    -- and one that isn't turned leads outside the regions
    unturned-outside : (a : ℕ) (p : FieldAt) (n : ℕ) → IsKept h raws a → IsIn p (places_of h.classes (raws.raw a).shape) → p.kind ≡ Ref → (raws.raw a).values p ≡ pos n → tests (go a + p.offset) ≡ false → in_regions n ≡ false
    unturned-outside a p n k there kind value off = no (in_regions n) (λ inside. clash (tests (go a + p.offset)) (turned-there inside) off)
      where
        b : ℕ
        b = go a + p.offset

        here : is_reference_at h.classes now (go a + p.offset) (go a) ≡ true
        here = place-reference h.classes (now.raw (go a)).shape (go a) p (subst (λ (r : Raw). IsIn p (places_of h.classes r.shape)) (sym (copy-raw a k)) there) kind

        object : (ats : List Addr) → Contains (addresses ats) (go a) → is_reference_of h.classes now ats (go a + p.offset) ≡ true
        object ats c =
            let it = map-from (λ (x : Addr). x.0) ats (go a) c in
            any-of (λ (x : Addr). is_reference_at h.classes now (go a + p.offset) x.0) ats it.0 it.1 (ap (is_reference_at h.classes now (go a + p.offset)) it.2 ∙ here)

        turned-there : in_regions n ≡ true → tests (go a + p.offset) ≡ true
        turned-there inside = elim (kept-cases a k) [
          | inl it ↦
              let c : Contains (addresses tos) (go a) = subst (λ (x : ℕ). Contains (addresses tos) x) (sym it.3) (get-in tos it.0 (omega (arith, it.1, length-same))) in
              or_right (is_slot_of plan.turned (go a + p.offset)) _ (or_right (is_reference_of h.classes now plan.large (go a + p.offset)) _ (or_left (is_reference_of h.classes now tos (go a + p.offset)) false (object tos c)))
          | inr it ↦ elim k.stays [
            | inl immortal ↦
                let slot : Slot = record { at = record { 0 = a + p.offset }; target = record { 0 = n }; weak = p.weak } in
                let c = filter-in leads_young h.slots slot (slot-in h.slots slot (slot-listed a p n k.has immortal there kind value (or_left (in_regions n) (waits_in (row_at h.rows n)) inside))) inside in
                let same : a + p.offset ≡ go a + p.offset = omega (arith, it.1) in
                or_left (is_slot_of plan.turned (go a + p.offset)) _ (any-of (λ (s : Slot). nat_eq s.at.0 (go a + p.offset)) plan.turned slot (subst (λ (xs : List Slot). Contains xs slot) (sym ok.turned) c) (eq-eqb (a + p.offset) (go a + p.offset) same))
            | inr r ↦ or_right (is_slot_of plan.turned (go a + p.offset)) _ (or_left (is_reference_of h.classes now plan.large (go a + p.offset)) _ (object plan.large (subst (λ (x : ℕ). Contains (addresses plan.large) x) (sym it.1) ((ok.large.only a).1 (it.0, r)))))
          ]
        ]

    -- only references were cleared
    plain-kept : (a : ℕ) (p : FieldAt) → raws.has a ≡ true → IsIn p (places_of h.classes (raws.raw a).shape) → is_ref p.kind ≡ false → null-at a p ≡ false
    plain-kept a p has there plain = no (null-at a p) (λ is.
        let it = any-at (λ (b : ℕ). nat_eq b (a + p.offset)) (gone h m t raws plan can ok) is in
        let weak = weak-reference h m t raws plan can ok it.0 (filter-from (is_dead (stays_in plan.stays) (view_of m t)) (addresses plan.weak) it.0 it.1).0 in
        let at : weak.object + weak.place.offset ≡ a + p.offset = sym weak.at_is ∙ eqb-true it.0 (a + p.offset) it.2 in
        let theirs = place-within h.classes (raws.raw weak.object).shape Ref weak.place.offset weak.place (record { is_in = weak.is_in; kind_is = weak.kind_is; offset_is = refl }) in
        let mine = place-within h.classes (raws.raw a).shape p.kind p.offset p (record { is_in = there; kind_is = refl; offset_is = refl }) in
        let low = bytes-low p.kind in
        elim (cases_order weak.object a) [
          | inl same ↦
              let place : weak.place ≡ p = one-place h.classes (raws.raw a).shape weak.place p (subst (λ (o : ℕ). IsIn weak.place (places_of h.classes (raws.raw o).shape)) same weak.is_in) there (omega (arith, at, same)) in
              clash (is_ref p.kind) (ap is_ref (ap (λ (q : FieldAt). q.kind) (sym place) ∙ weak.kind_is)) plain
          | inr order ↦ elim order [
            | inl before ↦ let apart = can.held.holds.apart weak.object a weak.has has before in omega (arith, apart, at, theirs.2)
            | inr behind ↦ let apart = can.held.holds.apart a weak.object has weak.has behind in omega (arith, apart, at, mine.2, low)
          ]
        ])

    ref-value : (a : ℕ) (p : FieldAt) (n : ℕ) → IsKept h raws a → IsIn p (places_of h.classes (raws.raw a).shape) → p.kind ≡ Ref → (raws.raw a).values p ≡ pos n → n < 2 ^ 32 → IsFound raws n
        → cond (tests (go a + p.offset)) (pos (goes now (address_of (cond (null-at a p) (pos 0) ((raws.raw a).values p))))) (cond (null-at a p) (pos 0) ((raws.raw a).values p)) ≡ pos (go (address_of ((raws.raw a).values p)))
    ref-value a p n k there kind value small found =
        subst (λ (z : ℤ). cond (tests (go a + p.offset)) (pos (goes now (address_of (cond (null-at a p) (pos 0) z)))) (cond (null-at a p) (pos 0) z) ≡ pos (go (address_of z))) (sym value) (by (null-at a p) refl (tests (go a + p.offset)) refl)
      where
        by : (w : Bool) → null-at a p ≡ w → (d : Bool) → tests (go a + p.offset) ≡ d → cond d (pos (goes now (address_of (cond w (pos 0) (pos n))))) (cond w (pos 0) (pos n)) ≡ pos (go n)
        by true is d e =
            let lost' = unstaying n found (gone-lost h m t raws plan can ok a p n k.has there kind value small is) in
            let none : pos (go n) ≡ pos 0 = ap (λ (b : Bool). pos (cond b 0 (goes now n))) lost' in
            both d ∙ sym none
          where
            both : (d : Bool) → cond d (pos (goes now 0)) (pos 0) ≡ pos 0
            both true = refl
            both false = refl
        by false is true e =
            ap (λ (x : ℕ). pos x) (sym (led-by n (no (is_lost h.rows plan.stays n) (λ l. clash (null-at a p) (lost-cleared a p n k there kind value small found l) is))))
        by false is false e =
            ap (λ (x : ℕ). pos x) (sym (led-by n (no (is_lost h.rows plan.stays n) (λ l. clash (null-at a p) (lost-cleared a p n k there kind value small found l) is)) ∙ beside n (unturned-outside a p n k there kind value e)))

    -- the value at a place of a kept object is the old one, led to where it goes
    led-value : (a : ℕ) (p : FieldAt) → IsKept h raws a → IsIn p (places_of h.classes (raws.raw a).shape)
        → cond (tests (go a + p.offset)) (turned now p (cond (null-at a p) (pos 0) ((raws.raw a).values p))) (cond (null-at a p) (pos 0) ((raws.raw a).values p)) ≡ turned_by go p ((raws.raw a).values p)
    led-value a p kept' there = by (is_ref p.kind) refl
      where
        same : (b : Bool) (z : ℤ) → cond b z z ≡ z
        same true z = refl
        same false z = refl

        by : (b : Bool) → is_ref p.kind ≡ b
            → cond (tests (go a + p.offset)) (turned now p (cond (null-at a p) (pos 0) ((raws.raw a).values p))) (cond (null-at a p) (pos 0) ((raws.raw a).values p)) ≡ turned_by go p ((raws.raw a).values p)
        by false plain =
            let v : ℤ = (raws.raw a).values p in
            let quiet = plain-kept a p kept'.has there plain in
            ap (λ (b : Bool). cond (tests (go a + p.offset)) (cond b (pos (goes now (address_of (cond (null-at a p) (pos 0) v)))) (cond (null-at a p) (pos 0) v)) (cond (null-at a p) (pos 0) v)) plain
            ∙ same (tests (go a + p.offset)) (cond (null-at a p) (pos 0) v)
            ∙ ap (λ (b : Bool). cond b (pos 0) v) quiet
            ∙ sym (ap (λ (b : Bool). cond b (pos (go (address_of v))) v) plain)
        by true ref =
            let kind : p.kind ≡ Ref = ref-kind p.kind ref in
            let held = can.targets a p kept'.has there kind in
            let v : ℤ = (raws.raw a).values p in
            let one : (d w : Bool) → cond d (turned now p (cond w (pos 0) v)) (cond w (pos 0) v) ≡ cond d (pos (goes now (address_of (cond w (pos 0) v)))) (cond w (pos 0) v) = λ d w. ap (λ (b : Bool). cond d (cond b (pos (goes now (address_of (cond w (pos 0) v)))) (cond w (pos 0) v)) (cond w (pos 0) v)) ref in
            let end : turned_by go p v ≡ pos (go (address_of v)) = ap (λ (b : Bool). cond b (pos (go (address_of v))) v) ref in
            one (tests (go a + p.offset)) (null-at a p) ∙ ref-value a p held.address kept' there kind held.is held.below held.found ∙ sym end

    test-inside : (x : ℕ) → in_regions x ≡ true → left-test x ≡ list_any (λ (y : Addr). nat_eq y.0 x) tos
    test-inside x inside = ap (λ (c : Bool). cond c (list_any (λ (y : Addr). nat_eq y.0 x) tos) (not (is_lost h.rows plan.stays x))) inside

    test-outside : (x : ℕ) → in_regions x ≡ false → left-test x ≡ not (is_lost h.rows plan.stays x)
    test-outside x out = ap (λ (c : Bool). cond c (list_any (λ (y : Addr). nat_eq y.0 x) tos) (not (is_lost h.rows plan.stays x))) out

    tos-has : (i : ℕ) → i < length tos → now.has (at_of tos i) ≡ true
    tos-has i below = copy-has h m t raws plan can ok m1 run.before.clears run.before.sound1 m2 s2 tos run.before.moves run.before.regions2.1 run.before.outside run.before.only2 i below

    tos-inside : (i : ℕ) → i < length tos → in_regions (at_of tos i) ≡ true
    tos-inside i below = copy-inside h m t raws plan can ok m1 run.before.clears run.before.sound1 m2 s2 tos run.before.moves run.before.regions2.1 run.before.outside run.before.only2 i below

    kept-left : (a : ℕ) → IsKept h raws a → left-raws.has (go a) ≡ true
    kept-left a k = elim (kept-cases a k) [
      | inl it ↦
          let below : it.0 < length tos = omega (arith, it.1, length-same) in
          let none : Addr = record { 0 = 0 } in
          let to : Addr = get_or tos it.0 none in
          let any = any-of (λ (y : Addr). nat_eq y.0 (at_of tos it.0)) tos to (it.0, below, get_or_default tos it.0 to none below) (eq-eqb to.0 to.0 refl) in
          subst (λ (x : ℕ). left-raws.has x ≡ true) (sym it.3) (and_from (now.has (at_of tos it.0)) (left-test (at_of tos it.0)) (tos-has it.0 below) (test-inside (at_of tos it.0) (tos-inside it.0 below) ∙ any))
      | inr it ↦
          subst (λ (x : ℕ). left-raws.has x ≡ true) (sym it.1) (and_from (now.has a) (left-test a) (run.before.moves.moves.has a k.has) (test-outside a it.0 ∙ ap not it.2))
    ]

    waiting-reached : (b : ℕ) → IsWaiting h.rows b → is_lost h.rows plan.stays b ≡ false → IsReached h raws b
    waiting-reached b it quiet = by (is_member plan.stays it.row.slot) refl
      where
        by : (c : Bool) → is_member plan.stays it.row.slot ≡ c → IsReached h raws b
        by true is = elim ((ok.stays.test it.row it.is_in).0 is) [
          | inl promoted ↦ absurd (clash it.row.promoted promoted (flip it.row.promoted it.waits_is))
          | inr r ↦ subst (λ (n : ℕ). IsReached h raws n) it.at_is r
        ]
        by false is = absurd (clash (is_lost h.rows plan.stays b) (and_from (waits_in (row_at h.rows b)) (not (is_member plan.stays (slot_in b))) (ap waits_in it.found ∙ it.waits_is) (ap (λ (n : ℕ). not (is_member plan.stays n)) (slot-is b it) ∙ ap not is)) quiet)

    not-lost : (b : ℕ) → raws.has b ≡ true → in_regions b ≡ false → is_lost h.rows plan.stays b ≡ false → IsKept h raws b
    not-lost b has out quiet = record { has = has; stays = by (is_mortal h.rows b) refl }
      where
        by : (c : Bool) → is_mortal h.rows b ≡ c → (is_mortal h.rows b ≡ false) ⊎ IsReached h raws b
        by false e = inl e
        by true e = elim (mortal-cases h.rows b e) [
          | inl inside ↦ absurd (clash (in_regions b) inside out)
          | inr waiting ↦ inr (waiting-reached b waiting quiet)
        ]

    left-kept : (b : ℕ) → left-raws.has b ≡ true → (a : ℕ) × IsKept h raws a × (go a ≡ b)
    left-kept b is = by (in_regions b) refl (and_parts (now.has b) (left-test b) is)
      where
        by : (c : Bool) → in_regions b ≡ c → (now.has b ≡ true) × (left-test b ≡ true) → (a : ℕ) × IsKept h raws a × (go a ≡ b)
        by true inside parts =
            let it = any-at (λ (y : Addr). nat_eq y.0 b) tos (sym (test-inside b inside) ∙ parts.1) in
            let i : ℕ = it.1.0 in
            let below : i < length plan.young = omega (arith, it.1.1, length-same) in
            let to : at_of tos i ≡ b = ap (λ (y : Addr). y.0) (get_or_default tos i (record { 0 = 0 }) it.0 it.1.1 ∙ it.1.2) ∙ eqb-true it.0.0 b it.2 in
            let reach = (ok.young.only (at_of plan.young i)).0 (get-in plan.young i below) in
            (at_of plan.young i, record { has = (reached-has h m t raws can (at_of plan.young i) reach.1).0; stays = inr reach.1 }, leads.moves i below ∙ to)
        by false out parts =
            let quiet : is_lost h.rows plan.stays b ≡ false = flip (is_lost h.rows plan.stays b) (sym (test-outside b out) ∙ parts.1) in
            elim (run.before.moves.moves.only b parts.0) [
              | inl old ↦ (b, not-lost b old out quiet, led-by b quiet ∙ beside b out)
              | inr it ↦ absurd (clash (in_regions b) (ap in_regions (sym it.2) ∙ tos-inside it.0 (omega (arith, it.1, length-same))) out)
            ]

    left-has : (b : ℕ) → (left-raws.has b ≡ true) ↔ ((a : ℕ) × IsKept h raws a × (go a ≡ b))
    left-has b = (left-kept b, λ it. subst (λ (x : ℕ). left-raws.has x ≡ true) it.2 (kept-left it.0 it.1))

    are-left : AreLeft h raws left-raws go
    are-left = record {
      has = left-has;
      same = λ a kept'.
          let raw = copy-raw a kept' in
          record {
            shape = ap (λ (r : Raw). r.shape) raw;
            header = ap (λ (r : Raw). r.header) raw;
            values = λ p there.
                ap (λ (r : Raw). cond (tests (go a + p.offset)) (turned now p (r.values p)) (r.values p)) raw ∙ led-value a p kept' there;
          };
    }

    left-stays : (b : ℕ) → left-raws.has b ≡ true → Stays h m t raws plan can ok tos tests left-test b
    left-stays b has =
        let it = left-kept b has in
        elim (kept-cases it.0 it.1) [
          | inl copy ↦ inl (copy.0, copy.1, sym copy.3 ∙ it.2)
          | inr beside' ↦
              let same : it.0 ≡ b = sym beside'.1 ∙ it.2 in
              inr (subst (λ (x : ℕ). IsKept h raws x) same it.1, ap in_regions (sym same) ∙ beside'.0)
        ]

    left-held : HoldsRegions h.classes m4 t (lists_of s4) left-raws
    left-held =
        held-left h m t raws plan can ok tos tests left-test m2 m3 m4 s2 s4 run.before.moves length-same left-stays
        (run.before.keeps3.live t ∙ run.before.outside.live t ∙ (kept1 h m t raws plan can ok m1 run.before.clears run.before.sound1).live t ∙ can.held.live) run.before.turned run.loses (only-trans m2 m3 m4 t (one-table m2 m3 t (may_change h) run.before.keeps3) run.only4) run.sound4 run.space run.region_pages run.regions4.0 run.no_from.0

    pub collected : IsCollected h m4 t raws s4 rows roots
    collected = record {
      go = go;
      young = plan.young;
      moved = tos;
      now = left-raws;
      leads = leads;
      left = are-left;
      held = left-held;
      packed = subst (λ (in_use : List Row). PacksAt in_use (sizes_at h.classes raws plan.young) tos) (sym run.regions4.0) run.before.moves.packed;
      fewer = let used = run.before.moves.packed.pack.used in let same = ap length run.regions4.0 in let room = ok.room in omega (arith, used, same, room);
      objects = run.regions4.2 ∙ run.before.regions2.2 ∙ sym leads.length_is;
      no_from = run.no_from;
      count = run.regions4.1 ∙ run.before.regions2.0;
      rows_left = rows-left;
      large_pages = run.large_pages;
      roots_lead = roots-lead;
    }

    -- a page that may not change is as it was
    others-stay : (u q : ℕ) → (u ≢ t) ⊎ (may_change h q ≡ false) → page_at m4 u q ≡ page_at m u q
    others-stay u q off =
        run.loses.others u q (elim off [ inl ne ↦ inl ne | inr out ↦ inr (not-gone q out) ])
        ∙ run.before.keeps3.others u q off
        ∙ run.before.outside.others u q (elim off [ inl ne ↦ inl ne | inr out ↦ inr (no (is_in Regions q) (λ is. clash (may_change h q) (may-young h m t raws can q is) out)) ])
        ∙ kept.others u q (elim off [ inl ne ↦ inl ne | inr out ↦ inr (no (is_page_of (gone h m t raws plan can ok) q) (λ is. clash (may_change h q) (gone-may q is) out)) ])

    -- a page outside the regions that is still mapped has the frame that it had
    frame-stays : (q : ℕ) → is_in Regions q ≡ false → IsTrue (is_mapped m4 t q) → frame_at m4 t q ≡ frame_at m t q
    frame-stays q beside mapped = by (may_change h q) refl
      where
        by : (b : Bool) → may_change h q ≡ b → frame_at m4 t q ≡ frame_at m t q
        by false out = frame-same m m4 t t q q (others-stay t q (inr out))
        by true may = elim (may-cases q may) [
          | inl inside ↦ absurd (clash (is_in Regions q) inside beside)
          | inr one ↦
              let last : page_at m4 t q ≡ page_at m3 t q = run.loses.others t q (inr (mapped-stays q beside mapped)) in
              let copied' : page_at m2 t q ≡ page_at m1 t q = run.before.outside.others t q (inr beside) in
              let in2 : IsTrue (is_mapped m2 t q) = sym (run.before.keeps3.mapped q) ∙ ap (λ (o : Option Page). is_some o) (sym last) ∙ mapped in
              let in0 : IsTrue (is_mapped m t q) = sym (kept.mapped q) ∙ ap (λ (o : Option Page). is_some o) (sym copied') ∙ in2 in
              frame-same m3 m4 t t q q last ∙ run.before.keeps3.frames q in2 (mapped-alone m1 m2 t q run.before.only2 (kept.alone q in0 one) in2) ∙ frame-same m1 m2 t t q q copied' ∙ kept.frames q in0 one
        ]

    pub leaves : LeavesPages h m m4 t
    leaves = record {
      others = others-stay;
      live = λ u. run.loses.live u ∙ run.before.keeps3.live u ∙ run.before.outside.live u ∙ kept.live u;
      alone = λ q may mapped. mapped-alone' q (may-cases q may) mapped;
      mapped = λ q beside quiet.
          ap (λ (o : Option Page). is_some o) (run.loses.others t q (inr (beside-gone q beside quiet)))
          ∙ run.before.keeps3.mapped q ∙ ap (λ (o : Option Page). is_some o) (run.before.outside.others t q (inr beside)) ∙ kept.mapped q;
      written = λ q beside mapped was.
          let here : flag_of (page_at m4 t q) ≡ flag_of (page_at m3 t q) = ap (λ (o : Option Page). flag_of o) (run.loses.others t q (inr (mapped-stays q beside mapped))) in
          here ∙ run.before.keeps3.written q (ap (λ (o : Option Page). flag_of o) (run.before.outside.others t q (inr beside)) ∙ kept.written q was);
      frames = frame-stays;
    }

    pub rose : RoseBy (4 * length h.slots) m.reads m4.reads
    rose =
        let rise = reads-rise m.reads (addresses plan.weak) run.before.sound0.reads_fit in
        let same : m4.reads ≡ reads_after_all m.reads (addresses plan.weak) = run.loses.reads ∙ run.before.reads3 ∙ run.before.outside.reads ∙ run.before.reads1 in
        let few = immune-few h m t raws plan can ok in
        subst (λ (n : ℕ). RoseBy (4 * length h.slots) m.reads n) (sym same) (rose-more (count_by is_immune (addresses plan.weak)) (4 * length h.slots) m.reads (reads_after_all m.reads (addresses plan.weak)) (omega (arith, few)) rise)
