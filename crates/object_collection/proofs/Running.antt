-- What holds while a collection writes: what the next step asks for.
use Rattle.std.proofs.Common.{◌≡◌, ◌≢◌, ◌∙◌, ℕ, ◌+◌, ◌-◌, ◌*◌, ◌/◌, suc, cond, ◌<◌, ◌≤◌, inl, inr, Bool, true, false, List, [], ◌∷◌, ◌++◌, Option, All, filter, get_or, length, nat_eq, refl, sym, ap, subst, arith, is_some, pos}
use Rattle.std.specs.Prelude.{◌^◌, IsTrue, nat_le, nat_lt, not}
use Rattle.std.specs.List.{list_any, Contains}
use Rattle.std.proofs.lemmas.Bool.{and_from, and_parts, eq-eqb, eqb-true, le-leb, lt-ltb, or_from, or_left, or_parts, or_right, true≢false}
use Rattle.std.proofs.lemmas.Map.Keys.{apart_from_distinct}
use borrow.Author.Tests.{leb-true, ltb-true}
use Rattle.std.proofs.lemmas.List.{get_or-map, get_or_default, length-map}
use Rattle.std.proofs.lemmas.List.Folds.{list_any-append}
use Rattle.class_layout.specs.Placing.{IsIn}
use Rattle.class_layout.specs.ClassList.{Class}
use Rattle.page_tables.specs.declared.address.Addr.{Addr}
use Rattle.page_tables.specs.declared.address.Window.TheVariants.{Large, Regions}
use Rattle.page_tables.specs.Address.{is_in, page_of}
use Rattle.cow_pages.specs.Memory.{is_live, is_mapped, HasOneSharer, IsSound, Memory, Page}
use Rattle.cow_pages.specs.Only.{OnlyTable}
use Rattle.cow_pages.specs.View.{u32_at, view_of}
use Rattle.cow_pages.proofs.OnlyLemmas.{only-trans}
use Rattle.object_view.specs.declared.names.Slot.{Slot}
use Rattle.raw_objects.specs.Keeps.{Keeps}
use Rattle.heap_graph.specs.Packing.{after, end_from, places_from}
use Rattle.heap_graph.specs.Places.{places_of}
use Rattle.heap_graph.specs.Sizes.{size_in}
use Rattle.class_layout.specs.declared.kind.Kind.TheVariants.{Ref}
use Rattle.class_layout.specs.declared.kind.FieldAt.{FieldAt}
use Rattle.object_view.specs.Values.{is_value}
use Rattle.object_view.proofs.Lookups.{address-fits}
use Rattle.object_view.proofs.Stores.{loaded}
use Rattle.object_view.specs.Changes.{pages_in}
use Rattle.object_view.proofs.Laid.{size-bounds}
use Rattle.raw_objects.specs.Raws.{raw_size, Raw, Raws}
use Rattle.raw_objects.specs.References.{in_regions, IsSlotIn, IsTarget}
use Rattle.raw_objects.specs.References.{address_in as address_of}
use Rattle.raw_objects.proofs.Kept.{one-table}
use Rattle.region_lists.specs.Rows.{Row}
use Rattle.region_space.specs.Space.{filled, lists_of, IsFilled, Space}
use Rattle.region_space.specs.Space.{AreAlone as AreRegionsAlone}
use Rattle.region_space.specs.Space.{HasPages as HasRegionPages}
use Rattle.region_space.specs.Space.{holds_page as region_page}
use Rattle.region_space.proofs.DropLemmas.{held-run}
use Rattle.region_space.proofs.LieLemmas.{any-holds, filled-within}
use Rattle.region_space.specs.Packed.{address_in}
use Rattle.page_runs.specs.Covered.{covers}
use Rattle.region_space.proofs.PageLemmas.{inside}
use Rattle.region_lists.specs.Rows.{Lists}
use Rattle.region_space.specs.Space.{IsSpace}
use Rattle.large_objects.specs.declared.rows.LargeRow.{LargeRow}
use Rattle.large_objects.specs.Pages.{holds_page, AreAlone, HasPages}
use Rattle.large_objects.specs.Rows.{row_at, waits}
use Rattle.live_objects.specs.Reach.{in_large, waits_in, IsHeld}
use Rattle.live_objects.specs.Live.{addresses}
use Rattle.live_objects.proofs.YoungLemmas.{cons-cases, map-in}
use Rattle.weak_refs.specs.Weak.{is_dead, is_page_of, ClearsSlots}
use Rattle.graph_pages.proofs.Cleared.{cleared-kept}
use Rattle.graph_pages.proofs.Nulled.{cleared-held}
use Rattle.object_moves.specs.Copies.{at_of, moved, sizes_at, HoldsRegions, KeepsOutside}
use Rattle.object_moves.specs.Turns.{is_reference_at, is_reference_of, slot_of, ObjectsWithin}
use Rattle.object_moves.proofs.Many.{reference-within}
use Rattle.model_numbers.specs.Numbers.{large_base, region_base, region_bytes}
use Rattle.bit_set.specs.Bits.{is_member, Bits}
use Rattle.object_collection.specs.Collects.{may_change, CanCollect, HeapState, LeadsOut}
use Rattle.object_collection.specs.Phases.{slot_in, stays_in, CanMove, CanTurn, HaveMoved, IsPlan, Listed}
use Rattle.object_collection.proofs.Facts.{all-at, any-at, any-of, filter-from, free-may, may-slot, may-young, mortal-cases, reached-has, waiting-page, IsWaiting}
use Rattle.object_collection.specs.Listed.{leads_young}
use Rattle.object_collection.proofs.PageLemmas.{size-at}
use Rattle.object_collection.proofs.Facts as facts
use Rattle.object_collection.proofs.Room.{at-place, places-rising, places-within, rank-back, rank_in, rising-apart}
use Rattle.object_collection.proofs.Dropping.{dead-window, mapped-alone, windows-apart}
use Rattle.object_collection.proofs.Nulled.{all-of, dead, null, weak-alone, weak-reference}
use Rattle.object_collection.proofs.Steps.{any-fewer}

not-true : (b : Bool) → (b ≡ true → ⊥) → b ≡ false
not-true true fails = absurd (fails refl)
not-true false fails = refl

-- the pages of a space's rows lie in the region window
pub filled-window : (s : Lists) (p : ℕ) → IsSpace s → list_any (region_page p) (filled s) ≡ true → is_in Regions p ≡ true
filled-window s p space is =
    let it = any-at (region_page p) (filled s) is in
    let row : Row = it.0 in
    let here = held-run row p it.2 in
    let most = (all-at IsFilled (filled s) row space.filled it.1).most in
    let region = all-at (λ (r : Row). r.region < s.count) (filled s) row (filled-within s space) it.1 in
    let few = space.few in
    inside 262144 327680 p (omega (arith, here.from)) (omega (arith, here.from, here.to, region, most, few))

-- each page of some bytes has one of them
pub page-byte : (at size p : ℕ) → 0 < size → page_of at ≤ p → p < page_of at + pages_in at (at + size) → (i : ℕ) × (i < size) × (page_of (at + i) ≡ p)
page-byte at size p some low high =
    let count : pages_in at (at + size) ≡ page_of (at + size - 1) + 1 - page_of at = ap (λ (c : Bool). cond {A = ℕ} c (page_of (at + size - 1) + 1 - page_of at) 0) (lt-ltb at (at + size) (omega arith)) in
    (p * 4096 - at, omega (arith, count, low, high, some), omega (arith, low))

pub contains-in : (slots : List Slot) (slot : Slot) → Contains slots slot → IsIn slot slots
contains-in [] slot c = absurd (omega (arith, c.1))
contains-in (x ∷ slots) slot c = elim (cons-cases x slots slot c) [ inl same ↦ inl same | inr later ↦ inr (contains-in slots slot later) ]

-- an address in the regions is one behind the immune windows
pub regions-high : (a : ℕ) → in_regions a ≡ true → region_base ≤ a
regions-high a is = let parts = and_parts (nat_le 262144 (a / 4096)) (nat_lt (a / 4096) 327680) is in omega (arith, leb-true 262144 (a / 4096) parts.0)

pub places-length : (p : ℕ) (sizes : List ℕ) → length (places_from p sizes) ≡ length sizes
places-length p [] = refl
places-length p (s ∷ sizes) = ap (λ (n : ℕ). suc n) (places-length (after p s) sizes)

pub get-in : (ats : List Addr) (i : ℕ) → i < length ats → Contains (addresses ats) (at_of ats i)
get-in ats i below =
    let none : Addr = record { 0 = 0 } in
    map-in (λ (a : Addr). a.0) ats (get_or ats i none) (i, below, get_or_default ats i (get_or ats i none) none below)

-- what doesn't stay lies in the large window
pub lost-large : (slots : Bits) (n : ℕ) → stays_in slots n ≡ false → in_large n ≡ true
lost-large slots n lost = flip (in_large n) (or_parts (not (in_large n)) (is_member slots (slot_in n)) lost).0
  where
    flip : (b : Bool) → not b ≡ false → b ≡ true
    flip true e = refl
    flip false e = sym e

-- a cleared reference led to a large object that goes
pub gone-lost : (h : HeapState) (m : Memory) (t : ℕ) (raws : Raws) (plan : Listed) (can : CanCollect h m t raws) (ok : IsPlan h m raws plan) (a : ℕ) (p : FieldAt) (n : ℕ)
    → raws.has a ≡ true → IsIn p (places_of h.classes (raws.raw a).shape) → p.kind ≡ Ref → (raws.raw a).values p ≡ pos n → n < 2 ^ 32
    → list_any (λ (b : ℕ). nat_eq b (a + p.offset)) (dead h m t raws plan can ok) ≡ true → stays_in plan.stays n ≡ false
gone-lost h m t raws plan can ok a p n has there kind value small is =
    let v = view_of m t in
    let it = any-at (λ (b : ℕ). nat_eq b (a + p.offset)) (dead h m t raws plan can ok) is in
    let found = filter-from (is_dead (stays_in plan.stays) v) (addresses plan.weak) it.0 it.1 in
    let r : Raw = raws.raw a in
    let fits : is_value Ref (r.values p) ≡ true = ap (is_value Ref) value ∙ address-fits n small in
    let read = loaded h.classes v a r.shape r.header r.values Ref p.offset p (can.held.holds.stands a has) (record { is_in = there; kind_is = kind; offset_is = refl }) fits in
    let word : u32_at v (a + p.offset) ≡ n = ap address_of (read ∙ value) in
    let at : it.0 ≡ a + p.offset = eqb-true it.0 (a + p.offset) it.2 in
    let dead_it = (and_parts (not (nat_eq (u32_at v it.0) 0)) (not (stays_in plan.stays (u32_at v it.0))) found.1).1 in
    ap (stays_in plan.stays) (sym (ap (u32_at v) at ∙ word)) ∙ flip (stays_in plan.stays (u32_at v it.0)) dead_it
  where
    flip : (b : Bool) → not b ≡ true → b ≡ false
    flip true e = sym e
    flip false e = refl

module _ (h : HeapState) (m : Memory) (t : ℕ) (raws : Raws) (plan : Listed) (can : CanCollect h m t raws) (ok : IsPlan h m raws plan) where
  abbrev pub cs : List Class
  cs = h.classes

  abbrev pub gone : List ℕ
  gone = dead h m t raws plan can ok

  abbrev pub cleared : Raws
  cleared = null h m t raws plan can ok

  abbrev pub young : List Addr
  young = plan.young

  pub young-reached : (i : ℕ) → i < length young → (raws.has (at_of young i) ≡ true) × (in_regions (at_of young i) ≡ true)
  young-reached i below =
      let it = (ok.young.only (at_of young i)).0 (get-in young i below) in
      ((reached-has h m t raws can (at_of young i) it.1).0, it.0)

  pub large-rows : (a : ℕ) → Contains (addresses plan.large) a → IsTrue (is_some (row_at h.rows a))
  large-rows a c =
      let it = (ok.large.only a).0 c in
      elim (mortal-cases h.rows a (reached-has h m t raws can a it.1).1) [
        | inl inside ↦ absurd (both (in_regions a) inside it.0)
        | inr waiting ↦ ap (λ (o : Option LargeRow). is_some o) waiting.found
      ]
    where
      both : (b : Bool) → b ≡ true → b ≡ false → ⊥
      both true e f = cc
      both false e f = cc

  -- each reference that was cleared is one of an object
  pub gone-slots : All (λ at. (n : ℕ) × IsSlotIn cs raws at n) gone
  gone-slots = all-of (λ at. (n : ℕ) × IsSlotIn cs raws at n) gone (λ b c.
      let it = weak-reference h m t raws plan can ok b (filter-from (is_dead (stays_in plan.stays) (view_of m t)) (addresses plan.weak) b c).0 in
      let held = can.targets it.object it.place it.has it.is_in it.kind_is in
      (held.address, record { object = it.object; place = it.place; has = it.has; is_in = it.is_in; kind_is = it.kind_is; at_is = it.at_is; target_is = sym held.is; stands = held.found.young }))

  module _ (m1 : Memory) (clears : ClearsSlots m m1 t gone) (sound1 : IsSound m1) where
    pub kept1 : Keeps m m1 t (is_page_of gone)
    kept1 = cleared-kept m m1 t gone clears

    pub held1 : HoldsRegions cs m1 t (lists_of h.regions) cleared
    held1 = record {
      live = kept1.live t ∙ can.held.live;
      sound = sound1;
      space = can.held.space;
      pages = λ p inside. kept1.mapped p ∙ can.held.pages p inside;
      alone = λ p is. kept1.alone p (can.held.pages p (filled-window (lists_of h.regions) p can.held.space is) ∙ is) (can.held.alone p is);
      holds = cleared-held cs m m1 t gone raws can.held.holds gone-slots clears;
      rows = can.held.rows;
      others = can.held.others;
    }

    pub can-move : CanMove cs m1 t h.regions cleared young
    can-move = record {
      held = held1;
      no_from = can.young.1.no_from;
      has = λ i below. (young-reached i below).0;
      inside = λ i below. (young-reached i below).1;
      once = ok.once;
      room = let half = can.young.1.half in let room = ok.room in omega (arith, half, room);
      spare =
          let same = (clears.in_place (λ p is. weak-alone h m t raws plan can ok p (any-fewer (λ (at : ℕ). nat_eq (page_of at) p) (is_dead (stays_in plan.stays) (view_of m t)) (addresses plan.weak) is))).spare in
          let spare = ok.spare in
          omega (arith, same, spare);
    }

    module _ (m2 : Memory) (s2 : Space) (tos : List Addr) (moves : HaveMoved cs m2 t s2 cleared young tos) (from2 : s2.from ≡ h.regions.in_use) (outside : KeepsOutside m1 m2 t) (only2 : OnlyTable m1 m2 t) where
      abbrev pub now : Raws
      now = moved cleared young tos (length young)

      pub only-two : OnlyTable m m2 t
      only-two = only-trans m m1 m2 t (one-table m m1 t (is_page_of gone) kept1) only2

      -- the copies
      pub same-length : length tos ≡ length young
      same-length =
          sym (length-map tos (λ (a : Addr). a.0)) ∙ ap length moves.packed.places ∙ length-map (places_from 0 (sizes_at cs cleared young)) (address_in s2.in_use)
          ∙ places-length 0 (sizes_at cs cleared young) ∙ length-map young (λ (a : Addr). raw_size cs cleared a.0)

      pub copy-has : (i : ℕ) → i < length tos → now.has (at_of tos i) ≡ true
      copy-has i below = moves.moves.has_copy i (omega (arith, below, same-length))

      size-least : (r : Raws) (a : ℕ) → 8 ≤ raw_size cs r a
      size-least r a = let bounds = size-bounds cs (r.raw a).shape in omega (arith, bounds.0, bounds.1, bounds.2)

      pub copy-inside : (i : ℕ) → i < length tos → in_regions (at_of tos i) ≡ true
      copy-inside i below =
          let at : ℕ = at_of tos i in
          let size : ℕ = get_or (sizes_at cs cleared young) i 0 in
          let is : size ≡ raw_size cs cleared (at_of young i) = size-at cs cleared young i (omega (arith, below, same-length)) in
          let least = size-least cleared (at_of young i) in
          let covers_it : covers at size (page_of at) ≡ true = and_from (nat_le (page_of at) (page_of at)) (nat_le (page_of at) (page_of (at + size - 1))) (le-leb (page_of at) (page_of at) (omega arith)) (le-leb (page_of at) (page_of (at + size - 1)) (omega (arith, is, least))) in
          let any = moves.packed.each (page_of at) i below covers_it in
          filled-window (lists_of s2) (page_of at) moves.held.space (list_any-append (region_page (page_of at)) s2.in_use s2.from ∙ or_left (list_any (region_page (page_of at)) s2.in_use) (list_any (region_page (page_of at)) s2.from) any)

      -- a page of a copy
      pub copy-page : (i k : ℕ) → i < length tos → k < raw_size cs now (at_of tos i) → list_any (region_page (page_of (at_of tos i + k))) (filled (lists_of s2)) ≡ true
      copy-page i k below less =
          let object = moves.held.rows (at_of tos i) (copy-has i below) (copy-inside i below) in
          any-holds (filled (lists_of s2)) (at_of tos i) (raw_size cs now (at_of tos i)) k object.there less

      -- an object outside the regions is as it was
      pub stays-raw : (a : ℕ) → raws.has a ≡ true → in_regions a ≡ false → now.raw a ≡ cleared.raw a
      stays-raw a has out = moves.moves.same a has (λ i below same. both (in_regions a) (ap in_regions (sym same) ∙ (young-reached i below).1) out)
        where
          both : (b : Bool) → b ≡ true → b ≡ false → ⊥
          both true e f = cc
          both false e f = cc

      pub listed-large : (i : ℕ) → i < length plan.large → IsWaiting h.rows (at_of plan.large i) × (raws.has (at_of plan.large i) ≡ true) × (in_regions (at_of plan.large i) ≡ false)
      listed-large i below =
          let a : ℕ = at_of plan.large i in
          let it = (ok.large.only a).0 (get-in plan.large i below) in
          let node = reached-has h m t raws can a it.1 in
          elim (mortal-cases h.rows a node.1) [
            | inl inside ↦ absurd (both (in_regions a) inside it.0)
            | inr waiting ↦ (waiting, node.0, it.0)
          ]
        where
          both : (b : Bool) → b ≡ true → b ≡ false → ⊥
          both true e f = cc
          both false e f = cc

      large-size : (i : ℕ) → i < length plan.large → raw_size cs now (at_of plan.large i) ≡ raw_size cs raws (at_of plan.large i)
      large-size i below = let it = listed-large i below in ap (λ (r : Raw). size_in cs r.shape) (stays-raw (at_of plan.large i) it.1 it.2)

      pub listed-slot : (i : ℕ) → i < length plan.turned → Contains h.slots (slot_of plan.turned i) × (in_regions (slot_of plan.turned i).target.0 ≡ true)
      listed-slot i below =
          let slot : Slot = slot_of plan.turned i in
          let there : Contains plan.turned slot = (i, below, get_or_default plan.turned i slot (record { at = record { 0 = 0 }; target = record { 0 = 0 }; weak = false }) below) in
          filter-from leads_young h.slots slot (subst (λ (xs : List Slot). Contains xs slot) ok.turned there)

      sizes-some : All (λ s. 0 < s) (sizes_at cs cleared young)
      sizes-some k d below =
          let less : k < length young = omega (arith, below, length-map young (λ (a : Addr). raw_size cs cleared a.0)) in
          let is : get_or (sizes_at cs cleared young) k d ≡ raw_size cs cleared (at_of young k) = get_or_default (sizes_at cs cleared young) k d 0 below ∙ size-at cs cleared young k less in
          let least = size-least cleared (at_of young k) in
          omega (arith, is, least)

      -- no two copies stand at one address
      pub copy-once : (i j : ℕ) → i < j → j < length tos → at_of tos i ≢ at_of tos j
      copy-once i j low below same =
          let in_use : List Row = s2.in_use in
          let sizes : List ℕ = sizes_at cs cleared young in
          let ps : List ℕ = places_from 0 sizes in
          let n = places-length 0 sizes in
          let k = length-map young (λ (a : Addr). raw_size cs cleared a.0) in
          let under : j < length ps = omega (arith, below, same-length, n, k) in
          let before : i < length ps = omega (arith, low, under) in
          let here = at-place tos in_use ps moves.packed.places i (omega (arith, low, below)) before in
          let there = at-place tos in_use ps moves.packed.places j below under in
          let back = rank-back (record h { regions = s2 }) moves.held.space in
          let end : end_from 0 sizes ≤ region_bytes * length in_use = omega (arith, moves.packed.pack.used) in
          let within = places-within 0 (region_bytes * length in_use) sizes sizes-some end in
          let p : get_or ps i 0 ≡ get_or ps j 0 = sym (back (get_or ps i 0) (within i 0 before)) ∙ ap (rank_in in_use) (sym here ∙ same ∙ there) ∙ back (get_or ps j 0) (within j 0 under) in
          omega (arith, p, rising-apart 0 ps i j (places-rising 0 sizes sizes-some) low under)

      -- what a reference holds is a target
      pub value-target : (a : ℕ) (p : FieldAt) → raws.has a ≡ true → IsIn p (places_of cs (raws.raw a).shape) → p.kind ≡ Ref → IsTarget now ((cleared.raw a).values p)
      value-target a p has there kind = by (list_any (λ (slot : ℕ). nat_eq slot (a + p.offset)) gone) (can.targets a p has there kind)
        where
          by : (b : Bool) → IsHeld raws ((raws.raw a).values p) → IsTarget now (cond b (pos 0) ((raws.raw a).values p))
          by true held = record { address = 0; is = refl; below = omega arith; stands = λ e. absurd (true≢false (sym e)) }
          by false held = record { address = held.address; is = held.is; below = held.below; stands = λ inside. moves.moves.has held.address (held.found.young inside) }

      raw-target : (r : Raw) (a : ℕ) (p : FieldAt) → r ≡ cleared.raw a → raws.has a ≡ true → IsIn p (places_of cs r.shape) → p.kind ≡ Ref → IsTarget now (r.values p)
      raw-target r a p same has there kind =
          subst (λ (x : Raw). IsTarget now (x.values p)) (sym same) (value-target a p has (subst (λ (x : Raw). IsIn p (places_of cs x.shape)) same there) kind)

      -- a reference of a copy lies in the regions
      copy-low : (b : ℕ) → is_reference_of cs now tos b ≡ true → b < large_base
      copy-low b is =
          let it = any-at (λ (a : Addr). is_reference_at cs now b a.0) tos is in
          let at : at_of tos it.1.0 ≡ it.0.0 = ap (λ (a : Addr). a.0) (get_or_default tos it.1.0 (record { 0 = 0 }) it.0 it.1.1 ∙ it.1.2) in
          let within = reference-within cs (now.raw it.0.0).shape it.0.0 b it.2 in
          let size : raw_size cs now (at_of tos it.1.0) ≡ raw_size cs now it.0.0 = ap (raw_size cs now) at in
          let page = filled-window (lists_of s2) (page_of (at_of tos it.1.0 + (b - it.0.0))) moves.held.space (copy-page it.1.0 (b - it.0.0) it.1.1 (omega (arith, within.0, within.1, size))) in
          let parts = and_parts (nat_le 262144 (page_of (at_of tos it.1.0 + (b - it.0.0)))) (nat_lt (page_of (at_of tos it.1.0 + (b - it.0.0))) 327680) page in
          let below = ltb-true (page_of (at_of tos it.1.0 + (b - it.0.0))) 327680 parts.1 in
          omega (arith, below, at, within.0)

      -- a byte of an object is mapped
      byte-mapped : (a k : ℕ) → raws.has a ≡ true → k < raw_size cs now a → IsTrue (is_mapped m2 t (page_of (a + k)))
      byte-mapped a k has less = (moves.held.holds.stands a (moves.moves.has a has)).space.mapped k less

      -- a slot that leads into the regions wasn't cleared
      turned-slot : (i : ℕ) → i < length plan.turned → LeadsOut h raws (slot_of plan.turned i)
      turned-slot i below = (can.slots.exact (slot_of plan.turned i)).0 (contains-in h.slots (slot_of plan.turned i) (listed-slot i below).0)

      slot-value : (i : ℕ) (below : i < length plan.turned) → pos (slot_of plan.turned i).target.0 ≡ (cleared.raw (turned-slot i below).object).values (turned-slot i below).place
      slot-value i below =
          let out = turned-slot i below in
          let slot : Slot = slot_of plan.turned i in
          let held = can.targets out.object out.place out.has out.is_in out.kind_is in
          let small : slot.target.0 < 2 ^ 32 = subst (λ (n : ℕ). n < 2 ^ 32) (sym (ap address_of (out.target_is ∙ held.is))) held.below in
          let quiet : list_any (λ (b : ℕ). nat_eq b (out.object + out.place.offset)) gone ≡ false = not-true (list_any (λ (b : ℕ). nat_eq b (out.object + out.place.offset)) gone) (λ is.
          let lost = gone-lost h m t raws plan can ok out.object out.place slot.target.0 out.has out.is_in out.kind_is (sym out.target_is) small is in
          windows-apart (page_of slot.target.0) (listed-slot i below).1 (lost-large plan.stays slot.target.0 lost)) in
          out.target_is ∙ sym (ap (λ (b : Bool). cond b (pos 0) ((raws.raw out.object).values out.place)) quiet)

      slot-raw : (i : ℕ) (below : i < length plan.turned) → now.raw (turned-slot i below).object ≡ cleared.raw (turned-slot i below).object
      slot-raw i below = let out = turned-slot i below in stays-raw out.object out.has (or_parts (in_regions out.object) (waits_in (row_at h.rows out.object)) out.immune).0

      slot-found : (i : ℕ) → i < length plan.turned → in_regions (slot_of plan.turned i).target.0 ≡ true → raws.has (slot_of plan.turned i).target.0 ≡ true
      slot-found i below inside =
          let out = turned-slot i below in
          let held = can.targets out.object out.place out.has out.is_in out.kind_is in
          let same : (slot_of plan.turned i).target.0 ≡ held.address = ap address_of (out.target_is ∙ held.is) in
          ap raws.has same ∙ held.found.young (sym (ap in_regions same) ∙ inside)

      reference-within-place : (a : ℕ) (p : FieldAt) → IsIn p (places_of cs (raws.raw a).shape) → p.kind ≡ Ref → (8 ≤ p.offset) × (p.offset + 4 ≤ raw_size cs raws a)
      reference-within-place a p there kind = facts.reference-within h m t raws can a p there kind

      large-once : (i j : ℕ) → i < j → j < length plan.large → at_of plan.large i ≢ at_of plan.large j
      large-once i j low below same =
          let n = length-map plan.large (λ (a : Addr). a.0) in
          let apart = apart_from_distinct nat_eq (addresses plan.large) i j 0 ok.large.once low (omega (arith, below, n)) in
          let none : Addr = record { 0 = 0 } in
          let one = get_or-map (λ (a : Addr). a.0) plan.large i none 0 (omega (arith, low, below)) in
          let two = get_or-map (λ (a : Addr). a.0) plan.large j none 0 below in
          true≢false (sym (eq-eqb (get_or (addresses plan.large) i 0) (get_or (addresses plan.large) j 0) (one ∙ same ∙ sym two)) ∙ apart)

      pub can-turn : CanTurn cs m2 t now (record { young = tos; large = plan.large; slots = plan.turned }) h.roots
      can-turn = record {
        holds = moves.held.holds;
        young = record {
          has = copy-has;
          once = copy-once;
          targets = λ i p below there kind. let less : i < length young = omega (arith, below, same-length) in raw-target (now.raw (at_of tos i)) (at_of young i) p (moves.moves.copy i less) (young-reached i less).0 there kind;
          undone = λ i b below is. refl;
        };
        large = record {
          has = λ i below. moves.moves.has (at_of plan.large i) (listed-large i below).1;
          once = λ i j low below same. large-once i j low below same;
          targets = λ i p below there kind. let it = listed-large i below in raw-target (now.raw (at_of plan.large i)) (at_of plan.large i) p (stays-raw (at_of plan.large i) it.1 it.2) it.1 there kind;
          undone = λ i b below is.
              let it = listed-large i below in
              let at = it.0.at_is in
              let within = reference-within cs (now.raw (at_of plan.large i)).shape (at_of plan.large i) b is in
              or_from (is_reference_of cs now tos b) false (not-true (is_reference_of cs now tos b) (λ young'. let low = copy-low b young' in omega (arith, low, at, within.0))) refl;
        };
        young_alone = λ i below p low high.
            let least = size-least now (at_of tos i) in
            let byte = page-byte (at_of tos i) (raw_size cs now (at_of tos i)) p (omega (arith, least)) low high in
            subst (λ (q : ℕ). HasOneSharer m2 t q) byte.2 (moves.held.alone (page_of (at_of tos i + byte.0)) (copy-page i byte.0 below byte.1));
        large_alone = λ i below p low high.
            let a : ℕ = at_of plan.large i in
            let it = listed-large i below in
            let least = size-least now a in
            let size = large-size i below in
            let byte = page-byte a (raw_size cs now a) p (omega (arith, least)) low high in
            let free = waiting-page h m t raws can a byte.0 it.0 (omega (arith, byte.1, size)) in
            subst (λ (q : ℕ). HasOneSharer m2 t q) byte.2 (mapped-alone m m2 t (page_of (a + byte.0)) only-two free.alone (byte-mapped a byte.0 it.1 byte.1));
        slots = record {
          each = λ i below.
              let out = turned-slot i below in
              let raw = slot-raw i below in
              record {
                object = out.object;
                place = out.place;
                has = moves.moves.has out.object out.has;
                is_in = subst (λ (r : Raw). IsIn out.place (places_of cs r.shape)) (sym raw) out.is_in;
                kind_is = out.kind_is;
                at_is = out.at_is;
                target_is = slot-value i below ∙ ap (λ (r : Raw). r.values out.place) (sym raw);
                stands = λ inside. moves.moves.has (slot_of plan.turned i).target.0 (slot-found i below inside);
              };
          alone = λ i below.
              let out = turned-slot i below in
              let slot : Slot = slot_of plan.turned i in
              let raw = slot-raw i below in
              let within = reference-within-place out.object out.place out.is_in out.kind_is in
              let size : raw_size cs now out.object ≡ raw_size cs raws out.object = ap (λ (r : Raw). size_in cs r.shape) raw in
              let mapped = byte-mapped out.object out.place.offset out.has (omega (arith, within.1, size)) in
              mapped-alone m m2 t (page_of slot.at.0) only-two (can.slots.alone slot (contains-in h.slots slot (listed-slot i below).0))
              (subst (λ (n : ℕ). IsTrue (is_mapped m2 t (page_of n))) (sym out.at_is) mapped);
        };
        targets = λ i below inside. moves.moves.has (at_of h.roots i) ((can.roots (at_of h.roots i) (get-in h.roots i below)).young inside);
      }

      -- the pages of what is turned may change
      pub young-within : ObjectsWithin cs (may_change h) now tos
      young-within i below p low high =
          let least = size-least now (at_of tos i) in
          let byte = page-byte (at_of tos i) (raw_size cs now (at_of tos i)) p (omega (arith, least)) low high in
          ap (may_change h) (sym byte.2) ∙ may-young h m t raws can (page_of (at_of tos i + byte.0)) (filled-window (lists_of s2) (page_of (at_of tos i + byte.0)) moves.held.space (copy-page i byte.0 below byte.1))

      pub large-within : ObjectsWithin cs (may_change h) now plan.large
      large-within i below p low high =
          let a : ℕ = at_of plan.large i in
          let it = listed-large i below in
          let least = size-least now a in
          let size = large-size i below in
          let byte = page-byte a (raw_size cs now a) p (omega (arith, least)) low high in
          ap (may_change h) (sym byte.2) ∙ free-may h m t raws can (page_of (a + byte.0)) (waiting-page h m t raws can a byte.0 it.0 (omega (arith, byte.1, size)))

      pub slots-within : (i : ℕ) → i < length plan.turned → may_change h (page_of (slot_of plan.turned i).at.0) ≡ true
      slots-within i below =
          let slot : Slot = slot_of plan.turned i in
          let p : ℕ = page_of slot.at.0 in
          may-slot h m t raws can p (any-of (λ (s : Slot). nat_eq (page_of s.at.0) p) h.slots slot (listed-slot i below).0 (eq-eqb p p refl))

      -- it isn't immune
      pub young-high : (i : ℕ) → i < length tos → region_base ≤ at_of tos i
      young-high i below = regions-high (at_of tos i) (copy-inside i below)

      pub large-high : (i : ℕ) → i < length plan.large → region_base ≤ at_of plan.large i
      large-high i below = let at = (listed-large i below).0.at_is in omega (arith, at)

      module _ (m3 : Memory) (keeps : Keeps m2 m3 t (may_change h)) where
        pub only-three : OnlyTable m m3 t
        only-three = only-trans m m2 m3 t only-two (one-table m2 m3 t (may_change h) keeps)

        pub live3 : IsTrue (is_live m3 t)
        live3 = keeps.live t ∙ outside.live t ∙ kept1.live t ∙ can.held.live

        pub region_pages3 : HasRegionPages m3 t (filled (lists_of s2))
        region_pages3 = λ p is. keeps.mapped p ∙ moves.held.pages p is

        pub region_alone3 : AreRegionsAlone m3 t s2.from
        region_alone3 p is =
            let any : list_any (region_page p) (filled (lists_of s2)) ≡ true = any-right (region_page p) s2.in_use s2.from is in
            keeps.alone p (moves.held.pages p (filled-window (lists_of s2) p moves.held.space any) ∙ any) (moves.held.alone p any)
          where
            any-right : (f : Row → Bool) (xs ys : List Row) → list_any f ys ≡ true → list_any f (xs ++ ys) ≡ true
            any-right f xs ys later = list_any-append f xs ys ∙ or_right (list_any f xs) (list_any f ys) later

        -- a page of the large window is mapped as before
        pub mapped3 : (p : ℕ) → is_in Large p ≡ true → is_mapped m3 t p ≡ is_mapped m t p
        mapped3 p large =
            keeps.mapped p ∙ ap (λ (o : Option Page). is_some o) (outside.others t p (inr (not-true (is_in Regions p) (λ young. windows-apart p young large)))) ∙ kept1.mapped p

        pub pages3 : HasPages m3 t h.rows
        pages3 = λ p large. mapped3 p large ∙ can.large.pages p large

        pub alone3 : AreAlone m3 t (filter waits h.rows)
        alone3 p is =
            let large = dead-window h.rows waits p can.large.rows is in
            mapped-alone m m3 t p only-three (can.large.alone p is) (pages3 p large ∙ any-fewer (holds_page p) waits h.rows is)
