-- What is listed before a collection writes.
use Rattle.std.proofs.Common.{◌≡◌, ◌∙◌, ◌⊎◌, ℕ, ◌<◌, ◌≤◌, inl, inr, Bool, true, false, List, ◌++◌, filter, length, map, sym, ap, subst}
use Rattle.std.specs.Prelude.{◌↔◌}
use Rattle.std.specs.List.{Contains}
use Rattle.std.proofs.lemmas.Bool.{and_parts}
use Rattle.std.proofs.lemmas.List.{append-nil}
use Rattle.std.proofs.lemmas.List.Elements.{Contains-append_cases}
use Rattle.bit_set.specs.Bits.{is_member, Bits}
use Rattle.bit_set.specs.Bits.{room as bits_room}
use Rattle.model_numbers.specs.Numbers.{large_slot_count, region_bytes, region_count}
use Rattle.page_tables.specs.declared.address.Addr.{Addr}
use Rattle.cow_pages.specs.Memory.{Memory}
use Rattle.cow_pages.specs.View.{view_of}
use Rattle.object_view.specs.declared.names.Slot.{Slot}
use Rattle.raw_objects.specs.Raws.{raw_size, Raws}
use Rattle.raw_objects.specs.References.{in_regions}
use Rattle.raw_objects.specs.References.{address_in as address_of}
use Rattle.region_lists.specs.Rows.{Row}
use Rattle.region_space.specs.Packed.{packed_pages}
use Rattle.region_space.specs.Pages.{IsObjectIn}
use Rattle.large_objects.specs.declared.rows.LargeRow.{LargeRow}
use Rattle.live_objects.specs.Live.{addresses}
use Rattle.live_objects.specs.Reach.{is_mortal, is_strong, starts_of, CanMark, IsFound}
use Rattle.live_objects.proofs.YoungLemmas.{map-from}
use Rattle.object_moves.specs.Copies.{at_of, sizes_at, IsYoungAt}
use Rattle.heap_graph.specs.Packing.{end_from}
use Rattle.heap_graph.specs.Sizes.{parts_for}
use Rattle.object_collection.specs.Collects.{CanCollect, HeapState, IsReached}
use Rattle.object_collection.specs.Listed.{leads_young, AreSlotsOf, AreWeak, KnowsLive}
use Rattle.object_collection.specs.Phases.{AreStaying, IsPlan, ListsLarge}
use Rattle.object_collection.proofs.Facts.{all-at, filter-from, mortal-cases, reached-has}
use Rattle.object_collection.proofs.Final.{slot-outside}
use Rattle.object_collection.proofs.Room.{few, live-once, live-regions, live-young}
use Rattle.object_collection.proofs.Room.{room as regions-room}
use Rattle.object_collection.proofs.Running.{contains-in}

-- a collection of unchanged memory
pub knows-still : (h : HeapState) (m new : Memory) (t : ℕ) (raws : Raws) (young : List Addr) (live : Bits) → new ≡ m → KnowsLive h m t raws young live → KnowsLive h new t raws young live
knows-still h m new t raws young live same knows = subst (λ (x : Memory). KnowsLive h x t raws young live) (sym same) knows

-- the objects of the regions, as a slice
pub young-counted : (h : HeapState) (m : Memory) (t : ℕ) (raws : Raws) (young seen : List Addr) (live : Bits) → seen ≡ young → KnowsLive h m t raws young live
    → (i : ℕ) → i < length seen → IsYoungAt h.classes (view_of m t) raws (at_of seen i)
young-counted h m t raws young seen live same knows = subst (λ (xs : List Addr). (i : ℕ) → i < length xs → IsYoungAt h.classes (view_of m t) raws (at_of xs i)) (sym same) (live-young h m t raws young live knows)

pub few-regions : (h : HeapState) (m : Memory) (t : ℕ) (raws : Raws) (young seen : List Addr) (live : Bits) → seen ≡ young → KnowsLive h m t raws young live
    → parts_for region_bytes (end_from 0 (sizes_at h.classes raws seen)) ≤ region_count
few-regions h m t raws young seen live same knows = subst (λ (xs : List Addr). parts_for region_bytes (end_from 0 (sizes_at h.classes raws xs)) ≤ region_count) (sym same) (live-regions h m t raws young live knows)

module _ (h : HeapState) (m : Memory) (t : ℕ) (raws : Raws) (can : CanCollect h m t raws) where
  -- what a slot holds is found
  target-found : (slot : Slot) → Contains h.slots slot → IsFound raws slot.target.0
  target-found slot c =
      let out = (can.slots.exact slot).0 (contains-in h.slots slot c) in
      let held = can.targets out.object out.place out.has out.is_in out.kind_is in
      subst (λ (n : ℕ). IsFound raws n) (sym (ap address_of (out.target_is ∙ held.is))) held.found

  pub can-mark : CanMark h.classes (view_of m t) raws h.regions.in_use h.rows (starts_of h.roots h.slots)
  can-mark = record {
    holds = can.held.holds;
    young = λ a has inside. subst (λ (rows : List Row). IsObjectIn rows a (raw_size h.classes raws a)) (ap (λ (rows : List Row). h.regions.in_use ++ rows) can.young.1.no_from ∙ append-nil h.regions.in_use) (can.held.rows a has inside);
    large = can.large.only;
    first = λ n c. elim (Contains-append_cases (addresses h.roots) (map (λ (slot : Slot). slot.target.0) (filter is_strong h.slots)) n c) [
      | inl root ↦ can.roots n root
      | inr slot ↦
          let it = map-from (λ (s : Slot). s.target.0) (filter is_strong h.slots) n slot in
          subst (λ (k : ℕ). IsFound raws k) it.2 (target-found it.0 (filter-from is_strong h.slots it.0 it.1).0)
    ];
    targets = λ a p node there kind. can.targets a p (and_parts (raws.has a) (is_mortal h.rows a) node).0 there kind;
  }

  module _ (new : Memory) (young large weak : List Addr) (turned : List Slot) (live stays : Bits) (knows : KnowsLive h m t raws young live) (slots : AreSlotsOf live large)
      (added : (row : LargeRow) → Contains h.rows row → (is_member stays row.slot ≡ true) ↔ ((row.promoted ≡ true) ⊎ (is_member live row.slot ≡ true))) (same_room : bits_room stays ≡ bits_room live) where
    large-listed : ListsLarge h raws large
    large-listed = record {
      only = λ a. (
        (λ c.
            let it = (slots.only a).0 c in
            (ap in_regions it.3 ∙ slot-outside it.0, subst (λ (n : ℕ). IsReached h raws n) (sym it.3) ((knows.large_are.only it.0 it.1).0 it.2))),
        (λ it. elim (mortal-cases h.rows a (reached-has h m t raws can a it.1).1) [
          | inl inside ↦ absurd (clash (in_regions a) inside it.0)
          | inr waiting ↦
              let within = all-at (λ (row : LargeRow). row.slot < large_slot_count) h.rows waiting.row can.large.rows.within waiting.is_in in
              (slots.only a).1 (waiting.row.slot, within, (knows.large_are.only waiting.row.slot within).1 (subst (λ (n : ℕ). IsReached h raws n) (sym waiting.at_is) it.1), sym waiting.at_is)
        ]),
      );
      once = slots.once;
    }
      where
        clash : (b : Bool) → b ≡ true → b ≡ false → ⊥
        clash true e f = cc
        clash false e f = cc

    staying : AreStaying h raws stays
    staying = record {
      all = same_room ∙ knows.large_are.all;
      test = λ row there.
          let within = all-at (λ (r : LargeRow). r.slot < large_slot_count) h.rows row can.large.rows.within there in
          let reach = knows.large_are.only row.slot within in (
            λ is. elim ((added row there).0 is) [ inl promoted ↦ inl promoted | inr member ↦ inr (reach.0 member) ],
            λ either. elim either [ inl promoted ↦ (added row there).1 (inl promoted) | inr reached ↦ (added row there).1 (inr (reach.1 reached)) ],
          );
    }

    pub planned : AreWeak h raws (addresses weak) → turned ≡ filter leads_young h.slots → packed_pages (sizes_at h.classes raws young) ≤ new.spare
        → IsPlan h new raws (record { young = young; large = large; stays = stays; weak = weak; turned = turned })
    planned are_weak are_turned spare = record {
      young = knows.young_are;
      large = large-listed;
      stays = staying;
      weak = are_weak;
      turned = are_turned;
      once = live-once h m t raws young live knows;
      few = few h m t raws young live knows;
      room = regions-room h m t raws young live knows;
      spare = spare;
    }
