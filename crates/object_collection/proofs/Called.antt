-- What the calls of a collection have given, in the words of the collection.
use Rattle.std.proofs.Common.{◌≡◌, ◌∙◌, ◌||◌, ℕ, ◌<◌, ◌≤◌, Bool, true, [], List, filter, length, map, sym, ap, subst}
use Rattle.std.specs.Prelude.{IsTrue}
use Rattle.std.specs.List.{list_any}
use Rattle.model_numbers.specs.Numbers.{region_base}
use Rattle.class_layout.specs.ClassList.{Class}
use Rattle.page_tables.specs.declared.address.Addr.{Addr}
use Rattle.page_tables.specs.Address.{page_of}
use Rattle.cow_pages.specs.Memory.{is_live, IsSound, Memory}
use Rattle.cow_pages.specs.Only.{OnlyTable}
use Rattle.cow_pages.specs.View.{view_of}
use Rattle.object_view.specs.Changes.{reads_after_all}
use Rattle.raw_objects.specs.Keeps.{Keeps}
use Rattle.raw_objects.specs.Raws.{HoldsRaws, Raws}
use Rattle.raw_objects.specs.References.{turned_where}
use Rattle.region_space.specs.Space.{filled, lists_of, IsSpace, Space}
use Rattle.region_space.specs.Space.{AreAlone as AreRegionsAlone}
use Rattle.region_space.specs.Space.{HasPages as HasRegionPages}
use Rattle.region_space.specs.Space.{holds_page as region_page}
use Rattle.large_objects.specs.declared.rows.LargeRow.{LargeRow}
use Rattle.large_objects.specs.Pages.{holds_page, AreAlone, HasPages}
use Rattle.large_objects.specs.Rows.{waits}
use Rattle.live_objects.specs.Live.{addresses}
use Rattle.weak_refs.specs.Weak.{ClearsSlots}
use Rattle.object_moves.specs.Copies.{at_of, moved, KeepsOutside}
use Rattle.object_moves.specs.Turns.{gone_to, slot_of, ObjectsWithin}
use Rattle.object_view.specs.declared.names.Slot.{Slot}
use Rattle.object_collection.specs.declared.plan.Plan.{Plan}
use Rattle.object_collection.specs.Collects.{may_change, CanCollect, HeapState}
use Rattle.object_collection.specs.Phases.{goes_by, is_turned, listed_in, stays_by, CanMove, CanTurn, HaveMoved, IsPlan, Listed, LosesPages, Turning}
use Rattle.object_collection.proofs.Running.{alone3, can-move, can-turn, cleared, gone, large-high, large-within, live3, pages3, region_alone3, region_pages3, slots-within, young-high, young-within}

-- what turned references are, by the contract of the call that turns them
pub record Turns (cs : List Class) (old new : Memory) (t : ℕ) (it : Turning) (before after : List Addr) : Type 0 where
  pub held : (raws : Raws) → CanTurn cs old t raws it before → HoldsRaws cs (view_of new t) (turned_where raws (is_turned cs raws it))
  pub roots : (raws : Raws) → CanTurn cs old t raws it before → after ≡ map (gone_to raws) before
  pub keeps : (raws : Raws) (may : ℕ → Bool) → CanTurn cs old t raws it before → ObjectsWithin cs may raws it.young → ObjectsWithin cs may raws it.large
      → ((i : ℕ) → i < length it.slots → may (page_of (slot_of it.slots i).at.0) ≡ true) → Keeps old new t may
  pub reads : ((i : ℕ) → i < length it.young → region_base ≤ at_of it.young i) → ((i : ℕ) → i < length it.large → region_base ≤ at_of it.large i) → new.reads ≡ old.reads
  pub sound : IsSound old → IsSound new

-- the lists of a plan, as they are handed on
abbrev pub handed : Plan → List Addr → List Addr → List Addr → List Slot → Listed
handed plan young large weak turned = record { young = young; large = large; stays = plan.stays; weak = weak; turned = turned }

-- lists that are equal one by one
same-listed : (p : Listed) (young large weak : List Addr) (turned : List Slot) → young ≡ p.young → large ≡ p.large → weak ≡ p.weak → turned ≡ p.turned
    → p ≡ record { young = young; large = large; stays = p.stays; weak = weak; turned = turned }
same-listed p young large weak turned a b c d =
    ap (λ (x : List Addr). record { young = x; large = p.large; stays = p.stays; weak = p.weak; turned = p.turned }) (sym a)
    ∙ ap (λ (x : List Addr). record { young = young; large = x; stays = p.stays; weak = p.weak; turned = p.turned }) (sym b)
    ∙ ap (λ (x : List Addr). record { young = young; large = large; stays = p.stays; weak = x; turned = p.turned }) (sym c)
    ∙ ap (λ (x : List Slot). record { young = young; large = large; stays = p.stays; weak = weak; turned = x }) (sym d)

pub is-plan : (h : HeapState) (m : Memory) (raws : Raws) (plan : Plan) (young large weak : List Addr) (turned : List Slot)
    → young ≡ plan.young.items → large ≡ plan.large.items → weak ≡ plan.weak.items → turned ≡ plan.turned.items → IsPlan h m raws (listed_in plan) → IsPlan h m raws (handed plan young large weak turned)
is-plan h m raws plan young large weak turned a b c d ok = subst (λ (p : Listed). IsPlan h m raws p) (same-listed (listed_in plan) young large weak turned a b c d) ok

module _ (h : HeapState) (m : Memory) (t : ℕ) (raws : Raws) (plan : Listed) (can : CanCollect h m t raws) (ok : IsPlan h m raws plan) where
  -- the objects after the copies were made
  abbrev pub copied : List Addr → Raws
  copied tos = moved (cleared h m t raws plan can ok) plan.young tos (length plan.young)

  -- the references are turned: the memory after each step so far, the regions, the addresses of the copies and the roots
  pub record HasTurned (m1 m2 m3 : Memory) (s2 : Space) (tos roots : List Addr) : Type 0 where
    pub clears : ClearsSlots m m1 t (gone h m t raws plan can ok)
    pub reads1 : m1.reads ≡ reads_after_all m.reads (addresses plan.weak)
    pub sound0 : IsSound m
    pub sound1 : IsSound m1
    pub moves : HaveMoved h.classes m2 t s2 (cleared h m t raws plan can ok) plan.young tos
    pub regions2 : (s2.count ≡ h.regions.count) × (s2.from ≡ h.regions.in_use) × (s2.objects ≡ length plan.young)
    pub outside : KeepsOutside m1 m2 t
    pub only2 : OnlyTable m1 m2 t
    pub turned : HoldsRaws h.classes (view_of m3 t) (turned_where (copied tos) (is_turned h.classes (copied tos) (record { young = tos; large = plan.large; slots = plan.turned })))
    pub roots_are : roots ≡ map (gone_to (copied tos)) h.roots
    pub keeps3 : Keeps m2 m3 t (may_change h)
    pub reads3 : m3.reads ≡ m2.reads
    pub sound3 : IsSound m3

  -- the collection ran: and the memory, the regions and the rows after its last step
  pub record HasRun (m1 m2 m3 m4 : Memory) (s2 s4 : Space) (tos roots : List Addr) (rows : List LargeRow) : Type 0 where
    pub before : HasTurned m1 m2 m3 s2 tos roots
    pub rows_are : rows ≡ filter (stays_by plan.large) h.rows
    pub no_from : (s4.from ≡ []) × (s4.from_objects ≡ 0)
    pub regions4 : (s4.in_use ≡ s2.in_use) × (s4.count ≡ s2.count) × (s4.objects ≡ s2.objects)
    pub loses : LosesPages m3 m4 t (λ p. list_any (region_page p) s2.from || list_any (holds_page p) (filter (goes_by plan.large) h.rows))
    pub only4 : OnlyTable m3 m4 t
    pub region_pages : HasRegionPages m4 t (filled (lists_of s4))
    pub large_pages : HasPages m4 t rows
    pub space : IsSpace (lists_of s4)
    pub sound4 : IsSound m4

  pub has-turned : (m1 m2 m3 : Memory) (s2 : Space) (tos roots : List Addr) → IsSound m → ClearsSlots m m1 t (gone h m t raws plan can ok) → m1.reads ≡ reads_after_all m.reads (addresses plan.weak)
      → (IsSound m → IsSound m1)
      → ((r : Raws) → CanMove h.classes m1 t h.regions r plan.young → HaveMoved h.classes m2 t s2 r plan.young tos)
      → (s2.count ≡ h.regions.count) × (s2.from ≡ h.regions.in_use) × (s2.objects ≡ length plan.young)
      → KeepsOutside m1 m2 t
      → OnlyTable m1 m2 t
      → Turns h.classes m2 m3 t (record { young = tos; large = plan.large; slots = plan.turned }) h.roots roots
      → HasTurned m1 m2 m3 s2 tos roots
  has-turned m1 m2 m3 s2 tos roots sound clears reads stays moved' regions outside only turns =
      let sound' = stays sound in
      let moves = moved' (cleared h m t raws plan can ok) (can-move h m t raws plan can ok m1 clears sound') in
      let turn = can-turn h m t raws plan can ok m1 clears sound' m2 s2 tos moves regions.1 outside only in
      record {
        clears = clears;
        reads1 = reads;
        sound0 = sound;
        sound1 = sound';
        moves = moves;
        regions2 = regions;
        outside = outside;
        only2 = only;
        turned = turns.held (copied tos) turn;
        roots_are = turns.roots (copied tos) turn;
        keeps3 =
            turns.keeps (copied tos) (may_change h) turn (young-within h m t raws plan can ok m1 clears sound' m2 s2 tos moves regions.1 outside only)
            (large-within h m t raws plan can ok m1 clears sound' m2 s2 tos moves regions.1 outside only) (slots-within h m t raws plan can ok m1 clears sound' m2 s2 tos moves regions.1 outside only);
        reads3 = turns.reads (young-high h m t raws plan can ok m1 clears sound' m2 s2 tos moves regions.1 outside only) (large-high h m t raws plan can ok m1 clears sound' m2 s2 tos moves regions.1 outside only);
        sound3 = turns.sound moves.held.sound;
      }

  -- what dropping the dead asks of memory
  pub record CanDrop (m3 : Memory) (s2 : Space) : Type 0 where
    pub live : IsTrue (is_live m3 t)
    pub region_pages : HasRegionPages m3 t (filled (lists_of s2))
    pub region_alone : AreRegionsAlone m3 t s2.from
    pub pages : HasPages m3 t h.rows
    pub alone : AreAlone m3 t (filter waits h.rows)

  pub can-drop : (m1 m2 m3 : Memory) (s2 : Space) (tos roots : List Addr) → HasTurned m1 m2 m3 s2 tos roots → CanDrop m3 s2
  can-drop m1 m2 m3 s2 tos roots it = record {
    live = live3 h m t raws plan can ok m1 it.clears it.sound1 m2 s2 tos it.moves it.regions2.1 it.outside it.only2 m3 it.keeps3;
    region_pages = region_pages3 h m t raws plan can ok m1 it.clears it.sound1 m2 s2 tos it.moves it.regions2.1 it.outside it.only2 m3 it.keeps3;
    region_alone = region_alone3 h m t raws plan can ok m1 it.clears it.sound1 m2 s2 tos it.moves it.regions2.1 it.outside it.only2 m3 it.keeps3;
    pages = pages3 h m t raws plan can ok m1 it.clears it.sound1 m2 s2 tos it.moves it.regions2.1 it.outside it.only2 m3 it.keeps3;
    alone = alone3 h m t raws plan can ok m1 it.clears it.sound1 m2 s2 tos it.moves it.regions2.1 it.outside it.only2 m3 it.keeps3;
  }
