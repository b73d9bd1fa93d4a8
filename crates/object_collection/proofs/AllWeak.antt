-- The weak references of the live objects and of the slots, put together.
use Rattle.std.proofs.Common.{◌≡◌, ◌∙◌, ℕ, ◌<◌, ◌≤◌, List, [], length, sym, ap, subst, inl, inr, arith}
use Rattle.std.specs.Prelude.{◌⊎◌}
use Rattle.std.specs.List.{Contains}
use Rattle.std.proofs.lemmas.Bool.{false≢true}
use Rattle.std.proofs.lemmas.List.{get_or_default, get_or-map, length-map}
use Rattle.std.proofs.lemmas.Map.Keys.{apart_from_distinct}
use Rattle.std.proofs.lemmas.Bool.{eqb-false}
use Rattle.class_layout.specs.ClassList.{Class}
use Rattle.page_tables.specs.declared.address.Addr.{Addr}
use Rattle.bit_set.specs.Bits.{Bits}
use Rattle.cow_pages.specs.Memory.{Memory}
use Rattle.cow_pages.specs.View.{view_of}
use Rattle.raw_objects.specs.Raws.{HoldsRaws, Raws}
use Rattle.live_objects.specs.Live.{addresses}
use Rattle.live_objects.specs.Reach.{is_mortal}
use Rattle.live_objects.proofs.MarkLemmas.{mortal-cases}
use Rattle.live_objects.proofs.OrderLemmas.{regions-span}
use Rattle.live_objects.proofs.YoungLemmas.{map-from}
use Rattle.object_moves.specs.Copies.{at_of}
use Rattle.object_collection.specs.Collects.{HeapState, IsReached, LeadsOut}
use Rattle.object_collection.specs.Listed.{AreSlotsOf, AreWeak, IsWeakOf, IsWeakSlot, KnowsLive}
use Rattle.object_collection.specs.Weaks.{Adds, AreReadable, IsWeakAmong, IsWeakIn}
use Rattle.object_collection.proofs.Growing.{adds-both, none-twice}
use Rattle.object_collection.proofs.Room.{index-at, live-once, live-reached, reached-has, reached-mortal}
use Rattle.object_collection.proofs.WeakLemmas.{weak-apart}

-- ADDRESSES BY INDEX

abbrev none : Addr
none = record { 0 = 0 }

at-index : (ats : List Addr) (a : ℕ) → Contains (addresses ats) a → (i : ℕ) × (i < length ats) × (at_of ats i ≡ a)
at-index ats a is =
    let it = map-from (λ (x : Addr). x.0) ats a is in
    let c = it.1 in
    (c.0, c.1, ap (λ (x : Addr). x.0) (get_or_default ats c.0 none it.0 c.1 ∙ c.2) ∙ it.2)

module _ (h : HeapState) (m : Memory) (t : ℕ) (raws : Raws) (young : List Addr) (large : Bits) (k : KnowsLive h m t raws young large) where
  holds : HoldsRaws h.classes (view_of m t) raws
  holds = k.can.held.holds

  pub young-readable : AreReadable h.classes (view_of m t) raws young
  young-readable = record {
    holds = holds;
    has = λ i below. reached-has h raws (at_of young i) (live-reached h m t raws young large k i below).1;
    above = λ i below. (regions-span (at_of young i) (live-reached h m t raws young large k i below).0).low;
    once = λ i j low below. live-once h m t raws young large k i j low below;
  }

  module _ (ats : List Addr) (are : AreSlotsOf large ats) where
    slot-reached : (i : ℕ) → i < length ats → (0x80000000 ≤ at_of ats i) × IsReached h raws (at_of ats i)
    slot-reached i below =
        let it = (are.only (at_of ats i)).0 (index-at ats i below) in
        (omega (arith, it.3), subst (IsReached h raws) (sym it.3) ((k.large_are.only it.0 it.1).0 it.2))

    pub large-readable : AreReadable h.classes (view_of m t) raws ats
    large-readable = record {
      holds = holds;
      has = λ i below. reached-has h raws (at_of ats i) (slot-reached i below).1;
      above = λ i below. omega (arith, (slot-reached i below).0);
      once = λ i j low below.
          let n = length-map ats (λ (a : Addr). a.0) in
          let apart = eqb-false _ _ (apart_from_distinct _ (addresses ats) i j 0 are.once low (omega (arith, below, n))) in
          λ same. apart (get_or-map (λ (a : Addr). a.0) ats i none 0 (omega (arith, low, below)) ∙ same ∙ sym (get_or-map (λ (a : Addr). a.0) ats j none 0 below));
    }

    -- each weak reference of a reached object is one of these
    weak-split : (b : ℕ) → IsWeakOf h raws b → IsWeakAmong h.classes raws young (length young) b ⊎ IsWeakAmong h.classes raws ats (length ats) b
    weak-split b it =
        let mine : IsWeakIn h.classes (raws.raw it.object).shape it.object b = record { place = it.place; is_in = it.is_in; kind_is = it.kind_is; weak_is = it.weak_is; at_is = it.at_is } in
        elim (mortal-cases h.rows it.object k.can.large.rows (reached-mortal h raws it.object it.reached)) [
          | inl inside ↦
              let found = at-index young it.object ((k.young_are.only it.object).1 (inside, it.reached)) in
              inl (record { index = found.0; before = found.1; is = subst (λ o. IsWeakIn h.classes (raws.raw o).shape o b) (sym found.2) mine })
          | inr base ↦
              let member = (k.large_are.only base.slot base.within).1 (subst (IsReached h raws) (sym base.is) it.reached) in
              let found = at-index ats it.object ((are.only it.object).1 (base.slot, base.within, member, sym base.is)) in
              inr (record { index = found.0; before = found.1; is = subst (λ o. IsWeakIn h.classes (raws.raw o).shape o b) (sym found.2) mine })
        ]

    weak-of : (o b : ℕ) → IsReached h raws o → IsWeakIn h.classes (raws.raw o).shape o b → IsWeakOf h raws b
    weak-of o b reached it = record { object = o; place = it.place; reached = reached; is_in = it.is_in; kind_is = it.kind_is; weak_is = it.weak_is; at_is = it.at_is }

    objects-apart : (b : ℕ) → IsWeakAmong h.classes raws young (length young) b → IsWeakAmong h.classes raws ats (length ats) b → ⊥
    objects-apart b one other =
        let first = live-reached h m t raws young large k one.index one.before in
        let second = slot-reached other.index other.before in
        let high = (regions-span (at_of young one.index) first.0).high in
        weak-apart h.classes (view_of m t) raws (at_of young one.index) (at_of ats other.index) b holds (reached-has h raws _ first.1) (reached-has h raws _ second.1) (λ same. omega (arith, same, high, second.0)) one.is other.is

    slots-apart : (b : ℕ) → IsWeakOf h raws b → IsWeakSlot h.slots b → ⊥
    slots-apart b one other =
        let out : LeadsOut h raws other.slot = (k.can.slots.exact other.slot).0 other.is_in in
        weak-apart h.classes (view_of m t) raws one.object out.object b holds (reached-has h raws one.object one.reached) out.has
        (λ same. false≢true (sym out.immune ∙ sym (ap (is_mortal h.rows) same) ∙ reached-mortal h raws one.object one.reached))
        (record { place = one.place; is_in = one.is_in; kind_is = one.kind_is; weak_is = one.weak_is; at_is = one.at_is })
        (record { place = out.place; is_in = out.is_in; kind_is = out.kind_is; weak_is = sym out.weak_is ∙ other.weak_is; at_is = sym other.at_is ∙ out.at_is })

    pub all-weak : (w0 w1 w2 w3 : List ℕ) → w0 ≡ [] → Adds (IsWeakAmong h.classes raws young (length young)) w0 w1 → Adds (IsWeakAmong h.classes raws ats (length ats)) w1 w2 → Adds (IsWeakSlot h.slots) w2 w3
        → AreWeak h raws w3
    all-weak w0 w1 w2 w3 empty first second third =
        let objects : Adds (IsWeakOf h raws) w0 w2 = adds-both (IsWeakAmong h.classes raws young (length young)) (IsWeakAmong h.classes raws ats (length ats)) (IsWeakOf h raws) w0 w1 w2 weak-split
        (λ b it. weak-of (at_of young it.index) b (live-reached h m t raws young large k it.index it.before).1 it.is)
        (λ b it. weak-of (at_of ats it.index) b (slot-reached it.index it.before).1 it.is)
        objects-apart first second in
        let all : Adds (λ b. IsWeakOf h raws b ⊎ IsWeakSlot h.slots b) w0 w3 =
        adds-both (IsWeakOf h raws) (IsWeakSlot h.slots) (λ b. IsWeakOf h raws b ⊎ IsWeakSlot h.slots b) w0 w2 w3 (λ b it. it) (λ b it. inl it) (λ b it. inr it) slots-apart objects third in
        let from : Adds (λ b. IsWeakOf h raws b ⊎ IsWeakSlot h.slots b) [] w3 = subst (λ w. Adds (λ b. IsWeakOf h raws b ⊎ IsWeakSlot h.slots b) w w3) empty all in
        record {
          only = λ b. (λ is. elim ((from.only b).0 is) [ inl never ↦ absurd (omega (arith, never.1)) | inr it ↦ it ], λ it. (from.only b).1 (inr it));
          once = from.once none-twice (λ b it never. omega (arith, never.1));
        }

-- the same in other words
pub readable-as : (cs ds : List Class) (m n : Memory) (t : ℕ) (raws : Raws) (ats bs : List Addr) → cs ≡ ds → n ≡ m → bs ≡ ats → AreReadable cs (view_of m t) raws ats → AreReadable ds (view_of n t) raws bs
readable-as cs ds m n t raws ats bs classes memory list ok =
    subst (λ (x : List Class). AreReadable x (view_of n t) raws bs) classes (subst (λ (x : Memory). AreReadable cs (view_of x t) raws bs) (sym memory) (subst (λ (x : List Addr). AreReadable cs (view_of m t) raws x) (sym list) ok))

pub among-as : (cs ds : List Class) (raws : Raws) (ats bs : List Addr) (old new : List ℕ) → cs ≡ ds → bs ≡ ats → Adds (IsWeakAmong ds raws bs (length bs)) old new → Adds (IsWeakAmong cs raws ats (length ats)) old new
among-as cs ds raws ats bs old new classes list adds =
    subst (λ (x : List Class). Adds (IsWeakAmong x raws ats (length ats)) old new) (sym classes) (subst (λ (x : List Addr). Adds (IsWeakAmong ds raws x (length x)) old new) list adds)
