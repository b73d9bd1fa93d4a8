-- What the single steps need.
use Rattle.std.proofs.Common.{◌≡◌, ◌∙◌, ◌||◌, ℕ, inl, inr, Bool, true, false, cond, List, [], ◌∷◌, ◌++◌, filter, refl, sym, ap, subst}
use Rattle.std.specs.List.{list_any}
use Rattle.std.proofs.lemmas.Bool.{or_cases, or_left, or_right}
use Rattle.std.proofs.lemmas.List.{append-nil}
use Rattle.class_layout.specs.ClassList.{Class}
use Rattle.page_tables.specs.declared.address.Addr.{Addr}
use Rattle.cow_pages.specs.Memory.{Memory}
use Rattle.raw_objects.specs.Raws.{raw_size, Raws}
use Rattle.region_lists.specs.Rows.{Row}
use Rattle.region_space.specs.Pages.{IsObjectIn}
use Rattle.region_space.specs.Space.{filled, lists_of, AreAlone, HasPages, IsSpace, Space}
use Rattle.object_moves.specs.Copies.{CanCopyAll, HoldsRegions}
use Rattle.object_collection.specs.Phases.{CanMove}

-- an element that a filter keeps is one of the list
pub any-fewer : {X : Type 0} (f q : X → Bool) (xs : List X) → list_any f (filter q xs) ≡ true → list_any f xs ≡ true
any-fewer f q [] is = is
any-fewer f q (x ∷ xs) is = by (q x) is (any-fewer f q xs)
  where
    by : (b : Bool) → list_any f (cond b (x ∷ filter q xs) (filter q xs)) ≡ true → (list_any f (filter q xs) ≡ true → list_any f xs ≡ true) → (f x || list_any f xs) ≡ true
    by true here rest = elim (or_cases (f x) (list_any f (filter q xs)) here) [ inl first ↦ or_left (f x) (list_any f xs) first | inr later ↦ or_right (f x) (list_any f xs) (rest later) ]
    by false later rest = or_right (f x) (list_any f xs) (rest later)

-- the space with its regions in use as from regions
abbrev pub flipped : Space → Space
flipped s = record s { in_use = []; from = s.in_use; objects = 0; from_objects = s.objects }

-- the same rows are filled
flipped-rows : (s : Space) → s.from ≡ [] → filled (lists_of s) ≡ filled (lists_of (flipped s))
flipped-rows s none = ap (λ (rows : List Row). s.in_use ++ rows) none ∙ append-nil s.in_use

pub flipped-held : (cs : List Class) (m : Memory) (t : ℕ) (s : Space) (raws : Raws) → s.from ≡ [] → IsSpace (lists_of (flipped s)) → HoldsRegions cs m t (lists_of s) raws → HoldsRegions cs m t (lists_of (flipped s)) raws
flipped-held cs m t s raws none space h = record {
  live = h.live;
  sound = h.sound;
  space = space;
  pages = subst (λ (rows : List Row). HasPages m t rows) (flipped-rows s none) h.pages;
  alone = subst (λ (rows : List Row). AreAlone m t rows) (flipped-rows s none) h.alone;
  holds = h.holds;
  rows = λ a has inside. subst (λ (rows : List Row). IsObjectIn rows a (raw_size cs raws a)) (flipped-rows s none) (h.rows a has inside);
  others = h.others;
}

pub can-copy : (cs : List Class) (m : Memory) (t : ℕ) (s new : Space) (raws : Raws) (ats : List Addr) → new ≡ flipped s → IsSpace (lists_of new) → CanMove cs m t s raws ats → CanCopyAll cs m t (lists_of new) raws ats
can-copy cs m t s new raws ats is space ok =
    let there : IsSpace (lists_of (flipped s)) = subst (λ (x : Space). IsSpace (lists_of x)) is space in
    subst (λ (x : Space). CanCopyAll cs m t (lists_of x) raws ats) (sym is) (record {
      held = flipped-held cs m t s raws ok.no_from there ok.held;
      none_yet = refl;
      has = ok.has;
      inside = ok.inside;
      once = ok.once;
      room = ok.room;
      spare = ok.spare;
    })
