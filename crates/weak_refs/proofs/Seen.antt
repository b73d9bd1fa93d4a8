-- What references hold while others are cleared.
use Rattle.std.proofs.Common.{cond, ◌≡◌, ◌≢◌, ◌∙◌, ℕ, zero, suc, ◌+◌, ◌%◌, ◌<◌, ◌≤◌, Bool, true, false, ◌&&◌, ◌||◌, not, nat_le, nat_lt, nat_eq, List, [], ◌∷◌, ◌++◌, length, take, get_or, refl, sym, ap, subst, inl, inr, arith, IsTrue, add-zero}
use Rattle.std.specs.Prelude.{◌==◌}
use Rattle.std.specs.List.{filter, Contains}
use Rattle.std.proofs.lemmas.Bool.{cases_eq, cases_Bool, eqb-true, eqb-false, eq-eqb}
use Rattle.std.proofs.lemmas.List.{append-nil, length-take-le, get_or-map}
use Rattle.std.proofs.lemmas.List.Elements.{filter-append, All-take}
use Rattle.std.proofs.lemmas.List.Filters.{length-filter_more}
use Rattle.std.proofs.lemmas.List.Sums.{length-filter, count_by-le-length}
use Rattle.std.proofs.lemmas.Map.Keys.{apart_from_distinct}
use Rattle.std.proofs.lemmas.Map.Steps.{length-le_from_distinct_below}
use Rattle.std.proofs.lemmas.Map.Views.{Contains-from_any}
use Rattle.std.proofs.Math.Seq.{take-suc}
use Rattle.page_tables.specs.declared.address.Addr.{Addr}
use Rattle.page_tables.specs.Address.{page_of}
use Rattle.cow_pages.specs.Memory.{Memory, is_mapped, HasOneSharer, IsShared, IsSound}
use Rattle.cow_pages.specs.Change.{reads_after}
use Rattle.cow_pages.specs.View.{View, view_of, u32_at}
use Rattle.object_view.specs.Changes.{reads_after_all}
use Rattle.object_view.proofs.Bytes.{window-below}
use Rattle.object_view.proofs.Spans.{not-shared}
use Rattle.weak_refs.specs.Weak.{addresses, is_dead, dead_in, is_page_of, cleared, shared_pages, AreSlots, ClearsSlots}
use Rattle.weak_refs.proofs.Slots.{any-kept, filter-none, in-slot, not-byte, pages-more, u32-same, u32-zero}
use Rattle.weak_refs.proofs.Clears.{alone-stays, clears-both, clears-none}

-- whether a reference is dead that holds this number
abbrev dead_at : (ℕ → Bool) → ℕ → Bool
dead_at kept n = not (n == 0) && not (kept n)

element-any : (xs : List ℕ) (k d e : ℕ) → k < length xs → get_or xs k d ≡ get_or xs k e
element-any [] k d e below = absurd (omega arith)
element-any (x ∷ xs) zero d e below = refl
element-any (x ∷ xs) (suc k) d e below = element-any xs k d e (omega arith)

element-take : (xs : List ℕ) (n k d : ℕ) → k < n → get_or (take n xs) k d ≡ get_or xs k d
element-take xs zero k d below = absurd (omega arith)
element-take [] (suc n) k d below = refl
element-take (x ∷ xs) (suc n) zero d below = refl
element-take (x ∷ xs) (suc n) (suc k) d below = element-take xs n k d (omega arith)

pub addresses-length : (slots : List Addr) → length (addresses slots) ≡ length slots
addresses-length [] = refl
addresses-length (x ∷ xs) = ap suc (addresses-length xs)

pub address-is : (slots : List Addr) (i : ℕ) (d : Addr) → i < length slots → get_or (addresses slots) i 0 ≡ (get_or slots i d).0
address-is slots i d below = get_or-map (λ (it : Addr). it.0) slots i d 0 below

module _ (kept : ℕ → Bool) (v : View) (slots : List ℕ) (s : AreSlots v slots) where
  after : View
  after = cleared (dead_in kept v slots) v

  aligned : (at : ℕ) → Contains slots at → at % 4 ≡ 0
  aligned at (k, below, is) = ap (λ n. n % 4) (sym is) ∙ s.aligned k at below

  null-now : (at : ℕ) → Contains slots at → is_dead kept v at ≡ true → u32_at (cleared (dead_in kept v slots) v) at ≡ 0
  null-now at (k, below, is) dead =
      u32-zero (cleared (dead_in kept v slots) v) at (λ i small. ap (λ d. cond d 0 (v.byte (at + i)))
      (any-kept (λ x. nat_le x (at + i) && nat_lt (at + i) (x + 4)) (is_dead kept v) at slots k below is dead (in-slot at (at + i) (omega arith) (omega arith))))

  same-now : (at : ℕ) → Contains slots at → is_dead kept v at ≡ false → u32_at (cleared (dead_in kept v slots) v) at ≡ u32_at v at
  same-now at there spared =
      u32-same v (cleared (dead_in kept v slots) v) at (λ i small. ap (λ d. cond d 0 (v.byte (at + i)))
      (not-byte (is_dead kept v) at (at + i) (aligned at there) (omega arith) (omega arith) slots s.aligned
      (λ k d below. elim (cases_eq (get_or slots k d) at) [ inl same ↦ inr (ap (is_dead kept v) same ∙ spared) | inr apart ↦ inl apart ])))

  pub holds-now : (at : ℕ) → Contains slots at → u32_at (cleared (dead_in kept v slots) v) at ≡ cond (is_dead kept v at) 0 (u32_at v at)
  holds-now at there = elim (cases_Bool (is_dead kept v at)) [
    | inl dead ↦ null-now at there dead ∙ sym (ap (λ d. cond d 0 (u32_at v at)) dead)
    | inr spared ↦ same-now at there spared ∙ sym (ap (λ d. cond d 0 (u32_at v at)) spared)
  ]

  not-dead : (at : ℕ) → Contains slots at → is_dead kept (cleared (dead_in kept v slots) v) at ≡ false
  not-dead at there = elim (cases_Bool (is_dead kept v at)) [
    | inl dead ↦ ap (dead_at kept) (null-now at there dead)
    | inr spared ↦ ap (dead_at kept) (same-now at there spared) ∙ spared
  ]

  pub none-dead : dead_in kept (cleared (dead_in kept v slots) v) slots ≡ []
  none-dead = filter-none (is_dead kept (cleared (dead_in kept v slots) v)) slots (λ k d below.
      not-dead (get_or slots k d) (k, below, element-any slots k (get_or slots k d) d below))

-- slots in mapped pages are fewer than a number of 32 bits can tell
pub slots-few : (m now : Memory) (t : ℕ) (slots : List ℕ) → AreSlots (view_of m t) slots → ((at : ℕ) → is_mapped now t (page_of at) ≡ is_mapped m t (page_of at)) → IsSound now → length slots ≤ 0xa0000000
slots-few m now t slots s same sound = length-le_from_distinct_below slots 0xa0000000 s.once (λ q any.
    let it = Contains-from_any eqb-true q slots any in
    let mapped : IsTrue (is_mapped now t (page_of q)) = same q ∙ subst (λ n. IsTrue (is_mapped m t (page_of n))) it.2 (s.mapped it.0 q it.1) in
    let below : page_of q < 0xa0000 = window-below (page_of q) (sound.in_window t (page_of q) mapped) in
    omega arith)

pub dead-few : (p : ℕ → Bool) (xs : List ℕ) (i : ℕ) → i ≤ length xs → length (filter p (take i xs)) ≤ i
dead-few p xs i le = omega (arith, length-filter p (take i xs), count_by-le-length p (take i xs), length-take-le i xs le)

reads-more : (r at : ℕ) (xs : List ℕ) → reads_after_all r (xs ++ (at ∷ [])) ≡ reads_after (reads_after_all r xs) at
reads-more r at [] = refl
reads-more r at (x ∷ xs) = reads-more (reads_after r x) at xs

take-more : (xs : List ℕ) (i : ℕ) → i < length xs → take (i + 1) xs ≡ take i xs ++ (get_or xs i 0 ∷ [])
take-more xs i below = ap (λ n. take n xs) (let e : i + 1 ≡ suc i = omega arith in e) ∙ take-suc xs i 0 below

pub reads-step : (r : ℕ) (xs : List ℕ) (i : ℕ) → i < length xs → reads_after_all r (take (i + 1) xs) ≡ reads_after (reads_after_all r (take i xs)) (get_or xs i 0)
reads-step r xs i below = ap (reads_after_all r) (take-more xs i below) ∙ reads-more r (get_or xs i 0) (take i xs)

-- a read changes no slot
pub clears-read : (m old now : Memory) (t n : ℕ) (ds : List ℕ) → ClearsSlots m old t ds → now ≡ record old { reads = n } → ClearsSlots m now t ds
clears-read m old now t n ds a counts = subst (ClearsSlots m now t) (append-nil ds) (clears-both m old now t ds [] a (clears-none old now t n counts)
    (λ own. ap (shared_pages own) (append-nil ds) ∙ sym (add-zero (shared_pages own ds))))

module _ (kept : ℕ → Bool) (m old : Memory) (t : ℕ) (slots : List ℕ) (i : ℕ) (s : AreSlots (view_of m t) slots) (below : i < length slots)
    (a : ClearsSlots m old t (dead_in kept (view_of m t) (take i slots))) where
  at_i : ℕ
  at_i = get_or slots i 0

  element-apart : (k e : ℕ) → k < length (take i slots) → get_or (take i slots) k e ≢ get_or slots i 0
  element-apart k e small =
      let lower : k < i = omega (arith, length-take-le i slots (omega arith)) in
      let is : get_or (take i slots) k e ≡ get_or slots k 0 = element-take slots i k e lower ∙ element-any slots k e 0 (omega arith) in
      λ same. eqb-false (get_or slots k 0) (get_or slots i 0) (apart_from_distinct nat_eq slots k i 0 s.once lower below) (sym is ∙ same)

  -- the slots that were cleared are none of the bytes of the next one
  u32-still : u32_at (view_of old t) (get_or slots i 0) ≡ u32_at (view_of m t) (get_or slots i 0)
  u32-still =
      u32-same (view_of m t) (view_of old t) (get_or slots i 0) (λ j small.
      a.bytes.byte (get_or slots i 0 + j)
      ∙ ap (λ d. cond d 0 ((view_of m t).byte (get_or slots i 0 + j)))
      (not-byte (is_dead kept (view_of m t)) (get_or slots i 0) (get_or slots i 0 + j) (s.aligned i 0 below) (omega arith) (omega arith) (take i slots)
      (All-take (λ x. x % 4 ≡ 0) i slots s.aligned) (λ k e small. inl (element-apart k e small))))

  pub dead-still : is_dead kept (view_of old t) (get_or slots i 0) ≡ is_dead kept (view_of m t) (get_or slots i 0)
  dead-still = ap (dead_at kept) u32-still

  pub mapped-still : IsTrue (is_mapped old t (page_of (get_or slots i 0)))
  mapped-still = a.bytes.mapped (get_or slots i 0) ∙ s.mapped i 0 below

  dead-more : dead_in kept (view_of m t) (take (i + 1) slots) ≡ dead_in kept (view_of m t) (take i slots) ++ dead_in kept (view_of m t) (get_or slots i 0 ∷ [])
  dead-more = ap (dead_in kept (view_of m t)) (take-more slots i below) ∙ filter-append (is_dead kept (view_of m t)) (take i slots) (get_or slots i 0 ∷ [])

  splits : (ds : List ℕ) (at : ℕ) (d : Bool) (own : ℕ → Bool) → shared_pages own (ds ++ cond d (at ∷ []) []) ≡ shared_pages own ds + shared_pages (λ p. own p || is_page_of ds p) (cond d (at ∷ []) [])
  splits ds at true own = pages-more own at ds
  splits ds at false own = ap (shared_pages own) (append-nil ds) ∙ sym (add-zero (shared_pages own ds))

  -- one slot more
  pub clears-step : (new : Memory) → ClearsSlots old new t (dead_in kept (view_of old t) (get_or slots i 0 ∷ [])) → ClearsSlots m new t (dead_in kept (view_of m t) (take (i + 1) slots))
  clears-step new b =
      subst (ClearsSlots m new t) (sym dead-more)
      (clears-both m old new t (dead_in kept (view_of m t) (take i slots)) (dead_in kept (view_of m t) (get_or slots i 0 ∷ [])) a
      (subst (λ d. ClearsSlots old new t (cond d (get_or slots i 0 ∷ []) [])) dead-still b)
      (splits (dead_in kept (view_of m t) (take i slots)) (get_or slots i 0) (is_dead kept (view_of m t) (get_or slots i 0))))

  -- where each page with a dead slot had a frame of its own, that of the next dead one is not shared
  pub never-shared : ((p : ℕ) → is_page_of (dead_in kept (view_of m t) slots) p ≡ true → HasOneSharer m t p) → is_dead kept (view_of old t) (get_or slots i 0) ≡ true → IsShared old t (page_of (get_or slots i 0)) → ⊥
  never-shared all dead shared =
      let page = page_of (get_or slots i 0) in
      let there : is_page_of (dead_in kept (view_of m t) slots) page ≡ true =
      any-kept (λ x. page_of x == page_of (get_or slots i 0)) (is_dead kept (view_of m t)) (get_or slots i 0) slots i below (element-any slots i (get_or slots i 0) 0 below) (sym dead-still ∙ dead) (eq-eqb page page refl) in
      not-shared old t page (alone-stays m old t (dead_in kept (view_of m t) (take i slots)) a page (s.mapped i 0 below) (all page there)) shared

  -- and one dead slot more where it is dead
  pub count-step : (dead : Bool) → dead ≡ is_dead kept (view_of old t) (get_or slots i 0)
      → length (dead_in kept (view_of m t) (take (i + 1) slots)) ≡ length (dead_in kept (view_of m t) (take i slots)) + cond dead 1 0
  count-step dead is =
      length-filter_more (is_dead kept (view_of m t)) slots i 0 below
      ∙ ap (λ d. length (dead_in kept (view_of m t) (take i slots)) + cond d 1 0) (sym (is ∙ dead-still))
