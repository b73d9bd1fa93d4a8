-- What a process that can collect knows of its objects and their pages.
use Rattle.std.proofs.Common.{◌≡◌, ◌∙◌, ◌⊎◌, ◌||◌, ℕ, ◌+◌, ◌-◌, ◌*◌, ◌/◌, ◌<◌, ◌≤◌, inl, inr, Bool, true, false, cond, List, [], ◌∷◌, Option, Some, None, All, filter, nat_eq, refl, sym, ap, subst, arith, is_some}
use Rattle.std.specs.Prelude.{nat_le}
use Rattle.std.specs.List.{list_any, Contains}
use Rattle.std.proofs.lemmas.Bool.{and_from, and_parts, cases_eq, cond-false, cond-true, eq-eqb, le-leb, ne_eqb, or_cases, or_left, or_right, true≢false, false≢true}
use Rattle.class_layout.specs.declared.kind.Kind.TheVariants.{Ref}
use Rattle.class_layout.specs.declared.kind.FieldAt.{FieldAt}
use Rattle.class_layout.specs.Placing.{IsIn}
use Rattle.page_tables.specs.declared.address.Window.TheVariants.{Regions}
use Rattle.page_tables.specs.Address.{is_in, page_of}
use Rattle.cow_pages.specs.Memory.{HasOneSharer, Memory}
use Rattle.heap_graph.specs.Places.{places_of}
use Rattle.object_view.specs.declared.names.Slot.{Slot}
use Rattle.object_view.proofs.Laid.{place-within, size-bounds}
use Rattle.raw_objects.specs.Raws.{raw_size, Raws}
use Rattle.raw_objects.specs.References.{in_regions}
use Rattle.region_lists.specs.Rows.{Row}
use Rattle.region_space.specs.Space.{filled, lists_of, IsFilled}
use Rattle.region_space.proofs.LieLemmas.{all-both, any-holds, filled-within, lies-in, Both}
use Rattle.region_space.proofs.PageLemmas.{inside}
use Rattle.large_objects.specs.declared.rows.LargeRow.{LargeRow}
use Rattle.large_objects.specs.Pages.{holds_page}
use Rattle.large_objects.specs.Rows.{row_at, slot_base, waits, IsBytes}
use Rattle.large_objects.proofs.LawLemmas.{row-covers}
use Rattle.large_objects.proofs.TableLemmas.{row-spot}
use Rattle.live_objects.specs.Reach.{is_mortal, starts_of, waits_in}
use Rattle.live_objects.proofs.ReachLemmas.{reached-node}
use Rattle.live_objects.proofs.YoungLemmas.{cons-cases, in-first, in-rest}
use Rattle.object_collection.specs.Collects.{may_change, CanCollect, HeapState, IsReached}

-- LISTS

pub any-at : {X : Type 0} (f : X → Bool) (xs : List X) → list_any f xs ≡ true → (x : X) × Contains xs x × (f x ≡ true)
any-at f [] is = absurd (false≢true is)
any-at f (x ∷ xs) is = elim (or_cases (f x) (list_any f xs) is) [
  | inl here ↦ (x, in-first x xs, here)
  | inr later ↦ let it = any-at f xs later in (it.0, in-rest x xs it.0 it.1, it.2)
]

pub any-of : {X : Type 0} (f : X → Bool) (xs : List X) (x : X) → Contains xs x → f x ≡ true → list_any f xs ≡ true
any-of f [] x c is = absurd (omega (arith, c.1))
any-of f (y ∷ ys) x c is = elim (cons-cases y ys x c) [
  | inl same ↦ or_left (f y) (list_any f ys) (ap f same ∙ is)
  | inr later ↦ or_right (f y) (list_any f ys) (any-of f ys x later is)
]

pub filter-in : {X : Type 0} (q : X → Bool) (xs : List X) (x : X) → Contains xs x → q x ≡ true → Contains (filter q xs) x
filter-in q [] x c is = absurd (omega (arith, c.1))
filter-in {X} q (y ∷ ys) x c is = by (q y) refl (λ later. filter-in q ys x later is) (cons-cases y ys x c)
  where
    by : (b : Bool) → q y ≡ b → (Contains ys x → Contains (filter q ys) x) → (y ≡ x) ⊎ Contains ys x → Contains (cond b (y ∷ filter q ys) (filter q ys)) x
    by true e rest (inl same) = subst (λ (z : X). Contains (y ∷ filter q ys) z) same (in-first y (filter q ys))
    by true e rest (inr later) = in-rest y (filter q ys) x (rest later)
    by false e rest (inl same) = absurd (true≢false (sym is ∙ ap q (sym same) ∙ e))
    by false e rest (inr later) = rest later

pub filter-from : {X : Type 0} (q : X → Bool) (xs : List X) (x : X) → Contains (filter q xs) x → Contains xs x × (q x ≡ true)
filter-from q [] x c = absurd (omega (arith, c.1))
filter-from {X} q (y ∷ ys) x c = by (q y) refl (filter-from q ys x) c
  where
    by : (b : Bool) → q y ≡ b → (Contains (filter q ys) x → Contains ys x × (q x ≡ true)) → Contains (cond b (y ∷ filter q ys) (filter q ys)) x → Contains (y ∷ ys) x × (q x ≡ true)
    by true e rest there = elim (cons-cases y (filter q ys) x there) [
      | inl same ↦ (subst (λ (z : X). Contains (y ∷ ys) z) same (in-first y ys), ap q (sym same) ∙ e)
      | inr later ↦ let it = rest later in (in-rest y ys x it.0, it.1)
    ]
    by false e rest there = let it = rest there in (in-rest y ys x it.0, it.1)

pub all-at : {X : Type 0} (P : X → Type 0) (xs : List X) (x : X) → All P xs → Contains xs x → P x
all-at P xs x all c = subst P c.2 (all c.0 x c.1)

-- ROWS

-- the row that is found at an address is one of the rows
pub row-in : (rows : List LargeRow) (at : ℕ) (row : LargeRow) → row_at rows at ≡ Some row → Contains rows row
row-in [] at row is = absurd (true≢false (sym (ap is_some is)))
row-in (x ∷ rest) at row is = elim (cases_eq (slot_base x.slot) at) [
  | inl same ↦
      let it : Some x ≡ Some row = sym (cond-true (nat_eq (slot_base x.slot) at) (Some x) (row_at rest at) (eq-eqb (slot_base x.slot) at same)) ∙ is in
      let one : x ≡ row = cc in
      subst (λ (r : LargeRow). Contains (x ∷ rest) r) one (in-first x rest)
  | inr other ↦ in-rest x rest row (row-in rest at row (sym (cond-false (nat_eq (slot_base x.slot) at) (Some x) (row_at rest at) (ne_eqb (slot_base x.slot) at other)) ∙ is))
]

-- an object that isn't promoted has the slot that begins at the address
pub record IsWaiting (rows : List LargeRow) (a : ℕ) : Type 0 where
  pub row : LargeRow
  pub found : row_at rows a ≡ Some row
  pub is_in : Contains rows row
  pub waits_is : waits row ≡ true
  pub at_is : slot_base row.slot ≡ a

pub waiting-row : (rows : List LargeRow) (a : ℕ) → waits_in (row_at rows a) ≡ true → IsWaiting rows a
waiting-row rows a is = by (row_at rows a) refl is
  where
    by : (o : Option LargeRow) → row_at rows a ≡ o → waits_in o ≡ true → IsWaiting rows a
    by None e none = absurd (true≢false (sym none))
    by (Some row) e waiting = record { row = row; found = e; is_in = row-in rows a row e; waits_is = waiting; at_is = row-spot rows a row e }

pub mortal-cases : (rows : List LargeRow) (a : ℕ) → is_mortal rows a ≡ true → (in_regions a ≡ true) ⊎ IsWaiting rows a
mortal-cases rows a is = elim (or_cases (in_regions a) (waits_in (row_at rows a)) is) [ inl young ↦ inl young | inr large ↦ inr (waiting-row rows a large) ]

rest-true : (a b : Bool) → (a || true || b) ≡ true
rest-true true b = refl
rest-true false b = refl

last-true : (a b : Bool) → (a || b || true) ≡ true
last-true true true = refl
last-true true false = refl
last-true false true = refl
last-true false false = refl

-- OBJECTS

module _ (h : HeapState) (m : Memory) (t : ℕ) (raws : Raws) (can : CanCollect h m t raws) where
  pub reached-has : (a : ℕ) → IsReached h raws a → (raws.has a ≡ true) × (is_mortal h.rows a ≡ true)
  reached-has a r = and_parts (raws.has a) (is_mortal h.rows a) (reached-node h.classes h.rows raws (starts_of h.roots h.slots) a r)

  -- a page of an object that isn't immune
  pub record IsFreePage (p : ℕ) : Type 0 where
    pub alone : HasOneSharer m t p
    pub may : (is_in Regions p || list_any (holds_page p) (filter waits h.rows)) ≡ true

  pub young-page : (a i : ℕ) → raws.has a ≡ true → in_regions a ≡ true → i < raw_size h.classes raws a → IsFreePage (page_of (a + i))
  young-page a i has young less =
      let object = can.held.rows a has young in
      let rows : List Row = filled (lists_of h.regions) in
      let within = λ (row : Row). row.region < h.regions.count in
      let lies = lies-in (Both IsFilled within) rows a (raw_size h.classes raws a) (all-both IsFilled within rows can.held.space.filled (filled-within (lists_of h.regions) can.held.space)) object.there in
      let most = lies.holds.one.most in
      let region = lies.holds.two in
      let few = can.held.space.few in
      let low = lies.from in
      let high = lies.to in
      record {
        alone = can.held.alone (page_of (a + i)) (any-holds rows a (raw_size h.classes raws a) i object.there less);
        may = or_left (is_in Regions (page_of (a + i))) (list_any (holds_page (page_of (a + i))) (filter waits h.rows)) (inside 262144 327680 (page_of (a + i)) (omega (arith, low)) (omega (arith, high, less, most, region, few)));
      }

  pub waiting-page : (a i : ℕ) → IsWaiting h.rows a → i < raw_size h.classes raws a → IsFreePage (page_of (a + i))
  waiting-page a i it less =
      let row : LargeRow = it.row in
      let size : raw_size h.classes raws (slot_base row.slot) ≡ (row.bytes + 7) / 8 * 8 = (can.large.has row it.is_in).1 in
      let bound : i < (row.bytes + 7) / 8 * 8 = subst (λ (n : ℕ). i < n) (ap (raw_size h.classes raws) (sym it.at_is) ∙ size) less in
      let p : ℕ = page_of (a + i) in
      let low : page_of (slot_base row.slot) ≤ p = omega (arith, it.at_is) in
      let high : p ≤ page_of (slot_base row.slot + (row.bytes + 7) / 8 * 8 - 1) = omega (arith, it.at_is, bound) in
      let holds : holds_page p row ≡ true = row-covers row p (all-at (λ (r : LargeRow). IsBytes r.bytes) h.rows row can.large.rows.bytes it.is_in) ∙ and_from (nat_le (page_of (slot_base row.slot)) p) (nat_le p (page_of (slot_base row.slot + (row.bytes + 7) / 8 * 8 - 1))) (le-leb (page_of (slot_base row.slot)) p low) (le-leb p (page_of (slot_base row.slot + (row.bytes + 7) / 8 * 8 - 1)) high) in
      let any : list_any (holds_page p) (filter waits h.rows) ≡ true = any-of (holds_page p) (filter waits h.rows) row (filter-in waits h.rows row it.is_in it.waits_is) holds in
      record { alone = can.large.alone p any; may = or_right (is_in Regions p) (list_any (holds_page p) (filter waits h.rows)) any }

  pub mortal-page : (a i : ℕ) → raws.has a ≡ true → is_mortal h.rows a ≡ true → i < raw_size h.classes raws a → IsFreePage (page_of (a + i))
  mortal-page a i has mortal less = elim (mortal-cases h.rows a mortal) [ inl young ↦ young-page a i has young less | inr large ↦ waiting-page a i large less ]

  pub may-young : (p : ℕ) → is_in Regions p ≡ true → may_change h p ≡ true
  may-young p is = ap (λ (b : Bool). b || list_any (holds_page p) (filter waits h.rows) || list_any (λ (slot : Slot). nat_eq (page_of slot.at.0) p) h.slots) is

  pub may-large : (p : ℕ) → list_any (holds_page p) (filter waits h.rows) ≡ true → may_change h p ≡ true
  may-large p is = ap (λ (b : Bool). is_in Regions p || b || list_any (λ (slot : Slot). nat_eq (page_of slot.at.0) p) h.slots) is ∙ rest-true (is_in Regions p) _

  pub may-slot : (p : ℕ) → list_any (λ (slot : Slot). nat_eq (page_of slot.at.0) p) h.slots ≡ true → may_change h p ≡ true
  may-slot p is = ap (λ (b : Bool). is_in Regions p || list_any (holds_page p) (filter waits h.rows) || b) is ∙ last-true (is_in Regions p) (list_any (holds_page p) (filter waits h.rows))

  -- such a page may change
  pub free-may : (p : ℕ) → IsFreePage p → may_change h p ≡ true
  free-may p it = elim (or_cases (is_in Regions p) (list_any (holds_page p) (filter waits h.rows)) it.may) [
    | inl young ↦ may-young p young
    | inr large ↦ may-large p large
  ]

  -- a reference lies in its object
  pub reference-within : (a : ℕ) (p : FieldAt) → IsIn p (places_of h.classes (raws.raw a).shape) → p.kind ≡ Ref → (8 ≤ p.offset) × (p.offset + 4 ≤ raw_size h.classes raws a)
  reference-within a p there kind =
      let within = place-within h.classes (raws.raw a).shape Ref p.offset p (record { is_in = there; kind_is = kind; offset_is = refl }) in
      let bounds = size-bounds h.classes (raws.raw a).shape in
      (omega (arith, within.0, bounds.2), within.2)
