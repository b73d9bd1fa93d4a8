-- What rows and lists of regions show of the table.
use Rattle.std.proofs.Common.{◌≡◌, ◌≢◌, ◌∙◌, ℕ, zero, suc, ◌<◌, Bool, List, [], ◌∷◌, ◌++◌, length, map, get_or, set, All, nat_eq, nat_lt, not, Some, None, IsTrue, refl, sym, ap, subst, inl, inr, arith}
use Rattle.std.specs.Prelude.{is_some, if◌then◌else◌}
use Rattle.std.proofs.lemmas.Bool.{cases_eq, lt-ltb, ne_eqb, false≢true}
use Rattle.std.proofs.lemmas.Cmp.{nat_eq_equiv}
use Rattle.std.proofs.lemmas.List.{length-map}
use Rattle.std.proofs.lemmas.List.Elements.{All-cons, All-head, All-nil, All-tail, All-weaker}
use Rattle.std.proofs.lemmas.Map.Keys.{IsDistinct-tail}
use Rattle.std.specs.List.{IsDistinct}
use Rattle.region_lists.specs.declared.chains.Chain.{Chain}
use Rattle.region_lists.specs.declared.chains.Entry.{Entry}
use Rattle.region_lists.specs.Chains.{AreChained, EndsAt, Relinks, chain_from, chain_of, chained, fill_in, next_in, row_in, rows_of, shown}
use Rattle.region_lists.specs.Rows.{IsLists, Lists, Row, first_of, last_of, numbers, row_behind, row_of, with_last}
use Rattle.region_lists.proofs.ChainLemmas.{apart-head, ends-holds, entry-set, fill-other, length-chain}

pub numbers-rows : (es : List Entry) (ns : List ℕ) → map (λ (row : Row). row.region) (rows_of es ns) ≡ ns
numbers-rows es [] = refl
numbers-rows es (n ∷ ns) = ap (λ ks. n ∷ ks) (numbers-rows es ns)

pub numbers-shown : (es : List Entry) (a b c : Chain) → numbers (shown es a b c) ≡ chained es a b c
numbers-shown es a b c =
    ap (λ ks. ks ++ map (λ (row : Row). row.region) (rows_of es (chain_of es b)) ++ chain_of es c) (numbers-rows es (chain_of es a))
    ∙ ap (λ ks. chain_of es a ++ ks ++ chain_of es c) (numbers-rows es (chain_of es b))

pub lists-are : (es : List Entry) (a b c : Chain) → AreChained es a b c → IsLists (shown es a b c)
lists-are es a b c are = record {
  apart = subst (IsDistinct nat_eq) (sym (numbers-shown es a b c)) are.apart;
  within = subst (All (λ n. n < length es)) (sym (numbers-shown es a b c)) are.within;
  all = ap length (numbers-shown es a b c) ∙ are.all;
}

pub length-rows : (es : List Entry) (at n : ℕ) → length (rows_of es (chain_from es at n)) ≡ n
length-rows es at n = length-map (chain_from es at n) (row_in es) ∙ length-chain es at n

-- rows stay where their fills stay
pub rows-same : (old new : List Entry) (ns : List ℕ) → All (λ k. fill_in new k ≡ fill_in old k) ns → rows_of new ns ≡ rows_of old ns
rows-same old new [] same = refl
rows-same old new (n ∷ ns) same =
    let one : row_in new n ≡ row_in old n = ap (λ k. record { region = n; fill = k }) (All-head (λ k. fill_in new k ≡ fill_in old k) n ns same) in
    let rest = rows-same old new ns (All-tail (λ k. fill_in new k ≡ fill_in old k) n ns same) in
    ap (λ row. row ∷ rows_of new ns) one ∙ ap (λ rows. row_in old n ∷ rows) rest

-- the list has no regions where it shows none
pub none-shown : (es : List Entry) (at n : ℕ) → rows_of es (chain_from es at n) ≡ [] → n ≡ 0
none-shown es at n none = sym (length-rows es at n) ∙ ap length none

pub last-row : (es : List Entry) (k : ℕ) (ks : List ℕ) (last : ℕ) → EndsAt (k ∷ ks) last → last_of (rows_of es (k ∷ ks)) ≡ Some (row_in es last)
last-row es k [] last ends = ap (λ n. Some (row_in es n)) ends
last-row es k (n ∷ ns) last ends = last-row es n ns last ends

-- the last row with another fill
pub last-filled : (old new : List Entry) (k : ℕ) (ks : List ℕ) (last fill : ℕ) → IsDistinct nat_eq (k ∷ ks) → EndsAt (k ∷ ks) last → fill_in new last ≡ fill
    → ((n : ℕ) → n ≢ last → fill_in new n ≡ fill_in old n) → rows_of new (k ∷ ks) ≡ with_last (rows_of old (k ∷ ks)) fill
last-filled old new k [] last fill apart ends is others = ap (λ n. record { region = k; fill = n } ∷ []) (ap (fill_in new) ends ∙ is)
last-filled old new k (n ∷ ns) last fill apart ends is others =
    let other : k ≢ last = λ same. ends-holds (λ m. m ≢ k) n ns last ends (apart-head k (n ∷ ns) apart) (sym same) in
    ap (λ m. record { region = k; fill = m } ∷ rows_of new (n ∷ ns)) (others k other)
    ∙ ap (λ rows. row_in old k ∷ rows) (last-filled old new n ns last fill (IsDistinct-tail nat_eq k (n ∷ ns) apart) ends is others)

-- what holds of all numbers holds of one that has a row
pub row-holds : (P : ℕ → Type 0) (es : List Entry) (ns : List ℕ) (region : ℕ) → IsTrue (is_some (row_of (rows_of es ns) region)) → All P ns → P region
row-holds P es [] region there all = absurd (false≢true there)
row-holds P es (n ∷ ns) region there all = elim (cases_eq n region) [
  | inl same ↦ subst P same (All-head P n ns all)
  | inr other ↦ row-holds P es ns region
      (subst (λ (b : Bool). IsTrue (is_some (if b then Some (row_in es n) else row_of (rows_of es ns) region))) (ne_eqb n region other) there)
      (All-tail P n ns all)
]

pub row-is : (es : List Entry) (ns : List ℕ) (region : ℕ) → IsTrue (is_some (row_of (rows_of es ns) region)) → row_of (rows_of es ns) region ≡ Some (row_in es region)
row-is es [] region there = absurd (false≢true there)
row-is es (n ∷ ns) region there = elim (cases_eq n region) [
  | inl same ↦
      subst (λ (k : ℕ). (if nat_eq n k then Some (row_in es n) else row_of (rows_of es ns) k) ≡ Some (row_in es k)) same
      (ap (λ (b : Bool). if b then Some (row_in es n) else row_of (rows_of es ns) n) (nat_eq_equiv.refl n))
  | inr other ↦
      ap (λ (b : Bool). if b then Some (row_in es n) else row_of (rows_of es ns) region) (ne_eqb n region other)
      ∙ row-is es ns region (subst (λ (b : Bool). IsTrue (is_some (if b then Some (row_in es n) else row_of (rows_of es ns) region))) (ne_eqb n region other) there)
]

-- the row behind that of a region is that of the region to which its own is linked
pub behind-is : (es : List Entry) (at n region last : ℕ) → IsDistinct nat_eq (chain_from es at n) → EndsAt (chain_from es at n) last
    → IsTrue (is_some (row_of (rows_of es (chain_from es at n)) region)) → region ≢ last → row_behind (rows_of es (chain_from es at n)) region ≡ Some (row_in es (next_in es region))
behind-is es at zero region last apart ends there other = absurd (false≢true there)
behind-is es at (suc zero) region last apart ends there other =
    absurd (other (row-holds (λ k. k ≡ at) es (at ∷ []) region there (All-cons (λ k. k ≡ at) at [] refl (All-nil (λ k. k ≡ at))) ∙ ends))
behind-is es at (suc (suc n)) region last apart ends there other =
    let next = next_in es at in
    let rest = chain_from es next (suc n) in
    elim (cases_eq at region) [
      | inl same ↦
          subst (λ (k : ℕ). (if nat_eq at k then first_of (rows_of es rest) else row_behind (rows_of es rest) k) ≡ Some (row_in es (next_in es k))) same
          (ap (λ (b : Bool). if b then first_of (rows_of es rest) else row_behind (rows_of es rest) at) (nat_eq_equiv.refl at))
      | inr apart_here ↦
          ap (λ (b : Bool). if b then first_of (rows_of es rest) else row_behind (rows_of es rest) region) (ne_eqb at region apart_here)
          ∙ behind-is es next (suc n) region last (IsDistinct-tail nat_eq at rest apart) ends
          (subst (λ (b : Bool). IsTrue (is_some (if b then Some (row_in es at) else row_of (rows_of es rest) region))) (ne_eqb at region apart_here) there) other
    ]

-- and the last one has none behind it
pub behind-last : (es : List Entry) (k : ℕ) (ks : List ℕ) (last : ℕ) → IsDistinct nat_eq (k ∷ ks) → EndsAt (k ∷ ks) last → row_behind (rows_of es (k ∷ ks)) last ≡ None
behind-last es k [] last apart ends =
    subst (λ (n : ℕ). row_behind (rows_of es (k ∷ [])) n ≡ None) ends (ap (λ (b : Bool). if b then None else None) (nat_eq_equiv.refl k))
behind-last es k (n ∷ ns) last apart ends =
    let other : k ≢ last = λ same. ends-holds (λ m. m ≢ k) n ns last ends (apart-head k (n ∷ ns) apart) (sym same) in
    ap (λ (b : Bool). if b then first_of (rows_of es (n ∷ ns)) else row_behind (rows_of es (n ∷ ns)) last) (ne_eqb k last other)
    ∙ behind-last es n ns last (IsDistinct-tail nat_eq k (n ∷ ns) apart) ends

-- the region to which one is linked that isn't the last
pub next-holds : (P : ℕ → Type 0) (es : List Entry) (at n region last : ℕ) → EndsAt (chain_from es at n) last
    → IsTrue (is_some (row_of (rows_of es (chain_from es at n)) region)) → region ≢ last → All P (chain_from es at n) → P (next_in es region)
next-holds P es at zero region last ends there other all = absurd (false≢true there)
next-holds P es at (suc zero) region last ends there other all =
    absurd (other (row-holds (λ k. k ≡ at) es (at ∷ []) region there (All-cons (λ k. k ≡ at) at [] refl (All-nil (λ k. k ≡ at))) ∙ ends))
next-holds P es at (suc (suc n)) region last ends there other all =
    let next = next_in es at in
    let rest = chain_from es next (suc n) in
    elim (cases_eq at region) [
      | inl same ↦ subst (λ (k : ℕ). P (next_in es k)) same (All-head P next (chain_from es (next_in es next) n) (All-tail P at rest all))
      | inr apart_here ↦ next-holds P es next (suc n) region last ends
          (subst (λ (b : Bool). IsTrue (is_some (if b then Some (row_in es at) else row_of (rows_of es rest) region))) (ne_eqb at region apart_here) there) other (All-tail P at rest all)
    ]

pub last-shown : (es : List Entry) (at n last : ℕ) → EndsAt (chain_from es at n) last → (if nat_lt 0 n then Some (row_in es last) else None) ≡ last_of (rows_of es (chain_from es at n))
last-shown es at zero last ends = refl
last-shown es at (suc n) last ends =
    let some : 0 < suc n = omega arith in
    ap (λ (b : Bool). if b then Some (row_in es last) else None) (lt-ltb 0 (suc n) some) ∙ sym (last-row es at (chain_from es (next_in es at) n) last ends)

pub behind-shown : (es : List Entry) (at n region last : ℕ) → IsDistinct nat_eq (chain_from es at n) → EndsAt (chain_from es at n) last
    → IsTrue (is_some (row_of (rows_of es (chain_from es at n)) region))
    → (if not (nat_eq region last) then Some (row_in es (next_in es region)) else None) ≡ row_behind (rows_of es (chain_from es at n)) region
behind-shown es at zero region last apart ends there = absurd (false≢true there)
behind-shown es at (suc n) region last apart ends there = elim (cases_eq region last) [
  | inl same ↦
      ap (λ (k : ℕ). if not (nat_eq k last) then Some (row_in es (next_in es k)) else None) same
      ∙ ap (λ (b : Bool). if not b then Some (row_in es (next_in es last)) else None) (nat_eq_equiv.refl last)
      ∙ sym (behind-last es at (chain_from es (next_in es at) n) last apart ends)
      ∙ sym (ap (row_behind (rows_of es (chain_from es at (suc n)))) same)
  | inr other ↦
      ap (λ (b : Bool). if not b then Some (row_in es (next_in es region)) else None) (ne_eqb region last other)
      ∙ sym (behind-is es at (suc n) region last apart ends there other)
]

pub same-lists : (in_use in_use' from from' : List Row) (free free' : List ℕ) (count count' : ℕ) → in_use ≡ in_use' → from ≡ from' → free ≡ free' → count ≡ count'
    → ◌≡◌ {A = Lists} (record { in_use = in_use; from = from; free = free; count = count }) (record { in_use = in_use'; from = from'; free = free'; count = count' })
same-lists in_use in_use' from from' free free' count count' p q r s = cc

-- the rows of a list of which the last region was filled anew
pub rows-filled : (es : List Entry) (at n last : ℕ) (e : Entry) → n ≢ 0 → last < length es → IsDistinct nat_eq (chain_from es at n) → EndsAt (chain_from es at n) last
    → rows_of (set es last e) (chain_from es at n) ≡ with_last (rows_of es (chain_from es at n)) e.fill
rows-filled es at zero last e some within apart ends = absurd (some refl)
rows-filled es at (suc n) last e some within apart ends =
    last-filled es (set es last e) at (chain_from es (next_in es at) n) last e.fill apart ends (ap (λ (it : Entry). it.fill) (entry-set es last e within)) (λ k other. fill-other es last k e other)

-- and those of a list that hasn't that region
pub rows-other : (es : List Entry) (ns : List ℕ) (i : ℕ) (e : Entry) → All (λ k. k ≢ i) ns → rows_of (set es i e) ns ≡ rows_of es ns
rows-other es ns i e apart = rows-same es (set es i e) ns (All-weaker (λ k. k ≢ i) (λ k. fill_in (set es i e) k ≡ fill_in es k) (λ k other. fill-other es i k e other) ns apart)

-- rows with the same links or not show the same fills
pub rows-relinked : (old new : List Entry) (ks ns : List ℕ) → Relinks old new ks → rows_of new ns ≡ rows_of old ns
rows-relinked old new ks ns relinks = rows-same old new ns (λ i d inside. relinks.fill (get_or ns i d))

-- what the lists show once the first from region is free
pub freed-shown : (es new : List Entry) (a b c b' c' : Chain) (k : ℕ) (s : Lists) → shown es a b c ≡ s → Relinks es new (k ∷ []) → chain_of es b ≡ k ∷ chain_of es b' → chain_of new c' ≡ k ∷ chain_of es c
    → chain_of new a ≡ chain_of es a → chain_of new b' ≡ chain_of es b' → (row : Row) (rest : List Row) → s.from ≡ row ∷ rest
    → shown new a b' c' ≡ record s { from = rest; free = row.region ∷ s.free }
freed-shown es new a b c b' c' k s is relinks pops pushes in_use_stays from_stays row rest from =
    let rows : row_in es k ∷ rows_of es (chain_of es b') ≡ row ∷ rest = ap (rows_of es) (sym pops) ∙ ap (λ (it : Lists). it.from) is ∙ from in
    let first : row_in es k ≡ row = cc in
    let others : rows_of es (chain_of es b') ≡ rest = cc in
    same-lists (rows_of new (chain_of new a)) s.in_use (rows_of new (chain_of new b')) rest (chain_of new c') (row.region ∷ s.free) (length new) s.count
    (ap (rows_of new) in_use_stays ∙ rows-relinked es new (k ∷ []) (chain_of es a) relinks ∙ ap (λ (it : Lists). it.in_use) is)
    (ap (rows_of new) from_stays ∙ rows-relinked es new (k ∷ []) (chain_of es b') relinks ∙ others)
    (pushes ∙ ap (λ (it : Row). it.region ∷ chain_of es c) first ∙ ap (λ (it : Lists). row.region ∷ it.free) is)
    (relinks.count ∙ ap (λ (it : Lists). it.count) is)
