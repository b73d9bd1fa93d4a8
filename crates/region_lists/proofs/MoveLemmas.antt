-- Regions that move from one list to another.
use Rattle.std.proofs.Common.{◌≡◌, ◌≢◌, ◌∙◌, ℕ, zero, suc, ◌+◌, ◌<◌, List, [], ◌∷◌, ◌++◌, length, All, get_or, set, inl, inr, nat_eq, false, refl, sym, ap, subst, arith, append_assoc, length-append}
use Rattle.std.proofs.lemmas.Bool.{cases_eq}
use Rattle.std.proofs.lemmas.Cmp.{nat_eq_equiv}
use Rattle.std.proofs.lemmas.List.{append-nil, length-set}
use Rattle.std.proofs.lemmas.List.Elements.{All-cons, All-head, All-nil, All-tail, All-weaker}
use Rattle.std.proofs.lemmas.List.Sorted.{All-permutation, IsPermutation-middle, IsPermutation-refl, IsPermutation-sym, IsPermutation-trans, length_permutation}
use Rattle.std.proofs.lemmas.Map.Keys.{IsDistinct-IsPermutation, IsDistinct-head, IsDistinct-tail}
use Rattle.std.specs.List.{AllByRecursion, IsDistinct}
use Rattle.std.specs.List.Sorted.{IsPermutation}
use Rattle.region_lists.specs.declared.chains.Chain.{Chain}
use Rattle.region_lists.specs.declared.chains.Entry.{Entry}
use Rattle.region_lists.specs.Chains.{AreChained, EndsAt, Relinks, chain_from, chain_of, chained, next_in}
use Rattle.region_lists.proofs.ChainLemmas.{apart-head, chain-same, ends-push, ends-tail, entry-set, length-chain, next-other}

pub all-left : {X : Type 0} (P : X → Type 0) (xs ys : List X) → All P (xs ++ ys) → All P xs
all-left P [] ys all = All-nil P
all-left P (x ∷ xs) ys all = All-cons P x xs (All-head P x (xs ++ ys) all) (all-left P xs ys (All-tail P x (xs ++ ys) all))

pub all-right : {X : Type 0} (P : X → Type 0) (xs ys : List X) → All P (xs ++ ys) → All P ys
all-right P [] ys all = all
all-right P (x ∷ xs) ys all = all-right P xs ys (All-tail P x (xs ++ ys) all)

pub distinct-left : (xs ys : List ℕ) → IsDistinct nat_eq (xs ++ ys) → IsDistinct nat_eq xs
unfolding IsDistinct
distinct-left [] ys apart = tt
distinct-left (x ∷ xs) ys apart = (left xs (IsDistinct-head nat_eq x (xs ++ ys) apart), distinct-left xs ys (IsDistinct-tail nat_eq x (xs ++ ys) apart))
  where
    left : (ks : List ℕ) → AllByRecursion (λ y. nat_eq x y ≡ false) (ks ++ ys) → AllByRecursion (λ y. nat_eq x y ≡ false) ks
    left [] all = tt
    left (k ∷ ks) all = (all.0, left ks all.1)

pub distinct-right : (xs ys : List ℕ) → IsDistinct nat_eq (xs ++ ys) → IsDistinct nat_eq ys
distinct-right [] ys apart = apart
distinct-right (x ∷ xs) ys apart = distinct-right xs ys (IsDistinct-tail nat_eq x (xs ++ ys) apart)

-- none of the first list is one of the second
abbrev pub AreApart : List ℕ → List ℕ → Type 0
AreApart xs ys = All (λ k. All (λ n. n ≢ k) xs) ys

pub apart-parts : (xs ys : List ℕ) → IsDistinct nat_eq (xs ++ ys) → AreApart xs ys
apart-parts [] ys apart = λ i d within. All-nil (λ n. n ≢ get_or ys i d)
apart-parts (x ∷ xs) ys apart =
    let here = all-right (λ n. n ≢ x) xs ys (apart-head x (xs ++ ys) apart) in
    let rest = apart-parts xs ys (IsDistinct-tail nat_eq x (xs ++ ys) apart) in
    λ i d within. All-cons (λ n. n ≢ get_or ys i d) x xs (λ same. here i d within (sym same)) (rest i d within)

-- a list of which no link is another stays
pub chain-relinked : (old new : List Entry) (ks : List ℕ) (at n : ℕ) → Relinks old new ks → AreApart ks (chain_from old at n) → chain_from new at n ≡ chain_from old at n
chain-relinked old new ks at n relinks apart =
    chain-same old new at n (All-weaker (λ k. All (λ n. n ≢ k) ks) (λ k. next_in new k ≡ next_in old k) (λ k none. relinks.next k none) (chain_from old at n) apart)

pub from-same : (xs ys : List ℕ) → xs ≡ ys → IsPermutation xs ys
from-same xs ys same = subst (IsPermutation xs) same (IsPermutation-refl xs)

-- lists that have the same regions in another order
pub moved : (old new : List Entry) (a b c a' b' c' : Chain) → AreChained old a b c → IsPermutation (chained old a b c) (chained new a' b' c') → length new ≡ length old
    → EndsAt (chain_of new a') a'.last → EndsAt (chain_of new b') b'.last → AreChained new a' b' c'
moved old new a b c a' b' c' was moves count in_use_ends from_ends = record {
  apart = IsDistinct-IsPermutation nat_eq nat_eq_equiv.symm (chained old a b c) (chained new a' b' c') moves was.apart;
  within = subst (λ (k : ℕ). All (λ n. n < k) (chained new a' b' c')) (sym count) (All-permutation (λ n. n < length old) (chained old a b c) (chained new a' b' c') moves was.within);
  all = length_permutation (chained old a b c) (chained new a' b' c') moves ∙ was.all ∙ sym count;
  few = omega (arith, was.few, count);
  in_use_ends = in_use_ends;
  from_ends = from_ends;
}

-- the first free region moves behind those in use
pub opens : (a f r : List ℕ) (k : ℕ) → IsPermutation (a ++ f ++ k ∷ r) ((a ++ k ∷ []) ++ f ++ r)
opens a f r k =
    let is : (a ++ k ∷ []) ++ f ++ r ≡ a ++ k ∷ (f ++ r) = ap (λ ks. ks ++ r) (append_assoc a (k ∷ []) f) ∙ append_assoc a (k ∷ f) r in
    subst (IsPermutation (a ++ f ++ k ∷ r)) (sym is)
    (IsPermutation-trans (a ++ f ++ k ∷ r) (k ∷ (a ++ (f ++ r))) (a ++ k ∷ (f ++ r))
    (subst (λ ks. IsPermutation (a ++ f ++ k ∷ r) (k ∷ ks)) (append_assoc a f r) (IsPermutation-middle (a ++ f) k r))
    (IsPermutation-sym (a ++ k ∷ (f ++ r)) (k ∷ (a ++ (f ++ r))) (IsPermutation-middle a k (f ++ r))))

-- the first from region moves before the free ones
pub frees : (a f r : List ℕ) (k : ℕ) → IsPermutation (a ++ k ∷ f ++ r) (a ++ f ++ k ∷ r)
frees a f r k = subst (λ ks. IsPermutation ks (a ++ f ++ k ∷ r)) (sym (append_assoc a (k ∷ f) r))
    (IsPermutation-trans (a ++ k ∷ (f ++ r)) (k ∷ (a ++ (f ++ r))) (a ++ f ++ k ∷ r)
    (IsPermutation-middle a k (f ++ r))
    (subst (λ ks. IsPermutation (k ∷ ks) (a ++ f ++ k ∷ r)) (append_assoc a f r) (IsPermutation-sym (a ++ f ++ k ∷ r) (k ∷ (a ++ f ++ r)) (IsPermutation-middle (a ++ f) k r))))

-- the three lists, one by one
pub in_use-within : (es : List Entry) (a b c : Chain) → AreChained es a b c → All (λ n. n < length es) (chain_of es a)
in_use-within es a b c are = all-left (λ n. n < length es) (chain_of es a) (chain_of es b) (all-left (λ n. n < length es) (chain_of es a ++ chain_of es b) (chain_of es c) are.within)

pub from-within : (es : List Entry) (a b c : Chain) → AreChained es a b c → All (λ n. n < length es) (chain_of es b)
from-within es a b c are = all-right (λ n. n < length es) (chain_of es a) (chain_of es b) (all-left (λ n. n < length es) (chain_of es a ++ chain_of es b) (chain_of es c) are.within)

pub free-within : (es : List Entry) (a b c : Chain) → AreChained es a b c → All (λ n. n < length es) (chain_of es c)
free-within es a b c are = all-right (λ n. n < length es) (chain_of es a ++ chain_of es b) (chain_of es c) are.within

pub in_use-distinct : (es : List Entry) (a b c : Chain) → AreChained es a b c → IsDistinct nat_eq (chain_of es a)
in_use-distinct es a b c are = distinct-left (chain_of es a) (chain_of es b) (distinct-left (chain_of es a ++ chain_of es b) (chain_of es c) are.apart)

pub from-distinct : (es : List Entry) (a b c : Chain) → AreChained es a b c → IsDistinct nat_eq (chain_of es b)
from-distinct es a b c are = distinct-right (chain_of es a) (chain_of es b) (distinct-left (chain_of es a ++ chain_of es b) (chain_of es c) are.apart)

pub free-distinct : (es : List Entry) (a b c : Chain) → AreChained es a b c → IsDistinct nat_eq (chain_of es c)
free-distinct es a b c are = distinct-right (chain_of es a ++ chain_of es b) (chain_of es c) are.apart

pub in_use-from : (es : List Entry) (a b c : Chain) → AreChained es a b c → AreApart (chain_of es a) (chain_of es b)
in_use-from es a b c are = apart-parts (chain_of es a) (chain_of es b) (distinct-left (chain_of es a ++ chain_of es b) (chain_of es c) are.apart)

pub in_use-free : (es : List Entry) (a b c : Chain) → AreChained es a b c → AreApart (chain_of es a) (chain_of es c)
in_use-free es a b c are =
    let all = apart-parts (chain_of es a ++ chain_of es b) (chain_of es c) are.apart in
    λ i d within. all-left (λ n. n ≢ get_or (chain_of es c) i d) (chain_of es a) (chain_of es b) (all i d within)

pub from-free : (es : List Entry) (a b c : Chain) → AreChained es a b c → AreApart (chain_of es b) (chain_of es c)
from-free es a b c are =
    let all = apart-parts (chain_of es a ++ chain_of es b) (chain_of es c) are.apart in
    λ i d within. all-right (λ n. n ≢ get_or (chain_of es c) i d) (chain_of es a) (chain_of es b) (all i d within)

pub first-holds : (P : ℕ → Type 0) (es : List Entry) (at n : ℕ) → 0 < n → All P (chain_from es at n) → P at
first-holds P es at zero some all = absurd (omega (arith, some))
first-holds P es at (suc n) some all = All-head P at (chain_from es (next_in es at) n) all

-- a fill in an entry changes no link
pub filled-stays : (es : List Entry) (it : Chain) (i : ℕ) (e : Entry) → i < length es → e.next ≡ next_in es i → chain_of (set es i e) it ≡ chain_of es it
filled-stays es it i e within same =
    let new = set es i e in
    let links : (k : ℕ) → next_in new k ≡ next_in es k = λ k. elim (cases_eq k i) [
      | inl here ↦ ap (next_in new) here ∙ ap (λ (it : Entry). it.next) (entry-set es i e within) ∙ same ∙ sym (ap (next_in es) here)
      | inr other ↦ next-other es i k e other
    ] in
    chain-same es new it.first it.count (λ k d inside. links (get_or (chain_of es it) k d))

pub filled-moved : (es : List Entry) (a b c : Chain) (i : ℕ) (e : Entry) → AreChained es a b c → i < length es → e.next ≡ next_in es i → AreChained (set es i e) a b c
filled-moved es a b c i e are within same =
    let new = set es i e in
    let stays = λ (it : Chain). filled-stays es it i e within same in
    moved es new a b c a b c are
    (from-same (chained es a b c) (chained new a b c)
    (sym (ap (λ ks. ks ++ chain_of new b ++ chain_of new c) (stays a) ∙ ap (λ ks. chain_of es a ++ ks ++ chain_of new c) (stays b) ∙ ap (λ ks. chain_of es a ++ chain_of es b ++ ks) (stays c))))
    (length-set es i e) (subst (λ ks. EndsAt ks a.last) (sym (stays a)) are.in_use_ends) (subst (λ ks. EndsAt ks b.last) (sym (stays b)) are.from_ends)

-- the regions in use become the from regions
pub flipped-moved : (es : List Entry) (a b c e : Chain) → AreChained es a b c → b.count ≡ 0 → e.count ≡ 0 → AreChained es e a c
flipped-moved es a b c e are none empty =
    let nothing : chain_of es b ≡ [] = ap (chain_from es b.first) none in
    let left : chain_of es e ≡ [] = ap (chain_from es e.first) empty in
    moved es es a b c e a c are
    (from-same (chained es a b c) (chained es e a c)
    (ap (λ ks. chain_of es a ++ ks ++ chain_of es c) nothing ∙ ap (λ ks. ks ++ chain_of es c) (append-nil (chain_of es a)) ∙ sym (ap (λ ks. ks ++ chain_of es a ++ chain_of es c) left)))
    refl (subst (λ ks. EndsAt ks e.last) (sym left) tt) are.in_use_ends

-- the first free region goes behind those in use
pub opened-moved : (es new : List Entry) (a b c a' c' : Chain) (k : ℕ) → AreChained es a b c → chain_of es c ≡ k ∷ chain_of es c' → chain_of new a' ≡ chain_of es a ++ k ∷ []
    → chain_of new b ≡ chain_of es b → chain_of new c' ≡ chain_of es c' → a'.last ≡ k → length new ≡ length es → AreChained new a' b c'
opened-moved es new a b c a' c' k are pops appends from_stays free_stays last count =
    moved es new a b c a' b c' are
    (subst (λ ks. IsPermutation (chain_of es a ++ chain_of es b ++ ks) (chained new a' b c')) (sym pops)
    (subst (IsPermutation (chain_of es a ++ chain_of es b ++ k ∷ chain_of es c'))
    (sym (ap (λ ks. ks ++ chain_of new b ++ chain_of new c') appends ∙ ap (λ ks. (chain_of es a ++ k ∷ []) ++ ks ++ chain_of new c') from_stays ∙ ap (λ ks. (chain_of es a ++ k ∷ []) ++ chain_of es b ++ ks) free_stays))
    (opens (chain_of es a) (chain_of es b) (chain_of es c') k)))
    count
    (subst (λ ks. EndsAt ks a'.last) (sym appends) (subst (EndsAt (chain_of es a ++ k ∷ [])) (sym last) (ends-push (chain_of es a) k)))
    (subst (λ ks. EndsAt ks b.last) (sym from_stays) are.from_ends)

-- the first from region goes before the free ones
pub freed-moved : (es new : List Entry) (a b c b' c' : Chain) (k : ℕ) → AreChained es a b c → chain_of es b ≡ k ∷ chain_of es b' → b'.last ≡ b.last → chain_of new c' ≡ k ∷ chain_of es c
    → chain_of new a ≡ chain_of es a → chain_of new b' ≡ chain_of es b' → length new ≡ length es → AreChained new a b' c'
freed-moved es new a b c b' c' k are pops last pushes in_use_stays from_stays count =
    moved es new a b c a b' c' are
    (subst (λ ks. IsPermutation (chain_of es a ++ ks ++ chain_of es c) (chained new a b' c')) (sym pops)
    (subst (IsPermutation (chain_of es a ++ k ∷ chain_of es b' ++ chain_of es c))
    (sym (ap (λ ks. ks ++ chain_of new b' ++ chain_of new c') in_use_stays ∙ ap (λ ks. chain_of es a ++ ks ++ chain_of new c') from_stays ∙ ap (λ ks. chain_of es a ++ chain_of es b' ++ ks) pushes))
    (frees (chain_of es a) (chain_of es b') (chain_of es c) k)))
    count
    (subst (λ ks. EndsAt ks a.last) (sym in_use_stays) are.in_use_ends)
    (subst (λ ks. EndsAt ks b'.last) (sym from_stays) (subst (EndsAt (chain_of es b')) (sym last) (ends-tail k (chain_of es b') b.last (subst (λ ks. EndsAt ks b.last) pops are.from_ends))))

-- together the lists have as many regions as the table
pub counted : (es : List Entry) (a b c : Chain) → AreChained es a b c → a.count + b.count + c.count ≡ length es
counted es a b c are =
    omega (
      arith,
      are.all,
      length-append (chain_of es a ++ chain_of es b) (chain_of es c),
      length-append (chain_of es a) (chain_of es b),
      length-chain es a.first a.count,
      length-chain es b.first b.count,
      length-chain es c.first c.count,
    )

-- a region is none of a list where none of the list is the region
pub alone-apart : (k : ℕ) (ks : List ℕ) → All (λ n. n ≢ k) ks → AreApart (k ∷ []) ks
alone-apart k ks apart = λ i d inside. All-cons (λ n. n ≢ get_or ks i d) k [] (λ same. apart i d inside (sym same)) (All-nil (λ n. n ≢ get_or ks i d))

pub first-apart : (k : ℕ) (ks ms : List ℕ) → AreApart (k ∷ ks) ms → All (λ n. n ≢ k) ms
first-apart k ks ms apart = λ i d inside same. All-head (λ n. n ≢ get_or ms i d) k ks (apart i d inside) (sym same)
