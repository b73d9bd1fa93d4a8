-- Lists of numbers that are linked through a table.
use Rattle.std.proofs.Common.{◌≡◌, ◌≢◌, ◌∙◌, ℕ, zero, suc, ◌+◌, ◌-◌, ◌<◌, List, [], ◌∷◌, ◌++◌, length, All, false, set, nat_eq, refl, sym, ap, subst, inl, inr, arith, get_or-set_other, get_or-set_same}
use Rattle.std.proofs.lemmas.Bool.{cases_eq, eqb-false}
use Rattle.std.proofs.lemmas.List.{length-set}
use Rattle.std.proofs.lemmas.List.Elements.{All-from_recursion, All-head, All-tail, All-weaker}
use Rattle.std.proofs.lemmas.Map.Keys.{IsDistinct-head, IsDistinct-tail}
use Rattle.std.specs.List.{IsDistinct}
use Rattle.region_lists.specs.declared.chains.Entry.{Entry}
use Rattle.region_lists.specs.Chains.{EndsAt, Relinks, chain_from, entry_in, fill_in, next_in, no_entry}

pub length-chain : (es : List Entry) (at n : ℕ) → length (chain_from es at n) ≡ n
length-chain es at zero = refl
length-chain es at (suc n) = ap (λ k. suc k) (length-chain es (next_in es at) n)

pub chain-pop : (es : List Entry) (at n : ℕ) → 0 < n → chain_from es at n ≡ at ∷ chain_from es (next_in es at) (n - 1)
chain-pop es at zero some = absurd (omega (arith, some))
chain-pop es at (suc n) some = let less : n ≡ suc n - 1 = omega arith in ap (λ k. at ∷ chain_from es (next_in es at) k) less

-- a list stays where its links stay
pub chain-same : (old new : List Entry) (at n : ℕ) → All (λ k. next_in new k ≡ next_in old k) (chain_from old at n) → chain_from new at n ≡ chain_from old at n
chain-same old new at zero same = refl
chain-same old new at (suc n) same =
    let here = All-head (λ k. next_in new k ≡ next_in old k) at (chain_from old (next_in old at) n) same in
    let rest = All-tail (λ k. next_in new k ≡ next_in old k) at (chain_from old (next_in old at) n) same in
    ap (λ ks. at ∷ ks) (ap (λ k. chain_from new k n) here ∙ chain-same old new (next_in old at) n rest)

-- the first of numbers that differ is none of the others
pub apart-head : (k : ℕ) (ks : List ℕ) → IsDistinct nat_eq (k ∷ ks) → All (λ n. n ≢ k) ks
apart-head k ks apart =
    All-weaker (λ n. nat_eq k n ≡ false) (λ n. n ≢ k) (λ n no same. eqb-false k n no (sym same)) ks
    (All-from_recursion (λ n. nat_eq k n ≡ false) ks (IsDistinct-head nat_eq k ks apart))

pub ends-holds : (P : ℕ → Type 0) (k : ℕ) (ks : List ℕ) (last : ℕ) → EndsAt (k ∷ ks) last → All P (k ∷ ks) → P last
ends-holds P k [] last ends all = subst P ends (All-head P k [] all)
ends-holds P k (n ∷ ns) last ends all = ends-holds P n ns last ends (All-tail P k (n ∷ ns) all)

pub ends-push : (ks : List ℕ) (k : ℕ) → EndsAt (ks ++ k ∷ []) k
ends-push [] k = refl
ends-push (n ∷ []) k = refl
ends-push (n ∷ m ∷ ms) k = ends-push (m ∷ ms) k

-- a list with another region linked behind its last
pub chain-append : (old new : List Entry) (at n last region : ℕ) → 0 < n → IsDistinct nat_eq (chain_from old at n) → EndsAt (chain_from old at n) last
    → next_in new last ≡ region → ((k : ℕ) → k ≢ last → next_in new k ≡ next_in old k) → chain_from new at (suc n) ≡ chain_from old at n ++ region ∷ []
chain-append old new at zero last region some apart ends is others = absurd (omega (arith, some))
chain-append old new at (suc zero) last region some apart ends is others = ap (λ k. at ∷ k ∷ []) (ap (next_in new) ends ∙ is)
chain-append old new at (suc (suc n)) last region some apart ends is others =
    let next = next_in old at in
    let rest = chain_from old next (suc n) in
    let other : at ≢ last = λ same. ends-holds (λ k. k ≢ at) next (chain_from old (next_in old next) n) last ends (apart-head at rest apart) (sym same) in
    let more : 0 < suc n = omega arith in
    ap (λ ks. at ∷ ks) (ap (λ k. chain_from new k (suc (suc n))) (others at other)
    ∙ chain-append old new next (suc n) last region more (IsDistinct-tail nat_eq at rest apart) ends is others)

-- what a write to one entry leaves
pub entry-set : (es : List Entry) (i : ℕ) (e : Entry) → i < length es → entry_in (set es i e) i ≡ e
entry-set es i e within = get_or-set_same es i e no_entry within

pub entry-other : (es : List Entry) (i k : ℕ) (e : Entry) → k ≢ i → entry_in (set es i e) k ≡ entry_in es k
entry-other es i k e other = get_or-set_other es i k e no_entry other

pub next-other : (es : List Entry) (i k : ℕ) (e : Entry) → k ≢ i → next_in (set es i e) k ≡ next_in es k
next-other es i k e other = ap (λ (it : Entry). it.next) (entry-other es i k e other)

pub fill-other : (es : List Entry) (i k : ℕ) (e : Entry) → k ≢ i → fill_in (set es i e) k ≡ fill_in es k
fill-other es i k e other = ap (λ (it : Entry). it.fill) (entry-other es i k e other)

pub relinks-none : (es : List Entry) (ks : List ℕ) → Relinks es es ks
relinks-none es ks = record { count = refl; fill = λ k. refl; next = λ k none. refl }

pub relinks-one : (es : List Entry) (i : ℕ) (e : Entry) (ks : List ℕ) → i < length es → e.fill ≡ fill_in es i → ((k : ℕ) → All (λ n. n ≢ k) ks → k ≢ i) → Relinks es (set es i e) ks
relinks-one es i e ks within same others = record {
  count = length-set es i e;
  fill = λ k. elim (cases_eq k i) [
    | inl here ↦ ap (fill_in (set es i e)) here ∙ ap (λ (it : Entry). it.fill) (entry-set es i e within) ∙ same ∙ sym (ap (fill_in es) here)
    | inr other ↦ fill-other es i k e other
  ];
  next = λ k none. next-other es i k e (others k none);
}

-- a list with another region linked before its first
pub chain-push : (es : List Entry) (region first n : ℕ) (e : Entry) → region < length es → e.next ≡ first → All (λ k. k ≢ region) (chain_from es first n)
    → chain_from (set es region e) region (n + 1) ≡ region ∷ chain_from es first n
chain-push es region first n e within is apart =
    let more : n + 1 ≡ suc n = omega arith in
    let new = set es region e in
    ap (chain_from new region) more
    ∙ ap (λ ks. region ∷ ks) (ap (λ k. chain_from new k n) (ap (λ (it : Entry). it.next) (entry-set es region e within) ∙ is)
    ∙ chain-same es new first n (All-weaker (λ k. k ≢ region) (λ k. next_in new k ≡ next_in es k) (λ k other. next-other es region k e other) (chain_from es first n) apart))

pub chain-appended : (es : List Entry) (at n last region : ℕ) (e : Entry) → last < length es → n ≢ 0 → IsDistinct nat_eq (chain_from es at n) → EndsAt (chain_from es at n) last
    → e.next ≡ region → chain_from (set es last e) at (n + 1) ≡ chain_from es at n ++ region ∷ []
chain-appended es at n last region e within some apart ends is =
    let more : n + 1 ≡ suc n = omega arith in
    ap (chain_from (set es last e) at) more
    ∙ chain-append es (set es last e) at n last region (omega arith) apart ends (ap (λ (it : Entry). it.next) (entry-set es last e within) ∙ is) (λ k other. next-other es last k e other)

pub chain-holds : (P : ℕ → Type 0) (es : List Entry) (at n last : ℕ) → n ≢ 0 → EndsAt (chain_from es at n) last → All P (chain_from es at n) → P last
chain-holds P es at zero last some ends all = absurd (some refl)
chain-holds P es at (suc n) last some ends all = ends-holds P at (chain_from es (next_in es at) n) last ends all

pub ends-tail : (k : ℕ) (ks : List ℕ) (last : ℕ) → EndsAt (k ∷ ks) last → EndsAt ks last
ends-tail k [] last ends = tt
ends-tail k (n ∷ ns) last ends = ends
