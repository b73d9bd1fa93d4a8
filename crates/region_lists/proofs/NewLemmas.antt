-- A table in which each entry is linked to the next one.
use Rattle.std.proofs.Common.{◌≡◌, ◌∙◌, ℕ, zero, suc, ◌+◌, ◌<◌, ◌≤◌, ◌^◌, List, [], ◌∷◌, ◌++◌, length, All, nat_eq, false, sym, ap, subst, arith}
use Rattle.std.proofs.lemmas.Bool.{ne_eqb}
use Rattle.std.proofs.lemmas.List.Elements.{All-cons, All-nil, All-weaker, recursion_from_All}
use Rattle.std.proofs.lemmas.Map.Keys.{IsDistinct-cons}
use Rattle.std.specs.List.{IsDistinct}
use Rattle.region_lists.specs.declared.chains.Chain.{Chain}
use Rattle.region_lists.specs.declared.chains.Entry.{Entry}
use Rattle.region_lists.specs.Chains.{AreChained, EndsAt, chain_from, chain_of, chained, next_in}
use Rattle.region_lists.proofs.ChainLemmas.{length-chain}

abbrev AreLinked : List Entry → ℕ → Type 0
AreLinked es m = (k : ℕ) → k < m → next_in es k ≡ k + 1

rises : (es : List Entry) (m at n : ℕ) → AreLinked es m → at + n ≤ m → All (λ k. at ≤ k) (chain_from es at n)
rises es m at zero links fits = All-nil (λ k. at ≤ k)
rises es m at (suc n) links fits =
    let here : at < m = omega (arith, fits) in
    All-cons (λ k. at ≤ k) at (chain_from es (next_in es at) n) (omega arith)
    (subst (λ (next : ℕ). All (λ k. at ≤ k) (chain_from es next n)) (sym (links at here))
    (All-weaker (λ k. at + 1 ≤ k) (λ k. at ≤ k) (λ k above. omega (arith, above)) (chain_from es (at + 1) n) (rises es m (at + 1) n links (omega (arith, fits)))))

stays-below : (es : List Entry) (m at n : ℕ) → AreLinked es m → at + n ≤ m → All (λ k. k < m) (chain_from es at n)
stays-below es m at zero links fits = All-nil (λ k. k < m)
stays-below es m at (suc n) links fits =
    let here : at < m = omega (arith, fits) in
    All-cons (λ k. k < m) at (chain_from es (next_in es at) n) here
    (subst (λ (next : ℕ). All (λ k. k < m) (chain_from es next n)) (sym (links at here)) (stays-below es m (at + 1) n links (omega (arith, fits))))

differs : (es : List Entry) (m at n : ℕ) → AreLinked es m → at + n ≤ m → IsDistinct nat_eq (chain_from es at n)
unfolding IsDistinct
differs es m at zero links fits = tt
differs es m at (suc n) links fits =
    let here : at < m = omega (arith, fits) in
    let more : at + 1 + n ≤ m = omega (arith, fits) in
    subst (λ (next : ℕ). IsDistinct nat_eq (at ∷ chain_from es next n)) (sym (links at here))
    (IsDistinct-cons nat_eq at (chain_from es (at + 1) n)
    (recursion_from_All (λ k. nat_eq at k ≡ false) (chain_from es (at + 1) n)
    (All-weaker (λ k. at + 1 ≤ k) (λ k. nat_eq at k ≡ false) (λ k above. ne_eqb at k (λ same. omega (arith, above, same))) (chain_from es (at + 1) n) (rises es m (at + 1) n links more)))
    (differs es m (at + 1) n links more))

pub new-chained : (es : List Entry) (a b c : Chain) → a.count ≡ 0 → b.count ≡ 0 → c.first ≡ 0 → c.count ≡ length es → length es < 2 ^ 32 → AreLinked es (length es) → AreChained es a b c
new-chained es a b c none_a none_b first count few links =
    let left_a : chain_of es a ≡ [] = ap (chain_from es a.first) none_a in
    let left_b : chain_of es b ≡ [] = ap (chain_from es b.first) none_b in
    let same : chained es a b c ≡ chain_of es c = ap (λ ks. ks ++ chain_of es b ++ chain_of es c) left_a ∙ ap (λ ks. [] ++ ks ++ chain_of es c) left_b in
    let fits : c.first + c.count ≤ length es = omega (arith, first, count) in
    record {
      apart = subst (IsDistinct nat_eq) (sym same) (differs es (length es) c.first c.count links fits);
      within = subst (All (λ n. n < length es)) (sym same) (stays-below es (length es) c.first c.count links fits);
      all = ap length same ∙ length-chain es c.first c.count ∙ count;
      few = few;
      in_use_ends = subst (λ ks. EndsAt ks a.last) (sym left_a) tt;
      from_ends = subst (λ ks. EndsAt ks b.last) (sym left_b) tt;
    }
