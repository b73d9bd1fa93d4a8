-- The first free region, put behind those in use.
use Rattle.std.proofs.Common.{◌≡◌, ◌≢◌, ◌∙◌, ℕ, ◌<◌, List, [], ◌∷◌, ◌++◌, length, set, All, sym, ap, subst}
use Rattle.std.proofs.lemmas.List.{length-set, map-append}
use Rattle.std.proofs.lemmas.List.Elements.{All-head, All-tail}
use Rattle.region_lists.specs.declared.chains.Chain.{Chain}
use Rattle.region_lists.specs.declared.chains.Entry.{Entry}
use Rattle.region_lists.specs.Chains.{AreChained, Relinks, chain_of, next_in, row_in, rows_of}
use Rattle.region_lists.proofs.ChainLemmas.{entry-set}
use Rattle.region_lists.proofs.MoveLemmas.{AreApart, chain-relinked, filled-stays, free-within, from-free, in_use-free, in_use-from, opened-moved}
use Rattle.region_lists.proofs.RowLemmas.{rows-other, rows-relinked}

-- the region k was taken from the free ones, filled and linked behind those in use
pub record IsOpened (es new : List Entry) (a b c a' c' : Chain) (k : ℕ) (e : Entry) : Type 0 where
  pub are : AreChained es a b c
  pub pops : chain_of es c ≡ k ∷ chain_of es c'
  pub next : e.next ≡ next_in es k
  pub appends : chain_of new a' ≡ chain_of (set es k e) a ++ k ∷ []
  pub last : a'.last ≡ k
  pub relinks : Relinks (set es k e) new (chain_of (set es k e) a)

pub taken-within : (es : List Entry) (a b c c' : Chain) (k : ℕ) → AreChained es a b c → chain_of es c ≡ k ∷ chain_of es c' → k < length es
taken-within es a b c c' k are pops = All-head (λ n. n < length es) k (chain_of es c') (subst (All (λ n. n < length es)) pops (free-within es a b c are))

none-in_use : (es : List Entry) (a b c c' : Chain) (k : ℕ) → AreChained es a b c → chain_of es c ≡ k ∷ chain_of es c' → All (λ n. n ≢ k) (chain_of es a)
none-in_use es a b c c' k are pops = All-head (λ m. All (λ n. n ≢ m) (chain_of es a)) k (chain_of es c') (subst (AreApart (chain_of es a)) pops (in_use-free es a b c are))

none-from : (es : List Entry) (a b c c' : Chain) (k : ℕ) → AreChained es a b c → chain_of es c ≡ k ∷ chain_of es c' → All (λ n. n ≢ k) (chain_of es b)
none-from es a b c c' k are pops = All-head (λ m. All (λ n. n ≢ m) (chain_of es b)) k (chain_of es c') (subst (AreApart (chain_of es b)) pops (from-free es a b c are))

pub opened-in_use : (es new : List Entry) (a b c a' c' : Chain) (k : ℕ) (e : Entry) → IsOpened es new a b c a' c' k e → chain_of new a' ≡ chain_of es a ++ k ∷ []
opened-in_use es new a b c a' c' k e o = o.appends ∙ ap (λ ks. ks ++ k ∷ []) (filled-stays es a k e (taken-within es a b c c' k o.are o.pops) o.next)

pub opened-from : (es new : List Entry) (a b c a' c' : Chain) (k : ℕ) (e : Entry) → IsOpened es new a b c a' c' k e → chain_of new b ≡ chain_of es b
opened-from es new a b c a' c' k e o =
    let stays = λ (it : Chain). filled-stays es it k e (taken-within es a b c c' k o.are o.pops) o.next in
    chain-relinked (set es k e) new (chain_of (set es k e) a) b.first b.count o.relinks
    (subst (λ ks. AreApart ks (chain_of (set es k e) b)) (sym (stays a)) (subst (AreApart (chain_of es a)) (sym (stays b)) (in_use-from es a b c o.are)))
    ∙ stays b

pub opened-free : (es new : List Entry) (a b c a' c' : Chain) (k : ℕ) (e : Entry) → IsOpened es new a b c a' c' k e → chain_of new c' ≡ chain_of es c'
opened-free es new a b c a' c' k e o =
    let stays = λ (it : Chain). filled-stays es it k e (taken-within es a b c c' k o.are o.pops) o.next in
    let apart = All-tail (λ m. All (λ n. n ≢ m) (chain_of es a)) k (chain_of es c') (subst (AreApart (chain_of es a)) o.pops (in_use-free es a b c o.are)) in
    chain-relinked (set es k e) new (chain_of (set es k e) a) c'.first c'.count o.relinks
    (subst (λ ks. AreApart ks (chain_of (set es k e) c')) (sym (stays a)) (subst (AreApart (chain_of es a)) (sym (stays c')) apart))
    ∙ stays c'

pub opened-count : (es new : List Entry) (a b c a' c' : Chain) (k : ℕ) (e : Entry) → IsOpened es new a b c a' c' k e → length new ≡ length es
opened-count es new a b c a' c' k e o = o.relinks.count ∙ length-set es k e

pub opened-chained : (es new : List Entry) (a b c a' c' : Chain) (k : ℕ) (e : Entry) → IsOpened es new a b c a' c' k e → AreChained new a' b c'
opened-chained es new a b c a' c' k e o =
    opened-moved es new a b c a' c' k o.are o.pops (opened-in_use es new a b c a' c' k e o) (opened-from es new a b c a' c' k e o) (opened-free es new a b c a' c' k e o) o.last (opened-count es new a b c a' c' k e o)

pub opened-rows : (es new : List Entry) (a b c a' c' : Chain) (k : ℕ) (e : Entry) → IsOpened es new a b c a' c' k e
    → rows_of new (chain_of new a') ≡ rows_of es (chain_of es a) ++ record { region = k; fill = e.fill } ∷ []
opened-rows es new a b c a' c' k e o =
    let mid = set es k e in
    ap (rows_of new) (opened-in_use es new a b c a' c' k e o)
    ∙ rows-relinked mid new (chain_of mid a) (chain_of es a ++ k ∷ []) o.relinks
    ∙ map-append (row_in mid) (chain_of es a) (k ∷ [])
    ∙ ap (λ rows. rows ++ row_in mid k ∷ []) (rows-other es (chain_of es a) k e (none-in_use es a b c c' k o.are o.pops))
    ∙ ap (λ (it : Entry). rows_of es (chain_of es a) ++ record { region = k; fill = it.fill } ∷ []) (entry-set es k e (taken-within es a b c c' k o.are o.pops))

pub opened-from_rows : (es new : List Entry) (a b c a' c' : Chain) (k : ℕ) (e : Entry) → IsOpened es new a b c a' c' k e → rows_of new (chain_of new b) ≡ rows_of es (chain_of es b)
opened-from_rows es new a b c a' c' k e o =
    let mid = set es k e in
    ap (rows_of new) (opened-from es new a b c a' c' k e o)
    ∙ rows-relinked mid new (chain_of mid a) (chain_of es b) o.relinks
    ∙ rows-other es (chain_of es b) k e (none-from es a b c c' k o.are o.pops)
