use Rattle.std.proofs.Common.{◌≡◌, ◌≢◌, ◌∙◌, ◌<◌, ℕ, List, [], ◌∷◌, length, All, nat_eq, ap, sym, subst, arith}
use Rattle.std.proofs.lemmas.List.{with_items_is}
use Rattle.std.proofs.lemmas.List.Elements.{All-head}
use Rattle.std.specs.List.{IsDistinct}
use Rattle.std.specs.Vec.{with_items}
use Rattle.region_lists.specs.declared.chains.Chain.{Chain}
use Rattle.region_lists.specs.declared.chains.Entry.{Entry}
use Rattle.region_lists.specs.Chains.{AreChained, Relinks, chain_of, shown}
use Rattle.region_lists.proofs.ChainLemmas.{apart-head, length-chain}
use Rattle.region_lists.proofs.MoveLemmas.{AreApart, alone-apart, chain-relinked, counted, first-apart, freed-moved, from-distinct, from-free, from-within, in_use-from}
use Rattle.region_lists.proofs.RowLemmas.{freed-shown, lists-are}
use Rattle.region_lists.proofs.lists.RegionLists.free_first.Goals as goal

-- the lists that stay where a from region is linked to the free ones
in_use-stays : (es new : List Entry) (a b c b' : Chain) (k : ℕ) → AreChained es a b c → chain_of es b ≡ k ∷ chain_of es b' → Relinks es new (k ∷ []) → chain_of new a ≡ chain_of es a
in_use-stays es new a b c b' k are pops relinks =
    let apart = All-head (λ m. All (λ n. n ≢ m) (chain_of es a)) k (chain_of es b') (subst (AreApart (chain_of es a)) pops (in_use-from es a b c are)) in
    chain-relinked es new (k ∷ []) a.first a.count relinks (alone-apart k (chain_of es a) apart)

from-stays : (es new : List Entry) (a b c b' : Chain) (k : ℕ) → AreChained es a b c → chain_of es b ≡ k ∷ chain_of es b' → Relinks es new (k ∷ []) → chain_of new b' ≡ chain_of es b'
from-stays es new a b c b' k are pops relinks =
    let apart = apart-head k (chain_of es b') (subst (IsDistinct nat_eq) pops (from-distinct es a b c are)) in
    chain-relinked es new (k ∷ []) b'.first b'.count relinks (alone-apart k (chain_of es b') apart)

pub pop-region-requires-clause-within : goal.pop-region-requires-clause-within
pop-region-requires-clause-within c =
    let s = c.self.inside in
    rw c.deref.ensures.value (from-within s.entries.items s.in_use s.from s.free c.self.invariant)

pub push-requires-clause-within : goal.push-requires-clause-within
push-requires-clause-within c =
    let s = c.self.inside in
    let es = s.entries.items in
    let pops = rw c.deref.ensures.value at c.pop-region.ensures.chain in
    rw c.deref_mut.ensures.value
    (All-head (λ n. n < length es) c.pop-region.result (chain_of es c.pop-region.new.self) (subst (All (λ n. n < length es)) pops (from-within es s.in_use s.from s.free c.self.invariant)))

pub push-requires-clause-apart : goal.push-requires-clause-apart
push-requires-clause-apart c =
    let s = c.self.inside in
    let es = s.entries.items in
    let pops = rw c.deref.ensures.value at c.pop-region.ensures.chain in
    rw c.deref_mut.ensures.value
    (first-apart c.pop-region.result (chain_of es c.pop-region.new.self) (chain_of es s.free) (subst (λ ks. AreApart ks (chain_of es s.free)) pops (from-free es s.in_use s.from s.free c.self.invariant)))

pub push-requires-clause-few : goal.push-requires-clause-few
push-requires-clause-few c =
    let s = c.self.inside in
    let es = s.entries.items in
    let pops = rw c.deref.ensures.value at c.pop-region.ensures.chain in
    omega (arith, counted es s.in_use s.from s.free c.self.invariant, c.self.invariant.few, ap length pops, length-chain es s.from.first s.from.count)

pub invariant_of-self : goal.invariant_of-self
invariant_of-self c =
    let s = c.self.inside in
    let es = s.entries.items in
    let new = c.push.new.entries in
    let k = c.pop-region.result in
    let from = c.pop-region.new.self in
    let pops = rw c.deref.ensures.value at c.pop-region.ensures.chain in
    let pushes = rw c.deref_mut.ensures.value at c.push.ensures.chain in
    let relinks = rw c.deref_mut.ensures.value at c.push.ensures.relinks in
    let whole = with_items_is s.entries new (relinks.count ∙ sym s.entries.ok.0) in
    subst (λ (it : List Entry). AreChained it s.in_use from c.push.new.self) (sym whole)
    (freed-moved es new s.in_use s.from s.free from c.push.new.self k c.self.invariant pops c.pop-region.ensures.last pushes
    (in_use-stays es new s.in_use s.from s.free from k c.self.invariant pops relinks) (from-stays es new s.in_use s.from s.free from k c.self.invariant pops relinks) relinks.count)

pub returns-clause-frees : goal.returns-clause-frees
returns-clause-frees c = λ row rest is.
    let s = c.self.inside in
    let es = s.entries.items in
    let new = c.push.new.entries in
    let k = c.pop-region.result in
    let from = c.pop-region.new.self in
    let old = c.args.self.now in
    let pops = rw c.deref.ensures.value at c.pop-region.ensures.chain in
    let pushes = rw c.deref_mut.ensures.value at c.push.ensures.chain in
    let relinks = rw c.deref_mut.ensures.value at c.push.ensures.relinks in
    let whole = with_items_is s.entries new (relinks.count ∙ sym s.entries.ok.0) in
    subst (λ (it : List Entry). shown it s.in_use from c.push.new.self ≡ record old { from = rest; free = row.region ∷ old.free }) (sym whole)
    (freed-shown es new s.in_use s.from s.free from c.push.new.self k old c.self.view_is relinks pops pushes
    (in_use-stays es new s.in_use s.from s.free from k c.self.invariant pops relinks) (from-stays es new s.in_use s.from s.free from k c.self.invariant pops relinks) row rest is)

pub returns-clause-lists : goal.returns-clause-lists
returns-clause-lists c =
    let s = c.self.inside in
    lists-are (with_items s.entries c.push.new.entries).items s.in_use c.pop-region.new.self c.push.new.self (invariant_of-self c)
