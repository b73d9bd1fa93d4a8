use Rattle.std.proofs.Common.{◌≡◌, ◌∙◌, ◌<◌, ℕ, List, [], ◌∷◌, ◌++◌, length, set, All, nat_eq, ap, sym, subst, arith}
use Rattle.std.proofs.lemmas.List.{get_or_read, length-set, with_items_is}
use Rattle.std.specs.List.{IsDistinct}
use Rattle.std.specs.Vec.{with_item, with_items}
use Rattle.region_lists.specs.declared.chains.Entry.{Entry}
use Rattle.region_lists.specs.Chains.{AreChained, EndsAt, chain_of, no_entry, rows_of}
use Rattle.region_lists.specs.Rows.{Lists}
use Rattle.region_lists.proofs.ChainLemmas.{length-chain}
use Rattle.region_lists.proofs.MoveLemmas.{counted, filled-stays, free-within, in_use-distinct, in_use-within}
use Rattle.region_lists.proofs.OpenLemmas.{IsOpened, opened-chained, opened-count, opened-free, opened-from_rows, opened-rows, taken-within}
use Rattle.region_lists.proofs.RowLemmas.{lists-are}
use Rattle.region_lists.proofs.lists.RegionLists.open.Goals as goal

pub pop-region-requires-clause-within : goal.pop-region-requires-clause-within
pop-region-requires-clause-within c =
    let s = c.self.inside in
    rw c.deref.ensures.value (free-within s.entries.items s.in_use s.from s.free c.self.invariant)

pub index_mut-requires : goal.index_mut-requires
index_mut-requires c =
    let s = c.self.inside in
    let es = s.entries.items in
    let k = c.pop-region.result in
    let free = c.pop-region.new.self in
    let pops = rw c.deref.ensures.value at c.pop-region.ensures.chain in
    let within = taken-within es s.in_use s.from s.free free k c.self.invariant pops in
    omega (arith, within, s.entries.ok.0)

pub append-requires-clause-apart : goal.append-requires-clause-apart
append-requires-clause-apart c =
    let s = c.self.inside in
    let es = s.entries.items in
    let k = c.pop-region.result in
    let free = c.pop-region.new.self in
    let pops = rw c.deref.ensures.value at c.pop-region.ensures.chain in
    let within = taken-within es s.in_use s.from s.free free k c.self.invariant pops in
    let read = get_or_read es k c.index_mut.result.now within c.index_mut.ensures.value no_entry in
    let e : Entry = record { next = c.index_mut.result.now.next; fill = c.args.fill } in
    let next = ap (λ (it : Entry). it.next) read in
    let stays = filled-stays es s.in_use k e within next in
    rw c.deref_mut.ensures.value (subst (IsDistinct nat_eq) (sym stays) (in_use-distinct es s.in_use s.from s.free c.self.invariant))

pub append-requires-clause-within : goal.append-requires-clause-within
append-requires-clause-within c =
    let s = c.self.inside in
    let es = s.entries.items in
    let k = c.pop-region.result in
    let free = c.pop-region.new.self in
    let pops = rw c.deref.ensures.value at c.pop-region.ensures.chain in
    let within = taken-within es s.in_use s.from s.free free k c.self.invariant pops in
    let read = get_or_read es k c.index_mut.result.now within c.index_mut.ensures.value no_entry in
    let e : Entry = record { next = c.index_mut.result.now.next; fill = c.args.fill } in
    let next = ap (λ (it : Entry). it.next) read in
    let stays = filled-stays es s.in_use k e within next in
    rw c.deref_mut.ensures.value
    (subst (λ (n : ℕ). All (λ m. m < n) (chain_of (set es k e) s.in_use)) (sym (length-set es k e)) (subst (All (λ n. n < length es)) (sym stays) (in_use-within es s.in_use s.from s.free c.self.invariant)))

pub append-requires-clause-ends : goal.append-requires-clause-ends
append-requires-clause-ends c =
    let s = c.self.inside in
    let es = s.entries.items in
    let k = c.pop-region.result in
    let free = c.pop-region.new.self in
    let pops = rw c.deref.ensures.value at c.pop-region.ensures.chain in
    let within = taken-within es s.in_use s.from s.free free k c.self.invariant pops in
    let read = get_or_read es k c.index_mut.result.now within c.index_mut.ensures.value no_entry in
    let e : Entry = record { next = c.index_mut.result.now.next; fill = c.args.fill } in
    let next = ap (λ (it : Entry). it.next) read in
    let stays = filled-stays es s.in_use k e within next in
    rw c.deref_mut.ensures.value (subst (λ ks. EndsAt ks s.in_use.last) (sym stays) c.self.invariant.in_use_ends)

pub append-requires-clause-few : goal.append-requires-clause-few
append-requires-clause-few c =
    let s = c.self.inside in
    let es = s.entries.items in
    let k = c.pop-region.result in
    let free = c.pop-region.new.self in
    let pops = rw c.deref.ensures.value at c.pop-region.ensures.chain in
    let within = taken-within es s.in_use s.from s.free free k c.self.invariant pops in
    omega (arith, counted es s.in_use s.from s.free c.self.invariant, c.self.invariant.few, ap length pops, length-chain es s.free.first s.free.count)

pub invariant_of-self : goal.invariant_of-self
invariant_of-self c =
    let s = c.self.inside in
    let es = s.entries.items in
    let k = c.pop-region.result in
    let free = c.pop-region.new.self in
    let pops = rw c.deref.ensures.value at c.pop-region.ensures.chain in
    let within = taken-within es s.in_use s.from s.free free k c.self.invariant pops in
    let new = c.append.new.entries in
    let in_use = c.append.new.self in
    let read = get_or_read es k c.index_mut.result.now within c.index_mut.ensures.value no_entry in
    let e : Entry = record { next = c.index_mut.result.now.next; fill = c.args.fill } in
    let opened : IsOpened es new s.in_use s.from s.free in_use free k e = record {
      are = c.self.invariant;
      pops = pops;
      next = ap (λ (it : Entry). it.next) read;
      appends = rw c.deref_mut.ensures.value at c.append.ensures.chain;
      last = c.append.ensures.last;
      relinks = rw c.deref_mut.ensures.value at c.append.ensures.relinks;
    } in
    let count = opened-count es new s.in_use s.from s.free in_use free k e opened in
    let whole = with_items_is (with_item s.entries k e) new (count ∙ sym s.entries.ok.0) in
    subst (λ (it : List Entry). AreChained it in_use s.from free) (sym whole) (opened-chained es new s.in_use s.from s.free in_use free k e opened)

pub returns-clause-free : goal.returns-clause-free
returns-clause-free c =
    let s = c.self.inside in
    let es = s.entries.items in
    let k = c.pop-region.result in
    let free = c.pop-region.new.self in
    let pops = rw c.deref.ensures.value at c.pop-region.ensures.chain in
    let within = taken-within es s.in_use s.from s.free free k c.self.invariant pops in
    let new = c.append.new.entries in
    let in_use = c.append.new.self in
    let read = get_or_read es k c.index_mut.result.now within c.index_mut.ensures.value no_entry in
    let e : Entry = record { next = c.index_mut.result.now.next; fill = c.args.fill } in
    let opened : IsOpened es new s.in_use s.from s.free in_use free k e = record {
      are = c.self.invariant;
      pops = pops;
      next = ap (λ (it : Entry). it.next) read;
      appends = rw c.deref_mut.ensures.value at c.append.ensures.chain;
      last = c.append.ensures.last;
      relinks = rw c.deref_mut.ensures.value at c.append.ensures.relinks;
    } in
    let count = opened-count es new s.in_use s.from s.free in_use free k e opened in
    let whole = with_items_is (with_item s.entries k e) new (count ∙ sym s.entries.ok.0) in
    subst (λ (it : List Entry). c.args.self.now.free ≡ k ∷ chain_of it free) (sym whole)
    (sym (ap (λ (it : Lists). it.free) c.self.view_is) ∙ pops ∙ ap (λ ks. k ∷ ks) (sym (opened-free es new s.in_use s.from s.free in_use free k e opened)))

pub returns-clause-in_use : goal.returns-clause-in_use
returns-clause-in_use c =
    let s = c.self.inside in
    let es = s.entries.items in
    let k = c.pop-region.result in
    let free = c.pop-region.new.self in
    let pops = rw c.deref.ensures.value at c.pop-region.ensures.chain in
    let within = taken-within es s.in_use s.from s.free free k c.self.invariant pops in
    let new = c.append.new.entries in
    let in_use = c.append.new.self in
    let read = get_or_read es k c.index_mut.result.now within c.index_mut.ensures.value no_entry in
    let e : Entry = record { next = c.index_mut.result.now.next; fill = c.args.fill } in
    let opened : IsOpened es new s.in_use s.from s.free in_use free k e = record {
      are = c.self.invariant;
      pops = pops;
      next = ap (λ (it : Entry). it.next) read;
      appends = rw c.deref_mut.ensures.value at c.append.ensures.chain;
      last = c.append.ensures.last;
      relinks = rw c.deref_mut.ensures.value at c.append.ensures.relinks;
    } in
    let count = opened-count es new s.in_use s.from s.free in_use free k e opened in
    let whole = with_items_is (with_item s.entries k e) new (count ∙ sym s.entries.ok.0) in
    subst (λ (it : List Entry). rows_of it (chain_of it in_use) ≡ c.args.self.now.in_use ++ record { region = k; fill = c.args.fill } ∷ []) (sym whole)
    (opened-rows es new s.in_use s.from s.free in_use free k e opened ∙ ap (λ (it : Lists). it.in_use ++ record { region = k; fill = c.args.fill } ∷ []) c.self.view_is)

pub returns-clause-rest : goal.returns-clause-rest
returns-clause-rest c =
    let s = c.self.inside in
    let es = s.entries.items in
    let k = c.pop-region.result in
    let free = c.pop-region.new.self in
    let pops = rw c.deref.ensures.value at c.pop-region.ensures.chain in
    let within = taken-within es s.in_use s.from s.free free k c.self.invariant pops in
    let new = c.append.new.entries in
    let in_use = c.append.new.self in
    let read = get_or_read es k c.index_mut.result.now within c.index_mut.ensures.value no_entry in
    let e : Entry = record { next = c.index_mut.result.now.next; fill = c.args.fill } in
    let opened : IsOpened es new s.in_use s.from s.free in_use free k e = record {
      are = c.self.invariant;
      pops = pops;
      next = ap (λ (it : Entry). it.next) read;
      appends = rw c.deref_mut.ensures.value at c.append.ensures.chain;
      last = c.append.ensures.last;
      relinks = rw c.deref_mut.ensures.value at c.append.ensures.relinks;
    } in
    let count = opened-count es new s.in_use s.from s.free in_use free k e opened in
    let whole = with_items_is (with_item s.entries k e) new (count ∙ sym s.entries.ok.0) in
    subst (λ (it : List Entry). (rows_of it (chain_of it s.from) ≡ c.args.self.now.from) × (length it ≡ c.args.self.now.count)) (sym whole)
    (opened-from_rows es new s.in_use s.from s.free in_use free k e opened ∙ ap (λ (it : Lists). it.from) c.self.view_is, count ∙ ap (λ (it : Lists). it.count) c.self.view_is)

pub returns-clause-lists : goal.returns-clause-lists
returns-clause-lists c =
    let s = c.self.inside in
    let e : Entry = record { next = c.index_mut.result.now.next; fill = c.args.fill } in
    lists-are (with_items (with_item s.entries c.pop-region.result e) c.append.new.entries).items c.append.new.self s.from c.pop-region.new.self (invariant_of-self c)
