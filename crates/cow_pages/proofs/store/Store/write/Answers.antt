use Rattle.std.proofs.Common.{◌≡◌, Some, IsTrue, sym, subst, arith}
use Rattle.cow_pages.specs.Memory.{is_mapped}
use Rattle.cow_pages.specs.Store.{shown, entry_at}
use Rattle.cow_pages.specs.Steps.{PutsBytes}
use Rattle.cow_pages.proofs.SoundLemmas.{entry_within}
use Rattle.cow_pages.proofs.MarkLemmas.{written_before}
use Rattle.cow_pages.proofs.store.Store.write.Goals as goal

pub mapped_entry-entry-requires : goal.mapped_entry-entry-requires
mapped_entry-entry-requires c = record { store = c.requires.store; mapped = subst (λ p. IsTrue (is_mapped (shown c.args.self.now) c.args.t p)) (sym c.page.ensures) c.requires.mapped }

pub put-requires : goal.put-requires
put-requires c = record {
  store = c.requires.store;
  within = entry_within c.args.self.now c.requires.store.kept c.requires.store.room c.args.t c.page.result.0 c.mapped_entry-entry.result c.mapped_entry-entry.ensures;
  room = omega (arith, c.offset.ensures, c.requires.room);
}

pub returns-then-entry-clause-page : goal.returns-then-entry-clause-page
returns-then-entry-clause-page c =
    let s = c.args.self.now in
    let e = c.mapped_entry-entry.result in
    (written_before s c.put.new.self c.args.t c.args.at.0 e c.args.bytes.now c.requires.store c.put.ensures.store (subst (λ p. entry_at s c.args.t p ≡ Some e) c.page.ensures c.mapped_entry-entry.ensures) c.if-entry.true
    (subst (λ o. PutsBytes s c.put.new.self e.frame o c.args.bytes.now) c.offset.ensures c.put.ensures.puts)).page

pub returns-then-entry-clause-takes : goal.returns-then-entry-clause-takes
returns-then-entry-clause-takes c =
    let s = c.args.self.now in
    let e = c.mapped_entry-entry.result in
    (written_before s c.put.new.self c.args.t c.args.at.0 e c.args.bytes.now c.requires.store c.put.ensures.store (subst (λ p. entry_at s c.args.t p ≡ Some e) c.page.ensures c.mapped_entry-entry.ensures) c.if-entry.true
    (subst (λ o. PutsBytes s c.put.new.self e.frame o c.args.bytes.now) c.offset.ensures c.put.ensures.puts)).takes

pub returns-then-entry-clause-leaf : goal.returns-then-entry-clause-leaf
returns-then-entry-clause-leaf c =
    let s = c.args.self.now in
    let e = c.mapped_entry-entry.result in
    (written_before s c.put.new.self c.args.t c.args.at.0 e c.args.bytes.now c.requires.store c.put.ensures.store (subst (λ p. entry_at s c.args.t p ≡ Some e) c.page.ensures c.mapped_entry-entry.ensures) c.if-entry.true
    (subst (λ o. PutsBytes s c.put.new.self e.frame o c.args.bytes.now) c.offset.ensures c.put.ensures.puts)).leaf
