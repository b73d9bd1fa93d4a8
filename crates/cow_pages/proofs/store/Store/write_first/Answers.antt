use Rattle.std.proofs.Common.{rules, ◌≡◌, ◌≢◌, ◌⊎◌, length, Some, IsTrue, true≢false, sym, ap, subst, arith}
use Rattle.page_tables.specs.Address.{leaf_index}
use Rattle.cow_pages.specs.Memory.{is_mapped, HasOneSharer, IsShared}
use Rattle.cow_pages.specs.Change.{OwnsLeaf, TakesOnCopy}
use Rattle.cow_pages.specs.declared.store.Store.{Store}
use Rattle.cow_pages.specs.Store.{shown, entry_at, spare_of}
use Rattle.cow_pages.specs.Steps.{OwnsEntry, Marks, PutsBytes}
use Rattle.cow_pages.proofs.RoomLemmas.{on_err}
use Rattle.cow_pages.proofs.SoundLemmas.{entry_within}
use Rattle.cow_pages.proofs.MarkLemmas.{written_first}
use Rattle.cow_pages.proofs.store.Store.write_first.Goals as goal

pub mapped_entry-entry-requires : goal.mapped_entry-entry-requires
mapped_entry-entry-requires c = record { store = c.requires.store; mapped = subst (λ p. IsTrue (is_mapped (shown c.args.self.now) c.args.t p)) (sym c.page-page.ensures) c.requires.mapped }

pub own-requires : goal.own-requires
own-requires c = record { store = c.requires.store; there = c.mapped_entry-entry.ensures }

pub mark-requires : goal.mark-requires
mark-requires c = record { store = c.own.ensures.store; there = c.in_ok-own.ensures.owns.there; alone = c.in_ok-own.ensures.owns.alone }

pub put-requires : goal.put-requires
put-requires c =
    let m1 = c.own.new.self in
    record {
      store = c.mark.ensures.store;
      within =
          omega (
            arith,
            entry_within m1 c.own.ensures.store.kept c.own.ensures.store.room c.args.t c.page-page.result.0 c.in_ok-own.own c.in_ok-own.ensures.owns.there,
            ap (λ (it : Store). length it.frames.items) c.mark.ensures.marks.rest,
          );
      room = omega (arith, c.offset.ensures, c.requires.room);
    }

pub returns : goal.returns
returns c =
    let s = c.args.self.now in
    let m1 = c.own.new.self in
    let m2 = c.mark.new.self in
    let new = c.put.new.self in
    let e = c.mapped_entry-entry.result in
    let own = c.in_ok-own.own in
    let page = c.page-page.ensures in
    let all = written_first s m1 m2 new c.args.t c.args.at.0 e own c.args.bytes.now c.requires.store c.own.ensures.store c.put.ensures.store
    (subst (λ p. entry_at s c.args.t p ≡ Some e) page c.mapped_entry-entry.ensures)
    (subst (λ p. OwnsEntry s m1 c.args.t p e own) page c.in_ok-own.ensures.owns)
    (subst (λ p. Marks m1 m2 c.args.t p own) page c.mark.ensures.marks)
    (subst (λ o. PutsBytes m2 new own.frame o c.args.bytes.now) c.offset.ensures c.put.ensures.puts)
    (subst (λ p. TakesOnCopy (shown s) (shown m1) c.args.t p) page c.in_ok-own.ensures.takes)
    (subst (λ p. OwnsLeaf (shown s) (shown m1) c.args.t (leaf_index p)) page c.in_ok-own.ensures.leaf) in
    record {
      store = c.put.ensures.store;
      page = all.page;
      takes = all.takes;
      leaf = all.leaf;
      succeeds = search rules;
      only = search rules;
      err = search rules;
    }

pub returns-in_err-own-clause-only : goal.returns-in_err-own-clause-only
returns-in_err-own-clause-only c =
    let only = subst (λ p. IsShared (shown c.args.self.now) c.args.t p × (spare_of c.args.self.now ≡ 0)) c.page-page.ensures c.in_err-own.ensures.only in
    on_err _ only

pub returns-in_err-own-clause-succeeds : goal.returns-in_err-own-clause-succeeds
returns-in_err-own-clause-succeeds c = λ either.
    let back = subst (λ p. HasOneSharer (shown c.args.self.now) c.args.t p ⊎ (spare_of c.args.self.now ≢ 0)) (sym c.page-page.ensures) either in
    absurd (true≢false (sym (c.in_err-own.ensures.succeeds back)))
