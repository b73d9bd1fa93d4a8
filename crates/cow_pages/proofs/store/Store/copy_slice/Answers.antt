use Rattle.std.proofs.Common.{rules, ◌≡◌, ◌≢◌, ◌⊎◌, ℕ, List, length, Option, Some, is_some, IsTrue, true≢false, sym, ap, subst, ◌∙◌, arith}
use Rattle.page_tables.specs.Address.{leaf_index, page_of}
use Rattle.page_tables.specs.Frame.{part_of}
use Rattle.cow_pages.specs.View.{bytes_at, view_of}
use Rattle.cow_pages.specs.Memory.{Page, is_mapped, HasOneSharer, IsShared}
use Rattle.cow_pages.specs.Change.{OwnsLeaf, TakesOnCopy}
use Rattle.cow_pages.specs.declared.store.Store.{Store}
use Rattle.cow_pages.specs.Store.{shown, bytes_of, entry_at, spare_of}
use Rattle.cow_pages.specs.Steps.{OwnsEntry, Marks, PutsBytes}
use Rattle.cow_pages.proofs.RoomLemmas.{on_err}
use Rattle.cow_pages.proofs.SoundLemmas.{entry_within}
use Rattle.cow_pages.proofs.MarkLemmas.{flagged, written_first}
use Rattle.cow_pages.proofs.PartLemmas.{marked_others, frames_apart, part_seen}
use Rattle.cow_pages.proofs.store.Store.copy_slice.Goals as goal

pub mapped_entry-entry-requires : goal.mapped_entry-entry-requires
mapped_entry-entry-requires c = record { store = c.requires.store; mapped = subst (λ p. IsTrue (is_mapped (shown c.args.self.now) c.args.t p)) (sym c.page-page.ensures) c.requires.mapped }

pub own-requires : goal.own-requires
own-requires c = record { store = c.requires.store; there = c.mapped_entry-entry.ensures }

pub mark-requires : goal.mark-requires
mark-requires c = record { store = c.own.ensures.store; there = c.in_ok-own.ensures.owns.there; alone = c.in_ok-own.ensures.owns.alone }

pub mapped_entry-source-requires : goal.mapped_entry-source-requires
mapped_entry-source-requires c = record {
  store = c.mark.ensures.store;
  mapped =
      let s = c.args.self.now in
      let m2 = c.mark.new.self in
      let same = marked_others s c.own.new.self m2 c.args.t c.page-page.result.0 (page_of c.args.from.0) c.mapped_entry-entry.result c.in_ok-own.own c.own.ensures.store c.mark.ensures.store
      c.in_ok-own.ensures.owns c.mark.ensures.marks (λ is. c.requires.apart (is ∙ c.page-page.ensures)) in
      subst (λ p. IsTrue (is_mapped (shown m2) c.args.t p)) (sym c.page.ensures) (ap (λ (o : Option Page). is_some o) same ∙ c.requires.from_mapped);
}

pub put_part-requires : goal.put_part-requires
put_part-requires c =
    let m1 = c.own.new.self in
    let m2 = c.mark.new.self in
    let q = page_of c.args.from.0 in
    let source : entry_at m2 c.args.t q ≡ Some c.mapped_entry-source.result = ap (entry_at m2 c.args.t) (sym c.page.ensures) ∙ c.mapped_entry-source.ensures in
    record {
      store = c.mark.ensures.store;
      source_within = entry_within m2 c.mark.ensures.store.kept c.mark.ensures.store.room c.args.t q c.mapped_entry-source.result source;
      within =
          omega (
            arith,
            entry_within m1 c.own.ensures.store.kept c.own.ensures.store.room c.args.t c.page-page.result.0 c.in_ok-own.own c.in_ok-own.ensures.owns.there,
            ap (λ (it : Store). length it.frames.items) c.mark.ensures.marks.rest,
          );
      apart = frames_apart m2 c.mark.ensures.store.kept.pages c.args.t q c.page-page.result.0 c.mapped_entry-source.result (flagged c.in_ok-own.own) source c.mark.ensures.marks.entries.here
          (λ is. c.requires.apart (is ∙ c.page-page.ensures));
      source_room = omega (arith, c.offset-start.ensures, c.requires.from_room);
      room = omega (arith, c.offset-offset.ensures, c.requires.room);
    }

pub returns : goal.returns
returns c =
    let s = c.args.self.now in
    let m1 = c.own.new.self in
    let m2 = c.mark.new.self in
    let new = c.put_part.new.self in
    let e = c.mapped_entry-entry.result in
    let own = c.in_ok-own.own in
    let page = c.page-page.ensures in
    let q = page_of c.args.from.0 in
    let bytes = bytes_at (view_of (shown s) c.args.t) c.args.from.0 c.args.count in
    let source : entry_at m2 c.args.t q ≡ Some c.mapped_entry-source.result = ap (entry_at m2 c.args.t) (sym c.page.ensures) ∙ c.mapped_entry-source.ensures in
    let same = marked_others s m1 m2 c.args.t c.page-page.result.0 q e own c.own.ensures.store c.mark.ensures.store c.in_ok-own.ensures.owns c.mark.ensures.marks (λ is. c.requires.apart (is ∙ page)) in
    let seen : part_of (bytes_of m2 c.mapped_entry-source.result.frame) c.offset-start.result c.args.count ≡ bytes =
    ap (λ (n : ℕ). part_of (bytes_of m2 c.mapped_entry-source.result.frame) n c.args.count) c.offset-start.ensures
    ∙ part_seen s m2 c.args.t c.args.from.0 c.args.count c.mapped_entry-source.result c.mark.ensures.store source same c.requires.from_room in
    let puts = subst (λ (bs : List ℕ). PutsBytes m2 new own.frame c.offset-offset.result bs) seen c.put_part.ensures.puts in
    let all = written_first s m1 m2 new c.args.t c.args.to.0 e own bytes c.requires.store c.own.ensures.store c.put_part.ensures.store
    (subst (λ p. entry_at s c.args.t p ≡ Some e) page c.mapped_entry-entry.ensures)
    (subst (λ p. OwnsEntry s m1 c.args.t p e own) page c.in_ok-own.ensures.owns)
    (subst (λ p. Marks m1 m2 c.args.t p own) page c.mark.ensures.marks)
    (subst (λ o. PutsBytes m2 new own.frame o bytes) c.offset-offset.ensures puts)
    (subst (λ p. TakesOnCopy (shown s) (shown m1) c.args.t p) page c.in_ok-own.ensures.takes)
    (subst (λ p. OwnsLeaf (shown s) (shown m1) c.args.t (leaf_index p)) page c.in_ok-own.ensures.leaf) in
    record {
      store = c.put_part.ensures.store;
      page = all.page;
      takes = all.takes;
      leaf = all.leaf;
      succeeds = search rules;
      only = search rules;
      err = search rules;
    }

pub returns-in_err-own-clause-only : goal.returns-in_err-own-clause-only
returns-in_err-own-clause-only c =
    let only = subst (λ p. IsShared (shown c.args.self.now) c.args.t p × (spare_of c.args.self.now ≡ 0)) c.page-page.ensures c.in_err-own.ensures.only in
    on_err _ only

pub returns-in_err-own-clause-succeeds : goal.returns-in_err-own-clause-succeeds
returns-in_err-own-clause-succeeds c = λ either.
    let back = subst (λ p. HasOneSharer (shown c.args.self.now) c.args.t p ⊎ (spare_of c.args.self.now ≢ 0)) (sym c.page-page.ensures) either in
    absurd (true≢false (sym (c.in_err-own.ensures.succeeds back)))
