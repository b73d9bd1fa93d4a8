use Rattle.std.proofs.Common.{◌∙◌, sym, subst}
use Rattle.cow_pages.specs.View.{view_of}
use Rattle.mod_union.specs.Lists.{AreRising}
use Rattle.mod_union.specs.ModUnion.{slot_address, space_of}
use Rattle.mod_union.proofs.Updates.{all-found, passed-all, passed-cards, passed-few}
use Rattle.mod_union.proofs.table.ModUnion.update.Goals as goal

pub outward_slots-requires-clause-cards : goal.outward_slots-requires-clause-cards
outward_slots-requires-clause-cards c =
    passed-cards c.args.self.now c.deref.result.now c.args.cards.now c.in_ok-noted.noted.items c.deref-2.result.now (c.deref.ensures.value ∙ c.self.view_is) c.deref-2.ensures.value c.in_ok-noted.ensures

pub returns-in_err-found-clause-reads : goal.returns-in_err-found-clause-reads
returns-in_err-found-clause-reads c given all =
    passed-few c.args.self.now c.deref.result.now c.args.cards.now c.in_ok-noted.noted.items c.deref-2.result.now (c.deref.ensures.value ∙ c.self.view_is) c.deref-2.ensures.value c.in_ok-noted.ensures
    given c.args.frames.now c.outward_slots.new.frames c.immune_reads.result c.immune_reads.ensures c.immune_reads.type_inv c.outward_slots.ensures.reads all

pub cards_of-requires : goal.cards_of-requires
cards_of-requires c =
    let h = c.requires.1 in
    let all = passed-all c.args.self.now c.deref.result.now c.args.cards.now c.in_ok-noted.noted.items c.deref-2.result.now (c.deref.ensures.value ∙ c.self.view_is) c.deref-2.ensures.value c.in_ok-noted.ensures
    (space_of c.args.classes.now (view_of c.args.frames.now c.args.t.0) c.args.starts.now c.args.larges.now) c.requires.0 h in
    subst (AreRising slot_address 0) (sym c.deref-3.ensures.value) (c.in_ok-found.ensures.found c.requires.0 h.held all).rising

pub returns-in_err-records-clause-reads : goal.returns-in_err-records-clause-reads
returns-in_err-records-clause-reads c given all =
    passed-few c.args.self.now c.deref.result.now c.args.cards.now c.in_ok-noted.noted.items c.deref-2.result.now (c.deref.ensures.value ∙ c.self.view_is) c.deref-2.ensures.value c.in_ok-noted.ensures
    given c.args.frames.now c.outward_slots.new.frames c.immune_reads.result c.immune_reads.ensures c.immune_reads.type_inv c.outward_slots.ensures.reads all

pub returns-clause-slots : goal.returns-clause-slots
returns-clause-slots c raws h =
    let space = space_of c.args.classes.now (view_of c.args.frames.now c.args.t.0) c.args.starts.now c.args.larges.now in
    let all = passed-all c.args.self.now c.deref.result.now c.args.cards.now c.in_ok-noted.noted.items c.deref-2.result.now (c.deref.ensures.value ∙ c.self.view_is) c.deref-2.ensures.value c.in_ok-noted.ensures space raws h in
    all-found space raws h.held c.in_ok-found.found.items (c.in_ok-found.ensures.found raws h.held all)

pub returns-clause-reads : goal.returns-clause-reads
returns-clause-reads c given all =
    passed-few c.args.self.now c.deref.result.now c.args.cards.now c.in_ok-noted.noted.items c.deref-2.result.now (c.deref.ensures.value ∙ c.self.view_is) c.deref-2.ensures.value c.in_ok-noted.ensures
    given c.args.frames.now c.outward_slots.new.frames c.immune_reads.result c.immune_reads.ensures c.immune_reads.type_inv c.outward_slots.ensures.reads all
