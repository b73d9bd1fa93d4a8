use Rattle.std.proofs.Common.{◌≡◌, ℕ, ◌+◌, ◌*◌, ◌<◌, length, get_or, sym, subst, arith}
use Rattle.std.proofs.lemmas.List.{get_or_default, get_or_past}
use Rattle.card_table.specs.CardSet.{card_of}
use Rattle.model_numbers.specs.Numbers.{card_bytes}
use Rattle.mod_union.specs.ModUnion.{card_reads, slot_address, IsOutwardSlot}
use Rattle.mod_union.specs.Scans.{AreBelow}
use Rattle.mod_union.proofs.Cards.{all_cards, card-above, card-next, earlier, in-at}
use Rattle.mod_union.proofs.Counted.{reads-both, reads-more, reads-none}
use Rattle.mod_union.proofs.Lists.{lists-none, lists-wider}
use Rattle.mod_union.proofs.Reached.{held-still}
use Rattle.mod_union.proofs.scan.Scan.outward_slots.Goals as goal

pub loop-card-init : goal.loop-card-init
loop-card-init c = record {
  listed = λ raws held all.
      let scan = c.args.self.now in
      let cards = c.args.cards.now in
      subst (AreBelow scan raws (card_bytes * get_or cards 0 all_cards)) (sym c.new-found.ensures.items)
      (lists-wider slot_address (IsOutwardSlot scan.classes.now raws scan.larges.now) 0 (card_bytes * get_or cards 0 all_cards) _ (lists-none slot_address (IsOutwardSlot scan.classes.now raws scan.larges.now)) (omega arith)
      (λ s o low high. let least = card-next cards 0 _ c.requires.cards.rising (all s o) (λ j before within. absurd (omega (arith, before))) in omega (arith, least, high)));
  reads = reads-none c.args.frames.now;
}

pub scan_card-requires-clause-within : goal.scan_card-requires-clause-within
scan_card-requires-clause-within c =
    let i = c.loop-card.card-index in
    c.requires.cards.within (get_or c.args.cards.now i 0) (in-at c.args.cards.now i (omega arith))

pub scan_card-requires-clause-held : goal.scan_card-requires-clause-held
scan_card-requires-clause-held c =
    let held = c.requires.held in
    (held.0, held-still c.args.self.now c.args.frames.now c.loop-card.frames _ held.0 c.loop-card.invariant.reads held.1)

pub returns-in_err-scan_card-clause-reads : goal.returns-in_err-scan_card-clause-reads
returns-in_err-scan_card-clause-reads c =
    let i = c.loop-card.card-index in
    reads-more (card_reads * i + card_reads) _ c.args.frames.now c.scan_card.new.frames (omega arith)
    (reads-both (card_reads * i) card_reads c.args.frames.now c.loop-card.frames c.scan_card.new.frames c.loop-card.invariant.reads c.scan_card.ensures.reads)

pub loop-card-preserved : goal.loop-card-preserved
loop-card-preserved c =
    let scan = c.args.self.now in
    let cards = c.args.cards.now in
    let i = c.loop-card.card-index in
    let within : i < length cards = omega arith in
    let card : ℕ = get_or cards i 0 in
    record {
      listed = λ raws held all.
          let still = held-still scan c.args.frames.now c.loop-card.frames _ raws c.loop-card.invariant.reads held in
          let e : get_or cards i all_cards ≡ card = get_or_default cards i all_cards 0 within in
          let before = subst (λ n. AreBelow scan raws (card_bytes * n) c.loop-card.found.items) e (c.loop-card.invariant.listed raws held all) in
          let now = c.in_ok-scan_card.ensures.found raws still before in
          lists-wider slot_address (IsOutwardSlot scan.classes.now raws scan.larges.now) (card_bytes * (card + 1)) (card_bytes * get_or cards (i + 1) all_cards) c.scan_card.new.found.items now
          (let above = card-above cards i c.requires.cards within in omega (arith, above))
          (λ s o low high.
          let least = card-next cards (i + 1) _ c.requires.cards.rising (all s o) (λ j before there. earlier cards i j (card_of s.at.0) c.requires.cards.rising within before (omega (arith, low))) in
          omega (arith, least, high));
      reads = reads-more (card_reads * i + card_reads) _ c.args.frames.now c.scan_card.new.frames (omega arith)
          (reads-both (card_reads * i) card_reads c.args.frames.now c.loop-card.frames c.scan_card.new.frames c.loop-card.invariant.reads c.scan_card.ensures.reads);
    }

pub returns-clause-found : goal.returns-clause-found
returns-clause-found c raws held all =
    let cards = c.args.cards.now in
    let e : get_or cards c.loop-card.card-index all_cards ≡ all_cards = get_or_past cards c.loop-card.card-index all_cards (omega arith) in
    subst (λ n. AreBelow c.args.self.now raws (card_bytes * n) c.loop-card.found.items) e (c.loop-card.invariant.listed raws held all)
