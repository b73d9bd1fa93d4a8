use Rattle.std.proofs.Common.{◌*◌, get_or}
use Rattle.card_table.specs.CardSet.{card_of}
use Rattle.class_layout.specs.Placing.{IsIn}
use Rattle.model_numbers.specs.Numbers.{card_bytes}
use Rattle.object_view.specs.declared.names.Slot.{Slot}
use Rattle.raw_objects.specs.Raws.{Raws}
use Rattle.mod_union.specs.ModUnion.{card_reads, HoldsSpace, IsOutwardSlot}
use Rattle.mod_union.specs.Scans.{space_in, AreBelow, Reads}
use Rattle.mod_union.proofs.Cards.{all_cards}
use Rattle.mod_union.proofs.scan.Scan.outward_slots.Given as goal

-- the outward slots before the next card are found
abbrev pub invariant-loop-card : goal.invariant-loop-card
invariant-loop-card l = record {
  listed : (raws : Raws) → HoldsSpace (space_in l.self l.fn.frames) raws
      → ((slot : Slot) → IsOutwardSlot l.self.classes.now raws l.self.larges.now slot → IsIn (card_of slot.at.0) l.cards)
      → AreBelow l.self raws (card_bytes * get_or l.cards l.card-index all_cards) l.found.items;
  reads : Reads (card_reads * l.card-index) l.fn.frames l.frames;
}
