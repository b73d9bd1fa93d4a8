use Rattle.std.proofs.Common.{◌∙◌, ◌+◌, ℕ, [], sym, ap, subst, arith}
use Rattle.std.proofs.lemmas.List.{map-append}
use Rattle.page_tables.specs.declared.address.Addr.{Addr}
use Rattle.live_objects.specs.Live.{addresses}
use Rattle.object_collection.specs.Weaks.{Adds}
use Rattle.object_collection.proofs.PageLemmas.{IsSlotBelow, slots-listed, slots-more, slots-same}
use Rattle.object_collection.proofs.lists.slot_addresses.Goals as goal
use Rattle.object_collection.proofs.lists.slot_addresses.Goals.{then-contains+in_ok-push, else-contains}

pub loop-slot-preserved : goal.loop-slot-preserved
loop-slot-preserved c =
    let large = c.args.large.now in
    let slot : ℕ = c.loop-slot.slot in
    elim c.if-contains.branch [
      | then-contains+in_ok-push w ↦
          let items = ap addresses w.in_ok-push.ensures.items ∙ map-append (λ (a : Addr). a.0) c.loop-slot.ats.items _ in
          rw w.ats-is (subst (Adds (IsSlotBelow large (slot + 1)) []) (sym items) (slots-more large slot [] (addresses c.loop-slot.ats.items) (sym c.contains.ensures ∙ w.if-contains.true) c.loop-slot.invariant))
      | else-contains w ↦ rw w.ats-is (slots-same large slot [] (addresses c.loop-slot.ats.items) (sym c.contains.ensures ∙ w.if-contains.false) c.loop-slot.invariant)
    ]

pub returns : goal.returns
returns c = slots-listed c.args.large.now c.loop-slot.slot c.loop-slot.ats.items (omega arith) c.loop-slot.invariant
