use Rattle.std.proofs.Common.{◌∙◌, ◌+◌, ◌<◌, ℕ, List, length, sym, ap, subst, arith}
use Rattle.std.proofs.lemmas.List.{map-append}
use Rattle.page_tables.specs.declared.address.Addr.{Addr}
use Rattle.live_objects.specs.Live.{addresses}
use Rattle.object_collection.specs.Weaks.{Adds}
use Rattle.object_collection.proofs.WeakLemmas.{IsWeakFirst, slots-all, slots-none, slots-strong, slots-weak}
use Rattle.object_collection.proofs.weak.push_weak_slots.Goals as goal
use Rattle.object_collection.proofs.weak.push_weak_slots.Goals.{then-slot+in_ok-push, else-slot}

pub loop-slot-init : goal.loop-slot-init
loop-slot-init c = slots-none c.args.slots.now (addresses c.args.weak.now.items)

pub loop-slot-preserved : goal.loop-slot-preserved
loop-slot-preserved c =
    let slots = c.args.slots.now in
    let i : ℕ = c.loop-slot.slot-index in
    let old : List ℕ = addresses c.args.weak.now.items in
    let mid : List ℕ = addresses c.loop-slot.weak.items in
    let below : i < length slots = omega arith in
    elim c.if-slot.branch [
      | then-slot+in_ok-push w ↦
          let items = ap addresses w.in_ok-push.ensures.items ∙ map-append (λ (a : Addr). a.0) c.loop-slot.weak.items _ in
          rw w.weak-is (subst (Adds (IsWeakFirst slots (i + 1)) old) (sym items) (slots-weak slots i old mid c.requires below w.if-slot.true c.loop-slot.invariant))
      | else-slot w ↦ rw w.weak-is (slots-strong slots i old mid w.if-slot.false c.loop-slot.invariant)
    ]

pub returns : goal.returns
returns c = slots-all c.args.slots.now c.loop-slot.slot-index (addresses c.args.weak.now.items) (addresses c.loop-slot.weak.items) (omega arith) c.loop-slot.invariant
