use Rattle.std.proofs.Common.{◌∙◌, ℕ, is_ok, true, refl, sym, ap, subst, arith, true≢false}
use Rattle.std.specs.Prelude.{◌||◌}
use Rattle.std.proofs.lemmas.List.{take_all}
use Rattle.cow_pages.specs.View.{view_of}
use Rattle.raw_objects.specs.Raws.{HoldsRaws}
use Rattle.raw_objects.specs.References.{turned_where}
use Rattle.raw_objects.proofs.Kept.{keeps-none, keeps-then}
use Rattle.raw_objects.proofs.Turned.{slot-readable}
use Rattle.object_moves.specs.Turns.{is_slot_of}
use Rattle.object_moves.proofs.Many.{slot-there, slots-next, slots_to}
use Rattle.object_moves.proofs.turns.turn_slots.Goals as goal

pub loop-slot-init : goal.loop-slot-init
loop-slot-init c = record { held = λ cs raws done h ok. h; keeps = λ may within. keeps-none c.args.frames.now c.args.t.0 may; reads = refl; sound = λ s. s }

pub turn_slot-requires-clause-aligned : goal.turn_slot-requires-clause-aligned
turn_slot-requires-clause-aligned c =
    let held = c.loop-slot.invariant.held c.requires.0 c.requires.1 c.requires.2 c.requires.3 c.requires.4 in
    (slot-there c.requires.0 _ _ c.requires.1 c.requires.2 c.args.slots.now c.requires.4 _ (slots_to c.requires.0 c.args.frames.now c.args.t.0 c.requires.1 c.requires.2 c.args.slots.now c.requires.4 c.loop-slot.slot-index) c.loop-slot.slot-index (omega arith) held).0

pub turn_slot-requires-clause-mapped : goal.turn_slot-requires-clause-mapped
turn_slot-requires-clause-mapped c =
    let held = c.loop-slot.invariant.held c.requires.0 c.requires.1 c.requires.2 c.requires.3 c.requires.4 in
    (slot-there c.requires.0 _ _ c.requires.1 c.requires.2 c.args.slots.now c.requires.4 _ (slots_to c.requires.0 c.args.frames.now c.args.t.0 c.requires.1 c.requires.2 c.args.slots.now c.requires.4 c.loop-slot.slot-index) c.loop-slot.slot-index (omega arith) held).1

pub turn_slot-requires-clause-readable : goal.turn_slot-requires-clause-readable
turn_slot-requires-clause-readable c =
    let held = c.loop-slot.invariant.held c.requires.0 c.requires.1 c.requires.2 c.requires.3 c.requires.4 in
    slot-readable c.requires.0 _ c.requires.1 (slots_to c.requires.0 c.args.frames.now c.args.t.0 c.requires.1 c.requires.2 c.args.slots.now c.requires.4 c.loop-slot.slot-index) _ _ held (c.requires.4.each c.loop-slot.slot-index (omega arith))

pub unreachable-requires : goal.unreachable-requires
unreachable-requires c =
    let i : ℕ = c.loop-slot.slot-index in
    let there = slot-there c.requires.0 _ _ c.requires.1 c.requires.2 c.args.slots.now c.requires.4 c.args.frames.now c.requires.2 i (omega arith) c.requires.3 in
    let alone = (c.loop-slot.invariant.keeps (λ p. true) (λ j below. refl)).alone _ there.1 (c.requires.4.alone i (omega arith)) in
    absurd (true≢false (sym (c.turn_slot.ensures.succeeds alone) ∙ ap (λ r. is_ok r) c.in-Err.is))

pub loop-slot-preserved : goal.loop-slot-preserved
loop-slot-preserved c =
    let i : ℕ = c.loop-slot.slot-index in
    record {
      held = λ cs raws done h ok. slots-next cs _ _ raws done c.args.slots.now ok _ i (omega arith) (c.in-Ok.ensures.held cs raws (slots_to cs c.args.frames.now c.args.t.0 raws done c.args.slots.now ok i) (c.loop-slot.invariant.held cs raws done h ok) (ok.each i (omega arith)));
      keeps = λ may within. keeps-then _ _ _ c.args.t.0 may (c.loop-slot.invariant.keeps may within) (c.turn_slot.ensures.keeps may (within i (omega arith)));
      reads = c.turn_slot.ensures.reads ∙ c.loop-slot.invariant.reads;
      sound = λ s. c.turn_slot.ensures.sound (c.loop-slot.invariant.sound s);
    }

pub returns-clause-held : goal.returns-clause-held
returns-clause-held c cs raws done h ok =
    let whole = take_all c.loop-slot.slot-index c.args.slots.now (omega arith) in
    subst (λ (xs : _). HoldsRaws cs (view_of c.loop-slot.frames c.args.t.0) (turned_where raws (λ b. is_slot_of xs b || done b))) whole (c.loop-slot.invariant.held cs raws done h ok)
