use Rattle.std.proofs.Common.{rules, ◌≡◌, ◌∙◌, ◌+◌, ◌%◌, ◌^◌, ◌<◌, true, false, [], ◌∷◌, length, take, get_or, IsTrue, sym, ap, subst, arith}
use Rattle.page_tables.specs.Address.{page_of}
use Rattle.cow_pages.specs.Memory.{is_mapped, IsShared}
use Rattle.cow_pages.specs.Change.{reads_after}
use Rattle.cow_pages.specs.View.{view_of}
use Rattle.object_view.proofs.Outcomes.{on_err}
use Rattle.weak_refs.specs.Weak.{addresses, is_dead, dead_in, ClearsSlots}
use Rattle.weak_refs.proofs.Clears.{OthersSeen-clears}
use Rattle.weak_refs.proofs.Seen.{address-is, addresses-length, clears-read, clears-step, count-step, dead-few, mapped-still, never-shared, reads-step, slots-few}
use Rattle.weak_refs.proofs.clear.clear_dead.Goals as goal
use Rattle.weak_refs.proofs.clear.clear_dead.Goals.{then-branch, else-branch}

pub clear_slot-requires-clause-aligned : goal.clear_slot-requires-clause-aligned
clear_slot-requires-clause-aligned g c =
    let i = c.loop-at.at-index in
    let slots = c.args.slots.now in
    let below : i < length (addresses slots) = omega (arith, addresses-length slots) in
    ap (λ n. n % 4) (sym (address-is slots i (record { 0 = 0 }) (omega arith))) ∙ c.requires.slots.aligned i 0 below

pub clear_slot-requires-clause-mapped : goal.clear_slot-requires-clause-mapped
clear_slot-requires-clause-mapped g c =
    let i = c.loop-at.at-index in
    let slots = c.args.slots.now in
    let below : i < length (addresses slots) = omega (arith, addresses-length slots) in
    subst (λ n. IsTrue (is_mapped c.loop-at.frames c.args.t.0 (page_of n))) (address-is slots i (record { 0 = 0 }) (omega arith))
    (mapped-still (g.K.KeepTest.keeps c.args.kept.now) c.args.frames.now c.loop-at.frames c.args.t.0 (addresses slots) i c.requires.slots below c.loop-at.invariant.cleared)

pub returns-in_err-clear_slot-clause-partly : goal.returns-in_err-clear_slot-clause-partly
returns-in_err-clear_slot-clause-partly g c =
    let i = c.loop-at.at-index in
    let slots = c.args.slots.now in
    let below : i < length (addresses slots) = omega (arith, addresses-length slots) in
    on_err c.from_residual.result (
      i,
      omega arith,
      clears-read c.args.frames.now c.loop-at.frames c.clear_slot.new.frames c.args.t.0 _ _ c.loop-at.invariant.cleared c.in_err-clear_slot.ensures.err,
      c.clear_slot.ensures.reads
          ∙ ap (reads_after c.loop-at.frames.reads) (sym (address-is slots i (record { 0 = 0 }) (omega arith)))
          ∙ ap (λ n. reads_after n (get_or (addresses slots) i 0)) c.loop-at.invariant.reads
          ∙ sym (reads-step c.args.frames.now.reads (addresses slots) i below),
    )

pub returns-in_err-clear_slot-clause-others_seen : goal.returns-in_err-clear_slot-clause-others_seen
returns-in_err-clear_slot-clause-others_seen g c =
    OthersSeen-clears c.args.frames.now c.clear_slot.new.frames c.args.t.0 _
    (clears-read c.args.frames.now c.loop-at.frames c.clear_slot.new.frames c.args.t.0 _ _ c.loop-at.invariant.cleared c.in_err-clear_slot.ensures.err)

pub returns-in_err-clear_slot-clause-succeeds : goal.returns-in_err-clear_slot-clause-succeeds
returns-in_err-clear_slot-clause-succeeds g c all =
    let i = c.loop-at.at-index in
    let slots = c.args.slots.now in
    let below : i < length (addresses slots) = omega (arith, addresses-length slots) in
    let here = sym (address-is slots i (record { 0 = 0 }) (omega arith)) in
    absurd (never-shared (g.K.KeepTest.keeps c.args.kept.now) c.args.frames.now c.loop-at.frames c.args.t.0 (addresses slots) i c.requires.slots below c.loop-at.invariant.cleared all
    (ap (is_dead (g.K.KeepTest.keeps c.args.kept.now) (view_of c.loop-at.frames c.args.t.0)) (sym here) ∙ c.in_err-clear_slot.ensures.was_dead)
    (subst (λ n. IsShared c.loop-at.frames c.args.t.0 (page_of n)) here c.in_err-clear_slot.ensures.only))

pub overflow_add-count : goal.overflow_add-count
overflow_add-count g c =
    let i = c.loop-at.at-index in
    let slots = c.args.slots.now in
    let kept = g.K.KeepTest.keeps c.args.kept.now in
    let below : i < length (addresses slots) = omega (arith, addresses-length slots) in
    let here = sym (address-is slots i (record { 0 = 0 }) (omega arith)) in
    let cleared = clears-step kept c.args.frames.now c.loop-at.frames c.args.t.0 (addresses slots) i c.requires.slots below c.loop-at.invariant.cleared c.clear_slot.new.frames
    (subst (λ n. ClearsSlots c.loop-at.frames c.clear_slot.new.frames c.args.t.0 (dead_in kept (view_of c.loop-at.frames c.args.t.0) (n ∷ []))) here c.in_ok-clear_slot.ensures.cleared) in
    let few = slots-few c.args.frames.now c.clear_slot.new.frames c.args.t.0 (addresses slots) c.requires.slots cleared.bytes.mapped c.clear_slot.ensures.sound in
    let count = dead-few (is_dead kept (view_of c.args.frames.now c.args.t.0)) (addresses slots) i (omega (arith, below)) in
    let is = c.loop-at.invariant.count in
    let fits : c.loop-at.count + 1 < 2 ^ 32 = omega (arith, few, count, is, below) in
    search rules

pub loop-at-preserved : goal.loop-at-preserved
loop-at-preserved g c =
    let i = c.loop-at.at-index in
    let slots = c.args.slots.now in
    let kept = g.K.KeepTest.keeps c.args.kept.now in
    let m = c.args.frames.now in
    let below : i < length (addresses slots) = omega (arith, addresses-length slots) in
    let here = sym (address-is slots i (record { 0 = 0 }) (omega arith)) in
    let answer = c.in_ok-clear_slot.ensures.answer ∙ ap (is_dead kept (view_of c.loop-at.frames c.args.t.0)) here in
    let step = count-step kept m c.loop-at.frames c.args.t.0 (addresses slots) i c.requires.slots below c.loop-at.invariant.cleared in
    let was = c.loop-at.invariant.count in
    record {
      cleared = clears-step kept m c.loop-at.frames c.args.t.0 (addresses slots) i c.requires.slots below c.loop-at.invariant.cleared c.clear_slot.new.frames
          (subst (λ n. ClearsSlots c.loop-at.frames c.clear_slot.new.frames c.args.t.0 (dead_in kept (view_of c.loop-at.frames c.args.t.0) (n ∷ []))) here c.in_ok-clear_slot.ensures.cleared);
      count = elim c.if-branch.branch [
        | then-branch w ↦
            let more : length (dead_in kept (view_of m c.args.t.0) (take (i + 1) (addresses slots))) ≡ length (dead_in kept (view_of m c.args.t.0) (take i (addresses slots))) + 1 = step true (sym w.if-branch.true ∙ answer) in
            omega (arith, w.count-is, was, more)
        | else-branch w ↦
            let same : length (dead_in kept (view_of m c.args.t.0) (take (i + 1) (addresses slots))) ≡ length (dead_in kept (view_of m c.args.t.0) (take i (addresses slots))) + 0 = step false (sym w.if-branch.false ∙ answer) in
            omega (arith, w.count-is, was, same)
      ];
      reads =
          c.clear_slot.ensures.reads ∙ ap (reads_after c.loop-at.frames.reads) here
          ∙ ap (λ n. reads_after n (get_or (addresses slots) i 0)) c.loop-at.invariant.reads
          ∙ sym (reads-step m.reads (addresses slots) i below);
      sound = λ s. c.clear_slot.ensures.sound;
      sound_after_some = λ some. c.clear_slot.ensures.sound;
    }

pub returns-clause-others_seen : goal.returns-clause-others_seen
returns-clause-others_seen g c = OthersSeen-clears c.args.frames.now c.loop-at.frames c.args.t.0 _ c.loop-at.invariant.cleared
