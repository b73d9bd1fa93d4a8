use Rattle.std.proofs.Common.{◌∙◌, ◌+◌, ◌-◌, ◌<◌, ◌^◌, List, sym, ap, subst, arith, rules}
use Rattle.heap_graph.specs.declared.names.Shape.{Shape}
use Rattle.object_view.specs.declared.names.Slot.{Slot}
use Rattle.object_view.specs.Objects.{reference_place}
use Rattle.mod_union.specs.Scans.{space_in}
use Rattle.mod_union.proofs.Counted.{reads-more, reads-next}
use Rattle.mod_union.proofs.Reached.{reach-end, reach-more, reach-past, reached-few, reference-here, IsReached}
use Rattle.mod_union.proofs.Refs.{found-none}
use Rattle.mod_union.proofs.scan.Scan.scan_references.Goals as goal

pub returns-in_default-clause-found : goal.returns-in_default-clause-found
returns-in_default-clause-found c raws o before =
    let scan = c.args.self.now in
    let none = found-none scan.classes.now c.args.shape c.loop-k.k (sym c.in_default.is ∙ c.reference_at.ensures) in
    reach-end (space_in scan c.args.frames.now) raws o.held c.args.at.0 c.args.card c.first_reference-first.result c.args.found.now.items o.has c.requires.before c.loop-k.k c.loop-k.found.items
    (c.loop-k.invariant.reached raws o) (ap (λ (s : Shape). reference_place scan.classes.now s c.loop-k.k) o.shape_is ∙ none) before

pub overflow_add-slot : goal.overflow_add-slot
overflow_add-slot c =
    let it = reference-here c.args.self.now c.args.frames.now c.loop-k.frames _ c.requires.held.0 c.args.at.0 c.args.shape c.loop-k.k c.in-Some.offset c.in-Some.weak c.loop-k.invariant.reads c.requires.held.1
    (sym c.in-Some.is ∙ c.reference_at.ensures) in
    let below : c.args.at.0 + c.in-Some.offset < 2 ^ 32 = omega (arith, it.below) in
    search rules

pub returns-then-slot-last-clause-found : goal.returns-then-slot-last-clause-found
returns-then-slot-last-clause-found c raws o before =
    let scan = c.args.self.now in
    let it = reference-here scan c.args.frames.now c.loop-k.frames _ raws c.args.at.0 c.args.shape c.loop-k.k c.in-Some.offset c.in-Some.weak c.loop-k.invariant.reads o (sym c.in-Some.is ∙ c.reference_at.ensures) in
    reach-past (space_in scan c.args.frames.now) raws o.held c.args.at.0 c.args.card c.first_reference-first.result c.args.found.now.items o.has c.requires.before c.loop-k.k c.loop-k.found.items
    it.place (c.args.at.0 + c.in-Some.offset) c.in-Some.weak (c.loop-k.invariant.reached raws o) it.is it.at_is it.weak_is (omega arith) before

pub scan_slot-requires-clause-aligned : goal.scan_slot-requires-clause-aligned
scan_slot-requires-clause-aligned c =
    (reference-here c.args.self.now c.args.frames.now c.loop-k.frames _ c.requires.held.0 c.args.at.0 c.args.shape c.loop-k.k c.in-Some.offset c.in-Some.weak c.loop-k.invariant.reads c.requires.held.1
    (sym c.in-Some.is ∙ c.reference_at.ensures)).aligned

pub scan_slot-requires-clause-mapped : goal.scan_slot-requires-clause-mapped
scan_slot-requires-clause-mapped c =
    (reference-here c.args.self.now c.args.frames.now c.loop-k.frames _ c.requires.held.0 c.args.at.0 c.args.shape c.loop-k.k c.in-Some.offset c.in-Some.weak c.loop-k.invariant.reads c.requires.held.1
    (sym c.in-Some.is ∙ c.reference_at.ensures)).mapped

pub scan_slot-requires-clause-known : goal.scan_slot-requires-clause-known
scan_slot-requires-clause-known c =
    (reference-here c.args.self.now c.args.frames.now c.loop-k.frames _ c.requires.held.0 c.args.at.0 c.args.shape c.loop-k.k c.in-Some.offset c.in-Some.weak c.loop-k.invariant.reads c.requires.held.1
    (sym c.in-Some.is ∙ c.reference_at.ensures)).known

pub returns-in_err-scan_slot-clause-reads : goal.returns-in_err-scan_slot-clause-reads
returns-in_err-scan_slot-clause-reads c raws o =
    let scan = c.args.self.now in
    let k = c.loop-k.k in
    let first = c.first_reference-first.result in
    let it = reference-here scan c.args.frames.now c.loop-k.frames _ raws c.args.at.0 c.args.shape k c.in-Some.offset c.in-Some.weak c.loop-k.invariant.reads o (sym c.in-Some.is ∙ c.reference_at.ensures) in
    let more = reach-more (space_in scan c.loop-k.frames) raws it.held c.args.at.0 c.args.card first c.args.found.now.items o.has c.requires.before k c.loop-k.found.items
    it.place (c.args.at.0 + c.in-Some.offset) c.in-Some.weak (c.loop-k.invariant.reached raws o) it.is it.at_is it.weak_is (omega arith) in
    let few = reached-few scan.classes.now raws scan.larges.now c.args.at.0 c.args.card first (k + 1) c.args.found.now.items _ more (let le = c.loop-k.invariant.small in omega (arith, le)) in
    reads-more (k + 1 - first) _ c.args.frames.now c.scan_slot.new.frames few
    (reads-next first k c.args.frames.now c.loop-k.frames c.scan_slot.new.frames (c.args.at.0 + c.in-Some.offset) c.loop-k.invariant.small c.loop-k.invariant.reads c.scan_slot.ensures.frames c.scan_slot.ensures.sound)

pub loop-k-preserved : goal.loop-k-preserved
loop-k-preserved c =
    let scan = c.args.self.now in
    let k = c.loop-k.k in
    let first = c.first_reference-first.result in
    record {
      reached = λ raws o.
          let it = reference-here scan c.args.frames.now c.loop-k.frames _ raws c.args.at.0 c.args.shape k c.in-Some.offset c.in-Some.weak c.loop-k.invariant.reads o (sym c.in-Some.is ∙ c.reference_at.ensures) in
          subst (λ (items : List Slot). IsReached scan.classes.now raws scan.larges.now c.args.at.0 c.args.card first (k + 1) c.args.found.now.items items) (sym c.in_ok-scan_slot.ensures.found)
          (reach-more (space_in scan c.loop-k.frames) raws it.held c.args.at.0 c.args.card first c.args.found.now.items o.has c.requires.before k c.loop-k.found.items
          it.place (c.args.at.0 + c.in-Some.offset) c.in-Some.weak (c.loop-k.invariant.reached raws o) it.is it.at_is it.weak_is (omega arith));
      small = omega (arith, c.loop-k.invariant.small);
      reads = reads-next first k c.args.frames.now c.loop-k.frames c.scan_slot.new.frames (c.args.at.0 + c.in-Some.offset) c.loop-k.invariant.small c.loop-k.invariant.reads c.scan_slot.ensures.frames c.scan_slot.ensures.sound;
    }
