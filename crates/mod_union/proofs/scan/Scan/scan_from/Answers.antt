use Rattle.std.proofs.Common.{◌≡◌, ◌∙◌, ◌+◌, ◌*◌, ◌-◌, ◌/◌, ◌<◌, ◌^◌, true, refl, sym, subst, arith}
use Rattle.std.proofs.lemmas.Bool.{true≢false}
use Rattle.model_numbers.specs.Numbers.{card_bytes}
use Rattle.raw_objects.specs.Raws.{raw_size}
use Rattle.mod_union.specs.Scans.{begin_on, end_on, space_in, AreBelow, IsEdge, Reads}
use Rattle.mod_union.proofs.Counted.{reads-both, reads-more}
use Rattle.mod_union.proofs.Objects.{few-on-card, few-reads, none-before, object-bounds, scan-wider}
use Rattle.mod_union.proofs.Reached.{held-still}
use Rattle.mod_union.proofs.Slots.{edge-end}
use Rattle.mod_union.proofs.scan.Scan.scan_from.Goals as goal

pub returns-in_default-clause-found : goal.returns-in_default-clause-found
returns-in_default-clause-found c raws held edge before =
    let scan = c.args.self.now in
    let it = c.loop-next.invariant.scanned raws held edge before in
    scan-wider (space_in scan c.args.frames.now) raws held c.args.card c.loop-next.next (card_bytes * (c.args.card + 1)) c.loop-next.found.items (omega (arith, c.loop-next.invariant.behind)) (omega arith) (omega arith) it.0
    (λ a low high is. true≢false (sym is ∙ c.in_default.ensures.none.0 refl a low)) it.1

pub returns-then-at-last-clause-found : goal.returns-then-at-last-clause-found
returns-then-at-last-clause-found c raws held edge before =
    let scan = c.args.self.now in
    let it = c.loop-next.invariant.scanned raws held edge before in
    let least = c.in-Some.ensures.found in
    scan-wider (space_in scan c.args.frames.now) raws held c.args.card c.loop-next.next (card_bytes * (c.args.card + 1)) c.loop-next.found.items (omega (arith, c.loop-next.invariant.behind)) (omega arith) (omega arith) it.0
    (λ a low high. none-before (space_in scan c.args.frames.now) raws held c.loop-next.next c.in-Some.at.0 least a low (omega (arith, high))) it.1

pub scan_object-requires-clause-held : goal.scan_object-requires-clause-held
scan_object-requires-clause-held c =
    let held = c.requires.held in
    (held.0, held-still c.args.self.now c.args.frames.now c.loop-next.frames _ held.0 c.loop-next.invariant.reads held.1, held.1.begins c.in-Some.at.0 ∙ c.in-Some.ensures.found.member)

pub returns-in_err-next-clause-reads : goal.returns-in_err-next-clause-reads
returns-in_err-next-clause-reads c =
    let held = c.requires.held in
    let card = c.args.card in
    let at = c.in-Some.at.0 in
    let next = c.loop-next.next in
    let size = raw_size c.args.self.now.classes.now held.0 at in
    let has : held.0.has at ≡ true = held.1.begins at ∙ c.in-Some.ensures.found.member in
    let bounds = object-bounds (space_in c.args.self.now c.args.frames.now) held.0 held.1 at has in
    let few = few-reads card c.args.next next at size c.requires.behind c.loop-next.invariant.behind c.in-Some.ensures.found.from (omega arith) bounds.0 bounds.1 in
    let most = few-on-card card c.args.next (at + size) c.requires.behind in
    reads-more ((end_on card next - c.args.next) / 2 + (2 + (end_on card (at + size) - begin_on card at) / 4)) _ c.args.frames.now c.scan_object.new.frames (omega (arith, few, most))
    (reads-both ((end_on card next - c.args.next) / 2) _ c.args.frames.now c.loop-next.frames c.scan_object.new.frames c.loop-next.invariant.reads
    (c.scan_object.ensures.reads held.0 (held-still c.args.self.now c.args.frames.now c.loop-next.frames _ held.0 c.loop-next.invariant.reads held.1) has))

pub loop-next-smaller : goal.loop-next-smaller
loop-next-smaller c =
    let held = c.requires.held in
    let at = c.in-Some.at.0 in
    let has : held.0.has at ≡ true = held.1.begins at ∙ c.in-Some.ensures.found.member in
    let bounds = object-bounds (space_in c.args.self.now c.args.frames.now) held.0 held.1 at has in
    let end = c.in_ok-next.ensures.end held.0 (held-still c.args.self.now c.args.frames.now c.loop-next.frames _ held.0 c.loop-next.invariant.reads held.1) has in
    let low = c.in-Some.ensures.found.from in
    let less : 2 ^ 64 - c.in_ok-next.next < 2 ^ 64 - c.loop-next.next = omega (arith, end, bounds.0, low, c.loop-next.auto.next-fits) in
    less

pub loop-next-preserved : goal.loop-next-preserved
loop-next-preserved c =
    let scan = c.args.self.now in
    let held = c.requires.held in
    let card = c.args.card in
    let at = c.in-Some.at.0 in
    let next = c.loop-next.next in
    let least = c.in-Some.ensures.found in
    let size = raw_size scan.classes.now held.0 at in
    let has : held.0.has at ≡ true = held.1.begins at ∙ least.member in
    let bounds = object-bounds (space_in scan c.args.frames.now) held.0 held.1 at has in
    let later = held-still scan c.args.frames.now c.loop-next.frames _ held.0 c.loop-next.invariant.reads held.1 in
    let end = c.in_ok-next.ensures.end held.0 later has in
    let few = few-reads card c.args.next next at size c.requires.behind c.loop-next.invariant.behind least.from (omega arith) bounds.0 bounds.1 in
    record {
      behind = let low = least.from in omega (arith, end, low, c.loop-next.invariant.behind);
      scanned = λ raws known edge before.
          let it = c.loop-next.invariant.scanned raws known edge before in
          let there : raws.has at ≡ true = known.begins at ∙ least.member in
          let still = held-still scan c.args.frames.now c.loop-next.frames _ raws c.loop-next.invariant.reads known in
          let last = c.in_ok-next.ensures.end raws still there in
          let begin : at ≡ begin_on card at = let low = least.from in omega (arith, low, c.loop-next.invariant.behind, c.requires.behind) in
          let here = scan-wider (space_in scan c.args.frames.now) raws known card next at c.loop-next.found.items (omega (arith, c.loop-next.invariant.behind)) (omega arith) least.from it.0
          (none-before (space_in scan c.args.frames.now) raws known next at least) it.1 in (
            subst (IsEdge scan.classes.now raws) (sym last) (edge-end (space_in scan c.args.frames.now) raws known at there),
            c.in_ok-next.ensures.found raws still there (subst (λ n. AreBelow scan raws n c.loop-next.found.items) begin here),
          );
      reads = subst (λ n. Reads ((end_on card n - c.args.next) / 2) c.args.frames.now c.scan_object.new.frames) (sym end)
          (reads-more ((end_on card next - c.args.next) / 2 + (2 + (end_on card (at + size) - begin_on card at) / 4)) _ c.args.frames.now c.scan_object.new.frames few
          (reads-both ((end_on card next - c.args.next) / 2) _ c.args.frames.now c.loop-next.frames c.scan_object.new.frames c.loop-next.invariant.reads (c.scan_object.ensures.reads held.0 later has)));
    }

pub returns-clause-found : goal.returns-clause-found
returns-clause-found c raws held edge before =
    let it = c.loop-next.invariant.scanned raws held edge before in
    let end : end_on c.args.card c.loop-next.next ≡ card_bytes * (c.args.card + 1) = omega (arith, c.from.ensures) in
    subst (λ n. AreBelow c.args.self.now raws n c.loop-next.found.items) end it.1
