use Rattle.std.proofs.Common.{◌≡◌, ◌∙◌, ◌+◌, ◌*◌, true, subst, arith}
use Rattle.std.specs.Prelude.{max}
use Rattle.model_numbers.specs.Numbers.{card_bytes}
use Rattle.raw_objects.specs.Raws.{raw_size}
use Rattle.mod_union.specs.Scans.{begin_on, end_on, space_in, AreBelow, IsEdge}
use Rattle.mod_union.proofs.Slots.{edge-last}
use Rattle.mod_union.proofs.scan.Scan.scan_before.Goals as goal

pub returns-clause-edge : goal.returns-clause-edge
returns-clause-edge c raws held =
    let scan = c.args.self.now in
    let found = c.in-Some.ensures.found in
    let has : raws.has c.in-Some.at.0 ≡ true = held.begins c.in-Some.at.0 ∙ found.member in
    let end = c.in_ok-end.ensures.end raws held has in
    let next : max (c.in-Some.at.0 + raw_size scan.classes.now raws c.in-Some.at.0) (c.args.card * card_bytes) ≡ c.max.result = omega (arith, end, c.max.ensures, c.from-2.ensures) in
    subst (IsEdge scan.classes.now raws) next (edge-last (space_in scan c.args.frames.now) raws held (c.args.card * card_bytes) c.in-Some.at.0 found)

pub returns-clause-found : goal.returns-clause-found
returns-clause-found c raws held before =
    let scan = c.args.self.now in
    let card = c.args.card in
    let found = c.in-Some.ensures.found in
    let low = found.below in
    let has : raws.has c.in-Some.at.0 ≡ true = held.begins c.in-Some.at.0 ∙ found.member in
    let begin : card_bytes * card ≡ begin_on card c.in-Some.at.0 = omega (arith, low) in
    let next : end_on card c.in_ok-end.end ≡ end_on card c.max.result = omega (arith, c.max.ensures, c.from-2.ensures) in
    subst (λ n. AreBelow scan raws n c.scan_object.new.found.items) next
    (c.in_ok-end.ensures.found raws held has (subst (λ n. AreBelow scan raws n c.args.found.now.items) begin before))
