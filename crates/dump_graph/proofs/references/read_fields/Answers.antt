use Rattle.std.proofs.Common.{◌≡◌, ◌-◌, ◌++◌, length, take, drop, get_or, arith, ap, sym, ◌∙◌, append_assoc, length-drop}
use Rattle.std.specs.Prelude.{sum_by, option_to_list}
use Rattle.hprof_records.specs.Types.{value_bytes}
use Rattle.dump_graph.specs.References.{reference, references_in}
use Rattle.dump_graph.proofs.Values.{cut-all, drop-plus, references-more, sizes-more, sizes-within}
use Rattle.dump_graph.proofs.references.read_fields.Goals as goal

pub returns-in_default : goal.returns-in_default
returns-in_default c =
    let i = c.loop-code.code-index in
    let codes = c.args.codes.now in
    let s = sum_by value_bytes (take i codes) in
    let left : length c.loop-code.rest.now ≡ length c.args.bytes.now - s = ap length c.loop-code.invariant.rest ∙ length-drop s c.args.bytes.now in
    omega (arith, c.in_default.ensures.lookup, left, sizes-within codes i c.loop-code-test.true, c.size_of.ensures, c.loop-code.invariant.within)

pub loop-code-preserved : goal.loop-code-preserved
loop-code-preserved c =
    let i = c.loop-code.code-index in
    let codes = c.args.codes.now in
    let bytes = c.args.bytes.now in
    let s = sum_by value_bytes (take i codes) in
    let left : length c.loop-code.rest.now ≡ length bytes - s = ap length c.loop-code.invariant.rest ∙ length-drop s bytes in
    let more = sizes-more codes i c.loop-code-test.true in
    record {
      within = omega (arith, c.in-Some.ensures.lookup, left, more, c.size_of.ensures, c.loop-code.invariant.within);
      rest =
          c.in-Some.ensures.lookup.0.2
          ∙ (cut-all c.loop-code.rest.now c.size_of.result
          ∙ (ap (λ k. drop k c.loop-code.rest.now) c.size_of.ensures
          ∙ (ap (drop (value_bytes (get_or codes i 0))) c.loop-code.invariant.rest
          ∙ (drop-plus s (value_bytes (get_or codes i 0)) bytes ∙ ap (λ k. drop k bytes) (sym more)))));
      found =
          c.in_ok-add_reference.ensures
          ∙ (ap (λ l. l ++ option_to_list (reference (get_or codes i 0) c.loop-code.rest.now)) c.loop-code.invariant.found
          ∙ (append_assoc c.args.found.now.items (references_in (take i codes) bytes) (option_to_list (reference (get_or codes i 0) c.loop-code.rest.now))
          ∙ ap (λ l. c.args.found.now.items ++ l) (ap (λ r. references_in (take i codes) bytes ++ option_to_list (reference (get_or codes i 0) r)) c.loop-code.invariant.rest ∙ sym (references-more codes bytes i c.loop-code-test.true))));
    }
