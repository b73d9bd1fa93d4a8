use Rattle.std.proofs.Common.{◌++◌, nat_eq, get_or, take, append_assoc, sym, ◌∙◌, ap}
use Rattle.std.specs.Prelude.{option_to_list, position}
use Rattle.dump_graph.specs.Tables.{numbers_of}
use Rattle.dump_graph.proofs.Values.{numbers-more}
use Rattle.dump_graph.proofs.graph.add_numbers.Goals as goal

pub loop-id-preserved : goal.loop-id-preserved
loop-id-preserved c =
    let ids = c.args.ids.now in
    let ns = c.args.numbers.now in
    let i = c.loop-id.id-index in
    let found = c.args.found.now.items in
    let more = option_to_list (position (nat_eq (get_or ids i 0)) ns) in
    c.in_ok-add_number.ensures
    ∙ (ap (λ l. l ++ more) c.loop-id.invariant
    ∙ (append_assoc found (numbers_of ns (take i ids)) more ∙ ap (λ l. found ++ l) (sym (numbers-more ns ids i c.loop-id-test.true))))
