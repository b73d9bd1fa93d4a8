use Rattle.std.proofs.Common.{sym, ◌∙◌}
use Rattle.dump_graph.proofs.Marks.{marks-known}
use Rattle.dump_graph.proofs.graph.mark_root.Goals as goal

pub returns-in-Some-number_of-clause-marked : goal.returns-in-Some-number_of-clause-marked
returns-in-Some-number_of-clause-marked c = λ k apart within.
    marks-known c.args.roots.now c.args.numbers.now c.args.part.now c.in-Some.id c.in-Some-number_of.number k
    (sym c.root_id.ensures ∙ c.in-Some.is) (sym c.number_of.ensures ∙ c.in-Some-number_of.is) apart within c.requires
