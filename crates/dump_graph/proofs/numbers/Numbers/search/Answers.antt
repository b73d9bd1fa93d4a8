use Rattle.std.proofs.Common.{Err, nat_eq, ap, ◌∙◌}
use Rattle.std.specs.Prelude.{position}
use Rattle.std.proofs.lemmas.List.Sorted.{searched}
use Rattle.dump_graph.proofs.Numberings.{searched-past}
use Rattle.dump_graph.proofs.numbers.Numbers.search.Goals as goal

pub returns-in-Err : goal.returns-in-Err
returns-in-Err c =
    let of = c.self.inside in
    let found = searched of.rising.items c.args.id (Err c.in-Err.field-0) (rw c.deref.ensures.value at c.in-Err.ensures.position) c.self.invariant.rises in
    c.copied.ensures
    ∙ (c.get.ensures.value
    ∙ (searched-past of.ids.items of.limit of.rising.items of.places.items of.others c.self.invariant c.args.id c.in-Err.field-0 found.1 found.2 ∙ ap (position (nat_eq c.args.id)) c.self.view_is))
