use Rattle.std.proofs.Common.{◌++◌, ap, sym, ◌∙◌}
use Rattle.dump_graph.specs.Climbing.{gathered}
use Rattle.dump_graph.specs.References.{references_in}
use Rattle.dump_graph.proofs.ReadAll.{laid-fits, laid-none, laid-unfit}
use Rattle.dump_graph.proofs.classes.Classes.find_references.Goals as goal

pub returns-in_default : goal.returns-in_default
returns-in_default c = c.clear.ensures.items ∙ laid-none c.args.self.now.first c.args.self.now.dumps c.args.class c.args.bytes.now (sym c.laid_out.ensures ∙ c.in_default.is)

pub returns-then-not-branch : goal.returns-then-not-branch
returns-then-not-branch c =
    let known = c.args.self.now in
    c.clear-then-not-branch.ensures.items
    ∙ laid-unfit known.first known.dumps c.args.class c.in-Some.number c.args.bytes.now c.in_ok-read_values.field-0 (sym c.laid_out.ensures ∙ c.in-Some.is) c.in_ok-read_values.ensures.fits c.if-not-branch.true

pub returns-else-not-branch : goal.returns-else-not-branch
returns-else-not-branch c =
    let known = c.args.self.now in
    let refers = references_in (gathered known.first known.dumps c.in-Some.number) c.args.bytes.now in
    laid-fits known.first known.dumps c.args.class c.in-Some.number c.args.bytes.now c.in_ok-read_values.field-0 (sym c.laid_out.ensures ∙ c.in-Some.is) c.in_ok-read_values.ensures.fits
    c.read_values.new.found.items c.if-not-branch.false (c.in_ok-read_values.ensures.found c.if-not-branch.false ∙ ap (λ l. l ++ refers) c.clear.ensures.items)
