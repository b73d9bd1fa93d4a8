use Rattle.std.proofs.Common.{ℕ, List, ap, sym, subst, ◌∙◌, nat_eq}
use Rattle.std.specs.Prelude.{position}
use Rattle.dump_graph.specs.Classes.{Class}
use Rattle.dump_graph.specs.Firsts.{IsApart}
use Rattle.dump_graph.proofs.Firsts.{added-known, added-new, none-is}
use Rattle.dump_graph.proofs.Positions.{apart-push}
use Rattle.dump_graph.proofs.classes.add_class.Goals as goal

pub returns-in_ok-push-clause-known : goal.returns-in_ok-push-clause-known
returns-in_ok-push-clause-known c =
    c.in_ok-push.ensures.items
    ∙ sym (added-new (λ (x : Class). x.id) c.args.known.now.items c.args.class c.args.numbers.now c.class.inside.id c.in_ok-add.field-0 c.requires (ap (λ (x : Class). x.id) c.class.view_is) c.in_ok-add.ensures.new c.if-branch.true)

pub returns-in_ok-push-clause-apart : goal.returns-in_ok-push-clause-apart
returns-in_ok-push-clause-apart c = λ apart.
    subst (λ (l : List ℕ). IsApart l) (sym (c.in_ok-add.ensures.added c.if-branch.true))
    (apart-push c.args.numbers.now c.class.inside.id apart (none-is (position (nat_eq c.class.inside.id) c.args.numbers.now) (c.in_ok-add.ensures.new.0 c.if-branch.true)))

pub returns-else-branch-clause-known : goal.returns-else-branch-clause-known
returns-else-branch-clause-known c =
    sym (added-known (λ (x : Class). x.id) c.args.known.now.items c.args.class c.args.numbers.now c.class.inside.id c.in_ok-add.field-0 c.requires (ap (λ (x : Class). x.id) c.class.view_is) c.in_ok-add.ensures.new c.if-branch.false)
