use Rattle.std.proofs.Common.{◌∙◌, sym}
use Rattle.live_objects.proofs.MarkLemmas.{mark-below}
use Rattle.live_objects.proofs.TakesLemmas.{not-false, not-true, takes-new, takes-old}
use Rattle.live_objects.proofs.marks.Marks.mark.Goals as goal

pub returns-in_ok-push : goal.returns-in_ok-push
returns-in_ok-push c =
    takes-new c.args.self.now c.set.new.self c.push.new.self c.args.at.0 c.requires (mark-below c.args.self.now.numbers c.args.at.0 c.requires) (not-true _ (sym c.set.ensures.new ∙ c.if-set.true)) (record { numbers = c.set.ensures.rest.0; sets = c.set.ensures.sets }) c.set.ensures.rest.1 c.in_ok-push.ensures

pub returns-else-set : goal.returns-else-set
returns-else-set c = takes-old c.args.self.now c.set.new.self c.args.at.0 (not-false _ (sym c.set.ensures.new ∙ c.if-set.false)) (record { numbers = c.set.ensures.rest.0; sets = c.set.ensures.sets }) c.set.ensures.rest.1
