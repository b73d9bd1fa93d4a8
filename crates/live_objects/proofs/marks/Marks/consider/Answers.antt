use Rattle.std.proofs.Common.{◌∙◌, sym}
use Rattle.live_objects.proofs.MarkLemmas.{considered}
use Rattle.live_objects.proofs.marks.Marks.consider.Goals as goal

pub mark-requires : goal.mark-requires
mark-requires c = considered c.args.larges.now c.args.self.now.numbers c.args.at.0 c.requires.rows c.requires.can (sym c.is_mortal.ensures ∙ c.if-is_mortal.true)
