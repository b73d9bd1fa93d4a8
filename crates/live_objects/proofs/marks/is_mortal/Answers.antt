use Rattle.std.proofs.Common.{◌∙◌, sym}
use Rattle.live_objects.proofs.MarkLemmas.{immune-off}
use Rattle.live_objects.proofs.marks.is_mortal.Goals as goal

pub returns-else-in_large : goal.returns-else-in_large
returns-else-in_large c =
    c.if-in_large.false ∙ sym (immune-off c.args.larges.now c.args.at.0 c.requires.rows (sym c.in_regions.ensures ∙ c.if-in_regions.false) (sym c.in_large.ensures ∙ c.if-in_large.false))
