use Rattle.std.proofs.Common.{subst, sym, ap, ◌∙◌}
use Rattle.mark_bitmap.specs.Marks.{is_marked, IsPlace}
use Rattle.mark_bitmap.proofs.MarksLemmas.{is_marked-place, marks}
use Rattle.mark_bitmap.proofs.bitmap.Bitmap.test.Goals as goal

pub returns : goal.returns
returns c =
    c.contains.ensures
    ∙ sym (is_marked-place (marks c.self.inside.from c.self.inside.bytes c.self.inside.bits) c.args.at.0
    (subst (λ b. IsPlace b c.args.at.0) (sym c.self.view_is) c.requires))
    ∙ ap (λ b. is_marked b c.args.at.0) c.self.view_is
