use Rattle.std.proofs.Common.{◌||◌, ◌==◌, subst, sym, ap, ◌∙◌}
use Rattle.mark_bitmap.specs.Marks.{is_marked, IsPlace}
use Rattle.mark_bitmap.proofs.MarksLemmas.{is_marked-set}
use Rattle.mark_bitmap.proofs.bitmap.Bitmap.set.Goals as goal

pub returns-clause-member : goal.returns-clause-member
returns-clause-member c = λ q.
    is_marked-set c.self.inside.from c.self.inside.bytes c.self.inside.bits c.self.invariant c.insert.new.self c.args.at.0
    (subst (λ b. IsPlace b c.args.at.0) (sym c.self.view_is) c.requires) c.insert.ensures.member q
    ∙ ap (λ b. (q == c.args.at.0) || is_marked b q) c.self.view_is
