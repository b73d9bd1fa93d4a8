use Rattle.mark_bitmap.proofs.MarksLemmas.{is_marked-empty}
use Rattle.std.proofs.Common.{◌∙◌}
use Rattle.mark_bitmap.proofs.bitmap.Bitmap.new.Goals as goal

pub returns-clause-empty : goal.returns-clause-empty
returns-clause-empty c =
    is_marked-empty _ _ c.grow.new.self (λ q. c.in_ok-grow.ensures.keeps_members q ∙ c.new-bits.ensures.empty q)
