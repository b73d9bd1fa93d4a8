use Rattle.std.proofs.Common.{ap, ◌∙◌, arith}
use Rattle.mark_bitmap.specs.Marks.{is_marked}
use Rattle.mark_bitmap.proofs.MarksLemmas.{is_marked-grow}
use Rattle.mark_bitmap.proofs.bitmap.Bitmap.grow.Goals as goal

pub returns-in_ok-grow-clause-same_members : goal.returns-in_ok-grow-clause-same_members
returns-in_ok-grow-clause-same_members c = λ q.
    is_marked-grow c.self.inside.from c.self.inside.bytes c.self.inside.bits c.self.invariant c.grow.new.self c.args.bytes (omega arith)
    c.in_ok-grow.ensures.keeps_members q
    ∙ ap (λ b. is_marked b q) c.self.view_is
