use Rattle.mark_bitmap.proofs.MarksLemmas.{is_marked-empty}
use Rattle.mark_bitmap.proofs.bitmap.Bitmap.clear_all.Goals as goal

pub returns-clause-empty : goal.returns-clause-empty
returns-clause-empty c = is_marked-empty c.self.inside.from c.self.inside.bytes c.clear.new.self c.clear.ensures.empty
