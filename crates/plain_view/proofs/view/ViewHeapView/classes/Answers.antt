use Rattle.std.proofs.Common.{subst}
use Rattle.object_view.specs.Seen.{IsShown}
use Rattle.plain_view.specs.Viewed.{first_table, Viewed}
use Rattle.plain_view.proofs.Shown.{shown}
use Rattle.plain_view.proofs.view.ViewHeapView.classes.Goals as goal

pub returns-clause-shown : goal.returns-clause-shown
returns-clause-shown c = subst (λ (w : Viewed). IsShown w.graph (first_table w.graph)) c.self.view_is (shown c.self.inside.graph.now c.self.invariant.0)
