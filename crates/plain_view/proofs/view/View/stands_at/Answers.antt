use Rattle.std.proofs.Common.{ap, ◌∙◌}
use Rattle.std.specs.Prelude.{unwrap_or}
use Rattle.plain_view.specs.Viewed.{at_address}
use Rattle.plain_view.proofs.Found.{stands}
use Rattle.plain_view.proofs.view.View.stands_at.Goals as goal

pub returns : goal.returns
returns c = stands c.args.self.now.graph c.args.number c.unwrap_or.result (c.unwrap_or.ensures ∙ ap (λ o. unwrap_or o (at_address 0)) c.address_of.ensures)
