use Rattle.std.proofs.Common.{sym, subst}
use Rattle.zygote_space.specs.Space.{HasPagesUpTo}
use Rattle.zygote_compact.proofs.Spots.{pages-up-to}
use Rattle.zygote_compact.proofs.laws.spots_have_pages.Goals as goal

pub returns : goal.returns
returns c h m t g z heap s = subst (HasPagesUpTo m t) (sym s.fill) (pages-up-to h m t g heap)
