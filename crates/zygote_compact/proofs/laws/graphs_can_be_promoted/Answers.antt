use Rattle.zygote_compact.proofs.Can.{can-promote}
use Rattle.zygote_compact.proofs.laws.graphs_can_be_promoted.Goals as goal

pub returns : goal.returns
returns c h m t g z k s = can-promote h m t g z s k
