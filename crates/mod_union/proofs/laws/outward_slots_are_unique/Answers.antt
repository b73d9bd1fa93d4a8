use Rattle.mod_union.specs.ModUnion.{slot_address}
use Rattle.mod_union.proofs.Lists.{rising-one}
use Rattle.mod_union.proofs.laws.outward_slots_are_unique.Goals as goal

pub returns : goal.returns
returns c cs raws rows one other f g =
    rising-one slot_address 0 one other f.rising g.rising (λ s there. (g.exact s).1 ((f.exact s).0 there)) (λ s there. (f.exact s).1 ((g.exact s).0 there))
