use Rattle.std.proofs.Common.{◌*◌, length, ap, ◌∙◌}
use Rattle.std.proofs.lemmas.List.{length-replicate}
use Rattle.bit_set.specs.Bits.{room, is_member, has_number}
use Rattle.bit_set.proofs.SetLemmas.{has_number-zeros}
use Rattle.bit_set.proofs.set.BitSet.clear.Goals as goal

pub returns-clause-empty : goal.returns-clause-empty
unfolding is_member
returns-clause-empty c = λ q. ap (λ ws. has_number ws q) (c.fill.ensures.items (λ y e. e)) ∙ has_number-zeros _ q

pub returns-clause-same_room : goal.returns-clause-same_room
unfolding room
returns-clause-same_room c =
    ap (λ ws. 64 * length ws) (c.fill.ensures.items (λ y e. e)) ∙ ap (λ k. 64 * k) (length-replicate _ 0 ∙ c.self.inside.words.ok.0)
    ∙ ap room c.self.view_is
