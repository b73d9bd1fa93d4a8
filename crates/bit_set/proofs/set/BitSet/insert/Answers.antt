use Rattle.std.proofs.Common.{◌*◌, ◌/◌, ◌%◌, ◌^◌, ◌<◌, ◌||◌, ◌==◌, set, bit_or, subst, sym, ap, ◌∙◌, arith, length-set}
use Rattle.std.proofs.lemmas.List.{get_or_read}
use Rattle.bit_set.specs.Bits.{room, is_member, has_number}
use Rattle.bit_set.proofs.SetLemmas.{has_number-set}
use Rattle.bit_set.proofs.set.BitSet.insert.Goals as goal

pub index_mut-requires : goal.index_mut-requires
unfolding room
index_mut-requires c =
    let within = subst (λ b. c.args.n < room b) (sym c.self.view_is) c.requires in
    omega (arith, c.self.inside.words.ok.0)

pub returns-clause-member : goal.returns-clause-member
unfolding room is_member
returns-clause-member c =
    let n = c.args.n in
    let ws = c.self.inside.words.items in
    let within = subst (λ b. n < room b) (sym c.self.view_is) c.requires in
    let read = get_or_read ws _ _ (omega (arith, c.self.inside.words.ok.0)) c.index_mut.ensures.value 0 in
    λ q.
    ap (λ w. has_number (set ws (n / 64) (bit_or w (1 * 2 ^ (n % 64) % 2 ^ 64))) q) read
    ∙ has_number-set ws n q (omega arith) ∙ ap (λ b. (q == n) || is_member b q) c.self.view_is

pub returns-clause-same_room : goal.returns-clause-same_room
unfolding room
returns-clause-same_room c =
    ap (λ k. 64 * k) (length-set c.self.inside.words.items _ _) ∙ ap room c.self.view_is
