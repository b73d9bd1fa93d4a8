use Rattle.std.proofs.Common.{◌<◌, subst, sym, ap, ◌∙◌, arith}
use Rattle.std.proofs.lemmas.List.{get_or_read}
use Rattle.bit_set.specs.Bits.{room, is_member}
use Rattle.bit_set.proofs.SetLemmas.{has_number-test}
use Rattle.bit_set.proofs.set.BitSet.contains.Goals as goal

pub index-requires : goal.index-requires
unfolding room
index-requires c =
    let within = subst (λ b. c.args.n < room b) (sym c.self.view_is) c.requires in
    omega (arith, c.self.inside.words.ok.0)

pub returns : goal.returns
unfolding room is_member
returns c =
    let within = subst (λ b. c.args.n < room b) (sym c.self.view_is) c.requires in
    let read = get_or_read c.self.inside.words.items _ _ (omega (arith, c.self.inside.words.ok.0)) c.index.ensures 0 in
    has_number-test c.self.inside.words.items c.args.n c.index.result.now read ∙ ap (λ b. is_member b c.args.n) c.self.view_is
