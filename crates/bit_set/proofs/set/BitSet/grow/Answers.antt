use Rattle.std.proofs.Common.{◌*◌, ◌≤◌, length, subst, sym, ap, ◌∙◌, arith}
use Rattle.bit_set.specs.Bits.{room, is_member, has_number}
use Rattle.bit_set.proofs.SetLemmas.{has_number-grown}
use Rattle.bit_set.proofs.set.BitSet.grow.Goals as goal

pub returns-in_err-resize-clause-there : goal.returns-in_err-resize-clause-there
unfolding room
returns-in_err-resize-clause-there c = λ enough.
    let had = subst (λ b. c.args.at_least ≤ room b) (sym c.self.view_is) enough in
    absurd (omega (arith, c.self.inside.words.ok.0))

pub returns-in_ok-resize-clause-ok : goal.returns-in_ok-resize-clause-ok
unfolding room
returns-in_ok-resize-clause-ok c = omega (arith, c.in_ok-resize.ensures.len, c.resize.new.self.ok.0)

pub returns-in_ok-resize-clause-keeps_room : goal.returns-in_ok-resize-clause-keeps_room
unfolding room
returns-in_ok-resize-clause-keeps_room c =
    subst (λ b. room b ≤ 64 * length c.resize.new.self.items) c.self.view_is
    (omega (arith, c.in_ok-resize.ensures.len, c.resize.new.self.ok.0, c.self.inside.words.ok.0))

pub returns-in_ok-resize-clause-keeps_members : goal.returns-in_ok-resize-clause-keeps_members
unfolding is_member
returns-in_ok-resize-clause-keeps_members c = λ q.
    ap (λ ws. has_number ws q) c.in_ok-resize.ensures.items
    ∙ has_number-grown c.self.inside.words.items _ _ q (omega (arith, c.self.inside.words.ok.0))
    ∙ ap (λ b. is_member b q) c.self.view_is

pub returns-in_ok-resize-clause-there : goal.returns-in_ok-resize-clause-there
unfolding room
returns-in_ok-resize-clause-there c = λ enough.
    let had = subst (λ b. c.args.at_least ≤ room b) (sym c.self.view_is) enough in
    absurd (omega (arith, c.self.inside.words.ok.0))

pub returns-else-count-len-clause-ok : goal.returns-else-count-len-clause-ok
unfolding room
returns-else-count-len-clause-ok c =
    subst (λ b. c.args.at_least ≤ room b) c.self.view_is (omega (arith, c.self.inside.words.ok.0))

pub returns-in_ok-resize-clause-no_more : goal.returns-in_ok-resize-clause-no_more
unfolding room
returns-in_ok-resize-clause-no_more c = λ n had asked. omega (arith, asked, c.in_ok-resize.ensures.len, c.resize.new.self.ok.0)
