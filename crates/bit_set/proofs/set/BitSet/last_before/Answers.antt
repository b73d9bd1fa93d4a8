use Rattle.std.proofs.Common.{ℕ, Bool, IfSome, IfNone, subst, ap, ◌∙◌}
use Rattle.std.proofs.lemmas.Option.{IfSome_then}
use Rattle.bit_set.specs.Bits.{is_member, has_number}
use Rattle.bit_set.specs.Tests.{NoneBelow, IsGreatestBelow}
use Rattle.bit_set.proofs.SetLemmas.{IsNone-below, member_within}
use Rattle.bit_set.proofs.set.BitSet.last_before.Goals as goal

pub returns-clause-found : goal.returns-clause-found
unfolding is_member
returns-clause-found c =
    let same = ap has_number c.deref.ensures.value ∙ ap is_member c.self.view_is in
    subst (λ (has : ℕ → Bool). IfSome c.last_before.result (IsGreatestBelow has c.args.n)) same c.last_before.ensures.found

pub returns-clause-none : goal.returns-clause-none
unfolding is_member
returns-clause-none c =
    let same = ap has_number c.deref.ensures.value ∙ ap is_member c.self.view_is in
    IsNone-below (is_member c.args.self.now) c.args.n c.last_before.result (returns-clause-found c)
    (subst (λ (has : ℕ → Bool). IfNone c.last_before.result (NoneBelow has c.args.n)) same c.last_before.ensures.none)

pub returns-clause-within : goal.returns-clause-within
returns-clause-within c = IfSome_then c.last_before.result (returns-clause-found c) (λ q found. member_within c.args.self.now q found.member)
