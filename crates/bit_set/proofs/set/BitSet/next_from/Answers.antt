use Rattle.std.proofs.Common.{ℕ, Bool, IfSome, IfNone, subst, ap, ◌∙◌}
use Rattle.std.proofs.lemmas.Option.{IfSome_then}
use Rattle.bit_set.specs.Bits.{is_member, has_number}
use Rattle.bit_set.specs.Tests.{NoneFrom, IsLeastFrom}
use Rattle.bit_set.proofs.SetLemmas.{IsNone-from, member_within}
use Rattle.bit_set.proofs.set.BitSet.next_from.Goals as goal

pub returns-clause-found : goal.returns-clause-found
unfolding is_member
returns-clause-found c =
    let same = ap has_number c.deref.ensures.value ∙ ap is_member c.self.view_is in
    subst (λ (has : ℕ → Bool). IfSome c.next_from.result (IsLeastFrom has c.args.n)) same c.next_from.ensures.found

pub returns-clause-none : goal.returns-clause-none
unfolding is_member
returns-clause-none c =
    let same = ap has_number c.deref.ensures.value ∙ ap is_member c.self.view_is in
    IsNone-from (is_member c.args.self.now) c.args.n c.next_from.result (returns-clause-found c)
    (subst (λ (has : ℕ → Bool). IfNone c.next_from.result (NoneFrom has c.args.n)) same c.next_from.ensures.none)

pub returns-clause-within : goal.returns-clause-within
returns-clause-within c = IfSome_then c.next_from.result (returns-clause-found c) (λ q found. member_within c.args.self.now q found.member)
