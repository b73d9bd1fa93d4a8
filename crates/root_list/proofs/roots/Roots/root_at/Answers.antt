use Rattle.std.proofs.Common.{◌∙◌, ◌<◌, ap, sym, subst, length, slice_get, drop}
use Rattle.std.proofs.lemmas.Bool.{eqb-true}
use Rattle.root_list.specs.Places.{roots_of}
use Rattle.root_list.proofs.PlaceLemmas.{direct}
use Rattle.root_list.proofs.roots.Roots.root_at.Goals as goal

pub nth-requires-clause-within : goal.nth-requires-clause-within
nth-requires-clause-within c =
    let ns = c.self.inside.table.names.items in
    let ats = c.self.inside.table.addresses.items in
    let rule = direct ns ats c.args.k c.self.invariant.long (eqb-true _ _ (sym c.is_packed.ensures ∙ c.if-is_packed.true)) (subst (λ v. c.args.k < length v.roots) (sym c.self.view_is) c.requires) in
    subst (λ ps. 0 < length (roots_of (drop c.args.k ps) (drop c.args.k c.deref-then-is_packed.result.now))) (sym c.deref.ensures.value)
    (subst (λ as'. 0 < length (roots_of (drop c.args.k ns) (drop c.args.k as'))) (sym c.deref-then-is_packed.ensures.value) rule.0)

pub returns-then-is_packed : goal.returns-then-is_packed
returns-then-is_packed c =
    let ns = c.self.inside.table.names.items in
    let ats = c.self.inside.table.addresses.items in
    let rule = direct ns ats c.args.k c.self.invariant.long (eqb-true _ _ (sym c.is_packed.ensures ∙ c.if-is_packed.true)) (subst (λ v. c.args.k < length v.roots) (sym c.self.view_is) c.requires) in
    ap (λ v. slice_get v.roots c.args.k) (sym c.self.view_is)
    ∙ sym rule.1
    ∙ ap (λ ps. slice_get (roots_of (drop c.args.k ps) (drop c.args.k ats)) 0) (sym c.deref.ensures.value)
    ∙ ap (λ as'. slice_get (roots_of (drop c.args.k c.deref.result.now) (drop c.args.k as')) 0) (sym c.deref-then-is_packed.ensures.value)
    ∙ c.nth.ensures
