use Rattle.std.proofs.Common.{◌≡◌, ◌∙◌, List, ℕ, Some, None, nat_eq, cond, refl, ap, sym, subst, length, arith}
use Rattle.std.specs.Prelude.{position, IsNone}
use Rattle.std.specs.Option.{is_some}
use Rattle.std.specs.Ordering.{is_eq, nat_cmp}
use Rattle.std.specs.BTreeMap.{get}
use Rattle.dump_graph.specs.Numbering.{IsNumbering}
use Rattle.dump_graph.proofs.Firsts.{none-is}
use Rattle.dump_graph.proofs.Numberings.{new-above, numbering-other}
use Rattle.dump_graph.proofs.numbers.Numbers.add.Goals as goal

pub returns-then-id-self-clause-new : goal.returns-then-id-self-clause-new
returns-then-id-self-clause-new c =
    let ids = c.self.inside.ids.items in
    let none : position (nat_eq c.args.id) ids ≡ None = new-above ids c.args.id (λ k d within. let r = c.self.invariant.below k d within in omega (arith, r, c.if-id-self.true)) in
    (λ _. subst IsNone (sym (ap (position (nat_eq c.args.id)) (sym c.self.view_is) ∙ none)) refl, λ _. refl)

pub invariant_of-self-in-Ok : goal.invariant_of-self-in-Ok
invariant_of-self-in-Ok c =
    let of = c.self.inside in
    let ids = of.ids.items in
    let id = c.args.id in
    let new = none-is (position (nat_eq id) ids) (sym (c.if-is_some.ensures ∙ ap is_some (c.number_of.ensures ∙ ap (position (nat_eq id)) (sym c.self.view_is)))) in
    let number : c.len-number.result ≡ length ids = c.len-number.ensures ∙ of.ids.ok.0 in
    subst (λ (l : List ℕ). IsNumbering l of.limit of.rising.items of.places.items c.insert.new.self) (sym c.in_ok-push.ensures.items)
    (numbering-other ids of.limit of.rising.items of.places.items of.others c.self.invariant id c.insert.new.self new (omega (arith, c.if-id-self.false))
    (λ q. c.in-Ok.ensures.updates.0 q ∙ ap (λ (n : ℕ). cond (is_eq (nat_cmp id q)) (Some n) (get nat_cmp of.others q)) number))
