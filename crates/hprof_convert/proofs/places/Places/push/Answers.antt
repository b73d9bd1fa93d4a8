use Rattle.std.proofs.Common.{◌≡◌, ◌∙◌, List, ℕ, Some, nat_eq, cond, ap, sym, subst, length, arith}
use Rattle.std.specs.Prelude.{position}
use Rattle.std.specs.Option.{is_some}
use Rattle.std.specs.Ordering.{is_eq, nat_cmp}
use Rattle.std.specs.BTreeMap.{get}
use Rattle.dump_graph.proofs.Firsts.{none-is}
use Rattle.hprof_convert.specs.Placed.{ArePlaced}
use Rattle.hprof_convert.proofs.Placings.{placed-new}
use Rattle.hprof_convert.proofs.places.Places.push.Goals as goal

pub invariant_of-self-in-Ok : goal.invariant_of-self-in-Ok
invariant_of-self-in-Ok c =
    let of = c.self.inside in
    let ids = of.ids.items in
    let id = c.args.id in
    let new = none-is (position (nat_eq id) ids) (sym (sym c.if-known.false ∙ (c.is_some-known.ensures ∙ ap is_some (c.place_of.ensures ∙ ap (position (nat_eq id)) (sym c.self.view_is))))) in
    let number : c.len-place.result ≡ length ids = c.len-place.ensures ∙ of.ids.ok.0 in
    subst (λ (l : List ℕ). ArePlaced l c.insert.new.self) (sym c.in_ok-push.ensures.items)
    (placed-new ids of.firsts c.insert.new.self id c.self.invariant (omega (arith, number, c.if-place.false)) new
    (λ q. c.in-Ok.ensures.updates.0 q ∙ ap (λ (n : ℕ). cond (is_eq (nat_cmp id q)) (Some n) (get nat_cmp of.firsts q)) number))
