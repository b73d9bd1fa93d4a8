use Rattle.std.proofs.Common.{◌≡◌, Some, None, nat_eq, ap, sym, subst, ◌∙◌, arith}
use Rattle.std.specs.List.{position}
use Rattle.heap_graph.specs.Graph.{Graph}
use Rattle.heap_graph.specs.Table.{Fits}
use Rattle.plain_view.specs.Viewed.{address_at, at_address, first_table, Viewed}
use Rattle.plain_view.proofs.Found.{address-read, found-address, no-address}
use Rattle.plain_view.proofs.Shown.{first-fits}
use Rattle.plain_view.proofs.view.View.address_of.Goals as goal

pub overflow_cast-result : goal.overflow_cast-result
overflow_cast-result c =
    let g : Graph = c.self.inside.graph.now in
    let placed : position (λ o. nat_eq o.number c.args.number) g.objects ≡ Some c.in_ok-i.i =
    ap (λ os. position (λ o. nat_eq o.number c.args.number) os) (sym c.objects.ensures) ∙ sym c.place_of.ensures ∙ c.in_ok-i.was in
    let read : c.index.result.now ≡ first_table g c.args.number =
    address-read (first_table g) c.args.number g.objects c.self.inside.addresses.items c.in_ok-i.i c.index.result.now c.self.invariant.1 placed c.index.ensures in
    let fits : Fits (first_table g) g = first-fits g c.self.invariant.0 in
    let small = fits.below c.args.number in
    omega (arith, read, small)

pub returns : goal.returns
returns c =
    let g : Graph = c.self.inside.graph.now in
    let placed : position (λ o. nat_eq o.number c.args.number) g.objects ≡ Some c.in_ok-i.i =
    ap (λ os. position (λ o. nat_eq o.number c.args.number) os) (sym c.objects.ensures) ∙ sym c.place_of.ensures ∙ c.in_ok-i.was in
    let read : c.index.result.now ≡ first_table g c.args.number =
    address-read (first_table g) c.args.number g.objects c.self.inside.addresses.items c.in_ok-i.i c.index.result.now c.self.invariant.1 placed c.index.ensures in
    subst (λ (w : Viewed). Some (at_address c.index.result.now) ≡ address_at w.graph c.args.number) c.self.view_is
    (found-address g c.args.number c.in_ok-i.i c.index.result.now placed read)

pub returns-in_err-i : goal.returns-in_err-i
returns-in_err-i c =
    let g : Graph = c.self.inside.graph.now in
    let none : position (λ o. nat_eq o.number c.args.number) g.objects ≡ None =
    ap (λ os. position (λ o. nat_eq o.number c.args.number) os) (sym c.objects.ensures) ∙ sym c.place_of.ensures ∙ c.in_err-i.was in
    c.from_residual.ensures ∙ subst (λ (w : Viewed). None ≡ address_at w.graph c.args.number) c.self.view_is (no-address g c.args.number none)
