use Rattle.std.proofs.Common.{◌∙◌, ◌*◌, ◌/◌, ◌<◌, ℕ, List, length, ap, sym, subst, arith}
use Rattle.std.proofs.lemmas.List.{get_or_read}
use Rattle.model_numbers.specs.Numbers.{region_bytes}
use Rattle.live_objects.specs.Marks.{IsAddress, address_at}
use Rattle.live_objects.proofs.OrderLemmas.{order-address}
use Rattle.live_objects.proofs.order.RegionOrder.address.Goals as goal

pub returns-clause-value : goal.returns-clause-value
returns-clause-value c =
    let numbers = c.self.inside.in_use.items in
    let below : c.args.place.0 < region_bytes * length numbers = subst (λ (ns : List ℕ). c.args.place.0 < region_bytes * length ns) (sym c.self.view_is) c.requires in
    let read = get_or_read numbers (c.args.place.0 / region_bytes) c.index-region.result.now (omega (arith, below)) c.index-region.ensures 0 in
    omega (arith, read) ∙ ap (λ (ns : List ℕ). address_at ns c.args.place.0) c.self.view_is

pub returns-clause-is : goal.returns-clause-is
returns-clause-is c =
    let below = subst (λ (ns : List ℕ). c.args.place.0 < region_bytes * length ns) (sym c.self.view_is) c.requires in
    subst (λ (ns : List ℕ). IsAddress ns c.args.place.0) c.self.view_is (order-address c.self.inside.in_use.items c.self.inside.index.items c.args.place.0 c.self.invariant below)
