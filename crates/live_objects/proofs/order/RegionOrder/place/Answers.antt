use Rattle.std.proofs.Common.{◌≡◌, ◌∙◌, ℕ, List, true, ap, sym, subst, arith}
use Rattle.heap_graph.specs.Reach.{is_among}
use Rattle.live_objects.specs.Marks.{place_of, region_of}
use Rattle.live_objects.proofs.OrderLemmas.{read-is}
use Rattle.live_objects.proofs.order.RegionOrder.place.Goals as goal

pub overflow_mul-result : goal.overflow_mul-result
overflow_mul-result c =
    let among = subst (λ (ns : List ℕ). is_among ns (region_of c.args.at.0) ≡ true) (sym c.self.view_is) c.requires.in_use in
    omega (arith, (read-is c.self.inside.in_use.items c.self.inside.index.items c.args.at.0 c.index-index.result.now c.self.invariant c.requires.inside among c.index-index.ensures).small)

pub overflow_add-result : goal.overflow_add-result
overflow_add-result c =
    let among = subst (λ (ns : List ℕ). is_among ns (region_of c.args.at.0) ≡ true) (sym c.self.view_is) c.requires.in_use in
    omega (arith, (read-is c.self.inside.in_use.items c.self.inside.index.items c.args.at.0 c.index-index.result.now c.self.invariant c.requires.inside among c.index-index.ensures).small)

pub returns : goal.returns
returns c =
    let among = subst (λ (ns : List ℕ). is_among ns (region_of c.args.at.0) ≡ true) (sym c.self.view_is) c.requires.in_use in
    (read-is c.self.inside.in_use.items c.self.inside.index.items c.args.at.0 c.index-index.result.now c.self.invariant c.requires.inside among c.index-index.ensures).place
    ∙ ap (λ (ns : List ℕ). place_of ns c.args.at.0) c.self.view_is
