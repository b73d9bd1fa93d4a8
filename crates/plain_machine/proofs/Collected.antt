-- What a collection keeps is no more than there was.
use Rattle.std.proofs.Common.{◌≡◌, ◌≤◌, not, List, length, map, filter, arith}
use Rattle.std.proofs.lemmas.List.{length-map}
use Rattle.std.proofs.lemmas.List.Sums.{count_by-le-length, length-filter}
use Rattle.heap_graph.specs.Collection.{cleared, collect, is_kept, loose_count}
use Rattle.heap_graph.specs.Graph.{Graph, Object, is_immune}
use Rattle.heap_graph.specs.Reach.{reached}
use Rattle.heap_world.proofs.FormedKept.{collect_formed}

pub collected_fewer : (g : Graph) → length (collect g).objects ≤ length g.objects
collected_fewer g =
    let kept : List Object = filter (is_kept g.sealed (reached g)) g.objects in
    let same : length (map (cleared (map (λ o. o.number) kept)) kept) ≡ length kept = length-map kept (cleared (map (λ o. o.number) kept)) in
    let count = length-filter (is_kept g.sealed (reached g)) g.objects in
    let few = count_by-le-length (is_kept g.sealed (reached g)) g.objects in
    omega (arith, same, count, few)

pub loose_fewer : (g : Graph) → loose_count (collect g) ≤ length g.objects
loose_fewer g =
    let loose = count_by-le-length (λ o. not (is_immune g.sealed o.place)) (collect g).objects in
    let few = collected_fewer g in
    omega (arith, loose, few)

pub ruleset collecting = (collect_formed, collected_fewer, loose_fewer)
