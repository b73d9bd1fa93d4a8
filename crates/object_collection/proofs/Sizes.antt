-- How many objects regions hold.
use Rattle.std.proofs.Common.{ℕ, ◌+◌, ◌*◌, ◌≤◌, List, [], ◌∷◌, length, arith}
use Rattle.class_layout.specs.ClassList.{Class}
use Rattle.page_tables.specs.declared.address.Addr.{Addr}
use Rattle.cow_pages.specs.Memory.{Memory}
use Rattle.heap_graph.specs.Packing.{after, end_from}
use Rattle.heap_graph.proofs.Sizes.{after-above}
use Rattle.object_view.proofs.Laid.{size-bounds}
use Rattle.raw_objects.specs.Raws.{raw_size, Raws}
use Rattle.region_space.proofs.PackLemmas.{ends-rows}
use Rattle.object_moves.specs.Copies.{sizes_at}
use Rattle.object_collection.specs.Collects.{CanCollect, HeapState}

ends-far : (cs : List Class) (raws : Raws) (p : ℕ) (ats : List Addr) → p + 8 * length ats ≤ end_from p (sizes_at cs raws ats)
ends-far cs raws p [] = omega arith
ends-far cs raws p (a ∷ ats) =
    let size : ℕ = raw_size cs raws a.0 in
    let bounds = size-bounds cs (raws.raw a.0).shape in
    let some : 8 ≤ size = omega (arith, bounds.0, bounds.1, bounds.2) in
    let step = after-above p size in
    let rest = ends-far cs raws (after p size) ats in
    omega (arith, some, step, rest)

-- a process has fewer objects in its regions than a number of 32 bits tells
pub objects-few : (h : HeapState) (m : Memory) (t : ℕ) (raws : Raws) → CanCollect h m t raws → h.regions.objects ≤ 16777216
objects-few h m t raws can =
    let it = can.young.1 in
    let ends = ends-rows h.regions.in_use (sizes_at h.classes raws can.young.0) it.packed.pack in
    let far = ends-far h.classes raws 0 can.young.0 in
    let half = it.half in
    let few = can.held.space.few in
    let count = it.count in
    let end = ends.end in
    let most = ends.most in
    omega (arith, end, most, far, half, few, count)
