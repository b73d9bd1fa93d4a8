use Rattle.std.proofs.Common.{◌≡◌, arith, rules}
use Rattle.heap_graph.specs.Allocation.{make}
use Rattle.heap_graph.specs.Allocation as allocated
use Rattle.plain_machine.proofs.Making.{full_fits}
use Rattle.plain_machine.proofs.part.Part.make_slots.Goals as goal

pub overflow_cast-needed : goal.overflow_cast-needed
overflow_cast-needed c =
    let full : make c.args.self.now.graph c.args.shape c.args.slots.now ≡ allocated.HeapFull c.in-HeapFull.graph c.in-HeapFull.free c.in-HeapFull.needed = search rules in
    let fits = full_fits c.args.self.now.graph c.args.shape c.args.slots.now c.in-HeapFull.graph c.in-HeapFull.free c.in-HeapFull.needed c.requires.small full in
    omega (arith, fits.1)

pub returns-in-HeapFull : goal.returns-in-HeapFull
returns-in-HeapFull c =
    let full : make c.args.self.now.graph c.args.shape c.args.slots.now ≡ allocated.HeapFull c.in-HeapFull.graph c.in-HeapFull.free c.in-HeapFull.needed = search rules in
    let told = c.heap_full.ensures c.args.root c.args.shape in
    search (rules, full, told)
