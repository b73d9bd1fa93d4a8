use Rattle.std.proofs.Common.{◌≡◌, ℕ, ◌*◌, ◌≤◌, List, ap, sym, subst, ◌∙◌, arith}
use Rattle.class_layout.specs.ClassList.{Class}
use Rattle.heap_graph.specs.Graph.{Graph, Object}
use Rattle.model_numbers.specs.Numbers.{large_slot_count, region_bytes}
use Rattle.address_table.specs.Computed.{addresses_from, first_homes, large_count, HouseAll}
use Rattle.address_table.proofs.Behind.{last_end}
use Rattle.address_table.proofs.Fitting.{young-fits}
use Rattle.address_table.proofs.Homes.{suffice}
use Rattle.address_table.proofs.Listed.{listed}
use Rattle.heap_world.proofs.Bounds.{length-count}
use Rattle.plain_view.proofs.view.View.new.Goals as goal

fits_same : (cs ds : List Class) (os ps : List Object) (a b : ℕ) → ds ≡ cs → ps ≡ os → b ≡ a → last_end cs 0 os ≤ region_bytes * a → last_end ds 0 ps ≤ region_bytes * b
fits_same cs ds os ps a b c o n le =
    subst (λ (xs : List Class). last_end xs 0 ps ≤ region_bytes * b) (sym c)
    (subst (λ (xs : List Object). last_end cs 0 xs ≤ region_bytes * b) (sym o) (subst (λ (k : ℕ). last_end cs 0 os ≤ region_bytes * k) (sym n) le))

listed_same : (cs ds : List Class) (os ps : List Object) (a b : ℕ) → ds ≡ cs → ps ≡ os → b ≡ a → addresses_from (first_homes b) ds 0 0 ps ≡ addresses_from (first_homes a) cs 0 0 os
listed_same cs ds os ps a b c o n =
    ap (λ k. addresses_from (first_homes k) ds 0 0 ps) n ∙ ap (λ xs. addresses_from (first_homes a) xs 0 0 ps) c ∙ ap (λ xs. addresses_from (first_homes a) cs 0 0 xs) o

pub addresses_of-requires-clause-young : goal.addresses_of-requires-clause-young
addresses_of-requires-clause-young c =
    let g : Graph = c.args.graph.now in
    fits_same g.classes c.classes.result.now g.objects c.objects.result.now g.budget c.budget.result c.classes.ensures c.objects.ensures c.budget.ensures (young-fits g c.requires.formed)

few_same : (os ps : List Object) → ps ≡ os → large_count 0 os ≤ large_slot_count → large_count 0 ps ≤ large_slot_count
few_same os ps o le = subst (λ (xs : List Object). large_count 0 xs ≤ large_slot_count) (sym o) le

pub addresses_of-requires-clause-large : goal.addresses_of-requires-clause-large
addresses_of-requires-clause-large c =
    let g : Graph = c.args.graph.now in
    let house : HouseAll (first_homes g.budget) g = suffice g c.requires.formed in
    let fits = house.for_large in
    few_same g.objects c.objects.result.now c.objects.ensures (omega (arith, fits, length-count 0 large_slot_count))

pub invariant_of-result : goal.invariant_of-result
invariant_of-result c =
    let g : Graph = c.args.graph.now in
    let items = c.in_ok-addresses.ensures ∙ listed_same g.classes c.classes.result.now g.objects c.objects.result.now g.budget c.budget.result c.classes.ensures c.objects.ensures c.budget.ensures
    ∙ listed (first_homes g.budget) g.classes 0 g.next 0 0 g.objects (let formed = c.requires.formed in formed.numbers) in
    (c.requires.formed, items, omega arith)
