use Rattle.std.proofs.Common.{◌≡◌, ◌⊎◌, inl, inr, ◌+◌, ◌*◌, ◌≤◌, ℕ, List, ap, sym, subst, ◌∙◌, arith}
use Rattle.class_layout.specs.ClassList.{Class}
use Rattle.heap_graph.specs.declared.names.Place.{Place}
use Rattle.heap_graph.specs.declared.names.Place.TheVariants as place
use Rattle.heap_graph.specs.Graph.{Object, size_of_object}
use Rattle.heap_graph.specs.Packing as packing
use Rattle.heap_graph.proofs.Sizes.{size-least}
use Rattle.heap_graph.specs.Sizes.{size_in}
use Rattle.model_numbers.specs.Numbers.{large_base, large_slot_bytes, large_slot_count, region_base, region_bytes}
use Rattle.address_table.specs.Computed.{address_in, end_behind, first_homes, large_behind}
use Rattle.address_table.proofs.Homes.{packed-first, slot-first}
use Rattle.plain_view.proofs.addresses.address_in.Goals as goal

-- a young object, at its packing place
young-at : (cs : List Class) (end large budget : ℕ) (o : Object) (at : Place) → at ≡ place.Young → end_behind cs end o at ≤ region_bytes * budget
    → region_base + packing.place end (size_of_object cs o) ≡ address_in (first_homes budget) cs end large o at
young-at cs end large budget o at e =
    subst (λ (q : Place). end_behind cs end o q ≤ region_bytes * budget → region_base + packing.place end (size_of_object cs o) ≡ address_in (first_homes budget) cs end large o q) (sym e)
    (λ fits. sym (packed-first budget (packing.place end (size_of_object cs o)) (omega (arith, fits, size-least cs o))))

pub returns-in-Young : goal.returns-in-Young
returns-in-Young c = λ budget fits few.
    let e : c.args.o.now.place ≡ place.Young = sym c.place.ensures ∙ c.in-Young.is in
    let size : c.size_in.result ≡ size_of_object c.args.classes.now c.args.o.now = c.size_in.ensures.value ∙ ap (size_in c.args.classes.now) c.shape.ensures in
    ap (λ n. n + c.place-in-Young.result) c.from.ensures ∙ ap (λ n. region_base + n) (c.place-in-Young.ensures.value ∙ ap (packing.place c.args.end) size)
    ∙ young-at c.args.classes.now c.args.end c.args.large budget c.args.o.now c.args.o.now.place e fits

-- a large object, in its slot, promoted or not
large-at : (cs : List Class) (end large budget : ℕ) (o : Object) (at : Place) → (at ≡ place.Large) ⊎ (at ≡ place.Promoted) → large_behind large at ≤ large_slot_count
    → large_base + large * large_slot_bytes ≡ address_in (first_homes budget) cs end large o at
large-at cs end large budget o at (inl e) =
    subst (λ (q : Place). large_behind large q ≤ large_slot_count → large_base + large * large_slot_bytes ≡ address_in (first_homes budget) cs end large o q) (sym e)
    (λ few. sym (slot-first large (omega (arith, few))))
large-at cs end large budget o at (inr e) =
    subst (λ (q : Place). large_behind large q ≤ large_slot_count → large_base + large * large_slot_bytes ≡ address_in (first_homes budget) cs end large o q) (sym e)
    (λ few. sym (slot-first large (omega (arith, few))))

pub returns-in-Large : goal.returns-in-Large
returns-in-Large c = λ budget fits few.
    let e : (c.args.o.now.place ≡ place.Large) ⊎ (c.args.o.now.place ≡ place.Promoted) = subst (λ (q : Place). (q ≡ place.Large) ⊎ (q ≡ place.Promoted)) c.place.ensures c.in-Large.is in
    ap (λ n. n + c.args.large * c.from-in-Large-2.result) c.from-in-Large.ensures ∙ ap (λ n. large_base + c.args.large * n) c.from-in-Large-2.ensures
    ∙ large-at c.args.classes.now c.args.end c.args.large budget c.args.o.now c.args.o.now.place e few
