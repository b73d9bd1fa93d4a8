use Rattle.std.proofs.Common.{◌≡◌, ◌∙◌, ℕ, ◌≤◌, List, ◌++◌, false, length, subst, sym, arith}
use Rattle.std.proofs.lemmas.Result.{on_ok_weaker}
use Rattle.class_layout.specs.declared.kind.Kind.{Kind}
use Rattle.class_layout.specs.declared.kind.Kind.TheVariants.{Ref, Boolean, Byte, Char, Short, Int, Long}
use Rattle.class_layout.specs.ClassList.{Class, IsClassList}
use Rattle.class_layout.specs.Placing.{IsIn}
use Rattle.heap_graph.specs.declared.names.Shape.{Shape}
use Rattle.heap_graph.specs.declared.names.Shape.TheVariants.{Array}
use Rattle.heap_graph.specs.Sizes.{is_too_large, unrounded}
use Rattle.heap_graph.specs.Places.{elements_from, places_of}
use Rattle.object_view.specs.Objects.{IsKnown}
use Rattle.hprof_records.specs.Parts.{bytes_of_part}
use Rattle.hprof_write.specs.Objects.{HasValues, dumped_places, shape_part}
use Rattle.hprof_write.proofs.ArrayParts.{array-put}
use Rattle.hprof_write.proofs.InstancePlaces.{dumped-few}
use Rattle.hprof_write.proofs.Windows.{values-within}
use Rattle.hprof_write.proofs.objects.put_shape.Goals as goal

array-few : (cs : List Class) (kind : Kind) (count : ℕ) → count ≤ unrounded cs (Array kind count)
array-few cs Ref count = omega arith
array-few cs Boolean count = omega arith
array-few cs Byte count = omega arith
array-few cs Char count = omega arith
array-few cs Short count = omega arith
array-few cs Int count = omega arith
array-few cs Long count = omega arith

pub put_instance-requires-clause-class : goal.put_instance-requires-clause-class
put_instance-requires-clause-class g c =
    let o = c.requires.object in
    subst (λ (s : Shape). IsKnown (g.V.HeapView.graph c.args.view.now).classes s) (o.3 ∙ c.in-Instance.is) (c.requires.shown.known o.0 o.1)

pub put_elements-requires-clause-small : goal.put_elements-requires-clause-small
put_elements-requires-clause-small g c =
    let o = c.requires.object in
    subst (λ (s : Shape). is_too_large (g.V.HeapView.graph c.args.view.now).classes s ≡ false) (o.3 ∙ c.in-Array.is) (c.requires.shown.small o.0 o.1)

pub returns-in_err-put_elements-in-Array-clause-reads : goal.returns-in_err-put_elements-in-Array-clause-reads
returns-in_err-put_elements-in-Array-clause-reads g c =
    λ o there is shape.
    let graph = g.V.HeapView.graph c.args.view.now in
    let few = subst (λ (s : Shape). c.in-Array.count ≤ unrounded graph.classes s) (sym (shape ∙ c.in-Array.is)) (array-few graph.classes c.in-Array.kind c.in-Array.count) in
    values-within graph (g.V.HeapView.table c.args.view.now) c.args.at.0 c.in-Array.count (g.V.HeapView.read_count c.args.view.now) (g.V.HeapView.read_count c.put_elements.new.view) o
    c.requires.shown.fits there is few c.put_elements.ensures.reads

pub returns-in_ok-put_elements-in-Array-clause-reads : goal.returns-in_ok-put_elements-in-Array-clause-reads
returns-in_ok-put_elements-in-Array-clause-reads g c =
    λ o there is shape.
    let graph = g.V.HeapView.graph c.args.view.now in
    let few = subst (λ (s : Shape). c.in-Array.count ≤ unrounded graph.classes s) (sym (shape ∙ c.in-Array.is)) (array-few graph.classes c.in-Array.kind c.in-Array.count) in
    values-within graph (g.V.HeapView.table c.args.view.now) c.args.at.0 c.in-Array.count (g.V.HeapView.read_count c.args.view.now) (g.V.HeapView.read_count c.put_elements.new.view) o
    c.requires.shown.fits there is few c.put_elements.ensures.reads

pub returns-in-Instance-clause-reads : goal.returns-in-Instance-clause-reads
returns-in-Instance-clause-reads g c =
    λ o there is shape.
    let graph = g.V.HeapView.graph c.args.view.now in
    let class = c.in-Instance.class in
    let formed = subst (λ (l : List Class). IsClassList l) c.classes.ensures.value c.count-all.ensures.formed in
    let known = subst (λ (s : Shape). IsKnown graph.classes s) (shape ∙ c.in-Instance.is) (c.requires.shown.known o there) in
    let few = subst (λ (s : Shape). length (dumped_places graph.classes class) ≤ unrounded graph.classes s) (sym (shape ∙ c.in-Instance.is)) (dumped-few graph.classes class formed known) in
    values-within graph (g.V.HeapView.table c.args.view.now) c.args.at.0 (length (dumped_places graph.classes class)) (g.V.HeapView.read_count c.args.view.now) (g.V.HeapView.read_count c.put_instance.new.view) o
    c.requires.shown.fits there is few c.put_instance.ensures.reads

pub returns-in-Instance-clause-ok : goal.returns-in-Instance-clause-ok
returns-in-Instance-clause-ok g c =
    let graph = g.V.HeapView.graph c.args.view.now in
    let table = g.V.HeapView.table c.args.view.now in
    on_ok_weaker c.put_instance.result
    (λ h o there is shape.
    subst (λ (s : Shape). c.put_instance.new.out.items ≡ c.args.out.now.items ++ bytes_of_part (shape_part graph.classes table o s)) (sym c.in-Instance.is)
    (h o there is (shape ∙ c.in-Instance.is)))
    c.put_instance.ensures.ok

pub returns-in_ok-put_elements-in-Array-clause-ok : goal.returns-in_ok-put_elements-in-Array-clause-ok
returns-in_ok-put_elements-in-Array-clause-ok g c =
    λ o there is shape.
    let graph = g.V.HeapView.graph c.args.view.now in
    let table = g.V.HeapView.table c.args.view.now in
    let kind = c.in-Array.kind in
    let count = c.in-Array.count in
    let has : HasValues graph table c.args.at.0 (elements_from kind 0 count) o =
    record { is_in = there; at_is = is; values = λ p here. subst (λ (s : Shape). IsIn p (places_of graph.classes s)) (sym (shape ∙ c.in-Array.is)) here } in
    subst (λ (s : Shape). c.put_elements.new.out.items ≡ c.args.out.now.items ++ bytes_of_part (shape_part graph.classes table o s)) (sym c.in-Array.is)
    (array-put graph.classes table o kind count c.args.at.0 c.args.out.now.items c.put_array_head.new.out.items c.put_elements.new.out.items is
    c.in_ok-put_array_head-in-Array.ensures (c.in_ok-put_elements-in-Array.ensures.ok o has))
