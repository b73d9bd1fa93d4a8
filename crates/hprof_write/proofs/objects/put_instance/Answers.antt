use Rattle.std.proofs.Common.{◌≡◌, ◌∙◌, ℕ, List, ◌++◌, ap, subst, sym}
use Rattle.std.proofs.lemmas.Result.{on_ok_weaker}
use Rattle.class_layout.specs.declared.kind.FieldAt.{FieldAt}
use Rattle.class_layout.specs.ClassList.{Class}
use Rattle.class_layout.specs.Placing.{IsIn}
use Rattle.heap_graph.specs.declared.names.Shape.{Shape}
use Rattle.heap_graph.specs.declared.names.Shape.TheVariants.{Instance}
use Rattle.heap_graph.specs.Graph.{Graph, Object}
use Rattle.heap_graph.specs.Places.{places_of}
use Rattle.hprof_write.specs.Objects.{HasValues, dumped_places, values_bytes}
use Rattle.hprof_write.proofs.ArrayParts.{instance-is}
use Rattle.hprof_write.proofs.objects.put_instance.Goals as goal

has : (graph : Graph) (table : ℕ → ℕ) (at class : ℕ) (cs : List Class) (places items : List FieldAt) (o : Object) → IsIn o graph.objects → table o.number ≡ at → o.shape ≡ Instance class
    → cs ≡ graph.classes → places ≡ items → ((p : FieldAt) → IsIn p items → IsIn p (places_of cs (Instance class))) → HasValues graph table at places o
has graph table at class cs places items o there is shape ecs eps within =
    record {
      is_in = there;
      at_is = is;
      values = λ p here. subst (λ (s : Shape). IsIn p (places_of graph.classes s)) (sym shape)
          (subst (λ (l : List Class). IsIn p (places_of l (Instance class))) ecs (within p (subst (λ (l : List FieldAt). IsIn p l) eps here)));
    }

pub put_places-requires : goal.put_places-requires
put_places-requires g c =
    let o = c.requires.object in (
      o.0,
      has (g.V.HeapView.graph c.args.view.now) (g.V.HeapView.table c.args.view.now) c.args.at.0 c.args.class c.classes-2.result.now c.deref.result.now c.in_ok-places.places.items
          o.0 o.1 o.2 o.3 c.classes-2.ensures.value c.deref.ensures.value c.in_ok-places.ensures.within,
    )

pub returns-clause-ok : goal.returns-clause-ok
returns-clause-ok g c =
    let graph = g.V.HeapView.graph c.args.view.now in
    let table = g.V.HeapView.table c.args.view.now in
    let class = c.args.class in
    let places : c.deref.result.now ≡ dumped_places graph.classes class =
    c.deref.ensures.value ∙ c.in_ok-places.ensures.places ∙ ap (λ (l : List Class). dumped_places l class) c.classes-2.ensures.value in
    on_ok_weaker c.put_instance_part.result
    (λ h o there is shape.
    let has-all = has graph table c.args.at.0 class c.classes-2.result.now c.deref.result.now c.in_ok-places.places.items
    o there is shape c.classes-2.ensures.value c.deref.ensures.value c.in_ok-places.ensures.within in
    let values : c.deref-2.result.now ≡ values_bytes table o (dumped_places graph.classes class) =
    c.deref-2.ensures.value ∙ c.in_ok-put_places.ensures.ok o has-all ∙ ap (λ (l : List ℕ). l ++ values_bytes table o c.deref.result.now) c.new-values.ensures.items
    ∙ ap (λ (l : List FieldAt). values_bytes table o l) places in
    instance-is graph.classes table o class c.class_id.result c.args.at.0 c.args.out.now.items c.put_instance_part.new.out.items c.deref-2.result.now is c.class_id.ensures values h)
    c.put_instance_part.ensures
