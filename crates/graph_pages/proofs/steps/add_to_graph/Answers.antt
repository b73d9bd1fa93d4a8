use Rattle.std.proofs.Common.{◌∙◌, [], ℕ, List, true, refl, sym, subst}
use Rattle.std.proofs.lemmas.Result.{on_ok_weaker}
use Rattle.class_layout.specs.ClassList.{Class}
use Rattle.cow_pages.specs.View.{view_of}
use Rattle.heap_graph.specs.Allocation.{with_object}
use Rattle.heap_graph.specs.Sizes.{size_in}
use Rattle.object_view.proofs.Outcomes.{on_err}
use Rattle.raw_objects.specs.Raws.{added, new_raw, HoldsRaws, IsFreeSpace}
use Rattle.address_table.specs.Computed.{table_of}
use Rattle.graph_pages.specs.Holds.{raws_under}
use Rattle.graph_pages.proofs.Added.{added-graph, free-beside}
use Rattle.graph_pages.proofs.Graphs.{graph-among, graph-raws, raws-graph, tells-apart}
use Rattle.graph_pages.proofs.Grown.{grown-same, new-beside}
use Rattle.graph_pages.proofs.Numbers.{numbers-differ}
use Rattle.graph_pages.proofs.steps.add_to_graph.Goals as goal

pub returns-clause-held : goal.returns-clause-held
returns-clause-held c =
    on_ok_weaker c.add_object.result (λ step g homes place formed after house classes room number at.
    let t : ℕ = c.args.t.0 in
    let table : ℕ → ℕ = table_of homes g in
    let next : ℕ → ℕ = table_of homes (with_object g c.args.shape [] place) in
    let raws = raws_under table g.objects in
    let apart = tells-apart g.classes (view_of c.args.frames.now t) table g.objects room.objects (numbers-differ 0 g.next g.objects formed.numbers) in
    let same = grown-same homes g c.args.shape [] place formed in
    let beside = new-beside homes g c.args.shape [] place formed after house same in
    let before : HoldsRaws c.args.classes.now (view_of c.args.frames.now t) raws =
    subst (λ (cs : List Class). HoldsRaws cs (view_of c.args.frames.now t) raws) classes (graph-raws g.classes _ table g.objects room.objects) in
    let free : IsFreeSpace c.args.classes.now raws c.args.at.0 (size_in c.args.classes.now c.args.shape) =
    subst (λ (cs : List Class). IsFreeSpace cs raws c.args.at.0 (size_in cs c.args.shape)) classes
    (subst (λ a. IsFreeSpace g.classes raws a (size_in g.classes c.args.shape)) at (free-beside g.classes table g.objects (next g.next) (size_in g.classes c.args.shape) beside)) in
    let held : HoldsRaws g.classes (view_of c.add_object.new.frames t) (added raws (next g.next) (new_raw c.args.shape g.next)) =
    subst (λ a. HoldsRaws g.classes (view_of c.add_object.new.frames t) (added raws a (new_raw c.args.shape g.next))) (sym at)
    (subst (λ n. HoldsRaws g.classes (view_of c.add_object.new.frames t) (added raws c.args.at.0 (new_raw c.args.shape n))) (sym number)
    (subst (λ (cs : List Class). HoldsRaws cs (view_of c.add_object.new.frames t) (added raws c.args.at.0 (new_raw c.args.shape c.args.number))) (sym classes) (step raws before free))) in
    record {
      objects = added-graph g.classes (view_of c.add_object.new.frames t) table next g.objects (record { number = g.next; shape = c.args.shape; slots = []; place = place }) apart refl same beside held;
      pages = λ w p inside. (c.add_object.ensures.keeps (λ q. true) (λ q low high. refl)).mapped p ∙ room.pages w p inside;
    }) c.add_object.ensures.held

pub returns-clause-err : goal.returns-clause-err
returns-clause-err c =
    on_err c.add_object.result (λ g homes place formed after house classes room at.
    let t : ℕ = c.args.t.0 in
    let table : ℕ → ℕ = table_of homes g in
    let next : ℕ → ℕ = table_of homes (with_object g c.args.shape [] place) in
    let raws = raws_under table g.objects in
    let apart = tells-apart g.classes (view_of c.args.frames.now t) table g.objects room.objects (numbers-differ 0 g.next g.objects formed.numbers) in
    let beside = new-beside homes g c.args.shape [] place formed after house (grown-same homes g c.args.shape [] place formed) in
    let free : IsFreeSpace g.classes raws c.args.at.0 (size_in c.args.classes.now c.args.shape) =
    subst (λ (cs : List Class). IsFreeSpace g.classes raws c.args.at.0 (size_in cs c.args.shape)) classes
    (subst (λ a. IsFreeSpace g.classes raws a (size_in g.classes c.args.shape)) at (free-beside g.classes table g.objects (next g.next) (size_in g.classes c.args.shape) beside)) in
    let held = c.add_object.ensures.others g.classes raws (graph-raws g.classes _ table g.objects room.objects) free in
    record {
      objects = raws-graph g.classes _ raws table g.objects held (graph-among g.classes table g.objects apart);
      pages = λ w p inside. (c.add_object.ensures.keeps (λ q. true) (λ q low high. refl)).mapped p ∙ room.pages w p inside;
    })
