use Rattle.std.proofs.Common.{◌∙◌, false, ◌≤◌, ◌++◌, length, arith, ap}
use Rattle.std.proofs.lemmas.List.{take_all}
use Rattle.heap_graph.specs.Places.{elements_from}
use Rattle.object_view.specs.Seen.{is_in_window}
use Rattle.hprof_write.specs.Objects.{values_bytes}
use Rattle.hprof_write.proofs.ValuesAt.{element-is, has-there, length-elements, reads-there, values-there}
use Rattle.hprof_write.proofs.values.put_elements.Goals as goal

pub put_place-requires : goal.put_place-requires
put_place-requires g c =
    let first = c.args.view.now in
    let view = c.loop-i.view in
    let inv = c.loop-i.invariant in
    let i = c.loop-i.i in (
      c.requires.object.0,
      has-there (g.V.HeapView.graph first) (g.V.HeapView.graph view) (g.V.HeapView.table first) (g.V.HeapView.table view) c.args.at.0
          (elements_from c.args.kind 0 c.args.count) i (record { kind = c.args.kind; offset = c.element_offset.result; weak = false })
          c.requires.object.0 (g.met.V.HeapView.same_graph first view inv.same) (g.met.V.HeapView.same_table first view inv.same)
          (element-is c.args.kind c.args.count i c.element_offset.result (omega arith) c.element_offset.ensures) c.requires.object.1,
    )

pub loop-i-preserved : goal.loop-i-preserved
loop-i-preserved g c =
    let first = c.args.view.now in
    let view = c.loop-i.view in
    let next = c.put_place.new.view in
    let inv = c.loop-i.invariant in
    let i = c.loop-i.i in
    record {
      given = c.put_place.ensures.given ∙ inv.given;
      same = g.met.V.HeapView.same_as_same first view next inv.same c.put_place.ensures.same;
      put = λ o has. values-there (g.V.HeapView.graph first) (g.V.HeapView.graph view) (g.V.HeapView.table first) (g.V.HeapView.table view) c.args.at.0
          (elements_from c.args.kind 0 c.args.count) i (record { kind = c.args.kind; offset = c.element_offset.result; weak = false })
          o c.args.out.now.items c.loop-i.out.items c.put_place.new.out.items (g.met.V.HeapView.same_graph first view inv.same) (g.met.V.HeapView.same_table first view inv.same)
          (element-is c.args.kind c.args.count i c.element_offset.result (omega arith) c.element_offset.ensures) has (inv.put o has) (λ there. c.in_ok-put_place.ensures.ok o there);
      reads = reads-there (is_in_window c.args.at.0) i (g.V.HeapView.read_count first) (g.V.HeapView.read_count view) (g.V.HeapView.read_count next) inv.reads c.put_place.ensures.reads;
    }

pub returns-clause-ok : goal.returns-clause-ok
returns-clause-ok g c =
    λ o has.
    let n = length-elements c.args.kind 0 c.args.count in
    let within : length (elements_from c.args.kind 0 c.args.count) ≤ c.loop-i.i = omega arith in
    c.loop-i.invariant.put o has ∙ ap (λ l. c.args.out.now.items ++ values_bytes (g.V.HeapView.table c.args.view.now) o l) (take_all c.loop-i.i (elements_from c.args.kind 0 c.args.count) within)
