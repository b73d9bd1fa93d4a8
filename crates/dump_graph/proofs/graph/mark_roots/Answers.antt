use Rattle.std.proofs.Common.{◌≡◌, ◌<◌, false, Bor, List, ◌∙◌, map, get_or, length, arith}
use Rattle.hprof_records.specs.declared.sub_record.SubRecord.{SubRecord}
use Rattle.dump_graph.proofs.Marks.{marks-more, written-back}
use Rattle.dump_graph.proofs.Nodes.{shown, shown-within}
use Rattle.dump_graph.proofs.graph.mark_roots.Goals as goal

pub loop-part-preserved : goal.loop-part-preserved
loop-part-preserved c =
    let now : Bor SubRecord → SubRecord = λ p. p.now in
    let ps : List SubRecord = map now c.args.parts.now in
    let i = c.loop-part.part-index in
    let p = c.part-item.result.now in
    let had = c.loop-part.invariant in
    let within : i < length ps = shown-within now c.args.parts.now i c.loop-part-test.true in
    let is : p ≡ get_or ps i p = shown now c.args.parts.now i c.part-item.result c.loop-part-test.true c.part-item.is in
    let old = c.loop-part.roots.items in
    let new = c.mark_root.new.roots in
    let same = rw c.deref_mut.ensures.value at c.mark_root.ensures.length in
    let marked = rw c.deref_mut.ensures.value at c.mark_root.ensures.marked in
    rw (written-back new old c.loop-part.roots.len same c.loop-part.roots.ok.0)
    (record {
      as_many = same ∙ had.as_many;
      marked = λ k apart below.
          marks-more c.args.numbers.now ps i p k (get_or old k false) (get_or new k false) within is (had.marked k apart below) (marked k apart (omega (arith, below, c.requires)));
    })
