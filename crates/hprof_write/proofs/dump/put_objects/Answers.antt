use Rattle.std.proofs.Common.{◌≡◌, ◌∙◌, ℕ, ◌+◌, ◌<◌, ◌≤◌, List, ◌++◌, length, map, subst, ap, arith}
use Rattle.std.specs.List.{fold, slice_get}
use Rattle.std.specs.Option.{IsSomeAnd}
use Rattle.ah_outside.specs.Outside.{Shelved}
use Rattle.heap_graph.specs.Graph.{Graph}
use Rattle.hprof_records.specs.Records.{bytes_of_records}
use Rattle.object_view.specs.Seen.{RoseBy}
use Rattle.hprof_write.specs.Outcomes.{AppendedPrefix}
use Rattle.hprof_write.specs.Segments.{with_item, Filling, IsCurrent, IsFilled}
use Rattle.hprof_write.specs.Written.{object_item}
use Rattle.hprof_write.proofs.DumpReads.{IsPut, IsPut-begun, IsPut-next, IsPut-within, moved, put_reads}
use Rattle.hprof_write.proofs.ItemRuns.{filled-all, filled_at, next-in, next-out}
use Rattle.hprof_write.proofs.TableLines.{on_err-always}
use Rattle.hprof_write.proofs.dump.put_objects.Goals as goal

pub loop-k-init : goal.loop-k-init
loop-k-init g c =
    let view = c.args.view.now in
    let begun = c.rewind.new.self in
    record {
      count = c.object_count-k-end.ensures ∙ ap (λ (x : Graph). length x.objects) (g.met.V.HeapView.same_graph view begun c.rewind.ensures.same);
      given = c.rewind.ensures.given;
      same = c.rewind.ensures.same;
      put = λ start front f filled cur. (filled, cur);
      unfinished = c.requires;
      never_falls = omega arith;
      reads = IsPut-begun (g.V.HeapView.graph view).classes (g.V.HeapView.graph view).objects (g.V.HeapView.read_count view) (g.V.HeapView.read_count begun) c.rewind.ensures.reads;
    }

-- the reads of one more object, over what the walk began with
more-reads : (graph graph' : Graph) (table table' : ℕ → ℕ) (k given before mid now : ℕ) → graph' ≡ graph → table' ≡ table → given ≡ k → IsPut graph.classes graph.objects k before mid
    → IsSomeAnd (slice_get graph'.objects given) (λ o. RoseBy (put_reads graph'.classes o) mid now) → IsPut graph.classes graph.objects (k + 1) before now
more-reads graph graph' table table' k given before mid now eg et ek h r =
    let R : Graph → (ℕ → ℕ) → ℕ → Type 0 = λ x t n. IsSomeAnd (slice_get x.objects n) (λ o. RoseBy (put_reads x.classes o) mid now) in
    IsPut-next graph.classes graph.objects k before mid now h (moved R graph graph' table table' k given eg et ek r)

pub loop-k-preserved : goal.loop-k-preserved
loop-k-preserved g c =
    let first = c.args.view.now in
    let view = c.loop-k.view in
    let next = c.put_next.new.view in
    let inv = c.loop-k.invariant in
    let k = c.loop-k._k in
    let ss = c.args.strings.now.keys in
    let graph = g.V.HeapView.graph first in
    let table = g.V.HeapView.table first in
    let now = g.F.Shelf.shelved c.put_next.new.shelf in
    let eg = g.met.V.HeapView.same_graph first view inv.same in
    let et = g.met.V.HeapView.same_table first view inv.same in
    let item = object_item graph.classes table in
    record {
      count = inv.count;
      given = c.put_next.ensures.given ∙ ap (λ n. n + 1) inv.given;
      same = g.met.V.HeapView.same_as_same first view next inv.same c.put_next.ensures.same;
      put = λ start front f filled cur.
          let before = inv.put start front f filled cur in
          let Q : Filling → Type 0 = λ x. IsFilled start front x c.put_next.new.waiting.items now
          × IsCurrent x c.put_next.new.current.body.items c.put_next.new.current.objects c.put_next.new.current.heap in
          let R : Graph → (ℕ → ℕ) → ℕ → Type 0 = λ x t n. IsSomeAnd (slice_get x.objects n) (λ o. Q (with_item ss (filled_at ss item graph.objects f k) (object_item x.classes t o))) in
          next-in ss item graph.objects f k Q
          (moved R graph (g.V.HeapView.graph view) table (g.V.HeapView.table view) k (g.V.HeapView.given view) eg et inv.given
          (c.in_ok-put_next.ensures.ok start front (filled_at ss item graph.objects f k) before.0 before.1));
      unfinished = c.in_ok-put_next.ensures.unfinished;
      never_falls = let a = inv.never_falls in let b = c.put_next.ensures.never_falls in omega arith;
      reads = more-reads graph (g.V.HeapView.graph view) table (g.V.HeapView.table view) k (g.V.HeapView.given view)
          (g.V.HeapView.read_count first) (g.V.HeapView.read_count view) (g.V.HeapView.read_count next) eg et inv.given inv.reads c.put_next.ensures.reads;
    }

pub returns-in_err-put_next-clause-failed : goal.returns-in_err-put_next-clause-failed
returns-in_err-put_next-clause-failed g c =
    let first = c.args.view.now in
    let inv = c.loop-k.invariant in
    let k = c.loop-k._k in
    let ss = c.args.strings.now.keys in
    let graph = g.V.HeapView.graph first in
    let item = object_item graph.classes (g.V.HeapView.table first) in
    let now = g.F.Shelf.shelved c.put_next.new.shelf in
    let count = inv.count in
    let within : k < length graph.objects = omega arith in
    let P : Type 0 = (start : Shelved) (front : List ℕ) (f : Filling) → IsFilled start front f c.args.waiting.now.items (g.F.Shelf.shelved c.args.shelf.now)
    → IsCurrent f c.args.current.now.body.items c.args.current.now.objects c.args.current.now.heap
    → AppendedPrefix start (front ++ bytes_of_records (fold (with_item ss) f (map item graph.objects)).done) now in
    on_err-always P c.from_residual.result
    (λ start front f filled cur.
    let before = inv.put start front f filled cur in
    next-out ss item graph.objects f k start now front within
    (c.in_err-put_next.ensures.failed start front (filled_at ss item graph.objects f k) before.0 before.1))

pub returns-in_err-put_next-clause-reads : goal.returns-in_err-put_next-clause-reads
returns-in_err-put_next-clause-reads g c =
    let first = c.args.view.now in
    let view = c.loop-k.view in
    let next = c.put_next.new.view in
    let inv = c.loop-k.invariant in
    let k = c.loop-k._k in
    let graph = g.V.HeapView.graph first in
    let put = more-reads graph (g.V.HeapView.graph view) (g.V.HeapView.table first) (g.V.HeapView.table view) k (g.V.HeapView.given view)
    (g.V.HeapView.read_count first) (g.V.HeapView.read_count view) (g.V.HeapView.read_count next)
    (g.met.V.HeapView.same_graph first view inv.same) (g.met.V.HeapView.same_table first view inv.same) inv.given inv.reads c.put_next.ensures.reads in
    IsPut-within graph.classes graph.objects (k + 1) (g.V.HeapView.read_count first) (g.V.HeapView.read_count next) put

pub returns-clause-ok : goal.returns-clause-ok
returns-clause-ok g c =
    λ start front f filled cur.
    let first = c.args.view.now in
    let ss = c.args.strings.now.keys in
    let graph = g.V.HeapView.graph first in
    let item = object_item graph.classes (g.V.HeapView.table first) in
    let k = c.loop-k._k in
    let count = c.loop-k.invariant.count in
    let within : length graph.objects ≤ k = omega arith in
    let Q : Filling → Type 0 = λ x. IsFilled start front x c.loop-k.waiting.items (g.F.Shelf.shelved c.loop-k.shelf)
    × IsCurrent x c.loop-k.current.body.items c.loop-k.current.objects c.loop-k.current.heap in
    subst Q (filled-all ss item graph.objects f k within) (c.loop-k.invariant.put start front f filled cur)

pub returns-clause-reads : goal.returns-clause-reads
returns-clause-reads g c =
    let first = c.args.view.now in
    let graph = g.V.HeapView.graph first in
    IsPut-within graph.classes graph.objects c.loop-k._k (g.V.HeapView.read_count first) (g.V.HeapView.read_count c.loop-k.view) c.loop-k.invariant.reads
