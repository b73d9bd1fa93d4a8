use Rattle.std.proofs.Common.{ℕ, ◌+◌, ◌≤◌, List, ◌++◌, length, map, take, subst, arith}
use Rattle.std.proofs.lemmas.List.{take_all}
use Rattle.std.specs.List.{fold}
use Rattle.ah_outside.specs.Outside.{Shelved}
use Rattle.heap_graph.specs.declared.names.Root.{Root}
use Rattle.hprof_records.specs.Records.{bytes_of_records}
use Rattle.hprof_write.specs.Objects.{root_parts}
use Rattle.hprof_write.specs.Outcomes.{AppendedPrefix}
use Rattle.hprof_write.specs.Segments.{with_item, Bare, Filling, IsCurrent, IsFilled}
use Rattle.hprof_write.proofs.Fillings.{done-prefix}
use Rattle.hprof_write.proofs.ItemRuns.{root-in, roots-last}
use Rattle.hprof_write.proofs.TableLines.{on_err-always}
use Rattle.hprof_write.proofs.dump.put_roots.Goals as goal

pub loop-k-preserved : goal.loop-k-preserved
loop-k-preserved g c =
    let table = g.V.HeapView.table c.args.view.now in
    let roots = (g.V.HeapView.graph c.args.view.now).roots in
    let k = c.loop-k.k in
    let inv = c.loop-k.invariant in
    let now = g.F.Shelf.shelved c.put_root.new.shelf in
    record {
      count = inv.count;
      put = λ ss start front f filled cur.
          let before = inv.put ss start front f filled cur in
          let Q : Filling → Type 0 = λ x. IsFilled start front x c.put_root.new.waiting.items now
          × IsCurrent x c.put_root.new.current.body.items c.put_root.new.current.objects c.put_root.new.current.heap in
          root-in ss table roots f k c.root_at.result.0 Q c.root_at.ensures.null c.root_at.ensures.value
          (λ held null is. c.in_ok-put_root.ensures.ok ss table held start front (fold (with_item ss) f (map Bare (root_parts table (take k roots)))) null is before.0 before.1);
      unfinished = c.in_ok-put_root.ensures.unfinished;
      never_falls = let a = inv.never_falls in let b = c.put_root.ensures.never_falls in omega arith;
    }

pub returns-in_err-put_root-clause-failed : goal.returns-in_err-put_root-clause-failed
returns-in_err-put_root-clause-failed g c =
    let table = g.V.HeapView.table c.args.view.now in
    let roots = (g.V.HeapView.graph c.args.view.now).roots in
    let k = c.loop-k.k in
    let inv = c.loop-k.invariant in
    let now = g.F.Shelf.shelved c.put_root.new.shelf in
    let P : Type 0 = (ss : List (List ℕ)) (start : Shelved) (front : List ℕ) (f : Filling) → IsFilled start front f c.args.waiting.now.items (g.F.Shelf.shelved c.args.shelf.now)
    → IsCurrent f c.args.current.now.body.items c.args.current.now.objects c.args.current.now.heap
    → AppendedPrefix start (front ++ bytes_of_records (fold (with_item ss) f (map Bare (root_parts table roots))).done) now in
    on_err-always P c.from_residual.result
    (λ ss start front f filled cur.
    let before = inv.put ss start front f filled cur in
    let Q : Filling → Type 0 = λ x. AppendedPrefix start (front ++ bytes_of_records x.done) now in
    let next = root-in ss table roots f k c.root_at.result.0 Q c.root_at.ensures.null c.root_at.ensures.value
    (λ held null is. c.in_err-put_root.ensures.failed ss table held start front (fold (with_item ss) f (map Bare (root_parts table (take k roots)))) null is before.0 before.1) in
    done-prefix start now front (fold (with_item ss) f (map Bare (root_parts table (take (k + 1) roots)))) (fold (with_item ss) f (map Bare (root_parts table roots)))
    (roots-last ss table roots f (k + 1)) next)

pub returns-clause-ok : goal.returns-clause-ok
returns-clause-ok g c =
    λ ss start front f filled cur.
    let table = g.V.HeapView.table c.args.view.now in
    let roots = (g.V.HeapView.graph c.args.view.now).roots in
    let k = c.loop-k.k in
    let count = c.loop-k.invariant.count in
    let within : length roots ≤ k = omega arith in
    let Q : List Root → Type 0 = λ rs. IsFilled start front (fold (with_item ss) f (map Bare (root_parts table rs))) c.loop-k.waiting.items (g.F.Shelf.shelved c.loop-k.shelf)
    × IsCurrent (fold (with_item ss) f (map Bare (root_parts table rs))) c.loop-k.current.body.items c.loop-k.current.objects c.loop-k.current.heap in
    subst Q (take_all k roots within) (c.loop-k.invariant.put ss start front f filled cur)
