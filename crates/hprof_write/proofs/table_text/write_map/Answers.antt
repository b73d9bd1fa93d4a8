use Rattle.std.proofs.Common.{◌≡◌, ◌∙◌, ℕ, ◌+◌, ◌≤◌, suc, List, [], length, take, sym, subst, ap, arith, add-one}
use Rattle.std.specs.Option.{IsSomeAnd}
use Rattle.std.specs.List.{slice_get}
use Rattle.object_view.specs.declared.heap_view.Seen.{Seen}
use Rattle.object_view.specs.Seen.{seen_of, step_reads, RoseBy}
use Rattle.std.proofs.lemmas.List.{take_all}
use Rattle.ah_outside.specs.Outside.{Appended}
use Rattle.heap_graph.specs.Graph.{Graph}
use Rattle.hprof_write.specs.Outcomes.{AppendedBut, AppendedPrefix}
use Rattle.hprof_write.proofs.Appends.{AppendedBut-none, AppendedBut-stopped}
use Rattle.hprof_write.proofs.TableLines.{lines, on_err-always, walk-more, line-waits, lines-prefix, IsStep, IsWalked, IsWalked-begun, IsWalked-within}
use Rattle.hprof_write.proofs.table_text.write_map.Goals as goal

-- the step of a walk, over what the walk began with
step-seen : {graph graph' : Graph} {table table' : ℕ → ℕ} {k given before mid now : ℕ} {seen : Seen} → graph' ≡ graph → table' ≡ table → given ≡ k
    → IsSomeAnd (slice_get graph'.objects given) (λ o. seen ≡ seen_of table' o) → RoseBy (step_reads (slice_get graph'.objects given)) mid now
    → IsWalked graph.objects k before mid → IsStep table graph.objects k before now seen
step-seen {graph} {graph'} {table} {table'} {k} {given} {before} {mid} {now} {seen} eg et ek is r h =
    let P : Graph → (ℕ → ℕ) → ℕ → Type 0 = λ x t n. IsSomeAnd (slice_get x.objects n) (λ o. seen ≡ seen_of t o) in
    let is-k = subst (P graph' table') ek is in
    let is-t = subst (λ t. P graph' t k) et is-k in
    let is-g = subst (λ x. P x table k) eg is-t in
    let R : Graph → ℕ → Type 0 = λ x n. RoseBy (step_reads (slice_get x.objects n)) mid now in
    let r-k = subst (R graph') ek r in
    let r-g = subst (λ x. R x k) eg r-k in
    walk-more table graph.objects k before mid now seen is-g h r-g

pub loop-k-init : goal.loop-k-init
loop-k-init g c =
    let view = c.args.view.now in
    let begun = c.rewind.new.self in
    record {
      count = c.object_count-k-end.ensures ∙ ap (λ (x : Graph). length x.objects) (g.met.V.HeapView.same_graph view begun c.rewind.ensures.same);
      given = c.rewind.ensures.given;
      same = c.rewind.ensures.same;
      appended = subst (λ l. AppendedBut (g.F.Shelf.shelved c.args.shelf.now) [] l (g.F.Shelf.shelved c.args.shelf.now)) (sym c.new-waiting.ensures.items) (AppendedBut-none (g.F.Shelf.shelved c.args.shelf.now));
      unfinished = c.requires;
      never_falls = omega arith;
      reads = IsWalked-begun (g.V.HeapView.graph view).objects (g.V.HeapView.read_count view) (g.V.HeapView.read_count begun) c.rewind.ensures.reads;
    }

pub loop-k-preserved : goal.loop-k-preserved
loop-k-preserved g c =
    let first = c.args.view.now in
    let view = c.loop-k.view in
    let next = c.next_seen-seen.new.view in
    let inv = c.loop-k.invariant in
    let start = g.F.Shelf.shelved c.args.shelf.now in
    let graph = g.V.HeapView.graph first in
    let table = g.V.HeapView.table first in
    let step = step-seen (g.met.V.HeapView.same_graph first view inv.same) (g.met.V.HeapView.same_table first view inv.same) inv.given c.next_seen-seen.ensures.seen c.next_seen-seen.ensures.reads inv.reads in
    let waits = line-waits _ _ _ _ _ _ _ _ step.line c.in_ok-put_line.ensures inv.appended in
    let put = c.in_ok-put_piece.ensures.ok start (lines table (take (suc c.loop-k._k) graph.objects)) waits in
    let one : suc c.loop-k._k ≡ c.loop-k._k + 1 = sym (add-one c.loop-k._k) in
    record {
      count = inv.count;
      given = c.next_seen-seen.ensures.given ∙ ap (λ n. n + 1) inv.given;
      same = g.met.V.HeapView.same_as_same first view next inv.same c.next_seen-seen.ensures.same;
      appended = subst (λ n. AppendedBut start (lines table (take n graph.objects)) c.put_piece.new.waiting.items (g.F.Shelf.shelved c.put_piece.new.shelf)) one put;
      unfinished = c.in_ok-put_piece.ensures.unfinished;
      never_falls = let a = inv.never_falls in let b = c.put_piece.ensures.never_falls in omega arith;
      reads = subst (λ n. IsWalked graph.objects n (g.V.HeapView.read_count first) (g.V.HeapView.read_count next)) one step.walked;
    }

pub returns-in_err-put_line-clause-failed : goal.returns-in_err-put_line-clause-failed
returns-in_err-put_line-clause-failed g c =
    let first = c.args.view.now in
    let inv = c.loop-k.invariant in
    let start = g.F.Shelf.shelved c.args.shelf.now in
    let now = g.F.Shelf.shelved c.loop-k.shelf in
    let graph = g.V.HeapView.graph first in
    let table = g.V.HeapView.table first in
    on_err-always (AppendedPrefix start (lines table graph.objects) now) c.from_residual.result
    (lines-prefix table graph.objects c.loop-k._k start now (AppendedBut-stopped start now (lines table (take c.loop-k._k graph.objects)) c.loop-k.waiting.items inv.appended))

pub returns-in_err-put_line-clause-reads : goal.returns-in_err-put_line-clause-reads
returns-in_err-put_line-clause-reads g c =
    let first = c.args.view.now in
    let view = c.loop-k.view in
    let next = c.next_seen-seen.new.view in
    let inv = c.loop-k.invariant in
    let graph = g.V.HeapView.graph first in
    let step = step-seen (g.met.V.HeapView.same_graph first view inv.same) (g.met.V.HeapView.same_table first view inv.same) inv.given c.next_seen-seen.ensures.seen c.next_seen-seen.ensures.reads inv.reads in
    IsWalked-within graph.objects (suc c.loop-k._k) (g.V.HeapView.read_count first) (g.V.HeapView.read_count next) step.walked

pub returns-in_err-put_piece-clause-failed : goal.returns-in_err-put_piece-clause-failed
returns-in_err-put_piece-clause-failed g c =
    let first = c.args.view.now in
    let view = c.loop-k.view in
    let inv = c.loop-k.invariant in
    let start = g.F.Shelf.shelved c.args.shelf.now in
    let now = g.F.Shelf.shelved c.put_piece.new.shelf in
    let graph = g.V.HeapView.graph first in
    let table = g.V.HeapView.table first in
    let step = step-seen (g.met.V.HeapView.same_graph first view inv.same) (g.met.V.HeapView.same_table first view inv.same) inv.given c.next_seen-seen.ensures.seen c.next_seen-seen.ensures.reads inv.reads in
    let waits = line-waits _ _ _ _ _ _ _ _ step.line c.in_ok-put_line.ensures inv.appended in
    on_err-always (AppendedPrefix start (lines table graph.objects) now) c.from_residual-in_err-put_piece.result
    (lines-prefix table graph.objects (suc c.loop-k._k) start now
    (c.in_err-put_piece.ensures.failed start (lines table (take (suc c.loop-k._k) graph.objects)) waits))

pub returns-in_err-put_piece-clause-reads : goal.returns-in_err-put_piece-clause-reads
returns-in_err-put_piece-clause-reads g c =
    let first = c.args.view.now in
    let view = c.loop-k.view in
    let next = c.next_seen-seen.new.view in
    let inv = c.loop-k.invariant in
    let graph = g.V.HeapView.graph first in
    let step = step-seen (g.met.V.HeapView.same_graph first view inv.same) (g.met.V.HeapView.same_table first view inv.same) inv.given c.next_seen-seen.ensures.seen c.next_seen-seen.ensures.reads inv.reads in
    IsWalked-within graph.objects (suc c.loop-k._k) (g.V.HeapView.read_count first) (g.V.HeapView.read_count next) step.walked

pub returns-in_err-put_rest-clause-failed : goal.returns-in_err-put_rest-clause-failed
returns-in_err-put_rest-clause-failed g c =
    let first = c.args.view.now in
    let inv = c.loop-k.invariant in
    let start = g.F.Shelf.shelved c.args.shelf.now in
    let before = g.F.Shelf.shelved c.loop-k.shelf in
    let now = g.F.Shelf.shelved c.put_rest.new.shelf in
    let graph = g.V.HeapView.graph first in
    let table = g.V.HeapView.table first in
    let k = c.loop-k._k in
    let waits = subst (λ (l : List ℕ). AppendedBut start (lines table (take k graph.objects)) l before) (sym c.deref.ensures.value) inv.appended in
    on_err-always (AppendedPrefix start (lines table graph.objects) now) c.from_residual-in_err-put_rest.result
    (lines-prefix table graph.objects k start now (c.in_err-put_rest.ensures.failed start (lines table (take k graph.objects)) waits))

pub returns-in_err-put_rest-clause-reads : goal.returns-in_err-put_rest-clause-reads
returns-in_err-put_rest-clause-reads g c =
    let first = c.args.view.now in
    let view = c.loop-k.view in
    IsWalked-within (g.V.HeapView.graph first).objects c.loop-k._k (g.V.HeapView.read_count first) (g.V.HeapView.read_count view) c.loop-k.invariant.reads

pub returns-clause-ok : goal.returns-clause-ok
returns-clause-ok g c =
    let first = c.args.view.now in
    let inv = c.loop-k.invariant in
    let start = g.F.Shelf.shelved c.args.shelf.now in
    let before = g.F.Shelf.shelved c.loop-k.shelf in
    let now = g.F.Shelf.shelved c.put_rest.new.shelf in
    let graph = g.V.HeapView.graph first in
    let table = g.V.HeapView.table first in
    let k = c.loop-k._k in
    let count = inv.count in
    let within : length graph.objects ≤ k = omega arith in
    let all : lines table (take k graph.objects) ≡ lines table graph.objects = ap (lines table) (take_all k graph.objects within) in
    let waits = subst (λ (l : List ℕ). AppendedBut start (lines table (take k graph.objects)) l before) (sym c.deref.ensures.value) inv.appended in
    subst (λ (l : List ℕ). Appended start l now) all (c.in_ok-put_rest.ensures.ok start (lines table (take k graph.objects)) waits)

pub returns-clause-reads : goal.returns-clause-reads
returns-clause-reads g c =
    let first = c.args.view.now in
    let view = c.loop-k.view in
    IsWalked-within (g.V.HeapView.graph first).objects c.loop-k._k (g.V.HeapView.read_count first) (g.V.HeapView.read_count view) c.loop-k.invariant.reads
