use Rattle.std.proofs.Common.{◌≡◌, ◌∙◌, ℕ, ◌+◌, ◌≤◌, List, ◌++◌, length, take, arith, refl, ap, subst}
use Rattle.std.proofs.lemmas.List.{take_all}
use Rattle.std.specs.Option.{IfSome}
use Rattle.std.specs.Prelude.{Option}
use Rattle.ah_outside.specs.Outside.{Shelved}
use Rattle.hprof_records.specs.Records.{bytes_of_record, bytes_of_records}
use Rattle.hprof_write.specs.Classes.{array_class_id, load_record, load_records, loads_from}
use Rattle.hprof_write.specs.Outcomes.{AppendedBut, AppendedPrefix}
use Rattle.hprof_write.specs.Strings.{array_name}
use Rattle.hprof_write.proofs.RecordRuns.{load-next, loads-all, record-waits, records-prefix, records-stopped}
use Rattle.hprof_write.proofs.TableLines.{on_err-always}
use Rattle.hprof_write.proofs.dump.put_loads.Goals as goal

pub loop-class-preserved : goal.loop-class-preserved
loop-class-preserved g c =
    let inv = c.loop-class.invariant in
    let ss = c.args.strings.now.keys in
    let cs = c.args.classes.now in
    let k = c.loop-class.class in
    record {
      put = λ start bytes but. c.in_ok-put_piece.ensures.ok start (bytes ++ bytes_of_records (loads_from ss 0 (take (k + 1) cs)))
          (record-waits start (g.F.Shelf.shelved c.loop-class.shelf) bytes c.loop-class.waiting.items c.put_load.new.out.items (loads_from ss 0 (take k cs)) (loads_from ss 0 (take (k + 1) cs))
          (load_record ss (k + 1) c.class_id.result c.name.result) (load-next ss cs k c.class_id.result c.name.result c.name.ensures c.class_id.ensures) c.in_ok-put_load.ensures (inv.put start bytes but));
      unfinished = c.in_ok-put_piece.ensures.unfinished;
      never_falls = let a = inv.never_falls in let b = c.put_piece.ensures.never_falls in omega arith;
    }

pub returns-in_err-put_load-clause-failed : goal.returns-in_err-put_load-clause-failed
returns-in_err-put_load-clause-failed g c =
    let ss = c.args.strings.now.keys in
    let cs = c.args.classes.now in
    let k = c.loop-class.class in
    let now = g.F.Shelf.shelved c.loop-class.shelf in
    let rest = loads-all ss cs k in
    let P : Type 0 = (start : Shelved) (bytes : List ℕ) → AppendedBut start bytes c.args.waiting.now.items (g.F.Shelf.shelved c.args.shelf.now)
    → AppendedPrefix start (bytes ++ bytes_of_records (load_records ss cs)) now in
    on_err-always P c.from_residual.result
    (λ start bytes but. records-stopped start now bytes c.loop-class.waiting.items (loads_from ss 0 (take k cs)) rest.0 (load_records ss cs) rest.1 (c.loop-class.invariant.put start bytes but))

pub returns-in_err-put_piece-clause-failed : goal.returns-in_err-put_piece-clause-failed
returns-in_err-put_piece-clause-failed g c =
    let inv = c.loop-class.invariant in
    let ss = c.args.strings.now.keys in
    let cs = c.args.classes.now in
    let k = c.loop-class.class in
    let now = g.F.Shelf.shelved c.put_piece.new.shelf in
    let rest = loads-all ss cs (k + 1) in
    let P : Type 0 = (start : Shelved) (bytes : List ℕ) → AppendedBut start bytes c.args.waiting.now.items (g.F.Shelf.shelved c.args.shelf.now)
    → AppendedPrefix start (bytes ++ bytes_of_records (load_records ss cs)) now in
    on_err-always P c.from_residual-in_err-put_piece.result
    (λ start bytes but. records-prefix start now bytes (loads_from ss 0 (take (k + 1) cs)) rest.0 (load_records ss cs) rest.1
    (c.in_err-put_piece.ensures.failed start (bytes ++ bytes_of_records (loads_from ss 0 (take (k + 1) cs)))
    (record-waits start (g.F.Shelf.shelved c.loop-class.shelf) bytes c.loop-class.waiting.items c.put_load.new.out.items (loads_from ss 0 (take k cs)) (loads_from ss 0 (take (k + 1) cs))
    (load_record ss (k + 1) c.class_id.result c.name.result) (load-next ss cs k c.class_id.result c.name.result c.name.ensures c.class_id.ensures) c.in_ok-put_load.ensures (inv.put start bytes but))))

pub returns-in_err-put_load-2-clause-failed : goal.returns-in_err-put_load-2-clause-failed
returns-in_err-put_load-2-clause-failed g c =
    let ss = c.args.strings.now.keys in
    let cs = c.args.classes.now in
    let k = c.loop-class.class in
    let now = g.F.Shelf.shelved c.loop-class.shelf in
    let rest = loads-all ss cs k in
    let P : Type 0 = (start : Shelved) (bytes : List ℕ) → AppendedBut start bytes c.args.waiting.now.items (g.F.Shelf.shelved c.args.shelf.now)
    → AppendedPrefix start (bytes ++ bytes_of_records (load_records ss cs)) now in
    on_err-always P c.from_residual-in_err-put_load-2.result
    (λ start bytes but. records-stopped start now bytes c.loop-class.waiting.items (loads_from ss 0 (take k cs)) rest.0 (load_records ss cs) rest.1 (c.loop-class.invariant.put start bytes but))

pub returns-clause-ok : goal.returns-clause-ok
returns-clause-ok g c =
    λ start bytes but.
    let ss = c.args.strings.now.keys in
    let cs = c.args.classes.now in
    let k = c.loop-class.class in
    let now = g.F.Shelf.shelved c.loop-class.shelf in
    let e = c.count-count.ensures.value in
    let within : length cs ≤ k = omega arith in
    let P : List ℕ → Type 0 = λ n. n ≡ array_name in
    let name : c.unwrap-name.result ≡ array_name = subst (λ (o : Option (List ℕ)). IfSome o P) c.unwrap-name.ensures c.of.ensures.value in
    let all = subst (λ l. AppendedBut start (bytes ++ bytes_of_records (loads_from ss 0 l)) c.loop-class.waiting.items now) (take_all k cs within) (c.loop-class.invariant.put start bytes but) in
    let last = c.in_ok-put_load-2.ensures ∙ ap (λ (n : ℕ). c.loop-class.waiting.items ++ bytes_of_record (load_record ss (n + 1) array_class_id c.unwrap-name.result)) e
    ∙ ap (λ (n : List ℕ). c.loop-class.waiting.items ++ bytes_of_record (load_record ss (length cs + 1) array_class_id n)) name in
    record-waits start now bytes c.loop-class.waiting.items c.put_load-2.new.out.items (loads_from ss 0 cs) (load_records ss cs) (load_record ss (length cs + 1) array_class_id array_name) refl last all
