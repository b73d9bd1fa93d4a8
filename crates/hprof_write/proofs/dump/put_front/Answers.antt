use Rattle.std.proofs.Common.{ℕ, List, ◌++◌, [], ◌∷◌, refl, append_assoc, subst}
use Rattle.ah_outside.specs.Outside.{Shelved}
use Rattle.hprof_records.specs.Records.{bytes_of_records}
use Rattle.hprof_write.specs.Classes.{load_records}
use Rattle.hprof_write.specs.Outcomes.{AppendedBut, AppendedPrefix}
use Rattle.hprof_write.specs.Strings.{text_records}
use Rattle.hprof_write.specs.Written.{front_of, no_trace}
use Rattle.hprof_write.proofs.RecordRuns.{record-waits, records-join, records-prefix, records-stopped}
use Rattle.hprof_write.proofs.TableLines.{on_err-always}
use Rattle.hprof_write.proofs.dump.put_front.Goals as goal

pub returns-in_err-put_texts-clause-failed : goal.returns-in_err-put_texts-clause-failed
returns-in_err-put_texts-clause-failed g c =
    let ss = c.args.strings.now.keys in
    let cs = c.args.classes.now in
    let now = g.F.Shelf.shelved c.put_texts.new.shelf in
    let P : Type 0 = (start : Shelved) (bytes : List ℕ) → AppendedBut start bytes c.args.waiting.now.items (g.F.Shelf.shelved c.args.shelf.now)
    → AppendedPrefix start (bytes ++ bytes_of_records (front_of ss cs)) now in
    on_err-always P c.from_residual.result
    (λ start bytes but. records-prefix start now bytes (text_records 1 ss) (load_records ss cs ++ no_trace ∷ []) (front_of ss cs)
    (append_assoc (text_records 1 ss) (load_records ss cs) (no_trace ∷ [])) (c.in_err-put_texts.ensures.failed start bytes but))

pub returns-in_err-put_loads-clause-failed : goal.returns-in_err-put_loads-clause-failed
returns-in_err-put_loads-clause-failed g c =
    let ss = c.args.strings.now.keys in
    let cs = c.args.classes.now in
    let now = g.F.Shelf.shelved c.put_loads.new.shelf in
    let P : Type 0 = (start : Shelved) (bytes : List ℕ) → AppendedBut start bytes c.args.waiting.now.items (g.F.Shelf.shelved c.args.shelf.now)
    → AppendedPrefix start (bytes ++ bytes_of_records (front_of ss cs)) now in
    on_err-always P c.from_residual-in_err-put_loads.result
    (λ start bytes but. records-prefix start now bytes (text_records 1 ss ++ load_records ss cs) (no_trace ∷ []) (front_of ss cs) refl
    (subst (λ (l : List ℕ). AppendedPrefix start l now) (records-join bytes (text_records 1 ss) (load_records ss cs))
    (c.in_err-put_loads.ensures.failed start (bytes ++ bytes_of_records (text_records 1 ss)) (c.in_ok-put_texts.ensures.ok start bytes but))))

pub returns-in_err-put_trace-clause-failed : goal.returns-in_err-put_trace-clause-failed
returns-in_err-put_trace-clause-failed g c =
    let ss = c.args.strings.now.keys in
    let cs = c.args.classes.now in
    let now = g.F.Shelf.shelved c.put_loads.new.shelf in
    let w = c.put_loads.new.waiting.items in
    let P : Type 0 = (start : Shelved) (bytes : List ℕ) → AppendedBut start bytes c.args.waiting.now.items (g.F.Shelf.shelved c.args.shelf.now)
    → AppendedPrefix start (bytes ++ bytes_of_records (front_of ss cs)) now in
    on_err-always P c.from_residual-in_err-put_trace.result
    (λ start bytes but. records-stopped start now bytes w (text_records 1 ss ++ load_records ss cs) (no_trace ∷ []) (front_of ss cs) refl
    (subst (λ (l : List ℕ). AppendedBut start l w now) (records-join bytes (text_records 1 ss) (load_records ss cs))
    (c.in_ok-put_loads.ensures.ok start (bytes ++ bytes_of_records (text_records 1 ss)) (c.in_ok-put_texts.ensures.ok start bytes but))))

pub returns-clause-ok : goal.returns-clause-ok
returns-clause-ok g c =
    λ start bytes but.
    let ss = c.args.strings.now.keys in
    let cs = c.args.classes.now in
    let now = g.F.Shelf.shelved c.put_loads.new.shelf in
    let w = c.put_loads.new.waiting.items in
    record-waits start now bytes w c.put_trace.new.out.items (text_records 1 ss ++ load_records ss cs) (front_of ss cs) no_trace refl c.in_ok-put_trace.ensures
    (subst (λ (l : List ℕ). AppendedBut start l w now) (records-join bytes (text_records 1 ss) (load_records ss cs))
    (c.in_ok-put_loads.ensures.ok start (bytes ++ bytes_of_records (text_records 1 ss)) (c.in_ok-put_texts.ensures.ok start bytes but)))
