use Rattle.std.proofs.Common.{◌≡◌, ◌∙◌, ℕ, List, ◌++◌, [], ◌∷◌, refl, sym, subst, ap}
use Rattle.ah_outside.specs.Outside.{Appended, Shelved}
use Rattle.class_layout.specs.ClassList.{Class}
use Rattle.heap_graph.specs.Graph.{Graph}
use Rattle.hprof_records.specs.declared.top_record.TopRecord.{TopRecord}
use Rattle.hprof_records.specs.Records.{bytes_of_records, dump_bytes, header_bytes}
use Rattle.hprof_write.specs.Outcomes.{AppendedBut, AppendedPrefix}
use Rattle.hprof_write.specs.Segments.{segments}
use Rattle.hprof_write.specs.Strings.{strings}
use Rattle.hprof_write.specs.Written.{dump_end, front_of, items, written, written_with}
use Rattle.hprof_write.proofs.Appends.{Appended-none, AppendedBut-stopped}
use Rattle.hprof_write.proofs.RecordRuns.{record-waits, records-join, records-prefix}
use Rattle.hprof_write.proofs.TableLines.{on_err-always}
use Rattle.hprof_write.proofs.dump.write_dump.Goals as goal

-- the segments of a dump
abbrev segments_of : List (List ℕ) → Graph → (ℕ → ℕ) → List TopRecord
segments_of ss graph table = segments ss (items ss graph table)

-- nothing was put
nothing : (start : Shelved) (bytes : List ℕ) → AppendedPrefix start bytes start
nothing start bytes = (0, Appended-none start)

-- the header waits
header-waits : (start : Shelved) (first out header : List ℕ) → first ≡ [] → out ≡ first ++ header → AppendedBut start header out start
header-waits start first out header none e = ([], Appended-none start, e ∙ ap (λ (l : List ℕ). l ++ header) none)

-- the strings of the dump are those that were gathered
as-written : (time : ℕ) (graph : Graph) (table : ℕ → ℕ) (cs : List Class) (ss : List (List ℕ)) (start now : Shelved) → cs ≡ graph.classes → ss ≡ strings cs
    → AppendedPrefix start (dump_bytes time (written_with ss graph table)) now → AppendedPrefix start (dump_bytes time (written graph table)) now
as-written time graph table cs ss start now ec es h =
    subst (λ (l : List (List ℕ)). AppendedPrefix start (dump_bytes time (written_with l graph table)) now) (es ∙ ap strings ec) h

-- some first bytes of what comes before the segments
front-prefix : (time : ℕ) (graph : Graph) (table : ℕ → ℕ) (cs : List Class) (ss : List (List ℕ)) (start now : Shelved) → cs ≡ graph.classes
    → AppendedPrefix start (header_bytes time ++ bytes_of_records (front_of ss cs)) now → AppendedPrefix start (dump_bytes time (written_with ss graph table)) now
front-prefix time graph table cs ss start now ec h =
    let front = front_of ss graph.classes in
    let segs = segments_of ss graph table in
    let moved = subst (λ (l : List Class). AppendedPrefix start (header_bytes time ++ bytes_of_records (front_of ss l)) now) ec h in
    records-prefix start now (header_bytes time) (front ++ segs) (dump_end ∷ []) (written_with ss graph table) refl
    (records-prefix start now (header_bytes time) front segs (front ++ segs) refl moved)

-- what comes before the segments was appended, but for what waits
front-but : (time : ℕ) (graph : Graph) (cs : List Class) (ss : List (List ℕ)) (start now : Shelved) (waiting : List ℕ) → cs ≡ graph.classes
    → AppendedBut start (header_bytes time ++ bytes_of_records (front_of ss cs)) waiting now → AppendedBut start (header_bytes time ++ bytes_of_records (front_of ss graph.classes)) waiting now
front-but time graph cs ss start now waiting ec h =
    subst (λ (l : List Class). AppendedBut start (header_bytes time ++ bytes_of_records (front_of ss l)) waiting now) ec h

-- some first bytes of what comes before the end
segments-prefix : (time : ℕ) (graph : Graph) (table : ℕ → ℕ) (ss : List (List ℕ)) (start now : Shelved)
    → AppendedPrefix start ((header_bytes time ++ bytes_of_records (front_of ss graph.classes)) ++ bytes_of_records (segments_of ss graph table)) now
    → AppendedPrefix start (dump_bytes time (written_with ss graph table)) now
segments-prefix time graph table ss start now h =
    let front = front_of ss graph.classes in
    let segs = segments_of ss graph table in
    records-prefix start now (header_bytes time) (front ++ segs) (dump_end ∷ []) (written_with ss graph table) refl
    (subst (λ (l : List ℕ). AppendedPrefix start l now) (records-join (header_bytes time) front segs) h)

-- what comes before the end was appended, but for what waits
segments-but : (time : ℕ) (graph : Graph) (table : ℕ → ℕ) (ss : List (List ℕ)) (start now : Shelved) (waiting : List ℕ)
    → AppendedBut start ((header_bytes time ++ bytes_of_records (front_of ss graph.classes)) ++ bytes_of_records (segments_of ss graph table)) waiting now
    → AppendedBut start (header_bytes time ++ bytes_of_records (front_of ss graph.classes ++ segments_of ss graph table)) waiting now
segments-but time graph table ss start now waiting h =
    subst (λ (l : List ℕ). AppendedBut start l waiting now) (records-join (header_bytes time) (front_of ss graph.classes) (segments_of ss graph table)) h

pub returns-in_err-strings-clause-failed : goal.returns-in_err-strings-clause-failed
returns-in_err-strings-clause-failed g c =
    let start = g.F.Shelf.shelved c.args.shelf.now in
    let total = dump_bytes c.args.time (written (g.V.HeapView.graph c.args.view.now) (g.V.HeapView.table c.args.view.now)) in
    on_err-always (AppendedPrefix start total start) c.from_residual.result (nothing start total)

pub returns-in_err-put_header-clause-failed : goal.returns-in_err-put_header-clause-failed
returns-in_err-put_header-clause-failed g c =
    let start = g.F.Shelf.shelved c.args.shelf.now in
    let total = dump_bytes c.args.time (written (g.V.HeapView.graph c.args.view.now) (g.V.HeapView.table c.args.view.now)) in
    on_err-always (AppendedPrefix start total start) c.from_residual-in_err-put_header.result (nothing start total)

pub returns-in_err-put_front-clause-failed : goal.returns-in_err-put_front-clause-failed
returns-in_err-put_front-clause-failed g c =
    let graph = g.V.HeapView.graph c.args.view.now in
    let table = g.V.HeapView.table c.args.view.now in
    let start = g.F.Shelf.shelved c.args.shelf.now in
    let now = g.F.Shelf.shelved c.put_front.new.shelf in
    let time = c.args.time in
    let ss = c.in_ok-strings.strings.keys in
    let but = header-waits start c.new-waiting.result.items c.put_header.new.out.items (header_bytes time) c.new-waiting.ensures.items c.in_ok-put_header.ensures in
    on_err-always (AppendedPrefix start (dump_bytes time (written graph table)) now) c.from_residual-in_err-put_front.result
    (as-written time graph table c.classes.result.now ss start now c.classes.ensures.value c.in_ok-strings.ensures
    (front-prefix time graph table c.classes-2.result.now ss start now c.classes-2.ensures.value (c.in_err-put_front.ensures.failed start (header_bytes time) but)))

pub returns-in_err-put_segments-clause-failed : goal.returns-in_err-put_segments-clause-failed
returns-in_err-put_segments-clause-failed g c =
    let graph = g.V.HeapView.graph c.args.view.now in
    let table = g.V.HeapView.table c.args.view.now in
    let start = g.F.Shelf.shelved c.args.shelf.now in
    let now = g.F.Shelf.shelved c.put_segments.new.shelf in
    let time = c.args.time in
    let ss = c.in_ok-strings.strings.keys in
    let but = header-waits start c.new-waiting.result.items c.put_header.new.out.items (header_bytes time) c.new-waiting.ensures.items c.in_ok-put_header.ensures in
    let front = front-but time graph c.classes-2.result.now ss start (g.F.Shelf.shelved c.put_front.new.shelf) c.put_front.new.waiting.items c.classes-2.ensures.value
    (c.in_ok-put_front.ensures.ok start (header_bytes time) but) in
    on_err-always (AppendedPrefix start (dump_bytes time (written graph table)) now) c.from_residual-in_err-put_segments.result
    (as-written time graph table c.classes.result.now ss start now c.classes.ensures.value c.in_ok-strings.ensures
    (segments-prefix time graph table ss start now
    (c.in_err-put_segments.ensures.failed start (header_bytes time ++ bytes_of_records (front_of ss graph.classes)) front)))

pub returns-in_err-put_end-clause-failed : goal.returns-in_err-put_end-clause-failed
returns-in_err-put_end-clause-failed g c =
    let graph = g.V.HeapView.graph c.args.view.now in
    let table = g.V.HeapView.table c.args.view.now in
    let start = g.F.Shelf.shelved c.args.shelf.now in
    let now = g.F.Shelf.shelved c.put_segments.new.shelf in
    let time = c.args.time in
    let ss = c.in_ok-strings.strings.keys in
    let but = header-waits start c.new-waiting.result.items c.put_header.new.out.items (header_bytes time) c.new-waiting.ensures.items c.in_ok-put_header.ensures in
    let front = front-but time graph c.classes-2.result.now ss start (g.F.Shelf.shelved c.put_front.new.shelf) c.put_front.new.waiting.items c.classes-2.ensures.value
    (c.in_ok-put_front.ensures.ok start (header_bytes time) but) in
    let bytes : List ℕ = header_bytes time ++ bytes_of_records (front_of ss graph.classes) in
    on_err-always (AppendedPrefix start (dump_bytes time (written graph table)) now) c.from_residual-in_err-put_end.result
    (as-written time graph table c.classes.result.now ss start now c.classes.ensures.value c.in_ok-strings.ensures
    (segments-prefix time graph table ss start now
    (AppendedBut-stopped start now (bytes ++ bytes_of_records (segments_of ss graph table)) c.put_segments.new.waiting.items (c.in_ok-put_segments.ensures.ok start bytes front))))

pub returns-in_err-put_rest-clause-failed : goal.returns-in_err-put_rest-clause-failed
returns-in_err-put_rest-clause-failed g c =
    let graph = g.V.HeapView.graph c.args.view.now in
    let table = g.V.HeapView.table c.args.view.now in
    let start = g.F.Shelf.shelved c.args.shelf.now in
    let before = g.F.Shelf.shelved c.put_segments.new.shelf in
    let now = g.F.Shelf.shelved c.put_rest.new.shelf in
    let time = c.args.time in
    let ss = c.in_ok-strings.strings.keys in
    let but = header-waits start c.new-waiting.result.items c.put_header.new.out.items (header_bytes time) c.new-waiting.ensures.items c.in_ok-put_header.ensures in
    let front = front-but time graph c.classes-2.result.now ss start (g.F.Shelf.shelved c.put_front.new.shelf) c.put_front.new.waiting.items c.classes-2.ensures.value
    (c.in_ok-put_front.ensures.ok start (header_bytes time) but) in
    let bytes : List ℕ = header_bytes time ++ bytes_of_records (front_of ss graph.classes) in
    let segs = segments-but time graph table ss start before c.put_segments.new.waiting.items (c.in_ok-put_segments.ensures.ok start bytes front) in
    let all = record-waits start before (header_bytes time) c.put_segments.new.waiting.items c.put_end.new.out.items (front_of ss graph.classes ++ segments_of ss graph table)
    (written_with ss graph table) dump_end refl c.in_ok-put_end.ensures segs in
    let waits = subst (λ (l : List ℕ). AppendedBut start (dump_bytes time (written_with ss graph table)) l before) (sym c.deref.ensures.value) all in
    on_err-always (AppendedPrefix start (dump_bytes time (written graph table)) now) c.from_residual-in_err-put_rest.result
    (as-written time graph table c.classes.result.now ss start now c.classes.ensures.value c.in_ok-strings.ensures
    (c.in_err-put_rest.ensures.failed start (dump_bytes time (written_with ss graph table)) waits))

pub returns-clause-ok : goal.returns-clause-ok
returns-clause-ok g c =
    let graph = g.V.HeapView.graph c.args.view.now in
    let table = g.V.HeapView.table c.args.view.now in
    let start = g.F.Shelf.shelved c.args.shelf.now in
    let before = g.F.Shelf.shelved c.put_segments.new.shelf in
    let now = g.F.Shelf.shelved c.put_rest.new.shelf in
    let time = c.args.time in
    let ss = c.in_ok-strings.strings.keys in
    let but = header-waits start c.new-waiting.result.items c.put_header.new.out.items (header_bytes time) c.new-waiting.ensures.items c.in_ok-put_header.ensures in
    let front = front-but time graph c.classes-2.result.now ss start (g.F.Shelf.shelved c.put_front.new.shelf) c.put_front.new.waiting.items c.classes-2.ensures.value
    (c.in_ok-put_front.ensures.ok start (header_bytes time) but) in
    let bytes : List ℕ = header_bytes time ++ bytes_of_records (front_of ss graph.classes) in
    let segs = segments-but time graph table ss start before c.put_segments.new.waiting.items (c.in_ok-put_segments.ensures.ok start bytes front) in
    let all = record-waits start before (header_bytes time) c.put_segments.new.waiting.items c.put_end.new.out.items (front_of ss graph.classes ++ segments_of ss graph table)
    (written_with ss graph table) dump_end refl c.in_ok-put_end.ensures segs in
    let waits = subst (λ (l : List ℕ). AppendedBut start (dump_bytes time (written_with ss graph table)) l before) (sym c.deref.ensures.value) all in
    subst (λ (l : List (List ℕ)). Appended start (dump_bytes time (written_with l graph table)) now) (c.in_ok-strings.ensures ∙ ap strings c.classes.ensures.value)
    (c.in_ok-put_rest.ensures.ok start (dump_bytes time (written_with ss graph table)) waits)
