use Rattle.std.proofs.Common.{◌≡◌, ◌∙◌, ℕ, ◌+◌, ◌≤◌, List, ◌++◌, [], Some, length, take, arith, refl, sym, ap, subst}
use Rattle.std.proofs.lemmas.List.{take_all}
use Rattle.std.specs.List.{slice_get}
use Rattle.std.specs.Option.{option_copied}
use Rattle.ah_outside.specs.Outside.{Shelved}
use Rattle.hprof_records.specs.declared.top_record.TopRecord.TheVariants.{Text}
use Rattle.hprof_records.specs.Records.{bytes_of_records}
use Rattle.hprof_write.specs.Outcomes.{AppendedBut, AppendedPrefix}
use Rattle.hprof_write.specs.Strings.{text_records}
use Rattle.hprof_write.proofs.RecordRuns.{record-waits, records-none, records-prefix, records-stopped, text-next, texts-split}
use Rattle.hprof_write.proofs.TableLines.{on_err-always}
use Rattle.hprof_write.proofs.dump.put_texts.Goals as goal

pub returns-then-len-clause-failed : goal.returns-then-len-clause-failed
returns-then-len-clause-failed g c =
    λ start bytes but.
    let now = g.F.Shelf.shelved c.args.shelf.now in
    records-stopped start now bytes c.args.waiting.now.items [] (text_records 1 c.args.strings.now.keys) (text_records 1 c.args.strings.now.keys) refl
    (records-none start now bytes c.args.waiting.now.items but)

pub loop-k-preserved : goal.loop-k-preserved
loop-k-preserved g c =
    let inv = c.loop-k.invariant in
    let ss = c.args.strings.now.keys in
    let k = c.loop-k.k in
    let key : slice_get ss k ≡ Some c.unwrap-text.result.now = sym c.get_index.ensures.key ∙ ap option_copied c.unwrap-text.ensures in
    record {
      count = inv.count;
      put = λ start bytes but. c.in_ok-put_piece.ensures.ok start (bytes ++ bytes_of_records (text_records 1 (take (k + 1) ss)))
          (record-waits start (g.F.Shelf.shelved c.loop-k.shelf) bytes c.loop-k.waiting.items c.put_text.new.out.items (text_records 1 (take k ss)) (text_records 1 (take (k + 1) ss))
          (Text 0 (k + 1) c.unwrap-text.result.now) (text-next ss k c.unwrap-text.result.now key) c.in_ok-put_text.ensures (inv.put start bytes but));
      unfinished = c.in_ok-put_piece.ensures.unfinished;
      never_falls = let a = inv.never_falls in let b = c.put_piece.ensures.never_falls in omega arith;
    }

pub returns-in_err-put_text-clause-failed : goal.returns-in_err-put_text-clause-failed
returns-in_err-put_text-clause-failed g c =
    let ss = c.args.strings.now.keys in
    let k = c.loop-k.k in
    let now = g.F.Shelf.shelved c.loop-k.shelf in
    let rest = texts-split 1 ss k in
    let P : Type 0 = (start : Shelved) (bytes : List ℕ) → AppendedBut start bytes c.args.waiting.now.items (g.F.Shelf.shelved c.args.shelf.now)
    → AppendedPrefix start (bytes ++ bytes_of_records (text_records 1 ss)) now in
    on_err-always P c.from_residual.result
    (λ start bytes but. records-stopped start now bytes c.loop-k.waiting.items (text_records 1 (take k ss)) rest.0 (text_records 1 ss) rest.1 (c.loop-k.invariant.put start bytes but))

pub returns-in_err-put_piece-clause-failed : goal.returns-in_err-put_piece-clause-failed
returns-in_err-put_piece-clause-failed g c =
    let inv = c.loop-k.invariant in
    let ss = c.args.strings.now.keys in
    let k = c.loop-k.k in
    let now = g.F.Shelf.shelved c.put_piece.new.shelf in
    let rest = texts-split 1 ss (k + 1) in
    let key : slice_get ss k ≡ Some c.unwrap-text.result.now = sym c.get_index.ensures.key ∙ ap option_copied c.unwrap-text.ensures in
    let P : Type 0 = (start : Shelved) (bytes : List ℕ) → AppendedBut start bytes c.args.waiting.now.items (g.F.Shelf.shelved c.args.shelf.now)
    → AppendedPrefix start (bytes ++ bytes_of_records (text_records 1 ss)) now in
    on_err-always P c.from_residual-in_err-put_piece.result
    (λ start bytes but. records-prefix start now bytes (text_records 1 (take (k + 1) ss)) rest.0 (text_records 1 ss) rest.1
    (c.in_err-put_piece.ensures.failed start (bytes ++ bytes_of_records (text_records 1 (take (k + 1) ss)))
    (record-waits start (g.F.Shelf.shelved c.loop-k.shelf) bytes c.loop-k.waiting.items c.put_text.new.out.items (text_records 1 (take k ss)) (text_records 1 (take (k + 1) ss))
    (Text 0 (k + 1) c.unwrap-text.result.now) (text-next ss k c.unwrap-text.result.now key) c.in_ok-put_text.ensures (inv.put start bytes but))))

pub returns-clause-ok : goal.returns-clause-ok
returns-clause-ok g c =
    λ start bytes but.
    let ss = c.args.strings.now.keys in
    let k = c.loop-k.k in
    let count = c.loop-k.invariant.count in
    let within : length ss ≤ k = omega arith in
    subst (λ (l : List (List ℕ)). AppendedBut start (bytes ++ bytes_of_records (text_records 1 l)) c.loop-k.waiting.items (g.F.Shelf.shelved c.loop-k.shelf)) (take_all k ss within)
    (c.loop-k.invariant.put start bytes but)
