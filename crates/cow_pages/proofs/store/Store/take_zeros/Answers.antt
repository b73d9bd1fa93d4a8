use Rattle.std.proofs.Common.{◌<◌, ℕ, List, [], length, set, sym, ap, ◌∙◌, arith}
use Rattle.std.specs.Prelude.{replicate}
use Rattle.page_tables.specs.declared.frame.Frame.{Frame}
use Rattle.page_tables.proofs.ListLemmas.{field-was}
use Rattle.cow_pages.proofs.store.Store.take_zeros.Goals as goal

pub returns-clause-frames : goal.returns-clause-frames
returns-clause-frames c =
    let frames = c.args.self.now.frames.items in
    let number = c.take-number.result in
    let x = c.index_mut.result.now in
    let within : number < length frames = omega (arith, c.take-number.ensures.within, c.requires.counts) in
    let read = field-was (λ (it : Frame). it.bytes) frames number x [] within c.index_mut.ensures.value in
    let len = ap (λ (bs : List ℕ). length bs) (sym read) ∙ c.requires.whole number within in
    ap (λ (bs : List ℕ). set frames number (record { bytes = bs })) (c.clear.ensures ∙ ap (λ n. replicate n 0) len)
