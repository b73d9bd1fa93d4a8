use Rattle.std.proofs.Common.{◌≡◌, ◌∙◌, ◌+◌, ◌*◌, ◌<◌, ◌≤◌, ◌%◌, IsTrue, ap, subst, arith}
use Rattle.page_tables.specs.Address.{is_immune}
use Rattle.cow_pages.specs.View.{bytes_at, view_of}
use Rattle.object_view.specs.Changes.{WritesSpan}
use Rattle.object_view.proofs.Copies.{quiet-along, IsCopying-step, IsCopying-piece}
use Rattle.object_view.proofs.Spans.{WritesSpan-piece}
use Rattle.object_view.proofs.objects.copy_some.Goals as goal

pub returns-then-not-is_sliced-clause-copies : goal.returns-then-not-is_sliced-clause-copies
returns-then-not-is_sliced-clause-copies c = λ m so_far.
    IsCopying-step m c.args.frames.now c.read_u64-word.new.self c.write_word.new.frames c.args.t.0 c.args.from.0 c.args.to.0 (8 * c.args.words) c.args.i c.read_u64-word.result c.requires.apart
    (omega (arith, c.requires.rising)) so_far c.read_u64-word.ensures.bytes c.read_u64-word.ensures.counts c.in_ok-write_word.ensures.bytes c.in_ok-write_word.ensures.span c.write_word.ensures.reads

pub returns-clause-copies : goal.returns-clause-copies
returns-clause-copies c = λ m so_far.
    let old = c.args.frames.now in
    let new = c.copy_slice.new.self in
    let t = c.args.t.0 in
    let from = c.args.from.0 in
    let to = c.args.to.0 in
    let i = c.args.i in
    let n = c.min-count.result in
    let sliced : IsTrue c.is_sliced.result = c.if-not-is_sliced.false in
    let some : 0 < n = omega (arith, c.min-count.ensures, c.min.ensures, c.words_in_page.ensures.some, c.words_in_page-2.ensures.some, c.requires.rising) in
    let here : (from + 8 * i) % 4096 + 8 * n ≤ 4096 = omega (arith, c.min-count.ensures, c.min.ensures, c.words_in_page.ensures.within) in
    let there : (to + 8 * i) % 4096 + 8 * n ≤ 4096 = omega (arith, c.min-count.ensures, c.min.ensures, c.words_in_page-2.ensures.within) in
    let fits : 8 * i + 8 * n ≤ 8 * c.args.words = omega (arith, c.min-count.ensures, c.requires.rising) in
    let bytes = bytes_at (view_of old t) (from + 8 * i) (8 * n) in
    let span : WritesSpan m new t to (to + (8 * i + 8 * n)) =
    WritesSpan-piece m old new t to (8 * i) (8 * n) bytes c.requires.to_aligned (omega arith) (omega (arith, some)) there
    c.in_ok-copy_slice.ensures.page c.in_ok-copy_slice.ensures.takes c.copy_slice.ensures.sound so_far.words.span in
    IsCopying-piece m old new t from to (8 * c.args.words) i n c.requires.apart fits so_far c.in_ok-copy_slice.ensures.view
    (subst (λ k. WritesSpan m new t to (to + k)) (let e : 8 * i + 8 * n ≡ 8 * (i + n) = omega arith in e) span)
    c.in_ok-copy_slice.ensures.reads
    (λ k below. ap is_immune (let e : from + 8 * (i + k) ≡ from + 8 * i + 8 * k = omega arith in e)
    ∙ quiet-along (from + 8 * i) (8 * k) (omega (arith, here, below)) (c.is_sliced.ensures sliced).0)
