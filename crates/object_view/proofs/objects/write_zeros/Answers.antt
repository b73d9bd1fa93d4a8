use Rattle.std.proofs.Common.{◌≡◌, ◌+◌, ◌*◌, ◌≤◌, sym, subst, arith}
use Rattle.page_tables.specs.Address.{page_of}
use Rattle.cow_pages.specs.Memory.{Memory}
use Rattle.cow_pages.specs.View.{view_of}
use Rattle.object_view.specs.Changes.{WritesSpan, WritesWords}
use Rattle.object_view.proofs.Outcomes.{on_err}
use Rattle.object_view.proofs.Heads.{changes-after}
use Rattle.object_view.proofs.Spans.{alone-next, not-shared}
use Rattle.object_view.proofs.objects.write_zeros.Goals as goal

pub returns-in_err-write_word-clause-some : goal.returns-in_err-write_word-clause-some
returns-in_err-write_word-clause-some c =
    let t = c.args.t.0 in
    let at = c.args.at.0 in
    let first = c.args.first in
    let i = c.loop-i.i in
    let old = c.args.frames.now in
    let now = c.loop-i.frames in
    let low : first ≤ i = omega arith in
    on_err c.from_residual.result (λ m words. (
      i,
      omega arith,
      subst (λ (n : Memory). WritesWords m n t at i) (sym c.in_err-write_word.ensures.err)
          (record {
            span = c.loop-i.invariant.span m words.span;
            bytes = changes-after (view_of m t) (view_of old t) (view_of now t) at (at + 8 * first) (at + 8 * first) (at + 8 * i) at (at + 8 * i) (omega arith) (omega arith) (omega arith) (omega arith)
                words.bytes c.loop-i.invariant.bytes;
          }),
    ))

pub returns-in_err-write_word-clause-only : goal.returns-in_err-write_word-clause-only
returns-in_err-write_word-clause-only c =
    let at = c.args.at.0 in
    on_err c.from_residual.result (λ m s alone.
    not-shared c.loop-i.frames c.args.t.0 (page_of (at + 8 * c.loop-i.i))
    (alone-next m c.loop-i.frames c.args.t.0 at (8 * c.loop-i.i) (8 * c.args.words) c.requires.aligned (omega arith) (omega arith) (c.loop-i.invariant.span m s) alone)
    c.in_err-write_word.ensures.only)

pub returns-clause-span : goal.returns-clause-span
returns-clause-span c m s =
    let e : c.loop-i.i ≡ c.args.words = omega arith in
    subst (λ n. WritesSpan m c.loop-i.frames c.args.t.0 c.args.at.0 (c.args.at.0 + 8 * n)) e (c.loop-i.invariant.span m s)
