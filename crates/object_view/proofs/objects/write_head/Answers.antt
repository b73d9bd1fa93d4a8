use Rattle.std.proofs.Common.{rules, ◌≡◌, ◌∙◌, ◌+◌, ◌*◌, ◌^◌, sym, ap, subst, arith}
use Rattle.std.specs.Int.{w64, to_le_bytes}
use Rattle.cow_pages.specs.Memory.{Memory}
use Rattle.cow_pages.specs.View.{bytes_at, view_of, WritesBytes}
use Rattle.object_view.specs.declared.names.Header.TheVariants.{Number}
use Rattle.object_view.specs.Changes.{WritesWords}
use Rattle.object_view.specs.Words.{class_word, lock_word}
use Rattle.object_view.proofs.Laid.{size-bounds}
use Rattle.object_view.proofs.Outcomes.{on_err}
use Rattle.object_view.proofs.Heads.{array-end, first-words, instance-end, never-fails, words-array, words-instance, WritesWords-none, WritesWords-step}
use Rattle.object_view.proofs.objects.write_head.Goals as goal

pub write_word-requires-clause-mapped : goal.write_word-requires-clause-mapped
write_word-requires-clause-mapped c =
    let size = size-bounds c.args.classes.now c.args.shape in
    c.requires.space.mapped 0 (omega (arith, size.0, size.1, size.2))

pub returns-in_err-write_word-clause-some : goal.returns-in_err-write_word-clause-some
returns-in_err-write_word-clause-some c =
    let old = c.args.frames.now in
    let same : c.write_word.new.frames ≡ old = c.in_err-write_word.ensures.err in
    on_err c.from_residual.result (0, omega arith, subst (λ (n : Memory). WritesWords old n c.args.t.0 c.args.at.0 0) (sym same) (WritesWords-none old c.args.t.0 c.args.at.0))

pub returns-in_err-write_word-clause-only : goal.returns-in_err-write_word-clause-only
returns-in_err-write_word-clause-only c =
    let old = c.args.frames.now in
    let size = size-bounds c.args.classes.now c.args.shape in
    on_err c.from_residual.result (λ alone.
    never-fails old old c.args.t.0 c.args.at.0 0 c.args.classes.now c.args.shape c.requires.aligned (omega (arith, size.0, size.1, size.2)) (WritesWords-none old c.args.t.0 c.args.at.0).span alone c.in_err-write_word.ensures.only)

pub returns-in_err-write_word-in-Array-clause-some : goal.returns-in_err-write_word-in-Array-clause-some
returns-in_err-write_word-in-Array-clause-some c =
    let old = c.args.frames.now in
    let none = WritesWords-none old c.args.t.0 c.args.at.0 in
    let size = size-bounds c.args.classes.now c.args.shape in
    let same : c.write_word-in-Array.new.frames ≡ c.write_word.new.frames = c.in_err-write_word-in-Array.ensures.err in
    on_err c.from_residual-in_err-write_word-in-Array.result (
      1,
      omega (arith, size.0, size.1, size.2),
      subst (λ (n : Memory). WritesWords old n c.args.t.0 c.args.at.0 1) (sym same)
          (WritesWords-step old old c.write_word.new.frames c.args.t.0 c.args.at.0 0 c.head_of.result none c.in_ok-write_word.ensures.bytes (c.in_ok-write_word.ensures.span old none.span)),
    )

pub returns-in_err-write_word-in-Array-clause-only : goal.returns-in_err-write_word-in-Array-clause-only
returns-in_err-write_word-in-Array-clause-only c =
    let old = c.args.frames.now in
    let none = WritesWords-none old c.args.t.0 c.args.at.0 in
    let size = size-bounds c.args.classes.now c.args.shape in
    let end = array-end c.args.shape c.in-Array.kind c.in-Array.count c.in-Array.is in
    on_err c.from_residual-in_err-write_word-in-Array.result (λ alone.
    never-fails old c.write_word.new.frames c.args.t.0 c.args.at.0 1 c.args.classes.now c.args.shape c.requires.aligned (omega (arith, size.0, size.1, size.3, end)) (c.in_ok-write_word.ensures.span old none.span) alone
    c.in_err-write_word-in-Array.ensures.only)

pub returns-in-Instance-clause-head : goal.returns-in-Instance-clause-head
returns-in-Instance-clause-head c =
    let v = view_of c.write_word.new.frames c.args.t.0 in
    let there : bytes_at v c.args.at.0 8 ≡ to_le_bytes w64 (class_word c.args.shape + lock_word (Number c.args.number) * 2 ^ 32) =
    ap (λ n. bytes_at v n 8) (let e : c.args.at.0 ≡ c.args.at.0 + 0 = omega arith in e) ∙ c.in_ok-write_word.ensures.bytes.there ∙ ap (to_le_bytes w64) c.head_of.ensures.value in
    let words = first-words v c.args.at.0 c.args.shape c.args.number c.head_of.ensures.small c.requires.number.1 there in
    words-instance v c.args.at.0 c.args.shape (Number c.args.number) c.in-Instance.field-0 c.in-Instance.is words.0 words.1

pub returns-in-Instance-clause-all : goal.returns-in-Instance-clause-all
returns-in-Instance-clause-all c =
    let old = c.args.frames.now in
    let none = WritesWords-none old c.args.t.0 c.args.at.0 in
    let size = size-bounds c.args.classes.now c.args.shape in
    let end = instance-end c.args.shape c.in-Instance.field-0 c.in-Instance.is in (
      omega (arith, end),
      omega (arith, size.0, size.1, size.2),
      WritesWords-step old old c.write_word.new.frames c.args.t.0 c.args.at.0 0 c.head_of.result none c.in_ok-write_word.ensures.bytes (c.in_ok-write_word.ensures.span old none.span),
    )

pub returns-in_ok-write_word-in-Array-clause-head : goal.returns-in_ok-write_word-in-Array-clause-head
returns-in_ok-write_word-in-Array-clause-head c =
    let v = view_of c.write_word.new.frames c.args.t.0 in
    let w = view_of c.write_word-in-Array.new.frames c.args.t.0 in
    let there : bytes_at v c.args.at.0 8 ≡ to_le_bytes w64 (class_word c.args.shape + lock_word (Number c.args.number) * 2 ^ 32) =
    ap (λ n. bytes_at v n 8) (let e : c.args.at.0 ≡ c.args.at.0 + 0 = omega arith in e) ∙ c.in_ok-write_word.ensures.bytes.there ∙ ap (to_le_bytes w64) c.head_of.ensures.value in
    let words = first-words v c.args.at.0 c.args.shape c.args.number c.head_of.ensures.small c.requires.number.1 there in
    let count : c.from.result ≡ c.in-Array.count = search rules in
    words-array v w c.args.at.0 c.args.shape (Number c.args.number) c.in-Array.kind c.in-Array.count c.in-Array.is words.0 words.1 (search rules)
    (subst (λ n. WritesBytes v w (c.args.at.0 + 8) (to_le_bytes w64 n)) count c.in_ok-write_word-in-Array.ensures.bytes)

pub returns-in_ok-write_word-in-Array-clause-all : goal.returns-in_ok-write_word-in-Array-clause-all
returns-in_ok-write_word-in-Array-clause-all c =
    let old = c.args.frames.now in
    let none = WritesWords-none old c.args.t.0 c.args.at.0 in
    let size = size-bounds c.args.classes.now c.args.shape in
    let end = array-end c.args.shape c.in-Array.kind c.in-Array.count c.in-Array.is in
    let one = WritesWords-step old old c.write_word.new.frames c.args.t.0 c.args.at.0 0 c.head_of.result none c.in_ok-write_word.ensures.bytes (c.in_ok-write_word.ensures.span old none.span) in (
      omega (arith, end),
      omega (arith, size.0, size.1, size.3, end),
      WritesWords-step old c.write_word.new.frames c.write_word-in-Array.new.frames c.args.t.0 c.args.at.0 1 c.from.result one c.in_ok-write_word-in-Array.ensures.bytes (c.in_ok-write_word-in-Array.ensures.span old one.span),
    )
