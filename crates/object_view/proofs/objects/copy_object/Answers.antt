use Rattle.std.proofs.Common.{◌≡◌, ◌+◌, ◌*◌, ◌/◌, sym, subst, arith}
use Rattle.page_tables.specs.Address.{page_of}
use Rattle.cow_pages.specs.View.{view_of}
use Rattle.heap_graph.specs.Sizes.{size_in}
use Rattle.object_view.specs.Changes.{pages_in, AreWritten, WritesWords}
use Rattle.object_view.specs.Objects.{IsSpace}
use Rattle.object_view.proofs.Copies.{reads-mid, words-mid}
use Rattle.object_view.proofs.Heads.{changes-more, words-pages}
use Rattle.object_view.proofs.Outcomes.{on_err}
use Rattle.object_view.proofs.Spans.{alone-next, not-shared, OthersSeen-pages}
use Rattle.object_view.proofs.Standing.{space-kept, Stands-copied}
use Rattle.object_view.proofs.objects.copy_object.Goals as goal

pub copy_some-requires-clause-from_space : goal.copy_some-requires-clause-from_space
copy_some-requires-clause-from_space c =
    let v = view_of c.args.frames.now c.args.t.0 in
    subst (IsSpace (view_of c.loop-i.frames c.args.t.0) c.args.from.0) (let e : c.args.size ≡ 8 * (c.args.size / 8) = omega (arith, c.requires.size_aligned) in e)
    (space-kept v (view_of c.loop-i.frames c.args.t.0) c.args.from.0 c.args.size c.loop-i.invariant.so_far.words.bytes.mapped c.requires.from_space)

pub copy_some-requires-clause-to_space : goal.copy_some-requires-clause-to_space
copy_some-requires-clause-to_space c =
    let v = view_of c.args.frames.now c.args.t.0 in
    subst (IsSpace (view_of c.loop-i.frames c.args.t.0) c.args.to.0) (let e : c.args.size ≡ 8 * (c.args.size / 8) = omega (arith, c.requires.size_aligned) in e)
    (space-kept v (view_of c.loop-i.frames c.args.t.0) c.args.to.0 c.args.size c.loop-i.invariant.so_far.words.bytes.mapped c.requires.to_space)

pub loop-i-preserved : goal.loop-i-preserved
loop-i-preserved c = record {
  so_far = c.in_ok-n.ensures.copies c.args.frames.now c.loop-i.invariant.so_far;
  in_range = c.in_ok-n.ensures.some.1;
  sound = λ some. c.copy_some.ensures.sound;
}

pub returns-in_err-n-clause-bytes : goal.returns-in_err-n-clause-bytes
returns-in_err-n-clause-bytes c =
    let old = c.args.frames.now in
    let words : WritesWords old c.copy_some.new.frames c.args.t.0 c.args.to.0 c.loop-i.i =
    words-mid old c.loop-i.frames c.copy_some.new.frames c.args.t.0 c.args.from.0 c.args.to.0 c.loop-i.i c.loop-i.invariant.so_far c.in_err-n.ensures.err in
    changes-more (view_of old c.args.t.0) (view_of c.copy_some.new.frames c.args.t.0) c.args.to.0 (c.args.to.0 + 8 * c.loop-i.i) (c.args.to.0 + c.args.size) (omega arith) words.bytes

pub returns-in_err-n-clause-pages : goal.returns-in_err-n-clause-pages
returns-in_err-n-clause-pages c =
    let old = c.args.frames.now in
    let words : WritesWords old c.copy_some.new.frames c.args.t.0 c.args.to.0 c.loop-i.i =
    words-mid old c.loop-i.frames c.copy_some.new.frames c.args.t.0 c.args.from.0 c.args.to.0 c.loop-i.i c.loop-i.invariant.so_far c.in_err-n.ensures.err in
    words-pages old c.copy_some.new.frames c.args.t.0 c.args.to.0 c.loop-i.i c.args.size (omega arith) words

pub returns-in_err-n-clause-partly : goal.returns-in_err-n-clause-partly
returns-in_err-n-clause-partly c =
    let old = c.args.frames.now in
    on_err c.from_residual.result (
      c.loop-i.i,
      omega arith,
      words-mid old c.loop-i.frames c.copy_some.new.frames c.args.t.0 c.args.from.0 c.args.to.0 c.loop-i.i c.loop-i.invariant.so_far c.in_err-n.ensures.err,
    )

pub returns-in_err-n-clause-others_seen : goal.returns-in_err-n-clause-others_seen
returns-in_err-n-clause-others_seen c = OthersSeen-pages c.args.frames.now c.copy_some.new.frames c.args.t.0 (page_of c.args.to.0) _ (returns-in_err-n-clause-pages c)

pub returns-in_err-n-clause-fewer_reads : goal.returns-in_err-n-clause-fewer_reads
returns-in_err-n-clause-fewer_reads c =
    on_err c.from_residual.result (
      c.loop-i.i + 1,
      omega arith,
      reads-mid c.args.frames.now c.loop-i.frames c.copy_some.new.frames c.args.t.0 c.args.from.0 c.args.to.0 c.loop-i.i c.loop-i.invariant.so_far c.in_err-n.ensures.err,
    )

pub returns-in_err-n-clause-succeeds : goal.returns-in_err-n-clause-succeeds
returns-in_err-n-clause-succeeds c alone =
    let old = c.args.frames.now in
    absurd (not-shared c.loop-i.frames c.args.t.0 (page_of (c.args.to.0 + 8 * c.loop-i.i))
    (alone-next old c.loop-i.frames c.args.t.0 c.args.to.0 (8 * c.loop-i.i) c.args.size c.requires.to_aligned (omega arith) (omega (arith, c.loop-i-test.true, c.requires.size_aligned)) c.loop-i.invariant.so_far.words.span alone) c.in_err-n.ensures.only)

pub returns-clause-object : goal.returns-clause-object
returns-clause-object c cs shape header values is s =
    let v = view_of c.args.frames.now c.args.t.0 in
    let w = view_of c.loop-i.frames c.args.t.0 in
    let space : IsSpace w c.args.to.0 (size_in cs shape) = subst (IsSpace w c.args.to.0) (sym is) (space-kept v w c.args.to.0 c.args.size c.loop-i.invariant.so_far.words.bytes.mapped c.requires.to_space) in
    Stands-copied cs v w c.args.from.0 c.args.to.0 shape header values s c.requires.to_aligned space (λ i below. c.loop-i.invariant.so_far.copied i (omega arith))

pub returns-clause-pages : goal.returns-clause-pages
returns-clause-pages c = words-pages c.args.frames.now c.loop-i.frames c.args.t.0 c.args.to.0 c.loop-i.i c.args.size (omega arith) c.loop-i.invariant.so_far.words

pub returns-clause-others_seen : goal.returns-clause-others_seen
returns-clause-others_seen c = OthersSeen-pages c.args.frames.now c.loop-i.frames c.args.t.0 (page_of c.args.to.0) _ (returns-clause-pages c)

pub returns-clause-written : goal.returns-clause-written
returns-clause-written c =
    let to = c.args.to.0 in
    let whole : 8 * c.loop-i.i ≡ c.args.size = omega (arith, c.loop-i-test.false, c.loop-i.invariant.in_range, c.requires.size_aligned) in
    subst (λ n. AreWritten c.loop-i.frames c.args.t.0 (page_of to) (pages_in to (to + n))) whole c.loop-i.invariant.so_far.words.span.written
