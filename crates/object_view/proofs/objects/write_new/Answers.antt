use Rattle.std.proofs.Common.{◌≡◌, ℕ, ◌+◌, ◌*◌, ◌/◌, ◌≤◌, sym, subst, arith}
use Rattle.std.proofs.lemmas.Result.{on_err_weaker, on_ok_weaker}
use Rattle.page_tables.specs.Address.{page_of}
use Rattle.cow_pages.specs.Memory.{Memory}
use Rattle.cow_pages.specs.View.{view_of}
use Rattle.heap_graph.specs.Sizes.{size_in}
use Rattle.object_view.specs.declared.names.Header.TheVariants.{Number}
use Rattle.object_view.specs.Changes.{pages_in, AreAlone, WritesSpan, WritesWords}
use Rattle.object_view.proofs.Laid.{size-bounds}
use Rattle.object_view.proofs.Outcomes.{either, is_ok_unless}
use Rattle.object_view.proofs.Spans.{OthersSeen-pages}
use Rattle.object_view.proofs.Heads.{changes-after, changes-more, words-pages, Stands-zeros}
use Rattle.object_view.proofs.objects.write_new.Goals as goal

pub returns-in_err-first-clause-bytes : goal.returns-in_err-first-clause-bytes
returns-in_err-first-clause-bytes c =
    let some : (n : ℕ) × (8 * n ≤ size_in c.args.classes.now c.args.shape) × WritesWords c.args.frames.now c.write_head.new.frames c.args.t.0 c.args.at.0 n = c.in_err-first.ensures.some in
    changes-more (view_of c.args.frames.now c.args.t.0) (view_of c.write_head.new.frames c.args.t.0) c.args.at.0 (c.args.at.0 + 8 * some.0) (c.args.at.0 + size_in c.args.classes.now c.args.shape) (omega (arith, some.1)) some.2.bytes

pub returns-in_err-first-clause-pages : goal.returns-in_err-first-clause-pages
returns-in_err-first-clause-pages c =
    let some : (n : ℕ) × (8 * n ≤ size_in c.args.classes.now c.args.shape) × WritesWords c.args.frames.now c.write_head.new.frames c.args.t.0 c.args.at.0 n = c.in_err-first.ensures.some in
    words-pages c.args.frames.now c.write_head.new.frames c.args.t.0 c.args.at.0 some.0 (size_in c.args.classes.now c.args.shape) some.1 some.2

pub returns-in_err-first-clause-others_seen : goal.returns-in_err-first-clause-others_seen
returns-in_err-first-clause-others_seen c =
    let some : (n : ℕ) × (8 * n ≤ size_in c.args.classes.now c.args.shape) × WritesWords c.args.frames.now c.write_head.new.frames c.args.t.0 c.args.at.0 n = c.in_err-first.ensures.some in
    OthersSeen-pages c.args.frames.now c.write_head.new.frames c.args.t.0 (page_of c.args.at.0) _
    (words-pages c.args.frames.now c.write_head.new.frames c.args.t.0 c.args.at.0 some.0 (size_in c.args.classes.now c.args.shape) some.1 some.2)

pub returns-in_err-first-clause-succeeds : goal.returns-in_err-first-clause-succeeds
returns-in_err-first-clause-succeeds c alone = absurd (c.in_err-first.ensures.only alone)

pub returns-clause-object : goal.returns-clause-object
returns-clause-object c =
    let first : ℕ = c.in_ok-first.first in
    let all = c.in_ok-first.ensures.all in
    let bounds = size-bounds c.args.classes.now c.args.shape in
    let whole : 8 * (c.size_of.result / 8) ≡ size_in c.args.classes.now c.args.shape = omega (arith, bounds.3, c.size_of.ensures) in
    let u = view_of c.args.frames.now c.args.t.0 in
    let v = view_of c.write_head.new.frames c.args.t.0 in
    let w = view_of c.write_zeros.new.frames c.args.t.0 in
    on_ok_weaker c.write_zeros.result
    (λ zeros. Stands-zeros c.args.classes.now u v w c.args.at.0 c.args.shape (Number c.args.number) (8 * first) (8 * (c.size_of.result / 8)) c.requires.aligned c.requires.space c.requires.number
    c.in_ok-first.ensures.head all.0 whole all.2.bytes.mapped c.write_zeros.ensures.bytes zeros)
    c.write_zeros.ensures.zeros

pub returns-clause-bytes : goal.returns-clause-bytes
returns-clause-bytes c =
    let at : ℕ = c.args.at.0 in
    let size : ℕ = size_in c.args.classes.now c.args.shape in
    let first : ℕ = c.in_ok-first.first in
    let bounds = size-bounds c.args.classes.now c.args.shape in
    let whole : 8 * (c.size_of.result / 8) ≡ size = omega (arith, bounds.3, c.size_of.ensures) in
    let all = c.in_ok-first.ensures.all in
    changes-after (view_of c.args.frames.now c.args.t.0) (view_of c.write_head.new.frames c.args.t.0) (view_of c.write_zeros.new.frames c.args.t.0) at (at + 8 * first) (at + 8 * first) (at + 8 * (c.size_of.result / 8)) at (at + size)
    (omega arith) (omega arith) (omega (arith, all.1)) (omega (arith, whole)) all.2.bytes c.write_zeros.ensures.bytes

pages : (old mid new : Memory) (t at first total size : ℕ) → total ≡ size → WritesWords old mid t at first
    → ((m : Memory) → WritesSpan m mid t at (at + 8 * first) → WritesSpan m new t at (at + total)) → WritesSpan old new t at (at + size)
pages old mid new t at first total size e words span = subst (λ n. WritesSpan old new t at (at + n)) e (span old words.span)

pub returns-clause-pages : goal.returns-clause-pages
returns-clause-pages c =
    let old = c.args.frames.now in
    let new = c.write_zeros.new.frames in
    let size : ℕ = size_in c.args.classes.now c.args.shape in
    let total : ℕ = 8 * (c.size_of.result / 8) in
    let all = c.in_ok-first.ensures.all in
    let bounds = size-bounds c.args.classes.now c.args.shape in
    let whole : 8 * (c.size_of.result / 8) ≡ size_in c.args.classes.now c.args.shape = omega (arith, bounds.3, c.size_of.ensures) in
    either c.write_zeros.result
    (on_ok_weaker c.write_zeros.result (λ span. (pages old c.write_head.new.frames new c.args.t.0 c.args.at.0 c.in_ok-first.first total size whole all.2 span).pages) c.write_zeros.ensures.span)
    (on_err_weaker c.write_zeros.result
    (λ some. let it : (n : ℕ) × (n ≤ c.size_of.result / 8) × WritesWords old new c.args.t.0 c.args.at.0 n = some old all.2 in words-pages old new c.args.t.0 c.args.at.0 it.0 size (omega (arith, it.1, whole)) it.2)
    c.write_zeros.ensures.some)

pub returns-clause-partly : goal.returns-clause-partly
returns-clause-partly c =
    let old = c.args.frames.now in
    let new = c.write_zeros.new.frames in
    let size : ℕ = size_in c.args.classes.now c.args.shape in
    let all = c.in_ok-first.ensures.all in
    let bounds = size-bounds c.args.classes.now c.args.shape in
    let whole : 8 * (c.size_of.result / 8) ≡ size_in c.args.classes.now c.args.shape = omega (arith, bounds.3, c.size_of.ensures) in
    on_err_weaker c.write_zeros.result
    (λ some. let it : (n : ℕ) × (n ≤ c.size_of.result / 8) × WritesWords old new c.args.t.0 c.args.at.0 n = some old all.2 in (it.0, omega (arith, it.1, whole), it.2))
    c.write_zeros.ensures.some

pub returns-clause-written : goal.returns-clause-written
returns-clause-written c =
    let old = c.args.frames.now in
    let new = c.write_zeros.new.frames in
    let size : ℕ = size_in c.args.classes.now c.args.shape in
    let total : ℕ = 8 * (c.size_of.result / 8) in
    let all = c.in_ok-first.ensures.all in
    let bounds = size-bounds c.args.classes.now c.args.shape in
    let whole : 8 * (c.size_of.result / 8) ≡ size_in c.args.classes.now c.args.shape = omega (arith, bounds.3, c.size_of.ensures) in
    on_ok_weaker c.write_zeros.result (λ span. (pages old c.write_head.new.frames new c.args.t.0 c.args.at.0 c.in_ok-first.first total size whole all.2 span).written) c.write_zeros.ensures.span

pub returns-clause-others_seen : goal.returns-clause-others_seen
returns-clause-others_seen c = OthersSeen-pages c.args.frames.now c.write_zeros.new.frames c.args.t.0 (page_of c.args.at.0) _ (returns-clause-pages c)

pub returns-clause-succeeds : goal.returns-clause-succeeds
returns-clause-succeeds c alone =
    let all = c.in_ok-first.ensures.all in
    let bounds = size-bounds c.args.classes.now c.args.shape in
    let whole : 8 * (c.size_of.result / 8) ≡ size_in c.args.classes.now c.args.shape = omega (arith, bounds.3, c.size_of.ensures) in
    is_ok_unless c.write_zeros.result c.write_zeros.ensures.only
    (λ never. never c.args.frames.now all.2.span (subst (λ n. AreAlone c.args.frames.now c.args.t.0 (page_of c.args.at.0) (pages_in c.args.at.0 (c.args.at.0 + n))) (sym whole) alone))
