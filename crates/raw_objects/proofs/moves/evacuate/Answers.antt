use Rattle.std.proofs.Common.{◌≡◌, ◌∙◌, ◌+◌, ◌/◌, true, refl, inl, ap, sym, subst, arith}
use Rattle.std.proofs.lemmas.Result.{on_err_weaker, on_ok_weaker}
use Rattle.page_tables.specs.Address.{page_of}
use Rattle.cow_pages.specs.Memory.{Memory}
use Rattle.cow_pages.specs.View.{view_of}
use Rattle.object_view.proofs.Outcomes.{on_err, on_ok}
use Rattle.raw_objects.specs.Raws.{HoldsRaws}
use Rattle.raw_objects.proofs.Kept.{keeps-put, keeps-then, keeps-words, object-page}
use Rattle.raw_objects.proofs.Raws.{raws-beside, raws-evacuated-by}
use Rattle.raw_objects.proofs.moves.evacuate.Goals as goal

pub set_forward-requires-clause-mapped : goal.set_forward-requires-clause-mapped
set_forward-requires-clause-mapped c =
    let here : c.args.from.0 ≡ c.args.from.0 + 0 = omega arith in
    c.copy_object.ensures.bytes.mapped c.args.from.0 ∙ ap (view_of c.args.frames.now c.args.t.0).mapped here ∙ c.requires.from_space.mapped 0 c.requires.some

pub returns-clause-held : goal.returns-clause-held
returns-clause-held c =
    on_ok_weaker c.set_forward.result
    (λ puts cs raws h there size free. raws-evacuated-by cs _ _ _ raws c.args.from.0 c.args.to.0 c.args.size h there size c.requires.to_aligned c.requires.to_space free
    c.in_ok-copy_object.ensures.copied c.copy_object.ensures.bytes puts) c.set_forward.ensures.word

pub returns-in_err-copy_object-clause-err : goal.returns-in_err-copy_object-clause-err
returns-in_err-copy_object-clause-err c = on_err c.from_residual.result (λ cs raws h free. raws-beside cs _ _ raws h c.args.to.0 c.args.size free c.copy_object.ensures.bytes)

pub returns-clause-err : goal.returns-clause-err
returns-clause-err c =
    on_err_weaker c.set_forward.result
    (λ same cs raws h free. subst (λ (m : Memory). HoldsRaws cs (view_of m c.args.t.0) raws) (sym same) (raws-beside cs _ _ raws h c.args.to.0 c.args.size free c.copy_object.ensures.bytes)) c.set_forward.ensures.err

pub returns-in_err-copy_object-clause-keeps : goal.returns-in_err-copy_object-clause-keeps
returns-in_err-copy_object-clause-keeps c may covers here =
    keeps-words c.copy_object.result c.args.frames.now c.copy_object.new.frames c.args.t.0 c.args.to.0 c.args.size may c.copy_object.ensures.pages (c.copy_object.ensures.sound c.requires.some)
    c.requires.to_space c.copy_object.ensures.bytes.mapped c.copy_object.ensures.written c.copy_object.ensures.partly covers

pub returns-clause-keeps : goal.returns-clause-keeps
returns-clause-keeps c may covers here =
    keeps-then c.args.frames.now c.copy_object.new.frames c.set_forward.new.frames c.args.t.0 may
    (keeps-words c.copy_object.result c.args.frames.now c.copy_object.new.frames c.args.t.0 c.args.to.0 c.args.size may c.copy_object.ensures.pages (c.copy_object.ensures.sound c.requires.some)
    c.requires.to_space c.copy_object.ensures.bytes.mapped c.copy_object.ensures.written c.copy_object.ensures.partly covers)
    (keeps-put c.set_forward.result c.copy_object.new.frames c.set_forward.new.frames c.args.t.0 _ _ _ _ may c.set_forward.ensures.pages c.set_forward.ensures.sound
    (c.copy_object.ensures.bytes.mapped c.args.from.0 ∙ object-page c.args.frames.now c.args.t.0 c.args.from.0 c.args.size c.requires.from_space c.requires.some) c.set_forward.ensures.word
    c.set_forward.ensures.written c.set_forward.ensures.err here)

pub returns-clause-succeeds : goal.returns-clause-succeeds
returns-clause-succeeds c spaces one =
    let keeps = keeps-words c.copy_object.result c.args.frames.now c.copy_object.new.frames c.args.t.0 c.args.to.0 c.args.size (λ p. true) c.copy_object.ensures.pages (c.copy_object.ensures.sound c.requires.some)
    c.requires.to_space c.copy_object.ensures.bytes.mapped c.copy_object.ensures.written c.copy_object.ensures.partly (λ p low high. refl) in
    c.set_forward.ensures.succeeds (inl (keeps.alone (page_of c.args.from.0) (object-page c.args.frames.now c.args.t.0 c.args.from.0 c.args.size c.requires.from_space c.requires.some) one))

pub returns-clause-reads : goal.returns-clause-reads
returns-clause-reads c = on_ok c.set_forward.result (c.set_forward.ensures.reads ∙ c.in_ok-copy_object.ensures.reads)

pub returns-clause-fewer_reads : goal.returns-clause-fewer_reads
returns-clause-fewer_reads c = on_err c.set_forward.result (c.args.size / 8, omega arith, c.set_forward.ensures.reads ∙ c.in_ok-copy_object.ensures.reads)

pub returns-in_err-copy_object-clause-fewer_reads : goal.returns-in_err-copy_object-clause-fewer_reads
returns-in_err-copy_object-clause-fewer_reads c = on_err c.from_residual.result c.in_err-copy_object.ensures.fewer_reads
