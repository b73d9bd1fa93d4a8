use Rattle.std.proofs.Common.{◌≡◌, ◌+◌, arith, rules, subst}
use Rattle.std.specs.Prelude.{OnOk}
use Rattle.std.specs.Int.{w32, to_le_bytes}
use Rattle.std.proofs.lemmas.Result.{on_ok_weaker}
use Rattle.page_tables.specs.Address.{page_of}
use Rattle.cow_pages.specs.Change.{TakesOnCopy}
use Rattle.cow_pages.specs.View.{view_of}
use Rattle.class_layout.specs.declared.kind.Kind.TheVariants.{Int}
use Rattle.object_view.specs.declared.names.Header.TheVariants.{Forward}
use Rattle.object_view.specs.Changes.{AreWritten, PutsNumber}
use Rattle.object_view.specs.Words.{lock_word}
use Rattle.object_view.proofs.Spans.{AreWritten-write, single-pages, OthersSeen-pages}
use Rattle.object_view.proofs.Standing.{Stands-forwarded}
use Rattle.object_view.proofs.headers.set_forward.Goals as goal

pub returns-clause-object : goal.returns-clause-object
returns-clause-object c =
    let puts : OnOk c.write_u32.result (PutsNumber (view_of c.args.frames.now c.args.t.0) (view_of c.write_u32.new.self c.args.t.0) Int (c.args.at.0 + 4) (lock_word (Forward c.args.to))) = search rules in
    on_ok_weaker c.write_u32.result (λ p cs shape header values s. Stands-forwarded cs _ _ c.args.at.0 shape header values c.args.to s c.requires.multiple (search rules) p) puts

pub returns-clause-pages : goal.returns-clause-pages
returns-clause-pages c =
    single-pages c.write_u32.result c.args.frames.now c.write_u32.new.self c.args.t.0 (c.args.at.0 + 4) (page_of c.args.at.0) (to_le_bytes w32 c.lock_word.result) (omega (arith, c.requires.aligned))
    c.write_u32.ensures.page c.write_u32.ensures.takes c.write_u32.ensures.err

pub returns-clause-others_seen : goal.returns-clause-others_seen
returns-clause-others_seen c = OthersSeen-pages c.args.frames.now c.write_u32.new.self c.args.t.0 (page_of c.args.at.0) 1 (returns-clause-pages c)

pub returns-clause-written : goal.returns-clause-written
returns-clause-written c =
    let same : page_of (c.args.at.0 + 4) ≡ page_of c.args.at.0 = omega (arith, c.requires.aligned) in
    on_ok_weaker c.write_u32.result
    (λ w. subst (λ p. AreWritten c.write_u32.new.self c.args.t.0 p 1) same
    (AreWritten-write c.args.frames.now c.write_u32.new.self c.args.t.0 (c.args.at.0 + 4) (to_le_bytes w32 c.lock_word.result) w)) c.write_u32.ensures.page

pub returns-clause-takes : goal.returns-clause-takes
returns-clause-takes c =
    let same : page_of (c.args.at.0 + 4) ≡ page_of c.args.at.0 = omega (arith, c.requires.aligned) in
    on_ok_weaker c.write_u32.result (λ takes. subst (λ p. TakesOnCopy c.args.frames.now c.write_u32.new.self c.args.t.0 p) same takes) c.write_u32.ensures.takes
