use Rattle.std.proofs.Common.{◌≡◌, ◌+◌, rules, to_z, of_z}
use Rattle.std.specs.Prelude.{OnOk}
use Rattle.std.specs.Int.{w64}
use Rattle.std.proofs.lemmas.Int.{to_z-of_z}
use Rattle.std.proofs.lemmas.Result.{on_ok_weaker}
use Rattle.cow_pages.specs.View.{view_of}
use Rattle.object_view.specs.Changes.{PutsNumber}
use Rattle.object_view.specs.Values.{number_of}
use Rattle.raw_objects.proofs.Kept.{keeps-put}
use Rattle.raw_objects.proofs.Raws.{raws-stored}
use Rattle.raw_objects.proofs.steps.store_value.Goals as goal

pub returns-clause-held : goal.returns-clause-held
returns-clause-held c =
    let e : to_z w64 (of_z w64 c.args.v) ≡ c.args.v = to_z-of_z w64 c.args.v c.ranges.v in
    let puts : OnOk c.store.result (PutsNumber (view_of c.args.frames.now c.args.t.0) (view_of c.store.new.frames c.args.t.0) c.args.kind (c.args.at.0 + c.args.offset) (number_of c.args.kind c.args.v)) = search rules in
    on_ok_weaker c.store.result (λ p cs raws place h there is. raws-stored cs _ _ raws h c.args.at.0 c.args.kind c.args.offset place c.args.v there is p) puts

pub returns-clause-keeps : goal.returns-clause-keeps
returns-clause-keeps c may here =
    keeps-put c.store.result c.args.frames.now c.store.new.frames c.args.t.0 _ _ _ _ may c.store.ensures.pages c.store.ensures.sound c.requires.mapped c.store.ensures.number c.store.ensures.written c.store.ensures.err here
