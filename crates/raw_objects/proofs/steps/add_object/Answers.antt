use Rattle.std.proofs.lemmas.Result.{on_ok_weaker}
use Rattle.raw_objects.specs.Raws.{new_raw}
use Rattle.raw_objects.proofs.Kept.{keeps-words}
use Rattle.raw_objects.proofs.Raws.{raws-added, raws-beside}
use Rattle.raw_objects.proofs.steps.add_object.Goals as goal

pub returns-clause-held : goal.returns-clause-held
returns-clause-held c =
    on_ok_weaker c.write_new.result (λ stands raws h free. raws-added c.args.classes.now _ _ raws h c.args.at.0 (new_raw c.args.shape c.args.number) free c.write_new.ensures.bytes c.requires.known stands) c.write_new.ensures.object

pub returns-clause-others : goal.returns-clause-others
returns-clause-others c cs raws h free = raws-beside cs _ _ raws h c.args.at.0 _ free c.write_new.ensures.bytes

pub returns-clause-keeps : goal.returns-clause-keeps
returns-clause-keeps c may covers =
    keeps-words c.write_new.result c.args.frames.now c.write_new.new.frames c.args.t.0 c.args.at.0 _ may c.write_new.ensures.pages c.write_new.ensures.sound c.requires.space c.write_new.ensures.bytes.mapped
    c.write_new.ensures.written c.write_new.ensures.partly covers
