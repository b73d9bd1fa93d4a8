use Rattle.std.proofs.lemmas.Result.{on_ok_weaker}
use Rattle.raw_objects.proofs.Paging.{off-unmapped, raws-paged}
use Rattle.raw_objects.proofs.pages.map_page.Goals as goal

pub returns-clause-held : goal.returns-clause-held
returns-clause-held c = on_ok_weaker c.map_zero.result (λ maps cs raws h. raws-paged cs _ _ raws c.args.page.0 h maps.others (off-unmapped cs c.args.frames.now c.args.t.0 c.args.page.0 raws h c.requires.unmapped)) c.map_zero.ensures.view
