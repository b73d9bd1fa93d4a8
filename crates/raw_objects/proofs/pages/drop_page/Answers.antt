use Rattle.raw_objects.specs.Raws.{among}
use Rattle.raw_objects.proofs.Paging.{raws-among, raws-paged}
use Rattle.raw_objects.proofs.pages.drop_page.Goals as goal

pub returns-clause-held : goal.returns-clause-held
returns-clause-held c cs raws test h off = raws-paged cs _ _ (among raws test) c.args.page.0 (raws-among cs _ raws test h) c.release.ensures.view.others off
