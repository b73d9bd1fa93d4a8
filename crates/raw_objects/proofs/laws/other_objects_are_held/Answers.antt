use Rattle.raw_objects.proofs.Paging.{raws-gone, raws-paged, raws-run}
use Rattle.raw_objects.proofs.Raws.{raws-beside, raws-seen}
use Rattle.raw_objects.proofs.laws.other_objects_are_held.Goals as goal

pub returns-clause-bytes : goal.returns-clause-bytes
returns-clause-bytes c cs old new raws at size h free changes = raws-beside cs old new raws h at size free changes

pub returns-clause-page : goal.returns-clause-page
returns-clause-page c cs old new raws p h off beside = raws-paged cs old new raws p h beside off

pub returns-clause-pages : goal.returns-clause-pages
returns-clause-pages c = raws-gone

pub returns-clause-run : goal.returns-clause-run
returns-clause-run c = raws-run

pub returns-clause-all : goal.returns-clause-all
returns-clause-all c cs old new raws h same = raws-seen cs old new raws h same
