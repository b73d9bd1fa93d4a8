use Rattle.std.proofs.Common.{◌<◌, arith}
use Rattle.page_tables.specs.Address.{page_of}
use Rattle.object_view.proofs.Bytes.{window-below}
use Rattle.object_view.proofs.laws.mapped_is_below.Goals as goal

pub returns : goal.returns
returns c m t at sound mapped = let below : page_of at < 0xa0000 = window-below (page_of at) (sound.in_window t (page_of at) mapped) in omega arith
