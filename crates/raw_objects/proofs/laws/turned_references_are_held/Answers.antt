use Rattle.raw_objects.specs.References.{turned_where}
use Rattle.raw_objects.proofs.Raws.{raws-same}
use Rattle.raw_objects.proofs.Turned.{none-turned, one-turned, same-turned, slot-readable}
use Rattle.raw_objects.proofs.laws.turned_references_are_held.Goals as goal

pub returns-clause-one : goal.returns-clause-one
returns-clause-one c cs old new raws done at target h it puts = one-turned cs old raws done at target h it new puts

pub returns-clause-none : goal.returns-clause-none
returns-clause-none c = none-turned

pub returns-clause-agree : goal.returns-clause-agree
returns-clause-agree c cs v raws one other h agree = raws-same cs v (turned_where raws one) (turned_where raws other) h (same-turned cs raws one other agree)

pub returns-clause-readable : goal.returns-clause-readable
returns-clause-readable c cs v raws done at target h it = slot-readable cs v raws done at target h it
