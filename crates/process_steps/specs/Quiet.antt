-- Steps that leave the pages of memory.
use Rattle.std.specs.Prelude.{◌≡◌}
use Rattle.cow_pages.specs.Memory.{Memory}

-- all but the count of reads, and what is free, is as it was
abbrev pub SamePages : Memory → Memory → Type 0
SamePages old new = new ≡ record old { reads = new.reads; frames = new.frames; leaf_count = new.leaf_count; spare = new.spare }
