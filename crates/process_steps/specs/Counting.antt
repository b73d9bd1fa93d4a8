-- What a process counts.
use Rattle.std.specs.Prelude.{ℕ, ◌-◌, Bool, true, false, length}
use Rattle.page_tables.specs.declared.address.Window.{Window}
use Rattle.page_tables.specs.declared.address.Window.TheVariants as window
use Rattle.cow_pages.specs.Memory.{mapped_in, written_in, Memory}
use Rattle.large_objects.specs.Rows.{costs_of}
use Rattle.heap_world.specs.declared.reply.Reply.{Reply}
use Rattle.heap_world.specs.declared.reply.Reply.TheVariants as reply
use Rattle.process_state.specs.State.{State}

-- how many regions are free, by those in use and the costs of large objects
abbrev pub free_regions : State → ℕ
free_regions s = s.budget - length s.regions.in_use - costs_of s.rows

-- the pages of a window whose flags are set, once the process is sealed
abbrev pub touched_if : Bool → ℕ → ℕ
touched_if true n = n
touched_if false n = 0

abbrev pub touched_in : State → Memory → Window → ℕ
touched_in s m w = touched_if s.sealed (written_in m s.page_table w)

-- of the pages in the large window those of promoted objects; each other one has its flag set
abbrev pub touched_large : State → Memory → ℕ
touched_large s m = touched_if s.sealed (written_in m s.page_table window.Large - (mapped_in m s.page_table window.Large - s.promoted_pages))

-- the counts of pages that a process tells
abbrev pub counted_pages : State → Memory → Reply
counted_pages s m =
    reply.Pages (mapped_in m s.page_table window.Image) (touched_in s m window.Image) (mapped_in m s.page_table window.Zygote) (touched_in s m window.Zygote) s.promoted_pages (touched_large s m)
