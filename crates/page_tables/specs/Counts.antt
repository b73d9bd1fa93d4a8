-- A number for each window.
use Rattle.std.specs.Prelude.{ℕ}
use Rattle.page_tables.specs.declared.address.Window.{Window}
use Rattle.page_tables.specs.declared.address.Window.TheVariants.{Image, Zygote, Regions, Large}
use Rattle.page_tables.specs.declared.table.Counts.{Counts}

-- the number of a window
abbrev pub count_in : Counts → Window → ℕ
count_in counts Image = counts.image
count_in counts Zygote = counts.zygote
count_in counts Regions = counts.regions
count_in counts Large = counts.large

-- the numbers with this one for a window
abbrev pub with_count : Counts → Window → ℕ → Counts
with_count counts Image n = record counts { image = n }
with_count counts Zygote n = record counts { zygote = n }
with_count counts Regions n = record counts { regions = n }
with_count counts Large n = record counts { large = n }

-- nothing counted
abbrev pub no_counts : Counts
no_counts = record { image = 0; zygote = 0; regions = 0; large = 0 }
