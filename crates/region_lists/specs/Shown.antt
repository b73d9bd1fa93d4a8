-- A row as the code hands it out.
use Rattle.region_lists.specs.declared.lists.RegionRow.{RegionRow}
use Rattle.region_lists.specs.Rows.{Row}

abbrev pub shown_row : RegionRow → Row
shown_row row = record { region = row.region; fill = row.fill }
