-- Addresses, pages and windows.
use Rattle.std.specs.Prelude.{ℕ, ◌+◌, ◌*◌, ◌/◌, ◌%◌, Bool, ◌&&◌, ◌||◌, nat_le, nat_lt}
use Rattle.model_numbers.specs.Numbers.{image_base, image_length, zygote_base, zygote_length, region_base, region_bytes, region_count, large_base, large_slot_bytes, large_slot_count, page_bytes}
use Rattle.page_tables.specs.declared.address.Window.{Window}
use Rattle.page_tables.specs.declared.address.Window.TheVariants.{Image, Zygote, Regions, Large}

-- the page in which an address lies
abbrev pub page_of : ℕ → ℕ
page_of at = at / page_bytes

-- how far into its page an address lies
abbrev pub offset_of : ℕ → ℕ
offset_of at = at % page_bytes

-- the first page of a window
abbrev pub first_page : Window → ℕ
first_page Image = image_base / page_bytes
first_page Zygote = zygote_base / page_bytes
first_page Regions = region_base / page_bytes
first_page Large = large_base / page_bytes

-- how many pages a window has
abbrev pub page_count : Window → ℕ
page_count Image = image_length / page_bytes
page_count Zygote = zygote_length / page_bytes
page_count Regions = region_count * region_bytes / page_bytes
page_count Large = large_slot_count * large_slot_bytes / page_bytes

-- the page is one of the window's
abbrev pub is_in : Window → ℕ → Bool
is_in w page = nat_le (first_page w) page && nat_lt page (first_page w + page_count w)

-- the page is one of some window's
abbrev pub is_in_window : ℕ → Bool
is_in_window page = is_in Image page || is_in Zygote page || is_in Regions page || is_in Large page

-- the address lies in the image or zygote window, where reads are counted
abbrev pub is_immune : ℕ → Bool
is_immune at = is_in Image (page_of at) || is_in Zygote (page_of at)

-- how many pages stand in a leaf
abbrev pub leaf_pages : ℕ
leaf_pages = 1024

-- how many leaves a table has at most
abbrev pub table_leaves : ℕ
table_leaves = 1024

-- which of a table's leaves has a page
abbrev pub leaf_index : ℕ → ℕ
leaf_index page = page / leaf_pages

-- where in its leaf a page stands
abbrev pub leaf_slot : ℕ → ℕ
leaf_slot page = page % leaf_pages
