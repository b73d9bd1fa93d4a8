-- The window of a page, and how a table counts its entries.
use Rattle.std.specs.Prelude.{ℕ, ◌+◌, ◌&&◌, nat_lt, if◌then◌else◌, List, [], ◌∷◌, Option, Some, None}
use Rattle.page_tables.specs.Address.{first_page, is_in}
use Rattle.page_tables.specs.declared.address.Window.{Window}
use Rattle.page_tables.specs.declared.address.Window.TheVariants.{Image, Zygote, Regions, Large}
use Rattle.page_tables.specs.declared.leaf.Entry.{Entry}

-- the window of a page that lies in one
abbrev pub window_of : ℕ → Window
window_of p =
    if nat_lt p (first_page Zygote) then Image
    else (if nat_lt p (first_page Regions) then Zygote
    else (if nat_lt p (first_page Large) then Regions
    else Large))

-- 1 where an entry is there, at a page of the window
abbrev pub mapped_one : Window → ℕ → Option Entry → ℕ
mapped_one w p None = 0
mapped_one w p (Some e) = if is_in w p then 1 else 0

-- 1 where it has its flag set besides
abbrev pub written_one : Window → ℕ → Option Entry → ℕ
written_one w p None = 0
written_one w p (Some e) = if is_in w p && e.written then 1 else 0

-- so many of the entries from a page on are mapped in a window
abbrev pub mapped_from : Window → ℕ → List (Option Entry) → ℕ
mapped_from w p [] = 0
mapped_from w p (o ∷ rest) = mapped_one w p o + mapped_from w (p + 1) rest

-- so many of them have their flag set
abbrev pub written_from : Window → ℕ → List (Option Entry) → ℕ
written_from w p [] = 0
written_from w p (o ∷ rest) = written_one w p o + written_from w (p + 1) rest
