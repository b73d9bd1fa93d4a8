-- Pages that hold bytes.
use Rattle.std.specs.Prelude.{ℕ, ◌+◌, ◌-◌, ◌&&◌, Bool, nat_le}
use Rattle.page_tables.specs.Address.{page_of}

-- the page holds some of so many bytes, one or more, from an address on
abbrev pub covers : ℕ → ℕ → ℕ → Bool
covers at size p = nat_le (page_of at) p && nat_le p (page_of (at + size - 1))
