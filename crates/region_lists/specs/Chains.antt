-- How lists are linked through a table. No public clause cites this module.
use Rattle.std.specs.Prelude.{◌≡◌, ◌≢◌, ℕ, zero, suc, ◌<◌, ◌^◌, List, [], ◌∷◌, ◌++◌, length, map, All, slice_index_or, nat_eq}
use Rattle.std.specs.List.{IsDistinct}
use Rattle.region_lists.specs.declared.chains.Chain.{Chain}
use Rattle.region_lists.specs.declared.chains.Entry.{Entry}
use Rattle.region_lists.specs.Rows.{Lists, Row}

-- what stands outside the table
abbrev pub no_entry : Entry
no_entry = record { next = 0; fill = 0 }

abbrev pub entry_in : List Entry → ℕ → Entry
entry_in entries n = slice_index_or entries n no_entry

abbrev pub next_in : List Entry → ℕ → ℕ
next_in entries n = (entry_in entries n).next

abbrev pub fill_in : List Entry → ℕ → ℕ
fill_in entries n = (entry_in entries n).fill

-- so many numbers, each linked to the next
abbrev pub chain_from : List Entry → ℕ → ℕ → List ℕ
chain_from entries at zero = []
chain_from entries at (suc n) = at ∷ chain_from entries (next_in entries at) n

abbrev pub chain_of : List Entry → Chain → List ℕ
chain_of entries chain = chain_from entries chain.first chain.count

abbrev pub row_in : List Entry → ℕ → Row
row_in entries n = record { region = n; fill = fill_in entries n }

abbrev pub rows_of : List Entry → List ℕ → List Row
rows_of entries ns = map (row_in entries) ns

-- the last of the numbers is this one
abbrev pub EndsAt : List ℕ → ℕ → Type 0
EndsAt [] last = Unit {0}
EndsAt (n ∷ []) last = n ≡ last
EndsAt (n ∷ m ∷ rest) last = EndsAt (m ∷ rest) last

-- at most the links of these regions are others
pub record Relinks (old new : List Entry) (regions : List ℕ) : Type 0 where
  pub count : length new ≡ length old
  pub fill : (k : ℕ) → fill_in new k ≡ fill_in old k
  pub next : (k : ℕ) → All (λ n. n ≢ k) regions → next_in new k ≡ next_in old k

-- what a table and three lists through it show: the regions in use, the from regions and the free ones
abbrev pub shown : List Entry → Chain → Chain → Chain → Lists
shown entries in_use from free = record {
  in_use = rows_of entries (chain_of entries in_use);
  from = rows_of entries (chain_of entries from);
  free = chain_of entries free;
  count = length entries;
}

abbrev pub chained : List Entry → Chain → Chain → Chain → List ℕ
chained entries in_use from free = chain_of entries in_use ++ chain_of entries from ++ chain_of entries free

-- what holds of the table and the lists of each `RegionLists`
pub record AreChained (entries : List Entry) (in_use from free : Chain) : Type 0 where
  pub apart : IsDistinct nat_eq (chained entries in_use from free)
  pub within : All (λ n. n < length entries) (chained entries in_use from free)
  pub all : length (chained entries in_use from free) ≡ length entries
  pub few : length entries < 2 ^ 32
  pub in_use_ends : EndsAt (chain_of entries in_use) in_use.last
  pub from_ends : EndsAt (chain_of entries from) from.last
