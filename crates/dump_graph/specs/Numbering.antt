-- The numbers of identifiers, as they are kept.
use Rattle.std.specs.Prelude.{◌≡◌, ◌≢◌, ℕ, ◌<◌, ◌≤◌, nat_eq, List, length, get_or, position, All}
use Rattle.std.specs.Ordering.{nat_cmp}
use Rattle.std.specs.BTreeMap.{BTreeMap, get}
use Rattle.dump_graph.specs.Firsts.{IsApart}

-- the identifiers are below a limit; some of them stand in order, each with its place; a map has the places of the others
pub record IsNumbering (ids : List ℕ) (limit : ℕ) (rising places : List ℕ) (others : BTreeMap ℕ ℕ) : Type 0 where
  pub apart : IsApart ids
  pub below : All (λ id. id < limit) ids
  pub rises : (i j : ℕ) → i ≤ j → j < length rising → get_or rising i 0 ≤ get_or rising j 0
  pub enough : length rising ≤ length places
  pub placed : (k : ℕ) → k < length rising → (get_or places k 0 < length ids) × (get_or ids (get_or places k 0) 0 ≡ get_or rising k 0)
  pub rest : (id : ℕ) → ((k : ℕ) → k < length rising → get_or rising k 0 ≢ id) → get nat_cmp others id ≡ position (nat_eq id) ids
