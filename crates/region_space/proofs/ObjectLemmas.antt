-- How many objects the rows have bytes for.
use Rattle.std.proofs.Common.{◌≡◌, ℕ, ◌+◌, ◌*◌, ◌≤◌, List, [], ◌∷◌, ◌++◌, length, map, All, Some, ap, inl, inr, arith}
use Rattle.std.specs.Prelude.{◌⊎◌}
use Rattle.std.proofs.lemmas.List.{length-append, length-map}
use Rattle.std.proofs.lemmas.List.Elements.{All-head, All-tail}
use Rattle.std.proofs.lemmas.List.Sums.{sum_by-cons}
use Rattle.std.proofs.lemmas.Option.{none-some}
use Rattle.region_lists.specs.Rows.{Lists, Row, last_of, with_last}
use Rattle.region_space.specs.Space.{HasBytesFor, IsFilled, IsSize, IsSpace, fill_sum, with_object}
use Rattle.region_space.proofs.RoomLemmas.{Fits, Opens}
use Rattle.region_space.proofs.WalkLemmas.{in_use-filled}

fill_sum-cons : (row : Row) (rows : List Row) → fill_sum (row ∷ rows) ≡ row.fill + fill_sum rows
fill_sum-cons row rows = sum_by-cons (λ (n : ℕ). n) row.fill (map (λ (row : Row). row.fill) rows)

fill_sum-append : (rows more : List Row) → fill_sum (rows ++ more) ≡ fill_sum rows + fill_sum more
fill_sum-append [] more = omega arith
fill_sum-append (row ∷ rows) more = omega (arith, fill_sum-cons row (rows ++ more), fill_sum-cons row rows, fill_sum-append rows more)

fill-last : (rows : List Row) (last : Row) (fill : ℕ) → last_of rows ≡ Some last → fill_sum (with_last rows fill) + last.fill ≡ fill_sum rows + fill
fill-last [] last fill is = absurd (none-some last is)
fill-last (row ∷ []) last fill is =
    let same : row ≡ last = cc in
    omega (arith, fill_sum-cons (record { region = row.region; fill = fill }) [], fill_sum-cons row [], ap (λ (it : Row). it.fill) same)
fill-last (row ∷ next ∷ rest) last fill is = omega (arith, fill_sum-cons row (with_last (next ∷ rest) fill), fill_sum-cons row (next ∷ rest), fill-last (next ∷ rest) last fill is)

-- an object more has bytes of its own
pub objects-more : (rows : List Row) (region fill size objects : ℕ) → IsSize size → Fits rows region fill size ⊎ Opens rows region fill size → HasBytesFor rows objects
    → HasBytesFor (with_object rows region size) (objects + 1)
objects-more rows region fill size objects is (inl fits) enough =
    omega (arith, is.least, enough, ap fill_sum fits.more, fill-last rows fits.last (fill + size) fits.last_is, fits.fill_is)
objects-more rows region fill size objects is (inr opens) enough =
    let row : Row = record { region = region; fill = size } in
    omega (arith, is.least, enough, ap fill_sum opens.more, fill_sum-append rows (row ∷ []), fill_sum-cons row [])

fills-most : (rows : List Row) → All IsFilled rows → fill_sum rows ≤ 262144 * length rows
fills-most [] all = omega arith
fills-most (row ∷ rest) all = omega (arith, fill_sum-cons row rest, (All-head IsFilled row rest all).most, fills-most rest (All-tail IsFilled row rest all))

-- a space has few objects
pub objects-few : (s : Lists) (objects : ℕ) → IsSpace s → HasBytesFor s.in_use objects → objects ≤ 33554432
objects-few s objects space enough =
    let regions = λ (rows : List Row). map (λ (row : Row). row.region) rows in
    omega (
      arith,
      enough,
      fills-most s.in_use (in_use-filled s space),
      length-append (regions s.in_use ++ regions s.from) s.free,
      length-append (regions s.in_use) (regions s.from),
      length-map s.in_use (λ (row : Row). row.region),
      space.lists.all,
      space.few,
    )
