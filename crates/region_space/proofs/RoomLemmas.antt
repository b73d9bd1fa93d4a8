-- Where the next object stands: in the last region in use, or in one that is opened.
use Rattle.std.proofs.Common.{◌≡◌, ◌≢◌, ◌∙◌, ℕ, ◌+◌, ◌%◌, ◌<◌, ◌≤◌, Bool, true, false, List, [], ◌∷◌, ◌++◌, map, All, get_or, nat_eq, Option, Some, None, refl, sym, ap, subst, inl, inr, arith}
use Rattle.std.specs.Prelude.{◌⊎◌, if◌then◌else◌}
use Rattle.std.proofs.lemmas.Bool.{cases_Bool, leb-true, true≢false}
use Rattle.std.proofs.lemmas.List.Elements.{All-append, All-cons, All-head, All-nil, All-push, All-tail}
use Rattle.std.proofs.lemmas.Map.Keys.{IsDistinct-tail}
use Rattle.std.proofs.lemmas.Option.{none-some}
use Rattle.std.specs.List.{IsDistinct}
use Rattle.model_numbers.specs.Numbers.{region_bytes}
use Rattle.region_lists.specs.Rows.{IsLists, Lists, Row, last_of, with_last}
use Rattle.region_lists.proofs.ChainLemmas.{apart-head}
use Rattle.region_lists.proofs.MoveLemmas.{AreApart, all-left, all-right, apart-parts, distinct-left}
use Rattle.region_space.specs.Space.{IsFilled, IsSize, IsSpace, base_of, fill_if, filled, has_room, spot_if, spot_in, with_object, with_object_if}
use Rattle.region_space.proofs.WalkLemmas.{all-regions, in_use-apart, in_use-filled, in_use-within}

-- the object fits behind those of the last row
pub record Fits (rows : List Row) (region fill size : ℕ) : Type 0 where
  pub last : Row
  pub last_is : last_of rows ≡ Some last
  pub room : has_room (last_of rows) size ≡ true
  pub region_is : region ≡ last.region
  pub fill_is : fill ≡ last.fill
  pub within : fill + size ≤ region_bytes
  pub more : with_object rows region size ≡ with_last rows (fill + size)

-- the object opens a region
pub record Opens (rows : List Row) (region fill size : ℕ) : Type 0 where
  pub room : has_room (last_of rows) size ≡ false
  pub fill_is : fill ≡ 0
  pub more : with_object rows region size ≡ rows ++ record { region = region; fill = size } ∷ []

pub room-cases : (rows : List Row) (region fill size : ℕ) → base_of region + fill ≡ spot_in rows region size → fill ≡ fill_if (has_room (last_of rows) size) (last_of rows)
    → Fits rows region fill size ⊎ Opens rows region fill size
room-cases rows region fill size spot fills = by (last_of rows) refl (cases_Bool (has_room (last_of rows) size))
  where
    by : (last : Option Row) → last_of rows ≡ last → (has_room (last_of rows) size ≡ true) ⊎ (has_room (last_of rows) size ≡ false) → Fits rows region fill size ⊎ Opens rows region fill size
    by last is (inr full) = inr (record {
      room = full;
      fill_is = fills ∙ ap (λ (b : Bool). fill_if b (last_of rows)) full;
      more = ap (λ (b : Bool). with_object_if b rows (last_of rows) region size) full;
    })
    by None is (inl room) = absurd (true≢false (sym room ∙ ap (λ (it : Option Row). has_room it size) is))
    by (Some last) is (inl room) =
        let there : has_room (Some last) size ≡ true = sym (ap (λ (it : Option Row). has_room it size) is) ∙ room in
        let fits = leb-true (last.fill + size) region_bytes there in
        let fill_is : fill ≡ last.fill = fills ∙ ap (λ (it : Option Row). fill_if (has_room it size) it) is ∙ ap (λ (b : Bool). fill_if b (Some last)) there in
        let start : base_of region + fill ≡ base_of last.region + last.fill =
        spot ∙ ap (λ (it : Option Row). spot_if (has_room it size) it region) is ∙ ap (λ (b : Bool). spot_if b (Some last) region) there in
        inl (record {
          last = last;
          last_is = is;
          room = room;
          region_is = omega (arith, start, fill_is);
          fill_is = fill_is;
          within = omega (arith, fits, fill_is);
          more = ap (λ (it : Option Row). with_object_if (has_room it size) rows it region size) is
              ∙ ap (λ (b : Bool). with_object_if b rows (Some last) region size) there
              ∙ ap (λ k. with_last rows (k + size)) (sym fill_is);
        })

-- WHAT IS FILLED

last-filled : (rows : List Row) (fill : ℕ) → fill % 8 ≡ 0 → 8 ≤ fill → fill ≤ region_bytes → All IsFilled rows → All IsFilled (with_last rows fill)
last-filled [] fill multiple some most all = all
last-filled (row ∷ []) fill multiple some most all =
    All-cons IsFilled (record { region = row.region; fill = fill }) [] (record { multiple = multiple; some = some; most = most }) (All-nil IsFilled)
last-filled (row ∷ next ∷ rest) fill multiple some most all =
    All-cons IsFilled row (with_last (next ∷ rest) fill) (All-head IsFilled row (next ∷ rest) all) (last-filled (next ∷ rest) fill multiple some most (All-tail IsFilled row (next ∷ rest) all))

pub last-holds : (P : Row → Type 0) (rows : List Row) (last : Row) → last_of rows ≡ Some last → All P rows → P last
last-holds P [] last is all = absurd (none-some last is)
last-holds P (row ∷ []) last is all = let same : row ≡ last = cc in subst P same (All-head P row [] all)
last-holds P (row ∷ next ∷ rest) last is all = last-holds P (next ∷ rest) last is (All-tail P row (next ∷ rest) all)

pub filled-more : (rows : List Row) (region fill size : ℕ) → All IsFilled rows → IsSize size → Fits rows region fill size ⊎ Opens rows region fill size → All IsFilled (with_object rows region size)
filled-more rows region fill size all is (inl fits) =
    let last = last-holds IsFilled rows fits.last fits.last_is all in
    subst (All IsFilled) (sym fits.more) (last-filled rows (fill + size) (omega (arith, last.multiple, is.multiple, fits.fill_is)) (omega (arith, is.least)) fits.within all)
filled-more rows region fill size all is (inr opens) =
    subst (All IsFilled) (sym opens.more) (All-push IsFilled rows (record { region = region; fill = size }) all (record { multiple = is.multiple; some = is.least; most = is.greatest }))

-- the rows are of other regions, or filled just so far
abbrev pub AreBehind : ℕ → ℕ → List Row → Type 0
AreBehind region fill rows = All (λ (row : Row). (row.region ≢ region) ⊎ (row.fill ≡ fill)) rows

last-behind : (rows : List Row) (last : Row) → IsDistinct nat_eq (map (λ (row : Row). row.region) rows) → last_of rows ≡ Some last → AreBehind last.region last.fill rows
last-behind [] last apart is = All-nil (λ (row : Row). (row.region ≢ last.region) ⊎ (row.fill ≡ last.fill))
last-behind (row ∷ []) last apart is =
    let same : row ≡ last = cc in
    All-cons (λ (row : Row). (row.region ≢ last.region) ⊎ (row.fill ≡ last.fill)) row [] (inr (ap (λ (it : Row). it.fill) same)) (All-nil (λ (row : Row). (row.region ≢ last.region) ⊎ (row.fill ≡ last.fill)))
last-behind (row ∷ next ∷ rest) last apart is =
    let regions = map (λ (row : Row). row.region) (next ∷ rest) in
    let other = last-holds (λ (it : Row). it.region ≢ row.region) (next ∷ rest) last is (all-regions (λ n. n ≢ row.region) (next ∷ rest) (apart-head row.region regions apart)) in
    All-cons (λ (row : Row). (row.region ≢ last.region) ⊎ (row.fill ≡ last.fill)) row (next ∷ rest) (inl (λ same. other (sym same))) (last-behind (next ∷ rest) last (IsDistinct-tail nat_eq row.region regions apart) is)

pub from-behind : (s : Lists) (region fill : ℕ) → All (λ n. n ≢ region) (map (λ (row : Row). row.region) s.from) → AreBehind region fill s.from
from-behind s region fill apart = let all = all-regions (λ n. n ≢ region) s.from apart in λ k d inside. inl (all k d inside)

pub behind : (s : Lists) (free : List ℕ) (region fill size : ℕ) → IsSpace s → s.free ≡ (if has_room (last_of s.in_use) size then free else region ∷ free) → Fits s.in_use region fill size ⊎ Opens s.in_use region fill size
    → AreBehind region fill (filled s)
behind s free region fill size space frees (inl fits) =
    let regions = λ (rows : List Row). map (λ (row : Row). row.region) rows in
    let both = apart-parts (regions s.in_use) (regions s.from) (distinct-left (regions s.in_use ++ regions s.from) s.free space.lists.apart) in
    let none : All (λ n. n ≢ fits.last.region) (regions s.from) = λ k d inside same.
    last-holds (λ (it : Row). it.region ≢ get_or (regions s.from) k d) s.in_use fits.last fits.last_is (all-regions (λ n. n ≢ get_or (regions s.from) k d) s.in_use (both k d inside)) (sym same) in
    All-append (λ (row : Row). (row.region ≢ region) ⊎ (row.fill ≡ fill)) s.in_use s.from
    (subst (λ (n : ℕ). AreBehind n fill s.in_use) (sym fits.region_is) (subst (λ (n : ℕ). AreBehind fits.last.region n s.in_use) (sym fits.fill_is) (last-behind s.in_use fits.last (in_use-apart s space) fits.last_is)))
    (from-behind s region fill (subst (λ (n : ℕ). All (λ m. m ≢ n) (regions s.from)) (sym fits.region_is) none))
behind s free region fill size space frees (inr opens) =
    let regions = λ (rows : List Row). map (λ (row : Row). row.region) rows in
    let taken : s.free ≡ region ∷ free = frees ∙ ap (λ (b : Bool). if b then free else region ∷ free) opens.room in
    let all = All-head (λ k. All (λ n. n ≢ k) (regions s.in_use ++ regions s.from)) region free (subst (AreApart (regions s.in_use ++ regions s.from)) taken (apart-parts (regions s.in_use ++ regions s.from) s.free space.lists.apart)) in
    let in_use = all-regions (λ n. n ≢ region) s.in_use (all-left (λ n. n ≢ region) (regions s.in_use) (regions s.from) all) in
    All-append (λ (row : Row). (row.region ≢ region) ⊎ (row.fill ≡ fill)) s.in_use s.from
    (λ k d inside. inl (in_use k d inside))
    (from-behind s region fill (all-right (λ n. n ≢ region) (regions s.in_use) (regions s.from) all))

pub home-within : (s : Lists) (free : List ℕ) (region fill size : ℕ) → IsSpace s → s.free ≡ (if has_room (last_of s.in_use) size then free else region ∷ free) → Fits s.in_use region fill size ⊎ Opens s.in_use region fill size
    → region < s.count
home-within s free region fill size space frees (inl fits) =
    let last = last-holds (λ (row : Row). row.region < s.count) s.in_use fits.last fits.last_is (in_use-within s space) in
    omega (arith, last, fits.region_is)
home-within s free region fill size space frees (inr opens) =
    let regions = λ (rows : List Row). map (λ (row : Row). row.region) rows in
    let taken : s.free ≡ region ∷ free = frees ∙ ap (λ (b : Bool). if b then free else region ∷ free) opens.room in
    All-head (λ n. n < s.count) region free (subst (All (λ n. n < s.count)) taken (all-right (λ n. n < s.count) (regions s.in_use ++ regions s.from) s.free space.lists.within))

pub home-most : (rows : List Row) (region fill size : ℕ) → IsSize size → Fits rows region fill size ⊎ Opens rows region fill size → fill + size ≤ region_bytes
home-most rows region fill size is (inl fits) = fits.within
home-most rows region fill size is (inr opens) = omega (arith, opens.fill_is, is.greatest)

-- the space with an object more
pub space-more : (old new : Lists) (region fill size : ℕ) → IsSpace old → IsSize size → IsLists new → new.in_use ≡ with_object old.in_use region size → new.from ≡ old.from → new.count ≡ old.count
    → Fits old.in_use region fill size ⊎ Opens old.in_use region fill size → IsSpace new
space-more old new region fill size space is lists in_use from count room = record {
  lists = lists;
  even = ap (λ n. n % 2) count ∙ space.even;
  some = omega (arith, space.some, count);
  few = omega (arith, space.few, count);
  filled = All-append IsFilled new.in_use new.from
      (subst (All IsFilled) (sym in_use) (filled-more old.in_use region fill size (in_use-filled old space) is room))
      (subst (All IsFilled) (sym from) (all-right IsFilled old.in_use old.from space.filled));
}
