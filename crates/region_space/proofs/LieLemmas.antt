-- The object that was placed, among those of the other rows.
use Rattle.std.proofs.Common.{◌≡◌, ◌≢◌, ◌∙◌, ℕ, ◌+◌, ◌-◌, ◌<◌, ◌≤◌, Bool, true, false, List, [], ◌∷◌, ◌++◌, map, All, nat_le, nat_lt, Option, Some, None, true≢false, refl, sym, ap, subst, inl, inr, arith}
use Rattle.std.specs.Prelude.{◌⊎◌, ◌||◌, if◌then◌else◌}
use Rattle.std.proofs.lemmas.Bool.{and_from, and_parts, cases_Bool, cases_lt, false≢true, le-leb, leb-true, ltb-true, or_left, or_right}
use Rattle.std.proofs.lemmas.List.{map-append}
use Rattle.std.proofs.lemmas.List.Elements.{All-head, All-tail}
use Rattle.std.proofs.lemmas.List.Folds.{list_any-append}
use Rattle.std.proofs.lemmas.Option.{none-some}
use Rattle.std.specs.List.{list_any}
use Rattle.model_numbers.specs.Numbers.{region_bytes}
use Rattle.page_tables.specs.declared.address.Window.TheVariants.{Regions}
use Rattle.page_tables.specs.Address.{is_in, page_of}
use Rattle.cow_pages.specs.Memory.{Memory, is_mapped}
use Rattle.region_lists.specs.Rows.{Lists, Row, last_of, with_last}
use Rattle.region_lists.proofs.MoveLemmas.{all-left}
use Rattle.page_runs.specs.Covered.{covers}
use Rattle.region_space.specs.Pages.{IsObjectIn, lies_in}
use Rattle.region_space.specs.Space.{HasPages, IsFilled, IsSize, IsSpace, Places, base_of, fill_if, filled, has_room, holds_page, spot_if, spot_in, with_object, with_object_if}
use Rattle.region_space.proofs.DropLemmas.{run-held}
use Rattle.region_space.proofs.PageLemmas.{filled-is, holds-more, inside, is_run, run_from, run_length}
use Rattle.region_space.proofs.RoomLemmas.{Fits, Opens, behind, home-most, room-cases}
use Rattle.region_space.proofs.WalkLemmas.{all-regions, any-here}

-- WHERE IT STANDS

-- the region in which an object stands, whichever region was offered, and how far that was filled
pub record Home (rows : List Row) (offered size : ℕ) : Type 0 where
  pub region : ℕ
  pub fill : ℕ
  pub spot : spot_in rows offered size ≡ base_of region + fill
  pub fill_is : fill ≡ fill_if (has_room (last_of rows) size) (last_of rows)
  pub more : with_object rows offered size ≡ with_object rows region size
  pub free : (ns : List ℕ) → (if has_room (last_of rows) size then ns else offered ∷ ns) ≡ (if has_room (last_of rows) size then ns else region ∷ ns)
  pub room : Fits rows region fill size ⊎ Opens rows region fill size

pub home : (rows : List Row) (offered size : ℕ) → Home rows offered size
home rows offered size = by (last_of rows) refl (cases_Bool (has_room (last_of rows) size))
  where
    by : (last : Option Row) → last_of rows ≡ last → (has_room (last_of rows) size ≡ true) ⊎ (has_room (last_of rows) size ≡ false) → Home rows offered size
    by last is (inr full) =
        let spot : spot_in rows offered size ≡ base_of offered + 0 = ap (λ (b : Bool). spot_if b (last_of rows) offered) full ∙ omega arith in
        let fill : 0 ≡ fill_if (has_room (last_of rows) size) (last_of rows) = sym (ap (λ (b : Bool). fill_if b (last_of rows)) full) in
        record {
          region = offered;
          fill = 0;
          spot = spot;
          fill_is = fill;
          more = refl;
          free = λ ns. refl;
          room = room-cases rows offered 0 size (sym spot) fill;
        }
    by None is (inl room) = absurd (true≢false (sym room ∙ ap (λ (it : Option Row). has_room it size) is))
    by (Some last) is (inl room) =
        let there : has_room (Some last) size ≡ true = sym (ap (λ (it : Option Row). has_room it size) is) ∙ room in
        let spot : (k : ℕ) → spot_in rows k size ≡ base_of last.region + last.fill =
        λ k. ap (λ (it : Option Row). spot_if (has_room it size) it k) is ∙ ap (λ (b : Bool). spot_if b (Some last) k) there in
        let more : (k : ℕ) → with_object rows k size ≡ with_last rows (last.fill + size) =
        λ k. ap (λ (it : Option Row). with_object_if (has_room it size) rows it k size) is ∙ ap (λ (b : Bool). with_object_if b rows (Some last) k size) there in
        let fill : last.fill ≡ fill_if (has_room (last_of rows) size) (last_of rows) =
        sym (ap (λ (it : Option Row). fill_if (has_room it size) it) is ∙ ap (λ (b : Bool). fill_if b (Some last)) there) in
        record {
          region = last.region;
          fill = last.fill;
          spot = spot offered;
          fill_is = fill;
          more = more offered ∙ sym (more last.region);
          free = λ ns. ap (λ (b : Bool). if b then ns else offered ∷ ns) room ∙ sym (ap (λ (b : Bool). if b then ns else last.region ∷ ns) room);
          room = room-cases rows last.region last.fill size (sym (spot last.region)) fill;
        }

any-with_last : (test : Row → Bool) (rows : List Row) (last : Row) (fill : ℕ) → last_of rows ≡ Some last → test (record { region = last.region; fill = fill }) ≡ true → list_any test (with_last rows fill) ≡ true
any-with_last test [] last fill is here = absurd (none-some last is)
any-with_last test (row ∷ []) last fill is here =
    let same : row ≡ last = cc in
    or_left (test (record { region = row.region; fill = fill })) false (ap (λ (it : Row). test (record { region = it.region; fill = fill })) same ∙ here)
any-with_last test (row ∷ next ∷ rest) last fill is here = or_right (test row) (list_any test (with_last (next ∷ rest) fill)) (any-with_last test (next ∷ rest) last fill is here)

lies-here : (region fill at size : ℕ) → base_of region ≤ at → at + size ≤ base_of region + fill → lies_in at size (record { region = region; fill = fill }) ≡ true
lies-here region fill at size from to = and_from _ _ (le-leb (base_of region) at from) (le-leb (at + size) (base_of region + fill) to)

object-there : (rows : List Row) (region fill at size : ℕ) → at ≡ base_of region + fill → Fits rows region fill size ⊎ Opens rows region fill size → list_any (lies_in at size) (with_object rows region size) ≡ true
object-there rows region fill at size spot (inl fits) =
    ap (list_any (lies_in at size)) fits.more
    ∙ any-with_last (lies_in at size) rows fits.last (fill + size) fits.last_is
    (lies-here fits.last.region (fill + size) at size (omega (arith, spot, fits.region_is)) (omega (arith, spot, fits.region_is)))
object-there rows region fill at size spot (inr opens) =
    ap (list_any (lies_in at size)) opens.more
    ∙ any-here (lies_in at size) rows (record { region = region; fill = size }) [] (lies-here region size at size (omega (arith, spot)) (omega (arith, spot, opens.fill_is)))

pub placed-lies : (old new : Lists) (at size : ℕ) → IsSize size → Places old new at size → IsObjectIn new.in_use at size
placed-lies old new at size is places =
    let h = home old.in_use places.region size in
    record {
      some = omega (arith, is.least);
      there = ap (list_any (lies_in at size)) (places.in_use ∙ h.more) ∙ object-there old.in_use h.region h.fill at size (places.spot ∙ h.spot) h.room;
    }

-- THE OTHERS

-- a row in which an object lies, by numbers
pub record LiesIn (P : Row → Type 0) (a n : ℕ) : Type 0 where
  pub row : Row
  pub holds : P row
  pub from : base_of row.region ≤ a
  pub to : a + n ≤ base_of row.region + row.fill

pub lies-in : (P : Row → Type 0) (rows : List Row) (a n : ℕ) → All P rows → list_any (lies_in a n) rows ≡ true → LiesIn P a n
lies-in P [] a n all there = absurd (false≢true there)
lies-in P (row ∷ rest) a n all there = by (cases_Bool (lies_in a n row)) (λ later. lies-in P rest a n (All-tail P row rest all) later)
  where
    by : (lies_in a n row ≡ true) ⊎ (lies_in a n row ≡ false) → (list_any (lies_in a n) rest ≡ true → LiesIn P a n) → LiesIn P a n
    by (inl here) behind_it =
        let parts = and_parts (nat_le (base_of row.region) a) (nat_le (a + n) (base_of row.region + row.fill)) here in
        record { row = row; holds = All-head P row rest all; from = leb-true (base_of row.region) a parts.0; to = leb-true (a + n) (base_of row.region + row.fill) parts.1 }
    by (inr later) behind_it = behind_it (sym (ap (λ (b : Bool). b || list_any (lies_in a n) rest) later) ∙ there)

-- what holds of each of two is one fact of a row
pub record Both (P Q : Row → Type 0) (row : Row) : Type 0 where
  pub one : P row
  pub two : Q row

pub all-both : (P Q : Row → Type 0) (rows : List Row) → All P rows → All Q rows → All (Both P Q) rows
all-both P Q rows one two = λ k d within. record { one = one k d within; two = two k d within }

apart-from : (region fill at size a n : ℕ) (row : Row) → at ≡ base_of region + fill → fill + size ≤ region_bytes → row.fill ≤ region_bytes → (row.region ≢ region) ⊎ (row.fill ≡ fill)
    → base_of row.region ≤ a → a + n ≤ base_of row.region + row.fill → (a + n ≤ at) ⊎ (at + size ≤ a)
apart-from region fill at size a n row spot fits most side from to = elim (cases_lt row.region region) [
  | inl before ↦ inl (omega (arith, before, spot, most, to))
  | inr above ↦ elim (cases_lt region row.region) [
    | inl beyond ↦ inr (omega (arith, beyond, spot, fits, from))
    | inr below ↦ elim side [
      | inl other ↦ absurd (other (omega (arith, above, below)))
      | inr same ↦ inl (omega (arith, above, below, same, spot, to))
    ]
  ]
]

pub placed-beside : (old new : Lists) (at size a n : ℕ) → IsSpace old → IsSize size → Places old new at size → IsObjectIn (filled old) a n → (a + n ≤ at) ⊎ (at + size ≤ a)
placed-beside old new at size a n space is places object =
    let h = home old.in_use places.region size in
    let apart = behind old new.free h.region h.fill size space (places.free ∙ h.free new.free) h.room in
    let side = λ (row : Row). (row.region ≢ h.region) ⊎ (row.fill ≡ h.fill) in
    let l = lies-in (Both IsFilled side) (filled old) a n (all-both IsFilled side (filled old) space.filled apart) object.there in
    apart-from h.region h.fill at size a n l.row (places.spot ∙ h.spot) (home-most old.in_use h.region h.fill size is h.room) l.holds.one.most l.holds.two l.from l.to

-- THEIR PAGES

pub filled-within : (s : Lists) → IsSpace s → All (λ (row : Row). row.region < s.count) (filled s)
filled-within s space =
    let regions = λ (rows : List Row). map (λ (row : Row). row.region) rows in
    let split : regions (filled s) ≡ regions s.in_use ++ regions s.from = map-append (λ (row : Row). row.region) s.in_use s.from in
    all-regions (λ n. n < s.count) (filled s) (subst (All (λ n. n < s.count)) (sym split) (all-left (λ n. n < s.count) (regions s.in_use ++ regions s.from) s.free space.lists.within))

pub any-holds : (rows : List Row) (a n i : ℕ) → list_any (lies_in a n) rows ≡ true → i < n → list_any (holds_page (page_of (a + i))) rows ≡ true
any-holds [] a n i there inside_of = absurd (false≢true there)
any-holds (row ∷ rest) a n i there inside_of = by (cases_Bool (lies_in a n row)) (λ later. any-holds rest a n i later inside_of)
  where
    by : (lies_in a n row ≡ true) ⊎ (lies_in a n row ≡ false) → (list_any (lies_in a n) rest ≡ true → list_any (holds_page (page_of (a + i))) rest ≡ true) → list_any (holds_page (page_of (a + i))) (row ∷ rest) ≡ true
    by (inl here) behind_it =
        let parts = and_parts (nat_le (base_of row.region) a) (nat_le (a + n) (base_of row.region + row.fill)) here in
        let from = leb-true (base_of row.region) a parts.0 in
        let to = leb-true (a + n) (base_of row.region + row.fill) parts.1 in
        or_left (holds_page (page_of (a + i)) row) (list_any (holds_page (page_of (a + i))) rest)
        (run-held row (page_of (a + i)) (record { from = omega (arith, from); to = omega (arith, from, to, inside_of) }))
    by (inr later) behind_it =
        or_right (holds_page (page_of (a + i)) row) (list_any (holds_page (page_of (a + i))) rest)
        (behind_it (sym (ap (λ (b : Bool). b || list_any (lies_in a n) rest) later) ∙ there))

pub object-mapped : (m : Memory) (t : ℕ) (s : Lists) (a n i : ℕ) → IsSpace s → HasPages m t (filled s) → IsObjectIn (filled s) a n → i < n → is_mapped m t (page_of (a + i)) ≡ true
object-mapped m t s a n i space has object inside_of =
    let within = λ (row : Row). row.region < s.count in
    let l = lies-in (Both IsFilled within) (filled s) a n (all-both IsFilled within (filled s) space.filled (filled-within s space)) object.there in
    let window : is_in Regions (page_of (a + i)) ≡ true =
    inside 262144 327680 (page_of (a + i)) (omega (arith, l.from)) (omega (arith, l.from, l.to, inside_of, l.holds.one.most, l.holds.two, space.few)) in
    has (page_of (a + i)) window ∙ any-holds (filled s) a n i object.there inside_of

any-last-row : (test : Row → Bool) (rows : List Row) (last : Row) → last_of rows ≡ Some last → test last ≡ true → list_any test rows ≡ true
any-last-row test [] last is here = absurd (none-some last is)
any-last-row test (row ∷ []) last is here = let same : row ≡ last = cc in or_left (test row) false (ap test same ∙ here)
any-last-row test (row ∷ next ∷ rest) last is here = or_right (test row) (list_any test (next ∷ rest)) (any-last-row test (next ∷ rest) last is here)

join-more : (r o f c : Bool) → (r ≡ true → c ≡ true) → (c ≡ true → (r ≡ true) ⊎ (o ≡ true)) → ((r || o) || f) ≡ ((o || f) || c)
join-more true true f c to back = refl
join-more true false true c to back = refl
join-more true false false c to back = sym (to refl)
join-more false true f c to back = refl
join-more false false true c to back = refl
join-more false false false false to back = refl
join-more false false false true to back = elim (back refl) [
  | inl is ↦ absurd (false≢true is)
  | inr is ↦ absurd (false≢true is)
]

run-covered : (region fill at size p : ℕ) → at ≡ base_of region + fill → is_run (run_from region fill) (run_length fill size) p ≡ true → covers at size p ≡ true
run-covered region fill at size p spot is =
    let parts = and_parts (nat_le (run_from region fill) p) (nat_lt p (run_from region fill + run_length fill size)) is in
    let from = leb-true (run_from region fill) p parts.0 in
    let to = ltb-true p (run_from region fill + run_length fill size) parts.1 in
    and_from _ _ (le-leb (page_of at) p (omega (arith, spot, from))) (le-leb p (page_of (at + size - 1)) (omega (arith, spot, from, to)))

covered-run : (rows : List Row) (region fill at size p : ℕ) → at ≡ base_of region + fill → 0 < size → Fits rows region fill size ⊎ Opens rows region fill size → covers at size p ≡ true
    → (is_run (run_from region fill) (run_length fill size) p ≡ true) ⊎ (list_any (holds_page p) rows ≡ true)
covered-run rows region fill at size p spot some room is = by room (cases_lt p (run_from region fill))
  where
    parts : (nat_le (page_of at) p ≡ true) × (nat_le p (page_of (at + size - 1)) ≡ true)
    parts = and_parts (nat_le (page_of at) p) (nat_le p (page_of (at + size - 1))) is

    from : page_of at ≤ p
    from = leb-true (page_of at) p parts.0

    to : p ≤ page_of (at + size - 1)
    to = leb-true p (page_of (at + size - 1)) parts.1

    by : Fits rows region fill size ⊎ Opens rows region fill size → (p < run_from region fill) ⊎ (run_from region fill ≤ p)
        → (is_run (run_from region fill) (run_length fill size) p ≡ true) ⊎ (list_any (holds_page p) rows ≡ true)
    by it (inr above) = inl (inside (run_from region fill) (run_from region fill + run_length fill size) p above (omega (arith, above, to, spot, some)))
    by (inl fits) (inl before) =
        inr (any-last-row (holds_page p) rows fits.last fits.last_is (run-held fits.last p (record {
          from = omega (arith, from, spot, fits.region_is);
          to = omega (arith, before, fits.region_is, fits.fill_is);
        })))
    by (inr opens) (inl before) = absurd (omega (arith, before, from, spot, opens.fill_is))

pub pages-grown : (old new : Lists) (at size p : ℕ) → IsSize size → Places old new at size → list_any (holds_page p) (filled new) ≡ (list_any (holds_page p) (filled old) || covers at size p)
pages-grown old new at size p is places =
    let h = home old.in_use places.region size in
    let spot = places.spot ∙ h.spot in
    let held = list_any (holds_page p) in
    let run = is_run (run_from h.region h.fill) (run_length h.fill size) p in
    ap held (filled-is old new h.region size (places.in_use ∙ h.more) places.from)
    ∙ list_any-append (holds_page p) (with_object old.in_use h.region size) old.from
    ∙ ap (λ (b : Bool). b || held old.from) (holds-more old.in_use h.region h.fill size p h.room)
    ∙ join-more run (held old.in_use) (held old.from) (covers at size p) (run-covered h.region h.fill at size p spot) (covered-run old.in_use h.region h.fill at size p spot (omega (arith, is.least)) h.room)
    ∙ sym (ap (λ (b : Bool). b || covers at size p) (list_any-append (holds_page p) old.in_use old.from))
