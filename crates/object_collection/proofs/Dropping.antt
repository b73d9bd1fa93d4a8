-- Pages of large objects and of regions while others are released.
use Rattle.std.proofs.Common.{◌≡◌, ◌∙◌, ◌||◌, ℕ, inl, inr, Bool, true, false, List, Option, Some, None, All, filter, map, refl, sym, ap, arith, is_some, option_map}
use Rattle.std.specs.Prelude.{IsTrue, nat_le, nat_lt}
use Rattle.std.specs.List.{list_any}
use Rattle.std.proofs.lemmas.Bool.{and_parts, false≢true, or_parts}
use borrow.Author.Tests.{leb-true, ltb-true}
use Rattle.page_tables.specs.declared.address.Addr.{Addr}
use Rattle.page_tables.specs.declared.address.Window.TheVariants.{Large, Regions}
use Rattle.page_tables.specs.Address.{is_in}
use Rattle.cow_pages.specs.Memory.{is_mapped, page_at, HasOneSharer, Memory, Page}
use Rattle.cow_pages.specs.Only.{OnlyTable}
use Rattle.cow_pages.proofs.OnlyLemmas.{alone-stays}
use Rattle.region_lists.specs.Rows.{Lists, Row}
use Rattle.region_space.specs.Pages.{ReleasesRows}
use Rattle.region_space.specs.Space.{IsSpace}
use Rattle.region_space.specs.Space.{HasPages as HasRegionPages}
use Rattle.region_space.specs.Space.{holds_page as region_page}
use Rattle.region_space.proofs.DropLemmas.{from-window}
use Rattle.large_objects.specs.declared.rows.LargeRow.{LargeRow}
use Rattle.large_objects.specs.Pages.{holds_page, AreAlone, HasPages}
use Rattle.large_objects.specs.Pages.{ReleasesRows as ReleasesLarge}
use Rattle.large_objects.specs.Rows.{dead, waits, AreRows}
use Rattle.large_objects.proofs.LawLemmas.{pages-kept}
use Rattle.large_objects.proofs.PageLemmas.{any-in-window}
use Rattle.object_collection.specs.Phases.{goes_by, marked_by, LosesPages}
use Rattle.object_collection.proofs.Marked.{dead-marked, gone-waits, keeps-marked_by}
use Rattle.object_collection.proofs.Steps.{any-fewer}

-- no page lies in two windows
pub windows-apart : (p : ℕ) → is_in Regions p ≡ true → is_in Large p ≡ true → ⊥
windows-apart p young large =
    let one = and_parts (nat_le 262144 p) (nat_lt p 327680) young in
    let two = and_parts (nat_le 524288 p) (nat_lt p 655360) large in
    omega (arith, ltb-true p 327680 one.1, leb-true 524288 p two.0)

not-true : (b : Bool) → (b ≡ true → ⊥) → b ≡ false
not-true true fails = absurd (fails refl)
not-true false fails = refl

-- a page of the large window is as it was after from regions were released
pub large-page : (old new : Memory) (t : ℕ) (s : Lists) (p : ℕ) → IsSpace s → ReleasesRows old new t s.from → is_in Large p ≡ true → page_at new t p ≡ page_at old t p
large-page old new t s p space releases large = releases.others t p (inr (not-true (list_any (region_page p) s.from) (λ is. windows-apart p (from-window s p space is) large)))

pub large-kept : (old new : Memory) (t : ℕ) (s : Lists) (rows : List LargeRow) → IsSpace s → ReleasesRows old new t s.from → HasPages old t rows → HasPages new t rows
large-kept old new t s rows space releases pages p large = ap (λ (o : Option Page). is_some o) (large-page old new t s p space releases large) ∙ pages p large

some-frame : (o : Option Page) → is_some o ≡ true → (f : ℕ) × (option_map (λ (page : Page). page.frame) o ≡ Some f)
some-frame None is = absurd (false≢true is)
some-frame (Some page) is = (page.frame, refl)

-- an entry that had its frame alone and is still mapped has one alone
pub mapped-alone : (old new : Memory) (t p : ℕ) → OnlyTable old new t → HasOneSharer old t p → IsTrue (is_mapped new t p) → HasOneSharer new t p
mapped-alone old new t p only alone is = let it = some-frame (page_at new t p) is in alone-stays old new t t p it.0 only alone it.1

pub dead-window : (rows : List LargeRow) (q : LargeRow → Bool) (p : ℕ) → AreRows rows → list_any (holds_page p) (filter q rows) ≡ true → is_in Large p ≡ true
dead-window rows q p are is = any-in-window p rows are.within are.bytes (any-fewer (holds_page p) q rows is)

module _ (old mid : Memory) (t : ℕ) (s : Lists) (rows : List LargeRow) (ats : List Addr) (space : IsSpace s) (are : AreRows rows) (unmarked : All (λ (row : LargeRow). row.marked ≡ false) rows)
    (releases : ReleasesRows old mid t s.from) (only : OnlyTable old mid t) where
  abbrev marked : List LargeRow
  marked = map (marked_by ats) rows

  pub marked-pages : HasPages old t rows → HasPages mid t marked
  marked-pages pages = pages-kept (marked_by ats) (keeps-marked_by ats) mid t rows (large-kept old mid t s rows space releases pages)

  pub marked-alone : HasPages old t rows → AreAlone old t (filter waits rows) → AreAlone mid t (dead marked)
  marked-alone pages alone p is =
      let gone : list_any (holds_page p) (filter (goes_by ats) rows) ≡ true = sym (dead-marked ats p rows unmarked) ∙ is in
      let waiting = gone-waits ats p rows gone in
      let large = dead-window rows waits p are waiting in
      mapped-alone old mid t p only (alone p waiting) (large-kept old mid t s rows space releases pages p large ∙ any-fewer (holds_page p) waits rows waiting)

  module _ (new : Memory) (sweeps : ReleasesLarge mid new t (dead marked)) where
    pub all-lost : LosesPages old new t (λ p. list_any (region_page p) s.from || list_any (holds_page p) (filter (goes_by ats) rows))
    all-lost = record {
      others = λ u q off. elim off [
        | inl ne ↦ sweeps.others u q (inl ne) ∙ releases.others u q (inl ne)
        | inr out ↦
            let parts = or_parts (list_any (region_page q) s.from) (list_any (holds_page q) (filter (goes_by ats) rows)) out in
            sweeps.others u q (inr (dead-marked ats q rows unmarked ∙ parts.1)) ∙ releases.others u q (inr parts.0)
      ];
      live = λ u. sweeps.live u ∙ releases.live u;
      reads = sweeps.reads ∙ releases.reads;
    }

    pub regions-kept : (filled : List Row) → HasRegionPages mid t filled → HasRegionPages new t filled
    regions-kept filled pages p young =
        ap (λ (o : Option Page). is_some o) (sweeps.others t p (inr (dead-marked ats p rows unmarked ∙ not-true (list_any (holds_page p) (filter (goes_by ats) rows)) (λ is. windows-apart p young (dead-window rows (goes_by ats) p are is)))))
        ∙ pages p young
