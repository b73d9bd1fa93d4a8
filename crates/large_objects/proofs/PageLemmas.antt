-- The pages of rows: mapped with a row, unmapped with the rows that go.
use Rattle.std.proofs.Common.{◌≡◌, ◌≢◌, ◌⊎◌, ◌∙◌, ℕ, zero, suc, ◌+◌, ◌*◌, ◌<◌, ◌≤◌, Bool, true, false, ◌||◌, ◌&&◌, not, cond, List, [], ◌∷◌, ◌++◌, map, length, get_or, take, Option, Some, None, refl, sym, ap, subst, inl, inr, arith, true≢false, append-nil, leb, ltb}
use Rattle.std.specs.Prelude.{All, IsTrue, is_some, nat_eq, option_map, sum}
use Rattle.std.specs.List.{AllByRecursion, filter, list_any, IsDistinct}
use Rattle.std.proofs.lemmas.Bool.{and_cases, and_from, and_parts, cases_Bool, cases_eq, le-leb, leb-true, leb-false, lt-ltb, ltb-true, ltb-false, or_cases, or_from, or_left, or_parts, or_right, eqb-false, false_from_ne_true}
use Rattle.std.proofs.lemmas.List.{map-append}
use Rattle.std.proofs.lemmas.List.Elements.{All-filter, All-take, filter_more}
use Rattle.std.proofs.lemmas.List.Folds.{list_any-append, list_any_none}
use Rattle.std.proofs.lemmas.List.Sums.{sum_by-append, sum_by-cons}
use Rattle.std.proofs.lemmas.Map.Keys.{IsDistinct-head, IsDistinct-tail}
use Rattle.page_tables.specs.declared.address.Window.TheVariants.{Large}
use Rattle.page_tables.specs.Address.{is_in, page_of}
use Rattle.cow_pages.specs.Memory.{Memory, Page, page_at, frame_at, is_mapped, HasOneSharer}
use Rattle.cow_pages.specs.View.{view_of, OthersSeen}
use Rattle.cow_pages.proofs.ViewLemmas.{byte-page, mapped-page, SameView-pages}
use Rattle.image_space.specs.Space.{pages_up_to}
use Rattle.page_runs.specs.Runs.{IsBeside, IsInRun, MapsRun, ReleasesRun}
use Rattle.page_runs.proofs.RunLemmas.{frame-none, frame-same}
use Rattle.large_objects.specs.declared.rows.LargeRow.{LargeRow}
use Rattle.large_objects.specs.Pages.{AreMapped, HasPages, LosesRows, ReleasesRows, holds_page, page_sum}
use Rattle.large_objects.specs.Rows.{AreRows, IsBytes, cleared, dead, goes, slot_base, stays, swept}
use Rattle.large_objects.specs.Table.{slot_of}
use Rattle.large_objects.proofs.RowLemmas.{KeepsSlots, keeps-cleared, front-apart, slot-at, slots}

-- the pages of a row
abbrev pub IsPageOf : LargeRow → ℕ → Type 0
IsPageOf row p = IsInRun (page_of (slot_base row.slot)) (pages_up_to row.bytes) p

pub held : (p : ℕ) (row : LargeRow) → holds_page p row ≡ true → IsPageOf row p
held p row holds = let parts = and_parts _ _ holds in record { from = leb-true _ _ parts.0; to = ltb-true _ _ parts.1 }

pub holds : (p : ℕ) (row : LargeRow) → IsPageOf row p → holds_page p row ≡ true
holds p row here = and_from _ _ (le-leb _ _ here.from) (lt-ltb _ _ here.to)

-- a page that is not the row's stands beside its pages
pub beside : (t : ℕ) (row : LargeRow) (u q : ℕ) → (u ≢ t) ⊎ (holds_page q row ≡ false) → IsBeside t (page_of (slot_base row.slot)) (pages_up_to row.bytes) u q
beside t row u q (inl other) = inl other
beside t row u q (inr none) = inr (elim (and_cases _ _ none) [ inl below ↦ inl (leb-false _ _ below) | inr behind ↦ inr (ltb-false _ _ behind) ])

-- a row has at most 256 pages, the first of them at its slot
pub page-within : (p : ℕ) (row : LargeRow) → IsBytes row.bytes → IsPageOf row p → (524288 + row.slot * 256 ≤ p) × (p < 524288 + row.slot * 256 + 256)
page-within p row bytes here = (omega (arith, here.from), omega (arith, here.from, here.to, bytes.most))

pub one-slot : (p : ℕ) (a b : LargeRow) → IsBytes a.bytes → IsBytes b.bytes → holds_page p a ≡ true → holds_page p b ≡ true → a.slot ≡ b.slot
one-slot p a b of-a of-b in-a in-b =
    let x = page-within p a of-a (held p a in-a) in
    let y = page-within p b of-b (held p b in-b) in
    omega (arith, x.0, x.1, y.0, y.1)

pub page-in-window : (p : ℕ) (row : LargeRow) → row.slot < 512 → IsBytes row.bytes → holds_page p row ≡ true → IsTrue (is_in Large p)
page-in-window p row within bytes in-row =
    let x = page-within p row bytes (held p row in-row) in
    and_from _ _ (le-leb 524288 p (omega (arith, x.0))) (lt-ltb p (524288 + 131072) (omega (arith, x.1, within)))

-- rows of other slots hold none of a row's pages
pub none-holds : (p : ℕ) (row : LargeRow) (rows : List LargeRow) → All (λ (it : LargeRow). IsBytes it.bytes) rows → IsBytes row.bytes → All (λ (it : LargeRow). it.slot ≢ row.slot) rows
    → holds_page p row ≡ true → list_any (holds_page p) rows ≡ false
none-holds p row rows all bytes apart in-row =
    list_any_none (holds_page p) rows (λ k d below. false_from_ne_true _ (λ also. apart k d below (one-slot p (get_or rows k d) row (all k d below) bytes also in-row)))

-- MAPPED WITH A ROW

pub none-there : (o : Option Page) → is_some o ≡ false → o ≡ None
none-there None is = refl
none-there (Some page) is = absurd (true≢false is)

pub row-unmapped : (m : Memory) (t p : ℕ) (rows : List LargeRow) (row : LargeRow) → HasPages m t rows → All (λ (it : LargeRow). IsBytes it.bytes) rows → row.slot < 512 → IsBytes row.bytes
    → All (λ (it : LargeRow). it.slot ≢ row.slot) rows → IsPageOf row p → page_at m t p ≡ None
row-unmapped m t p rows row has all within bytes apart here =
    let in-row = holds p row here in
    none-there (page_at m t p) (has p (page-in-window p row within bytes in-row) ∙ none-holds p row rows all bytes apart in-row)

pub pages-placed : (old new : Memory) (t : ℕ) (rows : List LargeRow) (row : LargeRow) → HasPages old t rows → MapsRun old new t (page_of (slot_base row.slot)) (pages_up_to row.bytes) → HasPages new t (rows ++ row ∷ [])
pages-placed old new t rows row has maps p window = by (cases_Bool (holds_page p row))
  where
    more : (b : Bool) → holds_page p row ≡ b → list_any (holds_page p) (rows ++ row ∷ []) ≡ (list_any (holds_page p) rows || (b || false))
    more b is = list_any-append (holds_page p) rows (row ∷ []) ∙ ap (λ c. list_any (holds_page p) rows || (c || false)) is

    or-none : (b : Bool) → (b || false) ≡ b
    or-none true = refl
    or-none false = refl

    by : (holds_page p row ≡ true) ⊎ (holds_page p row ≡ false) → is_mapped new t p ≡ list_any (holds_page p) (rows ++ row ∷ [])
    by (inl here) = ap is_some (maps.zeros p (held p row here)).now ∙ sym (more true here ∙ or_right (list_any (holds_page p) rows) true refl)
    by (inr none) = ap is_some (maps.others t p (beside t row t p (inr none))) ∙ has p window ∙ sym (more false none ∙ or-none (list_any (holds_page p) rows))

-- RELEASED ROW BY ROW

pub releases-none : (m : Memory) (t : ℕ) → ReleasesRows m m t []
releases-none m t = record {
  gone = λ p h. absurd (true≢false (sym h));
  others = λ u q apart. refl;
  live = λ u. refl;
  reads = refl;
  frames = refl;
  leaf_count = refl;
  spare = omega arith;
  used = omega arith;
}

pub sums-push : (rows : List LargeRow) (row : LargeRow) → page_sum (rows ++ row ∷ []) ≡ page_sum rows + pages_up_to row.bytes
sums-push rows row =
    let pages = λ (it : LargeRow). pages_up_to it.bytes in
    ap sum (map-append pages rows (row ∷ [])) ∙ sum_by-append (λ (n : ℕ). n) (map pages rows) (map pages (row ∷ [])) ∙ ap (λ n. page_sum rows + n) (sum_by-cons (λ (n : ℕ). n) (pages row) [])
    ∙ omega arith

pub releases-next : (old mid new : Memory) (t : ℕ) (rows : List LargeRow) (row : LargeRow) → ReleasesRows old mid t rows → ReleasesRun mid new t (page_of (slot_base row.slot)) (pages_up_to row.bytes) → ReleasesRows old new t (rows ++ row ∷ [])
releases-next old mid new t rows row a b = record {
  gone = λ p h. gone p (or_cases _ _ (sym (parts p) ∙ h)) (cases_Bool (holds_page p row));
  others = λ u q apart. others u q apart;
  live = λ u. b.live u ∙ a.live u;
  reads = b.reads ∙ a.reads;
  frames = b.frames ∙ a.frames;
  leaf_count = b.leaf_count ∙ a.leaf_count;
  spare = omega (arith, a.spare, b.spare);
  used = omega (arith, a.used, b.used, sums-push rows row);
}
  where
    parts : (p : ℕ) → list_any (holds_page p) (rows ++ row ∷ []) ≡ (list_any (holds_page p) rows || (holds_page p row || false))
    parts p = list_any-append (holds_page p) rows (row ∷ [])

    alone : (b : Bool) → (b || false) ≡ true → b ≡ true
    alone true h = refl
    alone false h = absurd (true≢false (sym h))

    gone : (p : ℕ) → (list_any (holds_page p) rows ≡ true) ⊎ ((holds_page p row || false) ≡ true) → (holds_page p row ≡ true) ⊎ (holds_page p row ≡ false) → page_at new t p ≡ None
    gone p which (inl here) = b.gone p (held p row here)
    gone p (inl before) (inr none) = b.others t p (beside t row t p (inr none)) ∙ a.gone p before
    gone p (inr also) (inr none) = absurd (true≢false (sym (alone (holds_page p row) also) ∙ none))

    none : (c : Bool) → (c || false) ≡ false → c ≡ false
    none true h = absurd (true≢false h)
    none false h = refl

    others : (u q : ℕ) → (u ≢ t) ⊎ (list_any (holds_page q) (rows ++ row ∷ []) ≡ false) → page_at new u q ≡ page_at old u q
    others u q (inl apart) = b.others u q (inl apart) ∙ a.others u q (inl apart)
    others u q (inr apart) =
        let two = or_parts _ _ (sym (parts q) ∙ apart) in
        b.others u q (beside t row u q (inr (none (holds_page q row) two.1))) ∙ a.others u q (inr two.0)

-- the next row's pages are as they were
pub next-pages : (p : ℕ) (rows : List LargeRow) (i : ℕ) (row : LargeRow) → AreRows rows → i < length rows → row ≡ get_or rows i row → holds_page p row ≡ true → list_any (holds_page p) (dead (take i rows)) ≡ false
next-pages p rows i row a within is here =
    let same : slot_of rows i ≡ row.slot = slot-at rows i row within ∙ sym (ap (λ (it : LargeRow). it.slot) is) in
    let apart : All (λ (it : LargeRow). it.slot ≢ row.slot) (take i rows) = subst (λ s. All (λ (it : LargeRow). it.slot ≢ s) (take i rows)) same (front-apart rows i a.apart within) in
    none-holds p row (dead (take i rows)) (All-filter goes (λ (it : LargeRow). IsBytes it.bytes) (take i rows) (All-take (λ (it : LargeRow). IsBytes it.bytes) i rows a.bytes))
    (subst (λ (it : LargeRow). IsBytes it.bytes) (sym is) (a.bytes i row within))
    (All-filter goes (λ (it : LargeRow). it.slot ≢ row.slot) (take i rows) apart) here

-- a row that goes is one of the dead
pub any-dead : (p : ℕ) (rows : List LargeRow) (i : ℕ) (d : LargeRow) → i < length rows → goes (get_or rows i d) ≡ true → holds_page p (get_or rows i d) ≡ true → list_any (holds_page p) (dead rows) ≡ true
any-dead p [] i d within gone here = absurd (omega (arith, within))
any-dead p (row ∷ rest) zero d within gone here = ap (λ b. list_any (holds_page p) (cond b (row ∷ dead rest) (dead rest))) gone ∙ or_left (holds_page p row) (list_any (holds_page p) (dead rest)) here
any-dead p (row ∷ rest) (suc i) d within gone here = by (goes row) (any-dead p rest i d (omega (arith, within)) gone here)
  where
    by : (b : Bool) → list_any (holds_page p) (dead rest) ≡ true → list_any (holds_page p) (cond b (row ∷ dead rest) (dead rest)) ≡ true
    by true later = or_right (holds_page p row) (list_any (holds_page p) (dead rest)) later
    by false later = later

-- the frame of a page that stands is no other's still
pub next-alone : (old mid : Memory) (t p : ℕ) (rows : List LargeRow) → ReleasesRows old mid t rows → list_any (holds_page p) rows ≡ false → IsTrue (is_mapped old t p) → HasOneSharer old t p → HasOneSharer mid t p
next-alone old mid t p rows m apart mapped one u q same = by (cases_eq u t) (cases_Bool (list_any (holds_page q) rows))
  where
    here : frame_at mid t p ≡ frame_at old t p
    here = frame-same old mid t p (m.others t p (inr apart))

    framed : (o : Option Page) → IsTrue (is_some o) → (f : ℕ) × (option_map (λ (page : Page). page.frame) o ≡ Some f)
    framed None is = absurd (true≢false (sym is))
    framed (Some page) is = (page.frame, refl)

    by : (u ≡ t) ⊎ (u ≢ t) → (list_any (holds_page q) rows ≡ true) ⊎ (list_any (holds_page q) rows ≡ false) → (u ≡ t) × (q ≡ p)
    by (inr other) side = one u q (sym (frame-same old mid u q (m.others u q (inl other))) ∙ same ∙ here)
    by (inl it) (inr none) = one u q (sym (frame-same old mid u q (m.others u q (inr none))) ∙ same ∙ here)
    by (inl it) (inl gone) =
        let f = framed (page_at old t p) mapped in
        absurd (frame-none mid t q f.0 (m.gone q gone) (ap (λ k. frame_at mid k q) (sym it) ∙ same ∙ here ∙ f.1))

pub releases-step : (old mid new : Memory) (t : ℕ) (rows : List LargeRow) (i : ℕ) (row : LargeRow) → i < length rows → row ≡ get_or rows i row → stays row ≡ false → ReleasesRows old mid t (dead (take i rows))
    → ReleasesRun mid new t (page_of (slot_base row.slot)) (pages_up_to row.bytes) → ReleasesRows old new t (dead (take (i + 1) rows))
releases-step old mid new t rows i row within is gone a b =
    subst (ReleasesRows old new t) (sym (filter_more goes rows i row within
    ∙ ap (λ (it : LargeRow). dead (take i rows) ++ cond (goes it) (it ∷ []) []) (sym is)
    ∙ ap (λ b. dead (take i rows) ++ cond (not b) (row ∷ []) []) gone))
    (releases-next old mid new t (dead (take i rows)) row a b)

pub releases-stay : (old new : Memory) (t : ℕ) (rows : List LargeRow) (i : ℕ) (row : LargeRow) → i < length rows → row ≡ get_or rows i row → stays row ≡ true → ReleasesRows old new t (dead (take i rows)) → ReleasesRows old new t (dead (take (i + 1) rows))
releases-stay old new t rows i row within is keep a =
    subst (ReleasesRows old new t) (sym (filter_more goes rows i row within
    ∙ ap (λ (it : LargeRow). dead (take i rows) ++ cond (goes it) (it ∷ []) []) (sym is)
    ∙ ap (λ b. dead (take i rows) ++ cond (not b) (row ∷ []) []) keep
    ∙ append-nil (dead (take i rows)))) a

-- ALL RELEASED

pub rows-lost : (old new : Memory) (t : ℕ) (rows : List LargeRow) → ReleasesRows old new t rows → LosesRows (view_of old t) (view_of new t) rows
rows-lost old new t rows m = record {
  unmapped = λ at h. ap is_some (m.gone (page_of at) h);
  others = λ at none. let same = m.others t (page_of at) (inr none) in (byte-page old new t t at same, mapped-page old new t t at same);
}

pub rows-others : (old new : Memory) (t : ℕ) (rows : List LargeRow) → ReleasesRows old new t rows → OthersSeen old new t
rows-others old new t rows m u apart = SameView-pages old new u u (λ q. m.others u q (inl apart))

-- a page of some row is a page of one that is kept or of one that isn't
pub any-split : (keep : LargeRow → Bool) (p : ℕ) (rows : List LargeRow) → list_any (holds_page p) rows ≡ (list_any (holds_page p) (filter keep rows) || list_any (holds_page p) (filter (λ (it : LargeRow). not (keep it)) rows))
any-split keep p [] = refl
any-split keep p (row ∷ rest) = by (keep row) (any-split keep p rest)
  where
    or-swap : (a b c : Bool) → (a || (b || c)) ≡ (b || (a || c))
    or-swap true true c = refl
    or-swap true false c = refl
    or-swap false b c = refl

    or-join : (a b c : Bool) → (a || (b || c)) ≡ ((a || b) || c)
    or-join true b c = refl
    or-join false b c = refl

    by : (b : Bool) → list_any (holds_page p) rest ≡ (list_any (holds_page p) (filter keep rest) || list_any (holds_page p) (filter (λ (it : LargeRow). not (keep it)) rest))
        → (holds_page p row || list_any (holds_page p) rest) ≡ (list_any (holds_page p) (cond b (row ∷ filter keep rest) (filter keep rest)) || list_any (holds_page p) (cond (not b) (row ∷ filter (λ (it : LargeRow). not (keep it)) rest) (filter (λ (it : LargeRow). not (keep it)) rest)))
    by true later = ap (λ b. holds_page p row || b) later ∙ or-join (holds_page p row) (list_any (holds_page p) (filter keep rest)) (list_any (holds_page p) (filter (λ (it : LargeRow). not (keep it)) rest))
    by false later = ap (λ b. holds_page p row || b) later ∙ or-swap (holds_page p row) (list_any (holds_page p) (filter keep rest)) (list_any (holds_page p) (filter (λ (it : LargeRow). not (keep it)) rest))

-- rows of other slots by their slots
pub slots-apart : (slot : ℕ) (rows : List LargeRow) → AllByRecursion (λ y. nat_eq slot y ≡ false) (slots rows) → All (λ (it : LargeRow). it.slot ≢ slot) rows
slots-apart slot [] all k d below same = omega (arith, below)
slots-apart slot (row ∷ rest) all zero d below same = eqb-false slot row.slot all.0 (sym same)
slots-apart slot (row ∷ rest) all (suc k) d below same = slots-apart slot rest all.1 k d (omega (arith, below)) same

-- the rows of a page are either all kept or none
pub one-side : (keep : LargeRow → Bool) (p : ℕ) (rows : List LargeRow) → IsDistinct nat_eq (slots rows) → All (λ (it : LargeRow). IsBytes it.bytes) rows → list_any (holds_page p) (filter (λ (it : LargeRow). not (keep it)) rows) ≡ true → list_any (holds_page p) (filter keep rows) ≡ false
one-side keep p [] d bytes gone = refl
one-side keep p (row ∷ rest) d bytes gone = by (keep row) gone (cases_Bool (holds_page p row)) (λ later. one-side keep p rest (IsDistinct-tail nat_eq row.slot (slots rest) d) others later)
  where
    others : All (λ (it : LargeRow). IsBytes it.bytes) rest
    others k it below = bytes (suc k) it (omega (arith, below))

    apart : All (λ (it : LargeRow). it.slot ≢ row.slot) rest
    apart = slots-apart row.slot rest (IsDistinct-head nat_eq row.slot (slots rest) d)

    -- if this row holds the page, no later one does
    no-later : (some : LargeRow → Bool) → holds_page p row ≡ true → list_any (holds_page p) (filter some rest) ≡ false
    no-later some here =
        none-holds p row (filter some rest) (All-filter some (λ (it : LargeRow). IsBytes it.bytes) rest others) (bytes 0 row (omega arith))
        (All-filter some (λ (it : LargeRow). it.slot ≢ row.slot) rest apart) here

    drop-first : (c : Bool) → c ≡ false → (b : Bool) → (c || b) ≡ true → b ≡ true
    drop-first true is b h = absurd (true≢false is)
    drop-first false is b h = h

    by : (b : Bool) → list_any (holds_page p) (cond (not b) (row ∷ filter (λ (it : LargeRow). not (keep it)) rest) (filter (λ (it : LargeRow). not (keep it)) rest)) ≡ true → (holds_page p row ≡ true) ⊎ (holds_page p row ≡ false)
        → (list_any (holds_page p) (filter (λ (it : LargeRow). not (keep it)) rest) ≡ true → list_any (holds_page p) (filter keep rest) ≡ false) → list_any (holds_page p) (cond b (row ∷ filter keep rest) (filter keep rest)) ≡ false
    by true h (inl here) later = absurd (true≢false (sym h ∙ no-later (λ (it : LargeRow). not (keep it)) here))
    by true h (inr none) later = or_from (holds_page p row) (list_any (holds_page p) (filter keep rest)) none (later h)
    by false h (inl here) later = no-later keep here
    by false h (inr none) later = later (drop-first (holds_page p row) none (list_any (holds_page p) (filter (λ (it : LargeRow). not (keep it)) rest)) h)

-- a change that keeps slots and bytes keeps the pages
pub any-kept : (f : LargeRow → LargeRow) → KeepsSlots f → (p : ℕ) (rows : List LargeRow) → list_any (holds_page p) (map f rows) ≡ list_any (holds_page p) rows
any-kept f keeps p [] = refl
any-kept f keeps p (row ∷ rest) =
    let here : holds_page p (f row) ≡ holds_page p row =
    ap (λ s. leb (page_of (slot_base s)) p && ltb p (page_of (slot_base s) + pages_up_to (f row).bytes)) (keeps.slot row)
    ∙ ap (λ n. leb (page_of (slot_base row.slot)) p && ltb p (page_of (slot_base row.slot) + pages_up_to n)) (keeps.bytes row) in
    ap (λ b. b || list_any (holds_page p) (map f rest)) here ∙ ap (λ b. holds_page p row || b) (any-kept f keeps p rest)

-- some row holds a page only in the window
pub any-in-window : (p : ℕ) (rows : List LargeRow) → All (λ (it : LargeRow). it.slot < 512) rows → All (λ (it : LargeRow). IsBytes it.bytes) rows → list_any (holds_page p) rows ≡ true → IsTrue (is_in Large p)
any-in-window p [] within bytes h = absurd (true≢false (sym h))
any-in-window p (row ∷ rest) within bytes h = elim (or_cases (holds_page p row) (list_any (holds_page p) rest) h) [
  | inl here ↦ page-in-window p row (within 0 row (omega arith)) (bytes 0 row (omega arith)) here
  | inr later ↦ any-in-window p rest (λ k it below. within (suc k) it (omega (arith, below))) (λ k it below. bytes (suc k) it (omega (arith, below))) later
]

pub dead-mapped : (m : Memory) (t : ℕ) (rows : List LargeRow) → AreRows rows → HasPages m t rows → AreMapped m t (dead rows)
dead-mapped m t rows a has p gone =
    let some : list_any (holds_page p) rows ≡ true = any-split stays p rows ∙ or_right (list_any (holds_page p) (filter stays rows)) (list_any (holds_page p) (dead rows)) gone in
    has p (any-in-window p rows a.within a.bytes some) ∙ some

pub pages-swept : (old new : Memory) (t : ℕ) (rows : List LargeRow) → AreRows rows → HasPages old t rows → ReleasesRows old new t (dead rows) → HasPages new t (swept rows)
pages-swept old new t rows a has m p window = by (cases_Bool (list_any (holds_page p) (dead rows)))
  where
    or-none : (b c : Bool) → c ≡ false → (b || c) ≡ b
    or-none true c is = refl
    or-none false c is = is

    by : (list_any (holds_page p) (dead rows) ≡ true) ⊎ (list_any (holds_page p) (dead rows) ≡ false) → is_mapped new t p ≡ list_any (holds_page p) (swept rows)
    by (inl gone) = ap is_some (m.gone p gone) ∙ sym (any-kept cleared keeps-cleared p (filter stays rows) ∙ one-side stays p rows a.apart a.bytes gone)
    by (inr none) =
        ap is_some (m.others t p (inr none)) ∙ has p window ∙ any-split stays p rows ∙ or-none (list_any (holds_page p) (filter stays rows)) (list_any (holds_page p) (dead rows)) none
        ∙ sym (any-kept cleared keeps-cleared p (filter stays rows))
