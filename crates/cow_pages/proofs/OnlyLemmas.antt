-- What calls for one table change is that table alone.
use Rattle.std.proofs.Common.{◌≡◌, ◌≢◌, ◌⊎◌, ℕ, List, Option, Some, None, option_map, refl, sym, ap, subst, is_some, true≢false, IsTrue, ◌∙◌, inl, inr}
use Rattle.std.proofs.lemmas.Bool.{cases_eq}
use Rattle.std.proofs.lemmas.Option.{none-some, same_Some}
use Rattle.page_tables.specs.Address.{page_of}
use Rattle.cow_pages.specs.Memory.{Memory, Page, page_at, frame_at, is_live, is_mapped, HasOneSharer, IsFree}
use Rattle.cow_pages.specs.Change.{ChangesPage, ChangesTable, MapsZeros, WritesPage, KeepsOrCopies, settled}
use Rattle.cow_pages.proofs.LawLemmas.{one_from_free}
use Rattle.cow_pages.specs.Only.{OnlyTable}

pub other-frame : (old new : Memory) (t u q : ℕ) → OnlyTable old new t → u ≢ t → frame_at new u q ≡ frame_at old u q
other-frame old new t u q only apart = ap (option_map (λ (page : Page). page.frame)) (only.others u q apart)

-- an entry of the table that was alone and is still mapped is alone
pub own-stays : (old new : Memory) (t p f : ℕ) → OnlyTable old new t → HasOneSharer old t p → frame_at new t p ≡ Some f → HasOneSharer new t p
own-stays old new t p f only was now = by (only.own p f now)
  where
    by : (frame_at old t p ≡ Some f) ⊎ HasOneSharer new t p → HasOneSharer new t p
    by (inr alone) = alone
    by (inl had) = λ u q same. by_table u q (same ∙ now) (cases_eq u t)
      where
        by_own : (q : ℕ) → frame_at new t q ≡ Some f → (frame_at old t q ≡ Some f) ⊎ HasOneSharer new t q → q ≡ p
        by_own q is (inl kept) = (was t q (kept ∙ sym had)).1
        by_own q is (inr alone) = sym (alone t p (now ∙ sym is)).1

        by_table : (u q : ℕ) → frame_at new u q ≡ Some f → (u ≡ t) ⊎ (u ≢ t) → (u ≡ t) × (q ≡ p)
        by_table u q is (inr apart) = was u q (sym (other-frame old new t u q only apart) ∙ is ∙ sym had)
        by_table u q is (inl equal) =
            let here : frame_at new t q ≡ Some f = ap (λ n. frame_at new n q) (sym equal) ∙ is in
            (equal, by_own q here (only.own q f here))

-- and so is an entry of another table
pub other-stays : (old new : Memory) (t u p f : ℕ) → OnlyTable old new t → u ≢ t → HasOneSharer old u p → frame_at new u p ≡ Some f → HasOneSharer new u p
other-stays old new t u p f only apart was now v q same = by_table v q (same ∙ now) (cases_eq v t)
  where
    had : frame_at old u p ≡ Some f
    had = sym (other-frame old new t u p only apart) ∙ now

    by_own : (q : ℕ) → frame_at new t q ≡ Some f → (frame_at old t q ≡ Some f) ⊎ HasOneSharer new t q → ⊥
    by_own q is (inl kept) = apart (sym (was t q (kept ∙ sym had)).0)
    by_own q is (inr alone) = apart (alone u p (now ∙ sym is)).0

    by_table : (v q : ℕ) → frame_at new v q ≡ Some f → (v ≡ t) ⊎ (v ≢ t) → (v ≡ u) × (q ≡ p)
    by_table v q is (inr aside) = was v q (sym (other-frame old new t v q only aside) ∙ is ∙ sym had)
    by_table v q is (inl equal) =
        let here : frame_at new t q ≡ Some f = ap (λ n. frame_at new n q) (sym equal) ∙ is in
        absurd (by_own q here (only.own q f here))

-- an entry that was alone and is still mapped is alone, whichever table changed
pub alone-stays : (old new : Memory) (t u p f : ℕ) → OnlyTable old new t → HasOneSharer old u p → frame_at new u p ≡ Some f → HasOneSharer new u p
alone-stays old new t u p f only was now = elim (cases_eq u t) [
  | inl equal ↦ subst (λ n. HasOneSharer new n p) (sym equal)
      (own-stays old new t p f only (subst (λ n. HasOneSharer old n p) equal was) (ap (λ n. frame_at new n p) (sym equal) ∙ now))
  | inr apart ↦ other-stays old new t u p f only apart was now
]

-- a table that changed apart from this entry, and has its frame nowhere, leaves it alone
pub aside-stays : (old new : Memory) (t u p : ℕ) → ChangesTable old new t → u ≢ t → ((q : ℕ) → frame_at new t q ≢ frame_at new u p) → HasOneSharer old u p → HasOneSharer new u p
aside-stays old new t u p rest apart nowhere was v q same = by_table (cases_eq v t)
  where
    as_before : (w r : ℕ) → w ≢ t → frame_at new w r ≡ frame_at old w r
    as_before w r aside = ap (option_map (λ (page : Page). page.frame)) (rest.others w r aside)

    by_table : (v ≡ t) ⊎ (v ≢ t) → (v ≡ u) × (q ≡ p)
    by_table (inr aside) = was v q (sym (as_before v q aside) ∙ same ∙ as_before u p apart)
    by_table (inl equal) = absurd (nowhere q (ap (λ n. frame_at new n q) (sym equal) ∙ same))

-- where another table ended
pub ended-stays : (old new : Memory) (t u p : ℕ) → ChangesTable old new t → ((q : ℕ) → page_at new t q ≡ None) → IsTrue (is_mapped new u p) → HasOneSharer old u p → HasOneSharer new u p
ended-stays old new t u p rest none mapped = aside-stays old new t u p rest apart (λ q same. nothing (page_at new u p) mapped (sym same ∙ ap (option_map (λ (page : Page). page.frame)) (none q)))
  where
    apart : u ≢ t
    apart equal = true≢false (sym mapped ∙ ap (λ n. is_mapped new n p) equal ∙ ap is_some (none p))

    nothing : (o : Option Page) → IsTrue (is_some o) → option_map (λ (page : Page). page.frame) o ≡ None → ⊥
    nothing None is same = true≢false (sym is)
    nothing (Some page) is same = none-some page.frame (sym same)

-- where a table joined with the pages of another
pub forked-stays : (old new : Memory) (t v u p : ℕ) → ChangesTable old new v → ((q : ℕ) → page_at new v q ≡ page_at old t q) → u ≢ t → u ≢ v → IsTrue (is_mapped old u p) → HasOneSharer old u p → HasOneSharer new u p
forked-stays old new t v u p rest copied aside apart mapped was = aside-stays old new v u p rest apart (λ q same.
    aside (sym (was t q (sym (ap (option_map (λ (page : Page). page.frame)) (copied q)) ∙ same ∙ ap (option_map (λ (page : Page). page.frame)) (rest.others u p apart))).0)) was

pub only-refl : (m : Memory) (t : ℕ) → OnlyTable m m t
only-refl m t = record { others = λ u q apart. refl; live = λ u. refl; own = λ p f is. inl is }

pub only-trans : (one two three : Memory) (t : ℕ) → OnlyTable one two t → OnlyTable two three t → OnlyTable one three t
only-trans one two three t x y = record {
  others = λ u q apart. y.others u q apart ∙ x.others u q apart;
  live = λ u. y.live u ∙ x.live u;
  own = λ p f is. by p f is (y.own p f is);
}
  where
    by_first : (p f : ℕ) → frame_at three t p ≡ Some f → (frame_at one t p ≡ Some f) ⊎ HasOneSharer two t p → (frame_at one t p ≡ Some f) ⊎ HasOneSharer three t p
    by_first p f is (inl had) = inl had
    by_first p f is (inr alone) = inr (own-stays two three t p f y alone is)

    by : (p f : ℕ) → frame_at three t p ≡ Some f → (frame_at two t p ≡ Some f) ⊎ HasOneSharer three t p → (frame_at one t p ≡ Some f) ⊎ HasOneSharer three t p
    by p f is (inl had) = by_first p f is (x.own p f had)
    by p f is (inr alone) = inr alone

-- a change of one page whose frame is as it was, or was free, changes only its table
pub only-page : (old new : Memory) (t p : ℕ) → ChangesPage old new t p → ((f : ℕ) → frame_at new t p ≡ Some f → (frame_at old t p ≡ Some f) ⊎ IsFree old f) → OnlyTable old new t
only-page old new t p rest from = record {
  others = λ u q apart. rest.others u q (inl apart);
  live = rest.live;
  own = λ q f is. by_page q f is (cases_eq q p);
}
  where
    here : (f : ℕ) → frame_at new t p ≡ Some f → (frame_at old t p ≡ Some f) ⊎ IsFree old f → (frame_at old t p ≡ Some f) ⊎ HasOneSharer new t p
    here f is (inl had) = inl had
    here f is (inr free) = inr (one_from_free old new t p f rest free is)

    by_page : (q f : ℕ) → frame_at new t q ≡ Some f → (q ≡ p) ⊎ (q ≢ p) → (frame_at old t q ≡ Some f) ⊎ HasOneSharer new t q
    by_page q f is (inr apart) = inl (sym (ap (option_map (λ (page : Page). page.frame)) (rest.others t q (inr apart))) ∙ is)
    by_page q f is (inl equal) =
        let at : frame_at new t p ≡ Some f = ap (frame_at new t) (sym equal) ∙ is in
        subst (λ n. (frame_at old t n ≡ Some f) ⊎ HasOneSharer new t n) (sym equal) (here f at (from f at))

-- map_zero
pub only-mapped : (old new : Memory) (t p : ℕ) → ChangesPage old new t p → MapsZeros old new t p → OnlyTable old new t
only-mapped old new t p rest zeros = only-page old new t p rest (λ f is.
    let same : zeros.frame ≡ f = same_Some zeros.frame f (sym (ap (option_map (λ (page : Page). page.frame)) zeros.now) ∙ is) in
    inr (subst (IsFree old) same zeros.frame_is))

-- a write
pub only-written : (old new : Memory) (t at : ℕ) (bytes : List ℕ) → WritesPage old new t at bytes → OnlyTable old new t
only-written old new t at bytes w = only-page old new t (page_of at) w.rest (λ f is.
    let same : w.frame ≡ f = same_Some w.frame f (sym (ap (option_map (λ (page : Page). page.frame)) w.now) ∙ is) in
    by f same w.frame_is)
  where
    by : (f : ℕ) → w.frame ≡ f → KeepsOrCopies old t (page_of at) w.frame → (frame_at old t (page_of at) ≡ Some f) ⊎ IsFree old f
    by f same (inl kept) = inl (kept.1 ∙ ap Some same)
    by f same (inr copied) = inr (subst (IsFree old) same copied.1)

-- a release
pub only-released : (old new : Memory) (t p : ℕ) → ChangesPage old new t p → page_at new t p ≡ None → OnlyTable old new t
only-released old new t p rest none = only-page old new t p rest (λ f is. absurd (none-some f (sym (ap (option_map (λ (page : Page). page.frame)) none) ∙ is)))

-- a read
pub only-read : (old new : Memory) (t n : ℕ) → new ≡ record old { reads = n } → OnlyTable old new t
only-read old new t n is = subst (λ (m : Memory). OnlyTable old m t) (sym is) (record { others = λ u q apart. refl; live = λ u. refl; own = λ p f same. inl same })

-- a settle
pub only-settled : (old new : Memory) (t : ℕ) → ChangesTable old new t → ((u : ℕ) → is_live new u ≡ is_live old u) → ((p : ℕ) → page_at new t p ≡ settled (page_at old t p)) → OnlyTable old new t
only-settled old new t rest live pages = record { others = rest.others; live = live; own = λ p f is. inl (sym (frame p) ∙ is) }
  where
    settled-frame : (o : Option Page) → option_map (λ (page : Page). page.frame) (settled o) ≡ option_map (λ (page : Page). page.frame) o
    settled-frame None = refl
    settled-frame (Some page) = refl

    frame : (p : ℕ) → frame_at new t p ≡ frame_at old t p
    frame p = ap (option_map (λ (page : Page). page.frame)) (pages p) ∙ settled-frame (page_at old t p)

-- a write into a page that is alone keeps its frame
pub write-alone : (old new : Memory) (t at : ℕ) (bytes : List ℕ) → WritesPage old new t at bytes → HasOneSharer old t (page_of at) → frame_at new t (page_of at) ≡ frame_at old t (page_of at)
write-alone old new t at bytes w alone = by w.frame_is
  where
    by : KeepsOrCopies old t (page_of at) w.frame → frame_at new t (page_of at) ≡ frame_at old t (page_of at)
    by (inl kept) = ap (option_map (λ (page : Page). page.frame)) w.now ∙ sym kept.1
    by (inr copied) = let u = copied.0 in absurd (u.1 (alone u.0 (page_of at) u.2).0)

-- a reserve
pub only-reserved : (old new : Memory) (t : ℕ) → new ≡ record old { frames = new.frames; leaf_count = new.leaf_count; spare = new.spare } → OnlyTable old new t
only-reserved old new t is =
    subst (λ (m : Memory). OnlyTable old m t) (sym is) (record { others = λ u q apart. refl; live = λ u. refl; own = λ p f same. inl same })

-- a settle of a live table
pub only-settled_live : (old new : Memory) (t : ℕ) → ChangesTable old new t → IsTrue (is_live old t) → IsTrue (is_live new t) → ((p : ℕ) → page_at new t p ≡ settled (page_at old t p)) → OnlyTable old new t
only-settled_live old new t rest was live pages = only-settled old new t rest (λ u. elim (cases_eq u t) [
  | inl here ↦ ap (is_live new) here ∙ live ∙ sym (ap (is_live old) here ∙ was)
  | inr apart ↦ rest.live u apart
]) pages
