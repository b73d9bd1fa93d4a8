-- Runs of pages counted, and joined.
use Rattle.std.proofs.Common.{◌≡◌, ◌≢◌, ◌⊎◌, ◌∙◌, ℕ, zero, suc, ◌+◌, ◌<◌, ◌≤◌, Bool, true, false, ◌&&◌, cond, count_by, true≢false, Option, Some, None, refl, sym, ap, inl, inr, arith, leb, ltb}
use Rattle.std.specs.Prelude.{option_map, is_some}
use Rattle.std.proofs.lemmas.Bool.{cases_lt, cond-true, le-leb, lt-leb, le-ltb, lt-ltb, and_from}
use Rattle.page_tables.specs.declared.address.Window.{Window}
use Rattle.page_tables.specs.Address.{first_page, page_count}
use Rattle.cow_pages.specs.Memory.{Memory, Page, page_at, is_mapped, mapped_in, HasOneSharer, IsSound}
use Rattle.cow_pages.specs.Change.{MapsZeros}
use Rattle.cow_pages.specs.View.{numbers_from}
use Rattle.cow_pages.proofs.LawLemmas.{counts, count-same, count-none, count-joined}
use Rattle.cow_pages.proofs.OnlyLemmas.{own-stays}
use Rattle.page_runs.specs.Runs.{IsInRun, HasRun, MapsRun}
use Rattle.page_runs.proofs.RunLemmas.{beside-shorter, beside-later, frame-stays, run-only}

-- COUNTED

-- of the numbers of a range so many are those of a run in it
pub run-count : (first n a k : ℕ) → a ≤ first → first + n ≤ a + k → count_by (λ p. leb first p && ltb p (first + n)) (numbers_from a k) ≡ n
run-count first zero a k from to = count-same (λ p. false) (λ p. leb first p && ltb p (first + 0)) a k (λ p above below. none p (cases_lt p first)) ∙ count-none a k
  where
    none : (p : ℕ) → (p < first) ⊎ (first ≤ p) → (leb first p && ltb p (first + 0)) ≡ false
    none p (inl below) = ap (λ (b : Bool). b && ltb p (first + 0)) (lt-leb first p below)
    none p (inr from) = ap (λ (b : Bool). b && ltb p (first + 0)) (le-leb first p from) ∙ le-ltb p (first + 0) (omega (arith, from))
run-count first (suc n) a k from to =
    let f = λ (p : ℕ). leb first p && ltb p (first + n) in
    let g = λ (p : ℕ). leb first p && ltb p (first + suc n) in
    let none : f (first + n) ≡ false = ap (λ (b : Bool). b && ltb (first + n) (first + n)) (le-leb first (first + n) (omega arith)) ∙ le-ltb (first + n) (first + n) (omega arith) in
    let here : ◌≡◌ {A = ℕ} (cond (g (first + n)) 1 0) 1 =
    cond-true (g (first + n)) 1 0 (and_from _ _ (le-leb first (first + n) (omega arith)) (lt-ltb (first + n) (first + suc n) (omega arith))) in
    omega (
      arith,
      here,
      count-joined f g (first + n) a k (λ p apart. ap (λ (b : Bool). leb first p && b) (later p apart (cases_lt p (first + n)))) none (omega arith) (omega arith),
      run-count first n a k from (omega arith),
    )
  where
    later : (p : ℕ) → first + n ≢ p → (p < first + n) ⊎ (first + n ≤ p) → ltb p (first + suc n) ≡ ltb p (first + n)
    later p apart (inl below) = lt-ltb p (first + suc n) (omega (arith, below)) ∙ sym (lt-ltb p (first + n) below)
    later p apart (inr from) = le-ltb p (first + suc n) (omega (arith, from, apart)) ∙ sym (le-ltb p (first + n) from)

pub run-counted : (m : Memory) (t : ℕ) (w : Window) (first n : ℕ) → IsSound m → HasRun m t w first n → first_page w ≤ first → first + n ≤ first_page w + page_count w → mapped_in m t w ≡ n
run-counted m t w first n sound run from to =
    (counts m t w sound).mapped
    ∙ count-same (λ p. leb first p && ltb p (first + n)) (is_mapped m t) (first_page w) (page_count w)
    (λ p above below. run p (and_from _ _ (le-leb (first_page w) p above) (lt-ltb p (first_page w + page_count w) below)))
    ∙ run-count first n (first_page w) (page_count w) from to

-- JOINED

-- a page of two runs is one of the first or of the second
pub in-parts : (first n k p : ℕ) → IsInRun first (n + k) p → IsInRun first n p ⊎ IsInRun (first + n) k p
in-parts first n k p here = elim (cases_lt p (first + n)) [
  | inl below ↦ inl (record { from = here.from; to = below })
  | inr from ↦ inr (record { from = from; to = omega (arith, here.to) })
]

none-there : (o : Option Page) → is_some o ≡ false → o ≡ None
none-there None is = refl
none-there (Some page) is = absurd (true≢false is)

pub run-joined : (one two three : Memory) (t first n k : ℕ) → MapsRun one two t first n → MapsRun two three t (first + n) k → MapsRun one three t first (n + k)
run-joined one two three t first n k a b = record {
  fresh = λ p here. fresh p (in-parts first n k p here);
  zeros = λ p here. zeros p (in-parts first n k p here);
  alone = λ p here. alone p (in-parts first n k p here);
  others = λ u q apart. b.others u q (beside-later t first n k u q apart) ∙ a.others u q (beside-shorter t first n k u q apart);
  live = λ u. b.live u ∙ a.live u;
  reads = b.reads ∙ a.reads;
  spare = omega (arith, a.spare, b.spare);
  frames_stay = omega (arith, a.frames_stay, b.frames_stay);
  leaves_stay = omega (arith, a.leaves_stay, b.leaves_stay);
  frames = omega (arith, a.spare, a.frames, b.frames);
  leaf_count = omega (arith, a.spare, a.leaf_count, b.leaf_count);
  used = omega (arith, a.used, b.used);
}
  where
    before : (p : ℕ) → IsInRun (first + n) k p → page_at two t p ≡ page_at one t p
    before p here = a.others t p (inr (inr here.from))

    after : (p : ℕ) → IsInRun first n p → page_at three t p ≡ page_at two t p
    after p here = b.others t p (inr (inl here.to))

    fresh : (p : ℕ) → IsInRun first n p ⊎ IsInRun (first + n) k p → is_mapped one t p ≡ false
    fresh p (inl here) = a.fresh p here
    fresh p (inr here) = sym (ap is_some (before p here)) ∙ b.fresh p here

    zeros : (p : ℕ) → IsInRun first n p ⊎ IsInRun (first + n) k p → MapsZeros one three t p
    zeros p (inl here) = let z = a.zeros p here in record { frame = z.frame; frame_is = z.frame_is; now = after p here ∙ z.now }
    zeros p (inr here) =
        let z = b.zeros p here in
        record {
          frame = z.frame;
          frame_is = λ u q is. z.frame_is u q (frame-stays one two t first n (λ r at. none-there (page_at one t r) (a.fresh r at)) a.others u q z.frame is);
          now = z.now;
        }

    alone : (p : ℕ) → IsInRun first n p ⊎ IsInRun (first + n) k p → HasOneSharer three t p
    alone p (inl here) =
        let z = a.zeros p here in
        own-stays two three t p z.frame (run-only two three t (first + n) k b) (a.alone p here) (ap (option_map (λ (page : Page). page.frame)) (after p here ∙ z.now))
    alone p (inr here) = b.alone p here

-- GROWN

-- a window's run with the one that was mapped directly behind it
pub run-grown : (old new : Memory) (t : ℕ) (w : Window) (first n k : ℕ) → HasRun old t w first n → MapsRun old new t (first + n) k → HasRun new t w first (n + k)
run-grown old new t w first n k has maps p window = by (cases_lt p first) (cases_lt p (first + n)) (cases_lt p (first + (n + k)))
  where
    outside : (p < first) ⊎ (first + (n + k) ≤ p) → (leb first p && ltb p (first + (n + k))) ≡ false
    outside (inl below) = ap (λ (b : Bool). b && ltb p (first + (n + k))) (lt-leb first p below)
    outside (inr behind) = ap (λ (b : Bool). b && ltb p (first + (n + k))) (le-leb first p (omega (arith, behind))) ∙ le-ltb p (first + (n + k)) behind

    inside : first ≤ p → p < first + (n + k) → (leb first p && ltb p (first + (n + k))) ≡ true
    inside from to = and_from _ _ (le-leb first p from) (lt-ltb p (first + (n + k)) to)

    by : (p < first) ⊎ (first ≤ p) → (p < first + n) ⊎ (first + n ≤ p) → (p < first + (n + k)) ⊎ (first + (n + k) ≤ p)
        → is_mapped new t p ≡ (leb first p && ltb p (first + (n + k)))
    by (inl below) side end =
        ap is_some (maps.others t p (inr (inl (omega (arith, below))))) ∙ has p window ∙ ap (λ (b : Bool). b && ltb p (first + n)) (lt-leb first p below) ∙ sym (outside (inl below))
    by (inr from) (inl within) end =
        ap is_some (maps.others t p (inr (inl within))) ∙ has p window ∙ and_from _ _ (le-leb first p from) (lt-ltb p (first + n) within) ∙ sym (inside from (omega (arith, within)))
    by (inr from) (inr behind) (inl within) =
        ap is_some (maps.zeros p (record { from = behind; to = omega (arith, within) })).now ∙ sym (inside from within)
    by (inr from) (inr behind) (inr after) =
        ap is_some (maps.others t p (inr (inr (omega (arith, after))))) ∙ has p window
        ∙ (ap (λ (b : Bool). b && ltb p (first + n)) (le-leb first p from) ∙ le-ltb p (first + n) behind) ∙ sym (outside (inr after))
