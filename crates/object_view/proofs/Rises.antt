-- Counts of reads add up.
use Rattle.std.proofs.Common.{◌≡◌, ◌∙◌, ℕ, ◌+◌, ◌*◌, ◌/◌, ◌<◌, ◌≤◌, Bool, true, false, cond, List, [], ◌∷◌, ◌++◌, nat_le, nat_lt, refl, sym, ap, subst, arith}
use Rattle.std.specs.Prelude.{min, ◌-◌, ◌^◌, ◌&&◌, ◌||◌}
use Rattle.std.specs.List.{count_by}
use Rattle.std.proofs.lemmas.Bool.{le-leb, leb-true, lt-ltb, ltb-true}
use Rattle.std.proofs.lemmas.List.Sums.{sum_by-cons}
use Rattle.model_numbers.specs.Numbers.{image_base, image_length, zygote_base, zygote_length, page_bytes}
use Rattle.page_tables.specs.Address.{is_immune, page_of}
use Rattle.cow_pages.specs.Change.{reads_after}
use Rattle.object_view.specs.Changes.{reads_after_all}
use Rattle.object_view.specs.Seen.{is_in_window, RoseBy}

pub rose-none : (now : ℕ) → RoseBy 0 now now
rose-none now = record { never_falls = omega arith; most = omega arith }

pub rose-both : (a b before mid now : ℕ) → RoseBy a before mid → RoseBy b mid now → RoseBy (a + b) before now
rose-both a b before mid now f g =
    let f1 = f.never_falls in let f2 = f.most in let g1 = g.never_falls in let g2 = g.most in
    record { never_falls = omega arith; most = omega arith }

pub rose-more : (a b before now : ℕ) → a ≤ b → RoseBy a before now → RoseBy b before now
rose-more a b before now le f =
    let f1 = f.never_falls in let f2 = f.most in
    record { never_falls = f1; most = omega arith }

-- one more, up to a last value
one-more : (last now : ℕ) → now ≤ last → RoseBy 1 now (min (now + 1) last) × (min (now + 1) last ≤ last)
one-more last now le = (record { never_falls = omega arith; most = omega arith }, omega arith)

-- one read
one-read : (now at : ℕ) → now < 2 ^ 64 → RoseBy (cond (is_immune at) 1 0) now (reads_after now at) × (reads_after now at < 2 ^ 64)
one-read now at less = by (is_immune at)
  where
    by : (b : Bool) → RoseBy (cond b 1 0) now (cond b (min (now + 1) (2 ^ 64 - 1)) now) × (cond b (min (now + 1) (2 ^ 64 - 1)) now < 2 ^ 64)
    by true = let r = one-more (2 ^ 64 - 1) now (omega (arith, less)) in (r.0, omega (arith, r.1))
    by false = (rose-none now, less)

pub reads-fit : (now : ℕ) (ats : List ℕ) → now < 2 ^ 64 → reads_after_all now ats < 2 ^ 64
reads-fit now [] less = less
reads-fit now (at ∷ ats) less = reads-fit (reads_after now at) ats (one-read now at less).1

pub reads-rise : (now : ℕ) (ats : List ℕ) → now < 2 ^ 64 → RoseBy (count_by is_immune ats) now (reads_after_all now ats)
reads-rise now [] less = rose-none now
reads-rise now (at ∷ ats) less =
    let one = one-read now at less in
    subst (λ n. RoseBy n now (reads_after_all (reads_after now at) ats)) (sym (sum_by-cons (λ x. cond (is_immune x) 1 0) at ats))
    (rose-both (cond (is_immune at) 1 0) (count_by is_immune ats) now (reads_after now at) (reads_after_all (reads_after now at) ats) one.0 (reads-rise (reads_after now at) ats one.1))

pub reads-joined : (now : ℕ) (first then : List ℕ) → reads_after_all now (first ++ then) ≡ reads_after_all (reads_after_all now first) then
reads-joined now [] then = refl
reads-joined now (at ∷ first) then = reads-joined (reads_after now at) first then

same-test : (a b : Bool) → (a ≡ true → b ≡ true) → (b ≡ true → a ≡ true) → a ≡ b
same-test true b f g = sym (f refl)
same-test false true f g = g refl
same-test false false f g = refl

-- an address is behind a page's first byte exactly where its page is that one or behind it
page-le : (k at : ℕ) → nat_le k (at / 4096) ≡ nat_le (k * 4096) at
page-le k at = same-test _ _ (λ e. le-leb (k * 4096) at (omega (arith, leb-true k (at / 4096) e))) (λ e. le-leb k (at / 4096) (omega (arith, leb-true (k * 4096) at e)))

page-lt : (k at : ℕ) → nat_lt (at / 4096) k ≡ nat_lt at (k * 4096)
page-lt k at = same-test _ _ (λ e. lt-ltb at (k * 4096) (omega (arith, ltb-true (at / 4096) k e))) (λ e. lt-ltb (at / 4096) k (omega (arith, ltb-true at (k * 4096) e)))

-- the windows by pages are those by addresses
pub immune-window : (at : ℕ) → is_immune at ≡ is_in_window at
immune-window at =
    let image : ℕ = image_base / page_bytes in
    let zygote : ℕ = zygote_base / page_bytes in
    let image_end : ℕ = image + image_length / page_bytes in
    let zygote_end : ℕ = zygote + zygote_length / page_bytes in
    ap (λ b. (b && nat_lt (page_of at) image_end) || (nat_le zygote (page_of at) && nat_lt (page_of at) zygote_end)) (page-le image at)
    ∙ ap (λ b. (nat_le image_base at && b) || (nat_le zygote (page_of at) && nat_lt (page_of at) zygote_end)) (page-lt image_end at)
    ∙ ap (λ b. (nat_le image_base at && nat_lt at (image_base + image_length)) || (b && nat_lt (page_of at) zygote_end)) (page-le zygote at)
    ∙ ap (λ b. (nat_le image_base at && nat_lt at (image_base + image_length)) || (nat_le zygote_base at && b)) (page-lt zygote_end at)
