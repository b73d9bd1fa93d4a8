-- Windows, and a count for each of them.
use Rattle.std.proofs.Common.{◌≡◌, ℕ, ◌+◌, ◌*◌, ◌-◌, ◌<◌, ◌≤◌, Bool, true, false, cond, ltb, leb, ◌&&◌, ◌||◌, IsTrue, refl, sym, ap, ◌∙◌, true≢false, ◌⊎◌, inl, inr, arith}
use Rattle.std.proofs.lemmas.Bool.{ltb-true, leb-true, and_left, and_right, and_from, and_parts, cond-true, cond-false, le-leb, lt-ltb, le-ltb}
use Rattle.page_tables.specs.declared.address.Window.{Window}
use Rattle.page_tables.specs.declared.address.Window.TheVariants.{Image, Zygote, Regions, Large}
use Rattle.page_tables.specs.declared.table.Counts.{Counts}
use Rattle.page_tables.specs.Address.{is_in, is_in_window, is_immune, page_of}
use Rattle.page_tables.specs.Counts.{count_in, with_count, no_counts}
use Rattle.page_tables.specs.Tables.{window_of}

-- whether two windows are the same
abbrev pub same_window : Window → Window → Bool
same_window Image Image = true
same_window Image Zygote = false
same_window Image Regions = false
same_window Image Large = false
same_window Zygote Image = false
same_window Zygote Zygote = true
same_window Zygote Regions = false
same_window Zygote Large = false
same_window Regions Image = false
same_window Regions Zygote = false
same_window Regions Regions = true
same_window Regions Large = false
same_window Large Image = false
same_window Large Zygote = false
same_window Large Regions = false
same_window Large Large = true

pub same_window-true : (v w : Window) → same_window v w ≡ true → v ≡ w
same_window-true Image Image is = refl
same_window-true Image Zygote is = absurd (true≢false (sym is))
same_window-true Image Regions is = absurd (true≢false (sym is))
same_window-true Image Large is = absurd (true≢false (sym is))
same_window-true Zygote Image is = absurd (true≢false (sym is))
same_window-true Zygote Zygote is = refl
same_window-true Zygote Regions is = absurd (true≢false (sym is))
same_window-true Zygote Large is = absurd (true≢false (sym is))
same_window-true Regions Image is = absurd (true≢false (sym is))
same_window-true Regions Zygote is = absurd (true≢false (sym is))
same_window-true Regions Regions is = refl
same_window-true Regions Large is = absurd (true≢false (sym is))
same_window-true Large Image is = absurd (true≢false (sym is))
same_window-true Large Zygote is = absurd (true≢false (sym is))
same_window-true Large Regions is = absurd (true≢false (sym is))
same_window-true Large Large is = refl

pub count-with : (c : Counts) (v w : Window) (n : ℕ) → count_in (with_count c v n) w ≡ cond (same_window v w) n (count_in c w)
count-with c Image Image n = refl
count-with c Image Zygote n = refl
count-with c Image Regions n = refl
count-with c Image Large n = refl
count-with c Zygote Image n = refl
count-with c Zygote Zygote n = refl
count-with c Zygote Regions n = refl
count-with c Zygote Large n = refl
count-with c Regions Image n = refl
count-with c Regions Zygote n = refl
count-with c Regions Regions n = refl
count-with c Regions Large n = refl
count-with c Large Image n = refl
count-with c Large Zygote n = refl
count-with c Large Regions n = refl
count-with c Large Large n = refl

pub is_in_yes : (low high n : ℕ) → low ≤ n → n < high → (leb low n && ltb n high) ≡ true
is_in_yes low high n above below = and_from _ _ (le-leb low n above) (lt-ltb n high below)

pub is_in_past : (low high n : ℕ) → high ≤ n → (leb low n && ltb n high) ≡ false
is_in_past low high n past = and_right (leb low n) (ltb n high) (le-ltb n high past)

pub is_in_below : (low high n : ℕ) → n < low → (leb low n && ltb n high) ≡ false
is_in_below low high n below = and_left (leb low n) (ltb n high) (lt-leb_false low n below)
  where
    lt-leb_false : (a b : ℕ) → b < a → leb a b ≡ false
    lt-leb_false a b lt = grind arith

pub in_bounds : (low high n : ℕ) → (leb low n && ltb n high) ≡ true → (low ≤ n) × (n < high)
in_bounds low high n is = let both = and_parts (leb low n) (ltb n high) is in (leb-true low n both.0, ltb-true n high both.1)

pub or_cases : (a b : Bool) → (a || b) ≡ true → (a ≡ true) ⊎ (b ≡ true)
or_cases true b is = inl refl
or_cases false b is = inr is

-- a page of a window lies in its own window alone
pub in_own : (p : ℕ) → IsTrue (is_in_window p) → (w : Window) → is_in w p ≡ same_window (window_of p) w
in_own p is = elim (or_cases _ (is_in Large p) is) [
  | inl rest ↦ elim (or_cases _ (is_in Regions p) rest) [
    | inl two ↦ elim (or_cases (is_in Image p) (is_in Zygote p) two) [
      | inl one ↦ let at = in_bounds 0x20000 0x24000 p one in image at.0 at.1
      | inr one ↦ let at = in_bounds 0x30000 0x40000 p one in zygote at.0 at.1
    ]
    | inr one ↦ let at = in_bounds 0x40000 0x50000 p one in regions at.0 at.1
  ]
  | inr one ↦ let at = in_bounds 0x80000 0xa0000 p one in large at.0 at.1
]
  where
    image : 0x20000 ≤ p → p < 0x24000 → (w : Window) → is_in w p ≡ same_window (window_of p) w
    image low high w = is_image w ∙ ap (λ v. same_window v w) (sym (cond-true (ltb p 0x30000) Image _ (lt-ltb p 0x30000 (omega arith))))
      where
        is_image : (w : Window) → is_in w p ≡ same_window Image w
        is_image Image = is_in_yes 0x20000 0x24000 p low high
        is_image Zygote = is_in_below 0x30000 0x40000 p (omega arith)
        is_image Regions = is_in_below 0x40000 0x50000 p (omega arith)
        is_image Large = is_in_below 0x80000 0xa0000 p (omega arith)

    zygote : 0x30000 ≤ p → p < 0x40000 → (w : Window) → is_in w p ≡ same_window (window_of p) w
    zygote low high w = is_zygote w ∙ ap (λ v. same_window v w) (sym (cond-false (ltb p 0x30000) Image _ (le-ltb p 0x30000 low) ∙ cond-true (ltb p 0x40000) Zygote _ (lt-ltb p 0x40000 high)))
      where
        is_zygote : (w : Window) → is_in w p ≡ same_window Zygote w
        is_zygote Image = is_in_past 0x20000 0x24000 p (omega arith)
        is_zygote Zygote = is_in_yes 0x30000 0x40000 p low high
        is_zygote Regions = is_in_below 0x40000 0x50000 p (omega arith)
        is_zygote Large = is_in_below 0x80000 0xa0000 p (omega arith)

    regions : 0x40000 ≤ p → p < 0x50000 → (w : Window) → is_in w p ≡ same_window (window_of p) w
    regions low high w =
        is_regions w
        ∙ ap (λ v. same_window v w) (sym (cond-false (ltb p 0x30000) Image _ (le-ltb p 0x30000 (omega arith)) ∙ cond-false (ltb p 0x40000) Zygote _ (le-ltb p 0x40000 low) ∙ cond-true (ltb p 0x80000) Regions _ (lt-ltb p 0x80000 (omega arith))))
      where
        is_regions : (w : Window) → is_in w p ≡ same_window Regions w
        is_regions Image = is_in_past 0x20000 0x24000 p (omega arith)
        is_regions Zygote = is_in_past 0x30000 0x40000 p (omega arith)
        is_regions Regions = is_in_yes 0x40000 0x50000 p low high
        is_regions Large = is_in_below 0x80000 0xa0000 p (omega arith)

    large : 0x80000 ≤ p → p < 0xa0000 → (w : Window) → is_in w p ≡ same_window (window_of p) w
    large low high w =
        is_large w
        ∙ ap (λ v. same_window v w) (sym (cond-false (ltb p 0x30000) Image _ (le-ltb p 0x30000 (omega arith)) ∙ cond-false (ltb p 0x40000) Zygote _ (le-ltb p 0x40000 (omega arith)) ∙ cond-false (ltb p 0x80000) Regions _ (le-ltb p 0x80000 low)))
      where
        is_large : (w : Window) → is_in w p ≡ same_window Large w
        is_large Image = is_in_past 0x20000 0x24000 p (omega arith)
        is_large Zygote = is_in_past 0x30000 0x40000 p (omega arith)
        is_large Regions = is_in_past 0x40000 0x50000 p (omega arith)
        is_large Large = is_in_yes 0x80000 0xa0000 p low high

pub same_window-same : (v : Window) → same_window v v ≡ true
same_window-same Image = refl
same_window-same Zygote = refl
same_window-same Regions = refl
same_window-same Large = refl

pub count-none : (w : Window) → count_in no_counts w ≡ 0
count-none Image = refl
count-none Zygote = refl
count-none Regions = refl
count-none Large = refl

-- a count of a window after one went and another came, as it was before both
pub recounted : (c mid new : Counts) (v w : Window) (gone came here there : ℕ) → gone ≤ count_in c v → mid ≡ with_count c v (count_in c v - gone) → new ≡ with_count mid v (count_in mid v + came)
    → here ≡ cond (same_window v w) gone 0 → there ≡ cond (same_window v w) came 0 → count_in new w + here ≡ count_in c w + there
recounted c mid new v w gone came here there fits less more here_is there_is = by_window (same_window v w) refl
  where
    at_v : count_in mid v ≡ count_in c v - gone
    at_v = ap (λ (it : Counts). count_in it v) less ∙ count-with c v v (count_in c v - gone) ∙ cond-true {A = ℕ} (same_window v v) (count_in c v - gone) (count_in c v) (same_window-same v)

    by_window : (b : Bool) → same_window v w ≡ b → count_in new w + here ≡ count_in c w + there
    by_window true is =
        let same = ap (count_in c) (same_window-true v w is) in
        omega (
          arith,
          ap (λ (it : Counts). count_in it w) more,
          count-with mid v w (count_in mid v + came),
          cond-true {A = ℕ} (same_window v w) (count_in mid v + came) (count_in mid w) is,
          at_v,
          same,
          fits,
          here_is,
          there_is,
          cond-true {A = ℕ} (same_window v w) gone 0 is,
          cond-true {A = ℕ} (same_window v w) came 0 is,
        )
    by_window false is =
        omega (
          arith,
          ap (λ (it : Counts). count_in it w) more,
          count-with mid v w (count_in mid v + came),
          cond-false {A = ℕ} (same_window v w) (count_in mid v + came) (count_in mid w) is,
          ap (λ (it : Counts). count_in it w) less,
          count-with c v w (count_in c v - gone),
          cond-false {A = ℕ} (same_window v w) (count_in c v - gone) (count_in c w) is,
          here_is,
          there_is,
          cond-false {A = ℕ} (same_window v w) gone 0 is,
          cond-false {A = ℕ} (same_window v w) came 0 is,
        )

-- a page of a window is below the end of all addresses
pub window_below : (p : ℕ) → IsTrue (is_in_window p) → p < 1024 * 1024
window_below p is = elim (or_cases _ (is_in Large p) is) [
  | inl rest ↦ elim (or_cases _ (is_in Regions p) rest) [
    | inl two ↦ elim (or_cases (is_in Image p) (is_in Zygote p) two) [
      | inl one ↦ let at = in_bounds 0x20000 0x24000 p one in omega (arith, at.1)
      | inr one ↦ let at = in_bounds 0x30000 0x40000 p one in omega (arith, at.1)
    ]
    | inr one ↦ let at = in_bounds 0x40000 0x50000 p one in omega (arith, at.1)
  ]
  | inr one ↦ let at = in_bounds 0x80000 0xa0000 p one in omega (arith, at.1)
]

-- an address of a window is one where reads are counted exactly where it lies below the regions
pub immune-below : (at : ℕ) → IsTrue (is_in_window (page_of at)) → is_immune at ≡ ltb (page_of at) 0x40000
immune-below at is = by (page_of at) is
  where
    by : (p : ℕ) → IsTrue (is_in_window p) → (is_in Image p || is_in Zygote p) ≡ ltb p 0x40000
    by p is = elim (or_cases _ (is_in Large p) is) [
      | inl rest ↦ elim (or_cases _ (is_in Regions p) rest) [
        | inl two ↦ elim (or_cases (is_in Image p) (is_in Zygote p) two) [
          | inl one ↦ let at = in_bounds 0x20000 0x24000 p one in two ∙ sym (lt-ltb p 0x40000 (omega (arith, at.1)))
          | inr one ↦ let at = in_bounds 0x30000 0x40000 p one in two ∙ sym (lt-ltb p 0x40000 at.1)
        ]
        | inr one ↦ let at = in_bounds 0x40000 0x50000 p one in past p at.0
      ]
      | inr one ↦ let at = in_bounds 0x80000 0xa0000 p one in past p (omega (arith, at.0))
    ]
      where
        past : (p : ℕ) → 0x40000 ≤ p → (is_in Image p || is_in Zygote p) ≡ ltb p 0x40000
        past p above = grind (arith, is_in_past 0x20000 0x24000 p (omega (arith, above)), is_in_past 0x30000 0x40000 p above, le-ltb p 0x40000 above)
