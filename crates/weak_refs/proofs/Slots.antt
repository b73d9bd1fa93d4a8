-- Slots of 4 bytes, and which bytes and pages they take.
use Rattle.std.proofs.Common.{cond, ◌≡◌, ◌≢◌, ◌⊎◌, ◌∙◌, ℕ, zero, suc, ◌+◌, ◌%◌, ◌<◌, ◌≤◌, Bool, true, false, true≢false, ◌&&◌, ◌||◌, nat_le, nat_lt, List, [], ◌∷◌, ◌++◌, length, get_or, refl, sym, ap, inl, inr, arith, eq-eqb}
use Rattle.std.specs.Prelude.{◌==◌}
use Rattle.std.specs.List.{list_any, filter, All}
use Rattle.std.proofs.lemmas.Bool.{cases_eq, cases_lt, lt-ltb, le-ltb, le-leb, lt-leb, ne_eqb, and_right, or_left, or_right}
use Rattle.std.proofs.lemmas.List.Folds.{list_any-append}
use Rattle.class_layout.specs.declared.kind.Kind.TheVariants.{Ref}
use Rattle.page_tables.specs.Address.{page_of}
use Rattle.cow_pages.specs.View.{View, u32_at}
use Rattle.object_view.proofs.Numbers.{number-same, number-zero}
use Rattle.weak_refs.specs.Weak.{is_byte_of, is_page_of, shared_pages}

pub cond-or : (d e : Bool) (n : ℕ) → cond e 0 (cond d 0 n) ≡ cond {A = ℕ} (d || e) 0 n
cond-or true true n = refl
cond-or true false n = refl
cond-or false e n = refl

pub out-of-slot : (x b : ℕ) → (b < x) ⊎ (x + 4 ≤ b) → (nat_le x b && nat_lt b (x + 4)) ≡ false
out-of-slot x b (inl below) = ap (λ t. t && nat_lt b (x + 4)) (lt-leb x b below)
out-of-slot x b (inr above) = and_right (nat_le x b) (nat_lt b (x + 4)) (le-ltb b (x + 4) above)

pub in-slot : (x b : ℕ) → x ≤ b → b < x + 4 → (nat_le x b && nat_lt b (x + 4)) ≡ true
in-slot x b low high = ap (λ t. t && nat_lt b (x + 4)) (le-leb x b low) ∙ lt-ltb b (x + 4) high

All-tail : (P : ℕ → Type 0) (x : ℕ) (xs : List ℕ) → All P (x ∷ xs) → All P xs
All-tail P x xs all k d below = all (suc k) d (omega arith)

module _ (p : ℕ → Bool) (at b : ℕ) (aligned : at % 4 ≡ 0) (low : at ≤ b) (high : b < at + 4) where
  other-slot : (x : ℕ) → x % 4 ≡ 0 → x ≢ at → (nat_le x b && nat_lt b (x + 4)) ≡ false
  other-slot x multiple apart = out-of-slot x b (elim (cases_lt b x) [ inl below ↦ inl below | inr above ↦ inr (omega (arith, aligned, multiple, low, high, above, apart)) ])

  -- a byte of a slot is none of the others'
  pub not-byte : (xs : List ℕ) → All (λ x. x % 4 ≡ 0) xs → All (λ x. (x ≢ at) ⊎ (p x ≡ false)) xs → is_byte_of (filter p xs) b ≡ false
  not-byte [] all none = refl
  not-byte (x ∷ xs) all none =
      let rest = not-byte xs (All-tail (λ x. x % 4 ≡ 0) x xs all) (All-tail (λ x. (x ≢ at) ⊎ (p x ≡ false)) x xs none) in
      by (p x) refl rest (elim (none 0 0 (omega arith)) [ inl apart ↦ inl (other-slot x (all 0 0 (omega arith)) apart) | inr out ↦ inr out ])
    where
      by : (d : Bool) → p x ≡ d → is_byte_of (filter p xs) b ≡ false → ((nat_le x b && nat_lt b (x + 4)) ≡ false) ⊎ (p x ≡ false) → is_byte_of (cond d (x ∷ filter p xs) (filter p xs)) b ≡ false
      by true is rest (inl out) = ap (λ t. t || is_byte_of (filter p xs) b) out ∙ rest
      by true is rest (inr out) = absurd (true≢false (sym is ∙ out))
      by false is rest either = rest

-- a slot of the list that passes one test passes another
pub any-kept : (f p : ℕ → Bool) (at : ℕ) (xs : List ℕ) (k : ℕ) → k < length xs → get_or xs k at ≡ at → p at ≡ true → f at ≡ true → list_any f (filter p xs) ≡ true
any-kept f p at [] k below is fits passes = absurd (omega arith)
any-kept f p at (x ∷ xs) zero below is fits passes =
    ap (λ d. list_any f (cond d (x ∷ filter p xs) (filter p xs))) (ap p is ∙ fits)
    ∙ or_left (f x) (list_any f (filter p xs)) (ap f is ∙ passes)
any-kept f p at (x ∷ xs) (suc k) below is fits passes = by (p x) (any-kept f p at xs k (omega arith) is fits passes)
  where
    by : (d : Bool) → list_any f (filter p xs) ≡ true → list_any f (cond d (x ∷ filter p xs) (filter p xs)) ≡ true
    by true rest = or_right (f x) (list_any f (filter p xs)) rest
    by false rest = rest

pub filter-none : (p : ℕ → Bool) (xs : List ℕ) → All (λ x. p x ≡ false) xs → filter p xs ≡ []
filter-none p [] none = refl
filter-none p (x ∷ xs) none = ap (λ d. cond d (x ∷ filter p xs) (filter p xs)) (none 0 0 (omega arith)) ∙ filter-none p xs (All-tail (λ x. p x ≡ false) x xs none)

-- equal bytes are an equal reference
pub u32-same : (v w : View) (at : ℕ) → ((i : ℕ) → i < 4 → w.byte (at + i) ≡ v.byte (at + i)) → u32_at w at ≡ u32_at v at
u32-same v w at same = number-same v w Ref at at same

pub u32-zero : (v : View) (at : ℕ) → ((i : ℕ) → i < 4 → v.byte (at + i) ≡ 0) → u32_at v at ≡ 0
u32-zero v at none = number-zero v Ref at none

-- one slot more lies in one page more, where none of the others and no page that is known does
same-page : (o d : Bool) (s : ℕ) → cond (o || (d || true)) 0 1 + (s + (cond ((o || d) || false) 0 1 + 0)) ≡ cond (o || d) 0 1 + s + (cond ((o || true) || false) 0 1 + 0)
same-page true d s = omega arith
same-page false true s = omega arith
same-page false false s = omega arith

other-page : (o d : Bool) (s n : ℕ) → cond (o || (d || false)) 0 1 + (s + n) ≡ cond (o || d) 0 1 + s + n
other-page true d s n = omega arith
other-page false true s n = omega arith
other-page false false s n = omega arith

first-page : (o : Bool) → cond {A = ℕ} (o || false) 0 1 + 0 ≡ 0 + (cond ((o || false) || false) 0 1 + 0)
first-page true = omega arith
first-page false = omega arith

module _ (own : ℕ → Bool) (at x : ℕ) (xs : List ℕ) where
  by-same : page_of at ≡ page_of x
      → cond (own (page_of x) || (is_page_of xs (page_of x) || ((page_of at == page_of x) || false))) 0 1 + (shared_pages own xs + (cond ((own (page_of at) || is_page_of xs (page_of at)) || false) 0 1 + 0))
      ≡ cond (own (page_of x) || is_page_of xs (page_of x)) 0 1 + shared_pages own xs + (cond ((own (page_of at) || ((page_of x == page_of at) || is_page_of xs (page_of at))) || false) 0 1 + 0)
  by-same same =
      ap (λ e. cond (own (page_of x) || (is_page_of xs (page_of x) || (e || false))) 0 1 + (shared_pages own xs + (cond ((own (page_of at) || is_page_of xs (page_of at)) || false) 0 1 + 0))) (eq-eqb (page_of at) (page_of x) same)
      ∙ ap (λ q. cond (own (page_of x) || (is_page_of xs (page_of x) || true)) 0 1 + (shared_pages own xs + (cond ((own q || is_page_of xs q) || false) 0 1 + 0))) same
      ∙ same-page (own (page_of x)) (is_page_of xs (page_of x)) (shared_pages own xs)
      ∙ sym (ap (λ q. cond (own (page_of x) || is_page_of xs (page_of x)) 0 1 + shared_pages own xs + (cond ((own q || true) || false) 0 1 + 0)) same)
      ∙ sym (ap (λ e. cond (own (page_of x) || is_page_of xs (page_of x)) 0 1 + shared_pages own xs + (cond ((own (page_of at) || (e || is_page_of xs (page_of at))) || false) 0 1 + 0)) (eq-eqb (page_of x) (page_of at) (sym same)))

  by-apart : page_of at ≢ page_of x
      → cond (own (page_of x) || (is_page_of xs (page_of x) || ((page_of at == page_of x) || false))) 0 1 + (shared_pages own xs + (cond ((own (page_of at) || is_page_of xs (page_of at)) || false) 0 1 + 0))
      ≡ cond (own (page_of x) || is_page_of xs (page_of x)) 0 1 + shared_pages own xs + (cond ((own (page_of at) || ((page_of x == page_of at) || is_page_of xs (page_of at))) || false) 0 1 + 0)
  by-apart apart =
      ap (λ e. cond (own (page_of x) || (is_page_of xs (page_of x) || (e || false))) 0 1 + (shared_pages own xs + (cond ((own (page_of at) || is_page_of xs (page_of at)) || false) 0 1 + 0))) (ne_eqb (page_of at) (page_of x) apart)
      ∙ other-page (own (page_of x)) (is_page_of xs (page_of x)) (shared_pages own xs) (cond ((own (page_of at) || is_page_of xs (page_of at)) || false) 0 1 + 0)
      ∙ sym (ap (λ e. cond (own (page_of x) || is_page_of xs (page_of x)) 0 1 + shared_pages own xs + (cond ((own (page_of at) || (e || is_page_of xs (page_of at))) || false) 0 1 + 0)) (ne_eqb (page_of x) (page_of at) (λ same. apart (sym same))))

pub pages-more : (own : ℕ → Bool) (at : ℕ) (ds : List ℕ) → shared_pages own (ds ++ (at ∷ [])) ≡ shared_pages own ds + shared_pages (λ p. own p || is_page_of ds p) (at ∷ [])
pages-more own at [] = first-page (own (page_of at))
pages-more own at (x ∷ xs) =
    ap (λ d. cond (own (page_of x) || d) 0 1 + shared_pages own (xs ++ (at ∷ []))) (list_any-append (λ y. page_of y == page_of x) xs (at ∷ []))
    ∙ ap (λ n. cond (own (page_of x) || (is_page_of xs (page_of x) || ((page_of at == page_of x) || false))) 0 1 + n) (pages-more own at xs)
    ∙ elim (cases_eq (page_of at) (page_of x)) [
      | inl same ↦ by-same own at x xs same
      | inr apart ↦ by-apart own at x xs apart
    ]
