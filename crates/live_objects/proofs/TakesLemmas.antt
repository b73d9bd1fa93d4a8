-- How marks grow.
use Rattle.std.proofs.Common.{◌≡◌, ◌∙◌, ◌↔◌, ◌⊎◌, ℕ, zero, suc, ◌+◌, ◌<◌, ◌≤◌, ◌^◌, ◌==◌, Bool, true, false, cond, not, List, [], ◌∷◌, ◌++◌, length, refl, sym, ap, subst, inl, inr, arith}
use Rattle.std.specs.Prelude.{◌&&◌, ◌||◌, if◌then◌else◌}
use Rattle.std.specs.List.{Contains}
use Rattle.std.proofs.lemmas.Bool.{and_from, and_parts, cases_Bool, cases_eq, eq-eqb, eqb-true, false≢true, or_cases, or_left, or_right}
use Rattle.std.proofs.lemmas.List.{length-append}
use Rattle.std.proofs.lemmas.List.Elements.{Contains-append_cases, Contains-append_left, Contains-append_right, Contains-push, Contains-push_cases}
use Rattle.large_objects.specs.declared.rows.LargeRow.{LargeRow}
use Rattle.live_objects.specs.Marks.{HeldIn, State, Takes, count_below, has_mark, lacks, marked}
use Rattle.live_objects.specs.Reach.{is_mortal}

-- COUNTS

count-step : (test : ℕ → Bool) (n : ℕ) → count_below test (suc n) ≡ count_below test n + (if test n then 1 else 0)
unfolding count_below
count-step test n = refl

one-le : (x y : Bool) → (y ≡ true → x ≡ true) → cond y 1 0 ≤ cond x 1 0
one-le x true h = rw (h refl) (omega arith)
one-le x false h = omega arith

-- where fewer pass, fewer are counted
count-le : (f g : ℕ → Bool) → ((a : ℕ) → g a ≡ true → f a ≡ true) → (n : ℕ) → count_below g n ≤ count_below f n
unfolding count_below
count-le f g fewer zero = omega arith
count-le f g fewer (suc n) = omega (arith, count-le f g fewer n, one-le (f n) (g n) (fewer n))

count-less : (f g : ℕ → Bool) → ((a : ℕ) → g a ≡ true → f a ≡ true) → (at : ℕ) → f at ≡ true → g at ≡ false → (n : ℕ) → at < n → count_below g n + 1 ≤ count_below f n
unfolding count_below
count-less f g fewer at here gone zero below = absurd (omega (arith, below))
count-less f g fewer at here gone (suc n) below = elim (cases_eq at n) [
  | inl same ↦
      let yes_f : f n ≡ true = ap f (sym same) ∙ here in
      let no_g : g n ≡ false = ap g (sym same) ∙ gone in
      let f_is : ◌≡◌ {A = ℕ} (cond (f n) 1 0) 1 = ap (λ b. cond b 1 0) yes_f in
      let g_is : ◌≡◌ {A = ℕ} (cond (g n) 1 0) 0 = ap (λ b. cond b 1 0) no_g in
      omega (arith, count-le f g fewer n, f_is, g_is)
  | inr other ↦ omega (arith, count-less f g fewer at here gone n (omega (arith, below, other)), one-le (f n) (g n) (fewer n))
]

-- MARKS

-- one more is marked, and the rest is as it was
pub record Sets (old new : State) (at : ℕ) : Type 0 where
  pub numbers : new.numbers ≡ old.numbers
  pub sets : (a : ℕ) → marked new a ≡ (a == at || marked old a)

set-here : (old new : State) (at : ℕ) → Sets old new at → marked new at ≡ true
set-here old new at is = is.sets at ∙ or_left (at == at) (marked old at) (eq-eqb at at refl)

set-kept : (old new : State) (at : ℕ) → Sets old new at → (a : ℕ) → marked old a ≡ true → marked new a ≡ true
set-kept old new at is a e = is.sets a ∙ or_right (a == at) (marked old a) e

set-origin : (old new : State) (at : ℕ) → Sets old new at → (a : ℕ) → marked new a ≡ true → (marked old a ≡ true) ⊎ (at ≡ a)
set-origin old new at is a e = elim (or_cases (a == at) (marked old a) (sym (is.sets a) ∙ e)) [ inl same ↦ inr (sym (eqb-true a at same)) | inr was ↦ inl was ]

pub not-true : (b : Bool) → not b ≡ true → b ≡ false
not-true true e = absurd (false≢true e)
not-true false e = refl

pub not-false : (b : Bool) → not b ≡ false → b ≡ true
not-false true e = refl
not-false false e = sym e

-- what lacks a mark lacked it before
lacked : (old new : State) (at : ℕ) → Sets old new at → (a : ℕ) → lacks new a ≡ true → lacks old a ≡ true
lacked old new at is a e =
    let parts = and_parts (has_mark new.numbers a) (not (marked new a)) e in
    let free : marked old a ≡ false = elim (cases_Bool (marked old a)) [ inl was ↦ absurd (false≢true (sym (not-true (marked new a) parts.1) ∙ set-kept old new at is a was)) | inr free ↦ free ] in
    and_from (has_mark old.numbers a) (not (marked old a)) (ap (λ ns. has_mark ns a) (sym is.numbers) ∙ parts.0) (ap not free)

-- an object that wasn't marked was marked, and waits
pub takes-new : (old mid new : State) (at : ℕ) → has_mark old.numbers at ≡ true → at < 2 ^ 32 → marked old at ≡ false → Sets old mid at → mid.waiting ≡ old.waiting
    → new ≡ record mid { waiting = mid.waiting ++ at ∷ [] } → Takes (λ a. at ≡ a) old new
takes-new old mid new at has small free is stays pushed =
    let waiting : new.waiting ≡ old.waiting ++ at ∷ [] = ap (λ (s : State). s.waiting) pushed ∙ ap (λ ws. ws ++ at ∷ []) stays in
    let all : Sets old new at = record { numbers = ap (λ (s : State). s.numbers) pushed ∙ is.numbers; sets = λ a. ap (λ (s : State). marked s a) pushed ∙ is.sets a } in
    let here : lacks old at ≡ true = and_from (has_mark old.numbers at) (not (marked old at)) has (ap not free) in
    let gone : lacks new at ≡ false = no-and (has_mark new.numbers at) (not (marked new at)) (ap not (set-here old new at all)) in
    let debt = count-less (lacks old) (lacks new) (lacked old new at all) at here gone (2 ^ 32) small in
    record {
      numbers = all.numbers;
      kept = set-kept old new at all;
      waits = λ a c. subst (λ ws. Contains ws a) (sym waiting) (Contains-append_left old.waiting (at ∷ []) a c);
      fresh = λ a c. elim (Contains-push_cases old.waiting at a (subst (λ ws. Contains ws a) waiting c)) [
        | inl was ↦ inl was
        | inr same ↦ inr (subst (λ b. marked new b ≡ true) same (set-here old new at all))
      ];
      origin = λ a e. elim (set-origin old new at all a e) [
        | inl was ↦ inl was
        | inr same ↦ inr (subst (λ ws. Contains ws a) (sym waiting) (subst (Contains (old.waiting ++ at ∷ [])) same (Contains-push old.waiting at)), same)
      ];
      all = λ a same. subst (λ b. marked new b ≡ true) same (set-here old new at all);
      debt = omega (arith, debt, ap length waiting, length-append old.waiting (at ∷ []));
    }
  where
    no-and : (x y : Bool) → y ≡ false → (x && y) ≡ false
    no-and true y e = e
    no-and false y e = refl

-- one that was marked stays marked
pub takes-old : (old new : State) (at : ℕ) → marked old at ≡ true → Sets old new at → new.waiting ≡ old.waiting → Takes (λ a. at ≡ a) old new
takes-old old new at was is stays = record {
  numbers = is.numbers;
  kept = set-kept old new at is;
  waits = λ a c. subst (λ ws. Contains ws a) (sym stays) c;
  fresh = λ a c. inl (subst (λ ws. Contains ws a) stays c);
  origin = λ a e. elim (set-origin old new at is a e) [ inl there ↦ inl there | inr same ↦ inl (subst (λ b. marked old b ≡ true) same was) ];
  all = λ a same. subst (λ b. marked new b ≡ true) same (set-here old new at is);
  debt = omega (arith, count-le (lacks old) (lacks new) (lacked old new at is) (2 ^ 32), ap length stays);
}

pub takes-none : (held : ℕ → Type 0) (s : State) → ((a : ℕ) → held a → ⊥) → Takes held s s
takes-none held s none = record {
  numbers = refl;
  kept = λ a e. e;
  waits = λ a c. c;
  fresh = λ a c. inl c;
  origin = λ a e. inl e;
  all = λ a h. absurd (none a h);
  debt = omega arith;
}

-- the same, held in other words
pub takes-same : (one other : ℕ → Type 0) (old new : State) → ((a : ℕ) → one a ↔ other a) → Takes one old new → Takes other old new
takes-same one other old new same is = record {
  numbers = is.numbers;
  kept = is.kept;
  waits = is.waits;
  fresh = is.fresh;
  origin = λ a e. elim (is.origin a e) [ inl was ↦ inl was | inr new ↦ inr (new.0, (same a).0 new.1) ];
  all = λ a h. is.all a ((same a).1 h);
  debt = is.debt;
}

-- what one step marks and what the next one does
pub takes-both : (one other both : ℕ → Type 0) (old mid new : State) → ((a : ℕ) → both a ↔ (one a ⊎ other a)) → Takes one old mid → Takes other mid new → Takes both old new
takes-both one other both old mid new are first next = record {
  numbers = next.numbers ∙ first.numbers;
  kept = λ a e. next.kept a (first.kept a e);
  waits = λ a c. next.waits a (first.waits a c);
  fresh = λ a c. elim (next.fresh a c) [
    | inl was ↦ elim (first.fresh a was) [ inl old ↦ inl old | inr e ↦ inr (next.kept a e) ]
    | inr e ↦ inr e
  ];
  origin = λ a e. elim (next.origin a e) [
    | inl was ↦ elim (first.origin a was) [ inl old ↦ inl old | inr new ↦ inr (next.waits a new.0, (are a).1 (inl new.1)) ]
    | inr new ↦ inr (new.0, (are a).1 (inr new.1))
  ];
  all = λ a h. elim ((are a).0 h) [ inl before ↦ next.kept a (first.all a before) | inr later ↦ next.all a later ];
  debt = omega (arith, first.debt, next.debt);
}

-- LISTS

pub held-append : (rows : List LargeRow) (xs ys : List ℕ) (b : ℕ) → HeldIn rows (xs ++ ys) b ↔ (HeldIn rows xs b ⊎ HeldIn rows ys b)
held-append rows xs ys b = (
  λ h. elim (Contains-append_cases xs ys b h.0) [ inl c ↦ inl (c, h.1) | inr c ↦ inr (c, h.1) ],
  λ h. elim h [ inl c ↦ (Contains-append_left xs ys b c.0, c.1) | inr c ↦ (Contains-append_right xs ys b c.0, c.1) ],
)

none-in : (b : ℕ) → Contains [] b → ⊥
none-in b c = omega (arith, c.1)

pub one-in : (n b : ℕ) → Contains (n ∷ []) b → n ≡ b
one-in n b c = elim (Contains-push_cases [] n b c) [ inl none ↦ absurd (none-in b none) | inr same ↦ same ]

pub held-none : (rows : List LargeRow) (b : ℕ) → HeldIn rows [] b → ⊥
held-none rows b h = none-in b h.0

-- what a single address holds
pub held-one : (rows : List LargeRow) (n : ℕ) → is_mortal rows n ≡ true → (b : ℕ) → (n ≡ b) ↔ HeldIn rows (n ∷ []) b
held-one rows n mortal b = (λ same. (subst (Contains (n ∷ [])) same (Contains-push [] n), subst (λ k. is_mortal rows k ≡ true) same mortal), λ h. one-in n b h.0)

pub held-immune : (rows : List LargeRow) (n : ℕ) → is_mortal rows n ≡ false → (b : ℕ) → HeldIn rows (n ∷ []) b → ⊥
held-immune rows n immune b h = false≢true (sym immune ∙ subst (λ k. is_mortal rows k ≡ true) (sym (one-in n b h.0)) h.1)

pub takes-append : (rows : List LargeRow) (xs ys : List ℕ) (old mid new : State) → Takes (HeldIn rows xs) old mid → Takes (HeldIn rows ys) mid new → Takes (HeldIn rows (xs ++ ys)) old new
takes-append rows xs ys old mid new first next = takes-both (HeldIn rows xs) (HeldIn rows ys) (HeldIn rows (xs ++ ys)) old mid new (held-append rows xs ys) first next
