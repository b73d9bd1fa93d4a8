-- Places of names, and the roots that stand at them.
use Rattle.std.proofs.Common.{◌≡◌, ℕ, suc, zero, ◌+◌, ◌-◌, slice_get, ◌<◌, ◌≤◌, Bool, true, false, cond, not, ◌||◌, ◌⊎◌, true≢false, List, [], ◌∷◌, ◌++◌, Option, None, Some, length, filter, is_some, slice_set, get_or, take, drop, refl, sym, subst, ap, ◌∙◌, inl, inr, arith, length-append}
use Rattle.std.specs.List.{find}
use Rattle.std.specs.Option.{option_map}
use Rattle.std.proofs.lemmas.Bool.{cases_Bool}
use Rattle.std.proofs.lemmas.Option.{same_Some, none-some}
use Rattle.page_tables.specs.declared.address.Addr.{Addr}
use Rattle.class_layout.specs.Names.{same_name}
use Rattle.class_layout.proofs.Lists.{option_map-none}
use Rattle.class_layout.proofs.Uniqueness.{names-same, same_name-refl, same_name-symm}
use Rattle.root_list.specs.declared.root.RootAt.{RootAt}
use Rattle.std.proofs.Math.Seq.{take-length}
use Rattle.root_list.specs.Roots.{RootList, is_root, held_by_all, holding, holds_in, held_at, hold_if, with_held, with_root, with_root_if, without_root}
use Rattle.root_list.specs.Places.{roots_of, kept_of, named, first_if, place_of, IsFresh, AreApart}

abbrev Places : Type 0
Places = List (Option (List ℕ))

abbrev root : List ℕ → Addr → RootAt
root n at = record { name = n; holds = at }

-- THE HEAD OF A LIST OF PLACES

pub none-head : (name : List ℕ) (p : Option (List ℕ)) (ps : Places) → place_of (p ∷ ps) name ≡ None → (named name p ≡ false) × (place_of ps name ≡ None)
none-head name p ps h = by (named name p) refl h
  where
    by : (b : Bool) → named name p ≡ b → first_if b (place_of ps name) ≡ None → (named name p ≡ false) × (place_of ps name ≡ None)
    by true e g = absurd (none-some 0 (sym g))
    by false e g = (e, option_map-none suc (place_of ps name) g)

mapped : (o : Option ℕ) (k : ℕ) → option_map suc o ≡ Some k → (j : ℕ) × (k ≡ suc j) × (o ≡ Some j)
mapped None k g = absurd (none-some k g)
mapped (Some j) k g = (j, sym (same_Some (suc j) k g), refl)

-- the place is the first, or one further on
pub some-head : (name : List ℕ) (p : Option (List ℕ)) (ps : Places) (k : ℕ) → place_of (p ∷ ps) name ≡ Some k
    → ((named name p ≡ true) × (k ≡ 0)) ⊎ ((j : ℕ) × (named name p ≡ false) × (k ≡ suc j) × (place_of ps name ≡ Some j))
some-head name p ps k h = by (named name p) refl h
  where
    by : (b : Bool) → named name p ≡ b → first_if b (place_of ps name) ≡ Some k
        → ((named name p ≡ true) × (k ≡ 0)) ⊎ ((j : ℕ) × (named name p ≡ false) × (k ≡ suc j) × (place_of ps name ≡ Some j))
    by true e g = inl (e, sym (same_Some 0 k g))
    by false e g = let m = mapped (place_of ps name) k g in inr (m.0, e, m.1, m.2)

pub place-no : (name : List ℕ) (p : Option (List ℕ)) (ps : Places) → named name p ≡ false → place_of ps name ≡ None → place_of (p ∷ ps) name ≡ None
place-no name p ps e h = ap (λ b. first_if b (place_of ps name)) e ∙ ap (option_map suc) h

pub place-within : (ns : Places) (name : List ℕ) (k : ℕ) → place_of ns name ≡ Some k → k < length ns
place-within [] name k h = absurd (none-some k h)
place-within (p ∷ ns) name k h =
    elim (some-head name p ns k h) [
      | inl q ↦ omega (arith, q.1)
      | inr q ↦ let less : q.0 < length ns = place-within ns name q.0 q.3 in omega (arith, q.2, less)
    ]

-- FOUND ROOTS

pub root-none : (ns : Places) (ats : List Addr) (name : List ℕ) → place_of ns name ≡ None → is_root (roots_of ns ats) name ≡ false
root-none [] ats name h = refl
root-none (n ∷ ns) [] name h = refl
root-none (None ∷ ns) (at ∷ ats) name h = root-none ns ats name (none-head name None ns h).1
root-none (Some n ∷ ns) (at ∷ ats) name h =
    let p = none-head name (Some n) ns h in
    ap (λ b. b || is_root (roots_of ns ats) name) p.0 ∙ root-none ns ats name p.1

pub held-none : (ns : Places) (ats : List Addr) (name : List ℕ) → place_of ns name ≡ None → held_at (roots_of ns ats) name ≡ None
held-none [] ats name h = refl
held-none (n ∷ ns) [] name h = refl
held-none (None ∷ ns) (at ∷ ats) name h = held-none ns ats name (none-head name None ns h).1
held-none (Some n ∷ ns) (at ∷ ats) name h =
    let p = none-head name (Some n) ns h in
    ap (λ b. holds_in (cond b (Some (root n at)) (find (λ (r : RootAt). same_name r.name name) (roots_of ns ats)))) p.0 ∙ held-none ns ats name p.1

pub root-some : (ns : Places) (ats : List Addr) (name : List ℕ) (k : ℕ) → length ns ≡ length ats → place_of ns name ≡ Some k → is_root (roots_of ns ats) name ≡ true
root-some [] ats name k l h = absurd (none-some k h)
root-some (n ∷ ns) [] name k l h = absurd (omega (arith, l))
root-some (None ∷ ns) (at ∷ ats) name k l h =
    elim (some-head name None ns k h) [
      | inl q ↦ absurd (true≢false (sym q.0))
      | inr q ↦ root-some ns ats name q.0 (omega (arith, l)) q.3
    ]
root-some (Some n ∷ ns) (at ∷ ats) name k l h =
    elim (some-head name (Some n) ns k h) [
      | inl q ↦ ap (λ b. b || is_root (roots_of ns ats) name) q.0
      | inr q ↦ ap (λ b. b || is_root (roots_of ns ats) name) q.1 ∙ root-some ns ats name q.0 (omega (arith, l)) q.3
    ]

pub held-index : (ns : Places) (ats : List Addr) (name : List ℕ) (k : ℕ) (d : Addr) → length ns ≡ length ats → place_of ns name ≡ Some k → Some (get_or ats k d) ≡ held_at (roots_of ns ats) name
held-index [] ats name k d l h = absurd (none-some k h)
held-index (n ∷ ns) [] name k d l h = absurd (omega (arith, l))
held-index (None ∷ ns) (at ∷ ats) name k d l h =
    elim (some-head name None ns k h) [
      | inl q ↦ absurd (true≢false (sym q.0))
      | inr q ↦ ap (λ i. Some (get_or (at ∷ ats) i d)) q.2 ∙ held-index ns ats name q.0 d (omega (arith, l)) q.3
    ]
held-index (Some n ∷ ns) (at ∷ ats) name k d l h =
    let of : Bool → Option Addr = λ b. holds_in (cond b (Some (root n at)) (find (λ (r : RootAt). same_name r.name name) (roots_of ns ats))) in
    elim (some-head name (Some n) ns k h) [
      | inl q ↦ ap (λ i. Some (get_or (at ∷ ats) i d)) q.1 ∙ sym (ap of q.0)
      | inr q ↦ ap (λ i. Some (get_or (at ∷ ats) i d)) q.2 ∙ held-index ns ats name q.0 d (omega (arith, l)) q.3 ∙ sym (ap of q.1)
    ]

-- A ROOT HOLDS SOMETHING ELSE

held-away : (ns : Places) (ats : List Addr) (name : List ℕ) (a : Addr) → place_of ns name ≡ None → with_held (roots_of ns ats) name a ≡ roots_of ns ats
held-away [] ats name a h = refl
held-away (n ∷ ns) [] name a h = refl
held-away (None ∷ ns) (at ∷ ats) name a h = held-away ns ats name a (none-head name None ns h).1
held-away (Some n ∷ ns) (at ∷ ats) name a h =
    let p = none-head name (Some n) ns h in
    ap (λ b. hold_if b (root n at) a ∷ with_held (roots_of ns ats) name a) p.0 ∙ ap (λ rs. root n at ∷ rs) (held-away ns ats name a p.1)

away : (ns : Places) (n name : List ℕ) → same_name n name ≡ true → place_of ns n ≡ None → place_of ns name ≡ None
away ns n name e h = ap (place_of ns) (sym (names-same n name e)) ∙ h

pub roots-put : (ns : Places) (ats : List Addr) (name : List ℕ) (k : ℕ) (a : Addr) → length ns ≡ length ats → AreApart ns → place_of ns name ≡ Some k
    → roots_of ns (slice_set ats k a) ≡ with_held (roots_of ns ats) name a
roots-put [] ats name k a l d h = absurd (none-some k h)
roots-put (n ∷ ns) [] name k a l d h = absurd (omega (arith, l))
roots-put (None ∷ ns) (at ∷ ats) name k a l d h =
    elim (some-head name None ns k h) [
      | inl q ↦ absurd (true≢false (sym q.0))
      | inr q ↦ ap (λ i. roots_of (None ∷ ns) (slice_set (at ∷ ats) i a)) q.2 ∙ roots-put ns ats name q.0 a (omega (arith, l)) d.1 q.3
    ]
roots-put (Some n ∷ ns) (at ∷ ats) name k a l d h =
    let of : Bool → List RootAt = λ b. hold_if b (root n at) a ∷ with_held (roots_of ns ats) name a in
    elim (some-head name (Some n) ns k h) [
      | inl q ↦
          ap (λ i. roots_of (Some n ∷ ns) (slice_set (at ∷ ats) i a)) q.1
          ∙ (ap (λ rs. root n a ∷ rs) (sym (held-away ns ats name a (away ns n name q.0 d.0))) ∙ sym (ap of q.0))
      | inr q ↦
          ap (λ i. roots_of (Some n ∷ ns) (slice_set (at ∷ ats) i a)) q.2
          ∙ (ap (λ rs. root n at ∷ rs) (roots-put ns ats name q.0 a (omega (arith, l)) d.1 q.3) ∙ sym (ap of q.1))
    ]

-- A ROOT LEAVES

without-away : (ns : Places) (ats : List Addr) (name : List ℕ) → place_of ns name ≡ None → without_root (roots_of ns ats) name ≡ roots_of ns ats
without-away [] ats name h = refl
without-away (n ∷ ns) [] name h = refl
without-away (None ∷ ns) (at ∷ ats) name h = without-away ns ats name (none-head name None ns h).1
without-away (Some n ∷ ns) (at ∷ ats) name h =
    let p = none-head name (Some n) ns h in
    ap (λ b. cond (not b) (root n at ∷ without_root (roots_of ns ats) name) (without_root (roots_of ns ats) name)) p.0
    ∙ ap (λ rs. root n at ∷ rs) (without-away ns ats name p.1)

pub roots-without_none : (ns : Places) (ats : List Addr) (name : List ℕ) → place_of ns name ≡ None → without_root (roots_of ns ats) name ≡ roots_of ns ats
roots-without_none = without-away

pub roots-empty : (ns : Places) (ats : List Addr) (name : List ℕ) (k : ℕ) → length ns ≡ length ats → AreApart ns → place_of ns name ≡ Some k
    → roots_of (slice_set ns k None) ats ≡ without_root (roots_of ns ats) name
roots-empty [] ats name k l d h = absurd (none-some k h)
roots-empty (n ∷ ns) [] name k l d h = absurd (omega (arith, l))
roots-empty (None ∷ ns) (at ∷ ats) name k l d h =
    elim (some-head name None ns k h) [
      | inl q ↦ absurd (true≢false (sym q.0))
      | inr q ↦ ap (λ i. roots_of (slice_set (None ∷ ns) i None) (at ∷ ats)) q.2 ∙ roots-empty ns ats name q.0 (omega (arith, l)) d.1 q.3
    ]
roots-empty (Some n ∷ ns) (at ∷ ats) name k l d h =
    let of : Bool → List RootAt = λ b. cond (not b) (root n at ∷ without_root (roots_of ns ats) name) (without_root (roots_of ns ats) name) in
    elim (some-head name (Some n) ns k h) [
      | inl q ↦
          ap (λ i. roots_of (slice_set (Some n ∷ ns) i None) (at ∷ ats)) q.1
          ∙ (sym (without-away ns ats name (away ns n name q.0 d.0)) ∙ sym (ap of q.0))
      | inr q ↦
          ap (λ i. roots_of (slice_set (Some n ∷ ns) i None) (at ∷ ats)) q.2
          ∙ (ap (λ rs. root n at ∷ rs) (roots-empty ns ats name q.0 (omega (arith, l)) d.1 q.3) ∙ sym (ap of q.1))
    ]

-- one root fewer
pub roots-fewer : (ns : Places) (ats : List Addr) (name : List ℕ) (k : ℕ) → length ns ≡ length ats → place_of ns name ≡ Some k
    → length (roots_of (slice_set ns k None) ats) + 1 ≡ length (roots_of ns ats)
roots-fewer [] ats name k l h = absurd (none-some k h)
roots-fewer (n ∷ ns) [] name k l h = absurd (omega (arith, l))
roots-fewer (None ∷ ns) (at ∷ ats) name k l h =
    elim (some-head name None ns k h) [
      | inl q ↦ absurd (true≢false (sym q.0))
      | inr q ↦ ap (λ i. length (roots_of (slice_set (None ∷ ns) i None) (at ∷ ats)) + 1) q.2 ∙ roots-fewer ns ats name q.0 (omega (arith, l)) q.3
    ]
roots-fewer (Some n ∷ ns) (at ∷ ats) name k l h =
    elim (some-head name (Some n) ns k h) [
      | inl q ↦ ap (λ i. length (roots_of (slice_set (Some n ∷ ns) i None) (at ∷ ats)) + 1) q.1 ∙ omega arith
      | inr q ↦
          let e : length (roots_of (slice_set (Some n ∷ ns) k None) (at ∷ ats)) ≡ suc (length (roots_of (slice_set ns q.0 None) ats)) =
          ap (λ i. length (roots_of (slice_set (Some n ∷ ns) i None) (at ∷ ats))) q.2 in
          omega (arith, e, roots-fewer ns ats name q.0 (omega (arith, l)) q.3)
    ]

hole-none : (ns : Places) (q : List ℕ) (k : ℕ) → k < length ns → place_of ns q ≡ None → place_of (slice_set ns k None) q ≡ None
hole-none [] q k w h = h
hole-none (p ∷ ns) q zero w h = ap (option_map suc) (none-head q p ns h).1
hole-none (p ∷ ns) q (suc k) w h =
    let t = none-head q p ns h in
    place-no q p (slice_set ns k None) t.0 (hole-none ns q k (omega (arith, w)) t.1)

hole-fresh : (p : Option (List ℕ)) (ns : Places) (k : ℕ) → k < length ns → IsFresh p ns → IsFresh p (slice_set ns k None)
hole-fresh None ns k w f = tt
hole-fresh (Some n) ns k w f = hole-none ns n k w f

pub apart-empty : (ns : Places) (k : ℕ) → k < length ns → AreApart ns → AreApart (slice_set ns k None)
apart-empty [] k w d = absurd (omega (arith, w))
apart-empty (p ∷ ns) zero w d = (tt, d.1)
apart-empty (p ∷ ns) (suc k) w d = (hole-fresh p ns k (omega (arith, w)) d.0, apart-empty ns k (omega (arith, w)) d.1)

-- the place of another name stays
hole-other : (ns : Places) (name q : List ℕ) (k : ℕ) → place_of ns name ≡ Some k → same_name name q ≡ false → place_of (slice_set ns k None) q ≡ place_of ns q
hole-other [] name q k h e = absurd (none-some k h)
hole-other (p ∷ ns) name q k h e =
    elim (some-head name p ns k h) [
      | inl s ↦ ap (λ i. place_of (slice_set (p ∷ ns) i None) q) s.1 ∙ sym (ap (λ b. first_if b (place_of ns q)) (other p s.0))
      | inr s ↦
          ap (λ i. place_of (slice_set (p ∷ ns) i None) q) s.2
          ∙ ap (λ o. first_if (named q p) o) (hole-other ns name q s.0 s.3 e)
    ]
  where
    other : (p : Option (List ℕ)) → named name p ≡ true → named q p ≡ false
    other None f = refl
    other (Some n) f = ap (λ m. same_name m q) (names-same n name f) ∙ e

-- the removed name has no place
hole-own : (ns : Places) (name : List ℕ) (k : ℕ) → AreApart ns → place_of ns name ≡ Some k → place_of (slice_set ns k None) name ≡ None
hole-own [] name k d h = absurd (none-some k h)
hole-own (p ∷ ns) name k d h =
    elim (some-head name p ns k h) [
      | inl s ↦ ap (λ i. place_of (slice_set (p ∷ ns) i None) name) s.1 ∙ ap (option_map suc) (fresh p s.0 d.0)
      | inr s ↦
          ap (λ i. place_of (slice_set (p ∷ ns) i None) name) s.2
          ∙ place-no name p (slice_set ns s.0 None) s.1 (hole-own ns name s.0 d.1 s.3)
    ]
  where
    fresh : (p : Option (List ℕ)) → named name p ≡ true → IsFresh p ns → place_of ns name ≡ None
    fresh None f g = absurd (true≢false (sym f))
    fresh (Some n) f g = away ns n name f g

pub place-empty : (ns : Places) (name q : List ℕ) (k : ℕ) → AreApart ns → place_of ns name ≡ Some k
    → cond (same_name name q) None (place_of ns q) ≡ place_of (slice_set ns k None) q
place-empty ns name q k d h =
    elim (cases_Bool (same_name name q)) [
      | inl e ↦
          ap (λ b. cond b None (place_of ns q)) e
          ∙ sym (ap (place_of (slice_set ns k None)) (sym (names-same name q e)) ∙ hole-own ns name k d h)
      | inr e ↦ ap (λ b. cond b None (place_of ns q)) e ∙ sym (hole-other ns name q k h e)
    ]

-- A ROOT MORE

pub roots-push : (ns : Places) (ats : List Addr) (n : List ℕ) (a : Addr) → length ns ≡ length ats
    → roots_of (ns ++ Some n ∷ []) (ats ++ a ∷ []) ≡ roots_of ns ats ++ record { name = n; holds = a } ∷ []
roots-push [] [] n a l = refl
roots-push [] (at ∷ ats) n a l = absurd (omega (arith, l))
roots-push (p ∷ ns) [] n a l = absurd (omega (arith, l))
roots-push (None ∷ ns) (at ∷ ats) n a l = roots-push ns ats n a (omega (arith, l))
roots-push (Some m ∷ ns) (at ∷ ats) n a l = ap (λ rs. root m at ∷ rs) (roots-push ns ats n a (omega (arith, l)))

push-other : (ns : Places) (n q : List ℕ) → same_name n q ≡ false → place_of (ns ++ Some n ∷ []) q ≡ place_of ns q
push-other [] n q e = ap (λ b. first_if b None) e
push-other (p ∷ ns) n q e = ap (first_if (named q p)) (push-other ns n q e)

push-own : (ns : Places) (n : List ℕ) → place_of ns n ≡ None → place_of (ns ++ Some n ∷ []) n ≡ Some (length ns)
push-own [] n h = ap (λ b. first_if b None) (same_name-refl n)
push-own (p ∷ ns) n h =
    let t = none-head n p ns h in
    ap (λ b. first_if b (place_of (ns ++ Some n ∷ []) n)) t.0 ∙ ap (option_map suc) (push-own ns n t.1)

pub place-push : (ns : Places) (n q : List ℕ) → place_of ns n ≡ None → cond (same_name n q) (Some (length ns)) (place_of ns q) ≡ place_of (ns ++ Some n ∷ []) q
place-push ns n q h =
    elim (cases_Bool (same_name n q)) [
      | inl e ↦
          ap (λ b. cond b (Some (length ns)) (place_of ns q)) e
          ∙ sym (ap (place_of (ns ++ Some n ∷ [])) (sym (names-same n q e)) ∙ push-own ns n h)
      | inr e ↦ ap (λ b. cond b (Some (length ns)) (place_of ns q)) e ∙ sym (push-other ns n q e)
    ]

pub apart-push : (ns : Places) (n : List ℕ) → place_of ns n ≡ None → AreApart ns → AreApart (ns ++ Some n ∷ [])
apart-push [] n h d = (refl, tt)
apart-push (p ∷ ns) n h d = let t = none-head n p ns h in (fresh p t.0 d.0, apart-push ns n t.1 d.1)
  where
    fresh : (p : Option (List ℕ)) → named n p ≡ false → IsFresh p ns → IsFresh p (ns ++ Some n ∷ [])
    fresh None e f = tt
    fresh (Some m) e f = push-other ns n m (by (same_name n m) refl) ∙ f
      where
        by : (b : Bool) → same_name n m ≡ b → same_name n m ≡ false
        by true g = absurd (true≢false (sym (same_name-symm n m g) ∙ e))
        by false g = g

-- ROOTS MOVED TOGETHER

pub roots-kept : (ns : Places) (ats : List Addr) → roots_of (filter is_some ns) (kept_of ns ats) ≡ roots_of ns ats
roots-kept [] ats = refl
roots-kept (None ∷ ns) [] = nothing ns
  where
    nothing : (ns : Places) → roots_of (filter is_some ns) [] ≡ []
    nothing [] = refl
    nothing (None ∷ ns) = nothing ns
    nothing (Some n ∷ ns) = refl
roots-kept (Some n ∷ ns) [] = refl
roots-kept (None ∷ ns) (at ∷ ats) = roots-kept ns ats
roots-kept (Some n ∷ ns) (at ∷ ats) = ap (λ rs. root n at ∷ rs) (roots-kept ns ats)

pub length-kept : (ns : Places) (ats : List Addr) → length ns ≡ length ats → length (filter is_some ns) ≡ length (kept_of ns ats)
length-kept [] ats l = refl
length-kept (p ∷ ns) [] l = absurd (omega (arith, l))
length-kept (None ∷ ns) (at ∷ ats) l = length-kept ns ats (omega (arith, l))
length-kept (Some n ∷ ns) (at ∷ ats) l = ap suc (length-kept ns ats (omega (arith, l)))

pub length-filter : (ns : Places) (ats : List Addr) → length ns ≡ length ats → length (filter is_some ns) ≡ length (roots_of ns ats)
length-filter [] ats l = refl
length-filter (p ∷ ns) [] l = absurd (omega (arith, l))
length-filter (None ∷ ns) (at ∷ ats) l = length-filter ns ats (omega (arith, l))
length-filter (Some n ∷ ns) (at ∷ ats) l = ap suc (length-filter ns ats (omega (arith, l)))

pub filter-twice : (ns : Places) → filter is_some (filter is_some ns) ≡ filter is_some ns
filter-twice [] = refl
filter-twice (None ∷ ns) = filter-twice ns
filter-twice (Some n ∷ ns) = ap (λ ps. Some n ∷ ps) (filter-twice ns)

filter-none : (ns : Places) (q : List ℕ) → place_of ns q ≡ None → place_of (filter is_some ns) q ≡ None
filter-none [] q h = refl
filter-none (None ∷ ns) q h = filter-none ns q (none-head q None ns h).1
filter-none (Some n ∷ ns) q h = let t = none-head q (Some n) ns h in place-no q (Some n) (filter is_some ns) t.0 (filter-none ns q t.1)

pub apart-filter : (ns : Places) → AreApart ns → AreApart (filter is_some ns)
apart-filter [] d = tt
apart-filter (None ∷ ns) d = apart-filter ns d.1
apart-filter (Some n ∷ ns) d = (filter-none ns n d.0, apart-filter ns d.1)

-- AS THE CONTRACTS SAY IT

pub root-placed : (ns : Places) (ats : List Addr) (name : List ℕ) → length ns ≡ length ats → is_root (roots_of ns ats) name ≡ is_some (place_of ns name)
root-placed ns ats name l = by (place_of ns name) refl
  where
    by : (o : Option ℕ) → place_of ns name ≡ o → is_root (roots_of ns ats) name ≡ is_some (place_of ns name)
    by None e = root-none ns ats name e ∙ sym (ap is_some e)
    by (Some k) e = root-some ns ats name k l e ∙ sym (ap is_some e)

pub root-put : (ns : Places) (ats : List Addr) (name : List ℕ) (k : ℕ) (a : Addr) → length ns ≡ length ats → AreApart ns → place_of ns name ≡ Some k
    → roots_of ns (slice_set ats k a) ≡ with_root (roots_of ns ats) name a
root-put ns ats name k a l d h =
    roots-put ns ats name k a l d h ∙ sym (ap (λ b. with_root_if b (roots_of ns ats) name a) (root-some ns ats name k l h))

pub root-push : (ns : Places) (ats : List Addr) (n : List ℕ) (a : Addr) → length ns ≡ length ats → place_of ns n ≡ None
    → roots_of (ns ++ Some n ∷ []) (ats ++ a ∷ []) ≡ with_root (roots_of ns ats) n a
root-push ns ats n a l h = roots-push ns ats n a l ∙ sym (ap (λ b. with_root_if b (roots_of ns ats) n a) (root-none ns ats n h))

-- a root's new address moves none
pub length-put : (ns : Places) (ats : List Addr) (k : ℕ) (a : Addr) → length (roots_of ns (slice_set ats k a)) ≡ length (roots_of ns ats)
length-put [] ats k a = refl
length-put (p ∷ ns) [] k a = refl
length-put (None ∷ ns) (at ∷ ats) zero a = refl
length-put (None ∷ ns) (at ∷ ats) (suc k) a = length-put ns ats k a
length-put (Some n ∷ ns) (at ∷ ats) zero a = refl
length-put (Some n ∷ ns) (at ∷ ats) (suc k) a = ap suc (length-put ns ats k a)

pub length-push : (ns : Places) (ats : List Addr) (n : List ℕ) (a : Addr) → length ns ≡ length ats
    → length (roots_of (ns ++ Some n ∷ []) (ats ++ a ∷ [])) ≡ length (roots_of ns ats) + 1
length-push ns ats n a l = ap length (roots-push ns ats n a l) ∙ length-append (roots_of ns ats) (record { name = n; holds = a } ∷ [])

pub filter-fewer : (ns : Places) → length (filter is_some ns) ≤ length ns
filter-fewer [] = omega arith
filter-fewer (None ∷ ns) = omega (arith, filter-fewer ns)
filter-fewer (Some n ∷ ns) = omega (arith, filter-fewer ns)

-- WITHOUT HOLES

pub roots-few : (ns : Places) (ats : List Addr) → length (roots_of ns ats) ≤ length ns
roots-few [] ats = omega arith
roots-few (p ∷ ns) [] = omega arith
roots-few (None ∷ ns) (at ∷ ats) = omega (arith, roots-few ns ats)
roots-few (Some n ∷ ns) (at ∷ ats) = omega (arith, roots-few ns ats)

take-whole : (xs : List Addr) → take (length xs) xs ≡ xs
take-whole [] = refl
take-whole (x ∷ xs) = ap (λ ys. x ∷ ys) (take-whole xs)

-- the roots hold what was written to their addresses
pub roots-lent : (ns : Places) (ats w : List Addr) → length ns ≡ length ats → length ns ≡ length (roots_of ns ats)
    → roots_of ns (take (length ats) (w ++ drop (length w) ats)) ≡ holding (roots_of ns ats) w
roots-lent [] ats w l f = refl
roots-lent (p ∷ ns) [] w l f = absurd (omega (arith, l))
roots-lent (None ∷ ns) (at ∷ ats) w l f = absurd (omega (arith, roots-few ns ats, f))
roots-lent (Some n ∷ ns) (at ∷ ats) [] l f = ap (λ xs. root n at ∷ roots_of ns xs) (take-whole ats)
roots-lent (Some n ∷ ns) (at ∷ ats) (x ∷ w) l f = ap (λ rs. root n x ∷ rs) (roots-lent ns ats w (omega (arith, l)) (omega (arith, f)))

pub held-all : (ns : Places) (ats : List Addr) → length ns ≡ length ats → length ns ≡ length (roots_of ns ats) → held_by_all (roots_of ns ats) ≡ ats
held-all [] [] l f = refl
held-all [] (at ∷ ats) l f = absurd (omega (arith, l))
held-all (p ∷ ns) [] l f = absurd (omega (arith, l))
held-all (None ∷ ns) (at ∷ ats) l f = absurd (omega (arith, roots-few ns ats, f))
held-all (Some n ∷ ns) (at ∷ ats) l f = ap (λ xs. at ∷ xs) (held-all ns ats (omega (arith, l)) (omega (arith, f)))

-- how many roots there are does not hang on what they hold
pub length-same : (ns : Places) (ats bts : List Addr) → length ns ≡ length ats → length bts ≡ length ats → length (roots_of ns ats) ≡ length (roots_of ns bts)
length-same ns ats bts l m =
    let a = length-filter ns ats l in
    let b = length-filter ns bts (omega (arith, l, m)) in
    omega (arith, a, b)

-- ROOTS FROM A PLACE ON

pub place-left : (ns : Places) (ats : List Addr) (k left : ℕ) → left < length (roots_of (drop k ns) (drop k ats)) → k < length ns
place-left [] ats zero left h = absurd (omega (arith, h))
place-left [] ats (suc k) left h = absurd (omega (arith, h))
place-left (p ∷ ns) ats zero left h = omega arith
place-left (p ∷ ns) [] (suc k) left h = absurd (none-of ns k left h)
  where
    none-of : (ns : Places) (k left : ℕ) → left < length (roots_of (drop k ns) []) → ⊥
    none-of [] zero left h = absurd (omega (arith, h))
    none-of [] (suc k) left h = absurd (omega (arith, h))
    none-of (p ∷ ns) zero left h = absurd (omega (arith, h))
    none-of (p ∷ ns) (suc k) left h = none-of ns k left h
place-left (p ∷ ns) (at ∷ ats) (suc k) left h = omega (arith, place-left ns ats k left h)

-- the roots from a place on are those behind it, with that of the place in front where it has one
abbrev with_place : Option (List ℕ) → Addr → List RootAt → List RootAt
with_place None at rs = rs
with_place (Some n) at rs = root n at ∷ rs

pub roots-from : (ns : Places) (ats : List Addr) (k : ℕ) (d : Option (List ℕ)) (e : Addr) → length ns ≡ length ats → k < length ns
    → roots_of (drop k ns) (drop k ats) ≡ with_place (get_or ns k d) (get_or ats k e) (roots_of (drop (suc k) ns) (drop (suc k) ats))
roots-from [] ats k d e l h = absurd (omega (arith, h))
roots-from (p ∷ ns) [] k d e l h = absurd (omega (arith, l))
roots-from (None ∷ ns) (at ∷ ats) zero d e l h = refl
roots-from (Some n ∷ ns) (at ∷ ats) zero d e l h = refl
roots-from (p ∷ ns) (at ∷ ats) (suc k) d e l h = roots-from ns ats k d e (omega (arith, l)) (omega (arith, h))

next : (k : ℕ) → suc k ≡ k + 1
next k = omega arith

-- the place is a hole
pub at-hole : (ns : Places) (ats : List Addr) (k : ℕ) (p : Option (List ℕ)) → length ns ≡ length ats → k < length ns → p ≡ get_or ns k p → p ≡ None
    → roots_of (drop k ns) (drop k ats) ≡ roots_of (drop (k + 1) ns) (drop (k + 1) ats)
at-hole ns ats k p l h is none =
    roots-from ns ats k p (record { 0 = 0 }) l h ∙ ap (λ o. with_place o (get_or ats k (record { 0 = 0 })) (roots_of (drop (suc k) ns) (drop (suc k) ats))) (sym is ∙ none)
    ∙ ap (λ j. roots_of (drop j ns) (drop j ats)) (next k)

-- the place has a root
pub at-root : (ns : Places) (ats : List Addr) (k : ℕ) (p : Option (List ℕ)) (n : List ℕ) (e : Addr) → length ns ≡ length ats → k < length ns → p ≡ get_or ns k p → p ≡ Some n
    → roots_of (drop k ns) (drop k ats) ≡ root n (get_or ats k e) ∷ roots_of (drop (k + 1) ns) (drop (k + 1) ats)
at-root ns ats k p n e l h is some =
    roots-from ns ats k p e l h ∙ ap (λ o. with_place o (get_or ats k e) (roots_of (drop (suc k) ns) (drop (suc k) ats))) (sym is ∙ some)
    ∙ ap (λ j. root n (get_or ats k e) ∷ roots_of (drop j ns) (drop j ats)) (next k)

-- behind a first one
pub behind-first : (rs more : List RootAt) (r : RootAt) (left less : ℕ) → rs ≡ r ∷ more → left < length rs → (left ≡ 0 → ⊥) → less ≡ left - 1
    → (less < length more) × (slice_get more less ≡ slice_get rs left)
behind-first rs more r zero less e h ne is = absurd (ne refl)
behind-first rs more r (suc left) less e h ne is =
    (omega (arith, is, h, ap length e), ap (slice_get more) (omega (arith, is)) ∙ sym (ap (λ l. slice_get l (suc left)) e))

-- ADDRESSES FROM A PLACE ON

abbrev with_kept : Option (List ℕ) → Addr → List Addr → List Addr
with_kept None at more = more
with_kept (Some n) at more = at ∷ more

kept-from : (ns : Places) (ats : List Addr) (k : ℕ) (d : Option (List ℕ)) (e : Addr) → length ns ≡ length ats → k < length ns
    → kept_of (drop k ns) (drop k ats) ≡ with_kept (get_or ns k d) (get_or ats k e) (kept_of (drop (suc k) ns) (drop (suc k) ats))
kept-from [] ats k d e l h = absurd (omega (arith, h))
kept-from (p ∷ ns) [] k d e l h = absurd (omega (arith, l))
kept-from (None ∷ ns) (at ∷ ats) zero d e l h = refl
kept-from (Some n ∷ ns) (at ∷ ats) zero d e l h = refl
kept-from (p ∷ ns) (at ∷ ats) (suc k) d e l h = kept-from ns ats k d e (omega (arith, l)) (omega (arith, h))

take-set : (ats : List Addr) (i : ℕ) (a : Addr) → i < length ats → take (suc i) (slice_set ats i a) ≡ take i ats ++ a ∷ []
take-set [] i a h = absurd (omega (arith, h))
take-set (x ∷ ats) zero a h = refl
take-set (x ∷ ats) (suc i) a h = ap (λ more. x ∷ more) (take-set ats i a (omega (arith, h)))

drop-set : (ats : List Addr) (i k : ℕ) (a : Addr) → i ≤ k → drop (suc k) (slice_set ats i a) ≡ drop (suc k) ats
drop-set [] i k a h = refl
drop-set (x ∷ ats) zero k a h = refl
drop-set (x ∷ ats) (suc i) zero a h = absurd (omega (arith, h))
drop-set (x ∷ ats) (suc i) (suc k) a h = drop-set ats i k a (omega (arith, h))

with-some : (p : Option (List ℕ)) (at : Addr) (more : List Addr) → is_some p ≡ true → with_kept p at more ≡ at ∷ more
with-some None at more e = absurd (true≢false (sym e))
with-some (Some n) at more e = refl

with-none : (p : Option (List ℕ)) (at : Addr) (more : List Addr) → is_some p ≡ false → with_kept p at more ≡ more
with-none None at more e = refl
with-none (Some n) at more e = absurd (true≢false e)

-- a hole is passed over
pub pack-hole : (ns : Places) (ats : List Addr) (kept k : ℕ) (p : Option (List ℕ)) → length ns ≡ length ats → k < length ns → p ≡ get_or ns k p → is_some p ≡ false
    → take kept ats ++ kept_of (drop (k + 1) ns) (drop (k + 1) ats) ≡ take kept ats ++ kept_of (drop k ns) (drop k ats)
pack-hole ns ats kept k p l h is none =
    ap (λ more. take kept ats ++ more)
    (ap (λ j. kept_of (drop j ns) (drop j ats)) (sym (next k)) ∙ sym (with-none (get_or ns k p) (record { 0 = 0 }) (kept_of (drop (suc k) ns) (drop (suc k) ats)) (ap is_some (sym is) ∙ none))
    ∙ sym (kept-from ns ats k p (record { 0 = 0 }) l h ∙ away-from (get_or ns k p) (ap is_some (sym is) ∙ none)))
  where
    away-from : (o : Option (List ℕ)) → is_some o ≡ false → with_kept o (get_or ats k (record { 0 = 0 })) (kept_of (drop (suc k) ns) (drop (suc k) ats)) ≡ with_kept o (record { 0 = 0 }) (kept_of (drop (suc k) ns) (drop (suc k) ats))
    away-from None e = refl
    away-from (Some n) e = absurd (true≢false e)

-- a root's address is moved behind those that are kept
pub pack-root : (ns : Places) (ats : List Addr) (kept k : ℕ) (p : Option (List ℕ)) (a : Addr) → length ns ≡ length ats → k < length ns → kept ≤ k → p ≡ get_or ns k p → is_some p ≡ true → a ≡ get_or ats k a
    → take (kept + 1) (slice_set ats kept a) ++ kept_of (drop (k + 1) ns) (drop (k + 1) (slice_set ats kept a)) ≡ take kept ats ++ kept_of (drop k ns) (drop k ats)
pack-root ns ats kept k p a l h few is some value =
    ap (λ j. take j (slice_set ats kept a) ++ kept_of (drop (k + 1) ns) (drop (k + 1) (slice_set ats kept a))) (sym (next kept))
    ∙ ap (λ front. front ++ kept_of (drop (k + 1) ns) (drop (k + 1) (slice_set ats kept a))) (take-set ats kept a (omega (arith, few, h, l)))
    ∙ ap (λ j. (take kept ats ++ a ∷ []) ++ kept_of (drop j ns) (drop j (slice_set ats kept a))) (sym (next k))
    ∙ ap (λ more. (take kept ats ++ a ∷ []) ++ kept_of (drop (suc k) ns) more) (drop-set ats kept k a few)
    ∙ seam (take kept ats) a (kept_of (drop (suc k) ns) (drop (suc k) ats))
    ∙ ap (λ more. take kept ats ++ more)
    (ap (λ b. b ∷ kept_of (drop (suc k) ns) (drop (suc k) ats)) value
    ∙ sym (kept-from ns ats k p a l h ∙ with-some (get_or ns k p) (get_or ats k a) (kept_of (drop (suc k) ns) (drop (suc k) ats)) (ap is_some (sym is) ∙ some)))
  where
    seam : (xs : List Addr) (y : Addr) (zs : List Addr) → (xs ++ y ∷ []) ++ zs ≡ xs ++ y ∷ zs
    seam [] y zs = refl
    seam (x ∷ xs) y zs = ap (λ more. x ∷ more) (seam xs y zs)

-- PLACES ONE AFTER THE OTHER

has-place : (ns : Places) (k : ℕ) (n : List ℕ) (d : Option (List ℕ)) → k < length ns → get_or ns k d ≡ Some n → place_of ns n ≡ None → ⊥
has-place [] k n d h e none = absurd (omega (arith, h))
has-place (p ∷ ns) zero n d h e none = true≢false (sym (ap (named n) e ∙ same_name-refl n) ∙ (none-head n p ns none).0)
has-place (p ∷ ns) (suc k) n d h e none = has-place ns k n d (omega (arith, h)) e (none-head n p ns none).1

-- the name of a place has none before it
pub fresh-before : (ns : Places) (k : ℕ) (n : List ℕ) (d : Option (List ℕ)) → AreApart ns → k < length ns → get_or ns k d ≡ Some n → place_of (take k ns) n ≡ None
fresh-before [] k n d apart h e = absurd (omega (arith, h))
fresh-before (p ∷ ns) zero n d apart h e = refl
fresh-before (p ∷ ns) (suc k) n d apart h e = place-no n p (take k ns) (not-here p apart.0) (fresh-before ns k n d apart.1 (omega (arith, h)) e)
  where
    not-here : (p : Option (List ℕ)) → IsFresh p ns → named n p ≡ false
    not-here None f = refl
    not-here (Some m) f = elim (cases_Bool (same_name m n)) [
      | inl same ↦ absurd (has-place ns k n d (omega (arith, h)) e (away ns m n same f))
      | inr other ↦ other
    ]

pub no-hole : (ns : Places) (k : ℕ) (d : Option (List ℕ)) → filter is_some ns ≡ ns → k < length ns → get_or ns k d ≡ None → ⊥
no-hole [] k d full h e = absurd (omega (arith, h))
no-hole (None ∷ ns) k d full h e = absurd (omega (arith, filter-fewer ns, ap length full))
no-hole (Some n ∷ ns) zero d full h e = none-some n (sym e)
no-hole (Some n ∷ ns) (suc k) d full h e = no-hole ns k d (ap rest full) (omega (arith, h)) e
  where
    rest : Places → Places
    rest [] = []
    rest (p ∷ ps) = ps

pub take-next : (ns : Places) (k : ℕ) (d : Option (List ℕ)) → k < length ns → take (k + 1) ns ≡ take k ns ++ get_or ns k d ∷ []
take-next ns k d h = ap (λ j. take j ns) (sym (next k)) ∙ go ns k h
  where
    go : (ns : Places) (k : ℕ) → k < length ns → take (suc k) ns ≡ take k ns ++ get_or ns k d ∷ []
    go [] k h = absurd (omega (arith, h))
    go (p ∷ ns) zero h = refl
    go (p ∷ ns) (suc k) h = ap (λ more. p ∷ more) (go ns k (omega (arith, h)))

-- ADDRESSES THAT ARE LENT

few-roots : (ns : Places) (ats : List Addr) → length (roots_of ns ats) ≤ length ns
few-roots [] ats = omega arith
few-roots (p ∷ ns) [] = omega arith
few-roots (None ∷ ns) (at ∷ ats) = omega (arith, few-roots ns ats)
few-roots (Some n ∷ ns) (at ∷ ats) = omega (arith, few-roots ns ats)

-- where no place is a hole, the roots hold the addresses
pub held-full : (ns : Places) (ats : List Addr) → length ns ≡ length ats → length ns ≡ length (roots_of ns ats) → ats ≡ held_by_all (roots_of ns ats)
held-full [] [] l full = refl
held-full [] (at ∷ ats) l full = absurd (omega (arith, l))
held-full (p ∷ ns) [] l full = absurd (omega (arith, l))
held-full (None ∷ ns) (at ∷ ats) l full = absurd (omega (arith, full, few-roots ns ats))
held-full (Some n ∷ ns) (at ∷ ats) l full = ap (λ more. at ∷ more) (held-full ns ats (omega (arith, l)) (omega (arith, full)))

-- what is written over them they hold
pub roots-held : (ns : Places) (ats w : List Addr) (n : ℕ) → length ns ≡ length ats → length ns ≡ length (roots_of ns ats) → n ≡ length ats
    → roots_of ns (take n (w ++ drop (length w) ats)) ≡ holding (roots_of ns ats) w
roots-held [] ats w n l full e = refl
roots-held (p ∷ ns) [] w n l full e = absurd (omega (arith, l))
roots-held (None ∷ ns) (at ∷ ats) w n l full e = absurd (omega (arith, full, few-roots ns ats))
roots-held (Some m ∷ ns) (at ∷ ats) [] n l full e = ap (λ j. roots_of (Some m ∷ ns) (take j (at ∷ ats))) e ∙ ap (λ more. root m at ∷ roots_of ns more) (take-length ats)
roots-held (Some m ∷ ns) (at ∷ ats) (b ∷ w) n l full e =
    ap (λ j. roots_of (Some m ∷ ns) (take j ((b ∷ w) ++ drop (length (b ∷ w)) (at ∷ ats)))) e
    ∙ ap (λ rs. root m b ∷ rs) (roots-held ns ats w (length ats) (omega (arith, l)) (omega (arith, full)) refl)

pub same-list : (one other : RootList) → one.roots ≡ other.roots → one.ready ≡ other.ready → one ≡ other
same-list one other roots ready = ap (λ rs. record { roots = rs; ready = one.ready }) roots ∙ ap (λ b. record { roots = other.roots; ready = b }) ready

-- where no place is a hole, the roots from a place on are the last ones
pub roots-behind : (ns : Places) (ats : List Addr) (k : ℕ) → length ns ≡ length ats → length (roots_of ns ats) ≡ length ns → roots_of (drop k ns) (drop k ats) ≡ drop k (roots_of ns ats)
roots-behind ns ats zero l full = refl
roots-behind [] [] (suc k) l full = refl
roots-behind [] (at ∷ ats) (suc k) l full = absurd (omega (arith, l))
roots-behind (p ∷ ns) [] (suc k) l full = absurd (omega (arith, l))
roots-behind (None ∷ ns) (at ∷ ats) (suc k) l full = absurd (omega (arith, full, few-roots ns ats))
roots-behind (Some n ∷ ns) (at ∷ ats) (suc k) l full = roots-behind ns ats k (omega (arith, l)) (omega (arith, full))

-- the first of the last ones
pub first-behind : (rs : List RootAt) (k : ℕ) → k < length rs → (0 < length (drop k rs)) × (slice_get (drop k rs) 0 ≡ slice_get rs k)
first-behind [] k h = absurd (omega (arith, h))
first-behind (r ∷ rs) zero h = (omega arith, refl)
first-behind (r ∷ rs) (suc k) h = first-behind rs k (omega (arith, h))

pub direct : (ns : Places) (ats : List Addr) (k : ℕ) → length ns ≡ length ats → length (roots_of ns ats) ≡ length ns → k < length (roots_of ns ats)
    → (0 < length (roots_of (drop k ns) (drop k ats))) × (slice_get (roots_of (drop k ns) (drop k ats)) 0 ≡ slice_get (roots_of ns ats) k)
direct ns ats k l full h =
    let first = first-behind (roots_of ns ats) k h in
    let same = roots-behind ns ats k l full in
    (subst (λ rs. 0 < length rs) (sym same) first.0, ap (λ rs. slice_get rs 0) same ∙ first.1)
