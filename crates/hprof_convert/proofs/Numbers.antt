-- The numbers that the identifiers of a list get.
use Rattle.std.proofs.Common.{◌≡◌, ◌≢◌, ℕ, zero, suc, ◌+◌, ◌<◌, ◌≤◌, ◌⊎◌, inl, inr, Bool, true, false, cond, nat_eq, List, [], ◌∷◌, ◌++◌, length, get_or, Option, None, Some, refl, ap, sym, ◌∙◌, arith, subst, length-append}
use Rattle.std.specs.Prelude.{position, is_some, Contains}
use Rattle.std.specs.Option.{option_or}
use Rattle.std.proofs.lemmas.List.Elements.{Contains-append_right, Contains-append_cases, Contains-push_cases, Contains-get_or}
use Rattle.dump_graph.specs.Firsts.{IsApart}
use Rattle.dump_graph.proofs.Positions.{position-push, position-at, apart-push, equal_from, nat_eq-same}
use Rattle.hprof_convert.specs.Names.{with_name, with_names, named, number_at, rename, IsAmong}
use Rattle.hprof_convert.proofs.Apart.{rename-apart}
use Rattle.hprof_convert.proofs.Namings.{with_names-append}

-- one more identifier: the names stay, or it stands behind them
abbrev WithName : List ℕ → ℕ → List ℕ → Type 0
WithName names id names' = (names' ≡ names) ⊎ ((names' ≡ names ++ id ∷ []) × (id ≢ 0) × (position (nat_eq id) names ≡ None))

not-0 : (id : ℕ) → nat_eq id 0 ≡ false → id ≢ 0
not-0 id other is = absurd (cc (other, ap (λ n. nat_eq n 0) is))

more-names : (names : List ℕ) (id : ℕ) → WithName names id (with_name names id)
more-names names id = by (nat_eq id 0) refl (position (nat_eq id) names) refl
  where
    by : (b : Bool) → nat_eq id 0 ≡ b → (o : Option ℕ) → position (nat_eq id) names ≡ o → WithName names id (cond b names (cond (is_some o) names (names ++ id ∷ [])))
    by true is o at = inl refl
    by false is (Some n) at = inl refl
    by false is None at = inr (refl, not-0 id is, at)

-- what has a name keeps its place
kept : (names : List ℕ) (id q n : ℕ) (names' : List ℕ) → WithName names id names' → position (nat_eq q) names ≡ Some n → position (nat_eq q) names' ≡ Some n
kept names id q n names' (inl same) is = ap (position (nat_eq q)) same ∙ is
kept names id q n names' (inr (same, some, new)) is =
    ap (position (nat_eq q)) same ∙ (position-push (nat_eq q) id names ∙ ap (λ o. option_or o (cond (nat_eq q id) (Some (length names)) None)) is)

pub names-kept : (names ids : List ℕ) (q n : ℕ) → position (nat_eq q) names ≡ Some n → position (nat_eq q) (with_names names ids) ≡ Some n
names-kept names [] q n is = is
names-kept names (id ∷ ids) q n is = names-kept (with_name names id) ids q n (kept names id q n (with_name names id) (more-names names id) is)

-- what gets a name stands behind the others
pushed : (names : List ℕ) (id q n : ℕ) → position (nat_eq q) names ≡ None → position (nat_eq q) (names ++ id ∷ []) ≡ Some n → (n ≡ length names) × (q ≡ id)
pushed names id q n none is = by (nat_eq q id) refl (sym (position-push (nat_eq q) id names ∙ ap (λ o. option_or o (cond (nat_eq q id) (Some (length names)) None)) none) ∙ is)
  where
    by : (b : Bool) → nat_eq q id ≡ b → cond b (Some (length names)) None ≡ Some n → (n ≡ length names) × (q ≡ id)
    by true same is = (cc, equal_from q id same)
    by false other is = absurd cc

got : (names : List ℕ) (id q n : ℕ) (names' : List ℕ) → WithName names id names' → position (nat_eq q) names ≡ None → position (nat_eq q) names' ≡ Some n → (n ≡ length names) × (q ≡ id)
got names id q n names' (inl same) none is = let also : position (nat_eq q) names ≡ Some n = ap (position (nat_eq q)) (sym same) ∙ is in absurd cc
got names id q n names' (inr (same, some, new)) none is = pushed names id q n none (ap (position (nat_eq q)) (sym same) ∙ is)

longer : (names : List ℕ) (id : ℕ) (names' : List ℕ) → WithName names id names' → length names ≤ length names'
longer names id names' (inl same) = omega (arith, ap length same)
longer names id names' (inr (same, some, new)) = omega (arith, ap length same, length-append names (id ∷ []))

head-contains : (id : ℕ) (ids : List ℕ) → Contains (id ∷ ids) id
head-contains id ids = Contains-get_or (id ∷ ids) 0 0 (omega arith)

pub names-behind : (names ids : List ℕ) (q n : ℕ) → position (nat_eq q) names ≡ None → position (nat_eq q) (with_names names ids) ≡ Some n → (length names ≤ n) × Contains ids q
names-behind names [] q n none is = absurd cc
names-behind names (id ∷ ids) q n none is = by (λ still. names-behind (with_name names id) ids q n still is) (position (nat_eq q) (with_name names id)) refl
  where
    by : (position (nat_eq q) (with_name names id) ≡ None → (length (with_name names id) ≤ n) × Contains ids q) → (o : Option ℕ) → position (nat_eq q) (with_name names id) ≡ o → (length names ≤ n) × Contains (id ∷ ids) q
    by later None still =
        let rest = later still in
        (omega (arith, rest.0, longer names id (with_name names id) (more-names names id)), Contains-append_right (id ∷ []) ids q rest.1)
    by later (Some m) now =
        let here = got names id q m (with_name names id) (more-names names id) none now in
        let same : Some m ≡ Some n = sym (names-kept (with_name names id) ids q m now) ∙ is in
        let equal : m ≡ n = cc in
        (omega (arith, here.0, equal), subst (λ i. Contains (id ∷ ids) i) (sym here.1) (head-contains id ids))

-- each identifier of the list but 0 gets a name
named-now : (names : List ℕ) (q : ℕ) → q ≢ 0 → (names' : List ℕ) → WithName names q names' → names' ≡ with_name names q → (n : ℕ) × (position (nat_eq q) names' ≡ Some n)
named-now names q some names' (inl same) is = by (nat_eq q 0) refl (position (nat_eq q) names) refl (sym is ∙ same)
  where
    by : (b : Bool) → nat_eq q 0 ≡ b → (o : Option ℕ) → position (nat_eq q) names ≡ o → cond b names (cond (is_some o) names (names ++ q ∷ [])) ≡ names → (n : ℕ) × (position (nat_eq q) names' ≡ Some n)
    by true is_0 o at e = absurd (some (equal_from q 0 is_0))
    by false other (Some n) at e = (n, ap (position (nat_eq q)) same ∙ at)
    by false other None at e = absurd (omega (arith, ap length e, length-append names (q ∷ [])))
named-now names q some names' (inr (same, also, new)) is =
    (length names, ap (position (nat_eq q)) same ∙ (position-push (nat_eq q) q names ∙ (ap (λ o. option_or o (cond (nat_eq q q) (Some (length names)) None)) new ∙ ap (λ b. cond b (Some (length names)) None) (nat_eq-same q))))

pub has-name : (names ids : List ℕ) (q : ℕ) → q ≢ 0 → Contains ids q → (n : ℕ) × (position (nat_eq q) (with_names names ids) ≡ Some n)
has-name names [] q some (k, within, is) = absurd (omega (arith, within))
has-name names (id ∷ ids) q some has = by (λ rest. has-name (with_name names id) ids q some rest) (Contains-append_cases (id ∷ []) ids q has)
  where
    first : Contains [] q ⊎ (id ≡ q) → (n : ℕ) × (position (nat_eq q) (with_names (with_name names id) ids) ≡ Some n)
    first (inl (k, within, is)) = absurd (omega (arith, within))
    first (inr same) =
        let here = named-now names q some (with_name names q) (more-names names q) refl in
        (here.0, subst (λ i. position (nat_eq q) (with_names (with_name names i) ids) ≡ Some here.0) (sym same) (names-kept (with_name names q) ids q here.0 here.1))

    by : (Contains ids q → (n : ℕ) × (position (nat_eq q) (with_names (with_name names id) ids) ≡ Some n)) → Contains (id ∷ []) q ⊎ Contains ids q → (n : ℕ) × (position (nat_eq q) (with_names (with_name names id) ids) ≡ Some n)
    by later (inl here) = first (Contains-push_cases [] id q here)
    by later (inr rest) = later rest

-- 0 gets none
pub no-zero : (ids : List ℕ) → position (nat_eq 0) (named ids) ≡ None
no-zero ids = from [] ids refl
  where
    one : (names : List ℕ) (id : ℕ) (names' : List ℕ) → WithName names id names' → position (nat_eq 0) names ≡ None → position (nat_eq 0) names' ≡ None
    one names id names' (inl same) none = ap (position (nat_eq 0)) same ∙ none
    one names id names' (inr (same, some, new)) none = by (position (nat_eq 0) names') refl
      where
        by : (o : Option ℕ) → position (nat_eq 0) names' ≡ o → position (nat_eq 0) names' ≡ None
        by None is = is
        by (Some n) is = absurd (some (sym (pushed names id 0 n none (ap (position (nat_eq 0)) (sym same) ∙ is)).1))

    from : (names ids : List ℕ) → position (nat_eq 0) names ≡ None → position (nat_eq 0) (with_names names ids) ≡ None
    from names [] none = none
    from names (id ∷ ids) none = from (with_name names id) ids (one names id (with_name names id) (more-names names id) none)

-- no name stands twice
names-apart : (names ids : List ℕ) → IsApart names → IsApart (with_names names ids)
names-apart names [] apart = apart
names-apart names (id ∷ ids) apart = names-apart (with_name names id) ids (one (with_name names id) (more-names names id))
  where
    one : (names' : List ℕ) → WithName names id names' → IsApart names'
    one names' (inl same) = subst IsApart (sym same) apart
    one names' (inr (same, some, new)) = subst IsApart (sym same) (apart-push names id apart new)

pub named-apart : (ids : List ℕ) → IsApart (named ids)
named-apart ids = names-apart [] ids (λ k within. absurd (omega (arith, within)))

-- ---- the laws

module _ (ids : List ℕ) where
  pub zero-stays : rename (named ids) 0 ≡ 0
  zero-stays = ap number_at (no-zero ids)

  zero-or-named : (q : ℕ) → IsAmong ids q → (q ≡ 0) ⊎ (rename (named ids) q ≢ 0)
  zero-or-named q (inl is) = inl is
  zero-or-named q (inr has) = by (nat_eq q 0) refl
    where
      by : (b : Bool) → nat_eq q 0 ≡ b → (q ≡ 0) ⊎ (rename (named ids) q ≢ 0)
      by true is = inl (equal_from q 0 is)
      by false other =
          let found = has-name [] ids q (not-0 q other) has in
          inr (λ is. absurd (omega (arith, is, ap number_at found.1)))

  pub rename-injective : (a b : ℕ) → IsAmong ids a → IsAmong ids b → rename (named ids) a ≡ rename (named ids) b → a ≡ b
  rename-injective a b among also same = by (zero-or-named a among) (zero-or-named b also)
    where
      by : (a ≡ 0) ⊎ (rename (named ids) a ≢ 0) → (b ≡ 0) ⊎ (rename (named ids) b ≢ 0) → a ≡ b
      by (inl is) (inl is') = is ∙ sym is'
      by (inl is) (inr some) = sym (rename-apart (named ids) b a (sym same) some)
      by (inr some) other = rename-apart (named ids) a b same some

  pub rename-numbered : (q : ℕ) → Contains ids q → q ≢ 0 → (1 ≤ rename (named ids) q) × (rename (named ids) q ≤ length (named ids))
  rename-numbered q has some =
      let found = has-name [] ids q some has in
      let number : rename (named ids) q ≡ found.0 + 1 = ap number_at found.1 in
      let within = position-at (nat_eq q) (named ids) found.0 0 found.1 in
      (omega (arith, number), omega (arith, number, within.0))

  pub numbers-used : (n : ℕ) → 1 ≤ n → n ≤ length (named ids) → (q : ℕ) × (Contains ids q × (rename (named ids) q ≡ n))
  numbers-used zero least within = absurd (omega (arith, least))
  numbers-used (suc n) least within =
      let q : ℕ = get_or (named ids) n 0 in
      let at = named-apart ids n (omega (arith, within)) in
      (q, ((names-behind [] ids q n refl at).1, ap number_at at ∙ omega arith))

  pub rename-in-order : (a b : ℕ) (before after : List ℕ) → ids ≡ before ++ after → Contains before a → (Contains before b → ⊥) → Contains after b → a ≢ 0 → b ≢ 0 → rename (named ids) a < rename (named ids) b
  rename-in-order a b before after split has hasn't has' some some' =
      let split' : named ids ≡ with_names (named before) after = ap named split ∙ with_names-append [] before after in
      let early = has-name [] before a some has in
      let early' = position-at (nat_eq a) (named before) early.0 0 early.1 in
      let late = has-name (named before) after b some' has' in
      let late' = names-behind (named before) after b late.0 (none (position (nat_eq b) (named before)) refl) late.1 in
      let number : rename (named ids) a ≡ early.0 + 1 = ap (λ l. rename l a) split' ∙ ap number_at (names-kept (named before) after a early.0 early.1) in
      let number' : rename (named ids) b ≡ late.0 + 1 = ap (λ l. rename l b) split' ∙ ap number_at late.1 in
      omega (arith, early'.0, late'.0, number, number')
    where
      none : (o : Option ℕ) → position (nat_eq b) (named before) ≡ o → position (nat_eq b) (named before) ≡ None
      none None is = is
      none (Some n) is = absurd (hasn't (names-behind [] before b n refl is).1)
