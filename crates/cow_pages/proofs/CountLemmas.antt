-- Counts of sharers after one of them was changed, and after a row of them.
use Rattle.std.proofs.Common.{◌≡◌, ◌≢◌, ℕ, zero, suc, ◌+◌, ◌-◌, ◌<◌, ◌≤◌, List, [], ◌∷◌, ◌++◌, length, get_or, set, take, Some, None, Option, refl, sym, ap, subst, ◌∙◌, inl, inr, arith, add-one}
use Rattle.std.specs.Prelude.{replicate}
use Rattle.std.proofs.lemmas.List.{get_or-set_same, get_or-set_other, get_or_past, get_or_append_left, get_or-append_right, length-set}
use Rattle.std.proofs.lemmas.Bool.{cases_eq, cases_lt}
use Rattle.sharers.specs.Shares.{Shares, AreTallied, count_of}
use Rattle.page_tables.specs.Grid.{one, one_held, held}
use Rattle.page_tables.specs.declared.leaf.Entry.{Entry}
use Rattle.page_tables.specs.Leaf.{Leaf}
use Rattle.cow_pages.specs.declared.store.Store.{Store}
use Rattle.cow_pages.specs.Store.{Row, frame_key, leaf_key, leaf_grid}
use Rattle.cow_pages.specs.Steps.{SharesSome, UnsharesSome, SharesLeaves}
use Rattle.page_tables.proofs.ListLemmas.{entry_read}
use Rattle.page_tables.proofs.GridLemmas.{one-yes, one-no}

pub count-here : (old new : Shares) (k v : ℕ) → new.counts ≡ set old.counts k v → k < length old.counts → count_of new k ≡ v
count-here old new k v is within = ap (λ (cs : List ℕ). get_or cs k 0) is ∙ get_or-set_same old.counts k v 0 within

pub count-other : (old new : Shares) (k v : ℕ) → new.counts ≡ set old.counts k v → (n : ℕ) → n ≢ k → count_of new n ≡ count_of old n
count-other old new k v is n off = ap (λ (cs : List ℕ). get_or cs n 0) is ∙ get_or-set_other old.counts k n v 0 off

-- what has a holder is one of the numbers
pub count-within : (s : Shares) (n : ℕ) → 0 < count_of s n → n < length s.counts
count-within s n some = elim (cases_lt n (length s.counts)) [
  | inl below ↦ below
  | inr past ↦ absurd (omega (arith, some, get_or_past s.counts n 0 past))
]

-- numbers that joined have no holder
pub count-joined : (old new : Shares) (more : ℕ) → new.counts ≡ old.counts ++ replicate more 0 → (n : ℕ) → count_of new n ≡ count_of old n
count-joined old new more is n = elim (cases_lt n (length old.counts)) [
  | inl below ↦ ap (λ (cs : List ℕ). get_or cs n 0) is ∙ get_or_append_left old.counts (replicate more 0) 0 n below
  | inr past ↦
      ap (λ (cs : List ℕ). get_or cs n 0) is ∙ get_or-append_right old.counts (replicate more 0) (length old.counts) n 0 refl past
      ∙ zeros more (n - length old.counts) ∙ sym (get_or_past old.counts n 0 past)
]
  where
    zeros : (m i : ℕ) → ◌≡◌ {A = ℕ} (get_or (replicate m 0) i 0) 0
    zeros zero i = refl
    zeros (suc m) zero = refl
    zeros (suc m) (suc i) = zeros m i

pub held-more : {E : Type 0} (key : E → ℕ) (row : List (Option E)) (i : ℕ) (x : ℕ) → i < length row → held key (take (i + 1) row) x ≡ held key (take i row) x + one_held key (get_or row i None) x
held-more key [] i x within = absurd (omega arith)
held-more key (o ∷ rest) zero x within = omega arith
held-more key (o ∷ rest) (suc i) x within =
    omega (arith, held-more key rest i x (omega arith), ap (λ n. held key (take n (o ∷ rest)) x) (add-one (suc i)), ap (λ n. held key (take n rest) x) (add-one i))

pub one_held-le : {E : Type 0} (key : E → ℕ) (o : Option E) (x : ℕ) → one_held key o x ≤ 1
one_held-le key None x = omega arith
one_held-le key (Some e) x = elim (cases_eq (key e) x) [ inl same ↦ omega (arith, one-yes (key e) x same) | inr apart ↦ omega (arith, one-no (key e) x apart) ]

pub held-le : {E : Type 0} (key : E → ℕ) (row : List (Option E)) (i : ℕ) (x : ℕ) → held key (take i row) x ≤ i
held-le key [] zero x = omega arith
held-le key [] (suc i) x = omega arith
held-le key (o ∷ rest) zero x = omega arith
held-le key (o ∷ rest) (suc i) x = omega (arith, held-le key rest i x, one_held-le key o x)

pub held-none : {E : Type 0} (key : E → ℕ) (row : List (Option E)) (x : ℕ) → held key (take 0 row) x ≡ 0
held-none key [] x = refl
held-none key (o ∷ rest) x = refl

pub take-all : {E : Type 0} (xs : List E) (n : ℕ) → length xs ≤ n → take n xs ≡ xs
take-all [] zero past = refl
take-all [] (suc n) past = refl
take-all (x ∷ xs) zero past = absurd (omega arith)
take-all (x ∷ xs) (suc n) past = ap (λ (it : List _). x ∷ it) (take-all xs n (omega arith))

-- the first of a row hold no more than the row
pub held-part : {E : Type 0} (key : E → ℕ) (row : List (Option E)) (i : ℕ) (x : ℕ) → held key (take i row) x ≤ held key row x
held-part key [] zero x = omega arith
held-part key [] (suc i) x = omega arith
held-part key (o ∷ rest) zero x = omega arith
held-part key (o ∷ rest) (suc i) x = omega (arith, held-part key rest i x)

-- a row of which one place more was shared
pub shares_next : {E : Type 0} (key : E → ℕ) (old mid new : Shares) (row : List (Option E)) (i : ℕ) (e : E)
    → ((x : ℕ) → count_of mid x ≡ count_of old x + held key (take i row) x) → i < length row → get_or row i None ≡ Some e → key e < length mid.counts
    → new.counts ≡ set mid.counts (key e) (count_of mid (key e) + 1) → (x : ℕ) → count_of new x ≡ count_of old x + held key (take (i + 1) row) x
shares_next key old mid new row i e some room is within more x =
    let step : held key (take (i + 1) row) x ≡ held key (take i row) x + one (key e) x = held-more key row i x room ∙ ap (λ (o : Option _). held key (take i row) x + one_held key o x) is in
    elim (cases_eq x (key e)) [
      | inl here ↦ omega (arith, ap (count_of new) here, count-here mid new (key e) (count_of mid (key e) + 1) more within, ap (count_of mid) here, some x, step, one-yes (key e) x (sym here))
      | inr off ↦ omega (arith, count-other mid new (key e) (count_of mid (key e) + 1) more x off, some x, step, one-no (key e) x (λ same. off (sym same)))
    ]

pub shares_skip : {E : Type 0} (key : E → ℕ) (old mid : Shares) (row : List (Option E)) (i : ℕ)
    → ((x : ℕ) → count_of mid x ≡ count_of old x + held key (take i row) x) → i < length row → get_or row i None ≡ None → (x : ℕ) → count_of mid x ≡ count_of old x + held key (take (i + 1) row) x
shares_skip key old mid row i some room is x = omega (arith, some x, held-more key row i x room, ap (λ (o : Option _). one_held key o x) is)

-- a row of which one place more has its share no longer
pub unshares_next : {E : Type 0} (key : E → ℕ) (old mid new : Shares) (row : List (Option E)) (i : ℕ) (e : E)
    → ((x : ℕ) → count_of mid x + held key (take i row) x ≡ count_of old x) → i < length row → get_or row i None ≡ Some e → 0 < count_of mid (key e)
    → new.counts ≡ set mid.counts (key e) (count_of mid (key e) - 1) → (x : ℕ) → count_of new x + held key (take (i + 1) row) x ≡ count_of old x
unshares_next key old mid new row i e some room is held less x =
    let step : Rattle.page_tables.specs.Grid.held key (take (i + 1) row) x ≡ Rattle.page_tables.specs.Grid.held key (take i row) x + one (key e) x =
    held-more key row i x room ∙ ap (λ (o : Option _). Rattle.page_tables.specs.Grid.held key (take i row) x + one_held key o x) is in
    let within = count-within mid (key e) held in
    elim (cases_eq x (key e)) [
      | inl here ↦
          omega (arith, ap (count_of new) here, count-here mid new (key e) (count_of mid (key e) - 1) less within, ap (count_of mid) here, held, some x, step, one-yes (key e) x (sym here))
      | inr off ↦ omega (arith, count-other mid new (key e) (count_of mid (key e) - 1) less x off, some x, step, one-no (key e) x (λ same. off (sym same)))
    ]

pub unshares_skip : {E : Type 0} (key : E → ℕ) (old mid : Shares) (row : List (Option E)) (i : ℕ)
    → ((x : ℕ) → count_of mid x + held key (take i row) x ≡ count_of old x) → i < length row → get_or row i None ≡ None → (x : ℕ) → count_of mid x + held key (take (i + 1) row) x ≡ count_of old x
unshares_skip key old mid row i some room is x = omega (arith, some x, held-more key row i x room, ap (λ (o : Option _). one_held key o x) is)

-- the share of a place that is still to go is there
pub unshares_there : {E : Type 0} (key : E → ℕ) (old mid : Shares) (row : List (Option E)) (i : ℕ) (e : E)
    → ((x : ℕ) → count_of mid x + held key (take i row) x ≡ count_of old x) → i < length row → get_or row i None ≡ Some e → held key row (key e) ≤ count_of old (key e) → 0 < count_of mid (key e)
unshares_there key old mid row i e some room is all =
    omega (
      arith,
      some (key e),
      all,
      held-part key row (i + 1) (key e),
      held-more key row i (key e) room,
      ap (λ (o : Option _). one_held key o (key e)) is,
      one-yes (key e) (key e) refl,
    )

-- one more frame of a leaf was shared
pub share_step : (s mid new : Store) (l i : ℕ) (e : Entry) (shares : Shares) → SharesSome s mid l i → i < length (get_or (leaf_grid s) l []) → get_or (get_or (leaf_grid s) l []) i None ≡ Some e
    → e.frame < length mid.frame_counts.counts → shares.counts ≡ set mid.frame_counts.counts e.frame (count_of mid.frame_counts e.frame + 1) → shares.spare ≡ mid.frame_counts.spare → AreTallied shares
    → new ≡ record mid { frame_counts = shares } → SharesSome s new l (i + 1)
share_step s mid new l i e shares some room is within more spare tallied same =
    subst (λ (it : Store). SharesSome s it l (i + 1)) (sym same)
    (record {
      sharers = shares_next frame_key s.frame_counts mid.frame_counts shares (get_or (leaf_grid s) l []) i e some.sharers room is within more;
      spare = spare ∙ some.spare;
      len = ap (λ (cs : List ℕ). length cs) more ∙ length-set mid.frame_counts.counts e.frame (count_of mid.frame_counts e.frame + 1) ∙ some.len;
      tallied = tallied;
      rest = ap (λ (m : Store). record m { frame_counts = shares }) some.rest;
    })

pub share_none : (s mid new : Store) (l i : ℕ) → SharesSome s mid l i → i < length (get_or (leaf_grid s) l []) → get_or (get_or (leaf_grid s) l []) i None ≡ None → new ≡ mid → SharesSome s new l (i + 1)
share_none s mid new l i some room is same =
    subst (λ (it : Store). SharesSome s it l (i + 1)) (sym same)
    (record {
      sharers = shares_skip frame_key s.frame_counts mid.frame_counts (get_or (leaf_grid s) l []) i some.sharers room is;
      spare = some.spare;
      len = some.len;
      tallied = some.tallied;
      rest = some.rest;
    })

-- one more frame of a leaf was shared no longer
pub unshare_step : (s mid new : Store) (l i : ℕ) (e : Entry) (shares : Shares) → UnsharesSome s mid l i → i < length (get_or (leaf_grid s) l []) → get_or (get_or (leaf_grid s) l []) i None ≡ Some e
    → 0 < count_of mid.frame_counts e.frame → shares.counts ≡ set mid.frame_counts.counts e.frame (count_of mid.frame_counts e.frame - 1) → mid.frame_counts.spare ≤ shares.spare → AreTallied shares
    → new ≡ record mid { frame_counts = shares } → UnsharesSome s new l (i + 1)
unshare_step s mid new l i e shares some room is some_held less spare tallied same =
    subst (λ (it : Store). UnsharesSome s it l (i + 1)) (sym same)
    (record {
      sharers = unshares_next frame_key s.frame_counts mid.frame_counts shares (get_or (leaf_grid s) l []) i e some.sharers room is some_held less;
      spare = omega (arith, spare, some.spare);
      len = ap (λ (cs : List ℕ). length cs) less ∙ length-set mid.frame_counts.counts e.frame (count_of mid.frame_counts e.frame - 1) ∙ some.len;
      tallied = tallied;
      rest = ap (λ (m : Store). record m { frame_counts = shares }) some.rest;
    })

pub unshare_none : (s mid new : Store) (l i : ℕ) → UnsharesSome s mid l i → i < length (get_or (leaf_grid s) l []) → get_or (get_or (leaf_grid s) l []) i None ≡ None → new ≡ mid → UnsharesSome s new l (i + 1)
unshare_none s mid new l i some room is same =
    subst (λ (it : Store). UnsharesSome s it l (i + 1)) (sym same)
    (record {
      sharers = unshares_skip frame_key s.frame_counts mid.frame_counts (get_or (leaf_grid s) l []) i some.sharers room is;
      spare = some.spare;
      len = some.len;
      tallied = some.tallied;
      rest = some.rest;
    })

pub share_leaf : (old mid new : Shares) (row : Row) (i l : ℕ) → SharesLeaves old mid row i → i < length row → get_or row i None ≡ Some l → l < length mid.counts
    → new.counts ≡ set mid.counts l (count_of mid l + 1) → new.spare ≡ mid.spare → AreTallied new → SharesLeaves old new row (i + 1)
share_leaf old mid new row i l some room is within more spare tallied = record {
  sharers = shares_next leaf_key old mid new row i l some.sharers room is within more;
  spare = spare ∙ some.spare;
  len = ap (λ (cs : List ℕ). length cs) more ∙ length-set mid.counts l (count_of mid l + 1) ∙ some.len;
  tallied = tallied;
}

pub share_no_leaf : (old mid : Shares) (row : Row) (i : ℕ) → SharesLeaves old mid row i → i < length row → get_or row i None ≡ None → SharesLeaves old mid row (i + 1)
share_no_leaf old mid row i some room is = record {
  sharers = shares_skip leaf_key old mid row i some.sharers room is;
  spare = some.spare;
  len = some.len;
  tallied = some.tallied;
}

-- the entry that the code read
pub read_slot : (s mid : Store) (l i : ℕ) (x : Leaf) (o : Option Entry) → mid.leaves.items ≡ s.leaves.items → l < length s.leaves.items → x ≡ get_or mid.leaves.items l x → get_or x.entries i None ≡ o
    → get_or (get_or (leaf_grid s) l []) i None ≡ o
read_slot s mid l i x o same within at is =
    ap (λ (row : List (Option Entry)). get_or row i None) (entry_read s.leaves.items l x within (at ∙ ap (λ (ls : List Leaf). get_or ls l x) same)) ∙ is
