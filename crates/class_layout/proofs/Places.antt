-- Fields placed one after the other, and group by group.
use Rattle.std.proofs.Common.{◌≡◌, ℕ, ◌+◌, ◌<◌, ◌≤◌, ◌⊎◌, Bool, List, [], ◌∷◌, ◌++◌, Some, length, filter, take, set, get_or, nat_eq, slice_get, slice_index, refl, sym, ap, subst, ◌∙◌, inl, inr, arith, add-one, not, ◌&&◌, lit≤}
use Rattle.std.proofs.lemmas.List.{take_more, get_or-set_same, get_or-set_other}
use Rattle.std.proofs.lemmas.Option.{slice_get_within, slice_get_read, same_Some}
use Rattle.std.proofs.lemmas.Bool.{cases_lt, cases_eq, eq-eqb, ne_eqb}
use Rattle.indexmap.proofs.SetLemmas.{filter_skip, filter_keep}
use Rattle.class_layout.specs.declared.kind.Kind.{Kind}
use Rattle.class_layout.specs.declared.kind.Kind.TheVariants.{Ref}
use Rattle.class_layout.specs.declared.kind.FieldDecl.{FieldDecl}
use Rattle.class_layout.specs.Kinds.{kind_bytes, is_ref, next_multiple}
use Rattle.class_layout.specs.Layout.{Placed, Laid, place_field, place_fields, in_layout_order, lay_out}
use Rattle.class_layout.specs.Placing.{rank_of, has_rank, ranked, IsIn, placed_at, ArePlaced}
use Rattle.class_layout.proofs.Lists.{at_some, if_some}

module _ {X : Type 0} where
  pub IsIn-left : (x : X) (xs ys : List X) → IsIn x xs → IsIn x (xs ++ ys)
  IsIn-left x [] ys h = absurd h
  IsIn-left x (y ∷ xs) ys h = elim h [ inl e ↦ inl e | inr r ↦ inr (IsIn-left x xs ys r) ]

  pub IsIn-right : (x : X) (xs ys : List X) → IsIn x ys → IsIn x (xs ++ ys)
  IsIn-right x [] ys h = h
  IsIn-right x (y ∷ xs) ys h = inr (IsIn-right x xs ys h)

  pub IsIn-last : (x : X) (xs : List X) → IsIn x (xs ++ x ∷ [])
  IsIn-last x [] = inl refl
  IsIn-last x (y ∷ xs) = inr (IsIn-last x xs)

pub place_fields-append : (weak : Bool) (laid : Laid) (xs ys : List FieldDecl) → place_fields weak laid (xs ++ ys) ≡ place_fields weak (place_fields weak laid xs) ys
place_fields-append weak laid [] ys = refl
place_fields-append weak laid (x ∷ xs) ys = place_fields-append weak (place_field weak laid x) xs ys

-- a place stays, whatever is placed behind it
pub IsIn-place_fields : (weak : Bool) (laid : Laid) (fs : List FieldDecl) (x : Placed) → IsIn x laid.fields → IsIn x (place_fields weak laid fs).fields
IsIn-place_fields weak laid [] x h = h
IsIn-place_fields weak laid (f ∷ fs) x h = IsIn-place_fields weak (place_field weak laid f) fs x (IsIn-left x laid.fields _ h)

module _ (weak : Bool) (laid : Laid) (fs : List FieldDecl) (os : List ℕ) (r i : ℕ) (f : FieldDecl) (at : slice_get fs i ≡ Some f) where
  -- one field more, of the group
  pub ArePlaced-yes : rank_of f.kind ≡ r → i < length os → ArePlaced weak laid fs os r i
      → ArePlaced weak (place_field weak laid f) fs (set os i (next_multiple (kind_bytes f.kind) laid.end)) r (i + 1)
  ArePlaced-yes e within done j =
      let offset = next_multiple (kind_bytes f.kind) laid.end in
      if_some _ (slice_get fs j) (λ g there h.
      elim (cases_eq j i) [
        | inl same ↦
            let g-is : f ≡ g = same_Some f g (sym at ∙ ap (slice_get fs) (sym same) ∙ there) in
            let o-is : slice_index (set os i offset) j ≡ offset = ap (slice_index (set os i offset)) same ∙ get_or-set_same os i offset 0 within in
            let P : FieldDecl → ℕ → Type 0 = λ d o. IsIn (placed_at weak d o) (place_field weak laid f).fields in
            subst (λ o. P g o) (sym o-is) (subst (λ d. P d offset) g-is (IsIn-last (placed_at weak f offset) laid.fields))
        | inr other ↦
            let o-is : slice_index (set os i offset) j ≡ slice_index os j = get_or-set_other os i j offset 0 other in
            let old : (rank_of g.kind < r) ⊎ ((rank_of g.kind ≡ r) × (j < i)) = elim h [ inl l ↦ inl l | inr p ↦ inr (p.0, omega arith) ] in
            let P : ℕ → Type 0 = λ o. IsIn (placed_at weak g o) (place_field weak laid f).fields in
            subst P (sym o-is) (IsIn-left _ laid.fields _ (at_some _ (slice_get fs j) g there (done j) old))
      ])

  -- one field more, of another group
  pub ArePlaced-no : (rank_of f.kind ≡ r → ⊥) → ArePlaced weak laid fs os r i → ArePlaced weak laid fs os r (i + 1)
  ArePlaced-no ne done j =
      if_some _ (slice_get fs j) (λ g there h.
      let old : (rank_of g.kind < r) ⊎ ((rank_of g.kind ≡ r) × (j < i)) =
      elim h [
        | inl l ↦ inl l
        | inr p ↦
            elim (cases_eq j i) [
              | inl same ↦
                  let g-is : f ≡ g = same_Some f g (sym at ∙ ap (slice_get fs) (sym same) ∙ there) in
                  absurd (ne (ap (λ d. rank_of d.kind) g-is ∙ p.0))
              | inr other ↦ inr (p.0, omega arith)
            ]
      ]
      in
      at_some _ (slice_get fs j) g there (done j) old)

-- all fields of a group are placed
pub ArePlaced-group : (weak : Bool) (laid : Laid) (fs : List FieldDecl) (os : List ℕ) (r : ℕ) → ArePlaced weak laid fs os r (length fs) → ArePlaced weak laid fs os (r + 1) 0
ArePlaced-group weak laid fs os r done j =
    if_some _ (slice_get fs j) (λ g there h.
    let old : (rank_of g.kind < r) ⊎ ((rank_of g.kind ≡ r) × (j < length fs)) =
    elim h [
      | inl l ↦ elim (cases_lt (rank_of g.kind) r) [ inl less ↦ inl less | inr more ↦ inr (omega arith, slice_get_within fs j g there) ]
      | inr p ↦ absurd (omega (arith, p.1))
    ]
    in
    at_some _ (slice_get fs j) g there (done j) old)

-- a field more in the list of those that are to be placed
pub place_fields-more_yes : (weak : Bool) (laid : Laid) (fs : List FieldDecl) (r i : ℕ) (f : FieldDecl) → i < length fs → f ≡ get_or fs i f → rank_of f.kind ≡ r
    → place_fields weak laid (filter (has_rank r) (take (i + 1) fs)) ≡ place_field weak (place_fields weak laid (filter (has_rank r) (take i fs))) f
place_fields-more_yes weak laid fs r i f within f-is e =
    let t : take (i + 1) fs ≡ take i fs ++ f ∷ [] = take_more fs i f within ∙ ap (λ g. take i fs ++ g ∷ []) (sym f-is) in
    ap (λ gs. place_fields weak laid (filter (has_rank r) gs)) t ∙ ap (place_fields weak laid) (filter_keep (has_rank r) (take i fs) f (eq-eqb (rank_of f.kind) r e))
    ∙ place_fields-append weak laid (filter (has_rank r) (take i fs)) (f ∷ [])

pub place_fields-more_no : (weak : Bool) (laid : Laid) (fs : List FieldDecl) (r i : ℕ) (f : FieldDecl) → i < length fs → f ≡ get_or fs i f → (rank_of f.kind ≡ r → ⊥)
    → place_fields weak laid (filter (has_rank r) (take (i + 1) fs)) ≡ place_fields weak laid (filter (has_rank r) (take i fs))
place_fields-more_no weak laid fs r i f within f-is ne =
    let t : take (i + 1) fs ≡ take i fs ++ f ∷ [] = take_more fs i f within ∙ ap (λ g. take i fs ++ g ∷ []) (sym f-is) in
    ap (λ gs. place_fields weak laid (filter (has_rank r) gs)) t ∙ ap (place_fields weak laid) (filter_skip (has_rank r) (take i fs) f (ne_eqb (rank_of f.kind) r ne))

module _ (weak : Bool) (laid : Laid) (fs : List FieldDecl) (os next : List ℕ) (r i : ℕ) (f : FieldDecl) (within : i < length fs) (f-is : f ≡ get_or fs i f) where
  -- the step of the loop over the fields
  pub places-yes : (from offset : ℕ) → rank_of f.kind ≡ r → length os ≡ length fs
      → (place_fields weak laid (filter (has_rank r) (take i fs))).end ≡ from → offset ≡ next_multiple (kind_bytes f.kind) from → next ≡ set os i offset
      → ArePlaced weak (place_fields weak laid (filter (has_rank r) (take i fs))) fs os r i
      → ArePlaced weak (place_fields weak laid (filter (has_rank r) (take (i + 1) fs))) fs next r (i + 1)
  places-yes from offset e long ends o-is next-is done =
      let before = place_fields weak laid (filter (has_rank r) (take i fs)) in
      let at : slice_get fs i ≡ Some f = slice_get_read fs (length fs) i f refl within f-is in
      let new-is : next ≡ set os i (next_multiple (kind_bytes f.kind) before.end) = next-is ∙ ap (set os i) (o-is ∙ ap (next_multiple (kind_bytes f.kind)) (sym ends)) in
      let P : Laid → List ℕ → Type 0 = λ l ns. ArePlaced weak l fs ns r (i + 1) in
      subst (λ l. P l next) (sym (place_fields-more_yes weak laid fs r i f within f-is e))
      (subst (λ ns. P (place_field weak before f) ns) (sym new-is) (ArePlaced-yes weak before fs os r i f at e (omega arith) done))

  pub places-no : (rank_of f.kind ≡ r → ⊥) → next ≡ os
      → ArePlaced weak (place_fields weak laid (filter (has_rank r) (take i fs))) fs os r i
      → ArePlaced weak (place_fields weak laid (filter (has_rank r) (take (i + 1) fs))) fs next r (i + 1)
  places-no ne next-is done =
      let before = place_fields weak laid (filter (has_rank r) (take i fs)) in
      let at : slice_get fs i ≡ Some f = slice_get_read fs (length fs) i f refl within f-is in
      let P : Laid → List ℕ → Type 0 = λ l ns. ArePlaced weak l fs ns r (i + 1) in
      subst (λ l. P l next) (sym (place_fields-more_no weak laid fs r i f within f-is ne)) (subst (λ ns. P before ns) (sym next-is) (ArePlaced-no weak before fs os r i f at ne done))

  -- where the last field ends
  pub end-yes : (from offset bytes : ℕ) → rank_of f.kind ≡ r → (place_fields weak laid (filter (has_rank r) (take i fs))).end ≡ from
      → offset ≡ next_multiple (kind_bytes f.kind) from → bytes ≡ kind_bytes f.kind
      → (place_fields weak laid (filter (has_rank r) (take (i + 1) fs))).end ≡ offset + bytes
  end-yes from offset bytes e ends o-is b-is =
      ap (λ l. l.end) (place_fields-more_yes weak laid fs r i f within f-is e) ∙ ap (λ n. next_multiple (kind_bytes f.kind) n + kind_bytes f.kind) ends
      ∙ sym (ap (λ n. n + bytes) o-is ∙ ap (λ b. next_multiple (kind_bytes f.kind) from + b) b-is)

  pub end-no : (rank_of f.kind ≡ r → ⊥) → (place_fields weak laid (filter (has_rank r) (take (i + 1) fs))).end ≡ (place_fields weak laid (filter (has_rank r) (take i fs))).end
  end-no ne = ap (λ l. l.end) (place_fields-more_no weak laid fs r i f within f-is ne)

-- one group more
pub place_fields-ranked : (weak : Bool) (laid : Laid) (fs : List FieldDecl) (r : ℕ)
    → place_fields weak laid (ranked fs (r + 1)) ≡ place_fields weak (place_fields weak laid (ranked fs r)) (filter (has_rank r) fs)
place_fields-ranked weak laid fs r = ap (λ n. place_fields weak laid (ranked fs n)) (add-one r) ∙ place_fields-append weak laid (ranked fs r) (filter (has_rank r) fs)

rank_0 : (k : Kind) → nat_eq (rank_of k) 0 ≡ is_ref k
rank_0 k = elim k as (λ k. nat_eq (rank_of k) 0 ≡ is_ref k) [ Ref ↦ refl | _ ↦ refl ]

rank_1 : (k : Kind) → nat_eq (rank_of k) 1 ≡ (not (is_ref k) && nat_eq (kind_bytes k) 8)
rank_1 k = elim k as (λ k. nat_eq (rank_of k) 1 ≡ (not (is_ref k) && nat_eq (kind_bytes k) 8)) [ Ref ↦ refl | _ ↦ refl ]

rank_2 : (k : Kind) → nat_eq (rank_of k) 2 ≡ (not (is_ref k) && nat_eq (kind_bytes k) 4)
rank_2 k = elim k as (λ k. nat_eq (rank_of k) 2 ≡ (not (is_ref k) && nat_eq (kind_bytes k) 4)) [ Ref ↦ refl | _ ↦ refl ]

rank_3 : (k : Kind) → nat_eq (rank_of k) 3 ≡ (not (is_ref k) && nat_eq (kind_bytes k) 2)
rank_3 k = elim k as (λ k. nat_eq (rank_of k) 3 ≡ (not (is_ref k) && nat_eq (kind_bytes k) 2)) [ Ref ↦ refl | _ ↦ refl ]

rank_4 : (k : Kind) → nat_eq (rank_of k) 4 ≡ (not (is_ref k) && nat_eq (kind_bytes k) 1)
rank_4 k = elim k as (λ k. nat_eq (rank_of k) 4 ≡ (not (is_ref k) && nat_eq (kind_bytes k) 1)) [ Ref ↦ refl | _ ↦ refl ]

-- the five groups are the fields in layout order
pub ranked_all : (fs : List FieldDecl) → ranked fs 5 ≡ in_layout_order fs
ranked_all fs =
    λ j. filter (λ f. rank_0 f.kind j) fs ++ filter (λ f. rank_1 f.kind j) fs ++ filter (λ f. rank_2 f.kind j) fs ++ filter (λ f. rank_3 f.kind j) fs ++ filter (λ f. rank_4 f.kind j) fs

pub lay_out-ranked : (weak : Bool) (laid : Laid) (fs : List FieldDecl) (r : ℕ) → r ≡ 5 → place_fields weak laid (ranked fs r) ≡ lay_out weak laid fs
lay_out-ranked weak laid fs r e = ap (λ n. place_fields weak laid (ranked fs n)) e ∙ ap (place_fields weak laid) (ranked_all fs)

pub kind_bytes-le : (k : Kind) → kind_bytes k ≤ 8
kind_bytes-le k = elim k as (λ k. kind_bytes k ≤ 8) [ Ref ↦ lit≤ tt | _ ↦ lit≤ tt ]
