-- Rows that are copies of other rows stand for the same classes.
use Rattle.std.proofs.Common.{◌≡◌, ℕ, zero, suc, ◌+◌, ◌*◌, List, [], ◌∷◌, Some, length, nat_eq, slice_get, slice_index, refl, sym, ap, subst, ◌∙◌, arith}
use Rattle.std.specs.List.{AllZip}
use Rattle.std.proofs.lemmas.Option.{none-some}
use Rattle.class_layout.specs.declared.row.Row.{Row}
use Rattle.class_layout.specs.Layout.{references}
use Rattle.class_layout.specs.ClassList.{Class, layout_of, superclass_layout, IsClassList}
use Rattle.class_layout.specs.Rows.{classes_of, ref_at, IsRow, AreRows}
use Rattle.class_layout.proofs.Lists.{if_some, at_some}

-- b says what a says
pub record IsSameRow (a b : Row) : Type 0 where
  pub super : b.parent ≡ a.parent
  pub own : b.fields.items ≡ a.fields.items
  pub offsets : b.offsets.items ≡ a.offsets.items
  pub before : b.refs_before ≡ a.refs_before
  pub refs : b.refs ≡ a.refs
  pub first : b.first_ref ≡ a.first_ref
  pub ends : b.end ≡ a.end

IsRow-same : (cs : List Class) (k : ℕ) (n : List ℕ) (a b : Row) → IsSameRow a b → IsRow cs k n a → IsRow cs k n b
IsRow-same cs k n a b same is = record {
  at = is.at ∙ ap Some (sym (λ i. record { name = n; parent = same.super i; fields = same.own i }));
  end = same.ends ∙ is.end;
  long = ap length same.offsets ∙ is.long ∙ sym (ap length same.own);
  places = λ j. if_some _ (slice_get b.fields.items j) (λ f there.
      at_some _ (slice_get a.fields.items j) f (sym (ap (λ gs. slice_get gs j) same.own) ∙ there) (is.places j)
      ∙ ap (λ os. Some (record { kind = f.kind; offset = slice_index os j; weak = nat_eq k 1 })) (sym same.offsets));
  before = same.before ∙ is.before ∙ ap (λ o. length (references (superclass_layout cs o))) (sym same.super);
  refs = is.refs ∙ omega (arith, same.before, same.refs);
  ref_places = λ i less.
      ap (λ m. slice_get (references (layout_of cs k)) (m + i)) same.before ∙ is.ref_places i (omega (arith, same.refs)) ∙ ap (λ o. Some (ref_at (nat_eq k 1) (o + 4 * i))) (sym same.first);
  few_refs = omega (arith, same.before, same.refs, is.few_refs);
  ref_room = omega (arith, same.first, same.refs, is.ref_room);
}

module _ (R : List ℕ × Row → List ℕ × Row → Type 0) (says : (x y : List ℕ × Row) → R x y → (y.0 ≡ x.0) × IsSameRow x.1 y.1) where
  classes_of-copied : (es fs : List (List ℕ × Row)) → AllZip R es fs → classes_of fs ≡ classes_of es
  classes_of-copied [] [] h = refl
  classes_of-copied [] (y ∷ fs) h = absurd h
  classes_of-copied (x ∷ es) [] h = absurd h
  classes_of-copied (x ∷ es) (y ∷ fs) h =
      let s = says x y h.0 in
      λ i. record { name = s.0 i; parent = s.1.super i; fields = s.1.own i } ∷ classes_of-copied es fs h.1 i

  -- the entry of which another one is a copy
  source : (es fs : List (List ℕ × Row)) (k : ℕ) (y : List ℕ × Row) → AllZip R es fs → slice_get fs k ≡ Some y → (x : List ℕ × Row) × (slice_get es k ≡ Some x) × R x y
  source [] [] k y h e = absurd (none-some y e)
  source [] (z ∷ fs) k y h e = absurd h
  source (x ∷ es) [] k y h e = absurd h
  source (x ∷ es) (z ∷ fs) zero y h e = let e' : z ≡ y = cc in (x, refl, subst (R x) e' h.0)
  source (x ∷ es) (z ∷ fs) (suc k) y h e = source es fs k y h.1 e

  -- a copy of the entries stands for the same classes
  pub copied_rows : (es fs : List (List ℕ × Row)) → AllZip R es fs → AreRows es → (classes_of fs ≡ classes_of es) × AreRows fs
  copied_rows es fs h rows =
      let e = sym (classes_of-copied es fs h) in (
        sym e,
        record {
          formed = subst IsClassList e rows.formed;
          rows = λ k. if_some _ (slice_get fs k) (λ y there.
              let s = source es fs k y h there in
              let w = says s.0 y s.2 in
              let at : IsRow (classes_of es) k s.0.0 s.0.1 = at_some (λ x. IsRow (classes_of es) k x.0 x.1) (slice_get es k) s.0 s.1 (rows.rows k) in
              subst (λ cs. IsRow cs k y.0 y.1) e (IsRow-same (classes_of es) k y.0 s.0.1 y.1 w.1 (subst (λ n. IsRow (classes_of es) k n s.0.1) (sym w.0) at)));
        },
      )
