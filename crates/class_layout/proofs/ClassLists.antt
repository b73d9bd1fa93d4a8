-- What holds of each list of classes that `define` makes.
use Rattle.std.proofs.Common.{◌≡◌, ℕ, zero, suc, ◌+◌, ◌*◌, ◌<◌, ◌≤◌, ◌⊎◌, Bool, false, ◌||◌, is_some, List, [], ◌∷◌, ◌++◌, Some, IfSome, Ok, length, nat_eq, slice_get, unwrap_or, refl, sym, ap, subst, ◌∙◌, inl, inr, arith, length-append, append_assoc, lit≤}
use Rattle.std.proofs.lemmas.Option.{slice_get_past}
use Rattle.std.proofs.lemmas.Bool.{cases_order, lt-leb}
use Rattle.model_numbers.specs.Numbers.{class_limit, field_limit}
use Rattle.class_layout.specs.declared.kind.FieldDecl.{FieldDecl}
use Rattle.class_layout.specs.Layout.{bare, lay_out}
use Rattle.class_layout.specs.Names.{same_name}
use Rattle.class_layout.specs.ClassList.{Class, builtin_classes, layouts, layout_of, number_of, occurs_in, names_repeat, define_class, define_new, define_under, define_after_limit, define_after_fields, IsEarlier, IsClassList}
use Rattle.class_layout.specs.Defining.{IsDefinable}
use Rattle.class_layout.proofs.Lists.{if_some, at_some, slice_get-push, position-append_left, position-append_new}
use Rattle.class_layout.proofs.Layouts.{length-layouts, layout_of-push_old, layout_of-push_new}
use Rattle.class_layout.proofs.Uniqueness.{same_name-refl, names_repeat-lay_out, lay_out-near}

-- past the end of the list there is nothing but the header
pub layout_of-past : (cs : List Class) (k : ℕ) → length cs ≤ k → layout_of cs k ≡ bare
layout_of-past cs k h = ap (λ o. unwrap_or o bare) (slice_get_past (layouts cs) k (omega (arith, length-layouts cs)))

-- the list that `define` starts from
pub IsClassList-builtin : IsClassList builtin_classes
IsClassList-builtin = record {
  builtin = ([], refl);
  few = lit≤ tt;
  parents = parents;
  names = names;
  fields = fields;
  ends = ends;
}
  where
    parents : (k : ℕ) → IfSome (slice_get builtin_classes k) (λ c. IsEarlier k c.parent)
    parents zero = refl
    parents (suc zero) = omega arith
    parents (suc (suc k)) = tt

    names : (k : ℕ) → IfSome (slice_get builtin_classes k) (λ c. number_of builtin_classes c.name ≡ Some k)
    names zero = refl
    names (suc zero) = refl
    names (suc (suc k)) = tt

    fields : (k : ℕ) → names_repeat (layout_of builtin_classes k).fields ≡ false
    fields zero = refl
    fields (suc zero) = refl
    fields (suc (suc k)) = refl

    ends : (k : ℕ) → (layout_of builtin_classes k).end ≤ 8 + 61440 * k
    ends zero = lit≤ tt
    ends (suc zero) = lit≤ tt
    ends (suc (suc k)) = omega arith

module _ (cs : List Class) (name : List ℕ) (p : ℕ) (fs : List FieldDecl) (formed : IsClassList cs) (new : IsDefinable cs name p fs) (short : length fs ≤ field_limit) where
  abbrev pub added : Class
  added = record { name = name; parent = Some p; fields = fs }

  abbrev pub grown : List Class
  grown = cs ++ added ∷ []

  abbrev pub is_weak : Bool
  is_weak = nat_eq (length cs) 1

  pub layout_of-added : layout_of grown (length cs) ≡ lay_out is_weak (layout_of cs p) fs
  layout_of-added = layout_of-push_new cs added []

  grown_layout : (k : ℕ) → (layout_of grown k ≡ layout_of cs k) ⊎ ((k ≡ length cs) × (layout_of grown k ≡ lay_out is_weak (layout_of cs p) fs))
  grown_layout k =
      elim (cases_order k (length cs)) [
        | inl e ↦ inr (e, ap (layout_of grown) e ∙ layout_of-added)
        | inr o ↦
            elim o [
              | inl less ↦ inl (layout_of-push_old cs (added ∷ []) k less)
              | inr more ↦ inl (layout_of-past grown k (omega (arith, length-append cs (added ∷ []))) ∙ sym (layout_of-past cs k (omega arith)))
            ]
      ]

  pub IsClassList-grown : IsClassList grown
  IsClassList-grown = record {
    builtin = (formed.builtin.0 ++ added ∷ [], ap (λ ds. ds ++ added ∷ []) formed.builtin.1 ∙ append_assoc builtin_classes formed.builtin.0 (added ∷ []));
    few = omega (arith, length-append cs (added ∷ []), new.room);
    parents = λ k. if_some _ (slice_get grown k) (λ c at.
        elim (slice_get-push cs added k c at) [
          | inl old ↦ at_some (λ d. IsEarlier k d.parent) (slice_get cs k) c old.1 (formed.parents k)
          | inr last ↦
              let e : p < k = omega (arith, new.super_before, last.0) in
              subst (λ d. IsEarlier k d.parent) last.1 e
        ]);
    names = λ k. if_some _ (slice_get grown k) (λ c at.
        elim (slice_get-push cs added k c at) [
          | inl old ↦ position-append_left (λ d. same_name d.name c.name) cs (added ∷ []) k (at_some (λ d. number_of cs d.name ≡ Some k) (slice_get cs k) c old.1 (formed.names k))
          | inr last ↦
              let e : number_of grown name ≡ Some (length cs) = position-append_new (λ d. same_name d.name name) cs added [] new.fresh (same_name-refl name) in
              subst (λ d. number_of grown d.name ≡ Some k) last.1 (e ∙ ap Some (sym last.0))
        ]);
    fields = λ k.
        elim (grown_layout k) [
          | inl e ↦ ap (λ l. names_repeat l.fields) e ∙ formed.fields k
          | inr e ↦ ap (λ l. names_repeat l.fields) e.1 ∙ names_repeat-lay_out is_weak (layout_of cs p) fs (formed.fields p) new.once new.apart
        ];
    ends = λ k.
        elim (grown_layout k) [
          | inl e ↦ omega (arith, ap (λ l. l.end) e, formed.ends k)
          | inr e ↦ omega (arith, ap (λ l. l.end) e.1, lay_out-near is_weak (layout_of cs p) fs, formed.ends p, new.super_before, e.0)
        ];
  }

-- what `define_class` gives where no refusal fits
pub define_class-definable : (cs : List Class) (name parent : List ℕ) (p : ℕ) (fs : List FieldDecl) → number_of cs parent ≡ Some p → IsDefinable cs name p fs
    → define_class cs name parent fs ≡ Ok (cs ++ record { name = name; parent = Some p; fields = fs } ∷ [])
define_class-definable cs name parent p fs found new =
    let c : Class = record { name = name; parent = Some p; fields = fs } in
    ap (λ o. define_new cs name parent fs (is_some o)) new.fresh
    ∙ ap (λ o. define_under cs name o fs) found
    ∙ ap (define_after_limit cs name p fs) (lt-leb class_limit (length cs) new.room)
    ∙ ap (λ b. define_after_fields cs c (b || occurs_in (layout_of cs p) fs)) new.once
    ∙ ap (define_after_fields cs c) new.apart
