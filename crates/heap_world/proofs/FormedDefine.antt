-- What a class line makes of a list of classes.
use Rattle.std.proofs.Common.{◌≡◌, ℕ, ◌<◌, ◌≤◌, Bool, true, false, true≢false, ◌||◌, is_some, List, [], ◌∷◌, ◌++◌, Option, None, Some, IfOk, length, nat_le, refl}
use Rattle.std.proofs.lemmas.Bool.{or_parts, leb-false}
use Rattle.std.proofs.lemmas.List.Quantifiers.{position-Some}
use Rattle.model_numbers.specs.Numbers.{field_limit}
use Rattle.class_layout.specs.declared.kind.FieldDecl.{FieldDecl}
use Rattle.class_layout.specs.Names.{same_name}
use Rattle.class_layout.specs.ClassList.{Class, IsClassList, layout_of, number_of, repeats, occurs_in, define_class, define_new, define_under, define_after_limit, define_after_fields}
use Rattle.class_layout.specs.Defining.{IsDefinable}
use Rattle.class_layout.proofs.ClassLists.{IsClassList-grown}

-- a class list that begins as this one
pub record IsGrown (cs ds : List Class) : Type 0 where
  pub list : IsClassList ds
  pub added : List Class
  pub same : ds ≡ cs ++ added

-- the number of a name is that of a class
pub number_of-below : (cs : List Class) (name : List ℕ) (k : ℕ) → number_of cs name ≡ Some k → k < length cs
number_of-below cs name k e = (position-Some (λ c. same_name c.name name) cs k (record { name = []; parent = None; fields = [] }) e).0

-- what is not some is none
none_from : (o : Option ℕ) → is_some o ≡ false → o ≡ None
none_from None e = refl
none_from (Some k) e = absurd (true≢false e)

module _ (cs : List Class) (name : List ℕ) (fs : List FieldDecl) (formed : IsClassList cs) (short : length fs ≤ field_limit) where
  -- the steps of defining a class, the last one first
  after_fields : (p : ℕ) → number_of cs name ≡ None → p < length cs → length cs < 65536 → (b : Bool) → (repeats fs || occurs_in (layout_of cs p) fs) ≡ b
      → IfOk (define_after_fields cs (record { name = name; parent = Some p; fields = fs }) b) (IsGrown cs)
  after_fields p fresh before room true e = tt
  after_fields p fresh before room false e =
      let parts = or_parts (repeats fs) (occurs_in (layout_of cs p) fs) e in
      let new : IsDefinable cs name p fs = record { fresh = fresh; super_before = before; room = room; once = parts.0; apart = parts.1 } in
      record { list = IsClassList-grown cs name p fs formed new short; added = record { name = name; parent = Some p; fields = fs } ∷ []; same = refl }

  after_limit : (p : ℕ) → number_of cs name ≡ None → p < length cs → (b : Bool) → nat_le 65536 (length cs) ≡ b → IfOk (define_after_limit cs name p fs b) (IsGrown cs)
  after_limit p fresh before true e = tt
  after_limit p fresh before false e = after_fields p fresh before (leb-false 65536 (length cs) e) (repeats fs || occurs_in (layout_of cs p) fs) refl

  under : number_of cs name ≡ None → (parent : Option ℕ) → ((p : ℕ) → parent ≡ Some p → p < length cs) → IfOk (define_under cs name parent fs) (IsGrown cs)
  under fresh None before = tt
  under fresh (Some p) before = after_limit p fresh (before p refl) (nat_le 65536 (length cs)) refl

  named_new : (parent : List ℕ) (b : Bool) → is_some (number_of cs name) ≡ b → IfOk (define_new cs name parent fs b) (IsGrown cs)
  named_new parent true e = tt
  named_new parent false e = under (none_from (number_of cs name) e) (number_of cs parent) (number_of-below cs parent)

  -- where nothing is refused, the list grows
  pub define-grows : (parent : List ℕ) → IfOk (define_class cs name parent fs) (IsGrown cs)
  define-grows parent = named_new parent (is_some (number_of cs name)) refl
