-- What a row says of its class.
use Rattle.std.proofs.Common.{◌≡◌, ℕ, ◌+◌, ◌*◌, ◌<◌, ◌≤◌, Bool, cond, not, ◌||◌, is_some, List, [], ◌∷◌, Option, None, Some, IfSome, length, map, nat_eq, nat_lt, slice_get, slice_index, position, get_or, refl, sym, ap, ◌∙◌, inl, inr, arith}
use Rattle.std.specs.List.{count_by, find, list_any, position_or_len}
use Rattle.std.specs.Option.{option_map}
use Rattle.std.specs.Map.{keys_of}
use Rattle.std.proofs.lemmas.Bool.{cases_Bool, both_ways}
use Rattle.std.proofs.lemmas.Option.{slice_get-get_or, slice_get_past, same_Some, none-some}
use Rattle.std.proofs.lemmas.List.Quantifiers.{position-Some}
use Rattle.std.proofs.lemmas.List.{length-map}
use Rattle.class_layout.specs.declared.kind.Kind.TheVariants.{Ref}
use Rattle.class_layout.specs.declared.kind.FieldDecl.{FieldDecl}
use Rattle.class_layout.specs.declared.kind.FieldAt.{FieldAt}
use Rattle.class_layout.specs.declared.row.Row.{Row}
use Rattle.class_layout.specs.Kinds.{is_ref, next_multiple}
use Rattle.class_layout.specs.Layout.{Placed, Laid, field_named, references}
use Rattle.class_layout.specs.Names.{same_name}
use Rattle.class_layout.specs.ClassList.{Class, layout_of, superclass_layout, number_of, IsEarlier, IsClassList}
use Rattle.class_layout.specs.Rows.{class_of, classes_of, IsRow, ref_at}
use Rattle.class_layout.proofs.Lists.{at_some, how_many-position, slice_get-append_left}
use Rattle.class_layout.proofs.Layouts.{layout_of-class}
use Rattle.class_layout.proofs.References.{run, references-lay_out}
use Rattle.class_layout.proofs.Uniqueness.{same_name-symm, names-same, field_named-inherited}

same_either_way : (m n : List ℕ) → same_name m n ≡ same_name n m
same_either_way m n =
    elim (cases_Bool (same_name m n)) [
      | inl e ↦ e ∙ sym (same_name-symm m n e)
      | inr e ↦
          elim (cases_Bool (same_name n m)) [
            | inl f ↦ absurd (both_ways (same_name m n) e (same_name-symm n m f))
            | inr f ↦ e ∙ sym f
          ]
    ]

position_or_len-map : {X Y : Type 0} (f : X → Y) (p : Y → Bool) (xs : List X) → position_or_len p (map f xs) ≡ position_or_len (λ x. p (f x)) xs
position_or_len-map f p [] = refl
position_or_len-map f p (x ∷ xs) = ap (λ n. cond (not (p (f x))) (1 + n) 0) (position_or_len-map f p xs)

position-map : {X Y : Type 0} (f : X → Y) (p : Y → Bool) (xs : List X) → position p (map f xs) ≡ position (λ x. p (f x)) xs
position-map f p xs =
    ap (λ n. cond (nat_lt n (length (map f xs))) (Some n) None) (position_or_len-map f p xs)
    ∙ ap (λ l. cond (nat_lt (position_or_len (λ x. p (f x)) xs) l) (Some (position_or_len (λ x. p (f x)) xs)) None) (length-map xs f)

-- the index of a key is the number of a class
pub position-keys : (es : List (List ℕ × Row)) (n : List ℕ) → position (same_name n) (keys_of es) ≡ number_of (classes_of es) n
position-keys es n =
    position-map (λ e. e.0) (same_name n) es
    ∙ ap (λ p. position p es) (λ i e. same_either_way n e.0 i)
    ∙ sym (position-map class_of (λ c. same_name c.name n) es)

module _ (cs : List Class) (k : ℕ) (name : List ℕ) (row : Row) (is : IsRow cs k name row) (n : List ℕ) where
  -- an own field of the name
  pub field_named-found : (j : ℕ) (at : FieldAt) → position (λ f. same_name f.name n) row.fields.items ≡ Some j
      → IfSome (slice_get row.fields.items j) (λ f. at ≡ record { kind = f.kind; offset = slice_index row.offsets.items j; weak = nat_eq k 1 })
      → field_named (layout_of cs k) n ≡ Some at
  field_named-found j at found says = by (slice_get row.fields.items j) refl
    where
      by : (o : Option FieldDecl) → slice_get row.fields.items j ≡ o → field_named (layout_of cs k) n ≡ Some at
      by None e =
          let any : FieldDecl = record { name = []; kind = Ref } in
          let within = (position-Some (λ f. same_name f.name n) row.fields.items j any found).0 in
          absurd (none-some _ (sym e ∙ slice_get-get_or row.fields.items j any within))
      by (Some f) e =
          let first = position-Some (λ f. same_name f.name n) row.fields.items j f found in
          let f-is : get_or row.fields.items j f ≡ f = same_Some _ f (sym (slice_get-get_or row.fields.items j f first.0) ∙ e) in
          let same : f.name ≡ n = names-same f.name n (ap (λ g. same_name g.name n) (sym f-is) ∙ first.1) in
          ap (field_named (layout_of cs k)) (sym same) ∙ at_some _ (slice_get row.fields.items j) f e (is.places j) ∙ ap Some (sym (at_some _ (slice_get row.fields.items j) f e says))

  -- no own field of the name
  pub field_named-above : IsClassList cs → position (λ f. same_name f.name n) row.fields.items ≡ None → field_named (layout_of cs k) n ≡ field_named (superclass_layout cs row.parent) n
  field_named-above formed none =
      ap (λ l. field_named l n) (layout_of-class cs k (class_of (name, row)) formed is.at)
      ∙ field_named-inherited (nat_eq k 1) (superclass_layout cs row.parent) row.fields.items n (how_many-position (λ f. same_name f.name n) row.fields.items none)

-- a superclass has a lower number
pub parent_before : (cs : List Class) (k : ℕ) (name : List ℕ) (row : Row) → IsClassList cs → IsRow cs k name row → IsEarlier k row.parent
parent_before cs k name row formed is = at_some (λ c. IsEarlier k c.parent) (slice_get cs k) (class_of (name, row)) is.at (formed.parents k)

-- a name is found exactly where it stands
pub is_some-field_named : (laid : Laid) (n : List ℕ) → is_some (field_named laid n) ≡ list_any (λ p. same_name p.name n) laid.fields
is_some-field_named laid n = go laid.fields
  where
    go : (ps : List Placed) → is_some (option_map (λ p. p.at) (find (λ p. same_name p.name n) ps)) ≡ list_any (λ p. same_name p.name n) ps
    go [] = refl
    go (p ∷ ps) =
        elim (cases_Bool (same_name p.name n)) [
          | inl e ↦ ap (λ b. is_some (option_map (λ q. q.at) (cond b (Some p) (find (λ q. same_name q.name n) ps)))) e ∙ sym (ap (λ b. b || list_any (λ q. same_name q.name n) ps) e)
          | inr e ↦
              ap (λ b. is_some (option_map (λ q. q.at) (cond b (Some p) (find (λ q. same_name q.name n) ps)))) e ∙ go ps ∙ sym (ap (λ b. b || list_any (λ q. same_name q.name n) ps) e)
        ]

module _ (cs : List Class) (k : ℕ) (name : List ℕ) (row : Row) (is : IsRow cs k name row) (i : ℕ) where
  -- an own reference, by its number among all of them
  pub reference-own : (own : ℕ) → own < row.refs → row.refs_before + own ≡ i → slice_get (references (layout_of cs k)) i ≡ Some (ref_at (nat_eq k 1) (row.first_ref + 4 * own))
  reference-own own less e = ap (slice_get (references (layout_of cs k))) (sym e) ∙ is.ref_places own less

  -- no reference, past the last one
  pub reference-past : row.refs_before + row.refs ≤ i → slice_get (references (layout_of cs k)) i ≡ None
  reference-past more = slice_get_past (references (layout_of cs k)) i (omega (arith, is.refs, more))

  -- an inherited reference
  pub reference-above : IsClassList cs → i < row.refs_before → slice_get (references (layout_of cs k)) i ≡ slice_get (references (superclass_layout cs row.parent)) i
  reference-above formed less =
      let sup = superclass_layout cs row.parent in
      let own = run (nat_eq k 1) (next_multiple 4 sup.end) (count_by (λ f. is_ref f.kind) row.fields.items) in
      ap (λ l. slice_get (references l) i) (layout_of-class cs k (class_of (name, row)) formed is.at)
      ∙ ap (λ xs. slice_get xs i) (references-lay_out (nat_eq k 1) sup row.fields.items)
      ∙ slice_get-append_left (references sup) own i (omega (arith, is.before, less))
