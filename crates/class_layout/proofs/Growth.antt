-- The rows of the classes, as one is added.
use Rattle.std.proofs.Common.{◌≡◌, ℕ, suc, ◌+◌, ◌*◌, ◌<◌, ◌≤◌, zero, Bool, false, List, [], ◌∷◌, ◌++◌, Option, None, Some, IfSome, is_some, length, nat_eq, slice_get, slice_index, refl, sym, ap, subst, ◌∙◌, inl, inr, arith, length-append, lit<, true≢false}
use Rattle.std.specs.Map.{lookup}
use Rattle.std.specs.List.{count_by}
use Rattle.std.proofs.lemmas.List.{map-append, length-map}
use Rattle.std.proofs.lemmas.List.Sums.{count_by-le-length}
use Rattle.std.proofs.lemmas.Option.{none-some}
use Rattle.model_numbers.specs.Numbers.{field_limit}
use Rattle.indexmap.specs.IndexMap.{insert_entry}
use Rattle.indexmap.proofs.MapLemmas.{some_index}
use Rattle.class_layout.specs.declared.kind.Kind.{Kind}
use Rattle.class_layout.specs.declared.kind.Kind.TheVariants.{Ref}
use Rattle.class_layout.specs.declared.kind.FieldDecl.{FieldDecl}
use Rattle.class_layout.specs.declared.row.Row.{Row}
use Rattle.class_layout.specs.Kinds.{is_ref, next_multiple}
use Rattle.class_layout.specs.Layout.{Laid, bare, lay_out, field_named, references}
use Rattle.class_layout.specs.ClassList.{Class, builtin_classes, layout_of, superclass_layout, number_of, names_repeat, IsClassList}
use Rattle.class_layout.specs.Defining.{IsDefinable}
use Rattle.class_layout.specs.Names.{same_name, object_name, weak_reference_name, referent_name}
use Rattle.class_layout.specs.Placing.{rank_of, placed_at, IsBehind, IsHeader}
use Rattle.class_layout.specs.Rows.{class_of, classes_of, IsRow, AreRows}
use Rattle.class_layout.proofs.Lists.{if_some, at_some, slice_get-append_left, slice_get-append_right, slice_get-push, slice_get-seam}
use Rattle.class_layout.proofs.Layouts.{layout_of-push_old, superclass_layout-push}
use Rattle.class_layout.proofs.Uniqueness.{field_named-own, next_multiple-near}
use Rattle.class_layout.proofs.ClassLists.{layout_of-added, IsClassList-builtin, IsClassList-grown}
use Rattle.class_layout.proofs.References.{run, length-run, slice_get-run, references-lay_out}
use Rattle.class_layout.proofs.RowLaws.{parent_before, position-keys}

-- a row stays true, whatever classes follow
pub IsRow-old : (cs ds : List Class) (k : ℕ) (n : List ℕ) (row : Row) → IsClassList cs → k < length cs → IsRow cs k n row → IsRow (cs ++ ds) k n row
IsRow-old cs ds k n row formed within is =
    let e = layout_of-push_old cs ds k within in
    let short : k ≤ length cs = omega arith in
    record {
      at = slice_get-append_left cs ds k within ∙ is.at;
      end = is.end ∙ sym (ap (λ l. l.end) e);
      long = is.long;
      places = λ j. if_some _ (slice_get row.fields.items j) (λ f there. ap (λ l. field_named l f.name) e ∙ at_some _ (slice_get row.fields.items j) f there (is.places j));
      before = is.before ∙ sym (ap (λ l. length (references l)) (superclass_layout-push cs ds k row.parent (parent_before cs k n row formed is) short));
      refs = ap (λ l. length (references l)) e ∙ is.refs;
      ref_places = λ i less. ap (λ l. slice_get (references l) (row.refs_before + i)) e ∙ is.ref_places i less;
      few_refs = is.few_refs;
      ref_room = is.ref_room;
    }

rank_of-less : (k : Kind) → rank_of k < 5
rank_of-less k = elim k as (λ k. rank_of k < 5) [ Ref ↦ lit< tt | _ ↦ lit< tt ]

module _ (all : List Class) (k p : ℕ) (name : List ℕ) (fs : List FieldDecl) (sup : Laid) (before row : Row) (behind : IsBehind p before fs row)
    (at : slice_get all k ≡ Some (record { name = name; parent = Some p; fields = fs })) (laid-is : layout_of all k ≡ lay_out (nat_eq k 1) sup fs)
    (once : names_repeat (layout_of all k).fields ≡ false) (sup-is : superclass_layout all (Some p) ≡ sup) (end-is : sup.end ≡ before.end)
    (refs-before : length (references sup) ≡ before.refs_before + before.refs) (few : before.refs_before + before.refs + length fs ≤ field_limit * (k + 1)) (room : sup.end + 4 * length fs ≤ 61440 * (k + 1)) where
  abbrev weak : Bool
  weak = nat_eq k 1

  abbrev laid : Laid
  laid = lay_out weak sup fs

  refs-is : references laid ≡ references sup ++ run weak row.first_ref row.refs
  refs-is =
      references-lay_out weak sup fs
      ∙ ap (λ e. references sup ++ run weak (next_multiple 4 e) (count_by (λ f. is_ref f.kind) fs)) end-is
      ∙ ap (λ o. references sup ++ run weak o (count_by (λ f. is_ref f.kind) fs)) (sym behind.first)
      ∙ ap (λ n. references sup ++ run weak row.first_ref n) (sym behind.own_refs)

  before-is : row.refs_before ≡ length (references sup)
  before-is = behind.inherited_refs ∙ sym refs-before

  -- the row that was made stands for the class
  pub IsRow-behind : IsRow all k name row
  IsRow-behind = record {
    at = at ∙ ap Some (sym (λ i. record { name = name; parent = behind.super i; fields = behind.own i }));
    end = sym (behind.ends weak sup end-is) ∙ ap (λ l. l.end) (sym laid-is);
    long = behind.long ∙ ap length (sym behind.own);
    places = λ j. if_some _ (slice_get row.fields.items j) (λ f there.
        let there' : slice_get fs j ≡ Some f = ap (λ gs. slice_get gs j) (sym behind.own) ∙ there in
        let stands = at_some _ (slice_get fs j) f there' (behind.places weak sup end-is j) (inl (rank_of-less f.kind)) in
        let once' = ap (λ l. names_repeat l.fields) (sym laid-is) ∙ once in
        ap (λ l. field_named l f.name) laid-is ∙ field_named-own laid (placed_at weak f (slice_index row.offsets.items j)) once' stands);
    before = before-is ∙ sym (ap (λ o. length (references (superclass_layout all o))) behind.super ∙ ap (λ l. length (references l)) sup-is);
    refs =
        ap (λ l. length (references l)) laid-is ∙ ap length refs-is
        ∙ omega (arith, length-append (references sup) (run weak row.first_ref row.refs), length-run weak row.first_ref row.refs, before-is);
    ref_places = λ i less.
        ap (λ l. slice_get (references l) (row.refs_before + i)) laid-is ∙ ap (λ xs. slice_get xs (row.refs_before + i)) refs-is
        ∙ ap (λ n. slice_get (references sup ++ run weak row.first_ref row.refs) (n + i)) before-is
        ∙ slice_get-append_right (references sup) (run weak row.first_ref row.refs) i ∙ slice_get-run weak row.first_ref row.refs i less;
    few_refs = omega (arith, behind.inherited_refs, behind.own_refs, few, count_by-le-length (λ f. is_ref f.kind) fs);
    ref_room = omega (arith, behind.first, behind.own_refs, end-is, room, next_multiple-near Ref before.end, count_by-le-length (λ f. is_ref f.kind) fs);
  }

-- a class that is added to a list
pub IsRow-new : (cs : List Class) (name : List ℕ) (p : ℕ) (fs : List FieldDecl) (super_name : List ℕ) (before row : Row) → IsClassList cs → IsDefinable cs name p fs → length fs ≤ field_limit
    → IsRow cs p super_name before → IsBehind p before fs row → IsRow (cs ++ record { name = name; parent = Some p; fields = fs } ∷ []) (length cs) name row
IsRow-new cs name p fs super_name before row formed new short above behind =
    let last : Class = record { name = name; parent = Some p; fields = fs } in
    IsRow-behind (cs ++ last ∷ []) (length cs) p name fs (layout_of cs p) before row behind
    (slice_get-seam cs last [])
    (layout_of-added cs name p fs formed new short)
    ((IsClassList-grown cs name p fs formed new short).fields (length cs))
    (layout_of-push_old cs (last ∷ []) p new.super_before)
    (sym above.end)
    above.refs
    (omega (arith, above.few_refs, new.super_before, short))
    (omega (arith, formed.ends p, new.super_before, short))

-- the rows of the two built-in classes
abbrev pub builtin_rows : Row → Row → List (List ℕ × Row)
builtin_rows object weak_reference = (object_name, object) ∷ (weak_reference_name, weak_reference) ∷ []

pub insert_entry-builtin : (object weak_reference : Row) (n0 n1 : List ℕ) (es0 es1 es2 : List (List ℕ × Row)) → n0 ≡ object_name → n1 ≡ weak_reference_name → es0 ≡ []
    → es1 ≡ insert_entry same_name es0 n0 object → es2 ≡ insert_entry same_name es1 n1 weak_reference → es2 ≡ builtin_rows object weak_reference
insert_entry-builtin object weak_reference n0 n1 es0 es1 es2 n0-is n1-is empty first second =
    second ∙ ap (λ es. insert_entry same_name es n1 weak_reference) (first ∙ ap (λ es. insert_entry same_name es n0 object) empty)
    ∙ ap (λ n. insert_entry same_name (insert_entry same_name [] n object) n1 weak_reference) n0-is
    ∙ ap (λ n. insert_entry same_name (insert_entry same_name [] object_name object) n weak_reference) n1-is

pub AreRows-builtin : (object weak_reference : Row) → IsHeader object → IsBehind 0 object (record { name = referent_name; kind = Ref } ∷ []) weak_reference
    → AreRows (builtin_rows object weak_reference)
AreRows-builtin object weak_reference header behind =
    record {
      formed = subst IsClassList (sym classes-is) IsClassList-builtin;
      rows = λ k. let P : List Class → Type 0 = λ cs. IfSome (slice_get (builtin_rows object weak_reference) k) (λ e. IsRow cs k e.0 e.1) in subst P (sym classes-is) (rows k);
    }
  where
    classes-is : classes_of (builtin_rows object weak_reference) ≡ builtin_classes
    classes-is = λ i.
        record { name = object_name; parent = header.super i; fields = header.own i } ∷ record { name = weak_reference_name; parent = behind.super i; fields = behind.own i } ∷ []

    first : IsRow builtin_classes 0 object_name object
    first = record {
      at = ap Some (sym (λ i. record { name = object_name; parent = header.super i; fields = header.own i }));
      end = header.end;
      long = ap length header.offsets ∙ sym (ap length header.own);
      places = λ j. if_some _ (slice_get object.fields.items j) (λ f there. absurd (none-some f (sym (ap (λ gs. slice_get gs j) header.own) ∙ there)));
      before = header.refs_before ∙ sym (ap (λ o. length (references (superclass_layout builtin_classes o))) header.super);
      refs = sym (let none : object.refs_before + object.refs ≡ 0 = omega (arith, header.refs_before, header.refs) in none);
      ref_places = λ i less. absurd (omega (arith, header.refs));
      few_refs = omega (arith, header.refs_before, header.refs);
      ref_room = omega (arith, header.first_ref, header.refs);
    }

    second : IsRow builtin_classes 1 weak_reference_name weak_reference
    second =
        IsRow-behind builtin_classes 1 0 weak_reference_name (record { name = referent_name; kind = Ref } ∷ []) bare object weak_reference behind
        refl refl refl refl (sym header.end)
        (sym (let none : object.refs_before + object.refs ≡ 0 = omega (arith, header.refs_before, header.refs) in none))
        (let few : object.refs_before + object.refs + 1 ≤ field_limit * (1 + 1) = omega (arith, header.refs_before, header.refs) in few)
        (let room : 8 + 4 * 1 ≤ 61440 * (1 + 1) = omega arith in room)

    rows : (k : ℕ) → IfSome (slice_get (builtin_rows object weak_reference) k) (λ e. IsRow builtin_classes k e.0 e.1)
    rows zero = first
    rows (suc zero) = second
    rows (suc (suc k)) = tt

-- the map's entries stand for the classes, with one added
pub AreRows-push : (es : List (List ℕ × Row)) (name : List ℕ) (p : ℕ) (fs : List FieldDecl) (super_name : List ℕ) (before row : Row) → AreRows es → IsDefinable (classes_of es) name p fs → length fs ≤ field_limit
    → IsRow (classes_of es) p super_name before → IsBehind p before fs row → AreRows (es ++ (name, row) ∷ [])
AreRows-push es name p fs super_name before row rows new short above behind =
    let cs = classes_of es in
    let c : Class = record { name = name; parent = Some p; fields = fs } in
    let e : classes_of (es ++ (name, row) ∷ []) ≡ cs ++ c ∷ [] = map-append class_of es ((name, row) ∷ []) ∙ ap (λ d. cs ++ d ∷ []) (λ i. record { name = name; parent = behind.super i; fields = behind.own i }) in
    let long : length cs ≡ length es = length-map es class_of in
    record {
      formed = subst IsClassList (sym e) (IsClassList-grown cs name p fs rows.formed new short);
      rows = λ k. if_some _ (slice_get (es ++ (name, row) ∷ []) k) (λ x there.
          subst (λ ds. IsRow ds k x.0 x.1) (sym e) (elim (slice_get-push es (name, row) k x there) [
            | inl old ↦ IsRow-old cs (c ∷ []) k x.0 x.1 rows.formed (omega (arith, old.0, long)) (at_some (λ y. IsRow cs k y.0 y.1) (slice_get es k) x old.1 (rows.rows k))
            | inr last ↦
                let k-is : length cs ≡ k = omega (arith, last.0, long) in
                let is = IsRow-new cs name p fs super_name before row rows.formed new short above behind in
                subst (λ y. IsRow (cs ++ c ∷ []) k y.0 y.1) last.1 (subst (λ n. IsRow (cs ++ c ∷ []) n name row) k-is is)
          ]));
    }

-- the classes that the entries stand for, with one added
pub classes_of-push : (es : List (List ℕ × Row)) (name : List ℕ) (p : ℕ) (fs : List FieldDecl) (before row : Row) → IsBehind p before fs row
    → classes_of (es ++ (name, row) ∷ []) ≡ classes_of es ++ record { name = name; parent = Some p; fields = fs } ∷ []
classes_of-push es name p fs before row behind =
    map-append class_of es ((name, row) ∷ []) ∙ ap (λ d. classes_of es ++ d ∷ []) (λ i. record { name = name; parent = behind.super i; fields = behind.own i })

-- where no class has the name, no entry has the key
pub lookup-fresh : (es : List (List ℕ × Row)) (n : List ℕ) → number_of (classes_of es) n ≡ None → lookup (same_name n) es ≡ None
lookup-fresh es n h = none (lookup (same_name n) es) (sym (some_index (same_name n) es) ∙ ap is_some (position-keys es n ∙ h))
  where
    none : (o : Option Row) → is_some o ≡ false → o ≡ None
    none None e = refl
    none (Some r) e = absurd (true≢false e)
