-- An object's values, read from the bytes and items that were written for them.
use Rattle.std.proofs.Common.{◌≡◌, ℕ, zero, suc, ◌+◌, ◌*◌, Bool, true, List, [], ◌∷◌, ◌++◌, Option, Some, length, map, drop, refl, sym, ap, ◌∙◌, inl, inr, arith, ℤ, pos, length-append}
use Rattle.std.proofs.lemmas.Bool.{cases_Bool}
use Rattle.std.proofs.lemmas.List.Sums.{sum_by-cons}
use Rattle.std.specs.List.{find, sum_by}
use Rattle.std.specs.Option.{option_map}
use Rattle.class_layout.specs.declared.kind.FieldAt.{FieldAt}
use Rattle.class_layout.specs.declared.kind.Kind.{Kind}
use Rattle.class_layout.specs.declared.kind.Kind.TheVariants.{Ref}
use Rattle.class_layout.specs.Placing.{IsIn}
use Rattle.heap_graph.specs.Graph.{Object}
use Rattle.hprof_records.specs.declared.top_record.TopRecord.{TopRecord}
use Rattle.hprof_records.specs.Types as types
use Rattle.hprof_write.specs.Classes.{field_entry, kind_code}
use Rattle.hprof_write.specs.Objects.{bits_of, value_bytes, values_bytes}
use Rattle.hprof_write.specs.Strings.{string_id}
use Rattle.heap_graph.specs.Places.{element, elements_from}
use Rattle.object_view.specs.Seen.{value_in}
use Rattle.object_view.specs.Values.{is_value}
use Rattle.dump_shows.specs.Reading.{elements_cut, has_text, string_of, value_named, value_read, values_cut}
use Rattle.dump_shows.specs.Shows.{type_code}
use Rattle.dump_shows.proofs.Chains.{Pair, has_name}
use Rattle.dump_shows.proofs.ListParts.{find-no, find-yes}
use Rattle.dump_shows.proofs.Values.{item-back, length-value, rest-left, type-bytes, type-same, value-back}

module _ (ss : List (List ℕ)) (table : ℕ → ℕ) (o : Object) where
  abbrev pub entry : Pair → ℕ × ℕ
  entry e = field_entry ss e.0

  -- the value that a reader finds for a field
  abbrev pub found : Pair → ℕ × ℤ
  found e = (string_id ss e.0.name, value_in table o e.1)

  -- a field's type is its place's kind, and its value is one of the kind
  pub record IsWritten (e : Pair) : Type 0 where
    pub kind_is : e.1.kind ≡ e.0.kind
    pub value_is : is_value e.1.kind (value_in table o e.1) ≡ true

  abbrev pub bytes_of : List Pair → List ℕ
  bytes_of es = values_bytes table o (map (λ (e : Pair). e.1) es)

  code-of : (e : Pair) → IsWritten e → kind_code e.0.kind ≡ type_code e.1.kind
  code-of e is = type-same e.0.kind ∙ ap type_code (sym is.kind_is)

  -- the values are cut where they were written
  pub values-back : (es : List Pair) → ((e : Pair) → IsIn e es → IsWritten e) → values_cut (map entry es) (bytes_of es) ≡ map found es
  values-back [] all = refl
  values-back (e ∷ es) all =
      let is = all e (inl refl) in
      let z : ℤ = value_in table o e.1 in
      let rest : List ℕ = bytes_of es in
      ap (λ (c : ℕ). (string_id ss e.0.name, value_read c (value_bytes e.1.kind z ++ rest)) ∷ values_cut (map entry es) (drop (types.value_bytes c) (value_bytes e.1.kind z ++ rest))) (code-of e is)
      ∙ ap (λ (v : ℤ). (string_id ss e.0.name, v) ∷ values_cut (map entry es) (drop (types.value_bytes (type_code e.1.kind)) (value_bytes e.1.kind z ++ rest))) (value-back e.1.kind z rest is.value_is)
      ∙ ap (λ (l : List ℕ). found e ∷ values_cut (map entry es) l) (rest-left e.1.kind z rest)
      ∙ ap (λ (l : List (ℕ × ℤ)). found e ∷ l) (values-back es (λ d there. all d (inr there)))

  -- and they are all of the bytes
  pub values-whole : (es : List Pair) → ((e : Pair) → IsIn e es → IsWritten e) → length (bytes_of es) ≡ sum_by (λ (f : ℕ × ℕ). types.value_bytes f.1) (map entry es)
  values-whole [] all = refl
  values-whole (e ∷ es) all =
      let is = all e (inl refl) in
      let z : ℤ = value_in table o e.1 in
      let one : length (value_bytes e.1.kind z) ≡ types.value_bytes (kind_code e.0.kind) =
      length-value e.1.kind z ∙ sym (type-bytes e.1.kind) ∙ ap types.value_bytes (sym (code-of e is)) in
      length-append (value_bytes e.1.kind z) (bytes_of es) ∙ ap (λ n. n + length (bytes_of es)) one
      ∙ ap (λ n. types.value_bytes (kind_code e.0.kind) + n) (values-whole es (λ d there. all d (inr there)))
      ∙ sym (sum_by-cons (λ (f : ℕ × ℕ). types.value_bytes f.1) (entry e) (map entry es))

  -- a value is found by its field's name
  pub values-named : (L : List TopRecord) (name : List ℕ) (es : List Pair) → ((e : Pair) → IsIn e es → string_of L (string_id ss e.0.name) ≡ Some e.0.name)
      → value_named L (map found es) name ≡ option_map (value_in table o) (option_map (λ (e : Pair). e.1) (find (has_name name) es))
  values-named L name [] texts = refl
  values-named L name (e ∷ es) texts =
      let test : ℕ × ℤ → Bool = λ v. has_text name (string_of L v.0) in
      let same : test (found e) ≡ has_name name e = ap (has_text name) (texts e (inl refl)) in
      let value : Option (ℕ × ℤ) → Option ℤ = option_map (λ (v : ℕ × ℤ). v.1) in
      let place : Option Pair → Option ℤ = λ r. option_map (value_in table o) (option_map (λ (e : Pair). e.1) r) in
      elim (cases_Bool (has_name name e)) [
        | inl h ↦
            ap value (find-yes test (found e) (map found es) (same ∙ h))
            ∙ sym (ap place (find-yes (has_name name) e es h))
        | inr h ↦
            ap value (find-no test (found e) (map found es) (same ∙ h))
            ∙ values-named L name es (λ d there. texts d (inr there))
            ∙ sym (ap place (find-no (has_name name) e es h))
      ]

  -- the elements of an array of numbers
  pub elements-back : (kind : Kind) (count from : ℕ) → ((p : FieldAt) → IsIn p (elements_from kind from count) → is_value kind (value_in table o p) ≡ true)
      → elements_cut (type_code kind) count (values_bytes table o (elements_from kind from count)) ≡ map (value_in table o) (elements_from kind from count)
  elements-back kind zero from all = refl
  elements-back kind (suc count) from all =
      let z : ℤ = value_in table o (element kind from) in
      let rest : List ℕ = values_bytes table o (elements_from kind (from + 1) count) in
      ap (λ (v : ℤ). v ∷ elements_cut (type_code kind) count (drop (types.value_bytes (type_code kind)) (value_bytes kind z ++ rest))) (value-back kind z rest (all (element kind from) (inl refl)))
      ∙ ap (λ (l : List ℕ). z ∷ elements_cut (type_code kind) count l) (rest-left kind z rest)
      ∙ ap (λ (l : List ℤ). z ∷ l) (elements-back kind count (from + 1) (λ p there. all p (inr there)))

  pub elements-whole : (kind : Kind) (count from : ℕ) → length (values_bytes table o (elements_from kind from count)) ≡ count * types.value_bytes (type_code kind)
  elements-whole kind zero from = omega arith
  elements-whole kind (suc count) from =
      let z : ℤ = value_in table o (element kind from) in
      let rest : List ℕ = values_bytes table o (elements_from kind (from + 1) count) in
      let all = length-append (value_bytes kind z) rest in
      let one = length-value kind z ∙ sym (type-bytes kind) in
      let more = elements-whole kind count (from + 1) in
      omega (arith, all, one, more)

  -- the items of an array of references
  pub items-back : (ps : List FieldAt) → ((p : FieldAt) → IsIn p ps → is_value Ref (value_in table o p) ≡ true)
      → map pos (map (λ p. bits_of (value_in table o p)) ps) ≡ map (value_in table o) ps
  items-back [] all = refl
  items-back (p ∷ ps) all =
      ap (λ (v : ℤ). v ∷ map pos (map (λ p. bits_of (value_in table o p)) ps)) (item-back (value_in table o p) (all p (inl refl)))
      ∙ ap (λ (l : List ℤ). value_in table o p ∷ l) (items-back ps (λ q there. all q (inr there)))
