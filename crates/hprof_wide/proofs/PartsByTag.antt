-- Each part of a wide segment is read exactly where its bytes stand.
use Rattle.std.proofs.Common.{◌≡◌, ℕ, suc, ◌*◌, ◌<◌, true, List, [], ◌∷◌, ◌++◌, length, Option, Some, None, Ok, Err, refl, sym, ap, subst, ◌∙◌, arith}
use Rattle.std.specs.Int.{w32}
use Rattle.std.specs.List.{flat_map, concat}
use Rattle.std.proofs.lemmas.List.{append-nil}
use Rattle.std.proofs.lemmas.List.Elements.{All-append}
use Rattle.hprof_records.specs.Fields.{field}
use Rattle.hprof_records.specs.Types.{value_bytes}
use Rattle.hprof_records.specs.Parts.{word, constant_bytes}
use Rattle.hprof_records.specs.Formed.{IsByte, IsWord, bare_tags, tags_with_one, tags_with_two}
use Rattle.hprof_read.specs.declared.fields.Stop.TheVariants.{Short, Refused}
use Rattle.hprof_read.specs.declared.parts.Kind.{Kind}
use Rattle.hprof_read.specs.declared.parts.Kind.TheVariants as kinds
use Rattle.hprof_read.specs.Reading.{number, raw, checked, both, times, counted_bytes, is_primitive, kind_of}
use Rattle.hprof_read.proofs.Formats.{AreBytes, AreBytes-right, GoesOn, StopsAt, IsFormat, IsMade, SoMany, both_format, made_format, times_format}
use Rattle.hprof_read.proofs.FieldFormats.{word_format, raw_format, same_bytes, cell, field_octets}
use Rattle.hprof_read.proofs.PartFormats.{Triple, list_text, ListFits, counted_text, CountedFits, counted_format, primitive_format, primitive_from, primitive_to}
use Rattle.hprof_read.proofs.PartsByTag.{listed, some_kind, alone, bare_tag, tag_with_one, tag_with_two}
use Rattle.hprof_wide.specs.declared.ids.IdSize.{IdSize}
use Rattle.hprof_wide.specs.declared.wide_sub.WideSub.{WideSub}
use Rattle.hprof_wide.specs.declared.wide_sub.WideSub.TheVariants.{Root, HeapInfo, ClassDump, Instance, ObjectArray, PrimitiveArray, NoData}
use Rattle.hprof_wide.specs.Parts.{further_width, further_fields, wide_static_bytes, wide_field_name_bytes, wide_part_bytes}
use Rattle.hprof_wide.specs.Formed.{IsId, IsWideConstant, IsWideStatic, IsWidePart}
use Rattle.hprof_wide.specs.Reading.{width_of, ident, object_head, array_head, three_ids, class_size, constant, static_field, field_name, constants, statics, field_names, further, part_of_kind, part_behind, part_at, bare_root, root_with_one, root_with_two, heap_info, class_dump, instance, object_array, primitive_array, no_data}
use Rattle.hprof_wide.proofs.Values.{id_format, zero_id, three_text, three_same, ThreeFit, object_head_format, array_head_format, three_ids_format, class_size_format, further_format, pair_text, PairFits, field_names_same, field_names_to, field_names_from, constants_format, statics_format, field_names_format}

module _ (z : IdSize) where
  abbrev w : ℕ
  w = width_of z

  -- a part's tag, and what stands behind it
  abbrev pub part_tag : WideSub → ℕ
  part_tag (Root tag id first second) = tag
  part_tag (HeapInfo heap name) = 0xfe
  part_tag (ClassDump id stack parent loader signers domain spare_a spare_b size cs ss fs) = 0x20
  part_tag (Instance id stack class bytes) = 0x21
  part_tag (ObjectArray id stack class items) = 0x22
  part_tag (PrimitiveArray id stack code count bytes) = 0x23
  part_tag (NoData id stack count code) = 0xc3

  abbrev pub part_body : WideSub → List ℕ
  part_body (Root tag id first second) = concat (field w id ∷ further_fields w tag first second ∷ [])
  part_body (HeapInfo heap name) = concat (word heap ∷ field w name ∷ [])
  part_body (ClassDump id stack parent loader signers domain spare_a spare_b size cs ss fs) =
      concat (field w id ∷ word stack ∷ field w parent ∷ field w loader ∷ field w signers ∷ field w domain
      ∷ field w spare_a ∷ field w spare_b ∷ word size
      ∷ field 2 (length cs) ∷ flat_map constant_bytes cs
      ∷ field 2 (length ss) ∷ flat_map (wide_static_bytes w) ss
      ∷ field 2 (length fs) ∷ flat_map (wide_field_name_bytes w) fs ∷ [])
  part_body (Instance id stack class bytes) = concat (field w id ∷ word stack ∷ field w class ∷ word (length bytes) ∷ bytes ∷ [])
  part_body (ObjectArray id stack class items) = concat (field w id ∷ word stack ∷ word (length items) ∷ field w class ∷ flat_map (field w) items ∷ [])
  part_body (PrimitiveArray id stack code count bytes) = concat (field w id ∷ word stack ∷ word count ∷ field 1 code ∷ bytes ∷ [])
  part_body (NoData id stack count code) = concat (field w id ∷ word stack ∷ word count ∷ field 1 code ∷ [])

  pub part_text : (p : WideSub) → wide_part_bytes w p ≡ field 1 (part_tag p) ++ part_body p
  part_text (Root tag id first second) = refl
  part_text (HeapInfo heap name) = refl
  part_text (ClassDump id stack parent loader signers domain spare_a spare_b size cs ss fs) = refl
  part_text (Instance id stack class bytes) = refl
  part_text (ObjectArray id stack class items) = refl
  part_text (PrimitiveArray id stack code count bytes) = refl
  part_text (NoData id stack count code) = refl

  -- a root by its further fields
  abbrev pub root_kind : Option ℕ → Option ℕ → Kind
  root_kind None None = kinds.Bare
  root_kind None (Some second) = kinds.Bare
  root_kind (Some first) None = kinds.WithOne
  root_kind (Some first) (Some second) = kinds.WithTwo

  abbrev pub part_kind : WideSub → Kind
  part_kind (Root tag id first second) = root_kind first second
  part_kind (HeapInfo heap name) = kinds.Heap
  part_kind (ClassDump id stack parent loader signers domain spare_a spare_b size cs ss fs) = kinds.Class
  part_kind (Instance id stack class bytes) = kinds.Object
  part_kind (ObjectArray id stack class items) = kinds.Array
  part_kind (PrimitiveArray id stack code count bytes) = kinds.Numbers
  part_kind (NoData id stack count code) = kinds.NoNumbers

  -- the tag of a part as it may stand in a dump tells its kind
  pub kind_is : (p : WideSub) → IsWidePart w p → kind_of (part_tag p) ≡ Some (part_kind p)
  kind_is (Root tag id None None) fit = listed (λ t. kind_of t ≡ Some kinds.Bare) bare_tags tag (refl, (refl, (refl, (refl, (refl, (refl, (refl, (refl, (refl, tt))))))))) fit.1
  kind_is (Root tag id None (Some second)) fit = absurd fit.1
  kind_is (Root tag id (Some first) None) fit = listed (λ t. kind_of t ≡ Some kinds.WithOne) tags_with_one tag (refl, (refl, (refl, tt))) fit.1.0
  kind_is (Root tag id (Some first) (Some second)) fit = listed (λ t. kind_of t ≡ Some kinds.WithTwo) tags_with_two tag (refl, (refl, (refl, (refl, tt)))) fit.1.0
  kind_is (HeapInfo heap name) fit = refl
  kind_is (ClassDump id stack parent loader signers domain spare_a spare_b size cs ss fs) fit = refl
  kind_is (Instance id stack class bytes) fit = refl
  kind_is (ObjectArray id stack class items) fit = refl
  kind_is (PrimitiveArray id stack code count bytes) fit = refl
  kind_is (NoData id stack count code) fit = refl

  abbrev Small : ℕ → Type 0
  Small t = t < 256

  tag_small : (p : WideSub) → IsWidePart w p → part_tag p < 256
  tag_small (Root tag id None None) fit = listed Small bare_tags tag (omega arith, (omega arith, (omega arith, (omega arith, (omega arith, (omega arith, (omega arith, (omega arith, (omega arith, tt))))))))) fit.1
  tag_small (Root tag id None (Some second)) fit = absurd fit.1
  tag_small (Root tag id (Some first) None) fit = listed Small tags_with_one tag (omega arith, (omega arith, (omega arith, tt))) fit.1.0
  tag_small (Root tag id (Some first) (Some second)) fit = listed Small tags_with_two tag (omega arith, (omega arith, (omega arith, (omega arith, tt)))) fit.1.0
  tag_small (HeapInfo heap name) fit = omega arith
  tag_small (ClassDump id stack parent loader signers domain spare_a spare_b size cs ss fs) fit = omega arith
  tag_small (Instance id stack class bytes) fit = omega arith
  tag_small (ObjectArray id stack class items) fit = omega arith
  tag_small (PrimitiveArray id stack code count bytes) fit = omega arith
  tag_small (NoData id stack count code) fit = omega arith

  -- a part with this tag
  abbrev pub PartFits : ℕ → WideSub → Type 0
  PartFits tag p = IsWidePart w p × (part_tag p ≡ tag)

  kind_agrees : (tag : ℕ) (k : Kind) (p : WideSub) → kind_of tag ≡ Some k → PartFits tag p → part_kind p ≡ k
  kind_agrees tag k p h fit = let e : some_kind (part_kind p) ≡ some_kind k = sym (kind_is p fit.0) ∙ ap kind_of fit.1 ∙ h in cc

  -- ---- bare

  abbrev bare_text : ℕ → List ℕ
  bare_text a = field w a

  abbrev bare_fits : ℕ → Type 0
  bare_fits a = IsId w a

  abbrev bare_make : ℕ → ℕ → WideSub
  bare_make tag a = Root tag a None None

  bare_from : (tag : ℕ) → kind_of tag ≡ Some kinds.Bare → (p : WideSub) → PartFits tag p → (a : ℕ) × (bare_fits a × (bare_make tag a ≡ p))
  bare_from tag h (Root t id None None) fit = (id, (fit.0.0, ap (λ (t : ℕ). Root t id None None) (sym fit.1)))
  bare_from tag h (Root t id None (Some second)) fit = absurd fit.0.1
  bare_from tag h (Root t id (Some first) None) fit = let e = kind_agrees tag kinds.Bare (Root t id (Some first) None) h fit in absurd cc
  bare_from tag h (Root t id (Some first) (Some second)) fit = let e = kind_agrees tag kinds.Bare (Root t id (Some first) (Some second)) h fit in absurd cc
  bare_from tag h (HeapInfo heap name) fit = let e = kind_agrees tag kinds.Bare (HeapInfo heap name) h fit in absurd cc
  bare_from tag h (ClassDump id stack parent loader signers domain spare_a spare_b size cs ss fs) fit = let e = kind_agrees tag kinds.Bare (ClassDump id stack parent loader signers domain spare_a spare_b size cs ss fs) h fit in absurd cc
  bare_from tag h (Instance id stack class bytes) fit = let e = kind_agrees tag kinds.Bare (Instance id stack class bytes) h fit in absurd cc
  bare_from tag h (ObjectArray id stack class items) fit = let e = kind_agrees tag kinds.Bare (ObjectArray id stack class items) h fit in absurd cc
  bare_from tag h (PrimitiveArray id stack code count bytes) fit = let e = kind_agrees tag kinds.Bare (PrimitiveArray id stack code count bytes) h fit in absurd cc
  bare_from tag h (NoData id stack count code) fit = let e = kind_agrees tag kinds.Bare (NoData id stack count code) h fit in absurd cc

  bare_made : (tag : ℕ) → kind_of tag ≡ Some kinds.Bare → IsMade bare_text bare_fits (bare_make tag) part_body (PartFits tag)
  bare_made tag h = record {
    to = λ a fit. ((fit, bare_tag tag h), refl);
    same = λ a fit. append-nil (field w a);
    from = bare_from tag h;
  }

  bare_format : (tag : ℕ) → kind_of tag ≡ Some kinds.Bare → IsFormat (part_of_kind kinds.Bare z tag) part_body (PartFits tag)
  unfolding bare_root
  bare_format tag h = made_format (ident z) bare_text bare_fits (bare_make tag) part_body (PartFits tag) (id_format z) (bare_made tag h)

  -- ---- with_one

  abbrev with_one_text : ℕ → ℕ × ℕ → List ℕ
  with_one_text tag a = field w a.0 ++ field (further_width w tag) a.1

  abbrev with_one_fits : ℕ → ℕ × ℕ → Type 0
  with_one_fits tag a = IsId w a.0 × IsId (further_width w tag) a.1

  abbrev with_one_make : ℕ → ℕ × ℕ → WideSub
  with_one_make tag a = Root tag a.0 (Some a.1) None

  with_one_from : (tag : ℕ) → kind_of tag ≡ Some kinds.WithOne → (p : WideSub) → PartFits tag p → (a : ℕ × ℕ) × ((with_one_fits tag) a × (with_one_make tag a ≡ p))
  with_one_from tag h (Root t id None None) fit = let e = kind_agrees tag kinds.WithOne (Root t id None None) h fit in absurd cc
  with_one_from tag h (Root t id None (Some second)) fit = absurd fit.0.1
  with_one_from tag h (Root t id (Some first) None) fit = subst (λ (n : ℕ). (a : ℕ × ℕ) × (with_one_fits n a × (with_one_make n a ≡ Root t id (Some first) None))) fit.1 ((id, first), ((fit.0.0, fit.0.1.1), refl))
  with_one_from tag h (Root t id (Some first) (Some second)) fit = let e = kind_agrees tag kinds.WithOne (Root t id (Some first) (Some second)) h fit in absurd cc
  with_one_from tag h (HeapInfo heap name) fit = let e = kind_agrees tag kinds.WithOne (HeapInfo heap name) h fit in absurd cc
  with_one_from tag h (ClassDump id stack parent loader signers domain spare_a spare_b size cs ss fs) fit = let e = kind_agrees tag kinds.WithOne (ClassDump id stack parent loader signers domain spare_a spare_b size cs ss fs) h fit in absurd cc
  with_one_from tag h (Instance id stack class bytes) fit = let e = kind_agrees tag kinds.WithOne (Instance id stack class bytes) h fit in absurd cc
  with_one_from tag h (ObjectArray id stack class items) fit = let e = kind_agrees tag kinds.WithOne (ObjectArray id stack class items) h fit in absurd cc
  with_one_from tag h (PrimitiveArray id stack code count bytes) fit = let e = kind_agrees tag kinds.WithOne (PrimitiveArray id stack code count bytes) h fit in absurd cc
  with_one_from tag h (NoData id stack count code) fit = let e = kind_agrees tag kinds.WithOne (NoData id stack count code) h fit in absurd cc

  with_one_made : (tag : ℕ) → kind_of tag ≡ Some kinds.WithOne → IsMade (with_one_text tag) (with_one_fits tag) (with_one_make tag) part_body (PartFits tag)
  with_one_made tag h = record {
    to = λ a fit. ((fit.0, (tag_with_one tag h, fit.1)), refl);
    same = λ a fit. ap (λ (t : List ℕ). field w a.0 ++ t) (append-nil (field (further_width w tag) a.1));
    from = with_one_from tag h;
  }

  with_one_format : (tag : ℕ) → kind_of tag ≡ Some kinds.WithOne → IsFormat (part_of_kind kinds.WithOne z tag) part_body (PartFits tag)
  unfolding root_with_one
  with_one_format tag h = made_format (both (ident z) (λ _. further z tag)) (with_one_text tag) (with_one_fits tag) (with_one_make tag) part_body (PartFits tag) (both_format (ident z) (field w) (IsId w) (λ _. further z tag) (field (further_width w tag)) (λ _. IsId (further_width w tag)) (id_format z) (λ _ _. further_format z tag)) (with_one_made tag h)

  -- ---- with_two

  abbrev with_two_text : Triple → List ℕ
  with_two_text a = three_text (field w) word word a

  abbrev with_two_fits : Triple → Type 0
  with_two_fits a = ThreeFit (IsId w) IsWord IsWord a

  abbrev with_two_make : ℕ → Triple → WideSub
  with_two_make tag a = Root tag a.0 (Some a.1.0) (Some a.1.1)

  with_two_from : (tag : ℕ) → kind_of tag ≡ Some kinds.WithTwo → (p : WideSub) → PartFits tag p → (a : Triple) × (with_two_fits a × (with_two_make tag a ≡ p))
  with_two_from tag h (Root t id None None) fit = let e = kind_agrees tag kinds.WithTwo (Root t id None None) h fit in absurd cc
  with_two_from tag h (Root t id None (Some second)) fit = absurd fit.0.1
  with_two_from tag h (Root t id (Some first) None) fit = let e = kind_agrees tag kinds.WithTwo (Root t id (Some first) None) h fit in absurd cc
  with_two_from tag h (Root t id (Some first) (Some second)) fit = ((id, (first, second)), ((fit.0.0, (fit.0.1.1, fit.0.1.2)), ap (λ (t : ℕ). Root t id (Some first) (Some second)) (sym fit.1)))
  with_two_from tag h (HeapInfo heap name) fit = let e = kind_agrees tag kinds.WithTwo (HeapInfo heap name) h fit in absurd cc
  with_two_from tag h (ClassDump id stack parent loader signers domain spare_a spare_b size cs ss fs) fit = let e = kind_agrees tag kinds.WithTwo (ClassDump id stack parent loader signers domain spare_a spare_b size cs ss fs) h fit in absurd cc
  with_two_from tag h (Instance id stack class bytes) fit = let e = kind_agrees tag kinds.WithTwo (Instance id stack class bytes) h fit in absurd cc
  with_two_from tag h (ObjectArray id stack class items) fit = let e = kind_agrees tag kinds.WithTwo (ObjectArray id stack class items) h fit in absurd cc
  with_two_from tag h (PrimitiveArray id stack code count bytes) fit = let e = kind_agrees tag kinds.WithTwo (PrimitiveArray id stack code count bytes) h fit in absurd cc
  with_two_from tag h (NoData id stack count code) fit = let e = kind_agrees tag kinds.WithTwo (NoData id stack count code) h fit in absurd cc

  with_two_made : (tag : ℕ) → kind_of tag ≡ Some kinds.WithTwo → IsMade with_two_text with_two_fits (with_two_make tag) part_body (PartFits tag)
  with_two_made tag h = record {
    to = λ a fit. ((fit.0, (tag_with_two tag h, fit.1.0, fit.1.1)), refl);
    same = λ a fit. ap (λ (t : List ℕ). field w a.0 ++ t) (append-nil (word a.1.0 ++ word a.1.1));
    from = with_two_from tag h;
  }

  with_two_format : (tag : ℕ) → kind_of tag ≡ Some kinds.WithTwo → IsFormat (part_of_kind kinds.WithTwo z tag) part_body (PartFits tag)
  unfolding root_with_two
  with_two_format tag h = made_format (array_head z) with_two_text with_two_fits (with_two_make tag) part_body (PartFits tag) (array_head_format z) (with_two_made tag h)

  -- ---- heap

  abbrev heap_text : ℕ × ℕ → List ℕ
  heap_text a = word a.0 ++ (field w a.1)

  abbrev heap_fits : ℕ × ℕ → Type 0
  heap_fits a = IsWord a.0 × (IsId w a.1)

  abbrev heap_make : ℕ → ℕ × ℕ → WideSub
  heap_make tag a = HeapInfo a.0 a.1

  heap_from : (tag : ℕ) → kind_of tag ≡ Some kinds.Heap → (p : WideSub) → PartFits tag p → (a : ℕ × ℕ) × (heap_fits a × (heap_make tag a ≡ p))
  heap_from tag h (Root t id None None) fit = let e = kind_agrees tag kinds.Heap (Root t id None None) h fit in absurd cc
  heap_from tag h (Root t id None (Some second)) fit = absurd fit.0.1
  heap_from tag h (Root t id (Some first) None) fit = let e = kind_agrees tag kinds.Heap (Root t id (Some first) None) h fit in absurd cc
  heap_from tag h (Root t id (Some first) (Some second)) fit = let e = kind_agrees tag kinds.Heap (Root t id (Some first) (Some second)) h fit in absurd cc
  heap_from tag h (HeapInfo heap name) fit = ((heap, name), (fit.0, refl))
  heap_from tag h (ClassDump id stack parent loader signers domain spare_a spare_b size cs ss fs) fit = let e = kind_agrees tag kinds.Heap (ClassDump id stack parent loader signers domain spare_a spare_b size cs ss fs) h fit in absurd cc
  heap_from tag h (Instance id stack class bytes) fit = let e = kind_agrees tag kinds.Heap (Instance id stack class bytes) h fit in absurd cc
  heap_from tag h (ObjectArray id stack class items) fit = let e = kind_agrees tag kinds.Heap (ObjectArray id stack class items) h fit in absurd cc
  heap_from tag h (PrimitiveArray id stack code count bytes) fit = let e = kind_agrees tag kinds.Heap (PrimitiveArray id stack code count bytes) h fit in absurd cc
  heap_from tag h (NoData id stack count code) fit = let e = kind_agrees tag kinds.Heap (NoData id stack count code) h fit in absurd cc

  heap_made : (tag : ℕ) → kind_of tag ≡ Some kinds.Heap → IsMade heap_text heap_fits (heap_make tag) part_body (PartFits tag)
  heap_made tag h = record {
    to = λ a fit. (fit, alone tag (Some kinds.Heap) h);
    same = λ a fit. ap (λ (t : List ℕ). word a.0 ++ t) (append-nil (field w a.1));
    from = heap_from tag h;
  }

  heap_format : (tag : ℕ) → kind_of tag ≡ Some kinds.Heap → IsFormat (part_of_kind kinds.Heap z tag) part_body (PartFits tag)
  unfolding heap_info
  heap_format tag h = made_format (both (number w32) (λ _. ident z)) heap_text heap_fits (heap_make tag) part_body (PartFits tag) (both_format (number w32) word IsWord (λ _. ident z) (field w) (λ _. IsId w) word_format (λ _ _. id_format z)) (heap_made tag h)

  -- ---- class

  abbrev class_text : Triple × (Triple × (Triple × (List (ℕ × ℕ × List ℕ) × (List (ℕ × ℕ × List ℕ) × List (ℕ × ℕ))))) → List ℕ
  class_text a = three_text (field w) word (field w) a.0 ++ (three_text (field w) (field w) (field w) a.1.0 ++ (three_text (field w) (field w) word a.1.1.0 ++ (list_text (constant z) constant_bytes (IsWideConstant w) a.1.1.1.0 ++ (list_text (static_field z) (wide_static_bytes w) (IsWideStatic w) a.1.1.1.1.0 ++ (list_text (field_name z) (pair_text z) (PairFits z) a.1.1.1.1.1)))))

  abbrev class_fits : Triple × (Triple × (Triple × (List (ℕ × ℕ × List ℕ) × (List (ℕ × ℕ × List ℕ) × List (ℕ × ℕ))))) → Type 0
  class_fits a = ThreeFit (IsId w) IsWord (IsId w) a.0 × (ThreeFit (IsId w) (IsId w) (IsId w) a.1.0 × (ThreeFit (IsId w) (IsId w) IsWord a.1.1.0 × (ListFits (constant z) constant_bytes (IsWideConstant w) a.1.1.1.0 × (ListFits (static_field z) (wide_static_bytes w) (IsWideStatic w) a.1.1.1.1.0 × (ListFits (field_name z) (pair_text z) (PairFits z) a.1.1.1.1.1)))))

  abbrev class_make : ℕ → Triple × (Triple × (Triple × (List (ℕ × ℕ × List ℕ) × (List (ℕ × ℕ × List ℕ) × List (ℕ × ℕ))))) → WideSub
  class_make tag a = ClassDump a.0.0 a.0.1.0 a.0.1.1 a.1.0.0 a.1.0.1.0 a.1.0.1.1 a.1.1.0.0 a.1.1.0.1.0 a.1.1.0.1.1 a.1.1.1.0 a.1.1.1.1.0 a.1.1.1.1.1

  class_from : (tag : ℕ) → kind_of tag ≡ Some kinds.Class → (p : WideSub) → PartFits tag p → (a : Triple × (Triple × (Triple × (List (ℕ × ℕ × List ℕ) × (List (ℕ × ℕ × List ℕ) × List (ℕ × ℕ)))))) × (class_fits a × (class_make tag a ≡ p))
  class_from tag h (Root t id None None) fit = let e = kind_agrees tag kinds.Class (Root t id None None) h fit in absurd cc
  class_from tag h (Root t id None (Some second)) fit = absurd fit.0.1
  class_from tag h (Root t id (Some first) None) fit = let e = kind_agrees tag kinds.Class (Root t id (Some first) None) h fit in absurd cc
  class_from tag h (Root t id (Some first) (Some second)) fit = let e = kind_agrees tag kinds.Class (Root t id (Some first) (Some second)) h fit in absurd cc
  class_from tag h (HeapInfo heap name) fit = let e = kind_agrees tag kinds.Class (HeapInfo heap name) h fit in absurd cc
  class_from tag h (ClassDump id stack parent loader signers domain spare_a spare_b size cs ss fs) fit = (((id, (stack, parent)), ((loader, (signers, domain)), ((spare_a, (spare_b, size)), (cs, (ss, fs))))), (((fit.0.0, (fit.0.1, fit.0.2)), ((fit.0.3, (fit.0.4, fit.0.5)), ((fit.0.6, (fit.0.7, fit.0.8)), ((fit.0.9, fit.0.10), ((fit.0.11, fit.0.12), (fit.0.13, field_names_from z fs fit.0.14)))))), refl))
  class_from tag h (Instance id stack class bytes) fit = let e = kind_agrees tag kinds.Class (Instance id stack class bytes) h fit in absurd cc
  class_from tag h (ObjectArray id stack class items) fit = let e = kind_agrees tag kinds.Class (ObjectArray id stack class items) h fit in absurd cc
  class_from tag h (PrimitiveArray id stack code count bytes) fit = let e = kind_agrees tag kinds.Class (PrimitiveArray id stack code count bytes) h fit in absurd cc
  class_from tag h (NoData id stack count code) fit = let e = kind_agrees tag kinds.Class (NoData id stack count code) h fit in absurd cc

  class_made : (tag : ℕ) → kind_of tag ≡ Some kinds.Class → IsMade class_text class_fits (class_make tag) part_body (PartFits tag)
  class_made tag h = record {
    to = λ a fit. ((fit.0.0, fit.0.1.0, fit.0.1.1, fit.1.0.0, fit.1.0.1.0, fit.1.0.1.1, fit.1.1.0.0, fit.1.1.0.1.0, fit.1.1.0.1.1, fit.1.1.1.0.0, fit.1.1.1.0.1, fit.1.1.1.1.0.0, fit.1.1.1.1.0.1, fit.1.1.1.1.1.0, field_names_to z a.1.1.1.1.1 fit.1.1.1.1.1.1), alone tag (Some kinds.Class) h);
    same = λ a fit. three_same (field w) word (field w) a.0 (three_same (field w) (field w) (field w) a.1.0 (three_same (field w) (field w) word a.1.1.0 (ap (λ (t : List ℕ). list_text (constant z) constant_bytes (IsWideConstant w) a.1.1.1.0 ++ (list_text (static_field z) (wide_static_bytes w) (IsWideStatic w) a.1.1.1.1.0 ++ (field 2 (length a.1.1.1.1.1) ++ t))) (append-nil (flat_map (wide_field_name_bytes w) a.1.1.1.1.1) ∙ field_names_same z a.1.1.1.1.1))));
    from = class_from tag h;
  }

  class_format : (tag : ℕ) → kind_of tag ≡ Some kinds.Class → IsFormat (part_of_kind kinds.Class z tag) part_body (PartFits tag)
  unfolding class_dump
  class_format tag h = made_format (both (object_head z) (λ _. both (three_ids z) (λ _. both (class_size z) (λ _. both (constants z) (λ _. both (statics z) (λ _. field_names z)))))) class_text class_fits (class_make tag) part_body (PartFits tag) (both_format (object_head z) (three_text (field w) word (field w)) (ThreeFit (IsId w) IsWord (IsId w)) (λ _. both (three_ids z) (λ _. both (class_size z) (λ _. both (constants z) (λ _. both (statics z) (λ _. field_names z))))) (λ a. three_text (field w) (field w) (field w) a.0 ++ (three_text (field w) (field w) word a.1.0 ++ (list_text (constant z) constant_bytes (IsWideConstant w) a.1.1.0 ++ (list_text (static_field z) (wide_static_bytes w) (IsWideStatic w) a.1.1.1.0 ++ (list_text (field_name z) (pair_text z) (PairFits z) a.1.1.1.1))))) (λ _ a. ThreeFit (IsId w) (IsId w) (IsId w) a.0 × (ThreeFit (IsId w) (IsId w) IsWord a.1.0 × (ListFits (constant z) constant_bytes (IsWideConstant w) a.1.1.0 × (ListFits (static_field z) (wide_static_bytes w) (IsWideStatic w) a.1.1.1.0 × (ListFits (field_name z) (pair_text z) (PairFits z) a.1.1.1.1))))) (object_head_format z) (λ _ _. both_format (three_ids z) (three_text (field w) (field w) (field w)) (ThreeFit (IsId w) (IsId w) (IsId w)) (λ _. both (class_size z) (λ _. both (constants z) (λ _. both (statics z) (λ _. field_names z)))) (λ a. three_text (field w) (field w) word a.0 ++ (list_text (constant z) constant_bytes (IsWideConstant w) a.1.0 ++ (list_text (static_field z) (wide_static_bytes w) (IsWideStatic w) a.1.1.0 ++ (list_text (field_name z) (pair_text z) (PairFits z) a.1.1.1)))) (λ _ a. ThreeFit (IsId w) (IsId w) IsWord a.0 × (ListFits (constant z) constant_bytes (IsWideConstant w) a.1.0 × (ListFits (static_field z) (wide_static_bytes w) (IsWideStatic w) a.1.1.0 × (ListFits (field_name z) (pair_text z) (PairFits z) a.1.1.1)))) (three_ids_format z) (λ _ _. both_format (class_size z) (three_text (field w) (field w) word) (ThreeFit (IsId w) (IsId w) IsWord) (λ _. both (constants z) (λ _. both (statics z) (λ _. field_names z))) (λ a. list_text (constant z) constant_bytes (IsWideConstant w) a.0 ++ (list_text (static_field z) (wide_static_bytes w) (IsWideStatic w) a.1.0 ++ (list_text (field_name z) (pair_text z) (PairFits z) a.1.1))) (λ _ a. ListFits (constant z) constant_bytes (IsWideConstant w) a.0 × (ListFits (static_field z) (wide_static_bytes w) (IsWideStatic w) a.1.0 × (ListFits (field_name z) (pair_text z) (PairFits z) a.1.1))) (class_size_format z) (λ _ _. both_format (constants z) (list_text (constant z) constant_bytes (IsWideConstant w)) (ListFits (constant z) constant_bytes (IsWideConstant w)) (λ _. both (statics z) (λ _. field_names z)) (λ a. list_text (static_field z) (wide_static_bytes w) (IsWideStatic w) a.0 ++ (list_text (field_name z) (pair_text z) (PairFits z) a.1)) (λ _ a. ListFits (static_field z) (wide_static_bytes w) (IsWideStatic w) a.0 × (ListFits (field_name z) (pair_text z) (PairFits z) a.1)) (constants_format z) (λ _ _. both_format (statics z) (list_text (static_field z) (wide_static_bytes w) (IsWideStatic w)) (ListFits (static_field z) (wide_static_bytes w) (IsWideStatic w)) (λ _. field_names z) (list_text (field_name z) (pair_text z) (PairFits z)) (λ _. ListFits (field_name z) (pair_text z) (PairFits z)) (statics_format z) (λ _ _. field_names_format z)))))) (class_made tag h)

  -- ---- object

  abbrev object_text : Triple × List ℕ → List ℕ
  object_text a = three_text (field w) word (field w) a.0 ++ (counted_text a.1)

  abbrev object_fits : Triple × List ℕ → Type 0
  object_fits a = ThreeFit (IsId w) IsWord (IsId w) a.0 × (CountedFits a.1)

  abbrev object_make : ℕ → Triple × List ℕ → WideSub
  object_make tag a = Instance a.0.0 a.0.1.0 a.0.1.1 a.1

  object_from : (tag : ℕ) → kind_of tag ≡ Some kinds.Object → (p : WideSub) → PartFits tag p → (a : Triple × List ℕ) × (object_fits a × (object_make tag a ≡ p))
  object_from tag h (Root t id None None) fit = let e = kind_agrees tag kinds.Object (Root t id None None) h fit in absurd cc
  object_from tag h (Root t id None (Some second)) fit = absurd fit.0.1
  object_from tag h (Root t id (Some first) None) fit = let e = kind_agrees tag kinds.Object (Root t id (Some first) None) h fit in absurd cc
  object_from tag h (Root t id (Some first) (Some second)) fit = let e = kind_agrees tag kinds.Object (Root t id (Some first) (Some second)) h fit in absurd cc
  object_from tag h (HeapInfo heap name) fit = let e = kind_agrees tag kinds.Object (HeapInfo heap name) h fit in absurd cc
  object_from tag h (ClassDump id stack parent loader signers domain spare_a spare_b size cs ss fs) fit = let e = kind_agrees tag kinds.Object (ClassDump id stack parent loader signers domain spare_a spare_b size cs ss fs) h fit in absurd cc
  object_from tag h (Instance id stack class bytes) fit = (((id, (stack, class)), bytes), (((fit.0.0, (fit.0.1, fit.0.2)), (fit.0.3, fit.0.4)), refl))
  object_from tag h (ObjectArray id stack class items) fit = let e = kind_agrees tag kinds.Object (ObjectArray id stack class items) h fit in absurd cc
  object_from tag h (PrimitiveArray id stack code count bytes) fit = let e = kind_agrees tag kinds.Object (PrimitiveArray id stack code count bytes) h fit in absurd cc
  object_from tag h (NoData id stack count code) fit = let e = kind_agrees tag kinds.Object (NoData id stack count code) h fit in absurd cc

  object_made : (tag : ℕ) → kind_of tag ≡ Some kinds.Object → IsMade object_text object_fits (object_make tag) part_body (PartFits tag)
  object_made tag h = record {
    to = λ a fit. ((fit.0.0, fit.0.1.0, fit.0.1.1, fit.1.0, fit.1.1), alone tag (Some kinds.Object) h);
    same = λ a fit. three_same (field w) word (field w) a.0 (ap (λ (t : List ℕ). word (length a.1) ++ t) (append-nil a.1));
    from = object_from tag h;
  }

  object_format : (tag : ℕ) → kind_of tag ≡ Some kinds.Object → IsFormat (part_of_kind kinds.Object z tag) part_body (PartFits tag)
  unfolding instance
  object_format tag h = made_format (both (object_head z) (λ _. counted_bytes)) object_text object_fits (object_make tag) part_body (PartFits tag) (both_format (object_head z) (three_text (field w) word (field w)) (ThreeFit (IsId w) IsWord (IsId w)) (λ _. counted_bytes) counted_text (λ _. CountedFits) (object_head_format z) (λ _ _. counted_format)) (object_made tag h)

  -- ---- array

  abbrev array_text : Triple × (ℕ × List ℕ) → List ℕ
  array_text a = three_text (field w) word word a.0 ++ (field w a.1.0 ++ flat_map (field w) a.1.1)

  abbrev array_fits : Triple × (ℕ × List ℕ) → Type 0
  array_fits a = ThreeFit (IsId w) IsWord IsWord a.0 × (IsId w a.1.0 × SoMany (IsId w) a.0.1.1 a.1.1)

  abbrev array_make : ℕ → Triple × (ℕ × List ℕ) → WideSub
  array_make tag a = ObjectArray a.0.0 a.0.1.0 a.1.0 a.1.1

  array_from : (tag : ℕ) → kind_of tag ≡ Some kinds.Array → (p : WideSub) → PartFits tag p → (a : Triple × (ℕ × List ℕ)) × (array_fits a × (array_make tag a ≡ p))
  array_from tag h (Root t id None None) fit = let e = kind_agrees tag kinds.Array (Root t id None None) h fit in absurd cc
  array_from tag h (Root t id None (Some second)) fit = absurd fit.0.1
  array_from tag h (Root t id (Some first) None) fit = let e = kind_agrees tag kinds.Array (Root t id (Some first) None) h fit in absurd cc
  array_from tag h (Root t id (Some first) (Some second)) fit = let e = kind_agrees tag kinds.Array (Root t id (Some first) (Some second)) h fit in absurd cc
  array_from tag h (HeapInfo heap name) fit = let e = kind_agrees tag kinds.Array (HeapInfo heap name) h fit in absurd cc
  array_from tag h (ClassDump id stack parent loader signers domain spare_a spare_b size cs ss fs) fit = let e = kind_agrees tag kinds.Array (ClassDump id stack parent loader signers domain spare_a spare_b size cs ss fs) h fit in absurd cc
  array_from tag h (Instance id stack class bytes) fit = let e = kind_agrees tag kinds.Array (Instance id stack class bytes) h fit in absurd cc
  array_from tag h (ObjectArray id stack class items) fit = (((id, (stack, length items)), (class, items)), (((fit.0.0, (fit.0.1, fit.0.3)), (fit.0.2, (refl, fit.0.4))), refl))
  array_from tag h (PrimitiveArray id stack code count bytes) fit = let e = kind_agrees tag kinds.Array (PrimitiveArray id stack code count bytes) h fit in absurd cc
  array_from tag h (NoData id stack count code) fit = let e = kind_agrees tag kinds.Array (NoData id stack count code) h fit in absurd cc

  array_made : (tag : ℕ) → kind_of tag ≡ Some kinds.Array → IsMade array_text array_fits (array_make tag) part_body (PartFits tag)
  array_made tag h = record {
    to = λ a fit. ((fit.0.0, fit.0.1.0, fit.1.0, subst IsWord (sym fit.1.1.0) fit.0.1.1, fit.1.1.1), alone tag (Some kinds.Array) h);
    same = λ a fit. ap (λ (n : ℕ). field w a.0.0 ++ (word a.0.1.0 ++ (word n ++ (field w a.1.0 ++ (flat_map (field w) a.1.1 ++ []))))) fit.1.1.0 ∙ three_same (field w) word word a.0 (ap (λ (t : List ℕ). field w a.1.0 ++ t) (append-nil (flat_map (field w) a.1.1)));
    from = array_from tag h;
  }

  array_format : (tag : ℕ) → kind_of tag ≡ Some kinds.Array → IsFormat (part_of_kind kinds.Array z tag) part_body (PartFits tag)
  unfolding object_array
  array_format tag h = made_format (both (array_head z) (λ h. both (ident z) (λ _. times h.1.1 (ident z)))) array_text array_fits (array_make tag) part_body (PartFits tag) (both_format (array_head z) (three_text (field w) word word) (ThreeFit (IsId w) IsWord IsWord) (λ h. both (ident z) (λ _. times h.1.1 (ident z))) (λ x. field w x.0 ++ flat_map (field w) x.1) (λ h x. IsId w x.0 × SoMany (IsId w) h.1.1 x.1) (array_head_format z) (λ h _. both_format (ident z) (field w) (IsId w) (λ _. times h.1.1 (ident z)) (flat_map (field w)) (λ _. SoMany (IsId w) h.1.1) (id_format z) (λ _ _. times_format (ident z) (field w) (IsId w) (id_format z) h.1.1))) (array_made tag h)

  -- ---- numbers

  abbrev numbers_text : Triple × (ℕ × List ℕ) → List ℕ
  numbers_text a = three_text (field w) word word a.0 ++ (field 1 a.1.0 ++ a.1.1)

  abbrev numbers_fits : Triple × (ℕ × List ℕ) → Type 0
  numbers_fits a = ThreeFit (IsId w) IsWord IsWord a.0 × ((is_primitive a.1.0 ≡ true) × SoMany IsByte (a.0.1.1 * value_bytes a.1.0) a.1.1)

  abbrev numbers_make : ℕ → Triple × (ℕ × List ℕ) → WideSub
  numbers_make tag a = PrimitiveArray a.0.0 a.0.1.0 a.1.0 a.0.1.1 a.1.1

  numbers_from : (tag : ℕ) → kind_of tag ≡ Some kinds.Numbers → (p : WideSub) → PartFits tag p → (a : Triple × (ℕ × List ℕ)) × (numbers_fits a × (numbers_make tag a ≡ p))
  numbers_from tag h (Root t id None None) fit = let e = kind_agrees tag kinds.Numbers (Root t id None None) h fit in absurd cc
  numbers_from tag h (Root t id None (Some second)) fit = absurd fit.0.1
  numbers_from tag h (Root t id (Some first) None) fit = let e = kind_agrees tag kinds.Numbers (Root t id (Some first) None) h fit in absurd cc
  numbers_from tag h (Root t id (Some first) (Some second)) fit = let e = kind_agrees tag kinds.Numbers (Root t id (Some first) (Some second)) h fit in absurd cc
  numbers_from tag h (HeapInfo heap name) fit = let e = kind_agrees tag kinds.Numbers (HeapInfo heap name) h fit in absurd cc
  numbers_from tag h (ClassDump id stack parent loader signers domain spare_a spare_b size cs ss fs) fit = let e = kind_agrees tag kinds.Numbers (ClassDump id stack parent loader signers domain spare_a spare_b size cs ss fs) h fit in absurd cc
  numbers_from tag h (Instance id stack class bytes) fit = let e = kind_agrees tag kinds.Numbers (Instance id stack class bytes) h fit in absurd cc
  numbers_from tag h (ObjectArray id stack class items) fit = let e = kind_agrees tag kinds.Numbers (ObjectArray id stack class items) h fit in absurd cc
  numbers_from tag h (PrimitiveArray id stack code count bytes) fit = (((id, (stack, count)), (code, bytes)), (((fit.0.0, (fit.0.1, fit.0.2)), (primitive_to code fit.0.3, (fit.0.5, fit.0.4))), refl))
  numbers_from tag h (NoData id stack count code) fit = let e = kind_agrees tag kinds.Numbers (NoData id stack count code) h fit in absurd cc

  numbers_made : (tag : ℕ) → kind_of tag ≡ Some kinds.Numbers → IsMade numbers_text numbers_fits (numbers_make tag) part_body (PartFits tag)
  numbers_made tag h = record {
    to = λ a fit. ((fit.0.0, fit.0.1.0, fit.0.1.1, primitive_from a.1.0 fit.1.0, fit.1.1.1, fit.1.1.0), alone tag (Some kinds.Numbers) h);
    same = λ a fit. three_same (field w) word word a.0 (ap (λ (t : List ℕ). field 1 a.1.0 ++ t) (append-nil a.1.1));
    from = numbers_from tag h;
  }

  numbers_format : (tag : ℕ) → kind_of tag ≡ Some kinds.Numbers → IsFormat (part_of_kind kinds.Numbers z tag) part_body (PartFits tag)
  unfolding primitive_array
  numbers_format tag h = made_format (both (array_head z) (λ h. both (checked is_primitive) (λ code. raw (h.1.1 * value_bytes code)))) numbers_text numbers_fits (numbers_make tag) part_body (PartFits tag) (both_format (array_head z) (three_text (field w) word word) (ThreeFit (IsId w) IsWord IsWord) (λ h. both (checked is_primitive) (λ code. raw (h.1.1 * value_bytes code))) (λ x. field 1 x.0 ++ x.1) (λ h x. (is_primitive x.0 ≡ true) × SoMany IsByte (h.1.1 * value_bytes x.0) x.1) (array_head_format z) (λ h _. both_format (checked is_primitive) (field 1) (λ c. is_primitive c ≡ true) (λ code. raw (h.1.1 * value_bytes code)) same_bytes (λ code. SoMany IsByte (h.1.1 * value_bytes code)) primitive_format (λ code _. raw_format (h.1.1 * value_bytes code)))) (numbers_made tag h)

  -- ---- no_numbers

  abbrev no_numbers_text : Triple × ℕ → List ℕ
  no_numbers_text a = three_text (field w) word word a.0 ++ (field 1 a.1)

  abbrev no_numbers_fits : Triple × ℕ → Type 0
  no_numbers_fits a = ThreeFit (IsId w) IsWord IsWord a.0 × (is_primitive a.1 ≡ true)

  abbrev no_numbers_make : ℕ → Triple × ℕ → WideSub
  no_numbers_make tag a = NoData a.0.0 a.0.1.0 a.0.1.1 a.1

  no_numbers_from : (tag : ℕ) → kind_of tag ≡ Some kinds.NoNumbers → (p : WideSub) → PartFits tag p → (a : Triple × ℕ) × (no_numbers_fits a × (no_numbers_make tag a ≡ p))
  no_numbers_from tag h (Root t id None None) fit = let e = kind_agrees tag kinds.NoNumbers (Root t id None None) h fit in absurd cc
  no_numbers_from tag h (Root t id None (Some second)) fit = absurd fit.0.1
  no_numbers_from tag h (Root t id (Some first) None) fit = let e = kind_agrees tag kinds.NoNumbers (Root t id (Some first) None) h fit in absurd cc
  no_numbers_from tag h (Root t id (Some first) (Some second)) fit = let e = kind_agrees tag kinds.NoNumbers (Root t id (Some first) (Some second)) h fit in absurd cc
  no_numbers_from tag h (HeapInfo heap name) fit = let e = kind_agrees tag kinds.NoNumbers (HeapInfo heap name) h fit in absurd cc
  no_numbers_from tag h (ClassDump id stack parent loader signers domain spare_a spare_b size cs ss fs) fit = let e = kind_agrees tag kinds.NoNumbers (ClassDump id stack parent loader signers domain spare_a spare_b size cs ss fs) h fit in absurd cc
  no_numbers_from tag h (Instance id stack class bytes) fit = let e = kind_agrees tag kinds.NoNumbers (Instance id stack class bytes) h fit in absurd cc
  no_numbers_from tag h (ObjectArray id stack class items) fit = let e = kind_agrees tag kinds.NoNumbers (ObjectArray id stack class items) h fit in absurd cc
  no_numbers_from tag h (PrimitiveArray id stack code count bytes) fit = let e = kind_agrees tag kinds.NoNumbers (PrimitiveArray id stack code count bytes) h fit in absurd cc
  no_numbers_from tag h (NoData id stack count code) fit = (((id, (stack, count)), code), (((fit.0.0, (fit.0.1, fit.0.2)), primitive_to code fit.0.3), refl))

  no_numbers_made : (tag : ℕ) → kind_of tag ≡ Some kinds.NoNumbers → IsMade no_numbers_text no_numbers_fits (no_numbers_make tag) part_body (PartFits tag)
  no_numbers_made tag h = record {
    to = λ a fit. ((fit.0.0, fit.0.1.0, fit.0.1.1, primitive_from a.1 fit.1), alone tag (Some kinds.NoNumbers) h);
    same = λ a fit. let e : field 1 a.1 ++ [] ≡ field 1 a.1 = refl in three_same (field w) word word a.0 e;
    from = no_numbers_from tag h;
  }

  no_numbers_format : (tag : ℕ) → kind_of tag ≡ Some kinds.NoNumbers → IsFormat (part_of_kind kinds.NoNumbers z tag) part_body (PartFits tag)
  unfolding no_data
  no_numbers_format tag h = made_format (both (array_head z) (λ _. checked is_primitive)) no_numbers_text no_numbers_fits (no_numbers_make tag) part_body (PartFits tag) (both_format (array_head z) (three_text (field w) word word) (ThreeFit (IsId w) IsWord IsWord) (λ _. checked is_primitive) (field 1) (λ _. λ c. is_primitive c ≡ true) (array_head_format z) (λ _ _. primitive_format)) (no_numbers_made tag h)

  -- ---- parts by their tags

  kind_format : (k : Kind) (tag : ℕ) → kind_of tag ≡ Some k → IsFormat (part_of_kind k z tag) part_body (PartFits tag)
  kind_format kinds.Bare tag h = bare_format tag h
  kind_format kinds.WithOne tag h = with_one_format tag h
  kind_format kinds.WithTwo tag h = with_two_format tag h
  kind_format kinds.Heap tag h = heap_format tag h
  kind_format kinds.Class tag h = class_format tag h
  kind_format kinds.Object tag h = object_format tag h
  kind_format kinds.Array tag h = array_format tag h
  kind_format kinds.Numbers tag h = numbers_format tag h
  kind_format kinds.NoNumbers tag h = no_numbers_format tag h

  -- a part with this tag stands behind it
  tagged_text : (tag : ℕ) (p : WideSub) → PartFits tag p → tag ∷ part_body p ≡ wide_part_bytes w p
  tagged_text tag p fit =
      let small : tag < 256 = subst (λ (t : ℕ). t < 256) fit.1 (tag_small p fit.0) in
      ap (λ (t : List ℕ). t ++ part_body p) (sym (cell tag small)) ∙ ap (λ (t : ℕ). field 1 t ++ part_body p) (sym fit.1) ∙ sym (part_text p)

  part_again : (p : WideSub) (rest : List ℕ) → IsWidePart w p → part_at z (wide_part_bytes w p ++ rest) ≡ Ok (p, rest)
  unfolding part_at
  part_again p rest fit =
      let tag = part_tag p in
      let known = kind_is p fit in
      ap (λ (t : List ℕ). part_at z (t ++ rest)) (sym (tagged_text tag p (fit, refl)))
      ∙ ap (λ (k : Option Kind). part_behind z k tag (part_body p ++ rest)) known
      ∙ (kind_format (part_kind p) tag known).again p rest (fit, refl)

  tagged_takes : (tag : ℕ) (bytes : List ℕ) (k : Option Kind) → kind_of tag ≡ k → (p : WideSub) (rest : List ℕ) → AreBytes bytes → part_behind z k tag bytes ≡ Ok (p, rest) → (tag ∷ bytes ≡ wide_part_bytes w p ++ rest) × IsWidePart w p
  tagged_takes tag bytes None h p rest fits e = absurd cc
  tagged_takes tag bytes (Some k) h p rest fits e =
      let one = (kind_format k tag h).takes bytes p rest fits e in
      (ap (λ (t : List ℕ). tag ∷ t) one.0 ∙ ap (λ (t : List ℕ). t ++ rest) (tagged_text tag p one.1), one.1.0)

  part_takes : (bytes : List ℕ) (p : WideSub) (rest : List ℕ) → AreBytes bytes → part_at z bytes ≡ Ok (p, rest) → (bytes ≡ wide_part_bytes w p ++ rest) × IsWidePart w p
  unfolding part_at
  part_takes [] p rest fits e = absurd cc
  part_takes (tag ∷ bytes) p rest fits e = tagged_takes tag bytes (kind_of tag) refl p rest (AreBytes-right (tag ∷ []) bytes fits) e

  behind_tag : (tag : ℕ) (front : List ℕ) → GoesOn part_body (PartFits tag) front → GoesOn (wide_part_bytes w) (IsWidePart w) (tag ∷ front)
  behind_tag tag front h = (h.0, h.1, h.2, (h.3.0.0, sym (tagged_text tag h.0 h.3.0) ∙ ap (λ (t : List ℕ). tag ∷ t) h.3.1))

  some_part : IsWidePart w (HeapInfo 0 0)
  some_part = (omega arith, zero_id z)

  before_tag : GoesOn (wide_part_bytes w) (IsWidePart w) []
  before_tag = (HeapInfo 0 0, 0xfe, part_body (HeapInfo 0 0), (some_part, refl))

  tagged_short : (tag : ℕ) (bytes : List ℕ) (k : Option Kind) → kind_of tag ≡ k → AreBytes bytes → part_behind z k tag bytes ≡ Err Short → GoesOn (wide_part_bytes w) (IsWidePart w) (tag ∷ bytes)
  tagged_short tag bytes None h fits e = absurd cc
  tagged_short tag bytes (Some k) h fits e = behind_tag tag bytes ((kind_format k tag h).short bytes fits e)

  part_short : (bytes : List ℕ) → AreBytes bytes → part_at z bytes ≡ Err Short → GoesOn (wide_part_bytes w) (IsWidePart w) bytes
  unfolding part_at
  part_short [] fits e = before_tag
  part_short (tag ∷ bytes) fits e = tagged_short tag bytes (kind_of tag) refl (AreBytes-right (tag ∷ []) bytes fits) e

  tagged_bad : (tag : ℕ) (bytes : List ℕ) (k : Option Kind) → kind_of tag ≡ k → (left : ℕ) → AreBytes bytes → part_behind z k tag bytes ≡ Err (Refused left) → StopsAt (part_at z) (wide_part_bytes w) (IsWidePart w) (tag ∷ bytes) left
  unfolding part_at
  tagged_bad tag bytes None h left fits e =
      let same : left ≡ suc (length bytes) = cc in
      record {
        front = [];
        code = tag;
        after = bytes;
        whole = refl;
        place = same;
        before = before_tag;
        refused = λ rest. ap (λ (k : Option Kind). part_behind z k tag rest) h;
      }
  tagged_bad tag bytes (Some k) h left fits e =
      let s = (kind_format k tag h).bad bytes left fits e in
      record {
        front = tag ∷ s.front;
        code = s.code;
        after = s.after;
        whole = ap (λ (t : List ℕ). tag ∷ t) s.whole;
        place = s.place;
        before = behind_tag tag s.front s.before;
        refused = λ rest. ap (λ (k : Option Kind). part_behind z k tag (s.front ++ s.code ∷ rest)) h ∙ s.refused rest;
      }

  part_bad : (bytes : List ℕ) (left : ℕ) → AreBytes bytes → part_at z bytes ≡ Err (Refused left) → StopsAt (part_at z) (wide_part_bytes w) (IsWidePart w) bytes left
  unfolding part_at
  part_bad [] left fits e = absurd cc
  part_bad (tag ∷ bytes) left fits e = tagged_bad tag bytes (kind_of tag) refl left (AreBytes-right (tag ∷ []) bytes fits) e

  part_octets : (p : WideSub) → IsWidePart w p → AreBytes (wide_part_bytes w p)
  part_octets p fit =
      let body = (kind_format (part_kind p) (part_tag p) (kind_is p fit)).octets p (fit, refl) in
      subst AreBytes (sym (part_text p)) (All-append IsByte (field 1 (part_tag p)) (part_body p) (field_octets 1 (part_tag p)) body)

  pub part_format : IsFormat (part_at z) (wide_part_bytes w) (IsWidePart w)
  part_format = record {
    again = part_again;
    takes = part_takes;
    some = (HeapInfo 0 0, some_part);
    octets = part_octets;
    short = part_short;
    bad = part_bad;
  }
