-- Each part of a segment is read exactly where its bytes stand.
use Rattle.std.proofs.Common.{◌≡◌, ℕ, suc, ◌*◌, ◌<◌, ◌⊎◌, inl, inr, Bool, true, false, cond, List, [], ◌∷◌, ◌++◌, length, Option, Some, None, Ok, Err, refl, sym, ap, subst, ◌∙◌, arith}
use Rattle.std.specs.Prelude.{nat_eq, ◌||◌}
use Rattle.std.specs.Int.{w32}
use Rattle.std.specs.List.{flat_map, concat, AllByRecursion}
use Rattle.std.proofs.lemmas.List.{append-nil}
use Rattle.std.proofs.lemmas.List.Elements.{All-append}
use Rattle.std.proofs.lemmas.Bool.{eqb-true}
use Rattle.hprof_records.specs.declared.sub_record.SubRecord.{SubRecord}
use Rattle.hprof_records.specs.declared.sub_record.SubRecord.TheVariants.{Root, HeapInfo, ClassDump, Instance, ObjectArray, PrimitiveArray, NoData}
use Rattle.hprof_records.specs.Fields.{field}
use Rattle.hprof_records.specs.Types.{value_bytes}
use Rattle.hprof_records.specs.Parts.{word, constant_bytes, static_bytes, field_name_bytes, further_bytes, bytes_of_part}
use Rattle.hprof_records.specs.Formed.{IsByte, IsWord, is_one_of, bare_tags, tags_with_one, tags_with_two, IsConstant, IsStatic, IsPart}
use Rattle.hprof_read.specs.declared.fields.Stop.TheVariants.{Short, Refused}
use Rattle.hprof_read.specs.declared.parts.Kind.{Kind}
use Rattle.hprof_read.specs.declared.parts.Kind.TheVariants as kinds
use Rattle.hprof_read.specs.Reading.{number, raw, checked, both, times, counted_bytes, triple, is_primitive, constant, static_field, field_name, constants, statics, field_names, kind_of, part_of_kind, part_behind, part_at, bare_root, root_with_one, root_with_two, heap_info, class_dump, instance, object_array, primitive_array, no_data}
use Rattle.hprof_read.proofs.Formats.{AreBytes, AreBytes-right, GoesOn, StopsAt, IsFormat, IsMade, SoMany, both_format, made_format, times_format}
use Rattle.hprof_read.proofs.FieldFormats.{word_format, raw_format, same_bytes, cell, field_octets}
use Rattle.hprof_read.proofs.PartFormats.{Triple, triple_text, TripleFits, triple_format, list_text, ListFits, counted_text, CountedFits, counted_format, primitive_format, primitive_from, primitive_to, pair_text, PairFits, field_names_same, field_names_to, field_names_from, constants_format, statics_format, field_names_format}

either_is : (a b : Bool) → (a || b) ≡ true → (a ≡ true) ⊎ (b ≡ true)
either_is true b h = inl refl
either_is false b h = inr h

-- what holds of each listed tag holds of a tag that is one of them
pub listed : (P : ℕ → Type 0) (tags : List ℕ) (tag : ℕ) → AllByRecursion P tags → is_one_of tags tag ≡ true → P tag
listed P [] tag all h = absurd cc
listed P (t ∷ tags) tag all h =
    elim (either_is (nat_eq tag t) (is_one_of tags tag) h) [
      | inl e ↦ subst P (sym (eqb-true _ _ e)) all.0
      | inr e ↦ listed P tags tag all.1 e
    ]

-- a part's tag, and what stands behind it
abbrev pub part_tag : SubRecord → ℕ
part_tag (Root tag id first second) = tag
part_tag (HeapInfo heap name) = 0xfe
part_tag (ClassDump id stack parent loader signers domain spare_a spare_b size cs ss fs) = 0x20
part_tag (Instance id stack class bytes) = 0x21
part_tag (ObjectArray id stack class items) = 0x22
part_tag (PrimitiveArray id stack code count bytes) = 0x23
part_tag (NoData id stack count code) = 0xc3

abbrev pub part_body : SubRecord → List ℕ
part_body (Root tag id first second) = concat (word id ∷ further_bytes first ∷ further_bytes second ∷ [])
part_body (HeapInfo heap name) = concat (word heap ∷ word name ∷ [])
part_body (ClassDump id stack parent loader signers domain spare_a spare_b size cs ss fs) =
    concat (word id ∷ word stack ∷ word parent ∷ word loader ∷ word signers ∷ word domain
    ∷ word spare_a ∷ word spare_b ∷ word size
    ∷ field 2 (length cs) ∷ flat_map constant_bytes cs
    ∷ field 2 (length ss) ∷ flat_map static_bytes ss
    ∷ field 2 (length fs) ∷ flat_map field_name_bytes fs ∷ [])
part_body (Instance id stack class bytes) = concat (word id ∷ word stack ∷ word class ∷ word (length bytes) ∷ bytes ∷ [])
part_body (ObjectArray id stack class items) = concat (word id ∷ word stack ∷ word (length items) ∷ word class ∷ flat_map word items ∷ [])
part_body (PrimitiveArray id stack code count bytes) = concat (word id ∷ word stack ∷ word count ∷ field 1 code ∷ bytes ∷ [])
part_body (NoData id stack count code) = concat (word id ∷ word stack ∷ word count ∷ field 1 code ∷ [])

pub part_text : (p : SubRecord) → bytes_of_part p ≡ field 1 (part_tag p) ++ part_body p
part_text (Root tag id first second) = refl
part_text (HeapInfo heap name) = refl
part_text (ClassDump id stack parent loader signers domain spare_a spare_b size cs ss fs) = refl
part_text (Instance id stack class bytes) = refl
part_text (ObjectArray id stack class items) = refl
part_text (PrimitiveArray id stack code count bytes) = refl
part_text (NoData id stack count code) = refl

-- a root by its further fields
abbrev pub root_kind : Option ℕ → Option ℕ → Kind
root_kind None None = kinds.Bare
root_kind None (Some second) = kinds.Bare
root_kind (Some first) None = kinds.WithOne
root_kind (Some first) (Some second) = kinds.WithTwo

abbrev pub part_kind : SubRecord → Kind
part_kind (Root tag id first second) = root_kind first second
part_kind (HeapInfo heap name) = kinds.Heap
part_kind (ClassDump id stack parent loader signers domain spare_a spare_b size cs ss fs) = kinds.Class
part_kind (Instance id stack class bytes) = kinds.Object
part_kind (ObjectArray id stack class items) = kinds.Array
part_kind (PrimitiveArray id stack code count bytes) = kinds.Numbers
part_kind (NoData id stack count code) = kinds.NoNumbers

-- the tag of a part as it may stand in a dump tells its kind
pub kind_is : (p : SubRecord) → IsPart p → kind_of (part_tag p) ≡ Some (part_kind p)
kind_is (Root tag id None None) fit = listed (λ t. kind_of t ≡ Some kinds.Bare) bare_tags tag (refl, (refl, (refl, (refl, (refl, (refl, (refl, (refl, (refl, tt))))))))) fit.1
kind_is (Root tag id None (Some second)) fit = absurd fit.1
kind_is (Root tag id (Some first) None) fit = listed (λ t. kind_of t ≡ Some kinds.WithOne) tags_with_one tag (refl, (refl, (refl, tt))) fit.1.0
kind_is (Root tag id (Some first) (Some second)) fit = listed (λ t. kind_of t ≡ Some kinds.WithTwo) tags_with_two tag (refl, (refl, (refl, (refl, tt)))) fit.1.0
kind_is (HeapInfo heap name) fit = refl
kind_is (ClassDump id stack parent loader signers domain spare_a spare_b size cs ss fs) fit = refl
kind_is (Instance id stack class bytes) fit = refl
kind_is (ObjectArray id stack class items) fit = refl
kind_is (PrimitiveArray id stack code count bytes) fit = refl
kind_is (NoData id stack count code) fit = refl

abbrev Small : ℕ → Type 0
Small t = t < 256

tag_small : (p : SubRecord) → IsPart p → part_tag p < 256
tag_small (Root tag id None None) fit = listed Small bare_tags tag (omega arith, (omega arith, (omega arith, (omega arith, (omega arith, (omega arith, (omega arith, (omega arith, (omega arith, tt))))))))) fit.1
tag_small (Root tag id None (Some second)) fit = absurd fit.1
tag_small (Root tag id (Some first) None) fit = listed Small tags_with_one tag (omega arith, (omega arith, (omega arith, tt))) fit.1.0
tag_small (Root tag id (Some first) (Some second)) fit = listed Small tags_with_two tag (omega arith, (omega arith, (omega arith, (omega arith, tt)))) fit.1.0
tag_small (HeapInfo heap name) fit = omega arith
tag_small (ClassDump id stack parent loader signers domain spare_a spare_b size cs ss fs) fit = omega arith
tag_small (Instance id stack class bytes) fit = omega arith
tag_small (ObjectArray id stack class items) fit = omega arith
tag_small (PrimitiveArray id stack code count bytes) fit = omega arith
tag_small (NoData id stack count code) fit = omega arith

-- a part with this tag
abbrev pub PartFits : ℕ → SubRecord → Type 0
PartFits tag p = IsPart p × (part_tag p ≡ tag)

abbrev pub some_kind : Kind → Option Kind
some_kind k = Some k

kind_agrees : (tag : ℕ) (k : Kind) (p : SubRecord) → kind_of tag ≡ Some k → PartFits tag p → part_kind p ≡ k
kind_agrees tag k p h fit = let e : some_kind (part_kind p) ≡ some_kind k = sym (kind_is p fit.0) ∙ ap kind_of fit.1 ∙ h in cc

-- whose tag tells a root's kind is one of that kind's tags
abbrev is_bare : Option Kind → Bool
is_bare (Some kinds.Bare) = true
is_bare _ = false

abbrev is_with_one : Option Kind → Bool
is_with_one (Some kinds.WithOne) = true
is_with_one _ = false

abbrev is_with_two : Option Kind → Bool
is_with_two (Some kinds.WithTwo) = true
is_with_two _ = false

-- the kinds that are told by one tag each
abbrev by_one_tag : Bool → Bool → Bool → Bool → Bool → Bool → Option Kind
by_one_tag a b c d e f = cond a (Some kinds.Heap) (cond b (Some kinds.Class) (cond c (Some kinds.Object) (cond d (Some kinds.Array) (cond e (Some kinds.Numbers) (cond f (Some kinds.NoNumbers) None)))))

no_root : (q : Option Kind → Bool) (a b c d e f : Bool) → q (Some kinds.Heap) ≡ false → q (Some kinds.Class) ≡ false → q (Some kinds.Object) ≡ false → q (Some kinds.Array) ≡ false → q (Some kinds.Numbers) ≡ false → q (Some kinds.NoNumbers) ≡ false → q None ≡ false → q (by_one_tag a b c d e f) ≡ false
no_root q true b c d e f h i j k l m n = h
no_root q false true c d e f h i j k l m n = i
no_root q false false true d e f h i j k l m n = j
no_root q false false false true e f h i j k l m n = k
no_root q false false false false true f h i j k l m n = l
no_root q false false false false false true h i j k l m n = m
no_root q false false false false false false h i j k l m n = n

bare_by : (x y z a b c d e f : Bool) → cond x (Some kinds.Bare) (cond y (Some kinds.WithOne) (cond z (Some kinds.WithTwo) (by_one_tag a b c d e f))) ≡ Some kinds.Bare → x ≡ true
bare_by true y z a b c d e f h = refl
bare_by false true z a b c d e f h = absurd cc
bare_by false false true a b c d e f h = absurd cc
bare_by false false false a b c d e f h = let no = no_root is_bare a b c d e f refl refl refl refl refl refl refl in let yes = ap is_bare h in absurd cc

one_by : (x y z a b c d e f : Bool) → cond x (Some kinds.Bare) (cond y (Some kinds.WithOne) (cond z (Some kinds.WithTwo) (by_one_tag a b c d e f))) ≡ Some kinds.WithOne → y ≡ true
one_by true y z a b c d e f h = absurd cc
one_by false true z a b c d e f h = refl
one_by false false true a b c d e f h = absurd cc
one_by false false false a b c d e f h = let no = no_root is_with_one a b c d e f refl refl refl refl refl refl refl in let yes = ap is_with_one h in absurd cc

two_by : (x y z a b c d e f : Bool) → cond x (Some kinds.Bare) (cond y (Some kinds.WithOne) (cond z (Some kinds.WithTwo) (by_one_tag a b c d e f))) ≡ Some kinds.WithTwo → z ≡ true
two_by true y z a b c d e f h = absurd cc
two_by false true z a b c d e f h = absurd cc
two_by false false true a b c d e f h = refl
two_by false false false a b c d e f h = let no = no_root is_with_two a b c d e f refl refl refl refl refl refl refl in let yes = ap is_with_two h in absurd cc

pub bare_tag : (tag : ℕ) → kind_of tag ≡ Some kinds.Bare → is_one_of bare_tags tag ≡ true
bare_tag tag h = bare_by (is_one_of bare_tags tag) (is_one_of tags_with_one tag) (is_one_of tags_with_two tag) (nat_eq tag 0xfe) (nat_eq tag 0x20) (nat_eq tag 0x21) (nat_eq tag 0x22) (nat_eq tag 0x23) (nat_eq tag 0xc3) h

pub tag_with_one : (tag : ℕ) → kind_of tag ≡ Some kinds.WithOne → is_one_of tags_with_one tag ≡ true
tag_with_one tag h = one_by (is_one_of bare_tags tag) (is_one_of tags_with_one tag) (is_one_of tags_with_two tag) (nat_eq tag 0xfe) (nat_eq tag 0x20) (nat_eq tag 0x21) (nat_eq tag 0x22) (nat_eq tag 0x23) (nat_eq tag 0xc3) h

pub tag_with_two : (tag : ℕ) → kind_of tag ≡ Some kinds.WithTwo → is_one_of tags_with_two tag ≡ true
tag_with_two tag h = two_by (is_one_of bare_tags tag) (is_one_of tags_with_one tag) (is_one_of tags_with_two tag) (nat_eq tag 0xfe) (nat_eq tag 0x20) (nat_eq tag 0x21) (nat_eq tag 0x22) (nat_eq tag 0x23) (nat_eq tag 0xc3) h

-- the other kinds have one tag
abbrev pub tag_of_kind : Kind → ℕ
tag_of_kind kinds.Heap = 0xfe
tag_of_kind kinds.Class = 0x20
tag_of_kind kinds.Object = 0x21
tag_of_kind kinds.Array = 0x22
tag_of_kind kinds.Numbers = 0x23
tag_of_kind kinds.NoNumbers = 0xc3
tag_of_kind _ = 0

abbrev pub IsAlone : Option Kind → ℕ → Type 0
IsAlone (Some kinds.Bare) tag = Unit {0}
IsAlone (Some kinds.WithOne) tag = Unit {0}
IsAlone (Some kinds.WithTwo) tag = Unit {0}
IsAlone (Some k) tag = tag_of_kind k ≡ tag
IsAlone None tag = Unit {0}

alone_by : (tag : ℕ) (x y z a b c d e f : Bool) → (a ≡ true → 0xfe ≡ tag) → (b ≡ true → 0x20 ≡ tag) → (c ≡ true → 0x21 ≡ tag) → (d ≡ true → 0x22 ≡ tag) → (e ≡ true → 0x23 ≡ tag) → (f ≡ true → 0xc3 ≡ tag)
    → IsAlone (cond x (Some kinds.Bare) (cond y (Some kinds.WithOne) (cond z (Some kinds.WithTwo) (by_one_tag a b c d e f)))) tag
alone_by tag true y z a b c d e f h i j k l m = tt
alone_by tag false true z a b c d e f h i j k l m = tt
alone_by tag false false true a b c d e f h i j k l m = tt
alone_by tag false false false true b c d e f h i j k l m = h refl
alone_by tag false false false false true c d e f h i j k l m = i refl
alone_by tag false false false false false true d e f h i j k l m = j refl
alone_by tag false false false false false false true e f h i j k l m = k refl
alone_by tag false false false false false false false true f h i j k l m = l refl
alone_by tag false false false false false false false false true h i j k l m = m refl
alone_by tag false false false false false false false false false h i j k l m = tt

pub alone : (tag : ℕ) (o : Option Kind) → kind_of tag ≡ o → IsAlone o tag
alone tag o h =
    let told : IsAlone (kind_of tag) tag =
    alone_by tag (is_one_of bare_tags tag) (is_one_of tags_with_one tag) (is_one_of tags_with_two tag) (nat_eq tag 0xfe) (nat_eq tag 0x20) (nat_eq tag 0x21) (nat_eq tag 0x22) (nat_eq tag 0x23) (nat_eq tag 0xc3)
    (λ e. sym (eqb-true _ _ e)) (λ e. sym (eqb-true _ _ e)) (λ e. sym (eqb-true _ _ e)) (λ e. sym (eqb-true _ _ e)) (λ e. sym (eqb-true _ _ e)) (λ e. sym (eqb-true _ _ e)) in
    subst (λ (k : Option Kind). IsAlone k tag) h told

-- ---- bare

abbrev bare_text : ℕ → List ℕ
bare_text a = word a

abbrev bare_fits : ℕ → Type 0
bare_fits a = IsWord a

abbrev bare_make : ℕ → ℕ → SubRecord
bare_make tag a = Root tag a None None

bare_from : (tag : ℕ) → kind_of tag ≡ Some kinds.Bare → (p : SubRecord) → PartFits tag p → (a : ℕ) × (bare_fits a × (bare_make tag a ≡ p))
bare_from tag h (Root t id None None) fit = (id, (fit.0.0, ap (λ (t : ℕ). Root t id None None) (sym fit.1)))
bare_from tag h (Root t id None (Some second)) fit = absurd fit.0.1
bare_from tag h (Root t id (Some first) None) fit = let e = kind_agrees tag kinds.Bare (Root t id (Some first) None) h fit in absurd cc
bare_from tag h (Root t id (Some first) (Some second)) fit = let e = kind_agrees tag kinds.Bare (Root t id (Some first) (Some second)) h fit in absurd cc
bare_from tag h (HeapInfo heap name) fit = let e = kind_agrees tag kinds.Bare (HeapInfo heap name) h fit in absurd cc
bare_from tag h (ClassDump id stack parent loader signers domain spare_a spare_b size cs ss fs) fit = let e = kind_agrees tag kinds.Bare (ClassDump id stack parent loader signers domain spare_a spare_b size cs ss fs) h fit in absurd cc
bare_from tag h (Instance id stack class bytes) fit = let e = kind_agrees tag kinds.Bare (Instance id stack class bytes) h fit in absurd cc
bare_from tag h (ObjectArray id stack class items) fit = let e = kind_agrees tag kinds.Bare (ObjectArray id stack class items) h fit in absurd cc
bare_from tag h (PrimitiveArray id stack code count bytes) fit = let e = kind_agrees tag kinds.Bare (PrimitiveArray id stack code count bytes) h fit in absurd cc
bare_from tag h (NoData id stack count code) fit = let e = kind_agrees tag kinds.Bare (NoData id stack count code) h fit in absurd cc

bare_made : (tag : ℕ) → kind_of tag ≡ Some kinds.Bare → IsMade bare_text bare_fits (bare_make tag) part_body (PartFits tag)
bare_made tag h = record {
  to = λ a fit. ((fit, bare_tag tag h), refl);
  same = λ a fit. append-nil (word a);
  from = bare_from tag h;
}

bare_format : (tag : ℕ) → kind_of tag ≡ Some kinds.Bare → IsFormat (part_of_kind kinds.Bare tag) part_body (PartFits tag)
unfolding bare_root
bare_format tag h = made_format (number w32) bare_text bare_fits (bare_make tag) part_body (PartFits tag) (word_format) (bare_made tag h)

-- ---- with_one

abbrev with_one_text : ℕ × ℕ → List ℕ
with_one_text a = word a.0 ++ word a.1

abbrev with_one_fits : ℕ × ℕ → Type 0
with_one_fits a = IsWord a.0 × IsWord a.1

abbrev with_one_make : ℕ → ℕ × ℕ → SubRecord
with_one_make tag a = Root tag a.0 (Some a.1) None

with_one_from : (tag : ℕ) → kind_of tag ≡ Some kinds.WithOne → (p : SubRecord) → PartFits tag p → (a : ℕ × ℕ) × (with_one_fits a × (with_one_make tag a ≡ p))
with_one_from tag h (Root t id None None) fit = let e = kind_agrees tag kinds.WithOne (Root t id None None) h fit in absurd cc
with_one_from tag h (Root t id None (Some second)) fit = absurd fit.0.1
with_one_from tag h (Root t id (Some first) None) fit = ((id, first), ((fit.0.0, fit.0.1.1), ap (λ (t : ℕ). Root t id (Some first) None) (sym fit.1)))
with_one_from tag h (Root t id (Some first) (Some second)) fit = let e = kind_agrees tag kinds.WithOne (Root t id (Some first) (Some second)) h fit in absurd cc
with_one_from tag h (HeapInfo heap name) fit = let e = kind_agrees tag kinds.WithOne (HeapInfo heap name) h fit in absurd cc
with_one_from tag h (ClassDump id stack parent loader signers domain spare_a spare_b size cs ss fs) fit = let e = kind_agrees tag kinds.WithOne (ClassDump id stack parent loader signers domain spare_a spare_b size cs ss fs) h fit in absurd cc
with_one_from tag h (Instance id stack class bytes) fit = let e = kind_agrees tag kinds.WithOne (Instance id stack class bytes) h fit in absurd cc
with_one_from tag h (ObjectArray id stack class items) fit = let e = kind_agrees tag kinds.WithOne (ObjectArray id stack class items) h fit in absurd cc
with_one_from tag h (PrimitiveArray id stack code count bytes) fit = let e = kind_agrees tag kinds.WithOne (PrimitiveArray id stack code count bytes) h fit in absurd cc
with_one_from tag h (NoData id stack count code) fit = let e = kind_agrees tag kinds.WithOne (NoData id stack count code) h fit in absurd cc

with_one_made : (tag : ℕ) → kind_of tag ≡ Some kinds.WithOne → IsMade with_one_text with_one_fits (with_one_make tag) part_body (PartFits tag)
with_one_made tag h = record {
  to = λ a fit. ((fit.0, (tag_with_one tag h, fit.1)), refl);
  same = λ a fit. refl;
  from = with_one_from tag h;
}

with_one_format : (tag : ℕ) → kind_of tag ≡ Some kinds.WithOne → IsFormat (part_of_kind kinds.WithOne tag) part_body (PartFits tag)
unfolding root_with_one
with_one_format tag h = made_format (both (number w32) (λ _. (number w32))) with_one_text with_one_fits (with_one_make tag) part_body (PartFits tag) (both_format (number w32) word IsWord (λ _. (number w32)) word (λ _. IsWord) word_format (λ _ _. word_format)) (with_one_made tag h)

-- ---- with_two

abbrev with_two_text : Triple → List ℕ
with_two_text a = triple_text a

abbrev with_two_fits : Triple → Type 0
with_two_fits a = TripleFits a

abbrev with_two_make : ℕ → Triple → SubRecord
with_two_make tag a = Root tag a.0 (Some a.1.0) (Some a.1.1)

with_two_from : (tag : ℕ) → kind_of tag ≡ Some kinds.WithTwo → (p : SubRecord) → PartFits tag p → (a : Triple) × (with_two_fits a × (with_two_make tag a ≡ p))
with_two_from tag h (Root t id None None) fit = let e = kind_agrees tag kinds.WithTwo (Root t id None None) h fit in absurd cc
with_two_from tag h (Root t id None (Some second)) fit = absurd fit.0.1
with_two_from tag h (Root t id (Some first) None) fit = let e = kind_agrees tag kinds.WithTwo (Root t id (Some first) None) h fit in absurd cc
with_two_from tag h (Root t id (Some first) (Some second)) fit = ((id, (first, second)), ((fit.0.0, (fit.0.1.1, fit.0.1.2)), ap (λ (t : ℕ). Root t id (Some first) (Some second)) (sym fit.1)))
with_two_from tag h (HeapInfo heap name) fit = let e = kind_agrees tag kinds.WithTwo (HeapInfo heap name) h fit in absurd cc
with_two_from tag h (ClassDump id stack parent loader signers domain spare_a spare_b size cs ss fs) fit = let e = kind_agrees tag kinds.WithTwo (ClassDump id stack parent loader signers domain spare_a spare_b size cs ss fs) h fit in absurd cc
with_two_from tag h (Instance id stack class bytes) fit = let e = kind_agrees tag kinds.WithTwo (Instance id stack class bytes) h fit in absurd cc
with_two_from tag h (ObjectArray id stack class items) fit = let e = kind_agrees tag kinds.WithTwo (ObjectArray id stack class items) h fit in absurd cc
with_two_from tag h (PrimitiveArray id stack code count bytes) fit = let e = kind_agrees tag kinds.WithTwo (PrimitiveArray id stack code count bytes) h fit in absurd cc
with_two_from tag h (NoData id stack count code) fit = let e = kind_agrees tag kinds.WithTwo (NoData id stack count code) h fit in absurd cc

with_two_made : (tag : ℕ) → kind_of tag ≡ Some kinds.WithTwo → IsMade with_two_text with_two_fits (with_two_make tag) part_body (PartFits tag)
with_two_made tag h = record {
  to = λ a fit. ((fit.0, (tag_with_two tag h, fit.1.0, fit.1.1)), refl);
  same = λ a fit. refl;
  from = with_two_from tag h;
}

with_two_format : (tag : ℕ) → kind_of tag ≡ Some kinds.WithTwo → IsFormat (part_of_kind kinds.WithTwo tag) part_body (PartFits tag)
unfolding root_with_two
with_two_format tag h = made_format triple with_two_text with_two_fits (with_two_make tag) part_body (PartFits tag) (triple_format) (with_two_made tag h)

-- ---- heap

abbrev heap_text : ℕ × ℕ → List ℕ
heap_text a = word a.0 ++ word a.1

abbrev heap_fits : ℕ × ℕ → Type 0
heap_fits a = IsWord a.0 × IsWord a.1

abbrev heap_make : ℕ → ℕ × ℕ → SubRecord
heap_make tag a = HeapInfo a.0 a.1

heap_from : (tag : ℕ) → kind_of tag ≡ Some kinds.Heap → (p : SubRecord) → PartFits tag p → (a : ℕ × ℕ) × (heap_fits a × (heap_make tag a ≡ p))
heap_from tag h (Root t id None None) fit = let e = kind_agrees tag kinds.Heap (Root t id None None) h fit in absurd cc
heap_from tag h (Root t id None (Some second)) fit = absurd fit.0.1
heap_from tag h (Root t id (Some first) None) fit = let e = kind_agrees tag kinds.Heap (Root t id (Some first) None) h fit in absurd cc
heap_from tag h (Root t id (Some first) (Some second)) fit = let e = kind_agrees tag kinds.Heap (Root t id (Some first) (Some second)) h fit in absurd cc
heap_from tag h (HeapInfo heap name) fit = ((heap, name), (fit.0, refl))
heap_from tag h (ClassDump id stack parent loader signers domain spare_a spare_b size cs ss fs) fit = let e = kind_agrees tag kinds.Heap (ClassDump id stack parent loader signers domain spare_a spare_b size cs ss fs) h fit in absurd cc
heap_from tag h (Instance id stack class bytes) fit = let e = kind_agrees tag kinds.Heap (Instance id stack class bytes) h fit in absurd cc
heap_from tag h (ObjectArray id stack class items) fit = let e = kind_agrees tag kinds.Heap (ObjectArray id stack class items) h fit in absurd cc
heap_from tag h (PrimitiveArray id stack code count bytes) fit = let e = kind_agrees tag kinds.Heap (PrimitiveArray id stack code count bytes) h fit in absurd cc
heap_from tag h (NoData id stack count code) fit = let e = kind_agrees tag kinds.Heap (NoData id stack count code) h fit in absurd cc

heap_made : (tag : ℕ) → kind_of tag ≡ Some kinds.Heap → IsMade heap_text heap_fits (heap_make tag) part_body (PartFits tag)
heap_made tag h = record {
  to = λ a fit. (fit, alone tag (Some kinds.Heap) h);
  same = λ a fit. refl;
  from = heap_from tag h;
}

heap_format : (tag : ℕ) → kind_of tag ≡ Some kinds.Heap → IsFormat (part_of_kind kinds.Heap tag) part_body (PartFits tag)
unfolding heap_info
heap_format tag h = made_format (both (number w32) (λ _. (number w32))) heap_text heap_fits (heap_make tag) part_body (PartFits tag) (both_format (number w32) word IsWord (λ _. (number w32)) word (λ _. IsWord) word_format (λ _ _. word_format)) (heap_made tag h)

-- ---- class

abbrev class_text : Triple × (Triple × (Triple × (List (ℕ × ℕ × List ℕ) × (List (ℕ × ℕ × List ℕ) × List (ℕ × ℕ))))) → List ℕ
class_text a = triple_text a.0 ++ (triple_text a.1.0 ++ (triple_text a.1.1.0 ++ (list_text constant constant_bytes IsConstant a.1.1.1.0 ++ (list_text static_field static_bytes IsStatic a.1.1.1.1.0 ++ list_text field_name pair_text PairFits a.1.1.1.1.1))))

abbrev class_fits : Triple × (Triple × (Triple × (List (ℕ × ℕ × List ℕ) × (List (ℕ × ℕ × List ℕ) × List (ℕ × ℕ))))) → Type 0
class_fits a = TripleFits a.0 × (TripleFits a.1.0 × (TripleFits a.1.1.0 × (ListFits constant constant_bytes IsConstant a.1.1.1.0 × (ListFits static_field static_bytes IsStatic a.1.1.1.1.0 × ListFits field_name pair_text PairFits a.1.1.1.1.1))))

abbrev class_make : ℕ → Triple × (Triple × (Triple × (List (ℕ × ℕ × List ℕ) × (List (ℕ × ℕ × List ℕ) × List (ℕ × ℕ))))) → SubRecord
class_make tag a = ClassDump a.0.0 a.0.1.0 a.0.1.1 a.1.0.0 a.1.0.1.0 a.1.0.1.1 a.1.1.0.0 a.1.1.0.1.0 a.1.1.0.1.1 a.1.1.1.0 a.1.1.1.1.0 a.1.1.1.1.1

class_from : (tag : ℕ) → kind_of tag ≡ Some kinds.Class → (p : SubRecord) → PartFits tag p → (a : Triple × (Triple × (Triple × (List (ℕ × ℕ × List ℕ) × (List (ℕ × ℕ × List ℕ) × List (ℕ × ℕ)))))) × (class_fits a × (class_make tag a ≡ p))
class_from tag h (Root t id None None) fit = let e = kind_agrees tag kinds.Class (Root t id None None) h fit in absurd cc
class_from tag h (Root t id None (Some second)) fit = absurd fit.0.1
class_from tag h (Root t id (Some first) None) fit = let e = kind_agrees tag kinds.Class (Root t id (Some first) None) h fit in absurd cc
class_from tag h (Root t id (Some first) (Some second)) fit = let e = kind_agrees tag kinds.Class (Root t id (Some first) (Some second)) h fit in absurd cc
class_from tag h (HeapInfo heap name) fit = let e = kind_agrees tag kinds.Class (HeapInfo heap name) h fit in absurd cc
class_from tag h (ClassDump id stack parent loader signers domain spare_a spare_b size cs ss fs) fit = (((id, (stack, parent)), ((loader, (signers, domain)), ((spare_a, (spare_b, size)), (cs, (ss, fs))))), (((fit.0.0, (fit.0.1, fit.0.2)), ((fit.0.3, (fit.0.4, fit.0.5)), ((fit.0.6, (fit.0.7, fit.0.8)), ((fit.0.9, fit.0.10), ((fit.0.11, fit.0.12), (fit.0.13, field_names_from fs fit.0.14)))))), refl))
class_from tag h (Instance id stack class bytes) fit = let e = kind_agrees tag kinds.Class (Instance id stack class bytes) h fit in absurd cc
class_from tag h (ObjectArray id stack class items) fit = let e = kind_agrees tag kinds.Class (ObjectArray id stack class items) h fit in absurd cc
class_from tag h (PrimitiveArray id stack code count bytes) fit = let e = kind_agrees tag kinds.Class (PrimitiveArray id stack code count bytes) h fit in absurd cc
class_from tag h (NoData id stack count code) fit = let e = kind_agrees tag kinds.Class (NoData id stack count code) h fit in absurd cc

class_made : (tag : ℕ) → kind_of tag ≡ Some kinds.Class → IsMade class_text class_fits (class_make tag) part_body (PartFits tag)
class_made tag h = record {
  to = λ a fit. ((fit.0.0, fit.0.1.0, fit.0.1.1, fit.1.0.0, fit.1.0.1.0, fit.1.0.1.1, fit.1.1.0.0, fit.1.1.0.1.0, fit.1.1.0.1.1, fit.1.1.1.0.0, fit.1.1.1.0.1, fit.1.1.1.1.0.0, fit.1.1.1.1.0.1, fit.1.1.1.1.1.0, field_names_to a.1.1.1.1.1 fit.1.1.1.1.1.1), alone tag (Some kinds.Class) h);
  same = λ a fit. ap (λ (t : List ℕ). triple_text a.0 ++ (triple_text a.1.0 ++ (triple_text a.1.1.0 ++ (list_text constant constant_bytes IsConstant a.1.1.1.0 ++ (list_text static_field static_bytes IsStatic a.1.1.1.1.0 ++ (field 2 (length a.1.1.1.1.1) ++ t)))))) (append-nil (flat_map field_name_bytes a.1.1.1.1.1) ∙ field_names_same a.1.1.1.1.1);
  from = class_from tag h;
}

class_format : (tag : ℕ) → kind_of tag ≡ Some kinds.Class → IsFormat (part_of_kind kinds.Class tag) part_body (PartFits tag)
unfolding class_dump
class_format tag h = made_format (both triple (λ _. both triple (λ _. both triple (λ _. both constants (λ _. both statics (λ _. field_names)))))) class_text class_fits (class_make tag) part_body (PartFits tag) (both_format triple triple_text TripleFits (λ _. both triple (λ _. both triple (λ _. both constants (λ _. both statics (λ _. field_names))))) (λ a. triple_text a.0 ++ (triple_text a.1.0 ++ (list_text constant constant_bytes IsConstant a.1.1.0 ++ (list_text static_field static_bytes IsStatic a.1.1.1.0 ++ list_text field_name pair_text PairFits a.1.1.1.1)))) (λ _ a. TripleFits a.0 × (TripleFits a.1.0 × (ListFits constant constant_bytes IsConstant a.1.1.0 × (ListFits static_field static_bytes IsStatic a.1.1.1.0 × ListFits field_name pair_text PairFits a.1.1.1.1)))) triple_format (λ _ _. both_format triple triple_text TripleFits (λ _. both triple (λ _. both constants (λ _. both statics (λ _. field_names)))) (λ a. triple_text a.0 ++ (list_text constant constant_bytes IsConstant a.1.0 ++ (list_text static_field static_bytes IsStatic a.1.1.0 ++ list_text field_name pair_text PairFits a.1.1.1))) (λ _ a. TripleFits a.0 × (ListFits constant constant_bytes IsConstant a.1.0 × (ListFits static_field static_bytes IsStatic a.1.1.0 × ListFits field_name pair_text PairFits a.1.1.1))) triple_format (λ _ _. both_format triple triple_text TripleFits (λ _. both constants (λ _. both statics (λ _. field_names))) (λ a. list_text constant constant_bytes IsConstant a.0 ++ (list_text static_field static_bytes IsStatic a.1.0 ++ list_text field_name pair_text PairFits a.1.1)) (λ _ a. ListFits constant constant_bytes IsConstant a.0 × (ListFits static_field static_bytes IsStatic a.1.0 × ListFits field_name pair_text PairFits a.1.1)) triple_format (λ _ _. both_format constants (list_text constant constant_bytes IsConstant) (ListFits constant constant_bytes IsConstant) (λ _. both statics (λ _. field_names)) (λ a. list_text static_field static_bytes IsStatic a.0 ++ list_text field_name pair_text PairFits a.1) (λ _ a. ListFits static_field static_bytes IsStatic a.0 × ListFits field_name pair_text PairFits a.1) constants_format (λ _ _. both_format statics (list_text static_field static_bytes IsStatic) (ListFits static_field static_bytes IsStatic) (λ _. field_names) (list_text field_name pair_text PairFits) (λ _. ListFits field_name pair_text PairFits) statics_format (λ _ _. field_names_format)))))) (class_made tag h)

-- ---- object

abbrev object_text : Triple × List ℕ → List ℕ
object_text a = triple_text a.0 ++ counted_text a.1

abbrev object_fits : Triple × List ℕ → Type 0
object_fits a = TripleFits a.0 × CountedFits a.1

abbrev object_make : ℕ → Triple × List ℕ → SubRecord
object_make tag a = Instance a.0.0 a.0.1.0 a.0.1.1 a.1

object_from : (tag : ℕ) → kind_of tag ≡ Some kinds.Object → (p : SubRecord) → PartFits tag p → (a : Triple × List ℕ) × (object_fits a × (object_make tag a ≡ p))
object_from tag h (Root t id None None) fit = let e = kind_agrees tag kinds.Object (Root t id None None) h fit in absurd cc
object_from tag h (Root t id None (Some second)) fit = absurd fit.0.1
object_from tag h (Root t id (Some first) None) fit = let e = kind_agrees tag kinds.Object (Root t id (Some first) None) h fit in absurd cc
object_from tag h (Root t id (Some first) (Some second)) fit = let e = kind_agrees tag kinds.Object (Root t id (Some first) (Some second)) h fit in absurd cc
object_from tag h (HeapInfo heap name) fit = let e = kind_agrees tag kinds.Object (HeapInfo heap name) h fit in absurd cc
object_from tag h (ClassDump id stack parent loader signers domain spare_a spare_b size cs ss fs) fit = let e = kind_agrees tag kinds.Object (ClassDump id stack parent loader signers domain spare_a spare_b size cs ss fs) h fit in absurd cc
object_from tag h (Instance id stack class bytes) fit = (((id, (stack, class)), bytes), (((fit.0.0, (fit.0.1, fit.0.2)), (fit.0.3, fit.0.4)), refl))
object_from tag h (ObjectArray id stack class items) fit = let e = kind_agrees tag kinds.Object (ObjectArray id stack class items) h fit in absurd cc
object_from tag h (PrimitiveArray id stack code count bytes) fit = let e = kind_agrees tag kinds.Object (PrimitiveArray id stack code count bytes) h fit in absurd cc
object_from tag h (NoData id stack count code) fit = let e = kind_agrees tag kinds.Object (NoData id stack count code) h fit in absurd cc

object_made : (tag : ℕ) → kind_of tag ≡ Some kinds.Object → IsMade object_text object_fits (object_make tag) part_body (PartFits tag)
object_made tag h = record {
  to = λ a fit. ((fit.0.0, fit.0.1.0, fit.0.1.1, fit.1.0, fit.1.1), alone tag (Some kinds.Object) h);
  same = λ a fit. ap (λ (t : List ℕ). triple_text a.0 ++ (word (length a.1) ++ t)) (append-nil a.1);
  from = object_from tag h;
}

object_format : (tag : ℕ) → kind_of tag ≡ Some kinds.Object → IsFormat (part_of_kind kinds.Object tag) part_body (PartFits tag)
unfolding instance
object_format tag h = made_format (both triple (λ _. counted_bytes)) object_text object_fits (object_make tag) part_body (PartFits tag) (both_format triple triple_text TripleFits (λ _. counted_bytes) counted_text (λ _. CountedFits) triple_format (λ _ _. counted_format)) (object_made tag h)

-- ---- array

abbrev array_text : Triple × (ℕ × List ℕ) → List ℕ
array_text a = triple_text a.0 ++ (word a.1.0 ++ flat_map word a.1.1)

abbrev array_fits : Triple × (ℕ × List ℕ) → Type 0
array_fits a = TripleFits a.0 × (IsWord a.1.0 × SoMany IsWord a.0.1.1 a.1.1)

abbrev array_make : ℕ → Triple × (ℕ × List ℕ) → SubRecord
array_make tag a = ObjectArray a.0.0 a.0.1.0 a.1.0 a.1.1

array_from : (tag : ℕ) → kind_of tag ≡ Some kinds.Array → (p : SubRecord) → PartFits tag p → (a : Triple × (ℕ × List ℕ)) × (array_fits a × (array_make tag a ≡ p))
array_from tag h (Root t id None None) fit = let e = kind_agrees tag kinds.Array (Root t id None None) h fit in absurd cc
array_from tag h (Root t id None (Some second)) fit = absurd fit.0.1
array_from tag h (Root t id (Some first) None) fit = let e = kind_agrees tag kinds.Array (Root t id (Some first) None) h fit in absurd cc
array_from tag h (Root t id (Some first) (Some second)) fit = let e = kind_agrees tag kinds.Array (Root t id (Some first) (Some second)) h fit in absurd cc
array_from tag h (HeapInfo heap name) fit = let e = kind_agrees tag kinds.Array (HeapInfo heap name) h fit in absurd cc
array_from tag h (ClassDump id stack parent loader signers domain spare_a spare_b size cs ss fs) fit = let e = kind_agrees tag kinds.Array (ClassDump id stack parent loader signers domain spare_a spare_b size cs ss fs) h fit in absurd cc
array_from tag h (Instance id stack class bytes) fit = let e = kind_agrees tag kinds.Array (Instance id stack class bytes) h fit in absurd cc
array_from tag h (ObjectArray id stack class items) fit = (((id, (stack, length items)), (class, items)), (((fit.0.0, (fit.0.1, fit.0.3)), (fit.0.2, (refl, fit.0.4))), refl))
array_from tag h (PrimitiveArray id stack code count bytes) fit = let e = kind_agrees tag kinds.Array (PrimitiveArray id stack code count bytes) h fit in absurd cc
array_from tag h (NoData id stack count code) fit = let e = kind_agrees tag kinds.Array (NoData id stack count code) h fit in absurd cc

array_made : (tag : ℕ) → kind_of tag ≡ Some kinds.Array → IsMade array_text array_fits (array_make tag) part_body (PartFits tag)
array_made tag h = record {
  to = λ a fit. ((fit.0.0, fit.0.1.0, fit.1.0, subst IsWord (sym fit.1.1.0) fit.0.1.1, fit.1.1.1), alone tag (Some kinds.Array) h);
  same = λ a fit. ap (λ (n : ℕ). word a.0.0 ++ (word a.0.1.0 ++ (word n ++ (word a.1.0 ++ (flat_map word a.1.1 ++ []))))) fit.1.1.0 ∙ ap (λ (t : List ℕ). triple_text a.0 ++ (word a.1.0 ++ t)) (append-nil (flat_map word a.1.1));
  from = array_from tag h;
}

array_format : (tag : ℕ) → kind_of tag ≡ Some kinds.Array → IsFormat (part_of_kind kinds.Array tag) part_body (PartFits tag)
unfolding object_array
array_format tag h = made_format (both triple (λ h. both (number w32) (λ _. times h.1.1 (number w32)))) array_text array_fits (array_make tag) part_body (PartFits tag) (both_format triple triple_text TripleFits (λ h. both (number w32) (λ _. times h.1.1 (number w32))) (λ x. word x.0 ++ flat_map word x.1) (λ h x. IsWord x.0 × SoMany IsWord h.1.1 x.1) triple_format (λ h _. both_format (number w32) word IsWord (λ _. times h.1.1 (number w32)) (flat_map word) (λ _. SoMany IsWord h.1.1) word_format (λ _ _. times_format (number w32) word IsWord word_format h.1.1))) (array_made tag h)

-- ---- numbers

abbrev numbers_text : Triple × (ℕ × List ℕ) → List ℕ
numbers_text a = triple_text a.0 ++ (field 1 a.1.0 ++ a.1.1)

abbrev numbers_fits : Triple × (ℕ × List ℕ) → Type 0
numbers_fits a = TripleFits a.0 × ((is_primitive a.1.0 ≡ true) × SoMany IsByte (a.0.1.1 * value_bytes a.1.0) a.1.1)

abbrev numbers_make : ℕ → Triple × (ℕ × List ℕ) → SubRecord
numbers_make tag a = PrimitiveArray a.0.0 a.0.1.0 a.1.0 a.0.1.1 a.1.1

numbers_from : (tag : ℕ) → kind_of tag ≡ Some kinds.Numbers → (p : SubRecord) → PartFits tag p → (a : Triple × (ℕ × List ℕ)) × (numbers_fits a × (numbers_make tag a ≡ p))
numbers_from tag h (Root t id None None) fit = let e = kind_agrees tag kinds.Numbers (Root t id None None) h fit in absurd cc
numbers_from tag h (Root t id None (Some second)) fit = absurd fit.0.1
numbers_from tag h (Root t id (Some first) None) fit = let e = kind_agrees tag kinds.Numbers (Root t id (Some first) None) h fit in absurd cc
numbers_from tag h (Root t id (Some first) (Some second)) fit = let e = kind_agrees tag kinds.Numbers (Root t id (Some first) (Some second)) h fit in absurd cc
numbers_from tag h (HeapInfo heap name) fit = let e = kind_agrees tag kinds.Numbers (HeapInfo heap name) h fit in absurd cc
numbers_from tag h (ClassDump id stack parent loader signers domain spare_a spare_b size cs ss fs) fit = let e = kind_agrees tag kinds.Numbers (ClassDump id stack parent loader signers domain spare_a spare_b size cs ss fs) h fit in absurd cc
numbers_from tag h (Instance id stack class bytes) fit = let e = kind_agrees tag kinds.Numbers (Instance id stack class bytes) h fit in absurd cc
numbers_from tag h (ObjectArray id stack class items) fit = let e = kind_agrees tag kinds.Numbers (ObjectArray id stack class items) h fit in absurd cc
numbers_from tag h (PrimitiveArray id stack code count bytes) fit = (((id, (stack, count)), (code, bytes)), (((fit.0.0, (fit.0.1, fit.0.2)), (primitive_to code fit.0.3, (fit.0.5, fit.0.4))), refl))
numbers_from tag h (NoData id stack count code) fit = let e = kind_agrees tag kinds.Numbers (NoData id stack count code) h fit in absurd cc

numbers_made : (tag : ℕ) → kind_of tag ≡ Some kinds.Numbers → IsMade numbers_text numbers_fits (numbers_make tag) part_body (PartFits tag)
numbers_made tag h = record {
  to = λ a fit. ((fit.0.0, fit.0.1.0, fit.0.1.1, primitive_from a.1.0 fit.1.0, fit.1.1.1, fit.1.1.0), alone tag (Some kinds.Numbers) h);
  same = λ a fit. ap (λ (t : List ℕ). triple_text a.0 ++ (field 1 a.1.0 ++ t)) (append-nil a.1.1);
  from = numbers_from tag h;
}

numbers_format : (tag : ℕ) → kind_of tag ≡ Some kinds.Numbers → IsFormat (part_of_kind kinds.Numbers tag) part_body (PartFits tag)
unfolding primitive_array
numbers_format tag h = made_format (both triple (λ h. both (checked is_primitive) (λ code. raw (h.1.1 * value_bytes code)))) numbers_text numbers_fits (numbers_make tag) part_body (PartFits tag) (both_format triple triple_text TripleFits (λ h. both (checked is_primitive) (λ code. raw (h.1.1 * value_bytes code))) (λ x. field 1 x.0 ++ x.1) (λ h x. (is_primitive x.0 ≡ true) × SoMany IsByte (h.1.1 * value_bytes x.0) x.1) triple_format (λ h _. both_format (checked is_primitive) (field 1) (λ c. is_primitive c ≡ true) (λ code. raw (h.1.1 * value_bytes code)) same_bytes (λ code. SoMany IsByte (h.1.1 * value_bytes code)) primitive_format (λ code _. raw_format (h.1.1 * value_bytes code)))) (numbers_made tag h)

-- ---- no_numbers

abbrev no_numbers_text : Triple × ℕ → List ℕ
no_numbers_text a = triple_text a.0 ++ field 1 a.1

abbrev no_numbers_fits : Triple × ℕ → Type 0
no_numbers_fits a = TripleFits a.0 × (is_primitive a.1 ≡ true)

abbrev no_numbers_make : ℕ → Triple × ℕ → SubRecord
no_numbers_make tag a = NoData a.0.0 a.0.1.0 a.0.1.1 a.1

no_numbers_from : (tag : ℕ) → kind_of tag ≡ Some kinds.NoNumbers → (p : SubRecord) → PartFits tag p → (a : Triple × ℕ) × (no_numbers_fits a × (no_numbers_make tag a ≡ p))
no_numbers_from tag h (Root t id None None) fit = let e = kind_agrees tag kinds.NoNumbers (Root t id None None) h fit in absurd cc
no_numbers_from tag h (Root t id None (Some second)) fit = absurd fit.0.1
no_numbers_from tag h (Root t id (Some first) None) fit = let e = kind_agrees tag kinds.NoNumbers (Root t id (Some first) None) h fit in absurd cc
no_numbers_from tag h (Root t id (Some first) (Some second)) fit = let e = kind_agrees tag kinds.NoNumbers (Root t id (Some first) (Some second)) h fit in absurd cc
no_numbers_from tag h (HeapInfo heap name) fit = let e = kind_agrees tag kinds.NoNumbers (HeapInfo heap name) h fit in absurd cc
no_numbers_from tag h (ClassDump id stack parent loader signers domain spare_a spare_b size cs ss fs) fit = let e = kind_agrees tag kinds.NoNumbers (ClassDump id stack parent loader signers domain spare_a spare_b size cs ss fs) h fit in absurd cc
no_numbers_from tag h (Instance id stack class bytes) fit = let e = kind_agrees tag kinds.NoNumbers (Instance id stack class bytes) h fit in absurd cc
no_numbers_from tag h (ObjectArray id stack class items) fit = let e = kind_agrees tag kinds.NoNumbers (ObjectArray id stack class items) h fit in absurd cc
no_numbers_from tag h (PrimitiveArray id stack code count bytes) fit = let e = kind_agrees tag kinds.NoNumbers (PrimitiveArray id stack code count bytes) h fit in absurd cc
no_numbers_from tag h (NoData id stack count code) fit = (((id, (stack, count)), code), (((fit.0.0, (fit.0.1, fit.0.2)), primitive_to code fit.0.3), refl))

no_numbers_made : (tag : ℕ) → kind_of tag ≡ Some kinds.NoNumbers → IsMade no_numbers_text no_numbers_fits (no_numbers_make tag) part_body (PartFits tag)
no_numbers_made tag h = record {
  to = λ a fit. ((fit.0.0, fit.0.1.0, fit.0.1.1, primitive_from a.1 fit.1), alone tag (Some kinds.NoNumbers) h);
  same = λ a fit. refl;
  from = no_numbers_from tag h;
}

no_numbers_format : (tag : ℕ) → kind_of tag ≡ Some kinds.NoNumbers → IsFormat (part_of_kind kinds.NoNumbers tag) part_body (PartFits tag)
unfolding no_data
no_numbers_format tag h = made_format (both triple (λ _. checked is_primitive)) no_numbers_text no_numbers_fits (no_numbers_make tag) part_body (PartFits tag) (both_format triple triple_text TripleFits (λ _. checked is_primitive) (field 1) (λ _ c. is_primitive c ≡ true) triple_format (λ _ _. primitive_format)) (no_numbers_made tag h)

-- ---- parts by their tags

kind_format : (k : Kind) (tag : ℕ) → kind_of tag ≡ Some k → IsFormat (part_of_kind k tag) part_body (PartFits tag)
kind_format kinds.Bare tag h = bare_format tag h
kind_format kinds.WithOne tag h = with_one_format tag h
kind_format kinds.WithTwo tag h = with_two_format tag h
kind_format kinds.Heap tag h = heap_format tag h
kind_format kinds.Class tag h = class_format tag h
kind_format kinds.Object tag h = object_format tag h
kind_format kinds.Array tag h = array_format tag h
kind_format kinds.Numbers tag h = numbers_format tag h
kind_format kinds.NoNumbers tag h = no_numbers_format tag h

-- a part with this tag stands behind it
tagged_text : (tag : ℕ) (p : SubRecord) → PartFits tag p → tag ∷ part_body p ≡ bytes_of_part p
tagged_text tag p fit =
    let small : tag < 256 = subst (λ (t : ℕ). t < 256) fit.1 (tag_small p fit.0) in
    ap (λ (t : List ℕ). t ++ part_body p) (sym (cell tag small)) ∙ ap (λ (t : ℕ). field 1 t ++ part_body p) (sym fit.1) ∙ sym (part_text p)

part_again : (p : SubRecord) (rest : List ℕ) → IsPart p → part_at (bytes_of_part p ++ rest) ≡ Ok (p, rest)
unfolding part_at
part_again p rest fit =
    let tag = part_tag p in
    let known = kind_is p fit in
    ap (λ (t : List ℕ). part_at (t ++ rest)) (sym (tagged_text tag p (fit, refl)))
    ∙ ap (λ (k : Option Kind). part_behind k tag (part_body p ++ rest)) known
    ∙ (kind_format (part_kind p) tag known).again p rest (fit, refl)

tagged_takes : (tag : ℕ) (bytes : List ℕ) (k : Option Kind) → kind_of tag ≡ k → (p : SubRecord) (rest : List ℕ) → AreBytes bytes → part_behind k tag bytes ≡ Ok (p, rest) → (tag ∷ bytes ≡ bytes_of_part p ++ rest) × IsPart p
tagged_takes tag bytes None h p rest fits e = absurd cc
tagged_takes tag bytes (Some k) h p rest fits e =
    let one = (kind_format k tag h).takes bytes p rest fits e in
    (ap (λ (t : List ℕ). tag ∷ t) one.0 ∙ ap (λ (t : List ℕ). t ++ rest) (tagged_text tag p one.1), one.1.0)

part_takes : (bytes : List ℕ) (p : SubRecord) (rest : List ℕ) → AreBytes bytes → part_at bytes ≡ Ok (p, rest) → (bytes ≡ bytes_of_part p ++ rest) × IsPart p
unfolding part_at
part_takes [] p rest fits e = absurd cc
part_takes (tag ∷ bytes) p rest fits e = tagged_takes tag bytes (kind_of tag) refl p rest (AreBytes-right (tag ∷ []) bytes fits) e

behind_tag : (tag : ℕ) (front : List ℕ) → GoesOn part_body (PartFits tag) front → GoesOn bytes_of_part IsPart (tag ∷ front)
behind_tag tag front h = (h.0, h.1, h.2, (h.3.0.0, sym (tagged_text tag h.0 h.3.0) ∙ ap (λ (t : List ℕ). tag ∷ t) h.3.1))

some_part : IsPart (HeapInfo 0 0)
some_part = (omega arith, omega arith)

before_tag : GoesOn bytes_of_part IsPart []
before_tag = (HeapInfo 0 0, 0xfe, part_body (HeapInfo 0 0), (some_part, refl))

tagged_short : (tag : ℕ) (bytes : List ℕ) (k : Option Kind) → kind_of tag ≡ k → AreBytes bytes → part_behind k tag bytes ≡ Err Short → GoesOn bytes_of_part IsPart (tag ∷ bytes)
tagged_short tag bytes None h fits e = absurd cc
tagged_short tag bytes (Some k) h fits e = behind_tag tag bytes ((kind_format k tag h).short bytes fits e)

part_short : (bytes : List ℕ) → AreBytes bytes → part_at bytes ≡ Err Short → GoesOn bytes_of_part IsPart bytes
unfolding part_at
part_short [] fits e = before_tag
part_short (tag ∷ bytes) fits e = tagged_short tag bytes (kind_of tag) refl (AreBytes-right (tag ∷ []) bytes fits) e

tagged_bad : (tag : ℕ) (bytes : List ℕ) (k : Option Kind) → kind_of tag ≡ k → (left : ℕ) → AreBytes bytes → part_behind k tag bytes ≡ Err (Refused left) → StopsAt part_at bytes_of_part IsPart (tag ∷ bytes) left
unfolding part_at
tagged_bad tag bytes None h left fits e =
    let same : left ≡ suc (length bytes) = cc in
    record {
      front = [];
      code = tag;
      after = bytes;
      whole = refl;
      place = same;
      before = before_tag;
      refused = λ rest. ap (λ (k : Option Kind). part_behind k tag rest) h;
    }
tagged_bad tag bytes (Some k) h left fits e =
    let s = (kind_format k tag h).bad bytes left fits e in
    record {
      front = tag ∷ s.front;
      code = s.code;
      after = s.after;
      whole = ap (λ (t : List ℕ). tag ∷ t) s.whole;
      place = s.place;
      before = behind_tag tag s.front s.before;
      refused = λ rest. ap (λ (k : Option Kind). part_behind k tag (s.front ++ s.code ∷ rest)) h ∙ s.refused rest;
    }

part_bad : (bytes : List ℕ) (left : ℕ) → AreBytes bytes → part_at bytes ≡ Err (Refused left) → StopsAt part_at bytes_of_part IsPart bytes left
unfolding part_at
part_bad [] left fits e = absurd cc
part_bad (tag ∷ bytes) left fits e = tagged_bad tag bytes (kind_of tag) refl left (AreBytes-right (tag ∷ []) bytes fits) e

part_octets : (p : SubRecord) → IsPart p → AreBytes (bytes_of_part p)
part_octets p fit =
    let body = (kind_format (part_kind p) (part_tag p) (kind_is p fit)).octets p (fit, refl) in
    subst AreBytes (sym (part_text p)) (All-append IsByte (field 1 (part_tag p)) (part_body p) (field_octets 1 (part_tag p)) body)

pub part_format : IsFormat part_at bytes_of_part IsPart
part_format = record {
  again = part_again;
  takes = part_takes;
  some = (HeapInfo 0 0, some_part);
  octets = part_octets;
  short = part_short;
  bad = part_bad;
}
