-- The formats of the parts of a segment.
use Rattle.std.proofs.Common.{◌≡◌, ℕ, ◌<◌, inl, inr, Bool, true, false, cond, List, [], ◌∷◌, ◌++◌, length, refl, sym, ap, subst, ◌∙◌, arith, All}
use Rattle.std.specs.Prelude.{nat_eq, nat_le}
use Rattle.std.specs.Int.{w16, w32}
use Rattle.std.specs.List.{flat_map}
use Rattle.std.proofs.lemmas.List.{append-nil}
use Rattle.std.proofs.lemmas.List.Elements.{All-weaker}
use Rattle.std.proofs.lemmas.Bool.{eqb-true, leb-true, le-leb}
use Rattle.hprof_records.specs.Fields.{field}
use Rattle.hprof_records.specs.Types.{value_bytes, IsType, IsPrimitive}
use Rattle.hprof_records.specs.Parts.{word, constant_bytes, static_bytes, field_name_bytes}
use Rattle.hprof_records.specs.Formed.{IsByte, IsHalf, IsWord, IsConstant, IsStatic, IsFieldName}
use Rattle.hprof_read.specs.Reading.{Reader, number, raw, checked, both, times, counted, counted_bytes, triple, is_primitive, is_type, typed, constant, static_field, field_name, constants, statics, field_names}
use Rattle.hprof_read.proofs.Formats.{IsFormat, IsMade, SoMany, both_format, both_text, BothFit, made_format, times_format}
use Rattle.hprof_read.proofs.FieldFormats.{half_format, word_format, raw_format, same_bytes, checked_format}

abbrev pub Triple : Type 0
Triple = ℕ × (ℕ × ℕ)

abbrev pub triple_text : Triple → List ℕ
triple_text t = word t.0 ++ (word t.1.0 ++ word t.1.1)

abbrev pub TripleFits : Triple → Type 0
TripleFits t = IsWord t.0 × (IsWord t.1.0 × IsWord t.1.1)

pub triple_format : IsFormat triple triple_text TripleFits
unfolding triple
triple_format =
    both_format (number w32) word IsWord (λ _. both (number w32) (λ _. number w32)) (λ t. word t.0 ++ word t.1) (λ _ t. IsWord t.0 × IsWord t.1)
    word_format (λ _ _. both_format (number w32) word IsWord (λ _. number w32) word (λ _. IsWord) word_format (λ _ _. word_format))

-- ---- counts

module _ {A : Type 0} (read : Reader A) (text : A → List ℕ) (Fits : A → Type 0) where
  -- a count of 2 bytes, and so many values
  abbrev pub list_text : List A → List ℕ
  list_text xs = field 2 (length xs) ++ flat_map text xs

  abbrev pub ListFits : List A → Type 0
  ListFits xs = IsHalf (length xs) × All Fits xs

  list_made : IsMade (both_text (number w16) (field 2) IsHalf (λ n. times n read) (flat_map text) (λ n. SoMany Fits n)) (BothFit (number w16) (field 2) IsHalf (λ n. times n read) (flat_map text) (λ n. SoMany Fits n)) (λ x. x.1) list_text ListFits
  list_made = record {
    to = λ a fit. (subst IsHalf (sym fit.1.0) fit.0, fit.1.1);
    same = λ a fit. ap (λ (n : ℕ). field 2 n ++ flat_map text a.1) fit.1.0;
    from = λ xs fit. ((length xs, xs), ((fit.0, (refl, fit.1)), refl));
  }

  pub list_format : IsFormat read text Fits → IsFormat (counted w16 read) list_text ListFits
  list_format f =
      made_format (both (number w16) (λ n. times n read)) (both_text (number w16) (field 2) IsHalf (λ n. times n read) (flat_map text) (λ n. SoMany Fits n)) (BothFit (number w16) (field 2) IsHalf (λ n. times n read) (flat_map text) (λ n. SoMany Fits n)) (λ x. x.1) list_text ListFits
      (both_format (number w16) (field 2) IsHalf (λ n. times n read) (flat_map text) (λ n. SoMany Fits n) half_format (λ n _. times_format read text Fits f n)) list_made

-- a count of 4 bytes, and so many bytes
abbrev pub counted_text : List ℕ → List ℕ
counted_text xs = word (length xs) ++ xs

abbrev pub CountedFits : List ℕ → Type 0
CountedFits xs = IsWord (length xs) × All IsByte xs

counted_made : IsMade (both_text (number w32) word IsWord raw same_bytes (λ n. SoMany IsByte n)) (BothFit (number w32) word IsWord raw same_bytes (λ n. SoMany IsByte n)) (λ x. x.1) counted_text CountedFits
counted_made = record {
  to = λ a fit. (subst IsWord (sym fit.1.0) fit.0, fit.1.1);
  same = λ a fit. ap (λ (n : ℕ). word n ++ a.1) fit.1.0;
  from = λ xs fit. ((length xs, xs), ((fit.0, (refl, fit.1)), refl));
}

pub counted_format : IsFormat counted_bytes counted_text CountedFits
unfolding counted_bytes
counted_format =
    made_format (both (number w32) raw) (both_text (number w32) word IsWord raw same_bytes (λ n. SoMany IsByte n)) (BothFit (number w32) word IsWord raw same_bytes (λ n. SoMany IsByte n)) (λ x. x.1) counted_text CountedFits
    (both_format (number w32) word IsWord raw same_bytes (λ n. SoMany IsByte n) word_format (λ n _. raw_format n)) counted_made

module _ {A : Type 0} (read : Reader A) (text : A → List ℕ) (Fits : A → Type 0) where
  -- a count of 4 bytes, and so many values
  abbrev pub long_text : List A → List ℕ
  long_text xs = word (length xs) ++ flat_map text xs

  abbrev pub LongFits : List A → Type 0
  LongFits xs = IsWord (length xs) × All Fits xs

  long_made : IsMade (both_text (number w32) word IsWord (λ n. times n read) (flat_map text) (λ n. SoMany Fits n)) (BothFit (number w32) word IsWord (λ n. times n read) (flat_map text) (λ n. SoMany Fits n)) (λ x. x.1) long_text LongFits
  long_made = record {
    to = λ a fit. (subst IsWord (sym fit.1.0) fit.0, fit.1.1);
    same = λ a fit. ap (λ (n : ℕ). word n ++ flat_map text a.1) fit.1.0;
    from = λ xs fit. ((length xs, xs), ((fit.0, (refl, fit.1)), refl));
  }

  pub long_format : IsFormat read text Fits → IsFormat (counted w32 read) long_text LongFits
  long_format f =
      made_format (both (number w32) (λ n. times n read)) (both_text (number w32) word IsWord (λ n. times n read) (flat_map text) (λ n. SoMany Fits n)) (BothFit (number w32) word IsWord (λ n. times n read) (flat_map text) (λ n. SoMany Fits n)) (λ x. x.1) long_text LongFits
      (both_format (number w32) word IsWord (λ n. times n read) (flat_map text) (λ n. SoMany Fits n) word_format (λ n _. times_format read text Fits f n)) long_made

-- ---- types

if_true : (a b : Bool) → cond a b false ≡ true → (a ≡ true) × (b ≡ true)
if_true true b h = (refl, h)
if_true false b h = absurd cc

pub primitive_from : (code : ℕ) → is_primitive code ≡ true → IsPrimitive code
primitive_from code h = let p = if_true (nat_le 4 code) (nat_le code 11) h in (leb-true _ _ p.0, leb-true _ _ p.1)

pub primitive_to : (code : ℕ) → IsPrimitive code → is_primitive code ≡ true
primitive_to code h = rw (le-leb _ _ h.0, le-leb _ _ h.1) refl

primitive_small : (code : ℕ) → is_primitive code ≡ true → code < 256
primitive_small code h = let p = primitive_from code h in omega arith

type_by : (code : ℕ) (is_two : Bool) → nat_eq code 2 ≡ is_two → cond is_two true (is_primitive code) ≡ true → IsType code
type_by code true e h = inl (eqb-true _ _ e)
type_by code false e h = inr (primitive_from code h)

pub type_from : (code : ℕ) → is_type code ≡ true → IsType code
type_from code h = type_by code (nat_eq code 2) refl h

either : (a : Bool) → cond a true true ≡ true
either true = refl
either false = refl

pub type_to : (code : ℕ) → IsType code → is_type code ≡ true
type_to code h = elim h [
  | inl e ↦ ap is_type e
  | inr p ↦ rw (primitive_to code p) (either (nat_eq code 2))
]

type_small : (code : ℕ) → is_type code ≡ true → code < 256
type_small code h = elim (type_from code h) [ inl e ↦ omega arith | inr p ↦ omega arith ]

pub primitive_format : IsFormat (checked is_primitive) (field 1) (λ c. is_primitive c ≡ true)
primitive_format = checked_format is_primitive 4 refl primitive_small

pub type_format : IsFormat (checked is_type) (field 1) (λ c. is_type c ≡ true)
type_format = checked_format is_type 2 refl type_small

abbrev typed_text : ℕ × List ℕ → List ℕ
typed_text t = field 1 t.0 ++ t.1

abbrev TypedFits : ℕ × List ℕ → Type 0
TypedFits t = (is_type t.0 ≡ true) × SoMany IsByte (value_bytes t.0) t.1

typed_format : IsFormat typed typed_text TypedFits
unfolding typed
typed_format = both_format (checked is_type) (field 1) (λ c. is_type c ≡ true) (λ code. raw (value_bytes code)) same_bytes (λ code. SoMany IsByte (value_bytes code)) type_format (λ code _. raw_format (value_bytes code))

-- ---- constants, static fields, fields

abbrev triple_of : ℕ × (ℕ × List ℕ) → ℕ × ℕ × List ℕ
triple_of c = (c.0, c.1.0, c.1.1)

constant_made : IsMade (both_text (number w16) (field 2) IsHalf (λ _. typed) typed_text (λ _. TypedFits)) (BothFit (number w16) (field 2) IsHalf (λ _. typed) typed_text (λ _. TypedFits)) triple_of constant_bytes IsConstant
constant_made = record {
  to = λ a fit. (fit.0, type_from a.1.0 fit.1.0, (fit.1.1.1, fit.1.1.0));
  same = λ a fit. ap (λ (t : List ℕ). field 2 a.0 ++ (field 1 a.1.0 ++ t)) (append-nil a.1.1);
  from = λ c fit. ((c.0, (c.1, c.2)), ((fit.0, (type_to c.1 fit.1, (fit.2.1, fit.2.0))), refl));
}

constant_format : IsFormat constant constant_bytes IsConstant
unfolding constant
constant_format =
    made_format (both (number w16) (λ _. typed)) (both_text (number w16) (field 2) IsHalf (λ _. typed) typed_text (λ _. TypedFits)) (BothFit (number w16) (field 2) IsHalf (λ _. typed) typed_text (λ _. TypedFits)) triple_of constant_bytes IsConstant
    (both_format (number w16) (field 2) IsHalf (λ _. typed) typed_text (λ _. TypedFits) half_format (λ _ _. typed_format)) constant_made

static_made : IsMade (both_text (number w32) word IsWord (λ _. typed) typed_text (λ _. TypedFits)) (BothFit (number w32) word IsWord (λ _. typed) typed_text (λ _. TypedFits)) triple_of static_bytes IsStatic
static_made = record {
  to = λ a fit. (fit.0, type_from a.1.0 fit.1.0, (fit.1.1.1, fit.1.1.0));
  same = λ a fit. ap (λ (t : List ℕ). word a.0 ++ (field 1 a.1.0 ++ t)) (append-nil a.1.1);
  from = λ c fit. ((c.0, (c.1, c.2)), ((fit.0, (type_to c.1 fit.1, (fit.2.1, fit.2.0))), refl));
}

static_format : IsFormat static_field static_bytes IsStatic
unfolding static_field
static_format =
    made_format (both (number w32) (λ _. typed)) (both_text (number w32) word IsWord (λ _. typed) typed_text (λ _. TypedFits)) (BothFit (number w32) word IsWord (λ _. typed) typed_text (λ _. TypedFits)) triple_of static_bytes IsStatic
    (both_format (number w32) word IsWord (λ _. typed) typed_text (λ _. TypedFits) word_format (λ _ _. typed_format)) static_made

abbrev pub pair_text : ℕ × ℕ → List ℕ
pair_text f = word f.0 ++ field 1 f.1

abbrev pub PairFits : ℕ × ℕ → Type 0
PairFits f = IsWord f.0 × (is_type f.1 ≡ true)

pair_format : IsFormat field_name pair_text PairFits
unfolding field_name
pair_format = both_format (number w32) word IsWord (λ _. checked is_type) (field 1) (λ _ c. is_type c ≡ true) word_format (λ _ _. type_format)

pub field_names_same : (fs : List (ℕ × ℕ)) → flat_map field_name_bytes fs ≡ flat_map pair_text fs
field_names_same [] = refl
field_names_same (f ∷ fs) = ap (λ (t : List ℕ). (word f.0 ++ t) ++ flat_map field_name_bytes fs) (append-nil (field 1 f.1)) ∙ ap (λ (t : List ℕ). pair_text f ++ t) (field_names_same fs)

pub field_names_to : (fs : List (ℕ × ℕ)) → All PairFits fs → All IsFieldName fs
field_names_to fs h = All-weaker PairFits IsFieldName (λ f fit. (fit.0, type_from f.1 fit.1)) fs h

pub field_names_from : (fs : List (ℕ × ℕ)) → All IsFieldName fs → All PairFits fs
field_names_from fs h = All-weaker IsFieldName PairFits (λ f fit. (fit.0, type_to f.1 fit.1)) fs h

pub constants_format : IsFormat constants (list_text constant constant_bytes IsConstant) (ListFits constant constant_bytes IsConstant)
unfolding constants
constants_format = list_format constant constant_bytes IsConstant constant_format

pub statics_format : IsFormat statics (list_text static_field static_bytes IsStatic) (ListFits static_field static_bytes IsStatic)
unfolding statics
statics_format = list_format static_field static_bytes IsStatic static_format

pub field_names_format : IsFormat field_names (list_text field_name pair_text PairFits) (ListFits field_name pair_text PairFits)
unfolding field_names
field_names_format = list_format field_name pair_text PairFits pair_format
