-- The formats of identifiers, and of what the parts of a wide segment begin with and list.
use Rattle.std.proofs.Common.{◌≡◌, ℕ, Bool, true, false, List, [], ◌∷◌, ◌++◌, refl, sym, ap, ◌∙◌, append_assoc, arith, All}
use Rattle.std.specs.Prelude.{nat_eq}
use Rattle.std.specs.Int.{w16, w32}
use Rattle.std.specs.List.{flat_map}
use Rattle.std.proofs.lemmas.List.{append-nil}
use Rattle.std.proofs.lemmas.List.Elements.{All-weaker}
use Rattle.hprof_records.specs.Fields.{field}
use Rattle.hprof_records.specs.Parts.{word, constant_bytes}
use Rattle.hprof_records.specs.Formed.{IsByte, IsHalf, IsWord}
use Rattle.hprof_read.specs.Reading.{Reader, number, raw, checked, both, is_type}
use Rattle.hprof_read.proofs.Formats.{IsFormat, IsMade, SoMany, both_format, both_text, BothFit, made_format}
use Rattle.hprof_read.proofs.FieldFormats.{half_format, word_format, long_number_format, raw_format, same_bytes}
use Rattle.hprof_read.proofs.PartFormats.{Triple, list_text, ListFits, list_format, type_format, type_from, type_to}
use Rattle.hprof_wide.specs.declared.ids.IdSize.{IdSize}
use Rattle.hprof_wide.specs.declared.ids.IdSize.TheVariants.{Four, Eight}
use Rattle.hprof_wide.specs.Parts.{wide_value_bytes, further_width, wide_static_bytes, wide_field_name_bytes}
use Rattle.hprof_wide.specs.Formed.{IsId, IsWideConstant, IsWideStatic, IsWideFieldName}
use Rattle.hprof_wide.specs.Reading.{width_of, ident, three, object_head, array_head, three_ids, class_size, typed, constant, static_field, field_name, constants, statics, field_names, further_by, further}

pub id_format : (z : IdSize) → IsFormat (ident z) (field (width_of z)) (IsId (width_of z))
unfolding ident
id_format Four = word_format
id_format Eight = long_number_format

pub zero_id : (z : IdSize) → IsId (width_of z) 0
zero_id Four = omega arith
zero_id Eight = omega arith

-- ---- three values

abbrev pub three_text : (ℕ → List ℕ) → (ℕ → List ℕ) → (ℕ → List ℕ) → Triple → List ℕ
three_text ta tb tc t = ta t.0 ++ (tb t.1.0 ++ tc t.1.1)

-- the three, and more behind them
pub three_same : (ta tb tc : ℕ → List ℕ) (t : Triple) {x y : List ℕ} → x ≡ y → ta t.0 ++ (tb t.1.0 ++ (tc t.1.1 ++ x)) ≡ three_text ta tb tc t ++ y
three_same ta tb tc t {x} {y} e =
    ap (λ (r : List ℕ). ta t.0 ++ r) (sym (append_assoc (tb t.1.0) (tc t.1.1) x))
    ∙ sym (append_assoc (ta t.0) (tb t.1.0 ++ tc t.1.1) x)
    ∙ ap (λ (r : List ℕ). three_text ta tb tc t ++ r) e

abbrev pub ThreeFit : (ℕ → Type 0) → (ℕ → Type 0) → (ℕ → Type 0) → Triple → Type 0
ThreeFit Fa Fb Fc t = Fa t.0 × (Fb t.1.0 × Fc t.1.1)

pub three_format : (a b c : Reader ℕ) (ta tb tc : ℕ → List ℕ) (Fa Fb Fc : ℕ → Type 0) → IsFormat a ta Fa → IsFormat b tb Fb → IsFormat c tc Fc → IsFormat (three a b c) (three_text ta tb tc) (ThreeFit Fa Fb Fc)
three_format a b c ta tb tc Fa Fb Fc fa fb fc =
    both_format a ta Fa (λ _. both b (λ _. c)) (λ t. tb t.0 ++ tc t.1) (λ _ t. Fb t.0 × Fc t.1)
    fa (λ _ _. both_format b tb Fb (λ _. c) tc (λ _. Fc) fb (λ _ _. fc))

module _ (z : IdSize) where
  abbrev w : ℕ
  w = width_of z

  pub object_head_format : IsFormat (object_head z) (three_text (field w) word (field w)) (ThreeFit (IsId w) IsWord (IsId w))
  unfolding object_head
  object_head_format = three_format (ident z) (number w32) (ident z) (field w) word (field w) (IsId w) IsWord (IsId w) (id_format z) word_format (id_format z)

  pub array_head_format : IsFormat (array_head z) (three_text (field w) word word) (ThreeFit (IsId w) IsWord IsWord)
  unfolding array_head
  array_head_format = three_format (ident z) (number w32) (number w32) (field w) word word (IsId w) IsWord IsWord (id_format z) word_format word_format

  pub three_ids_format : IsFormat (three_ids z) (three_text (field w) (field w) (field w)) (ThreeFit (IsId w) (IsId w) (IsId w))
  unfolding three_ids
  three_ids_format = three_format (ident z) (ident z) (ident z) (field w) (field w) (field w) (IsId w) (IsId w) (IsId w) (id_format z) (id_format z) (id_format z)

  pub class_size_format : IsFormat (class_size z) (three_text (field w) (field w) word) (ThreeFit (IsId w) (IsId w) IsWord)
  unfolding class_size
  class_size_format = three_format (ident z) (ident z) (number w32) (field w) (field w) word (IsId w) (IsId w) IsWord (id_format z) (id_format z) word_format

  -- ---- the one further field of a root

  further_by_format : (tag : ℕ) (is_id : Bool) → nat_eq tag 0x01 ≡ is_id → IsFormat (further_by is_id z) (field (further_width w tag)) (IsId (further_width w tag))
  further_by_format tag true e = rw e (id_format z)
  further_by_format tag false e = rw e word_format

  pub further_format : (tag : ℕ) → IsFormat (further z tag) (field (further_width w tag)) (IsId (further_width w tag))
  unfolding further
  further_format tag = further_by_format tag (nat_eq tag 0x01) refl

  -- ---- constants, static fields, fields

  abbrev typed_text : ℕ × List ℕ → List ℕ
  typed_text t = field 1 t.0 ++ t.1

  abbrev TypedFits : ℕ × List ℕ → Type 0
  TypedFits t = (is_type t.0 ≡ true) × SoMany IsByte (wide_value_bytes w t.0) t.1

  typed_format : IsFormat (typed z) typed_text TypedFits
  unfolding typed
  typed_format = both_format (checked is_type) (field 1) (λ c. is_type c ≡ true) (λ code. raw (wide_value_bytes w code)) same_bytes (λ code. SoMany IsByte (wide_value_bytes w code)) type_format (λ code _. raw_format (wide_value_bytes w code))

  abbrev triple_of : ℕ × (ℕ × List ℕ) → ℕ × ℕ × List ℕ
  triple_of c = (c.0, c.1.0, c.1.1)

  constant_made : IsMade (both_text (number w16) (field 2) IsHalf (λ _. typed z) typed_text (λ _. TypedFits)) (BothFit (number w16) (field 2) IsHalf (λ _. typed z) typed_text (λ _. TypedFits)) triple_of constant_bytes (IsWideConstant w)
  constant_made = record {
    to = λ a fit. (fit.0, type_from a.1.0 fit.1.0, (fit.1.1.1, fit.1.1.0));
    same = λ a fit. ap (λ (t : List ℕ). field 2 a.0 ++ (field 1 a.1.0 ++ t)) (append-nil a.1.1);
    from = λ c fit. ((c.0, (c.1, c.2)), ((fit.0, (type_to c.1 fit.1, (fit.2.1, fit.2.0))), refl));
  }

  constant_format : IsFormat (constant z) constant_bytes (IsWideConstant w)
  unfolding constant
  constant_format =
      made_format (both (number w16) (λ _. typed z)) (both_text (number w16) (field 2) IsHalf (λ _. typed z) typed_text (λ _. TypedFits)) (BothFit (number w16) (field 2) IsHalf (λ _. typed z) typed_text (λ _. TypedFits)) triple_of constant_bytes (IsWideConstant w)
      (both_format (number w16) (field 2) IsHalf (λ _. typed z) typed_text (λ _. TypedFits) half_format (λ _ _. typed_format)) constant_made

  static_made : IsMade (both_text (ident z) (field w) (IsId w) (λ _. typed z) typed_text (λ _. TypedFits)) (BothFit (ident z) (field w) (IsId w) (λ _. typed z) typed_text (λ _. TypedFits)) triple_of (wide_static_bytes w) (IsWideStatic w)
  static_made = record {
    to = λ a fit. (fit.0, type_from a.1.0 fit.1.0, (fit.1.1.1, fit.1.1.0));
    same = λ a fit. ap (λ (t : List ℕ). field w a.0 ++ (field 1 a.1.0 ++ t)) (append-nil a.1.1);
    from = λ c fit. ((c.0, (c.1, c.2)), ((fit.0, (type_to c.1 fit.1, (fit.2.1, fit.2.0))), refl));
  }

  static_format : IsFormat (static_field z) (wide_static_bytes w) (IsWideStatic w)
  unfolding static_field
  static_format =
      made_format (both (ident z) (λ _. typed z)) (both_text (ident z) (field w) (IsId w) (λ _. typed z) typed_text (λ _. TypedFits)) (BothFit (ident z) (field w) (IsId w) (λ _. typed z) typed_text (λ _. TypedFits)) triple_of (wide_static_bytes w) (IsWideStatic w)
      (both_format (ident z) (field w) (IsId w) (λ _. typed z) typed_text (λ _. TypedFits) (id_format z) (λ _ _. typed_format)) static_made

  abbrev pub pair_text : ℕ × ℕ → List ℕ
  pair_text f = field w f.0 ++ field 1 f.1

  abbrev pub PairFits : ℕ × ℕ → Type 0
  PairFits f = IsId w f.0 × (is_type f.1 ≡ true)

  pair_format : IsFormat (field_name z) pair_text PairFits
  unfolding field_name
  pair_format = both_format (ident z) (field w) (IsId w) (λ _. checked is_type) (field 1) (λ _ c. is_type c ≡ true) (id_format z) (λ _ _. type_format)

  pub field_names_same : (fs : List (ℕ × ℕ)) → flat_map (wide_field_name_bytes w) fs ≡ flat_map pair_text fs
  field_names_same [] = refl
  field_names_same (f ∷ fs) = ap (λ (t : List ℕ). (field w f.0 ++ t) ++ flat_map (wide_field_name_bytes w) fs) (append-nil (field 1 f.1)) ∙ ap (λ (t : List ℕ). pair_text f ++ t) (field_names_same fs)

  pub field_names_to : (fs : List (ℕ × ℕ)) → All PairFits fs → All (IsWideFieldName w) fs
  field_names_to fs h = All-weaker PairFits (IsWideFieldName w) (λ f fit. (fit.0, type_from f.1 fit.1)) fs h

  pub field_names_from : (fs : List (ℕ × ℕ)) → All (IsWideFieldName w) fs → All PairFits fs
  field_names_from fs h = All-weaker (IsWideFieldName w) PairFits (λ f fit. (fit.0, type_to f.1 fit.1)) fs h

  pub constants_format : IsFormat (constants z) (list_text (constant z) constant_bytes (IsWideConstant w)) (ListFits (constant z) constant_bytes (IsWideConstant w))
  unfolding constants
  constants_format = list_format (constant z) constant_bytes (IsWideConstant w) constant_format

  pub statics_format : IsFormat (statics z) (list_text (static_field z) (wide_static_bytes w) (IsWideStatic w)) (ListFits (static_field z) (wide_static_bytes w) (IsWideStatic w))
  unfolding statics
  statics_format = list_format (static_field z) (wide_static_bytes w) (IsWideStatic w) static_format

  pub field_names_format : IsFormat (field_names z) (list_text (field_name z) pair_text PairFits) (ListFits (field_name z) pair_text PairFits)
  unfolding field_names
  field_names_format = list_format (field_name z) pair_text PairFits pair_format
