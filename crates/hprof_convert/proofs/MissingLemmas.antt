-- How many bytes wide parts and records have.
use Rattle.std.proofs.Common.{◌≡◌, ℕ, ◌+◌, ◌*◌, List, [], ◌∷◌, ◌++◌, length, Option, None, Some, ap, sym, ◌∙◌, arith, length-append}
use Rattle.std.specs.List.{flat_map}
use Rattle.std.proofs.lemmas.List.{append-nil}
use Rattle.byteorder.specs.Numbers.{length-bytes_high_first}
use Rattle.hprof_records.specs.Fields.{field}
use Rattle.hprof_records.specs.Parts.{word, constant_bytes}
use Rattle.hprof_wide.specs.declared.wide_sub.WideSub.TheVariants as part
use Rattle.hprof_wide.specs.declared.wide_top.WideTop.TheVariants as record_of
use Rattle.hprof_wide.specs.Parts.{further_fields, further_width, wide_part_bytes, wide_field_name_bytes, wide_static_bytes}
use Rattle.hprof_wide.specs.Records.{wide_body_of, wide_record_bytes}

-- how many bytes identifiers and fields have
pub length-ids : (w : ℕ) (ids : List ℕ) → length (flat_map (field w) ids) ≡ length ids * w
length-ids w [] = omega arith
length-ids w (id ∷ ids) = length-append (field w id) (flat_map (field w) ids) ∙ omega (arith, length-bytes_high_first w id, length-ids w ids)

pub length-wide-fields : (w : ℕ) (fields : List (ℕ × ℕ)) → length (flat_map (wide_field_name_bytes w) fields) ≡ length fields * (w + 1)
length-wide-fields w [] = omega arith
length-wide-fields w (f ∷ fields) =
    let one : length (wide_field_name_bytes w f) ≡ w + 1 = length-append (field w f.0) (field 1 f.1 ++ []) ∙ omega (arith, length-bytes_high_first w f.0) in
    length-append (wide_field_name_bytes w f) (flat_map (wide_field_name_bytes w) fields) ∙ omega (arith, one, length-wide-fields w fields)

pub length-static : (w : ℕ) (s : ℕ × ℕ × List ℕ) → length (wide_static_bytes w s) ≡ w + 1 + length s.2
length-static w s = length-append (field w s.0) (field 1 s.1 ++ (s.2 ++ [])) ∙ omega (arith, length-bytes_high_first w s.0, ap length (append-nil s.2))

-- the further field of a global reference of JNI
pub length-global : (w tag first : ℕ) → tag ≡ 1 → w ≡ length (further_fields w tag (Some first) None)
length-global w tag first is = sym (length-bytes_high_first (further_width w tag) first ∙ ap (further_width w) is)

-- how many bytes parts have
pub size-root : (w tag id : ℕ) (first second : Option ℕ) → 1 + w + length (further_fields w tag first second) ≡ length (wide_part_bytes w (part.Root tag id first second))
size-root w tag id first second =
    let more : List ℕ = further_fields w tag first second in
    omega (arith, length-append (field w id) (more ++ []), length-bytes_high_first w id, ap length (append-nil more))

pub size-heap : (w heap name : ℕ) → 5 + w + 0 ≡ length (wide_part_bytes w (part.HeapInfo heap name))
size-heap w heap name = omega (arith, ap length (append-nil (field w name)), length-bytes_high_first w name)

pub size-instance : (w id stack class : ℕ) (bytes : List ℕ) → 9 + 2 * w + length bytes ≡ length (wide_part_bytes w (part.Instance id stack class bytes))
size-instance w id stack class bytes =
    let rest : List ℕ = word (length bytes) ++ (bytes ++ []) in
    omega (arith, length-append (field w id) (word stack ++ (field w class ++ rest)), length-append (field w class) rest, length-bytes_high_first w id, length-bytes_high_first w class, ap length (append-nil bytes))

pub size-array : (w id stack class : ℕ) (items : List ℕ) → 9 + 2 * w + length (flat_map (field w) items) ≡ length (wide_part_bytes w (part.ObjectArray id stack class items))
size-array w id stack class items =
    let rest : List ℕ = flat_map (field w) items ++ [] in
    omega (arith, length-append (field w id) (word stack ++ (word (length items) ++ (field w class ++ rest))), length-append (field w class) rest, length-bytes_high_first w id, length-bytes_high_first w class, ap length (append-nil (flat_map (field w) items)))

pub size-primitive : (w id stack code count : ℕ) (bytes : List ℕ) → 10 + w + length bytes ≡ length (wide_part_bytes w (part.PrimitiveArray id stack code count bytes))
size-primitive w id stack code count bytes =
    omega (arith, length-append (field w id) (word stack ++ (word count ++ (field 1 code ++ (bytes ++ [])))), length-bytes_high_first w id, ap length (append-nil bytes))

pub size-no_data : (w id stack count code : ℕ) → 10 + w + 0 ≡ length (wide_part_bytes w (part.NoData id stack count code))
size-no_data w id stack count code = omega (arith, length-append (field w id) (word stack ++ (word count ++ (field 1 code ++ []))), length-bytes_high_first w id)

module _ (w id stack parent loader signers domain spare_a spare_b size : ℕ) (constants statics : List (ℕ × ℕ × List ℕ)) (fields : List (ℕ × ℕ)) where
  abbrev behind_statics : List ℕ
  behind_statics = field 2 (length fields) ++ (flat_map (wide_field_name_bytes w) fields ++ [])

  abbrev behind_constants : List ℕ
  behind_constants = field 2 (length statics) ++ (flat_map (wide_static_bytes w) statics ++ behind_statics)

  abbrev behind_ids : List ℕ
  behind_ids = word size ++ (field 2 (length constants) ++ (flat_map constant_bytes constants ++ behind_constants))

  length-lists : length behind_ids ≡ 10 + length (flat_map constant_bytes constants) + length (flat_map (wide_static_bytes w) statics) + length (flat_map (wide_field_name_bytes w) fields)
  length-lists =
      omega (arith, length-append (flat_map constant_bytes constants) behind_constants, length-append (flat_map (wide_static_bytes w) statics) behind_statics, ap length (append-nil (flat_map (wide_field_name_bytes w) fields)))

  with-id : (x : ℕ) (rest : List ℕ) → length (field w x ++ rest) ≡ w + length rest
  with-id x rest = length-append (field w x) rest ∙ ap (λ n. n + length rest) (length-bytes_high_first w x)

  abbrev from_signers : List ℕ
  from_signers = field w signers ++ (field w domain ++ (field w spare_a ++ (field w spare_b ++ behind_ids)))

  length-signers : length from_signers ≡ 4 * w + length behind_ids
  length-signers =
      omega (arith, with-id signers (field w domain ++ (field w spare_a ++ (field w spare_b ++ behind_ids))), with-id domain (field w spare_a ++ (field w spare_b ++ behind_ids)), with-id spare_a (field w spare_b ++ behind_ids), with-id spare_b behind_ids)

  pub size-class : 15 + 7 * w + length (flat_map constant_bytes constants) + length (flat_map (wide_static_bytes w) statics) + length (flat_map (wide_field_name_bytes w) fields)
      ≡ length (wide_part_bytes w (part.ClassDump id stack parent loader signers domain spare_a spare_b size constants statics fields))
  size-class =
      omega (arith, with-id id (word stack ++ (field w parent ++ (field w loader ++ from_signers))), with-id parent (field w loader ++ from_signers), with-id loader from_signers, length-signers, length-lists)

-- how many bytes records have
pub size-text : (w time id : ℕ) (bytes : List ℕ) → 9 + w + length bytes ≡ length (wide_record_bytes w (record_of.Text time id bytes))
size-text w time id bytes =
    omega (arith, ap length (append-nil (wide_body_of w (record_of.Text time id bytes))), length-append (field w id) (bytes ++ []), length-bytes_high_first w id, ap length (append-nil bytes))

pub size-load : (w time serial class stack name : ℕ) (rest : List ℕ) → 17 + 2 * w + length rest ≡ length (wide_record_bytes w (record_of.LoadClass time serial class stack name rest))
size-load w time serial class stack name rest =
    omega (
      arith,
      ap length (append-nil (wide_body_of w (record_of.LoadClass time serial class stack name rest))),
      length-append (field w class) (word stack ++ (field w name ++ (rest ++ []))),
      length-append (field w name) (rest ++ []),
      length-bytes_high_first w class,
      length-bytes_high_first w name,
      ap length (append-nil rest),
    )

pub size-trace : (w time serial thread : ℕ) (frames rest : List ℕ) → 21 + length (flat_map (field w) frames) + length rest ≡ length (wide_record_bytes w (record_of.Trace time serial thread frames rest))
size-trace w time serial thread frames rest =
    omega (arith, ap length (append-nil (wide_body_of w (record_of.Trace time serial thread frames rest))), length-append (flat_map (field w) frames) (rest ++ []), ap length (append-nil rest))
