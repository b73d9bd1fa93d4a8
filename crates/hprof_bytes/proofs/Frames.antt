-- The bytes of records, by the pieces in which they are put.
use Rattle.std.proofs.Common.{◌≡◌, ℕ, ◌+◌, ◌*◌, List, [], ◌∷◌, ◌++◌, length, refl, sym, ap, ◌∙◌, arith, length-append}
use Rattle.std.specs.List.{flat_map}
use Rattle.std.proofs.lemmas.List.{append-nil}
use Rattle.hprof_records.specs.declared.top_record.TopRecord.TheVariants.{Text, LoadClass, Trace, Segment}
use Rattle.hprof_records.specs.declared.sub_record.SubRecord.{SubRecord}
use Rattle.hprof_records.specs.Fields.{field}
use Rattle.hprof_records.specs.Parts.{word, bytes_of_parts}
use Rattle.hprof_records.specs.Records.{body_of, bytes_of_record}

pub text-length : (time id : ℕ) (bytes : List ℕ) → 4 + length bytes ≡ length (body_of (Text time id bytes))
text-length time id bytes = omega (arith, ap length (append-nil bytes))

pub load-length : (time serial class stack name : ℕ) (rest : List ℕ) → 16 + length rest ≡ length (body_of (LoadClass time serial class stack name rest))
load-length time serial class stack name rest = omega (arith, ap length (append-nil rest))

-- an identifier has 4 bytes
pub length-words : (ids : List ℕ) → length (flat_map word ids) ≡ 4 * length ids
length-words [] = refl
length-words (id ∷ ids) = omega (arith, length-words ids)

pub trace-length : (time serial thread : ℕ) (frames rest : List ℕ) → 12 + 4 * length frames + length rest ≡ length (body_of (Trace time serial thread frames rest))
trace-length time serial thread frames rest =
    omega (arith, length-append (flat_map word frames) (rest ++ []), length-words frames, ap length (append-nil rest))

pub text-frame : (time id : ℕ) (bytes : List ℕ)
    → field 1 0x01 ++ (word time ++ (word (4 + length bytes) ++ (word id ++ (bytes ++ [])))) ≡ bytes_of_record (Text time id bytes)
text-frame time id bytes =
    ap (λ n. field 1 0x01 ++ (word time ++ (word n ++ (word id ++ (bytes ++ []))))) (text-length time id bytes)
    ∙ ap (λ (l : List ℕ). field 1 0x01 ++ (word time ++ (word (length (body_of (Text time id bytes))) ++ (word id ++ l)))) (sym (append-nil (bytes ++ [])))

pub load-frame : (time serial class stack name : ℕ) (rest : List ℕ)
    → field 1 0x02 ++ (word time ++ (word (16 + length rest) ++ (word serial ++ (word class ++ (word stack ++ (word name ++ (rest ++ []))))))) ≡ bytes_of_record (LoadClass time serial class stack name rest)
load-frame time serial class stack name rest =
    ap (λ n. field 1 0x02 ++ (word time ++ (word n ++ (word serial ++ (word class ++ (word stack ++ (word name ++ (rest ++ [])))))))) (load-length time serial class stack name rest)
    ∙ ap (λ (l : List ℕ). field 1 0x02 ++ (word time ++ (word (length (body_of (LoadClass time serial class stack name rest))) ++ (word serial ++ (word class ++ (word stack ++ (word name ++ l))))))) (sym (append-nil (rest ++ [])))

pub trace-frame : (time serial thread : ℕ) (frames rest : List ℕ)
    → (field 1 0x05 ++ (word time ++ (word (12 + 4 * length frames + length rest) ++ (word serial ++ (word thread ++ (word (length frames) ++ [])))))) ++ (flat_map word frames ++ rest) ≡ bytes_of_record (Trace time serial thread frames rest)
trace-frame time serial thread frames rest =
    ap (λ n. (field 1 0x05 ++ (word time ++ (word n ++ (word serial ++ (word thread ++ (word (length frames) ++ [])))))) ++ (flat_map word frames ++ rest)) (trace-length time serial thread frames rest)
    ∙ ap (λ (l : List ℕ). (field 1 0x05 ++ (word time ++ (word (length (body_of (Trace time serial thread frames rest))) ++ (word serial ++ (word thread ++ (word (length frames) ++ [])))))) ++ l)
    (ap (λ (l : List ℕ). flat_map word frames ++ l) (sym (append-nil rest)) ∙ sym (append-nil (flat_map word frames ++ (rest ++ []))))

pub segment-frame : (time tag size : ℕ) (parts : List SubRecord) → size ≡ length (bytes_of_parts parts)
    → (field 1 tag ++ (word time ++ (word size ++ []))) ++ bytes_of_parts parts ≡ bytes_of_record (Segment time tag size parts)
segment-frame time tag size parts is =
    ap (λ n. (field 1 tag ++ (word time ++ (word n ++ []))) ++ bytes_of_parts parts) is
    ∙ ap (λ (l : List ℕ). (field 1 tag ++ (word time ++ (word (length (bytes_of_parts parts)) ++ []))) ++ l) (sym (append-nil (bytes_of_parts parts)))
