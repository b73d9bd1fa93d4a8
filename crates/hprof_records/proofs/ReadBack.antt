-- A field has one number, and stands where it was appended.
use Rattle.std.proofs.Common.{◌≡◌, ℕ, ◌<◌, ◌^◌, List, [], ◌++◌, length, take, drop, sym, ◌∙◌, ap, append_assoc}
use Rattle.std.proofs.Math.Seq.{drop-append_seam, take-append_seam}
use Rattle.byteorder.specs.Endian.{big_from}
use Rattle.byteorder.specs.Numbers.{big_number-reads_back, length-bytes_high_first}
use Rattle.hprof_records.specs.Fields.{field, bytes_at}

-- two numbers with one field are one number
pub one_number : (size x y : ℕ) → x < 256 ^ size → y < 256 ^ size → field size x ≡ field size y → x ≡ y
one_number size x y hx hy e =
    sym (big_number-reads_back size x [] hx)
    ∙ ap (λ (bytes : List ℕ). big_from 0 size (bytes ++ [])) e
    ∙ big_number-reads_back size y [] hy

-- what was put in the middle stands there
pub bytes_at-middle : (before xs after : List ℕ) → bytes_at ((before ++ xs) ++ after) (length before) (length xs) ≡ xs
bytes_at-middle before xs after =
    ap (λ (bytes : List ℕ). take (length xs) (drop (length before) bytes)) (append_assoc before xs after)
    ∙ ap (take (length xs)) (drop-append_seam before (xs ++ after))
    ∙ take-append_seam xs after

-- a field stands where it was appended
pub field_stands : (size x : ℕ) (before after : List ℕ) → bytes_at ((before ++ field size x) ++ after) (length before) size ≡ field size x
field_stands size x before after =
    ap (bytes_at ((before ++ field size x) ++ after) (length before)) (sym (length-bytes_high_first size x))
    ∙ bytes_at-middle before (field size x) after
