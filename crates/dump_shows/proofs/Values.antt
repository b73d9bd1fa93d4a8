-- Values that are read from the bytes that were written for them.
use Rattle.std.proofs.Common.{◌≡◌, ℕ, ◌%◌, ◌^◌, Bool, true, false, ◌&&◌, nat_le, true≢false, List, ◌++◌, length, drop, refl, sym, ap, ◌∙◌, arith, ℤ, pos}
use Rattle.std.proofs.Math.Seq.{drop-append_seam}
use Rattle.std.proofs.lemmas.Bool.{leb-true}
use lib.IntN.{negsuc}
use Rattle.byteorder.specs.Endian.{big_from}
use Rattle.byteorder.specs.Numbers.{big_from-bytes, length-bytes_high_first}
use Rattle.class_layout.specs.declared.kind.Kind.{Kind}
use Rattle.class_layout.specs.declared.kind.Kind.TheVariants.{Ref, Boolean, Byte, Char, Short, Int, Long}
use Rattle.class_layout.specs.Kinds.{kind_bytes}
use Rattle.hprof_records.specs.Types as types
use Rattle.hprof_write.specs.Classes.{kind_code}
use Rattle.hprof_write.specs.Objects.{bits_of, value_bytes}
use Rattle.object_view.specs.Values.{is_value, number_of, value_of}
use Rattle.object_view.proofs.Stores.{fits-byte, fits-short, fits-int, fits-long, value-again}
use Rattle.dump_shows.specs.Reading.{value_for, value_read}
use Rattle.dump_shows.specs.Shows.{type_code}

-- a type has its kind's bytes and stands under its kind's code
pub type-bytes : (kind : Kind) → types.value_bytes (type_code kind) ≡ kind_bytes kind
type-bytes Ref = refl
type-bytes Boolean = refl
type-bytes Byte = refl
type-bytes Char = refl
type-bytes Short = refl
type-bytes Int = refl
type-bytes Long = refl

pub type-same : (kind : Kind) → kind_code kind ≡ type_code kind
type-same Ref = refl
type-same Boolean = refl
type-same Byte = refl
type-same Char = refl
type-same Short = refl
type-same Int = refl
type-same Long = refl

right : (a b : Bool) → (a && b) ≡ true → b ≡ true
right true b is = is
right false b is = absurd (true≢false (sym is))

-- the number of a value's bytes is that of its kind
number-low : (kind : Kind) (z : ℤ) → is_value kind z ≡ true → bits_of z % 256 ^ kind_bytes kind ≡ number_of kind z
number-low Ref (pos n) is = let h = leb-true n 4294967295 (right (nat_le 0 n) (nat_le n 4294967295) is) in omega arith
number-low Ref (negsuc n) is = absurd (true≢false (sym is))
number-low Boolean (pos n) is = let h = leb-true n 1 (right (nat_le 0 n) (nat_le n 1) is) in omega arith
number-low Boolean (negsuc n) is = absurd (true≢false (sym is))
number-low Byte (pos n) is = let h = (fits-byte (pos n) is).sfits in omega arith
number-low Byte (negsuc n) is = let h = (fits-byte (negsuc n) is).sfits in omega arith
number-low Char (pos n) is = let h = leb-true n 65535 (right (nat_le 0 n) (nat_le n 65535) is) in omega arith
number-low Char (negsuc n) is = absurd (true≢false (sym is))
number-low Short (pos n) is = let h = (fits-short (pos n) is).sfits in omega arith
number-low Short (negsuc n) is = let h = (fits-short (negsuc n) is).sfits in omega arith
number-low Int (pos n) is = let h = (fits-int (pos n) is).sfits in omega arith
number-low Int (negsuc n) is = let h = (fits-int (negsuc n) is).sfits in omega arith
number-low Long (pos n) is = let h = (fits-long (pos n) is).sfits in omega arith
number-low Long (negsuc n) is = let h = (fits-long (negsuc n) is).sfits in omega arith

value-kind : (kind : Kind) (n : ℕ) → value_for (type_code kind) n ≡ value_of kind n
value-kind Ref n = refl
value-kind Boolean n = refl
value-kind Byte n = refl
value-kind Char n = refl
value-kind Short n = refl
value-kind Int n = refl
value-kind Long n = refl

-- a value is read where its bytes stand
pub value-back : (kind : Kind) (z : ℤ) (rest : List ℕ) → is_value kind z ≡ true → value_read (type_code kind) (value_bytes kind z ++ rest) ≡ z
value-back kind z rest is =
    ap (λ n. value_for (type_code kind) (big_from 0 n (value_bytes kind z ++ rest))) (type-bytes kind)
    ∙ ap (value_for (type_code kind)) (big_from-bytes (kind_bytes kind) (bits_of z) rest ∙ number-low kind z is)
    ∙ value-kind kind (number_of kind z) ∙ value-again kind z is

pub length-value : (kind : Kind) (z : ℤ) → length (value_bytes kind z) ≡ kind_bytes kind
length-value kind z = length-bytes_high_first (kind_bytes kind) (bits_of z)

-- and the bytes behind them are left
pub rest-left : (kind : Kind) (z : ℤ) (rest : List ℕ) → drop (types.value_bytes (type_code kind)) (value_bytes kind z ++ rest) ≡ rest
rest-left kind z rest =
    ap (λ n. drop n (value_bytes kind z ++ rest)) (type-bytes kind ∙ sym (length-value kind z)) ∙ drop-append_seam (value_bytes kind z) rest

-- a reference is its own number
pub item-back : (z : ℤ) → is_value Ref z ≡ true → pos (bits_of z) ≡ z
item-back (pos n) is = refl
item-back (negsuc n) is = absurd (true≢false (sym is))
