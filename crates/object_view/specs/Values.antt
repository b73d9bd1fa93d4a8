-- Values in memory: numbers of their kinds' bytes, in two's complement, the lowest byte first.
use Rattle.std.specs.Prelude.{ℕ, ◌<◌, Bool, if◌then◌else◌, ◌==◌, ℤ, pos}
use Rattle.std.specs.Int.{Width, w8, w16, w32, w64, cast_signed, cast_unsigned}
use Rattle.class_layout.specs.declared.kind.Kind.{Kind}
use Rattle.class_layout.specs.declared.kind.Kind.TheVariants.{Ref, Boolean, Byte, Char, Short, Int, Long}
use Rattle.class_layout.specs.declared.kind.FieldAt.{FieldAt}
use Rattle.class_layout.specs.Kinds.{in_range, within}
use Rattle.cow_pages.specs.View.{View, u16_at, u32_at, u64_at}

-- how wide the numbers of a kind are
abbrev pub width_of : Kind → Width
width_of Ref = w32
width_of Boolean = w8
width_of Byte = w8
width_of Char = w16
width_of Short = w16
width_of Int = w32
width_of Long = w64

-- the number of the kind's bytes that stands at the address
abbrev pub number_at : View → Kind → ℕ → ℕ
number_at v Ref at = u32_at v at
number_at v Boolean at = v.byte at
number_at v Byte at = v.byte at
number_at v Char at = u16_at v at
number_at v Short at = u16_at v at
number_at v Int at = u32_at v at
number_at v Long at = u64_at v at

-- the number that stands for a value, in two's complement
abbrev pub number_of : Kind → ℤ → ℕ
number_of kind z = cast_unsigned (width_of kind) z

-- the value for which a number stands: signed, but for references, `boolean` and `char`
abbrev pub value_of : Kind → ℕ → ℤ
value_of Ref n = pos n
value_of Boolean n = pos n
value_of Byte n = cast_signed w8 n
value_of Char n = pos n
value_of Short n = cast_signed w16 n
value_of Int n = cast_signed w32 n
value_of Long n = cast_signed w64 n

-- the value is one of the kind's; a reference is an address, or 0 for null
abbrev pub is_value : Kind → ℤ → Bool
is_value Ref z = within (pos 0) z (pos 4294967295)
is_value Boolean z = in_range Boolean z
is_value Byte z = in_range Byte z
is_value Char z = in_range Char z
is_value Short z = in_range Short z
is_value Int z = in_range Int z
is_value Long z = in_range Long z

-- each byte of a view is below 256
abbrev pub AreBytes : View → Type 0
AreBytes v = (at : ℕ) → v.byte at < 256

-- zeros, and null for references
abbrev pub no_values : FieldAt → ℤ
no_values place = pos 0

-- the values, with another one at this offset
abbrev pub with_value : (FieldAt → ℤ) → ℕ → ℤ → FieldAt → ℤ
with_value values offset z place = if place.offset == offset then z else values place
