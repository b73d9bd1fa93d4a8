-- Kinds of fields and elements: their sizes in bytes, and their ranges.
use Rattle.std.specs.Prelude.{ℕ, ◌+◌, ◌-◌, ◌*◌, ◌/◌, Bool, true, false, ◌&&◌, ℤ, pos, negsuc, int_le}
use Rattle.class_layout.specs.declared.kind.Kind.{Kind}
use Rattle.class_layout.specs.declared.kind.Kind.TheVariants.{Ref, Boolean, Byte, Char, Short, Int, Long}

-- how many bytes a value takes
abbrev pub kind_bytes : Kind → ℕ
kind_bytes Ref = 4
kind_bytes Boolean = 1
kind_bytes Byte = 1
kind_bytes Char = 2
kind_bytes Short = 2
kind_bytes Int = 4
kind_bytes Long = 8

-- values of the kind are references
abbrev pub is_ref : Kind → Bool
is_ref Ref = true
is_ref Boolean = false
is_ref Byte = false
is_ref Char = false
is_ref Short = false
is_ref Int = false
is_ref Long = false

-- a number lies between two others, both included
abbrev pub within : ℤ → ℤ → ℤ → Bool
within least z greatest = int_le least z && int_le z greatest

-- a number is a value of the kind; no number is a reference
abbrev pub in_range : Kind → ℤ → Bool
in_range Ref z = false
in_range Boolean z = within (pos 0) z (pos 1)
in_range Byte z = within (negsuc 127) z (pos 127)
in_range Char z = within (pos 0) z (pos 65535)
in_range Short z = within (negsuc 32767) z (pos 32767)
in_range Int z = within (negsuc 2147483647) z (pos 2147483647)
in_range Long z = within (negsuc 9223372036854775807) z (pos 9223372036854775807)

-- the least multiple of b that is at least p
abbrev pub next_multiple : ℕ → ℕ → ℕ
next_multiple b p = (p + (b - 1)) / b * b

-- where the elements of an array begin
abbrev pub first_element : Kind → ℕ
first_element Ref = 12
first_element Boolean = 12
first_element Byte = 12
first_element Char = 12
first_element Short = 12
first_element Int = 12
first_element Long = 16

-- the bytes of an array up to the end of its last element
abbrev pub array_end : Kind → ℕ → ℕ
array_end kind count = first_element kind + count * kind_bytes kind
