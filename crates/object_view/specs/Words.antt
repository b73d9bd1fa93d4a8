-- The words at the head of an object: what its shape is, and its number or where it went.
use Rattle.std.specs.Prelude.{◌≡◌, ⊤, ℕ, ◌+◌, ◌*◌, ◌/◌, ◌%◌, ◌^◌, ◌<◌, ◌≤◌}
use Rattle.model_numbers.specs.Numbers.{class_base, class_bytes, number_limit}
use Rattle.class_layout.specs.declared.kind.Kind.{Kind}
use Rattle.class_layout.specs.declared.kind.Kind.TheVariants.{Ref, Boolean, Byte, Char, Short, Int, Long}
use Rattle.cow_pages.specs.View.{View, u32_at}
use Rattle.heap_graph.specs.declared.names.Shape.{Shape}
use Rattle.heap_graph.specs.declared.names.Shape.TheVariants.{Instance, Array}
use Rattle.object_view.specs.declared.names.Header.{Header}
use Rattle.object_view.specs.declared.names.Header.TheVariants.{Number, Forward}

-- the class word of an array
abbrev pub array_word : Kind → ℕ
array_word Ref = class_base + 0x20
array_word Boolean = class_base + 0x24
array_word Byte = class_base + 0x28
array_word Char = class_base + 0x2c
array_word Short = class_base + 0x30
array_word Int = class_base + 0x34
array_word Long = class_base + 0x38

-- the class word: it is the first of an object's words
abbrev pub class_word : Shape → ℕ
class_word (Instance class) = class_base + class_bytes * class
class_word (Array kind count) = array_word kind

-- the lock word, which is the second: the allocation number, or an eighth of the address to which the object went
abbrev pub lock_word : Header → ℕ
lock_word (Number n) = 0x80000000 + n
lock_word (Forward to) = 0xc0000000 + to.0 / 8

-- allocation numbers are 1 to 268,435,455, and objects stand at addresses of 32 bits that are multiples of 8
abbrev pub IsHeader : Header → Type 0
IsHeader (Number n) = (1 ≤ n) × (n < number_limit)
IsHeader (Forward to) = (to.0 % 8 ≡ 0) × (to.0 < 2 ^ 32)

-- how many bytes an object's words take, with the length of an array
abbrev pub head_end : Shape → ℕ
head_end (Instance class) = 8
head_end (Array kind count) = 12

-- the length of an array, which is its third word
abbrev pub HasLength : View → ℕ → Shape → Type 0
HasLength v at (Instance class) = ⊤
HasLength v at (Array kind count) = u32_at v (at + 8) ≡ count
