-- The numbers of the model. Sizes and lengths are in bytes.
use Rattle.std.specs.Prelude.{ℕ}

-- the identifier of class 0
abbrev pub class_base : ℕ
class_base = 0x10000000

-- how far apart the identifiers of two classes stand, of which one follows the other
abbrev pub class_bytes : ℕ
class_bytes = 64

-- the address of the image window's first byte
abbrev pub image_base : ℕ
image_base = 0x20000000

-- how long the image window is
abbrev pub image_length : ℕ
image_length = 67108864

-- the address of the zygote window's first byte
abbrev pub zygote_base : ℕ
zygote_base = 0x30000000

-- how long the zygote window is
abbrev pub zygote_length : ℕ
zygote_length = 268435456

-- the address of the first region's first byte
abbrev pub region_base : ℕ
region_base = 0x40000000

-- how long a region is
abbrev pub region_bytes : ℕ
region_bytes = 262144

-- how many regions the window of regions has
abbrev pub region_count : ℕ
region_count = 1024

-- the address of the first byte of the first slot for a large object
abbrev pub large_base : ℕ
large_base = 0x80000000

-- how long a slot for a large object is
abbrev pub large_slot_bytes : ℕ
large_slot_bytes = 1048576

-- how many slots the window of large objects has
abbrev pub large_slot_count : ℕ
large_slot_count = 512

-- how long a page is
abbrev pub page_bytes : ℕ
page_bytes = 4096

-- how long a card is
abbrev pub card_bytes : ℕ
card_bytes = 1024

-- an array of primitives of so many bytes, or of more, is large
abbrev pub least_large : ℕ
least_large = 12288

-- no array of primitives has more bytes
abbrev pub most_array_bytes : ℕ
most_array_bytes = 1048576

-- no other object has more bytes
abbrev pub most_object_bytes : ℕ
most_object_bytes = 262144

-- no process may use more regions
abbrev pub most_regions : ℕ
most_regions = 512

-- how many regions a process may use if nothing is said
abbrev pub default_regions : ℕ
default_regions = 64

-- a process has no more classes
abbrev pub class_limit : ℕ
class_limit = 65536

-- no class has more fields of its own
abbrev pub field_limit : ℕ
field_limit = 4096

-- the numbers of objects are below it
abbrev pub number_limit : ℕ
number_limit = 268435456

-- a line of a script has no more bytes
abbrev pub line_limit : ℕ
line_limit = 4096

-- no more bytes of a script are read
abbrev pub input_limit : ℕ
input_limit = 268435456

-- so many bytes at most are taken at once
abbrev pub piece_bytes : ℕ
piece_bytes = 4096

-- a name has no more bytes
abbrev pub name_limit : ℕ
name_limit = 128
