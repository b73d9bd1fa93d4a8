-- The forms of words: names of each sort, kinds, values, and a field with its kind.
use Rattle.std.specs.Prelude.{ℕ, ℤ, Bool, true, false, not, ◌&&◌, ◌||◌, List, [], ◌∷◌, Option, None, Some, codes, length, nat_eq, nat_le}
use Rattle.std.specs.List.{find, list_all}
use Rattle.model_numbers.specs.Numbers.{name_limit}
use Rattle.class_layout.specs.declared.kind.Kind.{Kind}
use Rattle.class_layout.specs.declared.kind.Kind.TheVariants.{Ref, Boolean, Byte, Char, Short, Int, Long}
use Rattle.class_layout.specs.declared.kind.FieldDecl.{FieldDecl}
use Rattle.class_layout.specs.declared.kind.Value.{Value}
use Rattle.class_layout.specs.declared.kind.Value.TheVariants.{Number, Null, Root}
use Rattle.class_layout.specs.Names.{same_name}
use Rattle.script_lang.specs.Parts.{parts, is_byte}
use Rattle.script_lang.specs.Numbers.{number_of}

-- an ASCII letter
abbrev pub is_letter : ℕ → Bool
is_letter b = (nat_le 65 b && nat_le b 90) || (nat_le 97 b && nat_le b 122)

-- an ASCII digit
abbrev pub is_digit : ℕ → Bool
is_digit b = nat_le 48 b && nat_le b 57

-- a byte of a root's name behind the first: a letter, a digit or `_`
abbrev pub is_root_byte : ℕ → Bool
is_root_byte b = is_letter b || is_digit b || nat_eq b 95

-- a byte of a class's name behind the first: the same, `$` or `.`
abbrev pub is_class_byte : ℕ → Bool
is_class_byte b = is_root_byte b || nat_eq b 36 || nat_eq b 46

-- a field's name begins with a letter or `_`
abbrev pub is_field_start : ℕ → Bool
is_field_start b = is_letter b || nat_eq b 95

-- a byte of a field's name behind the first: a letter, a digit, `_` or `$`
abbrev pub is_field_byte : ℕ → Bool
is_field_byte b = is_root_byte b || nat_eq b 36

-- a word whose first byte passes one test, and each later byte another
abbrev pub is_spelled : (ℕ → Bool) → (ℕ → Bool) → List ℕ → Bool
is_spelled first later [] = false
is_spelled first later (b ∷ bs) = first b && list_all later bs

-- a name has at most 128 bytes
abbrev pub is_short : List ℕ → Bool
is_short word = nat_le (length word) name_limit

-- a name of a root or of a process
abbrev pub is_root_name : List ℕ → Bool
is_root_name word = is_spelled is_letter is_root_byte word && is_short word && not (same_name word (codes "null"))

-- a name of a class
abbrev pub is_class_name : List ℕ → Bool
is_class_name word = is_spelled is_letter is_class_byte word && is_short word

-- a name of a field
abbrev pub is_field_name : List ℕ → Bool
is_field_name word = is_spelled is_field_start is_field_byte word && is_short word

-- a word that passes a test
abbrev pub passing : Bool → List ℕ → Option (List ℕ)
passing true word = Some word
passing false word = None

-- the name of a root or of a process that the word is, if it is one
abbrev pub root_of : List ℕ → Option (List ℕ)
root_of word = passing (is_root_name word) word

-- the same for a class's name
abbrev pub class_of : List ℕ → Option (List ℕ)
class_of word = passing (is_class_name word) word

-- the same for a field's name
abbrev pub field_of : List ℕ → Option (List ℕ)
field_of word = passing (is_field_name word) word

-- the word of each kind
abbrev pub kind_word : Kind → List ℕ
kind_word Ref = codes "ref"
kind_word Boolean = codes "boolean"
kind_word Byte = codes "byte"
kind_word Char = codes "char"
kind_word Short = codes "short"
kind_word Int = codes "int"
kind_word Long = codes "long"

-- all kinds
abbrev pub kinds : List Kind
kinds = Ref ∷ Boolean ∷ Byte ∷ Char ∷ Short ∷ Int ∷ Long ∷ []

-- the kind with this word
abbrev pub kind_of : List ℕ → Option Kind
kind_of word = find (λ kind. same_name word (kind_word kind)) kinds

-- a value is `null`, else a number, else a root's name
abbrev pub value_of_parts : Bool → Option ℤ → Option (List ℕ) → Option Value
value_of_parts true number root = Some Null
value_of_parts false (Some z) root = Some (Number z)
value_of_parts false None (Some name) = Some (Root name)
value_of_parts false None None = None

-- the value that the word is, if it is one
abbrev pub value_of : List ℕ → Option Value
value_of word = value_of_parts (same_name word (codes "null")) (number_of word) (root_of word)

-- a field, where its name and its kind are there
abbrev pub declared_of : Option (List ℕ) → Option Kind → Option FieldDecl
declared_of (Some name) (Some kind) = Some (record { name = name; kind = kind })
declared_of (Some name) None = None
declared_of None kind = None

-- the parts of a field's word: its name and its kind
abbrev pub decl_of_parts : List (List ℕ) → Option FieldDecl
decl_of_parts (name ∷ kind ∷ []) = declared_of (field_of name) (kind_of kind)
decl_of_parts [] = None
decl_of_parts (name ∷ []) = None
decl_of_parts (name ∷ kind ∷ more ∷ rest) = None

-- a field's word: the field's name and its kind, with a colon between them
abbrev pub decl_of : List ℕ → Option FieldDecl
decl_of word = decl_of_parts (parts (is_byte 58) word)

-- a field in front of others, where all are there
abbrev pub with_decl : Option FieldDecl → Option (List FieldDecl) → Option (List FieldDecl)
with_decl (Some field) (Some fields) = Some (field ∷ fields)
with_decl (Some field) None = None
with_decl None fields = None

-- the fields that words declare, where each word is a field's
abbrev pub decls_of : List (List ℕ) → Option (List FieldDecl)
decls_of [] = Some []
decls_of (word ∷ ws) = with_decl (decl_of word) (decls_of ws)
