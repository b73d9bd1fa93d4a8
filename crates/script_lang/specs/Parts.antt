-- The lines of a text, and the words of a line.
use Rattle.std.specs.Prelude.{ℕ, Bool, true, false, ◌||◌, List, [], ◌∷◌, Option, None, Some, filter, nat_eq, if◌then◌else◌}

-- a byte in front of the parts behind it: a separator begins a part, any other byte belongs to the first one
abbrev pub with_byte : Bool → ℕ → List (List ℕ) → List (List ℕ)
with_byte true b ps = [] ∷ ps
with_byte false b [] = (b ∷ []) ∷ []
with_byte false b (p ∷ ps) = (b ∷ p) ∷ ps

-- the parts of a text between the bytes that separate: one more than there are such bytes
abbrev pub parts : (ℕ → Bool) → List ℕ → List (List ℕ)
parts separates [] = [] ∷ []
parts separates (b ∷ bs) = with_byte (separates b) b (parts separates bs)

-- the parts of what is left, if anything is
abbrev pub parts_left : (ℕ → Bool) → Option (List ℕ) → List (List ℕ)
parts_left separates None = []
parts_left separates (Some rest) = parts separates rest

-- without the last part where it is empty
abbrev pub without_empty_last : List (List ℕ) → List (List ℕ)
without_empty_last [] = []
without_empty_last ([] ∷ []) = []
without_empty_last ((b ∷ bs) ∷ []) = (b ∷ bs) ∷ []
without_empty_last (p ∷ q ∷ ps) = p ∷ without_empty_last (q ∷ ps)

-- a byte is this one
abbrev pub is_byte : ℕ → ℕ → Bool
is_byte separator b = nat_eq b separator

-- the lines of a text are its parts between line feeds, without an empty last part
abbrev pub lines : List ℕ → List (List ℕ)
lines text = without_empty_last (parts (is_byte 10) text)

-- all but the last part
abbrev pub without_last : List (List ℕ) → List (List ℕ)
without_last [] = []
without_last (p ∷ []) = []
without_last (p ∷ q ∷ ps) = p ∷ without_last (q ∷ ps)

-- the lines of a text that a line feed ends: its parts without the last one
abbrev pub whole_lines : List ℕ → List (List ℕ)
whole_lines text = without_last (parts (is_byte 10) text)

-- a space or a tab
abbrev pub is_blank : ℕ → Bool
is_blank b = nat_eq b 32 || nat_eq b 9

-- a carriage return that stands last in a line isn't part of it
abbrev pub without_return : List ℕ → List ℕ
without_return [] = []
without_return (b ∷ []) = if nat_eq b 13 then [] else b ∷ []
without_return (b ∷ c ∷ bs) = b ∷ without_return (c ∷ bs)

-- a part that isn't empty
abbrev pub is_some_word : List ℕ → Bool
is_some_word [] = false
is_some_word (b ∷ bs) = true

-- the words of what is left of a line, if anything is: its parts between blanks that aren't empty
abbrev pub words_left : Option (List ℕ) → List (List ℕ)
words_left rest = filter is_some_word (parts_left is_blank rest)

-- the words of a line
abbrev pub words : List ℕ → List (List ℕ)
words line = words_left (Some (without_return line))
