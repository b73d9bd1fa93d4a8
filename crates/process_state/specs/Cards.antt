-- Which cards a process knows of, and those of a part.
use Rattle.std.specs.Prelude.{◌≡◌, ℕ, ◌+◌, ◌≤◌, Bool, true, false}
use Rattle.std.specs.List.{AllByRecursion}
use Rattle.model_numbers.specs.Numbers.{image_base, image_length, zygote_base, zygote_length}
use Rattle.card_table.specs.CardSet.{card_of}
use Rattle.heap_world.specs.declared.names.Card.{Card}
use Rattle.heap_world.specs.declared.names.Card.TheVariants.{Image, Zygote}
use Rattle.heap_world.specs.Cards.{outward_cards}
use Rattle.heap_world.specs.Cards as world
use Rattle.heap_world.specs.Part.{Part}
use Rattle.mod_union.specs.ModUnion.{is_noted}
use Rattle.process_state.specs.State.{Notes, State}

-- the card's number among those of all addresses
abbrev pub card_number : Card → ℕ
card_number (Image k) = card_of image_base + k
card_number (Zygote k) = card_of zygote_base + k

-- the notes of the space in which the card lies
abbrev pub notes_of : State → Card → Notes
notes_of s (Image k) = s.image_notes
notes_of s (Zygote k) = s.zygote_notes

-- the process has the card as a dirty or a recorded one
abbrev pub has_noted : State → Card → Bool
has_noted s c = is_noted (notes_of s c).records (notes_of s c).cards (card_number c)

-- no card of the space is dirty or recorded
abbrev pub NotesNothing : Notes → Type 0
NotesNothing notes = (card : ℕ) → is_noted notes.records notes.cards card ≡ false

-- the cards are those of a window of so many bytes, and no card before it is dirty or recorded
pub record NotesWindow (base bytes : ℕ) (notes : Notes) : Type 0 where
  pub start : notes.cards.start ≡ base
  pub span : notes.cards.span ≡ bytes
  pub behind : (card : ℕ) → is_noted notes.records notes.cards card ≡ true → card_of base ≤ card

-- each card that is dirty or recorded is noted, and each with an outward slot is dirty or recorded; before the seal none is
pub record NotesCards (s : State) (p : Part) : Type 0 where
  pub image : NotesWindow image_base image_length s.image_notes
  pub zygote : NotesWindow zygote_base zygote_length s.zygote_notes
  pub noted : (c : Card) → has_noted s c ≡ true → world.is_noted p.stored p.held c ≡ true
  pub outward : AllByRecursion (λ c. has_noted s c ≡ true) (outward_cards p.graph)
  pub before_seal : p.graph.sealed ≡ false → NotesNothing s.image_notes × NotesNothing s.zygote_notes
