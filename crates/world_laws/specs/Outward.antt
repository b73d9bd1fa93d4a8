-- Slots of immune objects, and the pages and cards that they lie on.
use Rattle.std.specs.Prelude.{◌≡◌, ℕ, ◌+◌, ◌*◌, ◌≤◌, Bool, true, List, [], ◌∷◌, Some, nat_lt}
use Rattle.std.specs.List.{AllByRecursion}
use Rattle.model_numbers.specs.Numbers.{image_base, zygote_base, page_bytes, card_bytes}
use Rattle.class_layout.specs.Placing.{IsIn}
use Rattle.heap_graph.specs.declared.names.Place.{Place}
use Rattle.heap_graph.specs.declared.names.Place.TheVariants as place
use Rattle.heap_graph.specs.declared.names.Stored.{Stored}
use Rattle.heap_graph.specs.Graph.{Graph, Object, image_fill, is_immune, zygote_fill}
use Rattle.heap_graph.specs.Sizes.{parts_for}
use Rattle.heap_world.specs.declared.names.Card.{Card}
use Rattle.heap_world.specs.declared.names.Card.TheVariants as card
use Rattle.heap_world.specs.declared.names.PageName.{PageName}
use Rattle.heap_world.specs.declared.names.PageName.TheVariants.{Image, Zygote, Large}
use Rattle.heap_world.specs.Cards.{cards_in, is_noted, is_outward}
use Rattle.heap_world.specs.Pages.{is_touched, page_in}
use Rattle.heap_world.specs.Part.{Part}

-- the page of an offset in the object is one of these
abbrev pub IsPageAmong : List PageName → Object → ℕ → Type 0
IsPageAmong pages o offset = (page : PageName) × (page_in o o.place offset ≡ Some page) × (is_touched pages page ≡ true)

-- the page of each immune slot that holds an object that isn't immune is touched
abbrev pub TouchesOutward : Part → Type 0
TouchesOutward p =
    (o : Object) (s : Stored) → IsIn o p.graph.objects → IsIn s o.slots → is_immune p.graph.sealed o.place ≡ true → is_outward p.graph s.value ≡ true → IsPageAmong p.touched o s.at.offset

-- the card lies below the fill of its window
abbrev pub is_card_of : Graph → Card → Bool
is_card_of g (card.Image k) = nat_lt k (parts_for card_bytes (image_fill g))
is_card_of g (card.Zygote k) = nat_lt k (parts_for card_bytes (zygote_fill g))

-- each noted card does
pub record NotesWithin (p : Part) : Type 0 where
  pub stored : AllByRecursion (λ c. is_card_of p.graph c ≡ true) p.stored
  pub held : AllByRecursion (λ c. is_card_of p.graph c ≡ true) p.held

-- where an object begins: at its spot, or where the table of addresses has it
abbrev pub start_of : (ℕ → ℕ) → Object → Place → ℕ
start_of table o (place.Image spot) = spot
start_of table o (place.Zygote spot) = spot
start_of table o place.Young = table o.number
start_of table o place.Large = table o.number
start_of table o place.Promoted = table o.number

-- where a page begins
abbrev pub page_start : (ℕ → ℕ) → PageName → ℕ
page_start table (Image k) = image_base + k * page_bytes
page_start table (Zygote k) = zygote_base + k * page_bytes
page_start table (Large n k) = table n + k * page_bytes

-- so many bytes of an object, from an offset on, lie within so many from an address on
abbrev pub LieWithin : ℕ → ℕ → ℕ → ℕ → Type 0
LieWithin start size from bytes = (start ≤ from) × (from + bytes ≤ start + size)

-- they lie in the page, wherever the table has large objects
abbrev pub LieIn : PageName → Object → ℕ → ℕ → Type 0
LieIn page o offset bytes = (table : ℕ → ℕ) → LieWithin (page_start table page) page_bytes (start_of table o o.place + offset) bytes

-- where a card begins in its window
abbrev pub card_start : Card → ℕ
card_start (card.Image k) = image_base + k * card_bytes
card_start (card.Zygote k) = zygote_base + k * card_bytes

-- the card of an offset is one card, on which so many bytes from there lie, and it is noted
abbrev pub IsCardAmong : List Card → List Card → Object → ℕ → ℕ → Type 0
IsCardAmong stored held o offset bytes =
    (c : Card) × (cards_in o.place offset ≡ c ∷ []) × (is_noted stored held c ≡ true) × ((table : ℕ → ℕ) → LieWithin (card_start c) card_bytes (start_of table o o.place + offset) bytes)
