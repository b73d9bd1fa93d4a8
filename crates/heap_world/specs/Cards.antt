-- Cards of the image and the zygote window.
use Rattle.std.specs.Prelude.{ℕ, ◌+◌, ◌-◌, ◌/◌, Bool, true, false, not, ◌||◌, List, [], ◌∷◌, ◌++◌, Option, None, Some, nat_eq, length}
use Rattle.std.specs.List.{list_any, flat_map}
use Rattle.model_numbers.specs.Numbers.{image_base, zygote_base, card_bytes}
use Rattle.heap_world.specs.declared.names.Card.{Card}
use Rattle.heap_world.specs.declared.names.Card.TheVariants.{Image, Zygote}
use Rattle.heap_graph.specs.declared.names.Stored.{Stored}
use Rattle.heap_graph.specs.declared.names.Place.{Place}
use Rattle.heap_graph.specs.declared.names.Place.TheVariants as place
use Rattle.heap_graph.specs.declared.names.Content.{Content}
use Rattle.heap_graph.specs.declared.names.Content.TheVariants as content
use Rattle.heap_graph.specs.Graph.{Object, Graph, is_immune, object_at}

abbrev pub same_card : Card → Card → Bool
same_card (Image j) (Image k) = nat_eq j k
same_card (Image j) (Zygote k) = false
same_card (Zygote j) (Image k) = false
same_card (Zygote j) (Zygote k) = nat_eq j k

abbrev pub is_card_among : List Card → Card → Bool
is_card_among cards card = list_any (same_card card) cards

abbrev pub add_card_if : Bool → Card → List Card → List Card
add_card_if true card cards = cards
add_card_if false card cards = card ∷ cards

-- a set of cards with one more
abbrev pub add_card : Card → List Card → List Card
add_card card cards = add_card_if (is_card_among cards card) card cards

abbrev pub add_cards : List Card → List Card → List Card
add_cards [] cards = cards
add_cards (c ∷ cs) cards = add_card c (add_cards cs cards)

-- the card of an offset in an object of the image or the zygote window
abbrev pub cards_in : Place → ℕ → List Card
cards_in (place.Image spot) offset = Image ((spot + offset - image_base) / card_bytes) ∷ []
cards_in (place.Zygote spot) offset = Zygote ((spot + offset - zygote_base) / card_bytes) ∷ []
cards_in place.Young offset = []
cards_in place.Large offset = []
cards_in place.Promoted offset = []

abbrev pub loose_if : Option Object → Bool → Bool
loose_if None sealed = false
loose_if (Some o) sealed = not (is_immune sealed o.place)

-- a slot holds an object that isn't immune
abbrev pub is_outward : Graph → Content → Bool
is_outward g (content.Number z) = false
is_outward g content.Null = false
is_outward g (content.Object n) = loose_if (object_at g n) g.sealed

abbrev pub cards_if : Bool → Place → ℕ → List Card
cards_if true at offset = cards_in at offset
cards_if false at offset = []

-- the cards of an object's outward slots
abbrev pub slot_cards : Graph → Place → List Stored → List Card
slot_cards g at [] = []
slot_cards g at (s ∷ ss) = cards_if (is_outward g s.value) at s.at.offset ++ slot_cards g at ss

abbrev pub object_cards : Graph → Bool → Object → List Card
object_cards g true o = slot_cards g o.place o.slots
object_cards g false o = []

-- the card of each immune slot that holds an object that isn't immune
abbrev pub outward_cards : Graph → List Card
outward_cards g = flat_map (λ o. object_cards g (is_immune g.sealed o.place) o) g.objects

-- each of these cards once
abbrev pub held_cards : Graph → List Card
held_cards g = add_cards (outward_cards g) []

-- a card is noted, given the cards that a reference was stored in and those that held an object that isn't immune: it is one of them
abbrev pub is_noted : List Card → List Card → Card → Bool
is_noted stored held card = is_card_among stored card || is_card_among held card

-- how many cards are noted
abbrev pub noted_count : List Card → List Card → ℕ
noted_count stored held = length (add_cards stored held)
