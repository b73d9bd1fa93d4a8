-- The references that lead out of a process's image and out of its zygote space.
use Rattle.std.specs.Prelude.{◌≡◌, ◌+◌, ◌≤◌, ℕ, Bool, true, false, List, filter, length}
use Rattle.class_layout.specs.Placing.{IsIn}
use Rattle.cow_pages.specs.Memory.{Memory}
use Rattle.cow_pages.specs.View.{view_of}
use Rattle.heap_graph.specs.declared.names.Place.{Place}
use Rattle.heap_graph.specs.declared.names.Place.TheVariants.{Image, Zygote, Young, Large, Promoted}
use Rattle.heap_graph.specs.Graph.{Graph}
use Rattle.heap_world.specs.Cards.{noted_count}
use Rattle.heap_world.specs.Part.{Part}
use Rattle.raw_objects.specs.Raws.{Raws}
use Rattle.graph_pages.specs.Holds.{raws_under}
use Rattle.mod_union.specs.ModUnion.{is_noted, space_of, ImmuneSpace}
use Rattle.process_state.specs.State.{addresses_in, State}

-- an object stands in the zygote window
abbrev pub is_in_zygote : Place → Bool
is_in_zygote (Image spot) = false
is_in_zygote (Zygote spot) = true
is_in_zygote Young = false
is_in_zygote Large = false
is_in_zygote Promoted = false

-- the graph's objects in such places, as raw ones
abbrev pub raws_in : (Place → Bool) → State → Graph → Raws
raws_in test s g = raws_under (addresses_in s g) (filter (λ o. test o.place) g.objects)

-- the image and the zygote space, as an update of their cards sees them
abbrev pub image_of : State → Memory → ImmuneSpace
image_of s m = space_of s.classes (view_of m s.page_table) s.image.starts s.rows

abbrev pub zygote_of : State → Memory → ImmuneSpace
zygote_of s m = space_of s.classes (view_of m s.page_table) s.zygote.starts s.rows

-- lists of cards that have all dirty and recorded ones of both spaces, together no more than are noted
pub record CountCards (s : State) (p : Part) : Type 0 where
  pub of_image : List ℕ
  pub of_zygote : List ℕ
  pub all_image : (card : ℕ) → is_noted s.image_notes.records s.image_notes.cards card ≡ true → IsIn card of_image
  pub all_zygote : (card : ℕ) → is_noted s.zygote_notes.records s.zygote_notes.cards card ≡ true → IsIn card of_zygote
  pub few : length of_image + length of_zygote ≤ noted_count p.stored p.held
