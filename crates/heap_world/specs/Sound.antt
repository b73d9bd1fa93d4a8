-- What holds of each process, after every line.
use Rattle.std.specs.Prelude.{◌≡◌, true, false, []}
use Rattle.std.specs.List.{AllByRecursion, IsDistinct}
use Rattle.heap_world.specs.Cards.{outward_cards, same_card, is_noted}
use Rattle.heap_graph.specs.Formed.{IsFormed}
use Rattle.heap_world.specs.Pages.{is_touched, same_page, standing_pages}
use Rattle.heap_world.specs.Part.{Part}

pub record IsSound (p : Part) : Type 0 where
  pub formed : IsFormed p.graph
  -- before the seal no page is touched
  pub before_seal : p.graph.sealed ≡ false → p.touched ≡ []
  -- each touched page stands: it is of the image, of the zygote window or of a promoted large object
  pub touched_stand : AllByRecursion (λ page. is_touched (standing_pages p.graph) page ≡ true) p.touched
  -- each touched page is there once
  pub touched_once : IsDistinct same_page p.touched
  -- each card is there once
  pub stored_once : IsDistinct same_card p.stored
  pub held_once : IsDistinct same_card p.held
  -- each card in which an immune slot holds an object that isn't immune is noted
  pub outward_noted : AllByRecursion (λ card. is_noted p.stored p.held card ≡ true) (outward_cards p.graph)
