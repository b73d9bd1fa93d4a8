-- Which pages have labels after each command and each fork, and which it makes.
use Rattle.std.proofs.Common.{◌≡◌, ◌+◌, Bool, true, false, inl, List, [], refl, sym, subst}
use Rattle.model_numbers.specs.Numbers.{image_base}
use Rattle.class_layout.specs.ClassList.{Class}
use Rattle.heap_graph.specs.declared.names.Place.TheVariants as place
use Rattle.heap_graph.specs.declared.names.Shape.{Shape}
use Rattle.heap_graph.specs.declared.names.Stored.{Stored}
use Rattle.heap_graph.specs.Allocation.{with_heap_object, with_object}
use Rattle.heap_graph.specs.Collection.{collect}
use Rattle.heap_graph.specs.Fork.{promoted}
use Rattle.heap_graph.specs.Graph.{Graph, Object, image_fill, is_immune}
use Rattle.heap_graph.specs.Sizes.{is_large, size_in}
use Rattle.heap_world.specs.declared.command.Verb.{Verb}
use Rattle.heap_world.specs.declared.names.PageName.{PageName}
use Rattle.heap_world.specs.Acts.{act, fork_pages, fork_part, image_pages_behind, pages_of_new, slot_pages_if, store_effect, with_slot}
use Rattle.heap_world.specs.Effect.{Effect}
use Rattle.heap_graph.specs.Formed.{FillZygote, IsFormed}
use Rattle.heap_world.specs.Commands.{HasFewFields}
use Rattle.heap_world.specs.Part.{Part}
use Rattle.heap_world.proofs.FormedDefine.{IsGrown}
use Rattle.heap_world.proofs.FormedKept.{collect_formed, promoted_formed}
use Rattle.heap_world.proofs.PlacedSame.{AreSame, grown-same, stored-same}
use Rattle.world_laws.specs.Effects.{KeepsNames}
use Rattle.world_laws.proofs.Named.{Reaches, labels_in, reaches-collect, reaches-heap, reaches-image, reaches-promoted, reaches-same, reaches-then, waiting-collect, waiting-heap, waiting-image, waiting-promoted, waiting-same, waiting_in}
use Rattle.world_laws.proofs.Walk.{act_walk, fork_walk}

-- a collection changes no class, and not the next number
pages-collect : (b : Bool) (g : Graph) (shape : Shape) → slot_pages_if b (collect g) shape ≡ slot_pages_if b g shape
pages-collect true g shape = refl
pages-collect false g shape = refl

-- a test of pages that the changes of graphs pass on passes on over each command
module _ (T : List Class → List Object → PageName → Bool)
    (of_same : (g h : Graph) (made : List PageName) → AreSame g.classes h.classes g.objects h.objects → FillZygote g.classes 0 g.objects → Reaches T g h made)
    (of_collect : (g : Graph) → g.sealed ≡ true → IsFormed g → Reaches T g (collect g) [])
    (of_heap : (g : Graph) (shape : Shape) (slots : List Stored) → FillZygote g.classes 0 g.objects → Reaches T g (with_heap_object g shape slots) (slot_pages_if (is_large g.classes shape) g shape))
    (of_image : (g : Graph) (shape : Shape) (slots : List Stored) → FillZygote g.classes 0 g.objects
    → Reaches T g (with_object g shape slots (place.Image (image_base + image_fill g))) (image_pages_behind (image_fill g) (size_in g.classes shape)))
    (of_promoted : (g : Graph) → IsFormed g → IsFormed (promoted g) → Reaches T g (promoted g) (fork_pages g)) where
  module _ (p : Part) (formed : IsFormed p.graph) where
    abbrev g : Graph
    g = p.graph

    same : Reaches T g g []
    same a x = inl x

    act_names : (v : Verb) → HasFewFields v → Reaches T g (act p v).part.graph (act p v).made
    act_names v few = act_walk p v (λ e. Reaches T g e.part.graph e.made) (record {
      telling = λ r told. same;
      refusing = λ why left. same;
      define = λ cs grown.
          let more : IsGrown g.classes cs = grown few formed in
          let S : List Class → Type 0 = λ ds. AreSame g.classes ds g.objects g.objects in
          of_same g (record g { classes = cs }) [] (subst S (sym more.same) (grown-same g.classes more.added g.objects formed.objects)) formed.zygote;
      roots = λ rs r told. same;
      heap = λ root shape slots sealed. subst (λ b. Reaches T g (with_heap_object g shape slots) (pages_of_new b g shape)) (sym sealed) (of_heap g shape slots formed.zygote);
      again = λ root shape slots sealed.
          reaches-then T g (collect g) (with_heap_object (collect g) shape slots) (pages_of_new g.sealed g shape) (of_collect g sealed formed)
          (subst (λ b. Reaches T (collect g) (with_heap_object (collect g) shape slots) (pages_of_new b g shape)) (sym sealed)
          (subst (Reaches T (collect g) (with_heap_object (collect g) shape slots)) (pages-collect (is_large g.classes shape) g shape) (of_heap (collect g) shape slots (collect_formed g sealed formed).zygote)));
      full = λ root shape free needed sealed. of_collect g sealed formed;
      image = λ root shape slots unsealed.
          subst (λ b. Reaches T g (with_object g shape slots (place.Image (image_base + image_fill g))) (pages_of_new b g shape)) (sym unsealed) (of_image g shape slots formed.zygote);
      storing = λ o s new found has fits. stored (is_immune g.sealed o.place) o s new;
      seal = λ is unsealed. same;
      gc = λ sealed. of_collect g sealed formed;
      exit = same;
      dump = λ sealed. same;
    })
      where
        stored : (b : Bool) (o : Object) (s : _) (new : _) → let e : Effect = store_effect b p (with_slot g o.number (record { at = s; value = new })) o s in Reaches T g e.part.graph e.made
        stored true o s new = of_same g (with_slot g o.number (record { at = s; value = new })) [] (stored-same g.classes g.objects o.number (record { at = s; value = new })) formed.zygote
        stored false o s new = of_same g (with_slot g o.number (record { at = s; value = new })) [] (stored-same g.classes g.objects o.number (record { at = s; value = new })) formed.zygote

    fork_names : g.sealed ≡ true → Reaches T g (fork_part p).part.graph (fork_part p).made
    fork_names sealed = fork_walk p (λ e. Reaches T g e.part.graph e.made)
        (λ room.
        let after : IsFormed (collect g) = collect_formed g sealed formed in
        reaches-then T g (collect g) (promoted (collect g)) (fork_pages (collect g)) (of_collect g sealed formed) (of_promoted (collect g) after (promoted_formed (collect g) sealed room after)))
        (λ full. of_collect g sealed formed)

pub keeps_names : (p : Part) (v : Verb) → HasFewFields v → IsFormed p.graph → KeepsNames p (act p v)
keeps_names p v few formed = record {
  named = act_names labels_in reaches-same reaches-collect reaches-heap reaches-image reaches-promoted p formed v few;
  waiting = act_names waiting_in waiting-same waiting-collect waiting-heap waiting-image waiting-promoted p formed v few;
}

pub fork_keeps_names : (p : Part) → p.graph.sealed ≡ true → IsFormed p.graph → KeepsNames p (fork_part p)
fork_keeps_names p sealed formed = record {
  named = fork_names labels_in reaches-same reaches-collect reaches-heap reaches-image reaches-promoted p formed sealed;
  waiting = fork_names waiting_in waiting-same waiting-collect waiting-heap waiting-image waiting-promoted p formed sealed;
}
