-- What is touched by each command and each fork.
use Rattle.std.proofs.Common.{◌≡◌, ◌⊎◌, Bool, true, false, true≢false, inr, Option, None, Some, IfSome, refl, sym, ◌∙◌}
use Rattle.std.specs.List.{AllByRecursion}
use Rattle.class_layout.specs.declared.kind.FieldAt.{FieldAt}
use Rattle.heap_graph.specs.declared.names.Content.{Content}
use Rattle.heap_graph.specs.Graph.{Graph, Object, is_immune, object_at}
use Rattle.heap_world.specs.declared.command.Verb.{Verb}
use Rattle.heap_world.specs.declared.names.PageName.{PageName}
use Rattle.heap_world.specs.Acts.{act, first_if, first_touch, fork_part, store_effect, with_slot}
use Rattle.heap_world.specs.Effect.{Effect}
use Rattle.heap_graph.specs.Formed.{HasSlot, IsFormed}
use Rattle.heap_world.specs.Pages.{is_touched, page_in, standing_pages}
use Rattle.heap_world.specs.Part.{Part}
use Rattle.heap_world.proofs.Standing.{slot-stands}
use Rattle.world_laws.specs.Effects.{TouchesFirst}
use Rattle.world_laws.specs.Named.{stands}
use Rattle.world_laws.proofs.PageLists.{in_either}
use Rattle.world_laws.proofs.StandingLists.{standing_lists}
use Rattle.world_laws.proofs.Walk.{act_walk, fork_walk}

module _ (p : Part) (formed : IsFormed p.graph) where
  abbrev g : Graph
  g = p.graph

  first_stands : (page : Option PageName) → IfSome page (λ a. is_touched (standing_pages g) a ≡ true) → AllByRecursion (λ a. (stands g a ≡ true) × (is_touched p.touched a ≡ false)) (first_touch p.touched page)
  first_stands None h = tt
  first_stands (Some a) h = by (is_touched p.touched a) refl
    where
      by : (b : Bool) → is_touched p.touched a ≡ b → AllByRecursion (λ a. (stands g a ≡ true) × (is_touched p.touched a ≡ false)) (first_if b a)
      by true e = tt
      by false e = ((sym (standing_lists g a) ∙ h, e), tt)

  pub touches_first : (v : Verb) → TouchesFirst p (act p v)
  touches_first v = act_walk p v (TouchesFirst p) (record {
    telling = λ r told. tt;
    refusing = λ why left. tt;
    define = λ cs grown. tt;
    roots = λ rs r told. tt;
    heap = λ root shape slots sealed. tt;
    again = λ root shape slots sealed. tt;
    full = λ root shape free needed sealed. tt;
    image = λ root shape slots unsealed. tt;
    storing = λ o s new found has fits. stored o s new found has (is_immune g.sealed o.place) refl;
    seal = λ is unsealed. tt;
    gc = λ sealed. tt;
    exit = tt;
    dump = λ sealed. tt;
  })
    where
      stored : (o : Object) (s : FieldAt) (new : Content) → object_at g o.number ≡ Some o → HasSlot g.classes o.shape s → (b : Bool) → is_immune g.sealed o.place ≡ b
          → TouchesFirst p (store_effect b p (with_slot g o.number (record { at = s; value = new })) o s)
      stored o s new found has true e = first_stands (page_in o o.place s.offset) (slot-stands g o s formed found has e)
      stored o s new found has false e = tt

  pub fork_first : TouchesFirst p (fork_part p)
  fork_first = fork_walk p (TouchesFirst p) (λ room. tt) (λ full. tt)

-- what is touched afterwards was touched, or is touched first
abbrev pub TouchedFrom : Part → Effect → Type 0
TouchedFrom p e = (a : PageName) → is_touched e.part.touched a ≡ true → (is_touched e.first a ≡ true) ⊎ (is_touched p.touched a ≡ true)

pub touched_from : (p : Part) (v : Verb) → TouchedFrom p (act p v)
touched_from p v = act_walk p v (TouchedFrom p) (record {
  telling = λ r told a h. inr h;
  refusing = λ why left a h. inr h;
  define = λ cs grown a h. inr h;
  roots = λ rs r told a h. inr h;
  heap = λ root shape slots sealed a h. inr h;
  again = λ root shape slots sealed a h. inr h;
  full = λ root shape free needed sealed a h. inr h;
  image = λ root shape slots unsealed a h. inr h;
  storing = λ o s new found has fits. stored o s new (is_immune p.graph.sealed o.place);
  seal = λ is unsealed a h. absurd (true≢false (sym h));
  gc = λ sealed a h. inr h;
  exit = λ a h. inr h;
  dump = λ sealed a h. inr h;
})
  where
    stored : (o : Object) (s : FieldAt) (new : Content) (b : Bool) → TouchedFrom p (store_effect b p (with_slot p.graph o.number (record { at = s; value = new })) o s)
    stored o s new true a h = in_either (first_touch p.touched (page_in o o.place s.offset)) p.touched a h
    stored o s new false a h = inr h

pub fork_touched_from : (p : Part) → TouchedFrom p (fork_part p)
fork_touched_from p = fork_walk p (TouchedFrom p) (λ room a h. absurd (true≢false (sym h))) (λ full a h. inr h)
