-- Each command keeps a part sound.
use Rattle.std.proofs.Common.{◌≡◌, ℕ, ◌+◌, ◌≤◌, Bool, true, false, List, [], ◌∷◌, Option, None, Some, Result, Ok, Err, IfOk, nat_le, refl, sym, subst, ◌∙◌}
use Rattle.std.specs.List.{AllByRecursion}
use Rattle.model_numbers.specs.Numbers.{image_base, image_length, most_regions, number_limit}
use Rattle.class_layout.specs.declared.classes.DefineError.{DefineError}
use Rattle.class_layout.specs.declared.kind.FieldAt.{FieldAt}
use Rattle.class_layout.specs.declared.kind.Value.{Value}
use Rattle.class_layout.specs.ClassList.{Class, define_class, number_of}
use Rattle.class_layout.specs.Kinds.{is_ref}
use Rattle.heap_graph.specs.declared.names.Held.{Held}
use Rattle.heap_graph.specs.declared.names.Place.{Place}
use Rattle.heap_graph.specs.declared.names.Place.TheVariants as place
use Rattle.heap_graph.specs.declared.names.Shape.{Shape}
use Rattle.heap_graph.specs.declared.names.Shape.TheVariants.{Instance, Array}
use Rattle.heap_graph.specs.declared.names.Content.{Content}
use Rattle.heap_graph.specs.declared.names.Stored.{Stored}
use Rattle.heap_graph.specs.Allocation.{Allocated, has_room, heap_place, make, make_by, make_if, make_if_collected, make_in_image}
use Rattle.heap_graph.specs.Allocation as allocated
use Rattle.heap_graph.specs.Collection.{collect}
use Rattle.heap_graph.specs.Fork.{child_of, has_zygote_room, next_spot, promoted, promoted_from, promoted_place, promotion_start}
use Rattle.heap_graph.specs.Graph.{Graph, Object, image_fill, is_immune, object_at, size_of_object}
use Rattle.heap_graph.specs.Sizes.{is_large, is_too_large, size_in}
use Rattle.heap_graph.specs.Values.{held_of, slot_of, value_at}
use Rattle.heap_world.specs.declared.command.Verb.{Verb}
use Rattle.heap_world.specs.declared.command.Verb.TheVariants as verb
use Rattle.heap_world.specs.declared.reply.Refusal.{Refusal}
use Rattle.heap_world.specs.Acts.{act, after_define, after_make, copy_root, drop_held, fork_part, fork_collected, gc_if, get_element, get_field, load_element, load_field, load_slot, make_numbered, make_shape, make_sized, make_slots, make_weak, new_of_class, part_after, put_element, referent_at, root_written, seal_if, set_field, show_root, store, dump_counted, dump_if}
use Rattle.heap_world.specs.Effect.{Effect, effect_or}
use Rattle.heap_graph.specs.Formed.{IsFormed, FitsKind, HasSlot, is_in_image}
use Rattle.heap_world.specs.Commands.{HasFewFields}
use Rattle.heap_world.specs.Part.{Part, first_part, with_collected}
use Rattle.heap_world.specs.Slots.{◌>>=◌, held_by_root, named_by, object_held, only_reference, slot_indexed, slot_named, stored_value}
use Rattle.heap_world.specs.Sound.{IsSound}
use Rattle.heap_world.proofs.FormedActs.{act_keeps, fork_keeps}
use Rattle.heap_world.proofs.FormedDefine.{IsGrown, define-grows}
use Rattle.heap_world.proofs.FormedKept.{child_formed, collect_formed, first_formed}
use Rattle.heap_world.proofs.FormedStores.{next_step, object-found, named-slot, indexed-slot}
use Rattle.heap_world.specs.Cards.{held_cards, is_card_among, outward_cards, same_card, is_noted}
use Rattle.heap_graph.proofs.LaidOut.{all-push, all-weaken}
use Rattle.heap_world.proofs.FormedAims.{closed_objects}
use Rattle.heap_world.proofs.FormedValues.{stored-fits}
use Rattle.heap_world.proofs.Noted.{all-immune, has-cards, objects-loose, outward-collected, outward-pushed}
use Rattle.heap_world.proofs.SoundParts.{IsMarked, distinct-none, marked-collected, marked-graph, marked-none, marked-unsealed, marked_of, sound_from, standing-classes, standing-collect, standing-heap, store_marked}

-- the part after a command is marked soundly
abbrev Marks : Effect → Type 0
Marks e = IsMarked e.part

-- a command that may be refused
effect_marks : (p : Part) (r : Result Effect Refusal) → IsMarked p → IfOk r Marks → Marks (effect_or p r)
effect_marks p (Ok e) marked h = h
effect_marks p (Err why) marked h = marked

-- a step of which nothing need be known
any_step : {A : Type 0} (r : Result A Refusal) (f : A → Result Effect Refusal) → ((x : A) → IfOk (f x) Marks) → IfOk (r >>= f) Marks
any_step (Ok x) f next = next x
any_step (Err e) f next = tt

-- what is left after a making is marked soundly
abbrev MarksMade : Part → List ℕ → Allocated → Type 0
MarksMade p root (allocated.Made h collected) = IsMarked (part_after collected p (root_written h root p.graph.next))
MarksMade p root (allocated.ImageFull fill size) = Unit {0}
MarksMade p root (allocated.HeapFull h free needed) = IsMarked (with_collected p h)

after_make_marks : (p : Part) (root : List ℕ) (shape : Shape) (a : Allocated) → IsMarked p → MarksMade p root a → Marks (after_make p root shape a)
after_make_marks p root shape (allocated.Made h collected) marked m = m
after_make_marks p root shape (allocated.ImageFull fill size) marked m = marked
after_make_marks p root shape (allocated.HeapFull h free needed) marked m = m

-- after a fork all objects are immune
promoted-immune : (cs : List Class) (at : ℕ) (os : List Object) → AllByRecursion (λ o. is_immune true o.place ≡ true) (promoted_from cs at os)
promoted-immune cs at [] = tt
promoted-immune cs at (o ∷ os) = (by o.place, promoted-immune cs (next_spot at (size_of_object cs o) o.place) os)
  where
    by : (q : Place) → is_immune true (promoted_place at q) ≡ true
    by (place.Image spot) = refl
    by (place.Zygote spot) = refl
    by place.Young = refl
    by place.Large = refl
    by place.Promoted = refl

-- after a collection the cards of outward slots are among those before it
outward-held : (g : Graph) → AllByRecursion (λ card. is_card_among (held_cards g) card ≡ true) (outward_cards (collect g))
outward-held g = outward-collected (λ card. is_card_among (held_cards g) card ≡ true) g (has-cards (outward_cards g) [])

module _ (p : Part) (formed : IsFormed p.graph) (marked : IsMarked p) where
  -- the part's graph
  abbrev g : Graph
  g = p.graph

  -- a class line
  define_marks : (r : Result (List Class) DefineError) → IfOk r (IsGrown g.classes) → Marks (after_define p r)
  define_marks (Ok cs) grown = marked-graph p (record g { classes = cs }) refl (standing-classes g cs grown formed) marked.outward_noted marked
  define_marks (Err why) h = marked

  module _ (root : List ℕ) where
    module _ (shape : Shape) (slots : List Stored) where
      -- a new object of the heap isn't immune
      heap_loose : (b : Bool) → is_immune g.sealed (heap_place b) ≡ false
      heap_loose true = refl
      heap_loose false = refl

      -- nor is any object before the seal
      image_loose : g.sealed ≡ false → (at : Place) → is_in_image at ≡ true → is_immune g.sealed at ≡ false
      image_loose unsealed (place.Image spot) e = unsealed
      image_loose unsealed (place.Zygote spot) e = cc
      image_loose unsealed place.Young e = cc
      image_loose unsealed place.Large e = cc
      image_loose unsealed place.Promoted e = cc

      -- the new object, at a place
      abbrev made : ℕ → Place → Object
      made n at = record { number = n; shape = shape; slots = slots; place = at }

      -- the steps of making, the last one first
      if_collected : g.sealed ≡ true → (b : Bool) → MarksMade p root (make_if_collected b (collect g) shape slots)
      if_collected sealed true =
          let after : IsFormed (collect g) = collect_formed g sealed formed in
          let at : Place = heap_place (is_large g.classes shape) in
          marked-collected p (root_written (allocated.with_heap_object (collect g) shape slots) root g.next) refl
          (standing-heap (collect g) shape slots after.zygote ∙ standing-collect g sealed formed)
          (outward-pushed (λ card. is_card_among (held_cards g) card ≡ true) (collect g) (root_written (allocated.with_heap_object (collect g) shape slots) root g.next) (made g.next at) refl refl
          (closed_objects (collect g) after.closed) (heap_loose (is_large g.classes shape)) (outward-held g))
          marked
      if_collected sealed false = marked-collected p (collect g) refl (standing-collect g sealed formed) (outward-held g) marked

      if_sealed : g.sealed ≡ true → (b : Bool) → MarksMade p root (make_if b g shape slots)
      if_sealed sealed true =
          let at : Place = heap_place (is_large g.classes shape) in
          marked-graph p (root_written (allocated.with_heap_object g shape slots) root g.next) refl (standing-heap g shape slots formed.zygote)
          (outward-pushed (λ card. is_noted p.stored p.held card ≡ true) g (root_written (allocated.with_heap_object g shape slots) root g.next) (made g.next at) refl refl (closed_objects g formed.closed)
          (heap_loose (is_large g.classes shape)) marked.outward_noted)
          marked
      if_sealed sealed false = if_collected sealed (has_room (collect g) shape)

      in_image : g.sealed ≡ false → (b : Bool) → MarksMade p root (make_in_image b g shape slots)
      in_image unsealed true =
          let at : Place = place.Image (image_base + image_fill g) in
          let h : Graph = root_written (allocated.with_object g shape slots at) root g.next in
          let images = all-push (λ o. is_in_image o.place ≡ true) g.objects (made g.next at) (formed.before_seal unsealed) refl in
          marked-unsealed p h unsealed (objects-loose (λ card. is_noted p.stored p.held card ≡ true) h g.sealed h.objects (all-weaken _ _ (λ o e. image_loose unsealed o.place e) h.objects images)) marked
      in_image unsealed false = tt

      made_by : (b : Bool) → g.sealed ≡ b → MarksMade p root (make_by b g shape slots)
      made_by true e = if_sealed e (has_room g shape)
      made_by false e = in_image e (nat_le (image_fill g + size_in g.classes shape) image_length)

      slots_marks : Marks (make_slots p root shape slots)
      slots_marks = by (nat_le number_limit g.next)
        where
          by : (b : Bool) → Marks (make_numbered b p root shape slots)
          by true = marked
          by false = after_make_marks p root shape (make g shape slots) marked (made_by g.sealed refl)

    shape_marks : (shape : Shape) → Marks (make_shape p root shape)
    shape_marks shape = by (is_too_large g.classes shape)
      where
        by : (b : Bool) → Marks (make_sized b p root shape)
        by true = marked
        by false = slots_marks shape []

    new_marks : (found : Option ℕ) → Marks (new_of_class p root found)
    new_marks None = marked
    new_marks (Some class) = shape_marks (Instance class)

    weak_marks : (r : Result Held Refusal) → Marks (make_weak p root r)
    weak_marks (Err why) = marked
    weak_marks (Ok h) = slots_marks (Instance 1) (record { at = referent_at; value = slot_of h } ∷ [])

  -- an object is the one that its number finds
  abbrev IsFound : Object → Type 0
  IsFound o = object_at g o.number ≡ Some o

  -- set and put
  store_marks : (o : Object) (s : FieldAt) (r : Result Content Refusal) → IsFound o → HasSlot g.classes o.shape s → IfOk r (FitsKind s.kind) → IfOk (r >>= (λ new. Ok (store p o s new))) Marks
  store_marks o s r found has fits = next_step (FitsKind s.kind) Marks r (λ new. Ok (store p o s new)) fits (λ new fits. store_marked p o s new formed found has fits marked)

  set_marks : (root field : List ℕ) (v : Value) → IfOk (set_field p root field v) Marks
  set_marks root field v =
      any_step (held_by_root g root) _ (λ h.
      any_step (named_by g v) _ (λ named.
      next_step IsFound Marks (object_held g h) _ (object-found g h) (λ o found.
      next_step (HasSlot g.classes o.shape) Marks (slot_named g.classes o.shape field) _ (named-slot g.classes o.shape field) (λ s has.
      store_marks o s (stored_value s.kind v named) found has (stored-fits s.kind v named)))))

  put_marks : (root : List ℕ) (index : ℕ) (v : Value) → IfOk (put_element p root index v) Marks
  put_marks root index v =
      any_step (held_by_root g root) _ (λ h.
      any_step (named_by g v) _ (λ named.
      next_step IsFound Marks (object_held g h) _ (object-found g h) (λ o found.
      next_step (HasSlot g.classes o.shape) Marks (slot_indexed o.shape index) _ (indexed-slot g.classes o.shape index) (λ s has.
      store_marks o s (stored_value s.kind v named) found has (stored-fits s.kind v named)))))

  -- get, at and show
  get_marks : (root field : List ℕ) → IfOk (get_field p root field) Marks
  get_marks root field = any_step (held_by_root g root) _ (λ h. any_step (object_held g h) _ (λ o. any_step (slot_named g.classes o.shape field) _ (λ s. marked)))

  at_marks : (root : List ℕ) (index : ℕ) → IfOk (get_element p root index) Marks
  at_marks root index = any_step (held_by_root g root) _ (λ h. any_step (object_held g h) _ (λ o. any_step (slot_indexed o.shape index) _ (λ s. marked)))

  show_marks : (root : List ℕ) → IfOk (show_root p root) Marks
  show_marks root = any_step (held_by_root g root) _ (λ h. marked)

  -- copy, load, loadat and drop change roots alone
  copy_marks : (to from : List ℕ) → IfOk (copy_root p to from) Marks
  copy_marks to from = any_step (held_by_root g from) _ (λ h. marked-graph p _ refl refl marked.outward_noted marked)

  slot_marks : (to : List ℕ) (o : Object) (s : FieldAt) → IfOk (load_slot p to o s) Marks
  slot_marks to o s = any_step (only_reference (is_ref s.kind) (held_of (value_at o.slots s))) _ (λ h. marked-graph p _ refl refl marked.outward_noted marked)

  load_marks : (to from field : List ℕ) → IfOk (load_field p to from field) Marks
  load_marks to from field = any_step (held_by_root g from) _ (λ h. any_step (object_held g h) _ (λ o. any_step (slot_named g.classes o.shape field) _ (λ s. slot_marks to o s)))

  load_at_marks : (to from : List ℕ) (index : ℕ) → IfOk (load_element p to from index) Marks
  load_at_marks to from index = any_step (held_by_root g from) _ (λ h. any_step (object_held g h) _ (λ o. any_step (slot_indexed o.shape index) _ (λ s. slot_marks to o s)))

  drop_marks : (root : List ℕ) → IfOk (drop_held p root) Marks
  drop_marks root = any_step (held_by_root g root) _ (λ h. marked-graph p _ refl refl marked.outward_noted marked)

  -- seal, gc and fork
  image_immune : (at : Place) → is_in_image at ≡ true → is_immune true at ≡ true
  image_immune (place.Image spot) e = refl
  image_immune (place.Zygote spot) e = refl
  image_immune place.Young e = cc
  image_immune place.Large e = cc
  image_immune place.Promoted e = refl

  seal_marks : (b : Bool) → g.sealed ≡ b → Marks (seal_if b p)
  seal_marks true e = marked
  seal_marks false e =
      let h : Graph = record g { sealed = true } in
      let q : Part = record p { graph = h; touched = []; stored = [] } in
      marked-none q refl (distinct-none same_card) marked.held_once
      (all-immune (λ card. is_noted q.stored q.held card ≡ true) h (all-weaken _ _ (λ o image. image_immune o.place image) g.objects (formed.before_seal e)))

  dump_marks : (b : Bool) → Marks (dump_if b p)
  dump_marks true = marked-graph p (dump_counted g) refl refl marked.outward_noted marked
  dump_marks false = marked

  gc_marks : (b : Bool) → g.sealed ≡ b → Marks (gc_if b p)
  gc_marks true e = marked-collected p (collect g) refl (standing-collect g e formed) (outward-held g) marked
  gc_marks false e = marked

  fork_collected_marks : g.sealed ≡ true → (b : Bool) → Marks (fork_collected b p (collect g))
  fork_collected_marks sealed true =
      let h : Graph = promoted (collect g) in
      let q : Part = record p { graph = h; touched = []; stored = []; held = [] } in
      marked-none q refl (distinct-none same_card) (distinct-none same_card)
      (all-immune (λ card. is_noted q.stored q.held card ≡ true) h (subst (λ b. AllByRecursion (λ o. is_immune b o.place ≡ true) h.objects) (sym sealed) (promoted-immune g.classes (promotion_start (collect g)) (collect g).objects)))
  fork_collected_marks sealed false = marked-collected p (collect g) refl (standing-collect g sealed formed) (outward-held g) marked

  fork_marks : g.sealed ≡ true → Marks (fork_part p)
  fork_marks e = fork_collected_marks e (has_zygote_room (collect g))

  exit_marks : IsMarked (record p { exited = true })
  exit_marks = record {
    before_seal = marked.before_seal;
    touched_stand = marked.touched_stand;
    touched_once = marked.touched_once;
    stored_once = marked.stored_once;
    held_once = marked.held_once;
    outward_noted = marked.outward_noted;
  }

-- each command
act_marks : (p : Part) (v : Verb) → HasFewFields v → IsFormed p.graph → IsMarked p → Marks (act p v)
act_marks p (verb.Class name parent fields) few formed m =
    define_marks p formed m (define_class p.graph.classes name parent fields) (define-grows p.graph.classes name fields formed.classes few parent)
act_marks p (verb.New root class) few formed m = new_marks p formed m root (number_of p.graph.classes class)
act_marks p (verb.Array root kind count) few formed m = shape_marks p formed m root (Array kind count)
act_marks p (verb.Weak root referent) few formed m = weak_marks p formed m root (held_by_root p.graph referent)
act_marks p (verb.Set root field v) few formed m = effect_marks p (set_field p root field v) m (set_marks p formed m root field v)
act_marks p (verb.Put root index v) few formed m = effect_marks p (put_element p root index v) m (put_marks p formed m root index v)
act_marks p (verb.Get root field) few formed m = effect_marks p (get_field p root field) m (get_marks p formed m root field)
act_marks p (verb.At root index) few formed m = effect_marks p (get_element p root index) m (at_marks p formed m root index)
act_marks p (verb.Copy to from) few formed m = effect_marks p (copy_root p to from) m (copy_marks p formed m to from)
act_marks p (verb.Load to from field) few formed m = effect_marks p (load_field p to from field) m (load_marks p formed m to from field)
act_marks p (verb.LoadAt to from index) few formed m = effect_marks p (load_element p to from index) m (load_at_marks p formed m to from index)
act_marks p (verb.Drop root) few formed m = effect_marks p (drop_held p root) m (drop_marks p formed m root)
act_marks p (verb.Show root) few formed m = effect_marks p (show_root p root) m (show_marks p formed m root)
act_marks p verb.Seal few formed m = seal_marks p formed m p.graph.sealed refl
act_marks p verb.Gc few formed m = gc_marks p formed m p.graph.sealed refl
act_marks p (verb.Fork child) few formed m = m
act_marks p verb.Exit few formed m = exit_marks p formed m
act_marks p verb.Free few formed m = m
act_marks p verb.Pages few formed m = m
act_marks p verb.Frames few formed m = m
act_marks p verb.Dump few formed m = dump_marks p formed m p.graph.sealed

pub act_sound : (p : Part) (v : Verb) → HasFewFields v → IsSound p → IsSound (act p v).part
act_sound p v few sound = sound_from (act p v).part (act_keeps p v few sound.formed) (act_marks p v few sound.formed (marked_of p sound))

-- a fork of a sealed process
pub fork_sound : (p : Part) → p.graph.sealed ≡ true → IsSound p → IsSound (fork_part p).part
fork_sound p sealed sound = sound_from (fork_part p).part (fork_keeps p sound.formed sealed) (fork_marks p sound.formed (marked_of p sound) sealed)

-- the first part
pub first_sound : (budget number : ℕ) → 1 ≤ budget → budget ≤ most_regions → number ≤ number_limit → IsSound (first_part budget number)
first_sound budget number some few low =
    sound_from (first_part budget number) (first_formed budget number few low) (marked-none (first_part budget number) refl (distinct-none same_card) (distinct-none same_card) tt)

-- a child's part
pub child_sound : (p : Part) → IsSound p → IsSound (record p { graph = child_of p.graph })
child_sound p sound = sound_from (record p { graph = child_of p.graph }) (child_formed p.graph sound.formed) (marked-graph p (child_of p.graph) refl refl sound.outward_noted (marked_of p sound))
