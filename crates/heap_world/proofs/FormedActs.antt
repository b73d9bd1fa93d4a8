-- Each command keeps a formed graph.
use Rattle.std.proofs.Common.{◌≡◌, ℕ, Bool, true, false, List, Some, Result, Ok, Err, IfOk, refl}
use Rattle.class_layout.specs.declared.classes.DefineError.{DefineError}
use Rattle.class_layout.specs.declared.kind.FieldAt.{FieldAt}
use Rattle.class_layout.specs.declared.kind.Value.{Value}
use Rattle.class_layout.specs.ClassList.{Class, define_class}
use Rattle.class_layout.specs.Kinds.{is_ref}
use Rattle.heap_graph.specs.declared.names.Held.{Held}
use Rattle.heap_graph.specs.declared.names.Shape.TheVariants.{Array}
use Rattle.heap_graph.specs.Collection.{collect}
use Rattle.heap_graph.specs.Fork.{has_zygote_room}
use Rattle.heap_graph.specs.Graph.{Graph, Object, object_at, drop_root, is_immune}
use Rattle.heap_graph.specs.Paths.{numbers}
use Rattle.heap_graph.specs.Values.{slot_of, held_of, value_at}
use Rattle.heap_world.specs.declared.command.Verb.{Verb}
use Rattle.heap_world.specs.declared.command.Verb.TheVariants as verb
use Rattle.heap_world.specs.declared.reply.Refusal.{Refusal}
use Rattle.heap_world.specs.Acts.{act, after_define, store_effect, with_slot, store, set_field, put_element, get_field, get_element, copy_root, load_slot, load_field, load_element, drop_held, show_root, seal_if, gc_if, fork_collected, fork_part, dump_counted, dump_if}
use Rattle.heap_world.specs.Effect.{Effect, effect_or}
use Rattle.heap_graph.specs.Formed.{IsFormed, FitsKind, HasSlot}
use Rattle.heap_world.specs.Commands.{HasFewFields}
use Rattle.heap_world.specs.Part.{Part}
use Rattle.heap_world.specs.Slots.{◌>>=◌, slot_named, slot_indexed, held_by_root, object_held, named_by, stored_value, only_reference}
use Rattle.heap_world.proofs.FormedAims.{Aims, RootsAim, closed_roots, closed_objects, roots_aim-drop}
use Rattle.heap_world.proofs.FormedDefine.{IsGrown, define-grows}
use Rattle.heap_world.proofs.FormedKept.{classes_formed, roots_formed, write_formed, sealed_formed, collect_formed, promoted_formed, store_formed, counted_formed}
use Rattle.heap_world.proofs.FormedMake.{Keeps, shape_keeps, new_keeps, weak_keeps}
use Rattle.heap_world.proofs.FormedValues.{both-ok, names-drop, stored-fits}
use Rattle.heap_world.proofs.FormedStores.{next_step, held-aims, named-aims, stored-aims, loaded-aims, found-aims, object-found, named-slot, indexed-slot}

-- a command that may be refused
effect_keeps : (p : Part) (r : Result Effect Refusal) → IsFormed p.graph → IfOk r Keeps → Keeps (effect_or p r)
effect_keeps p (Ok e) formed h = h
effect_keeps p (Err why) formed h = formed

-- a class line
define_keeps : (p : Part) (r : Result (List Class) DefineError) → IsFormed p.graph → IfOk r (IsGrown p.graph.classes) → Keeps (after_define p r)
define_keeps p (Ok cs) formed grown = classes_formed p.graph cs grown formed
define_keeps p (Err why) formed h = formed

module _ (p : Part) (formed : IsFormed p.graph) where
  -- the part's graph, and its objects' numbers
  abbrev g : Graph
  g = p.graph

  abbrev ns : List ℕ
  ns = numbers g.objects

  -- what a root or a value names is there
  abbrev IsThere : Held → Type 0
  IsThere h = Aims ns (slot_of h)

  -- an object is the one that its number finds
  abbrev IsFound : Object → Type 0
  IsFound o = object_at g o.number ≡ Some o

  -- what roots hold is there
  roots : RootsAim ns g.roots
  roots = closed_roots g formed.closed

  -- the object that a root holds
  at_object : (root : List ℕ) (f : Object → Result Effect Refusal) → ((o : Object) → IsFound o → IfOk (f o) Keeps) → IfOk (held_by_root g root >>= (λ h. object_held g h >>= f)) Keeps
  at_object root f next =
      next_step IsThere Keeps (held_by_root g root) (λ h. object_held g h >>= f) (held-aims ns g root roots) (λ h there.
      next_step IsFound Keeps (object_held g h) f (object-found g h) next)

  -- a store's last step
  store_keeps : (o : Object) (s : FieldAt) (v : Value) (named : Held) → IsFound o → HasSlot g.classes o.shape s → IsThere named
      → IfOk (stored_value s.kind v named >>= (λ new. Ok (store p o s new))) Keeps
  store_keeps o s v named found has there =
      next_step (λ x. Aims ns x × FitsKind s.kind x) Keeps (stored_value s.kind v named) (λ new. Ok (store p o s new))
      (both-ok (Aims ns) (FitsKind s.kind) (stored_value s.kind v named) (stored-aims ns s.kind v named there) (stored-fits s.kind v named)) (λ new both.
      by (is_immune g.sealed o.place) (with_slot g o.number (record { at = s; value = new })) (store_formed g o (record { at = s; value = new }) found has both.0 both.1 formed))
    where
      by : (b : Bool) (after : Graph) → IsFormed after → Keeps (store_effect b p after o s)
      by true after h = h
      by false after h = h

  -- set and put
  set_keeps : (root field : List ℕ) (v : Value) → IfOk (set_field p root field v) Keeps
  set_keeps root field v =
      next_step IsThere Keeps (held_by_root g root) _ (held-aims ns g root roots) (λ h _.
      next_step IsThere Keeps (named_by g v) _ (named-aims ns g v roots) (λ named there.
      next_step IsFound Keeps (object_held g h) _ (object-found g h) (λ o found.
      next_step (HasSlot g.classes o.shape) Keeps (slot_named g.classes o.shape field) _ (named-slot g.classes o.shape field) (λ s has.
      store_keeps o s v named found has there))))

  put_keeps : (root : List ℕ) (index : ℕ) (v : Value) → IfOk (put_element p root index v) Keeps
  put_keeps root index v =
      next_step IsThere Keeps (held_by_root g root) _ (held-aims ns g root roots) (λ h _.
      next_step IsThere Keeps (named_by g v) _ (named-aims ns g v roots) (λ named there.
      next_step IsFound Keeps (object_held g h) _ (object-found g h) (λ o found.
      next_step (HasSlot g.classes o.shape) Keeps (slot_indexed o.shape index) _ (indexed-slot g.classes o.shape index) (λ s has.
      store_keeps o s v named found has there))))

  -- get and at
  get_keeps : (root field : List ℕ) → IfOk (get_field p root field) Keeps
  get_keeps root field =
      at_object root _ (λ o found.
      next_step (HasSlot g.classes o.shape) Keeps (slot_named g.classes o.shape field) _ (named-slot g.classes o.shape field) (λ s has. formed))

  at_keeps : (root : List ℕ) (index : ℕ) → IfOk (get_element p root index) Keeps
  at_keeps root index =
      at_object root _ (λ o found.
      next_step (HasSlot g.classes o.shape) Keeps (slot_indexed o.shape index) _ (indexed-slot g.classes o.shape index) (λ s has. formed))

  -- copy
  copy_keeps : (to from : List ℕ) → IfOk (copy_root p to from) Keeps
  copy_keeps to from = next_step IsThere Keeps (held_by_root g from) _ (held-aims ns g from roots) (λ h there. write_formed g to h there formed)

  -- the last step of load and loadat
  slot_keeps : (to : List ℕ) (o : Object) (s : FieldAt) → IsFound o → IfOk (load_slot p to o s) Keeps
  slot_keeps to o s found =
      next_step IsThere Keeps (only_reference (is_ref s.kind) (held_of (value_at o.slots s))) _
      (loaded-aims ns o s (found-aims ns g.objects o.number o (closed_objects g formed.closed) found)) (λ h there. write_formed g to h there formed)

  -- load and loadat
  load_keeps : (to from field : List ℕ) → IfOk (load_field p to from field) Keeps
  load_keeps to from field =
      at_object from _ (λ o found.
      next_step (HasSlot g.classes o.shape) Keeps (slot_named g.classes o.shape field) _ (named-slot g.classes o.shape field) (λ s has. slot_keeps to o s found))

  load_at_keeps : (to from : List ℕ) (index : ℕ) → IfOk (load_element p to from index) Keeps
  load_at_keeps to from index =
      at_object from _ (λ o found.
      next_step (HasSlot g.classes o.shape) Keeps (slot_indexed o.shape index) _ (indexed-slot g.classes o.shape index) (λ s has. slot_keeps to o s found))

  -- drop and show
  drop_keeps : (root : List ℕ) → IfOk (drop_held p root) Keeps
  drop_keeps root =
      next_step IsThere Keeps (held_by_root g root) _ (held-aims ns g root roots)
      (λ h there. roots_formed g (drop_root g.roots root) (roots_aim-drop ns g.roots root roots) (names-drop g.roots root formed.root_names) formed)

  show_keeps : (root : List ℕ) → IfOk (show_root p root) Keeps
  show_keeps root = next_step IsThere Keeps (held_by_root g root) _ (held-aims ns g root roots) (λ h there. formed)

  -- seal, gc and fork
  seal_keeps : (b : Bool) → Keeps (seal_if b p)
  seal_keeps true = formed
  seal_keeps false = sealed_formed g formed

  gc_keeps : (b : Bool) → g.sealed ≡ b → Keeps (gc_if b p)
  gc_keeps true e = collect_formed g e formed
  gc_keeps false e = formed

  fork_collected_keeps : g.sealed ≡ true → (b : Bool) → has_zygote_room (collect g) ≡ b → Keeps (fork_collected b p (collect g))
  fork_collected_keeps sealed true e = promoted_formed (collect g) sealed e (collect_formed g sealed formed)
  fork_collected_keeps sealed false e = collect_formed g sealed formed

  pub fork_keeps : g.sealed ≡ true → Keeps (fork_part p)
  fork_keeps e = fork_collected_keeps e (has_zygote_room (collect g)) refl

  -- dump
  dump_keeps : (b : Bool) → Keeps (dump_if b p)
  dump_keeps true = counted_formed g (dump_counted g).dumps formed
  dump_keeps false = formed

-- each command
pub act_keeps : (p : Part) (v : Verb) → HasFewFields v → IsFormed p.graph → IsFormed (act p v).part.graph
act_keeps p (verb.Class name parent fields) few formed =
    define_keeps p (define_class p.graph.classes name parent fields) formed (define-grows p.graph.classes name fields formed.classes few parent)
act_keeps p (verb.New root class) few formed = new_keeps p root formed class
act_keeps p (verb.Array root kind count) few formed = shape_keeps p root formed (Array kind count) (λ fits. fits)
act_keeps p (verb.Weak root referent) few formed = weak_keeps p root referent formed
act_keeps p (verb.Set root field v) few formed = effect_keeps p (set_field p root field v) formed (set_keeps p formed root field v)
act_keeps p (verb.Put root index v) few formed = effect_keeps p (put_element p root index v) formed (put_keeps p formed root index v)
act_keeps p (verb.Get root field) few formed = effect_keeps p (get_field p root field) formed (get_keeps p formed root field)
act_keeps p (verb.At root index) few formed = effect_keeps p (get_element p root index) formed (at_keeps p formed root index)
act_keeps p (verb.Copy to from) few formed = effect_keeps p (copy_root p to from) formed (copy_keeps p formed to from)
act_keeps p (verb.Load to from field) few formed = effect_keeps p (load_field p to from field) formed (load_keeps p formed to from field)
act_keeps p (verb.LoadAt to from index) few formed = effect_keeps p (load_element p to from index) formed (load_at_keeps p formed to from index)
act_keeps p (verb.Drop root) few formed = effect_keeps p (drop_held p root) formed (drop_keeps p formed root)
act_keeps p (verb.Show root) few formed = effect_keeps p (show_root p root) formed (show_keeps p formed root)
act_keeps p verb.Seal few formed = seal_keeps p formed p.graph.sealed
act_keeps p verb.Gc few formed = gc_keeps p formed p.graph.sealed refl
act_keeps p (verb.Fork child) few formed = formed
act_keeps p verb.Exit few formed = formed
act_keeps p verb.Free few formed = formed
act_keeps p verb.Pages few formed = formed
act_keeps p verb.Frames few formed = formed
act_keeps p verb.Dump few formed = dump_keeps p formed p.graph.sealed
