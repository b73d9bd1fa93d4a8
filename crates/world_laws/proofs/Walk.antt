-- The commands of a process, walked once: what holds of each kind of effect holds of each command's.
use Rattle.std.proofs.Common.{◌≡◌, ℕ, ◌+◌, Bool, true, false, List, [], ◌∷◌, Option, None, Some, Result, Ok, Err, IfOk, length, nat_le, nat_lt, refl}
use Rattle.model_numbers.specs.Numbers.{image_base, image_length, number_limit}
use Rattle.class_layout.specs.declared.classes.DefineError.{DefineError}
use Rattle.class_layout.specs.declared.classes.DefineError.TheVariants as define
use Rattle.class_layout.specs.declared.kind.Kind.{Kind}
use Rattle.class_layout.specs.declared.kind.FieldAt.{FieldAt}
use Rattle.class_layout.specs.declared.kind.Value.{Value}
use Rattle.class_layout.specs.declared.kind.Value.TheVariants as value
use Rattle.class_layout.specs.ClassList.{Class, define_class, layout_of, number_of}
use Rattle.class_layout.specs.Kinds.{in_range, is_ref}
use Rattle.class_layout.specs.Layout.{field_named}
use Rattle.heap_graph.specs.declared.names.Held.{Held}
use Rattle.heap_graph.specs.declared.names.Held.TheVariants as held
use Rattle.heap_graph.specs.declared.names.Place.TheVariants as place
use Rattle.heap_graph.specs.declared.names.Root.{Root}
use Rattle.heap_graph.specs.declared.names.Shape.{Shape}
use Rattle.heap_graph.specs.declared.names.Shape.TheVariants.{Instance, Array}
use Rattle.heap_graph.specs.declared.names.Content.{Content}
use Rattle.heap_graph.specs.declared.names.Content.TheVariants as content
use Rattle.heap_graph.specs.declared.names.Stored.{Stored}
use Rattle.heap_graph.specs.Allocation.{Allocated, has_room, make, make_by, make_if, make_if_collected, make_in_image, with_heap_object, with_object}
use Rattle.heap_graph.specs.Allocation as allocated
use Rattle.heap_graph.specs.Collection.{collect}
use Rattle.heap_graph.specs.Fork.{has_zygote_room}
use Rattle.heap_graph.specs.Graph.{Graph, Object, image_fill, object_at, root_at}
use Rattle.heap_graph.specs.Sizes.{is_too_large, size_in}
use Rattle.heap_graph.specs.Values.{held_of, slot_of, value_at}
use Rattle.heap_world.specs.declared.command.Verb.{Verb}
use Rattle.heap_world.specs.declared.command.Verb.TheVariants as verb
use Rattle.heap_world.specs.declared.reply.Refusal.{Refusal}
use Rattle.heap_world.specs.declared.reply.Reply.{Reply}
use Rattle.heap_world.specs.declared.reply.Reply.TheVariants as reply
use Rattle.heap_world.specs.Acts.{act, after_define, after_make, copy_root, define_refusal, drop_held, dump_counted, dump_if, dump_to, fork_collected, fork_part, gc_if, gc_to, get_element, get_field, held_reply, load_element, load_field, load_slot, make_numbered, make_shape, make_sized, make_slots, make_weak, new_of_class, put_element, referent_at, seal_if, set_field, show_root, shown, shown_object, slot_reply, store}
use Rattle.heap_world.specs.Effect.{Effect, becomes, effect_or, is_refusal, refuses, tells}
use Rattle.heap_graph.specs.Formed.{FitsKind, HasSlot, IsFormed}
use Rattle.heap_world.specs.Commands.{HasFewFields}
use Rattle.heap_world.specs.Part.{Part}
use Rattle.heap_world.specs.Slots.{◌>>=◌, element_if, field_or_refusal, held_by_root, named_by, number_if_fits, object_held, object_or_refusal, only_reference, reference_if, root_or_refusal, slot_indexed, slot_named, stored_value}
use Rattle.heap_world.proofs.FormedDefine.{IsGrown, define-grows}
use Rattle.heap_world.proofs.FormedStores.{indexed-slot, named-slot, object-found}
use Rattle.heap_world.proofs.FormedValues.{stored-fits}
use Rattle.world_laws.specs.Effects.{is_full, is_seal}

-- the kinds of effects that a command has
pub record Covers (p : Part) (v : Verb) (P : Effect → Type 0) : Type 0 where
  pub telling : (r : Reply) → is_refusal r ≡ false → P (tells p r)
  pub refusing : (why : Refusal) → is_full why ≡ false → P (refuses p why)
  pub define : (cs : List Class) → (HasFewFields v → IsFormed p.graph → IsGrown p.graph.classes cs) → P (becomes p (record p.graph { classes = cs }) (reply.Class (length p.graph.classes)))
  pub roots : (rs : List Root) (r : Reply) → is_refusal r ≡ false → P (becomes p (record p.graph { roots = rs }) r)
  pub heap : (root : List ℕ) (shape : Shape) (slots : List Stored) → p.graph.sealed ≡ true → P (after_make p root shape (allocated.Made (with_heap_object p.graph shape slots) false))
  pub again : (root : List ℕ) (shape : Shape) (slots : List Stored) → p.graph.sealed ≡ true → P (after_make p root shape (allocated.Made (with_heap_object (collect p.graph) shape slots) true))
  pub full : (root : List ℕ) (shape : Shape) (free needed : ℕ) → p.graph.sealed ≡ true → P (after_make p root shape (allocated.HeapFull (collect p.graph) free needed))
  pub image : (root : List ℕ) (shape : Shape) (slots : List Stored) → p.graph.sealed ≡ false
      → P (after_make p root shape (allocated.Made (with_object p.graph shape slots (place.Image (image_base + image_fill p.graph))) false))
  pub storing : (o : Object) (s : FieldAt) (new : Content) → object_at p.graph o.number ≡ Some o → HasSlot p.graph.classes o.shape s → FitsKind s.kind new → P (store p o s new)
  pub seal : is_seal v ≡ true → p.graph.sealed ≡ false → P (tells (record p { graph = record p.graph { sealed = true }; touched = []; stored = [] }) reply.Done)
  pub gc : p.graph.sealed ≡ true → P (gc_to p (collect p.graph))
  pub exit : P (tells (record p { exited = true }) reply.Done)
  pub dump : p.graph.sealed ≡ true → P (dump_to p (dump_counted p.graph))

-- what a step gives, or a refusal that leaves the part
abbrev Passes : {A : Type 0} → (A → Type 0) → Result A Refusal → Type 0
Passes Q (Ok x) = Q x
Passes Q (Err why) = is_full why ≡ false

-- what is known of a result where it is one
both : {A : Type 0} (Q : A → Type 0) (r : Result A Refusal) → IfOk r Q → Passes (λ x. Unit {0}) r → Passes Q r
both Q (Ok x) h n = h
both Q (Err why) h n = n

next : {A B : Type 0} (Q : A → Type 0) (R : B → Type 0) (r : Result A Refusal) (f : A → Result B Refusal) → Passes Q r → ((x : A) → Q x → Passes R (f x)) → Passes R (r >>= f)
next Q R (Ok x) f h go = go x h
next Q R (Err why) f h go = h

abbrev Anything : {A : Type 0} → A → Type 0
Anything x = Unit {0}

root_passes : (g : Graph) (name : List ℕ) → Passes Anything (held_by_root g name)
root_passes g name = by (root_at g.roots name)
  where
    by : (r : Option Root) → Passes Anything (root_or_refusal r)
    by None = refl
    by (Some r) = tt

named_passes : (g : Graph) (v : Value) → Passes Anything (named_by g v)
named_passes g (value.Number z) = tt
named_passes g value.Null = tt
named_passes g (value.Root name) = root_passes g name

object_passes : (g : Graph) (h : Held) → Passes (λ o. object_at g o.number ≡ Some o) (object_held g h)
object_passes g h = both (λ o. object_at g o.number ≡ Some o) (object_held g h) (object-found g h) (by h)
  where
    found : (o : Option Object) → Passes Anything (object_or_refusal o)
    found None = refl
    found (Some o) = tt

    by : (h : Held) → Passes Anything (object_held g h)
    by held.Null = refl
    by (held.Object n) = found (object_at g n)

field_passes : (cs : List Class) (shape : Shape) (name : List ℕ) → Passes (HasSlot cs shape) (slot_named cs shape name)
field_passes cs shape name = both (HasSlot cs shape) (slot_named cs shape name) (named-slot cs shape name) (by shape)
  where
    found : (o : Option FieldAt) → Passes Anything (field_or_refusal o)
    found None = refl
    found (Some o) = tt

    by : (shape : Shape) → Passes Anything (slot_named cs shape name)
    by (Instance class) = found (field_named (layout_of cs class) name)
    by (Array kind count) = refl

element_passes : (cs : List Class) (shape : Shape) (i : ℕ) → Passes (HasSlot cs shape) (slot_indexed shape i)
element_passes cs shape i = both (HasSlot cs shape) (slot_indexed shape i) (indexed-slot cs shape i) (by shape)
  where
    within : (b : Bool) (kind : Kind) → Passes Anything (element_if b kind i)
    within true kind = tt
    within false kind = refl

    by : (shape : Shape) → Passes Anything (slot_indexed shape i)
    by (Instance class) = refl
    by (Array kind count) = within (nat_lt i count) kind

stored_passes : (kind : Kind) (v : Value) (h : Held) → Passes (FitsKind kind) (stored_value kind v h)
stored_passes kind v h = both (FitsKind kind) (stored_value kind v h) (stored-fits kind v h) (by v)
  where
    number : (b : Bool) (z : _) → Passes Anything (number_if_fits b z)
    number true z = tt
    number false z = refl

    reference : (b : Bool) (h : Held) → Passes Anything (reference_if b h)
    reference true h = tt
    reference false h = refl

    by : (v : Value) → Passes Anything (stored_value kind v h)
    by (value.Number z) = number (in_range kind z) z
    by value.Null = reference (is_ref kind) held.Null
    by (value.Root name) = reference (is_ref kind) h

only_passes : (b : Bool) (h : Held) → Passes Anything (only_reference b h)
only_passes true h = tt
only_passes false h = refl

-- replies that tell something refuse nothing
slot_told : (v : Content) → is_refusal (slot_reply v) ≡ false
slot_told (content.Number z) = refl
slot_told content.Null = refl
slot_told (content.Object n) = refl

held_told : (h : Held) → is_refusal (held_reply h) ≡ false
held_told held.Null = refl
held_told (held.Object n) = refl

shown_told : (g : Graph) (h : Held) → is_refusal (shown g h) ≡ false
shown_told g held.Null = refl
shown_told g (held.Object n) = by (object_at g n)
  where
    by : (o : Option Object) → is_refusal (shown_object g.classes o) ≡ false
    by None = refl
    by (Some o) = refl

define_left : (why : DefineError) → is_full (define_refusal why) ≡ false
define_left define.Taken = refl
define_left define.NoSuper = refl
define_left define.Limit = refl
define_left define.FieldTaken = refl
define_left define.OutOfMemory = refl

module _ (p : Part) (v : Verb) (P : Effect → Type 0) (covers : Covers p v P) where
  abbrev g : Graph
  g = p.graph

  or_refused : (r : Result Effect Refusal) → Passes P r → P (effect_or p r)
  or_refused (Ok e) h = h
  or_refused (Err why) h = covers.refusing why h

  define_walk : (r : Result (List Class) DefineError) → (HasFewFields v → IsFormed g → IfOk r (IsGrown g.classes)) → P (after_define p r)
  define_walk (Ok cs) grown = covers.define cs grown
  define_walk (Err why) grown = covers.refusing (define_refusal why) (define_left why)

  module _ (root : List ℕ) where
    slots_walk : (shape : Shape) (slots : List Stored) → P (make_slots p root shape slots)
    slots_walk shape slots = numbered (nat_le number_limit g.next)
      where
        if_collected : (b : Bool) → g.sealed ≡ true → P (after_make p root shape (make_if_collected b (collect g) shape slots))
        if_collected true e = covers.again root shape slots e
        if_collected false e = covers.full root shape _ _ e

        if_room : (b : Bool) → g.sealed ≡ true → P (after_make p root shape (make_if b g shape slots))
        if_room true e = covers.heap root shape slots e
        if_room false e = if_collected (has_room (collect g) shape) e

        in_image : (b : Bool) → g.sealed ≡ false → P (after_make p root shape (make_in_image b g shape slots))
        in_image true e = covers.image root shape slots e
        in_image false e = covers.refusing _ refl

        sealed : (b : Bool) → g.sealed ≡ b → P (after_make p root shape (make_by b g shape slots))
        sealed true e = if_room (has_room g shape) e
        sealed false e = in_image (nat_le (image_fill g + size_in g.classes shape) image_length) e

        numbered : (b : Bool) → P (make_numbered b p root shape slots)
        numbered true = covers.refusing _ refl
        numbered false = sealed g.sealed refl

    shape_walk : (shape : Shape) → P (make_shape p root shape)
    shape_walk shape = by (is_too_large g.classes shape)
      where
        by : (b : Bool) → P (make_sized b p root shape)
        by true = covers.refusing _ refl
        by false = slots_walk shape []

    new_walk : (found : Option ℕ) → P (new_of_class p root found)
    new_walk None = covers.refusing _ refl
    new_walk (Some class) = shape_walk (Instance class)

    weak_walk : (r : Result Held Refusal) → Passes Anything r → P (make_weak p root r)
    weak_walk (Err why) h = covers.refusing why h
    weak_walk (Ok h) n = slots_walk (Instance 1) (record { at = referent_at; value = slot_of h } ∷ [])

  abbrev IsFound : Object → Type 0
  IsFound o = object_at g o.number ≡ Some o

  -- set and put
  store_walk : (o : Object) (s : FieldAt) (value : Value) (named : Held) → IsFound o → HasSlot g.classes o.shape s → Passes P (stored_value s.kind value named >>= (λ new. Ok (store p o s new)))
  store_walk o s value named found has =
      next (FitsKind s.kind) P (stored_value s.kind value named) (λ new. Ok (store p o s new)) (stored_passes s.kind value named) (λ new fits. covers.storing o s new found has fits)

  set_walk : (root field : List ℕ) (value : Value) → Passes P (set_field p root field value)
  set_walk root field value =
      next Anything P (held_by_root g root) _ (root_passes g root) (λ h _.
      next Anything P (named_by g value) _ (named_passes g value) (λ named _.
      next IsFound P (object_held g h) _ (object_passes g h) (λ o found.
      next (HasSlot g.classes o.shape) P (slot_named g.classes o.shape field) _ (field_passes g.classes o.shape field) (λ s has. store_walk o s value named found has))))

  put_walk : (root : List ℕ) (index : ℕ) (value : Value) → Passes P (put_element p root index value)
  put_walk root index value =
      next Anything P (held_by_root g root) _ (root_passes g root) (λ h _.
      next Anything P (named_by g value) _ (named_passes g value) (λ named _.
      next IsFound P (object_held g h) _ (object_passes g h) (λ o found.
      next (HasSlot g.classes o.shape) P (slot_indexed o.shape index) _ (element_passes g.classes o.shape index) (λ s has. store_walk o s value named found has))))

  -- what changes no object
  get_walk : (root field : List ℕ) → Passes P (get_field p root field)
  get_walk root field =
      next Anything P (held_by_root g root) _ (root_passes g root) (λ h _.
      next IsFound P (object_held g h) _ (object_passes g h) (λ o _.
      next (HasSlot g.classes o.shape) P (slot_named g.classes o.shape field) _ (field_passes g.classes o.shape field) (λ s _. covers.telling _ (slot_told (value_at o.slots s)))))

  at_walk : (root : List ℕ) (index : ℕ) → Passes P (get_element p root index)
  at_walk root index =
      next Anything P (held_by_root g root) _ (root_passes g root) (λ h _.
      next IsFound P (object_held g h) _ (object_passes g h) (λ o _.
      next (HasSlot g.classes o.shape) P (slot_indexed o.shape index) _ (element_passes g.classes o.shape index) (λ s _. covers.telling _ (slot_told (value_at o.slots s)))))

  show_walk : (root : List ℕ) → Passes P (show_root p root)
  show_walk root = next Anything P (held_by_root g root) _ (root_passes g root) (λ h _. covers.telling _ (shown_told g h))

  copy_walk : (to from : List ℕ) → Passes P (copy_root p to from)
  copy_walk to from = next Anything P (held_by_root g from) _ (root_passes g from) (λ h _. covers.roots _ reply.Done refl)

  load_walk : (to : List ℕ) (o : Object) (s : FieldAt) → Passes P (load_slot p to o s)
  load_walk to o s =
      next Anything P (only_reference (is_ref s.kind) (held_of (value_at o.slots s))) _ (only_passes (is_ref s.kind) (held_of (value_at o.slots s))) (λ h _. covers.roots _ (held_reply h) (held_told h))

  load_field_walk : (to from field : List ℕ) → Passes P (load_field p to from field)
  load_field_walk to from field =
      next Anything P (held_by_root g from) _ (root_passes g from) (λ h _.
      next IsFound P (object_held g h) _ (object_passes g h) (λ o _.
      next (HasSlot g.classes o.shape) P (slot_named g.classes o.shape field) _ (field_passes g.classes o.shape field) (λ s _. load_walk to o s)))

  load_element_walk : (to from : List ℕ) (index : ℕ) → Passes P (load_element p to from index)
  load_element_walk to from index =
      next Anything P (held_by_root g from) _ (root_passes g from) (λ h _.
      next IsFound P (object_held g h) _ (object_passes g h) (λ o _.
      next (HasSlot g.classes o.shape) P (slot_indexed o.shape index) _ (element_passes g.classes o.shape index) (λ s _. load_walk to o s)))

  drop_walk : (root : List ℕ) → Passes P (drop_held p root)
  drop_walk root = next Anything P (held_by_root g root) _ (root_passes g root) (λ h _. covers.roots _ reply.Done refl)

  -- seal, gc and dump
  seal_walk : is_seal v ≡ true → (b : Bool) → g.sealed ≡ b → P (seal_if b p)
  seal_walk is true e = covers.refusing _ refl
  seal_walk is false e = covers.seal is e

  gc_walk : (b : Bool) → g.sealed ≡ b → P (gc_if b p)
  gc_walk true e = covers.gc e
  gc_walk false e = covers.refusing _ refl

  dump_walk : (b : Bool) → g.sealed ≡ b → P (dump_if b p)
  dump_walk true e = covers.dump e
  dump_walk false e = covers.refusing _ refl

-- what covers all kinds holds of each command
pub act_walk : (p : Part) (v : Verb) (P : Effect → Type 0) → Covers p v P → P (act p v)
act_walk p (verb.Class name parent fields) P c = define_walk p _ P c (define_class p.graph.classes name parent fields) (λ few formed. define-grows p.graph.classes name fields formed.classes few parent)
act_walk p (verb.New root class) P c = new_walk p _ P c root (number_of p.graph.classes class)
act_walk p (verb.Array root kind count) P c = shape_walk p _ P c root (Array kind count)
act_walk p (verb.Weak root referent) P c = weak_walk p _ P c root (held_by_root p.graph referent) (root_passes p.graph referent)
act_walk p (verb.Set root field value) P c = or_refused p _ P c (set_field p root field value) (set_walk p _ P c root field value)
act_walk p (verb.Put root index value) P c = or_refused p _ P c (put_element p root index value) (put_walk p _ P c root index value)
act_walk p (verb.Get root field) P c = or_refused p _ P c (get_field p root field) (get_walk p _ P c root field)
act_walk p (verb.At root index) P c = or_refused p _ P c (get_element p root index) (at_walk p _ P c root index)
act_walk p (verb.Copy to from) P c = or_refused p _ P c (copy_root p to from) (copy_walk p _ P c to from)
act_walk p (verb.Load to from field) P c = or_refused p _ P c (load_field p to from field) (load_field_walk p _ P c to from field)
act_walk p (verb.LoadAt to from index) P c = or_refused p _ P c (load_element p to from index) (load_element_walk p _ P c to from index)
act_walk p (verb.Drop root) P c = or_refused p _ P c (drop_held p root) (drop_walk p _ P c root)
act_walk p (verb.Show root) P c = or_refused p _ P c (show_root p root) (show_walk p _ P c root)
act_walk p verb.Seal P c = seal_walk p _ P c refl p.graph.sealed refl
act_walk p verb.Gc P c = gc_walk p _ P c p.graph.sealed refl
act_walk p (verb.Fork child) P c = c.telling reply.Done refl
act_walk p verb.Exit P c = c.exit
act_walk p verb.Free P c = c.telling _ refl
act_walk p verb.Pages P c = c.telling _ refl
act_walk p verb.Frames P c = c.telling reply.Done refl
act_walk p verb.Dump P c = dump_walk p _ P c p.graph.sealed refl

-- and of a fork: it is done, or the zygote window is full
pub fork_walk : (p : Part) (P : Effect → Type 0) → (has_zygote_room (collect p.graph) ≡ true → P (fork_collected true p (collect p.graph)))
    → (has_zygote_room (collect p.graph) ≡ false → P (fork_collected false p (collect p.graph))) → P (fork_part p)
fork_walk p P done full = by (has_zygote_room (collect p.graph)) refl
  where
    by : (b : Bool) → has_zygote_room (collect p.graph) ≡ b → P (fork_collected b p (collect p.graph))
    by true e = done e
    by false e = full e
