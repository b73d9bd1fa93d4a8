-- What the steps of a command find, where they refuse nothing.
use Rattle.std.proofs.Common.{◌≡◌, ℕ, Bool, true, false, cond, List, [], ◌∷◌, Option, None, Some, Result, Ok, Err, IfOk, nat_eq, nat_lt, refl, sym, ap, subst, ◌∙◌}
use Rattle.std.specs.List.{find}
use Rattle.std.proofs.lemmas.Bool.{eqb-true, ltb-true}
use Rattle.std.proofs.lemmas.Option.{same_Some, none-some}
use Rattle.class_layout.specs.declared.kind.Kind.{Kind}
use Rattle.class_layout.specs.declared.kind.FieldAt.{FieldAt}
use Rattle.class_layout.specs.declared.kind.Value.{Value}
use Rattle.class_layout.specs.declared.kind.Value.TheVariants as value
use Rattle.class_layout.specs.ClassList.{Class, layout_of}
use Rattle.class_layout.specs.Kinds.{is_ref, in_range}
use Rattle.class_layout.specs.Layout.{field_named}
use Rattle.class_layout.specs.Names.{same_name}
use Rattle.heap_graph.specs.declared.names.Shape.{Shape}
use Rattle.heap_graph.specs.declared.names.Shape.TheVariants.{Instance, Array}
use Rattle.heap_graph.specs.declared.names.Content.{Content}
use Rattle.heap_graph.specs.declared.names.Content.TheVariants as content
use Rattle.heap_graph.specs.declared.names.Held.{Held}
use Rattle.heap_graph.specs.declared.names.Held.TheVariants as held
use Rattle.heap_graph.specs.declared.names.Root.{Root}
use Rattle.heap_graph.specs.declared.names.Stored.{Stored}
use Rattle.heap_graph.specs.Graph.{Object, Graph, object_at, root_at}
use Rattle.heap_graph.specs.Values.{slot_of, held_of, empty_slot, value_if, value_at}
use Rattle.heap_world.specs.declared.reply.Refusal.{Refusal}
use Rattle.heap_graph.specs.Formed.{HasSlot}
use Rattle.heap_world.specs.Slots.{◌>>=◌, slot_named, slot_indexed, field_or_refusal, element_if, root_or_refusal, held_by_root, object_or_refusal, object_held, named_by, number_if_fits, reference_if, stored_value, only_reference}
use Rattle.heap_world.proofs.FormedAims.{Aims, RootsAim, SlotsAim, ObjectsAim}

-- a step, and what comes next
pub next_step : {A B : Type 0} (P : A → Type 0) (Q : B → Type 0) (r : Result A Refusal) (f : A → Result B Refusal) → IfOk r P → ((x : A) → P x → IfOk (f x) Q) → IfOk (r >>= f) Q
next_step P Q (Ok x) f h next = next x h
next_step P Q (Err e) f h next = tt

module _ (ns : List ℕ) where
  -- what a root holds
  root_found : (rs : List Root) (name : List ℕ) → RootsAim ns rs → IfOk (root_or_refusal (root_at rs name)) (λ h. Aims ns (slot_of h))
  root_found [] name a = tt
  root_found (r ∷ rs) name a = by (same_name r.name name) (root_found rs name a.1)
    where
      by : (b : Bool) → IfOk (root_or_refusal (root_at rs name)) (λ h. Aims ns (slot_of h)) → IfOk (root_or_refusal (cond b (Some r) (root_at rs name))) (λ h. Aims ns (slot_of h))
      by true rest = a.0
      by false rest = rest

  pub held-aims : (g : Graph) (name : List ℕ) → RootsAim ns g.roots → IfOk (held_by_root g name) (λ h. Aims ns (slot_of h))
  held-aims g name a = root_found g.roots name a

  -- what a value names
  pub named-aims : (g : Graph) (v : Value) → RootsAim ns g.roots → IfOk (named_by g v) (λ h. Aims ns (slot_of h))
  named-aims g (value.Number z) a = tt
  named-aims g value.Null a = tt
  named-aims g (value.Root name) a = held-aims g name a

  -- what a value stores
  pub stored-aims : (kind : Kind) (v : Value) (h : Held) → Aims ns (slot_of h) → IfOk (stored_value kind v h) (Aims ns)
  stored-aims kind (value.Number z) h a = by (in_range kind z)
    where
      by : (b : Bool) → IfOk (number_if_fits b z) (Aims ns)
      by true = tt
      by false = tt
  stored-aims kind value.Null h a = by (is_ref kind)
    where
      by : (b : Bool) → IfOk (reference_if b held.Null) (Aims ns)
      by true = tt
      by false = tt
  stored-aims kind (value.Root name) h a = by (is_ref kind)
    where
      by : (b : Bool) → IfOk (reference_if b h) (Aims ns)
      by true = a
      by false = tt

  -- what a slot of an object holds
  value-aims : (ss : List Stored) (at : FieldAt) → SlotsAim ns ss → Aims ns (value_at ss at)
  value-aims [] at a = by (is_ref at.kind)
    where
      by : (b : Bool) → Aims ns (empty_slot b)
      by true = tt
      by false = tt
  value-aims (s ∷ ss) at a = by (nat_eq s.at.offset at.offset) (value-aims ss at a.1)
    where
      by : (b : Bool) → Aims ns (value_at ss at) → Aims ns (value_if b s.value (value_at ss at))
      by true rest = a.0
      by false rest = rest

  -- and the reference in it
  slot-held : (v : Content) → Aims ns v → Aims ns (slot_of (held_of v))
  slot-held (content.Number z) a = tt
  slot-held content.Null a = tt
  slot-held (content.Object n) a = a

  -- what a load takes from it
  pub loaded-aims : (o : Object) (at : FieldAt) → SlotsAim ns o.slots → IfOk (only_reference (is_ref at.kind) (held_of (value_at o.slots at))) (λ h. Aims ns (slot_of h))
  loaded-aims o at a = by (is_ref at.kind)
    where
      by : (b : Bool) → IfOk (only_reference b (held_of (value_at o.slots at))) (λ h. Aims ns (slot_of h))
      by true = slot-held (value_at o.slots at) (value-aims o.slots at a)
      by false = tt

  -- the slots of an object that is found
  pub found-aims : (os : List Object) (n : ℕ) (o : Object) → ObjectsAim ns os → find (λ x. nat_eq x.number n) os ≡ Some o → SlotsAim ns o.slots
  found-aims [] n o a e = absurd (none-some o e)
  found-aims (x ∷ os) n o a e = by (nat_eq x.number n) e (found-aims os n o a.1)
    where
      by : (b : Bool) → cond b (Some x) (find (λ x. nat_eq x.number n) os) ≡ Some o → (find (λ x. nat_eq x.number n) os ≡ Some o → SlotsAim ns o.slots) → SlotsAim ns o.slots
      by true e rest = let P : Object → Type 0 = λ y. SlotsAim ns y.slots in subst P (same_Some x o e) a.0
      by false e rest = rest e

-- an object that is found has the number
found-number : (os : List Object) (n : ℕ) (o : Object) → find (λ x. nat_eq x.number n) os ≡ Some o → o.number ≡ n
found-number [] n o e = absurd (none-some o e)
found-number (x ∷ os) n o e = by (nat_eq x.number n) refl e (found-number os n o)
  where
    by : (b : Bool) → nat_eq x.number n ≡ b → cond b (Some x) (find (λ x. nat_eq x.number n) os) ≡ Some o → (find (λ x. nat_eq x.number n) os ≡ Some o → o.number ≡ n) → o.number ≡ n
    by true same e rest = ap (λ y. y.number) (sym (same_Some x o e)) ∙ eqb-true x.number n same
    by false same e rest = rest e

-- the object that is held is the one of its number
pub object-found : (g : Graph) (h : Held) → IfOk (object_held g h) (λ o. object_at g o.number ≡ Some o)
object-found g held.Null = tt
object-found g (held.Object n) = by (object_at g n) refl
  where
    by : (found : Option Object) → object_at g n ≡ found → IfOk (object_or_refusal found) (λ o. object_at g o.number ≡ Some o)
    by None e = tt
    by (Some o) e = ap (object_at g) (found-number g.objects n o e) ∙ e

-- a field or an element that is found is a slot of the shape
pub named-slot : (cs : List Class) (shape : Shape) (name : List ℕ) → IfOk (slot_named cs shape name) (HasSlot cs shape)
named-slot cs (Instance class) name = by (field_named (layout_of cs class) name) refl
  where
    by : (found : Option FieldAt) → field_named (layout_of cs class) name ≡ found → IfOk (field_or_refusal found) (HasSlot cs (Instance class))
    by None e = tt
    by (Some at) e = (name, e)
named-slot cs (Array kind count) name = tt

pub indexed-slot : (cs : List Class) (shape : Shape) (i : ℕ) → IfOk (slot_indexed shape i) (HasSlot cs shape)
indexed-slot cs (Instance class) i = tt
indexed-slot cs (Array kind count) i = by (nat_lt i count) refl
  where
    by : (b : Bool) → nat_lt i count ≡ b → IfOk (element_if b kind i) (HasSlot cs (Array kind count))
    by true e = (i, ltb-true i count e, refl)
    by false e = tt
