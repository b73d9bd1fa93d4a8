-- What roots and slots hold is there: the same as IsClosed, root by root and slot by slot.
use Rattle.std.proofs.Common.{◌≡◌, ℕ, Bool, true, false, not, cond, inl, inr, List, [], ◌∷◌, ◌++◌, map, nat_eq, refl, sym, ap, ◌∙◌}
use Rattle.std.specs.List.{flat_map}
use Rattle.std.proofs.lemmas.Bool.{or_cases, or_left, or_right, eqb-true, eq-eqb}
use Rattle.std.proofs.lemmas.List.Folds.{list_any-append}
use Rattle.class_layout.specs.Names.{same_name}
use Rattle.heap_graph.specs.declared.names.Held.{Held}
use Rattle.heap_graph.specs.declared.names.Root.{Root}
use Rattle.heap_graph.specs.declared.names.Content.{Content}
use Rattle.heap_graph.specs.declared.names.Content.TheVariants as content
use Rattle.heap_graph.specs.declared.names.Stored.{Stored}
use Rattle.heap_graph.specs.Graph.{Graph, Object, write_first, write_root, drop_root}
use Rattle.heap_graph.specs.Paths.{IsClosed, numbers}
use Rattle.heap_graph.specs.Reach.{is_among}
use Rattle.heap_graph.specs.Values.{slot_of, with_target, targets, held_targets}

-- the object that a slot holds has one of the numbers
abbrev pub Aims : List ℕ → Content → Type 0
Aims ns (content.Number z) = Unit {0}
Aims ns content.Null = Unit {0}
Aims ns (content.Object n) = is_among ns n ≡ true

-- the same for each root, each slot of an object, and each slot of objects
abbrev pub RootsAim : List ℕ → List Root → Type 0
RootsAim ns [] = Unit {0}
RootsAim ns (r ∷ rs) = Aims ns (slot_of r.holds) × RootsAim ns rs

abbrev pub SlotsAim : List ℕ → List Stored → Type 0
SlotsAim ns [] = Unit {0}
SlotsAim ns (s ∷ ss) = Aims ns s.value × SlotsAim ns ss

abbrev pub ObjectsAim : List ℕ → List Object → Type 0
ObjectsAim ns [] = Unit {0}
ObjectsAim ns (o ∷ os) = SlotsAim ns o.slots × ObjectsAim ns os

-- each number of the first list is in the second
abbrev pub AreIn : List ℕ → List ℕ → Type 0
AreIn ms ns = (n : ℕ) → is_among ms n ≡ true → is_among ns n ≡ true

-- from a slot's target in front of others, and to it
aims_first : (ns : List ℕ) (v : Content) (ms : List ℕ) → AreIn (with_target v ms) ns → Aims ns v × AreIn ms ns
aims_first ns (content.Number z) ms h = (tt, h)
aims_first ns content.Null ms h = (tt, h)
aims_first ns (content.Object m) ms h =
    (h m (or_left (nat_eq m m) (is_among ms m) (eq-eqb m m refl)), λ n e. h n (or_right (nat_eq n m) (is_among ms n) e))

aims_before : (ns : List ℕ) (v : Content) (ms : List ℕ) → Aims ns v → AreIn ms ns → AreIn (with_target v ms) ns
aims_before ns (content.Number z) ms a h = h
aims_before ns content.Null ms a h = h
aims_before ns (content.Object m) ms a h = λ n e.
    elim (or_cases (nat_eq n m) (is_among ms n) e) [
      | inl here ↦ ap (is_among ns) (eqb-true n m here) ∙ a
      | inr later ↦ h n later
    ]

-- between roots and what they hold
pub roots_aim : (ns : List ℕ) (rs : List Root) → AreIn (held_targets (map (λ r. r.holds) rs)) ns → RootsAim ns rs
roots_aim ns [] h = tt
roots_aim ns (r ∷ rs) h =
    let first = aims_first ns (slot_of r.holds) (held_targets (map (λ r. r.holds) rs)) h in
    (first.0, roots_aim ns rs first.1)

roots_in : (ns : List ℕ) (rs : List Root) → RootsAim ns rs → AreIn (held_targets (map (λ r. r.holds) rs)) ns
roots_in ns [] a = λ n h. absurd (cc)
roots_in ns (r ∷ rs) a = aims_before ns (slot_of r.holds) (held_targets (map (λ r. r.holds) rs)) a.0 (roots_in ns rs a.1)

-- between slots and their targets
slots_aim : (ns : List ℕ) (ss : List Stored) → AreIn (targets ss) ns → SlotsAim ns ss
slots_aim ns [] h = tt
slots_aim ns (s ∷ ss) h =
    let first = aims_first ns s.value (targets ss) h in
    (first.0, slots_aim ns ss first.1)

slots_in : (ns : List ℕ) (ss : List Stored) → SlotsAim ns ss → AreIn (targets ss) ns
slots_in ns [] a = λ n h. absurd (cc)
slots_in ns (s ∷ ss) a = aims_before ns s.value (targets ss) a.0 (slots_in ns ss a.1)

-- between objects and their slots' targets
pub objects_aim : (ns : List ℕ) (os : List Object) → AreIn (flat_map (λ o. targets o.slots) os) ns → ObjectsAim ns os
objects_aim ns [] h = tt
objects_aim ns (o ∷ os) h =
    let later : List ℕ = flat_map (λ o. targets o.slots) os in (
      slots_aim ns o.slots (λ n e. h n (list_any-append (nat_eq n) (targets o.slots) later ∙ or_left (is_among (targets o.slots) n) (is_among later n) e)),
      objects_aim ns os (λ n e. h n (list_any-append (nat_eq n) (targets o.slots) later ∙ or_right (is_among (targets o.slots) n) (is_among later n) e)),
    )

objects_in : (ns : List ℕ) (os : List Object) → ObjectsAim ns os → AreIn (flat_map (λ o. targets o.slots) os) ns
objects_in ns [] a = λ n h. absurd (cc)
objects_in ns (o ∷ os) a = λ n h.
    let later : List ℕ = flat_map (λ o. targets o.slots) os in
    elim (or_cases (is_among (targets o.slots) n) (is_among later n) (sym (list_any-append (nat_eq n) (targets o.slots) later) ∙ h)) [
      | inl here ↦ slots_in ns o.slots a.0 n here
      | inr there ↦ objects_in ns os a.1 n there
    ]

-- what IsClosed says, root by root and object by object, and back
pub closed_roots : (g : Graph) → IsClosed g → RootsAim (numbers g.objects) g.roots
closed_roots g closed = roots_aim (numbers g.objects) g.roots closed.roots

pub closed_objects : (g : Graph) → IsClosed g → ObjectsAim (numbers g.objects) g.objects
closed_objects g closed = objects_aim (numbers g.objects) g.objects closed.slots

pub closed_from : (g : Graph) → RootsAim (numbers g.objects) g.roots → ObjectsAim (numbers g.objects) g.objects → IsClosed g
closed_from g roots objects = record { roots = roots_in (numbers g.objects) g.roots roots; slots = objects_in (numbers g.objects) g.objects objects }

module _ (ms ns : List ℕ) (more : AreIn ms ns) where
  -- among more numbers
  aims-more : (v : Content) → Aims ms v → Aims ns v
  aims-more (content.Number z) a = tt
  aims-more content.Null a = tt
  aims-more (content.Object n) a = more n a

  -- the same for each root, slot and object
  pub roots_aim-more : (rs : List Root) → RootsAim ms rs → RootsAim ns rs
  roots_aim-more [] a = tt
  roots_aim-more (r ∷ rs) a = (aims-more (slot_of r.holds) a.0, roots_aim-more rs a.1)

  pub slots_aim-more : (ss : List Stored) → SlotsAim ms ss → SlotsAim ns ss
  slots_aim-more [] a = tt
  slots_aim-more (s ∷ ss) a = (aims-more s.value a.0, slots_aim-more ss a.1)

  pub objects_aim-more : (os : List Object) → ObjectsAim ms os → ObjectsAim ns os
  objects_aim-more [] a = tt
  objects_aim-more (o ∷ os) a = (slots_aim-more o.slots a.0, objects_aim-more os a.1)

module _ (ns : List ℕ) where
  -- roots after one is written, and after one is dropped
  pub roots_aim-write : (rs : List Root) (name : List ℕ) (h : Held) → RootsAim ns rs → Aims ns (slot_of h) → RootsAim ns (write_root rs name h)
  roots_aim-write [] name h a new = (new, tt)
  roots_aim-write (r ∷ rs) name h a new = by (same_name r.name name) (roots_aim-write rs name h a.1 new)
    where
      by : (b : Bool) → RootsAim ns (write_root rs name h) → RootsAim ns (write_first b r name h rs (write_root rs name h))
      by true rest = (new, a.1)
      by false rest = (a.0, rest)

  pub roots_aim-drop : (rs : List Root) (name : List ℕ) → RootsAim ns rs → RootsAim ns (drop_root rs name)
  roots_aim-drop [] name a = tt
  roots_aim-drop (r ∷ rs) name a = by (not (same_name r.name name)) (roots_aim-drop rs name a.1)
    where
      by : (b : Bool) → RootsAim ns (drop_root rs name) → RootsAim ns (cond b (r ∷ drop_root rs name) (drop_root rs name))
      by true rest = (a.0, rest)
      by false rest = rest

  -- objects with one more
  pub objects_aim-push : (os : List Object) (o : Object) → ObjectsAim ns os → SlotsAim ns o.slots → ObjectsAim ns (os ++ o ∷ [])
  objects_aim-push [] o a new = (new, tt)
  objects_aim-push (x ∷ os) o a new = (a.0, objects_aim-push os o a.1 new)
