-- A graph with a new object is formed if it is with the root that is written last.
use Rattle.std.proofs.Common.{◌≡◌, ◌∙◌, ◌++◌, ◌∷◌, [], ℕ, ◌+◌, ◌≤◌, List, nat_eq, refl, ap, arith}
use Rattle.std.proofs.lemmas.Bool.{eq-eqb, ne_eqb}
use Rattle.class_layout.specs.ClassList.{Class}
use Rattle.heap_graph.specs.declared.names.Place.{Place}
use Rattle.heap_graph.specs.declared.names.Shape.{Shape}
use Rattle.heap_graph.specs.declared.names.Stored.{Stored}
use Rattle.heap_graph.specs.Allocation.{with_object}
use Rattle.heap_graph.specs.Formed.{AreObjects, AreRising, HoldsValues, IsFormed}
use Rattle.heap_graph.specs.Graph.{Graph, Object}
use Rattle.heap_graph.specs.Paths.{numbers}
use Rattle.heap_graph.proofs.LaidOut.{all-push}
use Rattle.heap_world.specs.Acts.{root_written, stored_in, stored_in_if, with_slot}
use Rattle.heap_world.proofs.FormedAims.{closed_from, closed_objects, closed_roots, objects_aim-more, objects_aim-push, roots_aim-more, AreIn, RootsAim}
use Rattle.heap_world.proofs.FormedKept.{formed_from}
use Rattle.heap_world.proofs.FormedNumbers.{in_pushed, rising-push}
use Rattle.heap_world.proofs.Placed.{placed_of}
use Rattle.heap_world.proofs.PlacedSame.{placed-same, AreSame}

-- the last object without its slots
bare-objects : (cs : List Class) (os : List Object) (o : Object) → AreObjects cs (os ++ o ∷ []) → AreObjects cs (os ++ record o { slots = [] } ∷ [])
bare-objects cs [] o h = (h.0, tt, tt)
bare-objects cs (x ∷ os) o h = (h.0, h.1, bare-objects cs os o h.2)

bare-same : (cs : List Class) (os : List Object) (o : Object) → AreSame cs cs (os ++ o ∷ []) (os ++ record o { slots = [] } ∷ [])
bare-same cs [] o = (record { number = refl; place = refl; bytes = refl; large = refl }, tt)
bare-same cs (x ∷ os) o = (record { number = refl; place = refl; bytes = refl; large = refl }, bare-same cs os o)

module _ (g : Graph) (root : List ℕ) (shape : Shape) (slots : List Stored) (place : Place) (formed : IsFormed g) (whole : IsFormed (root_written (with_object g shape slots place) root g.next)) where
  abbrev made : Object
  made = record { number = g.next; shape = shape; slots = slots; place = place }

  abbrev bare : Object
  bare = record { number = g.next; shape = shape; slots = []; place = place }

  -- the roots that were there hold what was there
  old-roots : (o : Object) → RootsAim (numbers (g.objects ++ o ∷ [])) g.roots
  old-roots o = roots_aim-more (numbers g.objects) (numbers (g.objects ++ o ∷ [])) (in_pushed g.objects o) g.roots (closed_roots g formed.closed)

  with-slots : IsFormed (with_object g shape slots place)
  with-slots = record {
    classes = formed.classes;
    numbers = whole.numbers;
    next = whole.next;
    objects = whole.objects;
    closed = closed_from (with_object g shape slots place) (old-roots made)
        (closed_objects (root_written (with_object g shape slots place) root g.next) whole.closed);
    budget = formed.budget;
    root_names = formed.root_names;
    values = whole.values;
    weak = whole.weak;
    before_seal = whole.before_seal;
    places = whole.places;
    turns = whole.turns;
    image = whole.image;
    image_fits = whole.image_fits;
    zygote = whole.zygote;
    zygote_fits = whole.zygote_fits;
    regions = whole.regions;
  }

  -- its slots say nothing of sizes and places
  without-slots : IsFormed (with_object g shape [] place)
  without-slots =
      let more : AreIn (numbers g.objects) (numbers (g.objects ++ bare ∷ [])) = in_pushed g.objects bare in
      formed_from (with_object g shape [] place)
      (record {
        classes = formed.classes;
        numbers = rising-push 0 g.next g.objects bare refl formed.numbers;
        next = whole.next;
        objects = bare-objects g.classes g.objects made whole.objects;
        closed = closed_from (with_object g shape [] place) (old-roots bare)
            (objects_aim-push (numbers (g.objects ++ bare ∷ [])) g.objects bare (objects_aim-more _ _ more g.objects (closed_objects g formed.closed)) tt);
        budget = formed.budget;
        root_names = formed.root_names;
        values = all-push HoldsValues g.objects bare formed.values tt;
      })
      (placed-same g.classes g.classes g.sealed g.budget (g.objects ++ made ∷ []) (g.objects ++ bare ∷ []) (bare-same g.classes g.objects made) (placed_of (with_object g shape slots place) with-slots))

pub new-formed : (g : Graph) (root : List ℕ) (shape : Shape) (slots : List Stored) (place : Place) → IsFormed g → IsFormed (root_written (with_object g shape slots place) root g.next)
    → IsFormed (with_object g shape slots place) × IsFormed (with_object g shape [] place)
new-formed g root shape slots place formed whole = (with-slots g root shape slots place formed whole, without-slots g root shape slots place formed whole)

-- a store to the last object, whose number is no other's
store-last : (low next : ℕ) (os : List Object) (o : Object) (new : Stored) → o.number ≡ next → AreRising low next os → stored_in (os ++ o ∷ []) next new ≡ os ++ stored_in_if (nat_eq o.number next) o new ∷ []
store-last low next [] o new e h = refl
store-last low next (x ∷ os) o new e h =
    ap (λ b. stored_in_if b x new ∷ stored_in (os ++ o ∷ []) next new) (ne_eqb x.number next (λ same. omega (arith, same, low-next (x.number + 1) next os h.1)))
    ∙ ap (λ xs. x ∷ xs) (store-last (x.number + 1) next os o new e h.1)
  where
    low-next : (low next : ℕ) (os : List Object) → AreRising low next os → low ≤ next
    low-next low next [] h = h
    low-next low next (o ∷ os) h = omega (arith, h.0, low-next (o.number + 1) next os h.1)

pub new-stored : (g : Graph) (shape : Shape) (slot : Stored) (place : Place) → IsFormed g → with_slot (with_object g shape [] place) g.next slot ≡ with_object g shape (slot ∷ []) place
new-stored g shape slot place formed =
    let bare : Object = record { number = g.next; shape = shape; slots = []; place = place } in
    ap (λ os. record (with_object g shape [] place) { objects = os })
    (store-last 0 g.next g.objects bare slot refl formed.numbers
    ∙ ap (λ b. g.objects ++ stored_in_if b bare slot ∷ []) (eq-eqb g.next g.next refl))
