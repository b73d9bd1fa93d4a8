-- A graph stays formed by each change that a command makes.
use Rattle.std.proofs.Common.{◌≡◌, ℕ, ◌+◌, ◌<◌, ◌≤◌, true, false, List, [], ◌∷◌, ◌++◌, Some, map, filter, refl, sym, ap, subst, ◌∙◌, arith}
use Rattle.std.specs.List.{AllByRecursion, IsDistinct}
use Rattle.std.proofs.lemmas.Bool.{leb-true, or_parts}
use Rattle.model_numbers.specs.Numbers.{zygote_length, region_bytes, page_bytes, most_regions, number_limit}
use Rattle.class_layout.specs.ClassList.{Class, IsClassList, builtin_classes}
use Rattle.class_layout.proofs.ClassLists.{IsClassList-builtin}
use Rattle.class_layout.specs.Kinds.{next_multiple}
use Rattle.heap_graph.specs.declared.names.Shape.{Shape}
use Rattle.heap_graph.specs.declared.names.Place.{Place}
use Rattle.heap_graph.specs.declared.names.Root.{Root}
use Rattle.heap_graph.specs.declared.names.Held.{Held}
use Rattle.heap_graph.specs.declared.names.Held.TheVariants as held
use Rattle.heap_graph.specs.declared.names.Stored.{Stored}
use Rattle.heap_graph.specs.Allocation.{with_object}
use Rattle.heap_graph.specs.Collection.{cleared, is_kept, collect}
use Rattle.heap_graph.specs.Fork.{has_zygote_room, promotion_start, promotion_bytes, promoted}
use Rattle.heap_graph.specs.Graph.{Graph, Object, first_graph, is_immune, object_at, write_root}
use Rattle.heap_graph.specs.Paths.{IsClosed, numbers}
use Rattle.heap_graph.specs.Reach.{is_among, reached}
use Rattle.heap_graph.specs.Sizes.{parts_for}
use Rattle.heap_graph.specs.Values.{slot_of}
use Rattle.heap_graph.proofs.Kept.{nothing_dangles}
use Rattle.heap_graph.proofs.Packing.{used_no_more}
use Rattle.heap_world.specs.Acts.{with_slot, root_written}
use Rattle.heap_graph.specs.Formed.{IsFormed, AreObjects, AreRising, AreSlots, FitsKind, HasSlot, HoldsValues, IsShape}
use Rattle.heap_world.proofs.FormedAims.{Aims, RootsAim, SlotsAim, ObjectsAim, AreIn, closed_roots, closed_objects, closed_from, roots_aim-more, slots_aim-more, objects_aim-more, roots_aim-write, objects_aim-push}
use Rattle.heap_world.proofs.FormedDefine.{IsGrown}
use Rattle.heap_world.proofs.FormedNumbers.{rising-same, rising-filter, rising-push, numbers-stored_in, numbers-cleared, numbers-promoted, in_pushed, last_pushed}
use Rattle.heap_world.proofs.FormedSlots.{objects-grown, objects-filter, objects-cleared, objects-promoted, objects-push, objects-stored, objects_aim-stored, objects_aim-promoted}
use Rattle.heap_world.proofs.FormedValues.{AreValues, SameNamed, names-write, values-cleared, values-promoted, values-stored}
use Rattle.heap_graph.proofs.LaidOut.{all-push}
use Rattle.heap_world.proofs.Placed.{IsPlaced, costs-is, fill-is, placed_of, top-is, used-is}
use Rattle.heap_world.proofs.PlacedFilter.{all-filter, placed-filter}
use Rattle.heap_world.proofs.PlacedFork.{placed-promoted, young-sum}
use Rattle.heap_world.proofs.Referents.{referents-weak}
use Rattle.heap_world.proofs.PlacedSame.{cleared-same, end-same, grown-same, placed-same, stored-same}

-- what a formed graph says, but for the places
pub record IsCore (g : Graph) : Type 0 where
  pub classes : IsClassList g.classes
  pub numbers : AreRising 0 g.next g.objects
  pub next : g.next ≤ number_limit
  pub objects : AreObjects g.classes g.objects
  pub closed : IsClosed g
  pub budget : g.budget ≤ most_regions
  pub root_names : IsDistinct SameNamed g.roots
  pub values : AllByRecursion HoldsValues g.objects

-- with what it says of them
pub formed_from : (g : Graph) → IsCore g → IsPlaced g.classes g.sealed g.budget g.objects → IsFormed g
formed_from g core placed = record {
  classes = core.classes;
  numbers = core.numbers;
  next = core.next;
  objects = core.objects;
  closed = core.closed;
  budget = core.budget;
  root_names = core.root_names;
  values = core.values;
  weak = referents-weak g.classes core.classes g.objects core.objects;
  before_seal = placed.before_seal;
  places = placed.places;
  turns = placed.turns;
  image = placed.image;
  image_fits = omega (arith, fill-is g, placed.image_fits);
  zygote = placed.zygote;
  zygote_fits = omega (arith, top-is g.classes g.objects placed.zygote, placed.zygote_fits);
  regions = omega (arith, used-is g, costs-is g, placed.regions);
}

-- more classes
pub classes_formed : (g : Graph) (ds : List Class) → IsGrown g.classes ds → IsFormed g → IsFormed (record g { classes = ds })
classes_formed g ds grown formed =
    let P : List Class → Type 0 = λ cs. AreObjects cs g.objects in
    let Q : List Class → Type 0 = λ cs. IsPlaced cs g.sealed g.budget g.objects in
    let core : IsCore (record g { classes = ds }) =
    record {
      classes = grown.list;
      numbers = formed.numbers;
      next = formed.next;
      objects = subst P (sym grown.same) (objects-grown g.classes grown.added g.objects formed.objects);
      closed = record { roots = formed.closed.roots; slots = formed.closed.slots };
      budget = formed.budget;
      root_names = formed.root_names;
      values = formed.values;
    }
    in
    let same = grown-same g.classes grown.added g.objects formed.objects in
    formed_from (record g { classes = ds }) core
    (subst Q (sym grown.same) (placed-same g.classes (g.classes ++ grown.added) g.sealed g.budget g.objects g.objects same (placed_of g formed)))

-- other roots
pub roots_formed : (g : Graph) (rs : List Root) → RootsAim (numbers g.objects) rs → IsDistinct SameNamed rs → IsFormed g → IsFormed (record g { roots = rs })
roots_formed g rs roots names formed =
    let core : IsCore (record g { roots = rs }) =
    record {
      classes = formed.classes;
      numbers = formed.numbers;
      next = formed.next;
      objects = formed.objects;
      closed = closed_from (record g { roots = rs }) roots (closed_objects g formed.closed);
      budget = formed.budget;
      root_names = names;
      values = formed.values;
    }
    in formed_from (record g { roots = rs }) core (placed_of g formed)

-- a root holds what is there
pub write_formed : (g : Graph) (name : List ℕ) (h : Held) → Aims (numbers g.objects) (slot_of h) → IsFormed g → IsFormed (record g { roots = write_root g.roots name h })
write_formed g name h a formed =
    roots_formed g (write_root g.roots name h) (roots_aim-write (numbers g.objects) g.roots name h (closed_roots g formed.closed) a) (names-write g.roots name h formed.root_names) formed

-- a sealed graph's places
sealed-placed : (g : Graph) → IsFormed g → IsPlaced g.classes true g.budget g.objects
sealed-placed g formed =
    let placed = placed_of g formed in
    record {
      before_seal = λ e. cc;
      places = placed.places;
      turns = placed.turns;
      image = placed.image;
      image_fits = placed.image_fits;
      zygote = placed.zygote;
      zygote_fits = placed.zygote_fits;
      regions = placed.regions;
    }

-- the seal
pub sealed_formed : (g : Graph) → IsFormed g → IsFormed (record g { sealed = true })
sealed_formed g formed =
    let core : IsCore (record g { sealed = true }) =
    record {
      classes = formed.classes;
      numbers = formed.numbers;
      next = formed.next;
      objects = formed.objects;
      closed = record { roots = formed.closed.roots; slots = formed.closed.slots };
      budget = formed.budget;
      root_names = formed.root_names;
      values = formed.values;
    }
    in formed_from (record g { sealed = true }) core (sealed-placed g formed)

-- the count of dumps is nothing to the rest of the graph
pub counted_formed : (g : Graph) (n : ℕ) → IsFormed g → IsFormed (record g { dumps = n })
counted_formed g n formed =
    let core : IsCore (record g { dumps = n }) =
    record {
      classes = formed.classes;
      numbers = formed.numbers;
      next = formed.next;
      objects = formed.objects;
      closed = record { roots = formed.closed.roots; slots = formed.closed.slots };
      budget = formed.budget;
      root_names = formed.root_names;
      values = formed.values;
    }
    in formed_from (record g { dumps = n }) core (placed_of g formed)

-- a child
pub child_formed : (g : Graph) → IsFormed g → IsFormed (record g { dumps = 0 })
child_formed g formed = counted_formed g 0 formed

-- what a collection of a sealed graph doesn't keep isn't immune
pub loose-dropped : (g : Graph) → g.sealed ≡ true → (o : Object) → is_kept g.sealed (reached g) o ≡ false → is_immune true o.place ≡ false
loose-dropped g sealed o e = ap (λ b. is_immune b o.place) (sym sealed) ∙ (or_parts (is_immune g.sealed o.place) (is_among (reached g) o.number) e).0

-- a collection
collect_placed : (g : Graph) → g.sealed ≡ true → IsFormed g → IsPlaced g.classes g.sealed g.budget (collect g).objects
collect_placed g sealed formed =
    let keep = is_kept g.sealed (reached g) in
    let kept : List Object = filter keep g.objects in
    let after : List Object = map (cleared (numbers kept)) kept in
    let same = cleared-same g.classes (numbers kept) kept in
    let ends = ap (parts_for region_bytes) (end-same g.classes g.classes 0 kept after same) in
    let placed = placed-filter g.classes keep (loose-dropped g sealed) g.budget g.objects (omega (arith, used_no_more g, used-is g, used-is (collect g), ends)) (sealed-placed g formed) in
    subst (λ b. IsPlaced g.classes b g.budget after) (sym sealed) (placed-same g.classes g.classes true g.budget kept after same placed)

pub collect_formed : (g : Graph) → g.sealed ≡ true → IsFormed g → IsFormed (collect g)
collect_formed g sealed formed =
    let kept : List Object = filter (is_kept g.sealed (reached g)) g.objects in
    let core : IsCore (collect g) =
    record {
      classes = formed.classes;
      numbers = rising-same 0 g.next kept (collect g).objects (numbers-cleared (numbers kept) kept) (rising-filter (is_kept g.sealed (reached g)) 0 g.next g.objects formed.numbers);
      next = formed.next;
      objects = objects-cleared g.classes (numbers kept) kept (objects-filter g.classes (is_kept g.sealed (reached g)) g.objects formed.objects);
      closed = nothing_dangles g formed.closed;
      budget = formed.budget;
      root_names = formed.root_names;
      values = values-cleared (numbers kept) kept (all-filter HoldsValues (is_kept g.sealed (reached g)) g.objects formed.values);
    }
    in formed_from (collect g) core (collect_placed g sealed formed)

-- a promotion
promoted_placed : (g : Graph) → g.sealed ≡ true → has_zygote_room g ≡ true → IsFormed g → IsPlaced g.classes g.sealed g.budget (promoted g).objects
promoted_placed g sealed room formed =
    let fits : promotion_start g + promotion_bytes g ≤ zygote_length = leb-true (promotion_start g + promotion_bytes g) zygote_length room in
    let start = ap (next_multiple page_bytes) (sym (top-is g.classes g.objects formed.zygote)) in
    subst (λ b. IsPlaced g.classes b g.budget (promoted g).objects) (sym sealed)
    (placed-promoted g.classes g.budget (promotion_start g) g.objects start (omega (arith, fits, young-sum g.classes g.objects)) (sealed-placed g formed))

pub promoted_formed : (g : Graph) → g.sealed ≡ true → has_zygote_room g ≡ true → IsFormed g → IsFormed (promoted g)
promoted_formed g sealed room formed =
    let e : numbers (promoted g).objects ≡ numbers g.objects = numbers-promoted g.classes (promotion_start g) g.objects in
    let R : List ℕ → Type 0 = λ ns. RootsAim ns g.roots in
    let O : List ℕ → Type 0 = λ ns. ObjectsAim ns (promoted g).objects in
    let core : IsCore (promoted g) =
    record {
      classes = formed.classes;
      numbers = rising-same 0 g.next g.objects (promoted g).objects e formed.numbers;
      next = formed.next;
      objects = objects-promoted g.classes g.classes (promotion_start g) g.objects formed.objects;
      closed = closed_from (promoted g) (subst R (sym e) (closed_roots g formed.closed))
          (subst O (sym e) (objects_aim-promoted (numbers g.objects) g.classes (promotion_start g) g.objects (closed_objects g formed.closed)));
      budget = formed.budget;
      root_names = formed.root_names;
      values = values-promoted g.classes (promotion_start g) g.objects formed.values;
    }
    in formed_from (promoted g) core (promoted_placed g sealed room formed)

-- a store
pub store_formed : (g : Graph) (o : Object) (new : Stored) → object_at g o.number ≡ Some o → HasSlot g.classes o.shape new.at → Aims (numbers g.objects) new.value → FitsKind new.at.kind new.value → IsFormed g
    → IsFormed (with_slot g o.number new)
store_formed g o new found has value fits formed =
    let after : Graph = with_slot g o.number new in
    let e : numbers after.objects ≡ numbers g.objects = numbers-stored_in g.objects o.number new in
    let R : List ℕ → Type 0 = λ ns. RootsAim ns g.roots in
    let O : List ℕ → Type 0 = λ ns. ObjectsAim ns after.objects in
    let core : IsCore after =
    record {
      classes = formed.classes;
      numbers = rising-same 0 g.next g.objects after.objects e formed.numbers;
      next = formed.next;
      objects = objects-stored g.classes 0 g.next g.objects o.number o new formed.numbers found has formed.objects;
      closed = closed_from after (subst R (sym e) (closed_roots g formed.closed))
          (subst O (sym e) (objects_aim-stored (numbers g.objects) g.objects o.number new (closed_objects g formed.closed) value));
      budget = formed.budget;
      root_names = formed.root_names;
      values = values-stored g.objects o.number new fits formed.values;
    }
    in formed_from after core (placed-same g.classes g.classes g.sealed g.budget g.objects after.objects (stored-same g.classes g.objects o.number new) (placed_of g formed))

-- one more object, which a root holds then
module _ (g : Graph) (shape : Shape) (slots : List Stored) (place : Place) (room : g.next < number_limit) (is : IsShape g.classes shape) (are : AreSlots g.classes shape slots) (aims : SlotsAim (numbers g.objects) slots)
    (fit : AreValues slots) (formed : IsFormed g) where
  -- the new object
  abbrev pub made : Object
  made = record { number = g.next; shape = shape; slots = slots; place = place }

  -- the graph with it, before and after a root holds it
  object_formed : IsPlaced g.classes g.sealed g.budget (g.objects ++ made ∷ []) → IsFormed (with_object g shape slots place)
  object_formed placed =
      let more : AreIn (numbers g.objects) (numbers (g.objects ++ made ∷ [])) = in_pushed g.objects made in
      let core : IsCore (with_object g shape slots place) =
      record {
        classes = formed.classes;
        numbers = rising-push 0 g.next g.objects made refl formed.numbers;
        next = omega (arith, room);
        objects = objects-push g.classes g.objects made formed.objects is are;
        closed = closed_from (with_object g shape slots place) (roots_aim-more _ _ more g.roots (closed_roots g formed.closed))
            (objects_aim-push (numbers (g.objects ++ made ∷ [])) g.objects made (objects_aim-more _ _ more g.objects (closed_objects g formed.closed)) (slots_aim-more _ _ more slots aims));
        budget = formed.budget;
        root_names = formed.root_names;
        values = all-push HoldsValues g.objects made formed.values fit;
      }
      in formed_from (with_object g shape slots place) core placed

  pub made_formed : IsPlaced g.classes g.sealed g.budget (g.objects ++ made ∷ []) → (root : List ℕ) → IsFormed (root_written (with_object g shape slots place) root g.next)
  made_formed placed root = write_formed (with_object g shape slots place) root (held.Object g.next) (last_pushed g.objects made) (object_formed placed)

-- the first graph
no_names : IsDistinct SameNamed []
unfolding IsDistinct
no_names = tt

pub first_formed : (budget number : ℕ) → budget ≤ most_regions → number ≤ number_limit → IsFormed (first_graph budget number)
first_formed budget number few low =
    let core : IsCore (first_graph budget number) =
    record {
      classes = IsClassList-builtin;
      numbers = omega arith;
      next = low;
      objects = tt;
      closed = closed_from (first_graph budget number) tt tt;
      budget = few;
      root_names = no_names;
      values = tt;
    }
    in
    let placed : IsPlaced builtin_classes false budget [] =
    record {
      before_seal = λ e. tt;
      places = tt;
      turns = tt;
      image = tt;
      image_fits = omega arith;
      zygote = tt;
      zygote_fits = omega arith;
      regions = omega arith;
    }
    in formed_from (first_graph budget number) core placed
