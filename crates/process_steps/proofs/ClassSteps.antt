-- A class that is defined: the process's objects stand as they stood.
use Rattle.std.proofs.Common.{◌≡◌, ◌∙◌, ◌≤◌, ℕ, Bool, true, List, [], ◌++◌, Ok, Result, IfOk, IsTrue, length, map, nat_lt, refl, sym, ap, subst, true≢false}
use Rattle.model_numbers.specs.Numbers.{field_limit, page_bytes, region_bytes}
use Rattle.class_layout.specs.declared.classes.DefineError.{DefineError}
use Rattle.class_layout.specs.declared.kind.FieldDecl.{FieldDecl}
use Rattle.class_layout.specs.ClassList.{define_class, Class}
use Rattle.class_layout.specs.Placing.{IsIn}
use Rattle.cow_pages.specs.Memory.{is_written, Memory}
use Rattle.heap_graph.specs.declared.names.Place.{Place}
use Rattle.heap_graph.specs.declared.names.Root.{Root}
use Rattle.heap_graph.specs.Graph.{image_fill, is_young, zygote_fill, Graph, Object, size_of_object}
use Rattle.heap_graph.specs.Packing.{end_from, young_objects, young_sizes}
use Rattle.heap_graph.specs.Sizes.{parts_for}
use Rattle.heap_graph.proofs.LaidOut.{all-weaken}
use Rattle.heap_world.specs.declared.command.Verb.TheVariants as verb
use Rattle.heap_world.specs.declared.names.Card.{Card}
use Rattle.heap_world.specs.declared.names.Card.TheVariants as card
use Rattle.heap_world.specs.declared.names.PageName.{PageName}
use Rattle.heap_world.specs.declared.names.PageName.TheVariants.{Image, Zygote, Large}
use Rattle.heap_world.specs.declared.reply.Reply.{Reply}
use Rattle.heap_world.specs.declared.reply.Reply.TheVariants as reply
use Rattle.heap_world.specs.Acts.{act, after_define}
use Rattle.heap_world.specs.Cards.{outward_cards}
use Rattle.heap_world.specs.Effect.{becomes}
use Rattle.heap_world.specs.Part.{Part}
use Rattle.heap_world.proofs.FormedDefine.{define-grows, IsGrown}
use Rattle.heap_world.proofs.PlacedSame.{all_pages-same, grown-same, AreSame}
use Rattle.world_laws.specs.Named.{is_page, is_promoted, is_waiting, waits}
use Rattle.world_laws.proofs.Named.{fills-same}
use Rattle.object_view.specs.Objects.{IsKnown}
use Rattle.object_view.specs.Seen.{root_address}
use Rattle.object_moves.specs.Copies.{PacksAt}
use Rattle.address_table.specs.Computed.{Homes}
use Rattle.graph_pages.specs.Pages.{page_named}
use Rattle.graph_pages.proofs.Lists.{in-filter}
use Rattle.evacuate.specs.Stands.{home_of, homes_of, HoldsHeap, StandsFor}
use Rattle.evacuate.proofs.Members.{map-same}
use Rattle.process_state.specs.Acts.{page_in, Acts, Step}
use Rattle.process_state.specs.Cards.{has_noted, NotesCards}
use Rattle.process_state.specs.Stands.{HasCounts, HasFlags, StandsIn}
use Rattle.process_state.specs.State.{addresses_in, heap_of, State}
use Rattle.process_steps.specs.Kept.{IsKept}
use Rattle.process_steps.proofs.MoreClasses.{pages-stay, paged-stays, rows-stay, size, table-stays}
use Rattle.process_steps.proofs.QuietSteps.{kept-act, quiet-acts}

module _ (s : State) (m : Memory) (p : Part) (k : StandsIn s m p) (more : List Class) where
  abbrev g : Graph
  g = p.graph

  abbrev grown : Graph
  grown = record p.graph { classes = p.graph.classes ++ more }

  abbrev new : State
  new = record s { classes = p.graph.classes ++ more }

  abbrev part : Part
  part = record p { graph = record p.graph { classes = p.graph.classes ++ more } }

  abbrev homes : Homes
  homes = homes_of (heap_of s [])

  known : (o : Object) → IsIn o p.graph.objects → IsKnown p.graph.classes o.shape
  known = k.heap.pages.objects.known

  table-same : addresses_in new grown ≡ addresses_in s p.graph
  table-same = table-stays p.graph.classes more (homes_of (heap_of s [])) p.graph.objects known

  same : AreSame p.graph.classes (p.graph.classes ++ more) p.graph.objects p.graph.objects
  same = grown-same p.graph.classes more p.graph.objects k.heap.formed.objects

  fills : (image_fill grown ≡ image_fill p.graph) × (zygote_fill grown ≡ zygote_fill p.graph)
  fills = fills-same p.graph grown same k.heap.formed.zygote

  sizes-same : young_sizes grown ≡ young_sizes p.graph
  sizes-same = map-same (size_of_object (p.graph.classes ++ more)) (size_of_object p.graph.classes) (young_objects p.graph)
      (λ o there. size p.graph.classes more o (known o (in-filter (λ (x : Object). is_young x.place) p.graph.objects o there).0))

  -- a page is of the places that it was of
  page-same : (S : Place → Bool) (a : PageName) → is_page S grown a ≡ is_page S p.graph a
  page-same S (Image j) = ap (λ n. nat_lt j (parts_for page_bytes n)) fills.0
  page-same S (Zygote j) = ap (λ n. nat_lt j (parts_for page_bytes n)) fills.1
  page-same S (Large n j) = paged-stays p.graph.classes more S p.graph.objects n j known

  number-same : (a : PageName) → page_in new grown a ≡ page_in s p.graph a
  number-same a = ap (λ (f : ℕ → ℕ). page_named f a) table-same

  stands-for : StandsFor (heap_of new []) grown
  stands-for = record {
    classes = refl;
    packed = subst (λ (ss : List ℕ). PacksAt s.regions.in_use ss (map (home_of (addresses_in new grown)) (young_objects p.graph))) (sym sizes-same)
        (subst (λ (f : ℕ → ℕ). PacksAt s.regions.in_use (young_sizes p.graph) (map (home_of f) (young_objects p.graph))) (sym table-same) k.heap.stands.packed);
    objects = k.heap.stands.objects;
    no_from = k.heap.stands.no_from;
    half = k.heap.stands.half;
    count = k.heap.stands.count;
    rows = k.heap.stands.rows ∙ sym (rows-stay p.graph.classes more (homes_of (heap_of s [])).slots 0 p.graph.objects known);
    roots = k.heap.stands.roots ∙ ap (λ (f : ℕ → ℕ). map (λ (r : Root). root_address f r.holds) p.graph.roots) (sym table-same);
  }

  module _ (kept : IsKept part) where
    heap-more : HoldsHeap (heap_of new []) m s.page_table grown
    heap-more = record {
      formed = kept.part.formed;
      house = record {
        regions = k.heap.house.regions;
        slots = k.heap.house.slots;
        for_young = subst (λ (ss : List ℕ). parts_for region_bytes (end_from 0 ss) ≤ length homes.regions) (sym sizes-same) k.heap.house.for_young;
        for_large = k.heap.house.for_large;
      };
      pages = pages-stay m s.page_table (homes_of (heap_of s [])) p.graph more k.heap.pages;
      stands = stands-for;
      regions = k.heap.regions;
      large = k.heap.large;
      space = k.heap.space;
      sound = k.heap.sound;
      live = k.heap.live;
    }

    flags-more : HasFlags new m part
    flags-more = record {
      touched = λ a sealed is. ap (is_written m s.page_table) (number-same a) ∙ k.flags.touched a sealed (sym (page-same is_promoted a) ∙ is);
      waiting = waiting;
    }
      where
        waiting : (a : PageName) → waits grown a ≡ true → IsTrue (is_written m s.page_table (page_in new grown a))
        waiting (Image j) is = absurd (true≢false (sym is))
        waiting (Zygote j) is = absurd (true≢false (sym is))
        waiting (Large n j) is = ap (is_written m s.page_table) (number-same (Large n j)) ∙ k.flags.waiting (Large n j) (sym (page-same is_waiting (Large n j)) ∙ is)

    noted-same : (c : Card) → has_noted new c ≡ has_noted s c
    noted-same (card.Image j) = refl
    noted-same (card.Zygote j) = refl

    cards-more : NotesCards new part
    cards-more = record {
      image = k.cards.image;
      zygote = k.cards.zygote;
      noted = λ c is. k.cards.noted c (sym (noted-same c) ∙ is);
      outward = all-weaken (λ c. has_noted s c ≡ true) (λ c. has_noted new c ≡ true) (λ c is. noted-same c ∙ is) (outward_cards p.graph) k.cards.outward;
      before_seal = k.cards.before_seal;
    }

    counts-more : HasCounts new grown
    counts-more = record {
      names = k.counts.names;
      next = k.counts.next;
      numbered = k.counts.numbered;
      budget = k.counts.budget;
      is_sealed = k.counts.is_sealed;
      dumps = k.counts.dumps;
      objects = k.counts.objects;
      promoted = k.counts.promoted ∙ ap length (sym (all_pages-same p.graph.classes (p.graph.classes ++ more) p.graph.objects p.graph.objects same));
    }

    stands-more : StandsIn new m part
    stands-more = record {
      lives = k.lives;
      part = kept.part;
      outward = kept.outward;
      within = kept.within;
      counts = counts-more;
      heap = heap-more;
      flags = flags-more;
      cards = cards-more;
      alone = k.alone;
      image_is = k.image_is;
      zygote_is = k.zygote_is;
      image = record { fill = k.image.fill ∙ sym fills.0; starts = k.image.starts };
      zygote = record { closed = k.zygote.closed; fill = k.zygote.fill ∙ sym fills.1; starts = k.zygote.starts };
    }

    pub acts-more : (r : Reply) → Acts (record { old = s; new = record s { classes = p.graph.classes ++ more }; was = m; now = m }) p (becomes p (record p.graph { classes = p.graph.classes ++ more }) r)
    acts-more r = quiet-acts s new m m p (becomes p grown r) stands-more refl refl refl (λ a named. number-same a)

-- with these classes, which begin as the process's do
with-classes : (s : State) (m : Memory) (p : Part) (classes : List Class) (r : Reply) → StandsIn s m p → IsGrown p.graph.classes classes → IsKept (record p { graph = record p.graph { classes = classes } })
    → Acts (record { old = s; new = record s { classes = classes }; was = m; now = m }) p (becomes p (record p.graph { classes = classes }) r)
with-classes s m p classes r k grown kept =
    subst (λ (cs : List Class). Acts (record { old = s; new = record s { classes = cs }; was = m; now = m }) p (becomes p (record p.graph { classes = cs }) r)) (sym grown.same)
    (acts-more s m p k grown.added (subst (λ (cs : List Class). IsKept (record p { graph = record p.graph { classes = cs } })) grown.same kept) r)

pub class-acts : (c : Step) (p : Part) (name parent : List ℕ) (fields : List FieldDecl) (classes : List Class) → StandsIn c.old c.was p → length fields ≤ field_limit
    → define_class p.graph.classes name parent fields ≡ Ok classes → c.new ≡ record c.old { classes = classes } → c.now ≡ c.was → Acts c p (act p (verb.Class name parent fields))
class-acts c p name parent fields classes k few defined is still =
    let kept : IsKept (record p { graph = record p.graph { classes = classes } }) =
    subst (λ (d : Result (List Class) DefineError). IsKept (after_define p d).part) defined (kept-act c.old c.was p k (verb.Class name parent fields) few) in
    let grown : IsGrown p.graph.classes classes =
    subst (λ (d : Result (List Class) DefineError). IfOk d (IsGrown p.graph.classes)) defined (define-grows p.graph.classes name fields k.heap.formed.classes few parent) in
    subst (λ (d : Result (List Class) DefineError). Acts c p (after_define p d)) (sym defined)
    (subst (λ (n : State). Acts (record c { new = n }) p (after_define p (Ok classes))) (sym is)
    (subst (λ (n : Memory). Acts (record c { new = record c.old { classes = classes }; now = n }) p (after_define p (Ok classes))) (sym still)
    (with-classes c.old c.was p classes (reply.Class (length p.graph.classes)) k grown kept)))
