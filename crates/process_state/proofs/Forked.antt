-- A fork leaves a process no page of its own.
use Rattle.std.proofs.Common.{◌≡◌, ◌≢◌, ◌∙◌, ℕ, ◌+◌, Bool, true, false, cond, not, ◌&&◌, ◌||◌, List, [], ◌∷◌, ◌++◌, filter, length, refl, sym, ap, subst, arith}
use Rattle.std.specs.Prelude.{count_by}
use Rattle.std.specs.List.{list_any, AllByRecursion}
use Rattle.std.proofs.lemmas.Bool.{false_from_ne_true, false≢true, or_from, or_left, or_right}
use Rattle.std.proofs.lemmas.List.{length-map}
use Rattle.std.proofs.lemmas.List.Folds.{list_any-append}
use Rattle.std.proofs.lemmas.List.Sums.{sum_by-cons}
use Rattle.page_tables.specs.declared.address.Window.TheVariants.{Image}
use Rattle.page_tables.specs.Address.{is_in}
use Rattle.cow_pages.specs.Change.{ChangesTable}
use Rattle.cow_pages.specs.Memory.{flag_of, is_live, page_at, HasOneSharer, IsSound, Memory}
use Rattle.heap_graph.specs.Fork.{child_of}
use Rattle.heap_graph.specs.Graph.{is_immune, Graph, Object}
use Rattle.heap_graph.specs.Packing.{young_objects}
use Rattle.heap_world.specs.declared.reply.Reply.TheVariants as reply
use Rattle.heap_world.specs.declared.names.Card.{Card}
use Rattle.heap_world.specs.declared.names.Card.TheVariants as card
use Rattle.heap_world.specs.Cards as world
use Rattle.heap_world.specs.Acts.{fork_part}
use Rattle.heap_world.proofs.SoundActs.{child_sound}
use Rattle.heap_world.specs.Part.{Part}
use Rattle.world_laws.proofs.Promoting.{fork_immune, fork_rest}
use Rattle.region_lists.specs.Rows.{Row}
use Rattle.region_space.specs.Space.{filled, lists_of}
use Rattle.region_space.specs.Space as space
use Rattle.large_objects.specs.Pages as large
use Rattle.large_objects.specs.Rows.{waits}
use Rattle.graph_pages.specs.Pages.{page_named, PagesHold}
use Rattle.evacuate.specs.Stands.{home_of, homes_of, HoldsHeap}
use Rattle.evacuate.proofs.Counted.{counted}
use Rattle.process_state.specs.Cards.{has_noted}
use Rattle.process_state.specs.State.{addresses_in, heap_of, State}
use Rattle.process_state.specs.Same.{is_own_page}
use Rattle.process_state.specs.Stands.{StandsIn}
use Rattle.process_state.proofs.Same.{pages-seen, stands-same}

none-loose : (os : List Object) → AllByRecursion (λ (o : Object). is_immune true o.place ≡ true) os → count_by (λ (o : Object). not (is_immune true o.place)) os ≡ 0
none-loose [] all = refl
none-loose (o ∷ os) all =
    let one : ◌≡◌ {A = ℕ} (cond (not (is_immune true o.place)) 1 0) 0 = ap (λ b. cond (not b) 1 0) all.0 in
    omega (arith, one, sum_by-cons (λ (x : Object). cond (not (is_immune true x.place)) 1 0) o os, none-loose os all.1)

no-length : {X : Type 0} (xs : List X) → length xs ≡ 0 → xs ≡ []
no-length [] is = refl
no-length (x ∷ xs) is = absurd (omega arith)

module _ (s : State) (p : Part) (m : Memory) (h : StandsIn s m p) (sealed : p.graph.sealed ≡ true) (immune : AllByRecursion (λ (o : Object). is_immune true o.place ≡ true) p.graph.objects) where
  abbrev g : Graph
  g = p.graph

  none : length (young_objects g) + length (filter waits s.rows) ≡ 0
  none = ap (λ n. n + length (filter waits s.rows)) (sym h.heap.stands.objects) ∙ counted (heap_of s []) g sealed h.heap.stands
      ∙ ap (λ b. count_by (λ (o : Object). not (is_immune b o.place)) g.objects) sealed ∙ none-loose g.objects immune

  no-rows : filter waits s.rows ≡ []
  no-rows = no-length (filter waits s.rows) (omega (arith, none))

  no-region : (q : ℕ) → list_any (space.holds_page q) s.regions.in_use ≡ false
  no-region q = false_from_ne_true (list_any (space.holds_page q) s.regions.in_use) (λ is.
      let it = h.heap.stands.packed.covered q is in
      absurd (omega (arith, it.1, none, length-map (young_objects g) (home_of (addresses_in s g)))))

  none-own : (q : ℕ) → is_own_page s p q ≡ false
  none-own q = or_from (list_any (space.holds_page q) (filled (lists_of s.regions)) || list_any (large.holds_page q) (filter waits s.rows)) _
      (or_from (list_any (space.holds_page q) (filled (lists_of s.regions))) _
      (ap (λ (from : List Row). list_any (space.holds_page q) (s.regions.in_use ++ from)) h.heap.stands.no_from
      ∙ list_any-append (space.holds_page q) s.regions.in_use [] ∙ or_from (list_any (space.holds_page q) s.regions.in_use) false (no-region q) refl)
      (ap (list_any (large.holds_page q)) no-rows))
      (ap (λ b. not b && is_in Image q) sealed)

pub stands-forked : (s : State) (p : Part) (old new : Memory) (u : ℕ) → (fork_part p).reply ≡ reply.Done → p.graph.sealed ≡ true → StandsIn s old (fork_part p).part
    → u ≢ s.page_table → ChangesTable old new u → ((q : ℕ) → page_at new u q ≡ page_at old s.page_table q) → IsSound new → StandsIn s new (fork_part p).part
stands-forked s p old new u done sealed h beside changes copied sound =
    let after : Part = (fork_part p).part in
    let still : after.graph.sealed ≡ true = ap (λ (g : Graph). g.sealed) (fork_rest p done) ∙ sealed in
    let immune = subst (λ b. AllByRecursion (λ (o : Object). is_immune b o.place ≡ true) after.graph.objects) still (fork_immune p sealed done) in
    stands-same s after old new h
    (record {
      live = changes.live s.page_table (λ e. beside (sym e));
      pages = λ q. changes.others s.page_table q (λ e. beside (sym e));
      alone = λ q own alone. absurd (false≢true (sym (none-own s after old h still immune q) ∙ own));
    })
    sound

-- the child keeps what its parent keeps, but its table, and that it was never dumped
abbrev child_in : State → ℕ → State
child_in s u = record s { page_table = u; dumps = 0 }

abbrev child_part : Part → Part
child_part p = record p { graph = child_of p.graph }

module _ (s : State) (p : Part) (old new : Memory) (u : ℕ) (h : StandsIn s old p) (sealed : p.graph.sealed ≡ true) (immune : AllByRecursion (λ (o : Object). is_immune true o.place ≡ true) p.graph.objects)
    (live : is_live new u ≡ true) (copied : (q : ℕ) → page_at new u q ≡ page_at old s.page_table q) (sound : IsSound new) where
  none-alone : (q : ℕ) → is_own_page s p q ≡ true → HasOneSharer new u q
  none-alone q own = absurd (false≢true (sym (none-own s p old h sealed immune q) ∙ own))

  abbrev regions-in : ℕ → Bool
  regions-in q = list_any (space.holds_page q) (filled (lists_of s.regions))

  abbrev rows-in : ℕ → Bool
  rows-in q = list_any (large.holds_page q) (filter waits s.rows)

  heap-child : HoldsHeap (heap_of (child_in s u) []) new u (child_of p.graph)
  heap-child = record {
    formed = (child_sound p h.part).formed;
    house = record { regions = h.heap.house.regions; slots = h.heap.house.slots; for_young = h.heap.house.for_young; for_large = h.heap.house.for_large };
    pages = record { objects = seen.objects; pages = seen.pages };
    stands = record {
      classes = h.heap.stands.classes;
      packed = h.heap.stands.packed;
      objects = h.heap.stands.objects;
      no_from = h.heap.stands.no_from;
      half = h.heap.stands.half;
      count = h.heap.stands.count;
      rows = h.heap.stands.rows;
      roots = h.heap.stands.roots;
    };
    regions = λ q is. none-alone q (or_left (regions-in q || rows-in q) (not p.graph.sealed && is_in Image q) (or_left (regions-in q) (rows-in q) is));
    large = λ q is. none-alone q (or_left (regions-in q || rows-in q) (not p.graph.sealed && is_in Image q) (or_right (regions-in q) (rows-in q) is));
    space = h.heap.space;
    sound = sound;
    live = live;
  }
    where
      seen : PagesHold new u (homes_of (heap_of s [])) p.graph
      seen = pages-seen old new s.page_table u (homes_of (heap_of s [])) p.graph copied h.heap.pages

  pub stands-child : StandsIn (child_in s u) new (child_part p)
  stands-child = record {
    lives = h.lives;
    part = child_sound p h.part;
    outward = h.outward;
    within = record { stored = h.within.stored; held = h.within.held };
    counts = record {
      names = h.counts.names;
      next = h.counts.next;
      numbered = h.counts.numbered;
      budget = h.counts.budget;
      is_sealed = h.counts.is_sealed;
      dumps = refl;
      objects = h.counts.objects;
      promoted = h.counts.promoted;
    };
    heap = heap-child;
    flags = record {
      touched = λ a is there. ap flag_of (copied (page_named (addresses_in s p.graph) a)) ∙ h.flags.touched a is there;
      waiting = λ a is. ap flag_of (copied (page_named (addresses_in s p.graph) a)) ∙ h.flags.waiting a is;
    };
    cards = record { image = h.cards.image; zygote = h.cards.zygote; noted = card-noted; outward = h.cards.outward; before_seal = h.cards.before_seal };
    alone = λ q unsealed is mapped. absurd (false≢true (sym unsealed ∙ sealed));
    image_is = h.image_is;
    zygote_is = h.zygote_is;
    image = record { fill = h.image.fill; starts = h.image.starts };
    zygote = record { closed = h.zygote.closed; fill = h.zygote.fill; starts = h.zygote.starts };
  }
    where
      card-noted : (c : Card) → has_noted (child_in s u) c ≡ true → world.is_noted p.stored p.held c ≡ true
      card-noted (card.Image k) = h.cards.noted (card.Image k)
      card-noted (card.Zygote k) = h.cards.noted (card.Zygote k)

pub child-forked : (s : State) (p : Part) (old new : Memory) (u : ℕ) → (fork_part p).reply ≡ reply.Done → p.graph.sealed ≡ true → StandsIn s old (fork_part p).part
    → is_live new u ≡ true → ((q : ℕ) → page_at new u q ≡ page_at old s.page_table q) → IsSound new → StandsIn (child_in s u) new (child_part (fork_part p).part)
child-forked s p old new u done sealed h live copied sound =
    let after : Part = (fork_part p).part in
    let still : after.graph.sealed ≡ true = ap (λ (g : Graph). g.sealed) (fork_rest p done) ∙ sealed in
    let immune = subst (λ b. AllByRecursion (λ (o : Object). is_immune b o.place ≡ true) after.graph.objects) still (fork_immune p sealed done) in
    stands-child s after old new u h still immune live copied sound
