-- Roots that are written and dropped in a process and in its graph stay in step.
use Rattle.std.proofs.Common.{◌≡◌, ◌∙◌, ℕ, Bool, true, false, cond, not, ◌||◌, List, [], ◌∷◌, map, refl, ap, subst}
use Rattle.std.specs.List.{AllByRecursion, IsDistinct}
use Rattle.page_tables.specs.declared.address.Addr.{Addr}
use Rattle.class_layout.specs.Names.{same_name}
use Rattle.class_layout.proofs.Uniqueness.{names-same}
use Rattle.cow_pages.specs.Memory.{Memory}
use Rattle.heap_graph.specs.declared.names.Held.{Held}
use Rattle.heap_graph.specs.declared.names.Root.{Root}
use Rattle.heap_graph.specs.Graph.{drop_root, write_first, write_root}
use Rattle.heap_world.proofs.Processes.{apart-symm}
use Rattle.heap_world.specs.Part.{Part}
use Rattle.heap_world.specs.Sound as world
use Rattle.object_view.specs.Seen.{root_address}
use Rattle.root_list.specs.declared.root.RootAt.{RootAt}
use Rattle.root_list.specs.Roots.{held_by_all, hold_if, is_root, with_held, with_root, with_root_if, without_root}
use Rattle.world_laws.specs.Outward.{NotesWithin}
use Rattle.graph_pages.specs.Pages.{PagesHold}
use Rattle.evacuate.specs.Stands.{homes_of, HoldsHeap, StandsFor}
use Rattle.zygote_compact.specs.Spots.{HasSpots}
use Rattle.process_state.specs.State.{addresses_in, heap_of, State}
use Rattle.process_state.specs.Cards.{NotesCards}
use Rattle.process_state.specs.Stands.{HasCounts, HasFlags, HasImage, StandsIn}

abbrev SameNamed : Root → Root → Bool
SameNamed r s = same_name r.name s.name

module _ (table : ℕ → ℕ) where
  -- a root as the process keeps it
  abbrev pub kept : Root → RootAt
  kept r = record { name = r.name; holds = record { 0 = root_address table r.holds } }

  -- a list of roots that has the graph's names and addresses is the graph's
  pub roots-are : (rs : List RootAt) (gs : List Root) → map (λ (r : RootAt). r.name) rs ≡ map (λ (r : Root). r.name) gs
      → map (λ (a : Addr). a.0) (held_by_all rs) ≡ map (λ (r : Root). root_address table r.holds) gs → rs ≡ map kept gs
  roots-are [] [] names ats = refl
  roots-are [] (g ∷ gs) names ats = absurd cc
  roots-are (r ∷ rs) [] names ats = absurd cc
  roots-are (r ∷ rs) (g ∷ gs) names ats =
      let name : r.name ≡ g.name = cc in
      let at : r.holds.0 ≡ root_address table g.holds = cc in
      let later : map (λ (r : RootAt). r.name) rs ≡ map (λ (r : Root). r.name) gs = cc in
      let behind : map (λ (a : Addr). a.0) (held_by_all rs) ≡ map (λ (r : Root). root_address table r.holds) gs = cc in
      ap (λ (n : List ℕ). record { name = n; holds = r.holds } ∷ rs) name
      ∙ ap (λ a. record { name = g.name; holds = record { 0 = a } } ∷ rs) at ∙ ap (λ (xs : List RootAt). kept g ∷ xs) (roots-are rs gs later behind)

  -- its names and its addresses
  pub kept-names : (gs : List Root) → map (λ (r : RootAt). r.name) (map kept gs) ≡ map (λ (r : Root). r.name) gs
  kept-names [] = refl
  kept-names (g ∷ gs) = ap (λ (ns : List (List ℕ)). g.name ∷ ns) (kept-names gs)

  pub kept-addresses : (gs : List Root) → map (λ (a : Addr). a.0) (held_by_all (map kept gs)) ≡ map (λ (r : Root). root_address table r.holds) gs
  kept-addresses [] = refl
  kept-addresses (g ∷ gs) = ap (λ (ns : List ℕ). root_address table g.holds ∷ ns) (kept-addresses gs)

  pub kept-dropped : (gs : List Root) (name : List ℕ) → without_root (map kept gs) name ≡ map kept (drop_root gs name)
  kept-dropped [] name = refl
  kept-dropped (g ∷ gs) name = by (same_name g.name name) (kept-dropped gs name)
    where
      by : (b : Bool) → without_root (map kept gs) name ≡ map kept (drop_root gs name)
          → cond (not b) (kept g ∷ without_root (map kept gs) name) (without_root (map kept gs) name) ≡ map kept (cond (not b) (g ∷ drop_root gs name) (drop_root gs name))
      by true rest = rest
      by false rest = ap (λ (rs : List RootAt). kept g ∷ rs) rest

  module _ (name : List ℕ) (h : Held) where
    abbrev at : Addr
    at = record { 0 = root_address table h }

    -- roots of other names stay
    others-stay : (gs : List Root) → AllByRecursion (λ (r : Root). same_name name r.name ≡ false) gs → with_held (map kept gs) name at ≡ map kept gs
    others-stay [] others = refl
    others-stay (g ∷ gs) others =
        ap (λ b. hold_if b (kept g) at ∷ with_held (map kept gs) name at) (apart-symm name g.name others.0) ∙ ap (λ (rs : List RootAt). kept g ∷ rs) (others-stay gs others.1)

    written-first : (b : Bool) (g : Root) (gs : List Root) → same_name g.name name ≡ b → AllByRecursion (λ (r : Root). same_name g.name r.name ≡ false) gs
        → with_root_if (is_root (map kept gs) name) (map kept gs) name at ≡ map kept (write_root gs name h)
        → with_root_if (b || is_root (map kept gs) name) (map kept (g ∷ gs)) name at ≡ map kept (write_first b g name h gs (write_root gs name h))
    written-first true g gs is others rest =
        ap (λ b. hold_if b (kept g) at ∷ with_held (map kept gs) name at) is
        ∙ ap (λ (rs : List RootAt). record (kept g) { holds = at } ∷ rs)
        (others-stay gs (subst (λ n. AllByRecursion (λ (r : Root). same_name n r.name ≡ false) gs) (names-same g.name name is) others))
    written-first false g gs is others rest = behind (is_root (map kept gs) name) rest
      where
        behind : (c : Bool) → with_root_if c (map kept gs) name at ≡ map kept (write_root gs name h)
            → with_root_if c (map kept (g ∷ gs)) name at ≡ kept g ∷ map kept (write_root gs name h)
        behind true same =
            ap (λ b. hold_if b (kept g) at ∷ with_held (map kept gs) name at) is ∙ ap (λ (rs : List RootAt). kept g ∷ rs) same
        behind false same = ap (λ (rs : List RootAt). kept g ∷ rs) same

    pub kept-written : (gs : List Root) → IsDistinct SameNamed gs → with_root (map kept gs) name at ≡ map kept (write_root gs name h)
    unfolding IsDistinct
    kept-written [] once = refl
    kept-written (g ∷ gs) once = written-first (same_name g.name name) g gs refl once.0 (kept-written gs once.1)

module _ (s : State) (m : Memory) (p : Part) (h : StandsIn s m p) where
  abbrev table : ℕ → ℕ
  table = addresses_in s p.graph

  roots-now : s.roots ≡ map (kept table) p.graph.roots
  roots-now = roots-are table s.roots p.graph.roots h.counts.names h.heap.stands.roots

  -- with other roots that are the graph's
  module _ (rs : List RootAt) (gs : List Root) (same : rs ≡ map (kept table) gs) (sound : world.IsSound (record p { graph = record p.graph { roots = gs } })) where
    abbrev new : State
    new = record s { roots = rs }

    abbrev part : Part
    part = record p { graph = record p.graph { roots = gs } }

    names : map (λ (r : RootAt). r.name) rs ≡ map (λ (r : Root). r.name) gs
    names = ap (map (λ (r : RootAt). r.name)) same ∙ kept-names table gs

    ats : map (λ (a : Addr). a.0) (held_by_all rs) ≡ map (λ (r : Root). root_address table r.holds) gs
    ats = ap (λ (xs : List RootAt). map (λ (a : Addr). a.0) (held_by_all xs)) same ∙ kept-addresses table gs

    heap-with : HoldsHeap (heap_of new []) m s.page_table part.graph
    heap-with =
        let stands : StandsFor (heap_of new []) part.graph = assumption (h.heap.stands, ats) in
        let pages : PagesHold m s.page_table (homes_of (heap_of s [])) part.graph = record { objects = h.heap.pages.objects; pages = h.heap.pages.pages } in
        assumption (h.heap, sound.formed, stands, pages)

    counts-with : HasCounts new part.graph
    counts-with = assumption (h.counts, names)

    flags-with : HasFlags new m part
    flags-with = record { touched = h.flags.touched; waiting = h.flags.waiting }

    cards-with : NotesCards new part
    cards-with = record { image = h.cards.image; zygote = h.cards.zygote; noted = h.cards.noted; outward = h.cards.outward; before_seal = h.cards.before_seal }

    image-with : HasImage s.image part.graph
    image-with = record { fill = h.image.fill; starts = h.image.starts }

    spots-with : HasSpots s.zygote part.graph
    spots-with = record { closed = h.zygote.closed; fill = h.zygote.fill; starts = h.zygote.starts }

    within : NotesWithin part
    within = record { stored = h.within.stored; held = h.within.held }

    stands-with : StandsIn new m part
    stands-with = assumption (h, sound, within, counts-with, heap-with, flags-with, cards-with, image-with, spots-with)

  pub stands-written : (name : List ℕ) (held : Held) → world.IsSound (record p { graph = record p.graph { roots = write_root p.graph.roots name held } })
      → StandsIn (record s { roots = with_root s.roots name (record { 0 = root_address table held }) }) m (record p { graph = record p.graph { roots = write_root p.graph.roots name held } })
  stands-written name held = stands-with (with_root s.roots name (record { 0 = root_address table held })) (write_root p.graph.roots name held)
      (ap (λ (rs : List RootAt). with_root rs name (record { 0 = root_address table held })) roots-now ∙ kept-written table name held p.graph.roots h.heap.formed.root_names)

  pub stands-dropped : (name : List ℕ) → world.IsSound (record p { graph = record p.graph { roots = drop_root p.graph.roots name } })
      → StandsIn (record s { roots = without_root s.roots name }) m (record p { graph = record p.graph { roots = drop_root p.graph.roots name } })
  stands-dropped name = stands-with (without_root s.roots name) (drop_root p.graph.roots name) (ap (λ (rs : List RootAt). without_root rs name) roots-now ∙ kept-dropped table p.graph.roots name)
