-- What a process keeps for a graph with one object more, in whichever place.
use Rattle.std.proofs.Common.{◌≡◌, ◌∙◌, ℕ, ◌+◌, ◌-◌, ◌<◌, ◌≤◌, Bool, true, false, ◌&&◌, ◌||◌, cond, List, [], ◌∷◌, ◌++◌, map, length, nat_eq, nat_lt, append-nil, refl, sym, ap, subst, arith}
use Rattle.std.specs.List.{list_any}
use Rattle.std.proofs.lemmas.Bool.{and_from, and_parts, eqb-true, leb-true, lt-ltb}
use Rattle.std.proofs.lemmas.Grind.{flat_map-append}
use Rattle.std.proofs.lemmas.List.{length-append}
use Rattle.class_layout.specs.ClassList.{Class}
use Rattle.class_layout.specs.Placing.{IsIn}
use Rattle.page_tables.specs.declared.address.Addr.{Addr}
use Rattle.page_tables.specs.Address.{page_of}
use Rattle.cow_pages.specs.Memory.{is_mapped, HasOneSharer, Memory}
use Rattle.cow_pages.specs.Only.{OnlyTable}
use Rattle.cow_pages.proofs.OnlyLemmas.{own-stays}
use Rattle.page_runs.specs.Covered.{covers}
use Rattle.heap_graph.specs.declared.names.Held.{Held}
use Rattle.heap_graph.specs.declared.names.Held.TheVariants as held
use Rattle.heap_graph.specs.declared.names.Place.{Place}
use Rattle.heap_graph.specs.declared.names.Root.{Root}
use Rattle.heap_graph.specs.declared.names.Shape.{Shape}
use Rattle.heap_graph.specs.declared.names.Stored.{Stored}
use Rattle.heap_graph.specs.Allocation.{with_object}
use Rattle.heap_graph.specs.Graph.{is_immune, write_root, Graph, Object}
use Rattle.heap_graph.specs.Paths.{numbers}
use Rattle.heap_graph.specs.Reach.{is_among}
use Rattle.heap_graph.specs.Sizes.{parts_for, unrounded}
use Rattle.model_numbers.specs.Numbers.{image_base, image_length, page_bytes, zygote_base, zygote_length}
use Rattle.heap_graph.proofs.LaidOut.{all-weaken}
use Rattle.heap_graph.proofs.Lists.{any-map}
use Rattle.heap_world.specs.declared.names.Card.{Card}
use Rattle.heap_world.specs.Acts.{root_written}
use Rattle.heap_world.specs.Cards.{outward_cards}
use Rattle.heap_world.specs.Pages.{pages_if_promoted, promoted_pages}
use Rattle.heap_world.specs.Part.{Part}
use Rattle.heap_world.proofs.FormedAims.{closed_objects, closed_roots, RootsAim}
use Rattle.heap_world.proofs.Noted.{outward-pushed}
use Rattle.world_laws.specs.Named.{has_page, is_paged}
use Rattle.graph_pages.proofs.Lists.{any-from, any-to}
use Rattle.object_view.specs.Changes.{pages_in}
use Rattle.object_view.specs.Seen.{root_address}
use Rattle.root_list.specs.declared.root.RootAt.{RootAt}
use Rattle.root_list.specs.Roots.{held_by_all, with_root}
use Rattle.process_state.specs.Cards.{has_noted, NotesCards, NotesNothing, NotesWindow}
use Rattle.process_state.specs.Stands.{StandsIn}
use Rattle.process_state.specs.State.{addresses_in, State}
use Rattle.process_state.proofs.Roots.{kept, kept-addresses, kept-names, kept-written, roots-are}
use Rattle.process_state.proofs.Same.{mapped-frame}

-- LISTS

-- a last one that doesn't pass the test
pub any-push : {X : Type 0} (f : X → Bool) (xs : List X) (x : X) → f x ≡ false → list_any f (xs ++ x ∷ []) ≡ list_any f xs
any-push f [] x fails = ap (λ b. b || false) fails
any-push f (y ∷ xs) x fails = ap (λ b. f y || b) (any-push f xs x fails)

and-no : (b : Bool) → (b && false) ≡ false
and-no true = refl
and-no false = refl

-- an object in no such place has no page
pub no-page : (test : Place → Bool) (cs : List Class) (n k : ℕ) (o : Object) → test o.place ≡ false → has_page test cs n k o ≡ false
no-page test cs n k o fails = ap (λ b. nat_eq o.number n && (b && nat_lt k (parts_for page_bytes (unrounded cs o.shape)))) fails ∙ and-no (nat_eq o.number n)

-- what has a page in some places has it in more
pub more-paged : (S T : Place → Bool) → ((at : Place) → S at ≡ true → T at ≡ true) → (cs : List Class) (os : List Object) (n k : ℕ) → is_paged S cs os n k ≡ true → is_paged T cs os n k ≡ true
more-paged S T more cs os n k is =
    let it = any-from (has_page S cs n k) os is in
    let o : Object = it.0 in
    let parts = and_parts (nat_eq o.number n) _ it.2 in
    let inner = and_parts (S o.place) _ parts.1 in
    any-to (has_page T cs n k) os o it.1 (and_from (nat_eq o.number n) _ parts.0 (and_from (T o.place) _ (more o.place inner.0) inner.1))

-- the object of a page
pub paged-object : (test : Place → Bool) (cs : List Class) (os : List Object) (n k : ℕ) → is_paged test cs os n k ≡ true → (o : Object) × IsIn o os × (o.number ≡ n)
paged-object test cs os n k is =
    let it = any-from (has_page test cs n k) os is in
    (it.0, it.1, eqb-true it.0.number n (and_parts (nat_eq it.0.number n) _ it.2).0)

-- an object of a number that is there
pub among-object : (os : List Object) (n : ℕ) → is_among (numbers os) n ≡ true → (o : Object) × IsIn o os × (n ≡ o.number)
among-object os n is =
    let it = any-from (λ (o : Object). nat_eq n o.number) os (sym (any-map (λ (o : Object). o.number) (nat_eq n) os) ∙ is) in
    (it.0, it.1, eqb-true n it.0.number it.2)

-- PAGES

-- the pages of so many bytes are those that they cover
pub covers-range : (at size p : ℕ) → 0 < size → covers at size p ≡ true → (page_of at ≤ p) × (p < page_of at + pages_in at (at + size))
covers-range at size p some is =
    let parts = and_parts _ _ is in
    let low : page_of at ≤ p = leb-true _ _ parts.0 in
    let high : p ≤ page_of (at + size - 1) = leb-true _ _ parts.1 in
    let count : pages_in at (at + size) ≡ page_of (at + size - 1) + 1 - page_of at = ap (λ b. cond {A = ℕ} b (page_of (at + size - 1) + 1 - page_of at) 0) (lt-ltb at (at + size) (omega (arith, some))) in
    (low, omega (arith, low, high, count))

-- a page that had its frame alone has it alone, where it stays mapped
pub alone-then : (old new : Memory) (t q : ℕ) → OnlyTable old new t → is_mapped new t q ≡ true → HasOneSharer old t q → HasOneSharer new t q
alone-then old new t q only mapped alone = let frame = mapped-frame new t q mapped in own-stays old new t q frame.0 only alone frame.1

-- A PROCESS

module _ (s : State) (m : Memory) (p : Part) (k : StandsIn s m p) (new : State) (root : List ℕ) (shape : Shape) (slots : List Stored) (at : Place) where
  abbrev g : Graph
  g = p.graph

  abbrev made : Object
  made = record { number = p.graph.next; shape = shape; slots = slots; place = at }

  abbrev after : Graph
  after = root_written (with_object p.graph shape slots at) root p.graph.next

  module _ (stays : (o : Object) → IsIn o p.graph.objects → addresses_in new (root_written (with_object p.graph shape slots at) root p.graph.next) o.number ≡ addresses_in s p.graph o.number) where
    abbrev table : ℕ → ℕ
    table = addresses_in new (root_written (with_object p.graph shape slots at) root p.graph.next)

    -- a reference to an object that is there has the address that it had
    held-stays : (h : Held) → ((n : ℕ) → h ≡ held.Object n → is_among (numbers p.graph.objects) n ≡ true) → root_address (addresses_in s p.graph) h ≡ root_address table h
    held-stays held.Null there = refl
    held-stays (held.Object n) there =
        let it = among-object p.graph.objects n (there n refl) in
        ap (addresses_in s p.graph) it.2 ∙ sym (stays it.0 it.1) ∙ ap table (sym it.2)

    aimed : (h : Held) (n : ℕ) → (r : Root) → r.holds ≡ h → RootsAim (numbers p.graph.objects) (r ∷ []) → h ≡ held.Object n → is_among (numbers p.graph.objects) n ≡ true
    aimed h n r is aims e = (subst (λ x. RootsAim (numbers p.graph.objects) (record r { holds = x } ∷ [])) (is ∙ e) aims).0

    roots-stay : (rs : List Root) → RootsAim (numbers p.graph.objects) rs → map (kept (addresses_in s p.graph)) rs ≡ map (kept table) rs
    roots-stay [] aims = refl
    roots-stay (r ∷ rs) aims =
        ap (λ (a : ℕ). record { name = r.name; holds = record { 0 = a } } ∷ map (kept (addresses_in s p.graph)) rs) (held-stays r.holds (λ n e. aimed r.holds n r refl (aims.0, tt) e))
        ∙ ap (λ (xs : List RootAt). kept table r ∷ xs) (roots-stay rs aims.1)

    roots-now : (a : ℕ) → table p.graph.next ≡ a → with_root s.roots root (record { 0 = a }) ≡ map (kept table) (write_root p.graph.roots root (held.Object p.graph.next))
    roots-now a is =
        ap (λ x. with_root s.roots root (record { 0 = x })) (sym is)
        ∙ ap (λ (rs : List RootAt). with_root rs root (record { 0 = table p.graph.next }))
        (roots-are (addresses_in s p.graph) s.roots p.graph.roots k.counts.names k.heap.stands.roots ∙ roots-stay p.graph.roots (closed_roots p.graph k.heap.formed.closed))
        ∙ kept-written table root (held.Object p.graph.next) p.graph.roots k.heap.formed.root_names

    -- the roots have the graph's names and addresses
    pub made-names : (a : ℕ) → table p.graph.next ≡ a → map (λ (r : RootAt). r.name) (with_root s.roots root (record { 0 = a })) ≡ map (λ (r : Root). r.name) (write_root p.graph.roots root (held.Object p.graph.next))
    made-names a is = ap (map (λ (r : RootAt). r.name)) (roots-now a is) ∙ kept-names table (write_root p.graph.roots root (held.Object p.graph.next))

    pub made-addresses : (a : ℕ) → table p.graph.next ≡ a
        → map (λ (x : Addr). x.0) (held_by_all (with_root s.roots root (record { 0 = a }))) ≡ map (λ (r : Root). root_address table r.holds) (write_root p.graph.roots root (held.Object p.graph.next))
    made-addresses a is = ap (λ (xs : List RootAt). map (λ (x : Addr). x.0) (held_by_all xs)) (roots-now a is) ∙ kept-addresses table (write_root p.graph.roots root (held.Object p.graph.next))

  -- no page of a promoted object comes
  pub made-promoted : pages_if_promoted p.graph.classes made at ≡ [] → promoted_pages after ≡ promoted_pages p.graph
  made-promoted none =
      flat_map-append (λ o. pages_if_promoted g.classes o o.place) g.objects (made ∷ [])
      ∙ ap (λ ps. promoted_pages g ++ (ps ++ [])) none ∙ append-nil (promoted_pages g)

  pub made-count : s.objects + 1 ≡ length (p.graph.objects ++ record { number = p.graph.next; shape = shape; slots = slots; place = at } ∷ [])
  made-count = let now = k.counts.objects in omega (arith, now, length-append p.graph.objects (made ∷ []))

  -- the cards of outward slots are noted as before
  pub heap-cards : is_immune p.graph.sealed at ≡ false → ((d : Card) → has_noted new d ≡ has_noted s d) → new.image_notes ≡ s.image_notes → new.zygote_notes ≡ s.zygote_notes
      → NotesCards new (record p { graph = root_written (with_object p.graph shape slots at) root p.graph.next })
  heap-cards loose same image zygote = record {
    image = subst (NotesWindow image_base image_length) (sym image) k.cards.image;
    zygote = subst (NotesWindow zygote_base zygote_length) (sym zygote) k.cards.zygote;
    noted = λ d has. k.cards.noted d (sym (same d) ∙ has);
    outward = outward-pushed (λ d. has_noted new d ≡ true) g after made refl refl (closed_objects g k.heap.formed.closed) loose
        (all-weaken (λ d. has_noted s d ≡ true) (λ d. has_noted new d ≡ true) (λ d has. same d ∙ has) (outward_cards g) k.cards.outward);
    before_seal = λ unsealed. let none = k.cards.before_seal unsealed in (subst NotesNothing (sym image) none.0, subst NotesNothing (sym zygote) none.1);
  }
