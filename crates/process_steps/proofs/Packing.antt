-- Regions with an object more at their end.
use Rattle.std.proofs.Common.{◌≡◌, ◌∙◌, ℕ, ◌<◌, ◌||◌, List, [], ◌∷◌, ◌++◌, map, length, append-nil, refl, sym, ap, inl, inr, arith}
use Rattle.std.specs.Prelude.{slice_index_or}
use Rattle.std.specs.List.{list_any}
use Rattle.std.proofs.lemmas.Bool.{cases_lt, or_cases, or_left, or_right}
use Rattle.std.proofs.lemmas.List.{get_or_append_left, length-append, map-append}
use Rattle.std.proofs.lemmas.List.Elements.{filter-append}
use Rattle.std.proofs.Math.Seq.{get_or-append_seam}
use Rattle.page_tables.specs.declared.address.Addr.{Addr}
use Rattle.page_runs.specs.Covered.{covers}
use Rattle.heap_graph.specs.declared.names.Place.TheVariants.{Young}
use Rattle.heap_graph.specs.declared.names.Shape.{Shape}
use Rattle.heap_graph.specs.declared.names.Stored.{Stored}
use Rattle.heap_graph.specs.Allocation.{with_object}
use Rattle.heap_graph.specs.Graph.{is_young, size_of_object, Graph, Object}
use Rattle.heap_graph.specs.Packing.{places_from, young_objects, young_sizes}
use Rattle.heap_graph.specs.Sizes.{size_in}
use Rattle.region_lists.specs.Rows.{Lists, Row}
use Rattle.region_space.specs.Packed.{address_in, Pack}
use Rattle.region_space.specs.Space.{holds_page, IsSize, Places}
use Rattle.region_space.proofs.LieLemmas.{pages-grown}
use Rattle.object_moves.specs.Copies.{at_of, PacksAt}

-- a new young object is the last of the young ones
pub young-push : (g : Graph) (shape : Shape) (slots : List Stored)
    → young_objects (with_object g shape slots Young) ≡ young_objects g ++ record { number = g.next; shape = shape; slots = slots; place = Young } ∷ []
young-push g shape slots = filter-append (λ (o : Object). is_young o.place) g.objects (record { number = g.next; shape = shape; slots = slots; place = Young } ∷ [])

pub sizes-push : (g : Graph) (shape : Shape) (slots : List Stored) → young_sizes (with_object g shape slots Young) ≡ young_sizes g ++ size_in g.classes shape ∷ []
sizes-push g shape slots =
    ap (map (size_of_object g.classes)) (young-push g shape slots)
    ∙ map-append (size_of_object g.classes) (young_objects g) (record { number = g.next; shape = shape; slots = slots; place = Young } ∷ [])

-- the pages of the rows in use, with an object more
pub in_use-grown : (old new : Lists) (at size p : ℕ) → IsSize size → Places old new at size → list_any (holds_page p) new.in_use ≡ (list_any (holds_page p) old.in_use || covers at size p)
in_use-grown old new at size p fits places =
    let few : Lists = record old { from = [] } in
    let more : Lists = record new { from = [] } in
    let same : Places few more at size = record { region = places.region; free = places.free; in_use = places.in_use; spot = places.spot; from = refl; count = places.count } in
    ap (list_any (holds_page p)) (sym (append-nil new.in_use)) ∙ pages-grown few more at size p fits same
    ∙ ap (λ (rows : List Row). list_any (holds_page p) rows || covers at size p) (append-nil old.in_use)

-- the rows pack one object more
pub packs-push : (rows more : List Row) (sizes : List ℕ) (ats : List Addr) (size : ℕ) (a : Addr) → length sizes ≡ length ats → PacksAt rows sizes ats → Pack more (sizes ++ size ∷ [])
    → map (λ (a : Addr). a.0) (ats ++ a ∷ []) ≡ map (address_in more) (places_from 0 (sizes ++ size ∷ []))
    → ((p : ℕ) → list_any (holds_page p) more ≡ (list_any (holds_page p) rows || covers a.0 size p)) → PacksAt more (sizes ++ size ∷ []) (ats ++ a ∷ [])
packs-push rows more sizes ats size a same packs pack places pages = record {
  pack = pack;
  places = places;
  each = λ p i below is. elim (cases_lt i (length ats)) [
    | inl early ↦ pages p ∙ or_left (list_any (holds_page p) rows) (covers a.0 size p) (packs.each p i early (sym (front p i early) ∙ is))
    | inr late ↦
        let last : i ≡ length ats = omega (arith, late, below, length-append ats (a ∷ [])) in
        pages p ∙ or_right (list_any (holds_page p) rows) (covers a.0 size p) (sym (seam p) ∙ ap (λ j. covers (at_of (ats ++ a ∷ []) j) (slice_index_or (sizes ++ size ∷ []) j 0) p) (sym last) ∙ is)
  ];
  covered = λ p is. elim (or_cases (list_any (holds_page p) rows) (covers a.0 size p) (sym (pages p) ∙ is)) [
    | inl old ↦ let it = packs.covered p old in (it.0, omega (arith, it.1, length-append ats (a ∷ [])), front p it.0 it.1 ∙ it.2)
    | inr new ↦ (length ats, omega (arith, length-append ats (a ∷ [])), seam p ∙ new)
  ];
}
  where
    none : Addr
    none = record { 0 = 0 }

    front : (p i : ℕ) → i < length ats → covers (at_of (ats ++ a ∷ []) i) (slice_index_or (sizes ++ size ∷ []) i 0) p ≡ covers (at_of ats i) (slice_index_or sizes i 0) p
    front p i early =
        ap (λ (x : Addr). covers x.0 (slice_index_or (sizes ++ size ∷ []) i 0) p) (get_or_append_left ats (a ∷ []) none i early)
        ∙ ap (λ n. covers (at_of ats i) n p) (get_or_append_left sizes (size ∷ []) 0 i (omega (arith, early, same)))

    seam : (p : ℕ) → covers (at_of (ats ++ a ∷ []) (length ats)) (slice_index_or (sizes ++ size ∷ []) (length ats) 0) p ≡ covers a.0 size p
    seam p =
        ap (λ (x : Addr). covers x.0 (slice_index_or (sizes ++ size ∷ []) (length ats) 0) p) (get_or-append_seam ats a [] none)
        ∙ ap (λ j. covers a.0 (slice_index_or (sizes ++ size ∷ []) j 0) p) (sym same) ∙ ap (λ n. covers a.0 n p) (get_or-append_seam sizes size [] 0)
