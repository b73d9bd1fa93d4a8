-- A graph whose pages hold it, after a store and with a new object.
use Rattle.std.proofs.Common.{◌≡◌, ◌∙◌, ℕ, ◌+◌, ◌%◌, ◌^◌, ◌<◌, IsTrue, sym, ap, arith}
use Rattle.class_layout.specs.declared.kind.Kind.{Kind}
use Rattle.class_layout.specs.declared.kind.Kind.TheVariants.{Ref, Boolean, Byte, Char, Short, Int, Long}
use Rattle.class_layout.specs.declared.kind.FieldAt.{FieldAt}
use Rattle.class_layout.specs.Kinds.{kind_bytes}
use Rattle.page_tables.specs.Address.{page_of}
use Rattle.cow_pages.specs.Memory.{is_mapped, Memory}
use Rattle.cow_pages.specs.View.{view_of}
use Rattle.heap_graph.specs.declared.names.Stored.{Stored}
use Rattle.heap_graph.specs.Graph.{Graph, Object}
use Rattle.heap_world.specs.Acts.{stored_in, with_slot}
use Rattle.object_view.specs.Seen.{HasValue}
use Rattle.heap_graph.proofs.Places.{bytes-low}
use Rattle.object_view.proofs.Laid.{place-within}
use Rattle.address_table.specs.Computed.{table_of, Homes}
use Rattle.graph_pages.specs.Holds.{HoldsGraph}
use Rattle.graph_pages.specs.Pages.{PagesHold}
use Rattle.graph_pages.proofs.Computed.{same-tables, table-stored}
use Rattle.graph_pages.proofs.Graphs.{graph-same}
use Rattle.graph_pages.proofs.Paged.{bytes-same, bytes-stored}

-- a place of an object stands at a multiple of its kind's size
aligned-place : (kind : Kind) (at offset : ℕ) → at % 8 ≡ 0 → offset % kind_bytes kind ≡ 0 → (at + offset) % kind_bytes kind ≡ 0
aligned-place Ref at offset a b = omega (arith, a, b)
aligned-place Boolean at offset a b = omega (arith, a, b)
aligned-place Byte at offset a b = omega (arith, a, b)
aligned-place Char at offset a b = omega (arith, a, b)
aligned-place Short at offset a b = omega (arith, a, b)
aligned-place Int at offset a b = omega (arith, a, b)
aligned-place Long at offset a b = omega (arith, a, b)

-- what a store wants of the place of an object that is held
pub record Storable (m : Memory) (t at : ℕ) (kind : Kind) (offset : ℕ) : Type 0 where
  pub below : at + offset < 2 ^ 32
  pub aligned : (at + offset) % kind_bytes kind ≡ 0
  pub mapped : IsTrue (is_mapped m t (page_of (at + offset)))

pub storable : (m : Memory) (t at : ℕ) (kind : Kind) (offset : ℕ) (homes : Homes) (g : Graph) (o : Object) (place : FieldAt) → PagesHold m t homes g
    → HasValue g (table_of homes g) at kind offset o place → Storable m t at kind offset
storable m t at kind offset homes g o place h is =
    let stands = h.objects.stands o is.is_in in
    let within = place-within g.classes o.shape kind offset place is.is_place in
    let at_is : table_of homes g o.number ≡ at = is.at_is in
    let low = bytes-low kind in
    record {
      below = omega (arith, stands.space.below, within.2, at_is, low);
      aligned = aligned-place kind at offset (ap (λ a. a % 8) (sym at_is) ∙ stands.aligned) within.1;
      mapped = ap (λ a. is_mapped m t (page_of (a + offset))) (sym at_is) ∙ stands.space.mapped offset (omega (arith, within.2, low));
    }

-- the graph with a slot stored is held at the same addresses
pub held-stored : (old new : Memory) (t : ℕ) (homes : Homes) (g : Graph) (n : ℕ) (s : Stored) → PagesHold old t homes g → ((q : ℕ) → is_mapped new t q ≡ is_mapped old t q)
    → HoldsGraph g.classes (view_of new t) (table_of homes g) (stored_in g.objects n s) → PagesHold new t homes (with_slot g n s)
held-stored old new t homes g n s h same objects =
    let moves : (k : ℕ) → table_of homes (with_slot g n s) k ≡ table_of homes g k = λ k. table-stored homes g.classes k n s 0 0 g.objects in
    record {
      objects = graph-same g.classes (view_of new t) (table_of homes g) (table_of homes (with_slot g n s)) (stored_in g.objects n s) objects
          (same-tables (table_of homes g) (table_of homes (with_slot g n s)) (stored_in g.objects n s) moves);
      pages = λ w p inside. same p ∙ h.pages w p inside ∙ sym (bytes-stored g.classes (table_of homes g) p n s g.objects)
          ∙ sym (bytes-same g.classes (table_of homes g) (table_of homes (with_slot g n s)) p (stored_in g.objects n s) (λ o there. moves o.number));
    }
