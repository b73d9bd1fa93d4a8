-- What depends on the classes of a list of objects stays where more classes come behind them: sizes, addresses, rows and pages.
use Rattle.std.proofs.Common.{◌≡◌, ◌∙◌, ◌+◌, ◌-◌, ◌&&◌, ℕ, Bool, true, false, cond, slice_index, List, [], ◌∷◌, ◌++◌, nat_eq, nat_le, nat_lt, refl, sym, ap, subst, inl, inr, arith}
use Rattle.std.specs.List.{list_any}
use Rattle.model_numbers.specs.Numbers.{page_bytes}
use Rattle.class_layout.specs.ClassList.{Class}
use Rattle.class_layout.specs.Kinds.{next_multiple}
use Rattle.class_layout.specs.Placing.{IsIn}
use Rattle.class_layout.proofs.Layouts.{layout_of-push_old}
use Rattle.page_tables.specs.Address.{page_of}
use Rattle.cow_pages.specs.Memory.{Memory}
use Rattle.cow_pages.specs.View.{view_of, View}
use Rattle.heap_graph.specs.declared.names.Place.{Place}
use Rattle.heap_graph.specs.declared.names.Place.TheVariants as place
use Rattle.heap_graph.specs.declared.names.Shape.{Shape}
use Rattle.heap_graph.specs.declared.names.Shape.TheVariants.{Instance, Array}
use Rattle.heap_graph.specs.Graph.{Graph, Object, size_of_object}
use Rattle.heap_graph.specs.Packing.{after}
use Rattle.heap_graph.specs.Packing as packing
use Rattle.heap_graph.specs.Sizes.{parts_for, unrounded}
use Rattle.object_view.specs.Objects.{IsKnown}
use Rattle.object_view.proofs.Standing.{known-more, places-more, Stands-classes}
use Rattle.world_laws.specs.Named.{has_page, is_paged}
use Rattle.address_table.specs.Computed.{address_in, end_behind, large_behind, packed_at, table_from, table_of, Homes}
use Rattle.graph_pages.specs.Holds.{raw_under, HoldsGraph}
use Rattle.graph_pages.specs.Pages.{has_bytes_in, PagesHold}
use Rattle.graph_pages.proofs.Lists.{any-same}
use Rattle.large_objects.specs.declared.rows.LargeRow.{LargeRow}
use Rattle.evacuate.specs.Stands.{rows_from, with_row}

-- functions with the same values are the same
same-function : (f g : ℕ → ℕ) → ((n : ℕ) → f n ≡ g n) → f ≡ g
same-function f g each = λ i n. each n i

-- a shape whose class is there ends where it did
bytes-more : (cs more : List Class) (shape : Shape) → IsKnown cs shape → unrounded (cs ++ more) shape ≡ unrounded cs shape
bytes-more cs more (Instance class) known = ap (λ l. l.end) (layout_of-push_old cs more class known)
bytes-more cs more (Array kind count) known = refl

module _ (cs more : List Class) where
  abbrev ds : List Class
  ds = cs ++ more

  -- the classes of all of the objects are there
  abbrev AreKnown : List Object → Type 0
  AreKnown os = (o : Object) → IsIn o os → IsKnown cs o.shape

  bytes : (o : Object) → IsKnown cs o.shape → unrounded ds o.shape ≡ unrounded cs o.shape
  bytes o known = bytes-more cs more o.shape known

  pub size : (o : Object) → IsKnown cs o.shape → size_of_object ds o ≡ size_of_object cs o
  size o known = ap (next_multiple 8) (bytes o known)

  -- ADDRESSES

  module _ (homes : Homes) where
    address-same : (end large : ℕ) (o : Object) (at : Place) → IsKnown cs o.shape → address_in homes ds end large o at ≡ address_in homes cs end large o at
    address-same end large o (place.Image spot) known = refl
    address-same end large o (place.Zygote spot) known = refl
    address-same end large o place.Young known = ap (λ n. packed_at homes.regions (packing.place end n)) (size o known)
    address-same end large o place.Large known = refl
    address-same end large o place.Promoted known = refl

    end-same : (end : ℕ) (o : Object) (at : Place) → IsKnown cs o.shape → end_behind ds end o at ≡ end_behind cs end o at
    end-same end o (place.Image spot) known = refl
    end-same end o (place.Zygote spot) known = refl
    end-same end o place.Young known = ap (after end) (size o known)
    end-same end o place.Large known = refl
    end-same end o place.Promoted known = refl

    address-stays : (end large : ℕ) (os : List Object) (n : ℕ) → AreKnown os → table_from homes ds end large os n ≡ table_from homes cs end large os n
    address-stays end large [] n known = refl
    address-stays end large (o ∷ os) n known =
        ap (λ a. cond (nat_eq o.number n) a (table_from homes ds (end_behind ds end o o.place) (large_behind large o.place) os n)) (address-same end large o o.place (known o (inl refl)))
        ∙ ap (λ e. cond (nat_eq o.number n) (address_in homes cs end large o o.place) (table_from homes ds e (large_behind large o.place) os n)) (end-same end o o.place (known o (inl refl)))
        ∙ ap (λ a. cond (nat_eq o.number n) (address_in homes cs end large o o.place) a)
        (address-stays (end_behind cs end o o.place) (large_behind large o.place) os n (λ p there. known p (inr there)))

    pub table-stays : (os : List Object) → AreKnown os → table_from homes ds 0 0 os ≡ table_from homes cs 0 0 os
    table-stays os known = same-function (table_from homes ds 0 0 os) (table_from homes cs 0 0 os) (λ n. address-stays 0 0 os n known)

  -- ROWS

  row-same : (slots : List ℕ) (k : ℕ) (o : Object) (at : Place) (rows : List LargeRow) → IsKnown cs o.shape → with_row ds slots k o at rows ≡ with_row cs slots k o at rows
  row-same slots k o (place.Image spot) rows known = refl
  row-same slots k o (place.Zygote spot) rows known = refl
  row-same slots k o place.Young rows known = refl
  row-same slots k o place.Large rows known = ap (λ (n : ℕ). record { number = o.number; slot = slice_index slots k; bytes = n; promoted = false; marked = false } ∷ rows) (bytes o known)
  row-same slots k o place.Promoted rows known = ap (λ (n : ℕ). record { number = o.number; slot = slice_index slots k; bytes = n; promoted = true; marked = false } ∷ rows) (bytes o known)

  pub rows-stay : (slots : List ℕ) (k : ℕ) (os : List Object) → AreKnown os → rows_from ds slots k os ≡ rows_from cs slots k os
  rows-stay slots k [] known = refl
  rows-stay slots k (o ∷ os) known =
      row-same slots k o o.place (rows_from ds slots (large_behind k o.place) os) (known o (inl refl))
      ∙ ap (with_row cs slots k o o.place) (rows-stay slots (large_behind k o.place) os (λ p there. known p (inr there)))

  -- PAGES

  -- an object in such a place has the pages that it had
  pub paged-stays : (S : Place → Bool) (os : List Object) (n k : ℕ) → AreKnown os → is_paged S ds os n k ≡ is_paged S cs os n k
  paged-stays S os n k known = any-same (has_page S ds n k) (has_page S cs n k) os
      (λ o there. ap (λ b. nat_eq o.number n && (S o.place && nat_lt k (parts_for page_bytes b))) (bytes o (known o there)))

  pub objects-stay : (v : View) (table : ℕ → ℕ) (os : List Object) → HoldsGraph cs v table os → HoldsGraph ds v table os
  objects-stay v table os h = record {
    known = λ o there. known-more cs more o.shape (h.known o there);
    stands = λ o there. let r = raw_under table o in
        Stands-classes cs ds v (table o.number) r.shape r.header r.values (size o (h.known o there)) (places-more cs more o.shape (h.known o there)) (h.stands o there);
    apart = λ o p o_in p_in less. omega (arith, size o (h.known o o_in), h.apart o p o_in p_in less);
  }

  pub bytes-stay : (table : ℕ → ℕ) (p : ℕ) (os : List Object) → AreKnown os → list_any (has_bytes_in cs table p) os ≡ list_any (has_bytes_in ds table p) os
  bytes-stay table p os known = any-same (has_bytes_in cs table p) (has_bytes_in ds table p) os
      (λ o there. ap (λ n. nat_le (page_of (table o.number)) p && nat_le p (page_of (table o.number + n - 1))) (sym (size o (known o there))))

-- the pages of a table hold the graph with more classes
pub pages-stay : (m : Memory) (t : ℕ) (homes : Homes) (g : Graph) (more : List Class) → PagesHold m t homes g → PagesHold m t homes (record g { classes = g.classes ++ more })
pages-stay m t homes g more h =
    let same : table_from homes (g.classes ++ more) 0 0 g.objects ≡ table_of homes g = table-stays g.classes more homes g.objects h.objects.known in
    record {
      objects = subst (λ (f : ℕ → ℕ). HoldsGraph (g.classes ++ more) (view_of m t) f g.objects) (sym same) (objects-stay g.classes more (view_of m t) (table_of homes g) g.objects h.objects);
      pages = λ w p is. h.pages w p is ∙ bytes-stay g.classes more (table_of homes g) p g.objects h.objects.known
          ∙ ap (λ (f : ℕ → ℕ). list_any (has_bytes_in (g.classes ++ more) f p) g.objects) (sym same);
    }
