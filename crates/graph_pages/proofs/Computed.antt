-- Computed addresses, after a store and with one object more.
use Rattle.std.proofs.Common.{◌≡◌, ◌≢◌, ◌∙◌, ℕ, Bool, true, false, cond, List, [], ◌∷◌, ◌++◌, refl, sym, ap}
use Rattle.std.specs.Prelude.{nat_eq}
use Rattle.std.proofs.lemmas.Bool.{ne_eqb}
use Rattle.class_layout.specs.ClassList.{Class}
use Rattle.heap_graph.specs.declared.names.Content.{Content}
use Rattle.heap_graph.specs.declared.names.Content.TheVariants as content
use Rattle.heap_graph.specs.declared.names.Place.{Place}
use Rattle.heap_graph.specs.declared.names.Place.TheVariants.{Image, Zygote, Young, Large, Promoted}
use Rattle.heap_graph.specs.declared.names.Stored.{Stored}
use Rattle.heap_graph.specs.Graph.{Object}
use Rattle.heap_graph.specs.Values.{value_at, with_stored}
use Rattle.heap_world.specs.Acts.{stored_in, stored_in_if}
use Rattle.object_view.specs.Seen.{seen_value}
use Rattle.address_table.specs.Computed.{address_in, end_behind, large_behind, table_from, Homes}
use Rattle.graph_pages.specs.Holds.{SameTable}

module _ (homes : Homes) (cs : List Class) (k : ℕ) where
  address-stored : (end large : ℕ) (o : Object) (slots : List Stored) (at : Place) → address_in homes cs end large (record o { slots = slots }) at ≡ address_in homes cs end large o at
  address-stored end large o slots (Image spot) = refl
  address-stored end large o slots (Zygote spot) = refl
  address-stored end large o slots Young = refl
  address-stored end large o slots Large = refl
  address-stored end large o slots Promoted = refl

  end-stored : (end : ℕ) (o : Object) (slots : List Stored) (at : Place) → end_behind cs end (record o { slots = slots }) at ≡ end_behind cs end o at
  end-stored end o slots (Image spot) = refl
  end-stored end o slots (Zygote spot) = refl
  end-stored end o slots Young = refl
  end-stored end o slots Large = refl
  end-stored end o slots Promoted = refl

  -- a store moves no object
  pub table-stored : (n : ℕ) (s : Stored) (end large : ℕ) (os : List Object) → table_from homes cs end large (stored_in os n s) k ≡ table_from homes cs end large os k
  table-stored n s end large [] = refl
  table-stored n s end large (o ∷ os) = by (nat_eq o.number n) (λ e l. table-stored n s e l os)
    where
      by : (b : Bool) → ((e l : ℕ) → table_from homes cs e l (stored_in os n s) k ≡ table_from homes cs e l os k)
          → table_from homes cs end large (stored_in_if b o s ∷ stored_in os n s) k ≡ table_from homes cs end large (o ∷ os) k
      by false rest = ap (λ a. cond (nat_eq o.number k) (address_in homes cs end large o o.place) a) (rest (end_behind cs end o o.place) (large_behind large o.place))
      by true rest =
          let slots : List Stored = with_stored o.slots s in
          let behind : ℕ = large_behind large o.place in
          ap (λ a. cond (nat_eq o.number k) a (table_from homes cs (end_behind cs end (record o { slots = slots }) o.place) behind (stored_in os n s) k)) (address-stored end large o slots o.place)
          ∙ ap (λ e. cond (nat_eq o.number k) (address_in homes cs end large o o.place) (table_from homes cs e behind (stored_in os n s) k)) (end-stored end o slots o.place)
          ∙ ap (λ a. cond (nat_eq o.number k) (address_in homes cs end large o o.place) a) (rest (end_behind cs end o o.place) behind)

  -- a new object moves none of the others
  pub table-grown : (o : Object) (end large : ℕ) (os : List Object) → k ≢ o.number → table_from homes cs end large (os ++ o ∷ []) k ≡ table_from homes cs end large os k
  table-grown o end large [] ne = ap (λ b. cond b (address_in homes cs end large o o.place) 0) (ne_eqb o.number k (λ e. ne (sym e)))
  table-grown o end large (p ∷ os) ne =
      ap (λ a. cond (nat_eq p.number k) (address_in homes cs end large p p.place) a) (table-grown o (end_behind cs end p p.place) (large_behind large p.place) os ne)

value-same : (table next : ℕ → ℕ) → ((n : ℕ) → next n ≡ table n) → (c : Content) → seen_value next c ≡ seen_value table c
value-same table next same (content.Number z) = refl
value-same table next same content.Null = refl
value-same table next same (content.Object n) = ap (λ m. seen_value (λ k. m) (content.Object n)) (same n)

-- tables that have the same address for each number
pub same-tables : (table next : ℕ → ℕ) (os : List Object) → ((n : ℕ) → next n ≡ table n) → SameTable table next os
same-tables table next os same = record { numbers = λ o there. same o.number; values = λ o p there. value-same table next same (value_at o.slots p) }
