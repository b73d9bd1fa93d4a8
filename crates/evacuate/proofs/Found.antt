-- The raw objects that stand for those of a graph, and what references lead to.
use Rattle.std.proofs.Common.{◌≡◌, ◌∙◌, ℕ, true, List, [], ◌∷◌, refl, sym, ap, subst, inl, inr, true≢false, pos}
use Rattle.std.specs.Prelude.{nat_eq, ◌||◌}
use Rattle.std.proofs.lemmas.Bool.{eq-eqb, eqb-true}
use Rattle.class_layout.specs.declared.kind.Kind.TheVariants.{Ref}
use Rattle.class_layout.specs.declared.kind.FieldAt.{FieldAt}
use Rattle.class_layout.specs.Placing.{IsIn}
use Rattle.heap_graph.specs.declared.names.Content.{Content}
use Rattle.heap_graph.specs.declared.names.Content.TheVariants as content
use Rattle.heap_graph.specs.declared.names.Held.{Held}
use Rattle.heap_graph.specs.declared.names.Held.TheVariants as held
use Rattle.heap_graph.specs.Formed.{FitsKind, IsFormed}
use Rattle.heap_graph.specs.Graph.{Graph, Object}
use Rattle.heap_graph.specs.Paths.{numbers}
use Rattle.heap_graph.specs.Places.{places_of}
use Rattle.heap_graph.specs.Reach.{is_among}
use Rattle.heap_graph.specs.Values.{held_targets, slot_of, targets, value_at, with_target}
use Rattle.heap_graph.proofs.Lists.{any-flat_map, any-map}
use Rattle.heap_graph.proofs.Places.{value-fits}
use Rattle.heap_graph.proofs.Slots.{target_later}
use Rattle.object_view.specs.Seen.{seen_value, value_in}
use Rattle.raw_objects.specs.Raws.{Raws}
use Rattle.address_table.specs.Computed.{table_of, Homes, HouseAll}
use Rattle.address_table.proofs.Fitting.{fits, object-not-null}
use Rattle.graph_pages.specs.Holds.{is_at, object_on, raw_under}
use Rattle.graph_pages.proofs.Collects.{held-target}
use Rattle.graph_pages.proofs.Graphs.{found, graph-fits}
use Rattle.graph_pages.proofs.Lists.{any-from, any-to}
use Rattle.evacuate.specs.Stands.{raws_of}

pub held-one : (hs : List Held) (n : ℕ) → IsIn (held.Object n) hs → is_among (held_targets hs) n ≡ true
held-one [] n none = absurd none
held-one (x ∷ hs) n (inl e) = subst (λ (y : Held). is_among (with_target (slot_of y) (held_targets hs)) n ≡ true) (sym e) (ap (λ b. b || is_among (held_targets hs) n) (eq-eqb n n refl))
held-one (x ∷ hs) n (inr later) = target_later (slot_of x) (held_targets hs) n (held-one hs n later)

module _ (homes : Homes) (g : Graph) (formed : IsFormed g) (house : HouseAll homes g) where
  abbrev table : ℕ → ℕ
  table = table_of homes g

  abbrev raws : Raws
  raws = raws_of homes g

  -- the raw object at an object's address
  pub raw-there : (o : Object) → IsIn o g.objects → ((raws_of homes g).has (table_of homes g o.number) ≡ true) × ((raws_of homes g).raw (table_of homes g o.number) ≡ raw_under (table_of homes g) o)
  raw-there o there = graph-fits g.classes table g.objects (fits homes g formed house).apart o there

  -- the object of a raw one
  pub record ObjectAt (a : ℕ) : Type 0 where
    pub object : Object
    pub is_in : IsIn object g.objects
    pub at_is : table_of homes g object.number ≡ a

  pub object-at : (a : ℕ) → (raws_of homes g).has a ≡ true → ObjectAt a
  object-at a has =
      let it = found (is_at table a) g.objects has in
      let o : Object = object_on table g.objects a in
      record { object = o; is_in = it.0; at_is = eqb-true (table o.number) a it.1 }

  pub null-not : (raws_of homes g).has 0 ≡ true → ⊥
  null-not has = let it = object-at 0 has in object-not-null homes g formed house it.object it.is_in it.at_is

  -- an object of the number
  pub numbered : (n : ℕ) → is_among (numbers g.objects) n ≡ true → (o : Object) × IsIn o g.objects × (o.number ≡ n)
  numbered n is =
      let it = any-from (λ o. nat_eq n o.number) g.objects (sym (any-map (λ o. o.number) (nat_eq n) g.objects) ∙ is) in
      (it.0, it.1, sym (eqb-true n it.0.number it.2))

  pub target-in : (o : Object) (p : FieldAt) (n : ℕ) → IsIn o g.objects → value_at o.slots p ≡ content.Object n → (q : Object) × IsIn q g.objects × (q.number ≡ n)
  target-in o p n there is =
      numbered n (formed.closed.slots n (any-flat_map (λ q. targets q.slots) (nat_eq n) g.objects ∙ any-to (λ q. is_among (targets q.slots) n) g.objects o there (held-target o.slots p n is)))

  -- what a reference leads to
  pub record Target (o : Object) (p : FieldAt) (b : ℕ) : Type 0 where
    pub object : Object
    pub is_in : IsIn object g.objects
    pub at_is : table_of homes g object.number ≡ b
    pub value_is : value_at o.slots p ≡ content.Object object.number

  pub target : (o : Object) (p : FieldAt) (b : ℕ) → IsIn o g.objects → IsIn p (places_of g.classes o.shape) → p.kind ≡ Ref → value_in (table_of homes g) o p ≡ pos b → (raws_of homes g).has b ≡ true → Target o p b
  target o p b there within kind value has = by (value_at o.slots p) refl value (subst (λ k. FitsKind k (value_at o.slots p)) kind (value-fits g o p formed there within))
    where
      by : (s : Content) → value_at o.slots p ≡ s → seen_value table s ≡ pos b → FitsKind Ref s → Target o p b
      by (content.Number z) e is fit = absurd (true≢false (sym fit))
      by content.Null e is fit = let zero_is : 0 ≡ b = cc in absurd (null-not (subst (λ c. raws.has c ≡ true) (sym zero_is) has))
      by (content.Object n) e is fit =
          let same : table n ≡ b = cc in
          let it = target-in o p n there e in
          record { object = it.0; is_in = it.1; at_is = ap table it.2 ∙ same; value_is = e ∙ ap (λ k. content.Object k) (sym it.2) }
