use Rattle.std.proofs.Common.{◌≡◌, false, ℕ, ◌<◌, List, length, map, slice_index, get_or, sym, ap, subst, ◌∙◌, to_z, of_z, rules}
use Rattle.std.specs.Prelude.{ℤ, IsTrue}
use Rattle.std.specs.Int.{w64}
use Rattle.std.proofs.lemmas.Int.{to_z-of_z}
use Rattle.std.proofs.lemmas.List.{length-map}
use Rattle.class_layout.specs.declared.kind.FieldAt.{FieldAt}
use Rattle.class_layout.specs.declared.kind.Kind.{Kind}
use Rattle.heap_graph.specs.declared.names.Content.{Content}
use Rattle.heap_graph.specs.Graph.{Graph, Object}
use Rattle.heap_graph.specs.Table.{Fits}
use Rattle.heap_graph.specs.Values.{value_at}
use Rattle.heap_graph.specs.Formed.{IsFormed}
use Rattle.object_view.specs.Seen.{seen_value, value_in, HasValue}
use Rattle.object_view.specs.Values.{is_value}
use Rattle.plain_view.specs.Viewed.{first_table, Viewed}
use Rattle.plain_view.proofs.Found.{index-there}
use Rattle.plain_view.proofs.Shown.{first-fits}
use Rattle.plain_view.proofs.Values.{value-fits, value-there}
use Rattle.plain_view.proofs.view.View.value_of.Goals as goal

pub index_of-i-requires : goal.index_of-i-requires
index_of-i-requires c =
    let g : Graph = c.self.inside.graph.now in
    let e : c.args.self.now.graph ≡ g = sym (ap (λ (w : Viewed). w.graph) c.self.view_is) in
    let there = c.requires in
    let has : HasValue g (first_table g) c.args.at.0 c.args.kind c.args.offset there.0 there.1 =
    subst (λ (h : Graph). HasValue h (first_table h) c.args.at.0 c.args.kind c.args.offset there.0 there.1) e there.2 in
    index-there g c.self.inside.addresses.items c.deref.result.now c.args.at.0 there.0 c.self.invariant.1 c.deref.ensures.value has.is_in has.at_is

-- what is read, of what the code knows
read : (inside g : Graph) (items xs : List ℕ) (os : List Object) (i at : ℕ) (r : Object) (kind : Kind) (offset : ℕ) (v : Content) (z : ℤ) → inside ≡ g → IsFormed inside
    → items ≡ map (λ o. first_table inside o.number) inside.objects → xs ≡ items → (i < length xs) × (slice_index xs i ≡ at) → os ≡ inside.objects → r ≡ get_or os i r
    → v ≡ value_at r.slots (record { kind = kind; offset = offset; weak = false }) → z ≡ seen_value (first_table g) v
    → (o : Object) (place : FieldAt) → HasValue g (first_table g) at kind offset o place → (z ≡ value_in (first_table g) o place) × IsTrue (is_value kind z)
read inside g items xs os i at r kind offset v z e formed is same found objects r-is v-is z-is o place has =
    let formed' : IsFormed g = subst IsFormed e formed in
    let is' : items ≡ map (λ o. first_table g o.number) g.objects = is ∙ ap (λ (x : Graph). map (λ o. first_table x o.number) x.objects) e in
    let inside_map : i < length (map (λ o. first_table g o.number) g.objects) = subst (λ (ys : List ℕ). i < length ys) (same ∙ is') found.0 in
    let less : i < length g.objects = simp length-map at inside_map in
    let value = value-there g items i at r kind offset v z formed' is' less (ap (λ ys. slice_index ys i) (sym same) ∙ found.1)
    (r-is ∙ ap (λ ys. get_or ys i r) (objects ∙ ap (λ (x : Graph). x.objects) e)) v-is z-is o place has in
    let fits : Fits (first_table g) g = first-fits g formed' in
    (value, subst (λ (y : ℤ). IsTrue (is_value kind y)) (sym value) (value-fits g (first_table g) at kind offset o place formed' fits.below has))

pub returns-clause-value : goal.returns-clause-value
returns-clause-value c = λ o place has.
    let e : c.self.inside.graph.now ≡ c.args.self.now.graph = ap (λ (w : Viewed). w.graph) c.self.view_is in
    let back : to_z w64 (of_z w64 c.seen_value.result) ≡ c.seen_value.result = to_z-of_z w64 c.seen_value.result (search rules) in
    back ∙ (read c.self.inside.graph.now c.args.self.now.graph c.self.inside.addresses.items c.deref.result.now c.objects.result.now c.index_of-i.result c.args.at.0 c.index-objects-i.result
    c.args.kind c.args.offset c.value_at.result c.seen_value.result e c.self.invariant.0 c.self.invariant.1 c.deref.ensures.value c.index_of-i.ensures c.objects.ensures c.index-objects-i.is
    c.value_at.ensures c.seen_value.ensures o place has).0

pub returns-clause-range : goal.returns-clause-range
returns-clause-range c =
    let e : c.self.inside.graph.now ≡ c.args.self.now.graph = ap (λ (w : Viewed). w.graph) c.self.view_is in
    let back : to_z w64 (of_z w64 c.seen_value.result) ≡ c.seen_value.result = to_z-of_z w64 c.seen_value.result (search rules) in
    let there = c.requires in
    subst (λ (y : ℤ). IsTrue (is_value c.args.kind y)) (sym back)
    (read c.self.inside.graph.now c.args.self.now.graph c.self.inside.addresses.items c.deref.result.now c.objects.result.now c.index_of-i.result c.args.at.0 c.index-objects-i.result
    c.args.kind c.args.offset c.value_at.result c.seen_value.result e c.self.invariant.0 c.self.invariant.1 c.deref.ensures.value c.index_of-i.ensures c.objects.ensures c.index-objects-i.is
    c.value_at.ensures c.seen_value.ensures there.0 there.1 there.2).1
