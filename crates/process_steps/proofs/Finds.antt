-- What roots and slots of a process hold is there, at its address.
use Rattle.std.proofs.Common.{◌≡◌, ◌≢◌, ◌∙◌, ℕ, ◌<◌, ◌≤◌, Bool, true, false, cond, List, [], ◌∷◌, Some, map, nat_eq, refl, sym, ap, subst, inl, inr}
use Rattle.std.specs.List.{find}
use Rattle.std.proofs.lemmas.Bool.{eqb-true}
use Rattle.model_numbers.specs.Numbers.{number_limit}
use Rattle.class_layout.specs.declared.kind.FieldAt.{FieldAt}
use Rattle.class_layout.specs.Names.{same_name}
use Rattle.class_layout.specs.Placing.{IsIn}
use Rattle.class_layout.specs.ClassList.{Class}
use Rattle.cow_pages.specs.Memory.{Memory}
use Rattle.cow_pages.specs.View.{view_of}
use Rattle.heap_graph.specs.declared.names.Content.TheVariants as content
use Rattle.heap_graph.specs.declared.names.Held.{Held}
use Rattle.heap_graph.specs.declared.names.Held.TheVariants as held
use Rattle.heap_graph.specs.declared.names.Root.{Root}
use Rattle.heap_graph.specs.Formed.{FitsKind, HasSlot}
use Rattle.heap_graph.specs.Graph.{object_at, root_at, Graph, Object}
use Rattle.heap_graph.specs.Paths.{numbers}
use Rattle.heap_graph.specs.Reach.{is_among}
use Rattle.heap_graph.specs.Values.{slot_of, value_at}
use Rattle.heap_graph.proofs.Places.{slot-place, value-fits}
use Rattle.heap_world.specs.Part.{Part}
use Rattle.heap_world.proofs.FormedAims.{closed_roots, Aims, RootsAim}
use Rattle.object_view.specs.Objects.{IsKnown}
use Rattle.address_table.proofs.Fitting.{object-not-null}
use Rattle.raw_objects.specs.Raws.{StandsRaw}
use Rattle.graph_pages.specs.Holds.{raw_under}
use Rattle.evacuate.specs.Stands.{homes_in}
use Rattle.evacuate.proofs.Found.{target-in}
use Rattle.root_list.specs.declared.root.RootAt.{RootAt}
use Rattle.root_list.specs.Roots.{held_at, holds_in}
use Rattle.process_state.specs.Stands.{StandsIn}
use Rattle.process_state.specs.State.{addresses_in, State}
use Rattle.process_state.proofs.Roots.{kept, roots-are}
use Rattle.process_steps.specs.Finding.{held_address}
use Rattle.process_steps.proofs.StoredPlace.{found-at}
use Rattle.process_steps.proofs.WithObject.{among-object}

-- a root of a list with addresses is that of the list with objects
root-found : (table : ℕ → ℕ) (gs : List Root) (name : List ℕ) → held_at (map (kept table) gs) name ≡ held_address table (root_at gs name)
root-found table [] name = refl
root-found table (g ∷ gs) name = by (same_name g.name name) (root-found table gs name)
  where
    by : (b : Bool) → held_at (map (kept table) gs) name ≡ held_address table (root_at gs name)
        → holds_in (cond b (Some (kept table g)) (find (λ (r : RootAt). same_name r.name name) (map (kept table) gs))) ≡ held_address table (cond b (Some g) (root_at gs name))
    by true rest = refl
    by false rest = rest

root-aims : (ns : List ℕ) (rs : List Root) (name : List ℕ) (r : Root) → root_at rs name ≡ Some r → RootsAim ns rs → Aims ns (slot_of r.holds)
root-aims ns [] name r is aims = absurd cc
root-aims ns (x ∷ rs) name r is aims = by (same_name x.name name) is (λ e. root-aims ns rs name r e aims.1)
  where
    by : (b : Bool) → cond b (Some x) (root_at rs name) ≡ Some r → (root_at rs name ≡ Some r → Aims ns (slot_of r.holds)) → Aims ns (slot_of r.holds)
    by true e rest = let same : x ≡ r = cc in subst (λ (y : Root). Aims ns (slot_of y.holds)) same aims.0
    by false e rest = rest e

object-found : (os : List Object) (n : ℕ) (o : Object) → find (λ (x : Object). nat_eq x.number n) os ≡ Some o → IsIn o os × (o.number ≡ n)
object-found [] n o is = absurd cc
object-found (x ∷ os) n o is = by (nat_eq x.number n) refl is (object-found os n o)
  where
    by : (b : Bool) → nat_eq x.number n ≡ b → cond b (Some x) (find (λ (x : Object). nat_eq x.number n) os) ≡ Some o → (find (λ (x : Object). nat_eq x.number n) os ≡ Some o → IsIn o os × (o.number ≡ n))
        → IsIn o (x ∷ os) × (o.number ≡ n)
    by true e found rest = let same : x ≡ o = cc in (inl same, ap (λ (y : Object). y.number) (sym same) ∙ eqb-true x.number n e)
    by false e found rest = (inr (rest found).0, (rest found).1)

module _ (s : State) (m : Memory) (p : Part) (k : StandsIn s m p) where
  abbrev table : ℕ → ℕ
  table = addresses_in s p.graph

  pub roots-found : (name : List ℕ) → held_at s.roots name ≡ held_address (addresses_in s p.graph) (root_at p.graph.roots name)
  roots-found name =
      ap (λ (rs : List RootAt). held_at rs name) (roots-are (addresses_in s p.graph) s.roots p.graph.roots k.counts.names k.heap.stands.roots) ∙ root-found (addresses_in s p.graph) p.graph.roots name

  among : (n : ℕ) → is_among (numbers p.graph.objects) n ≡ true → (o : Object) × (object_at p.graph n ≡ Some o)
  among n is =
      let it = among-object p.graph.objects n is in
      (it.0, ap (object_at p.graph) it.2 ∙ found-at p.graph it.0 k.heap.formed it.1)

  pub held-found : (name : List ℕ) (r : Root) (n : ℕ) → root_at p.graph.roots name ≡ Some r → r.holds ≡ held.Object n → (o : Object) × (object_at p.graph n ≡ Some o)
  held-found name r n is holds =
      among n (subst (λ (h : Held). Aims (numbers p.graph.objects) (slot_of h)) holds (root-aims (numbers p.graph.objects) p.graph.roots name r is (closed_roots p.graph k.heap.formed.closed)))

  pub target-found : (o : Object) (at : FieldAt) (n : ℕ) → IsIn o p.graph.objects → value_at o.slots at ≡ content.Object n → (x : Object) × (object_at p.graph n ≡ Some x)
  target-found o at n there is =
      let it = target-in (homes_in s.regions.in_use s.rows) p.graph k.heap.formed k.heap.house o at n there is in
      (it.0, ap (object_at p.graph) (sym it.2) ∙ found-at p.graph it.0 k.heap.formed it.1)

  pub stands-found : (o : Object) → IsIn o p.graph.objects → StandsRaw s.classes (view_of m s.page_table) (addresses_in s p.graph o.number) (raw_under (addresses_in s p.graph) o)
      × IsKnown s.classes o.shape × (addresses_in s p.graph o.number ≢ 0) × (1 ≤ o.number) × (o.number < number_limit)
  stands-found o there =
      let stands = k.heap.pages.objects.stands o there in (
        subst (λ (cs : List Class). StandsRaw cs (view_of m s.page_table) (addresses_in s p.graph o.number) (raw_under (addresses_in s p.graph) o)) (sym k.heap.stands.classes) stands,
        subst (λ (cs : List Class). IsKnown cs o.shape) (sym k.heap.stands.classes) (k.heap.pages.objects.known o there),
        object-not-null (homes_in s.regions.in_use s.rows) p.graph k.heap.formed k.heap.house o there,
        stands.header_fits.0,
        stands.header_fits.1,
      )

  pub fits-found : (o : Object) (at : FieldAt) → IsIn o p.graph.objects → HasSlot p.graph.classes o.shape at → FitsKind at.kind (value_at o.slots at)
  fits-found o at there slot = value-fits p.graph o at k.heap.formed there (slot-place p.graph.classes o.shape at slot)

pub found-there : (g : Graph) (n : ℕ) (o : Object) → object_at g n ≡ Some o → IsIn o g.objects × (o.number ≡ n)
found-there g n o is = object-found g.objects n o is
