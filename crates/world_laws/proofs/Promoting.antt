-- What a fork leaves: objects that are immune, in the places of promoted ones.
use Rattle.std.proofs.Common.{◌≡◌, ℕ, ◌+◌, ◌/◌, ◌≤◌, Bool, true, false, cond, ◌&&◌, ◌||◌, List, [], ◌∷◌, filter, length, map, sum, nat_eq, nat_lt, refl, sym, ap, subst, ◌∙◌, arith}
use Rattle.std.specs.List.{AllByRecursion}
use Rattle.model_numbers.specs.Numbers.{page_bytes, zygote_base}
use Rattle.class_layout.specs.ClassList.{Class}
use Rattle.heap_graph.specs.declared.names.Place.{Place}
use Rattle.heap_graph.specs.declared.names.Place.TheVariants as place
use Rattle.heap_graph.specs.Collection.{collect}
use Rattle.heap_graph.specs.Fork.{next_spot, promoted, promoted_from, promoted_place, promotion_start}
use Rattle.heap_graph.specs.Graph.{Graph, Object, is_immune, is_young, size_of_object, zygote_fill}
use Rattle.heap_graph.specs.Packing.{places_from}
use Rattle.heap_graph.specs.Sizes.{parts_for, unrounded}
use Rattle.heap_graph.proofs.Totals.{sum-total, total}
use Rattle.heap_world.specs.declared.names.PageName.{PageName}
use Rattle.heap_world.specs.declared.names.PageName.TheVariants.{Image, Zygote, Large}
use Rattle.heap_world.specs.declared.reply.Reply.TheVariants as reply
use Rattle.heap_world.specs.Acts.{fork_part}
use Rattle.heap_world.specs.Pages.{all_covered, distinct, is_touched, large_page_count, own_page_count, zygote_pages}
use Rattle.heap_world.specs.Part.{Part}
use Rattle.world_laws.specs.Named.{is_paged, is_waiting, waits}
use Rattle.world_laws.specs.Promotions.{ArePromoted, IsPromotedTo}
use Rattle.world_laws.proofs.PageLists.{in_count_at}
use Rattle.world_laws.proofs.StandingLists.{none_from}
use Rattle.world_laws.proofs.Walk.{fork_walk}

-- nothing young is left, and nothing that costs pages of its own
no_young : (cs : List Class) (at : ℕ) (os : List Object) → filter (λ o. is_young o.place) (promoted_from cs at os) ≡ []
no_young cs at [] = refl
no_young cs at (o ∷ os) = ap (λ b. cond b (record o { place = promoted_place at o.place } ∷ rest) rest) (by o.place) ∙ no_young cs (next_spot at (size_of_object cs o) o.place) os
  where
    rest : List Object
    rest = filter (λ x. is_young x.place) (promoted_from cs (next_spot at (size_of_object cs o) o.place) os)

    by : (q : Place) → is_young (promoted_place at q) ≡ false
    by (place.Image spot) = refl
    by (place.Zygote spot) = refl
    by place.Young = refl
    by place.Large = refl
    by place.Promoted = refl

no_large : (cs : List Class) (at : ℕ) (os : List Object) → total (λ o. large_page_count cs o o.place) (promoted_from cs at os) ≡ 0
no_large cs at [] = refl
no_large cs at (o ∷ os) = omega (arith, by o.place, no_large cs (next_spot at (size_of_object cs o) o.place) os)
  where
    by : (q : Place) → large_page_count cs (record o { place = promoted_place at q }) (promoted_place at q) ≡ 0
    by (place.Image spot) = refl
    by (place.Zygote spot) = refl
    by place.Young = refl
    by place.Large = refl
    by place.Promoted = refl

pub none_own : (g : Graph) → own_page_count (promoted g) ≡ 0
none_own g =
    let cs : List Class = g.classes in
    let os : List Object = (promoted g).objects in
    let young = ap (λ ys. length (distinct (all_covered (places_from 0 (map (size_of_object cs) ys)) (map (size_of_object cs) ys)))) (no_young cs (promotion_start g) g.objects) in
    let large = sum-total (λ o. large_page_count cs o o.place) os ∙ no_large cs (promotion_start g) g.objects in
    ap (λ n. n + sum (map (λ o. large_page_count cs o o.place) os)) young ∙ ap (λ n. 0 + n) large

-- nor anything that waits
no_waiting : (cs : List Class) (at n k : ℕ) (os : List Object) → is_paged is_waiting cs (promoted_from cs at os) n k ≡ false
no_waiting cs at n k [] = refl
no_waiting cs at n k (o ∷ os) =
    ap (λ s. (nat_eq o.number n && (s && nat_lt k (parts_for page_bytes (unrounded cs o.shape)))) || is_paged is_waiting cs (promoted_from cs (next_spot at (size_of_object cs o) o.place) os) n k) (by o.place)
    ∙ ap (λ b. b || is_paged is_waiting cs (promoted_from cs (next_spot at (size_of_object cs o) o.place) os) n k) (and_none (nat_eq o.number n))
    ∙ no_waiting cs (next_spot at (size_of_object cs o) o.place) n k os
  where
    and_none : (b : Bool) → (b && false) ≡ false
    and_none true = refl
    and_none false = refl

    by : (q : Place) → is_waiting (promoted_place at q) ≡ false
    by (place.Image spot) = refl
    by (place.Zygote spot) = refl
    by place.Young = refl
    by place.Large = refl
    by place.Promoted = refl

pub none_wait : (g : Graph) (a : PageName) → waits (promoted g) a ≡ false
none_wait g (Image k) = refl
none_wait g (Zygote k) = refl
none_wait g (Large n k) = no_waiting g.classes (promotion_start g) n k g.objects

-- each is immune
pub all_immune : (cs : List Class) (at : ℕ) (os : List Object) → AllByRecursion (λ o. is_immune true o.place ≡ true) (promoted_from cs at os)
all_immune cs at [] = tt
all_immune cs at (o ∷ os) = (by o.place, all_immune cs (next_spot at (size_of_object cs o) o.place) os)
  where
    by : (q : Place) → is_immune true (promoted_place at q) ≡ true
    by (place.Image spot) = refl
    by (place.Zygote spot) = refl
    by place.Young = refl
    by place.Large = refl
    by place.Promoted = refl

-- and is what it was, at a place that a promotion gives
are_promoted : (cs : List Class) (least at : ℕ) (os : List Object) → least ≤ at → ArePromoted (zygote_base + least) os (promoted_from cs at os)
are_promoted cs least at [] le = tt
are_promoted cs least at (o ∷ os) le =
    (record { number = refl; shape = refl; slots = refl; place = by o.place }, are_promoted cs least (next_spot at (size_of_object cs o) o.place) os (later o.place))
  where
    by : (q : Place) → IsPromotedTo (zygote_base + least) q (promoted_place at q)
    by (place.Image spot) = refl
    by (place.Zygote spot) = refl
    by place.Young = (zygote_base + at, omega (arith, le), refl)
    by place.Large = refl
    by place.Promoted = refl

    later : (q : Place) → least ≤ next_spot at (size_of_object cs o) q
    later (place.Image spot) = le
    later (place.Zygote spot) = le
    later place.Young = omega (arith, le)
    later place.Large = le
    later place.Promoted = le

pub fork_immune : (p : Part) → p.graph.sealed ≡ true → (fork_part p).reply ≡ reply.Done → AllByRecursion (λ o. is_immune (fork_part p).part.graph.sealed o.place ≡ true) (fork_part p).part.graph.objects
fork_immune p sealed = fork_walk p (λ e. e.reply ≡ reply.Done → AllByRecursion (λ o. is_immune e.part.graph.sealed o.place ≡ true) e.part.graph.objects)
    (λ room done. subst (λ b. AllByRecursion (λ o. is_immune b o.place ≡ true) (promoted (collect p.graph)).objects) (sym sealed) (all_immune p.graph.classes (promotion_start (collect p.graph)) (collect p.graph).objects))
    (λ full done. absurd cc)

pub fork_objects : (p : Part) → (fork_part p).reply ≡ reply.Done → ArePromoted (zygote_base + promotion_start (collect p.graph)) (collect p.graph).objects (fork_part p).part.graph.objects
fork_objects p = fork_walk p (λ e. e.reply ≡ reply.Done → ArePromoted (zygote_base + promotion_start (collect p.graph)) (collect p.graph).objects e.part.graph.objects)
    (λ room done. are_promoted p.graph.classes (promotion_start (collect p.graph)) (promotion_start (collect p.graph)) (collect p.graph).objects (omega arith))
    (λ full done. absurd cc)

pub fork_rest : (p : Part) → (fork_part p).reply ≡ reply.Done → (fork_part p).part.graph ≡ record (collect p.graph) { objects = (fork_part p).part.graph.objects }
fork_rest p = fork_walk p (λ e. e.reply ≡ reply.Done → e.part.graph ≡ record (collect p.graph) { objects = e.part.graph.objects }) (λ room done. refl) (λ full done. refl)

-- from where they begin no page stood
pub page_behind : (g : Graph) (at : ℕ) → promotion_start g ≤ at → is_touched (zygote_pages g) (Zygote (at / page_bytes)) ≡ false
page_behind g at le = none_from (is_touched (zygote_pages g) (Zygote (at / page_bytes))) (λ h.
    let found = in_count_at Zygote 0 (parts_for page_bytes (zygote_fill g)) (Zygote (at / page_bytes)) h in
    let same : at / page_bytes ≡ found.0 = same_number (at / page_bytes) found.0 found.3 in
    omega (arith, le, found.2, same))
  where
    same_number : (j k : ℕ) → Zygote j ≡ Zygote k → j ≡ k
    same_number j k e = cc
