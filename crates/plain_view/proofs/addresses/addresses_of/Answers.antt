use Rattle.std.proofs.Common.{◌≡◌, ℕ, ◌*◌, ◌^◌, ◌<◌, ◌≤◌, List, [], ◌∷◌, ◌++◌, ap, sym, subst, ◌∙◌, append_assoc, arith}
use Rattle.class_layout.specs.ClassList.{Class}
use Rattle.heap_graph.specs.Graph.{Object}
use Rattle.heap_graph.specs.Formed.{AreObjects}
use Rattle.model_numbers.specs.Numbers.{large_slot_count, most_regions, region_bytes}
use Rattle.address_table.specs.Computed.{address_in, addresses_from, end_behind, first_homes, large_behind, large_count, Homes}
use Rattle.address_table.proofs.Behind.{count-rises, last-rises, last_end}
use Rattle.plain_view.proofs.addresses.addresses_of.Goals as goal

-- what is known in front of an object
record Known (cs : List Class) (budget : ℕ) (end large : ℕ) (os : List Object) : Type 0 where
  objects : AreObjects cs os
  young : last_end cs end os ≤ region_bytes * budget
  large_few : large_count large os ≤ large_slot_count

-- the ends so far lie within the window
end-small : (cs : List Class) (budget end : ℕ) (os : List Object) → budget ≤ most_regions → last_end cs end os ≤ region_bytes * budget → end < 2 ^ 32
end-small cs budget end os few young = omega (arith, last-rises cs end os, young, few)

pub address_in-requires-clause-end : goal.address_in-requires-clause-end
address_in-requires-clause-end c =
    let inv = c.loop-o.invariant in
    end-small c.args.classes.now c.args.budget c.loop-o.end c.loop-o.rest.now c.requires.few_regions inv.young

pub address_in-requires-clause-large : goal.address_in-requires-clause-large
address_in-requires-clause-large c = let inv = c.loop-o.invariant in omega (arith, count-rises c.loop-o.large c.loop-o.rest.now, inv.large)

pub end_behind-end-requires-clause-end : goal.end_behind-end-requires-clause-end
end_behind-end-requires-clause-end c =
    let inv = c.loop-o.invariant in
    end-small c.args.classes.now c.args.budget c.loop-o.end c.loop-o.rest.now c.requires.few_regions inv.young

pub large_behind-large-requires : goal.large_behind-large-requires
large_behind-large-requires c = let inv = c.loop-o.invariant in record { few = omega (arith, count-rises c.loop-o.large c.loop-o.rest.now, inv.large) }

-- one more address
next-so-far : (homes : Homes) (cs : List Class) (end large : ℕ) (o : Object) (more rest : List Object) (items new whole : List ℕ) (address next_end next_large : ℕ)
    → rest ≡ o ∷ more → address ≡ address_in homes cs end large o o.place → next_end ≡ end_behind cs end o o.place → next_large ≡ large_behind large o.place
    → new ≡ items ++ address ∷ [] → items ++ addresses_from homes cs end large rest ≡ whole → new ++ addresses_from homes cs next_end next_large more ≡ whole
next-so-far homes cs end large o more rest items new whole address next_end next_large is at e l pushed so_far =
    ap (λ ns. ns ++ addresses_from homes cs next_end next_large more) pushed
    ∙ append_assoc items (address ∷ []) (addresses_from homes cs next_end next_large more)
    ∙ ap (λ n. items ++ n ∷ addresses_from homes cs next_end next_large more) at
    ∙ ap (λ n. items ++ address_in homes cs end large o o.place ∷ addresses_from homes cs n next_large more) e
    ∙ ap (λ n. items ++ address_in homes cs end large o o.place ∷ addresses_from homes cs (end_behind cs end o o.place) n more) l
    ∙ ap (λ os. items ++ addresses_from homes cs end large os) (sym is)
    ∙ so_far

-- what is known behind the object
known-behind : (cs : List Class) (budget end large : ℕ) (o : Object) (more rest : List Object) (next_end next_large : ℕ)
    → rest ≡ o ∷ more → next_end ≡ end_behind cs end o o.place → next_large ≡ large_behind large o.place
    → Known cs budget end large rest → Known cs budget next_end next_large more
known-behind cs budget end large o more rest next_end next_large is e l known =
    let here : Known cs budget end large (o ∷ more) = subst (λ (os : List Object). Known cs budget end large os) is known in
    record {
      objects = here.objects.2;
      young = subst (λ (n : ℕ). last_end cs n more ≤ region_bytes * budget) (sym e) here.young;
      large_few = subst (λ (n : ℕ). large_count n more ≤ large_slot_count) (sym l) here.large_few;
    }

pub loop-o-preserved : goal.loop-o-preserved
loop-o-preserved c =
    let cs : List Class = c.args.classes.now in
    let inv = c.loop-o.invariant in
    let is = c.in-Some.ensures.cases.0 in
    let known : Known cs c.args.budget c.loop-o.end c.loop-o.large c.loop-o.rest.now = record { objects = inv.objects; young = inv.young; large_few = inv.large } in
    let behind = known-behind cs c.args.budget c.loop-o.end c.loop-o.large c.in-Some.o.now c.in-Some.more.now c.loop-o.rest.now c.end_behind-end.result c.large_behind-large.result is c.end_behind-end.ensures c.large_behind-large.ensures known in
    let e = c.end_behind-end.ensures in
    let l = c.large_behind-large.ensures in
    let at = c.address_in.ensures c.args.budget
    (let young = behind.young in let rises = last-rises cs c.end_behind-end.result c.in-Some.more.now in omega (arith, young, rises, e))
    (let large = behind.large_few in let rises = count-rises c.large_behind-large.result c.in-Some.more.now in omega (arith, large, rises, l)) in
    record {
      so_far = next-so-far (first_homes c.args.budget) cs c.loop-o.end c.loop-o.large c.in-Some.o.now c.in-Some.more.now c.loop-o.rest.now c.loop-o.addresses.items c.push.new.self.items
          (addresses_from (first_homes c.args.budget) cs 0 0 c.args.objects.now) c.address_in.result c.end_behind-end.result c.large_behind-large.result is at e l c.in_ok-push.ensures.items inv.so_far;
      objects = behind.objects;
      young = behind.young;
      large = behind.large_few;
    }
