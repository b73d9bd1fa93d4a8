use Rattle.std.proofs.Common.{◌++◌, List, Some, suc, arith, subst, ap}
use Rattle.class_layout.specs.declared.kind.FieldAt.{FieldAt}
use Rattle.class_layout.specs.Placing.{IsIn}
use Rattle.class_layout.proofs.Declared.{superclass-places}
use Rattle.heap_graph.specs.declared.names.Shape.TheVariants.{Instance}
use Rattle.heap_graph.specs.Places.{places_of}
use Rattle.hprof_write.specs.Objects.{dumped_places, own_places, places_up}
use Rattle.hprof_write.proofs.Chains.{parent-earlier, up-more, within-more}
use Rattle.hprof_write.proofs.values.dumped_places.Goals as goal

pub loop-places-init : goal.loop-places-init
loop-places-init c =
    let cs = c.args.classes.now in
    let e = c.new-places.ensures.items in
    record {
      known = c.requires;
      places = ap (λ (l : List FieldAt). l ++ places_up cs (suc c.args.class) (Some c.args.class)) e;
      within = λ p there. absurd (subst (λ (l : List FieldAt). IsIn p l) e there);
      under = λ p there. there;
    }

pub loop-places-smaller : goal.loop-places-smaller
loop-places-smaller c = parent-earlier c.args.classes.now c.loop-places.at c.in-Some.parent c.count-all.ensures.formed c.in-Some.ensures

pub loop-places-preserved : goal.loop-places-preserved
loop-places-preserved c =
    let cs = c.args.classes.now in
    let inv = c.loop-places.invariant in
    let less = parent-earlier cs c.loop-places.at c.in-Some.parent c.count-all.ensures.formed c.in-Some.ensures in
    let known = inv.known in
    record {
      known = omega arith;
      places = up-more cs c.loop-places.at c.in-Some.parent c.loop-places.places.items c.add_own_places.new.places.items (dumped_places cs c.args.class)
          c.count-all.ensures.formed c.in-Some.ensures inv.places c.in_ok-add_own_places.ensures.places;
      within = within-more (λ (p : FieldAt). IsIn p (places_of cs (Instance c.args.class))) c.loop-places.places.items (own_places cs c.loop-places.at) c.add_own_places.new.places.items
          c.in_ok-add_own_places.ensures.places inv.within (λ p own. inv.under p (c.in_ok-add_own_places.ensures.within p own));
      under = λ p there. inv.under p (superclass-places cs c.loop-places.at c.in-Some.parent p c.count-all.ensures.formed c.in-Some.ensures there);
    }

pub returns-in-None-clause-within : goal.returns-in-None-clause-within
returns-in-None-clause-within c =
    let cs = c.args.classes.now in
    let inv = c.loop-places.invariant in
    within-more (λ (p : FieldAt). IsIn p (places_of cs (Instance c.args.class))) c.loop-places.places.items (own_places cs c.loop-places.at) c.add_own_places.new.places.items
    c.in_ok-add_own_places.ensures.places inv.within (λ p own. inv.under p (c.in_ok-add_own_places.ensures.within p own))
