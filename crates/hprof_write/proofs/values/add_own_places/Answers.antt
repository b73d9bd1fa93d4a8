use Rattle.std.proofs.Common.{◌<◌, ◌≤◌, List, length, subst, sym, arith}
use Rattle.std.proofs.lemmas.List.{take_all}
use Rattle.class_layout.specs.declared.kind.FieldAt.{FieldAt}
use Rattle.class_layout.specs.ClassList.{own_fields_of}
use Rattle.class_layout.specs.Placing.{IsIn}
use Rattle.hprof_write.specs.Objects.{own_places}
use Rattle.hprof_write.proofs.InstancePlaces.{length-own, own-within}
use Rattle.hprof_write.proofs.ValuesAt.{own-more}
use Rattle.hprof_write.proofs.values.add_own_places.Goals as goal

pub loop-k-preserved : goal.loop-k-preserved
loop-k-preserved c =
    let count = c.loop-k.invariant.count in
    let within : c.loop-k.k < length (own_fields_of c.args.classes.now c.args.class) = omega arith in
    record {
      count = count;
      places = own-more c.args.classes.now c.args.class c.loop-k.k c.field_at.result c.args.places.now.items c.loop-k.places.items c.push.new.self.items
          within c.field_at.ensures c.loop-k.invariant.places c.in_ok-push.ensures.items;
      within = own-within c.args.classes.now c.args.class c.loop-k.k c.field_at.result within c.field_at.ensures c.loop-k.invariant.within;
    }

pub returns-clause-within : goal.returns-clause-within
returns-clause-within c =
    λ p there.
    let own = own_places c.args.classes.now c.args.class in
    let count = c.loop-k.invariant.count in
    let long = length-own c.args.classes.now c.args.class in
    let within : length own ≤ c.loop-k.k = omega arith in
    c.loop-k.invariant.within p (subst (λ (l : List FieldAt). IsIn p l) (sym (take_all c.loop-k.k own within)) there)
