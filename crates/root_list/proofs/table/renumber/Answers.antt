use Rattle.std.proofs.Common.{◌∙◌, ◌++◌, ◌∷◌, [], Some, ap, sym, arith, take, cond}
use Rattle.std.proofs.lemmas.List.{length-take-le}
use Rattle.indexmap.specs.IndexMap.{get, index_map_len, spare}
use Rattle.class_layout.specs.Names.{same_name}
use Rattle.root_list.specs.Places.{place_of}
use Rattle.root_list.proofs.PlaceLemmas.{fresh-before, no-hole, place-push, take-next}
use Rattle.root_list.proofs.table.renumber.Goals as goal
use Rattle.root_list.proofs.table.renumber.Goals.{in-Some, in_default}

pub insert_new-requires-clause-fresh : goal.insert_new-requires-clause-fresh
insert_new-requires-clause-fresh c =
    c.loop-k.invariant.found c.in-Some.name ∙ fresh-before c.args.names.now c.loop-k.k c.in-Some.name c.index-names-k.result c.requires.apart c.loop-k-test.true (sym c.index-names-k.is ∙ c.in-Some.is)

pub loop-k-preserved : goal.loop-k-preserved
loop-k-preserved c =
    let ns = c.args.names.now in
    let k = c.loop-k.k in
    let inv = c.loop-k.invariant in
    elim c.match-names-k.branch [
      | in-Some w ↦
          let name = w.in-Some.name in
          let here = sym c.index-names-k.is ∙ w.in-Some.is in
          let fresh = fresh-before ns k name c.index-names-k.result c.requires.apart c.loop-k-test.true here in
          record {
            found = λ q.
                ap (λ m. get same_name m q) w.index-is
                ∙ w.insert_new.ensures.found q
                ∙ ap (λ o. cond (same_name name q) (Some k) o) (inv.found q)
                ∙ ap (λ j. cond (same_name name q) (Some j) (place_of (take k ns) q)) (sym (length-take-le k ns (omega (arith, c.loop-k-test.true))))
                ∙ place-push (take k ns) name q fresh
                ∙ ap (λ p. place_of (take k ns ++ p ∷ []) q) (sym here)
                ∙ ap (λ ps. place_of ps q) (sym (take-next ns k c.index-names-k.result c.loop-k-test.true));
            count = omega (arith, ap index_map_len w.index-is, w.insert_new.ensures.count, inv.count);
            room = omega (arith, ap index_map_len w.index-is, ap spare w.index-is, w.insert_new.ensures.count, w.insert_new.ensures.room, inv.room);
          }
      | in_default w ↦ absurd (no-hole ns k c.index-names-k.result c.requires.full c.loop-k-test.true (sym c.index-names-k.is ∙ w.in_default.is))
    ]
