use Rattle.std.proofs.Common.{◌≡◌, ◌∙◌, ◌++◌, ◌<◌, ℕ, List, get_or, length, map, drop, sym, ap, subst, arith, true}
use Rattle.std.specs.Prelude.{set}
use Rattle.std.proofs.lemmas.List.{append-nil, drop_all, get_or_default, length-set, take_all}
use Rattle.std.proofs.lemmas.List.Edits.{map_over_more}
use Rattle.page_tables.specs.declared.address.Addr.{Addr}
use Rattle.cow_pages.specs.Memory.{Memory}
use Rattle.cow_pages.specs.View.{view_of}
use Rattle.object_view.specs.Objects.{HasHeader}
use Rattle.object_view.proofs.Standing.{HasHeader-stands}
use Rattle.raw_objects.specs.Raws.{HoldsRaws, Raw, Raws}
use Rattle.raw_objects.specs.References.{goes, in_regions}
use Rattle.object_moves.specs.Copies.{at_of}
use Rattle.object_moves.specs.Turns.{gone_to}
use Rattle.object_moves.proofs.Many.{next-root}
use Rattle.object_moves.proofs.turns.turn_roots.Goals as goal

pub goes_to-requires : goal.goes_to-requires
goes_to-requires c inside =
    let raws : Raws = c.requires.1 in
    let i : ℕ = c.loop-i.i in
    let below : i < length c.args.roots.now = omega (arith, c.loop-i.invariant.len) in
    let here = next-root raws c.args.roots.now c.loop-i.roots i below (c.loop-i.invariant.goes c.requires.0 raws c.requires.2 c.requires.3) in
    let has : raws.has (at_of c.loop-i.roots i) ≡ true = ap raws.has here ∙ c.requires.3 i below (sym (ap in_regions here) ∙ inside) in
    let r : Raw = raws.raw (at_of c.loop-i.roots i) in
    (r.header, subst (λ (m : Memory). HasHeader (view_of m c.args.t.0) (at_of c.loop-i.roots i) r.header) (sym c.loop-i.invariant.same) (HasHeader-stands c.requires.0 _ _ r.shape r.header r.values (c.requires.2.stands _ has)))

pub loop-i-preserved : goal.loop-i-preserved
loop-i-preserved c = record {
  goes = λ cs raws h ok.
      let old : List Addr = c.args.roots.now in
      let roots : List Addr = c.loop-i.roots in
      let i : ℕ = c.loop-i.i in
      let below : i < length old = omega (arith, c.loop-i.invariant.len) in
      let was = c.loop-i.invariant.goes cs raws h ok in
      let here = next-root raws old roots i below was in
      let root : Addr = get_or roots i (record { 0 = 0 }) in
      let held = subst (λ (m : Memory). HoldsRaws cs (view_of m c.args.t.0) raws) (sym c.loop-i.invariant.same) h in
      let to : c.goes_to.result.0 ≡ goes raws root.0 = c.goes_to.ensures.goes cs raws held (λ inside. ap raws.has here ∙ ok i below (sym (ap in_regions here) ∙ inside)) in
      let is : c.goes_to.result ≡ gone_to raws root = ap (λ (n : ℕ). record { 0 = n }) to in
      ap (λ (a : Addr). set roots i a) is ∙ map_over_more (gone_to raws) old roots i root below was (get_or_default roots i (record { 0 = 0 }) root (omega (arith, below, c.loop-i.invariant.len)));
  len = length-set c.loop-i.roots c.loop-i.i c.goes_to.result ∙ c.loop-i.invariant.len;
  same = c.goes_to.ensures.same ∙ c.loop-i.invariant.same;
}

pub returns-clause-goes : goal.returns-clause-goes
returns-clause-goes c cs raws h ok =
    let old : List Addr = c.args.roots.now in
    c.loop-i.invariant.goes cs raws h ok
    ∙ ap (λ (xs : List Addr). map (gone_to raws) xs ++ drop c.loop-i.i old) (take_all c.loop-i.i old (omega (arith, c.loop-i.invariant.len)))
    ∙ ap (λ (xs : List Addr). map (gone_to raws) old ++ xs) (drop_all c.loop-i.i old (omega (arith, c.loop-i.invariant.len))) ∙ append-nil (map (gone_to raws) old)
