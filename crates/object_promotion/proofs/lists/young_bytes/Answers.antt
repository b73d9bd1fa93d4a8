use Rattle.std.proofs.Common.{◌∙◌, ◌<◌, ◌+◌, ℕ, List, length, sum, refl, ap, arith}
use Rattle.std.proofs.lemmas.List.{length-map, take_all}
use Rattle.page_tables.specs.declared.address.Addr.{Addr}
use Rattle.raw_objects.specs.Raws.{raw_size, Raws}
use Rattle.object_promotion.proofs.Walk.{first-found, found-none, found-some, packed-still, sum-more, sum-most}
use Rattle.object_promotion.proofs.lists.young_bytes.Goals as goal

pub loop-init : goal.loop-init
loop-init c = record {
  same = refl;
  next = λ raws young ok. c.first-next.ensures ∙ first-found _ _ _ raws young ok;
  summed = λ raws young ok. refl;
}

pub unreachable-requires : goal.unreachable-requires
unreachable-requires c =
    let raws : Raws = c.requires.0 in
    let young : List Addr = c.requires.1 in
    let ok = c.requires.2 in
    let count = ok.count in
    found-none young c.loop.counter c.loop.next (omega (arith, c.loop-test.true, c.objects-end.ensures, count)) (c.loop.invariant.next raws young ok) c.in_default.is

pub young_at-young-requires : goal.young_at-young-requires
young_at-young-requires c =
    let raws : Raws = c.requires.0 in
    let young : List Addr = c.requires.1 in
    let ok = c.requires.2 in
    let count = ok.count in
    let below : c.loop.counter < length young = omega (arith, c.loop-test.true, c.objects-end.ensures, count) in
    (raws, young, c.loop.counter, packed-still _ _ _ _ _ raws young c.loop.invariant.same ok, below, found-some young c.loop.counter c.loop.next c.in-Some.at below (c.loop.invariant.next raws young ok) c.in-Some.is)

pub overflow_add-total : goal.overflow_add-total
overflow_add-total c =
    let raws : Raws = c.requires.0 in
    let young : List Addr = c.requires.1 in
    let ok = c.requires.2 in
    let count = ok.count in
    let below : c.loop.counter < length young = omega (arith, c.loop-test.true, c.objects-end.ensures, count) in
    let here = found-some young c.loop.counter c.loop.next c.in-Some.at below (c.loop.invariant.next raws young ok) c.in-Some.is in
    let size = c.young_at-young.ensures.size raws young c.loop.counter (packed-still _ _ _ _ _ raws young c.loop.invariant.same ok) below here in
    let more = sum-more _ _ _ raws young ok c.loop.counter below in
    let most = sum-most _ _ _ raws young ok (c.loop.counter + 1) in
    omega (arith, size, more, most, c.loop.invariant.summed raws young ok)

pub loop-preserved : goal.loop-preserved
loop-preserved c = record {
  same = c.young_at-young.ensures.same ∙ c.loop.invariant.same;
  next = λ raws young ok.
      let count = ok.count in
      let below : c.loop.counter < length young = omega (arith, c.loop-test.true, c.objects-end.ensures, count) in
      let here = found-some young c.loop.counter c.loop.next c.in-Some.at below (c.loop.invariant.next raws young ok) c.in-Some.is in
      c.young_at-young.ensures.next raws young c.loop.counter (packed-still _ _ _ _ _ raws young c.loop.invariant.same ok) below here;
  summed = λ raws young ok.
      let count = ok.count in
      let below : c.loop.counter < length young = omega (arith, c.loop-test.true, c.objects-end.ensures, count) in
      let here = found-some young c.loop.counter c.loop.next c.in-Some.at below (c.loop.invariant.next raws young ok) c.in-Some.is in
      let size = c.young_at-young.ensures.size raws young c.loop.counter (packed-still _ _ _ _ _ raws young c.loop.invariant.same ok) below here in
      let more = sum-more _ _ _ raws young ok c.loop.counter below in
      omega (arith, size, more, c.loop.invariant.summed raws young ok);
}

pub returns-clause-total : goal.returns-clause-total
returns-clause-total c raws young ok =
    let count = ok.count in
    let all = length-map young (λ (a : Addr). raw_size c.args.classes.now raws a.0) in
    c.loop.invariant.summed raws young ok ∙ ap (λ (xs : List ℕ). sum xs) (take_all c.loop.counter _ (omega (arith, c.loop-test.false, c.objects-end.ensures, count, all)))

pub returns-clause-same : goal.returns-clause-same
returns-clause-same c = c.loop.invariant.same
