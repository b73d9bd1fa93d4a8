use Rattle.std.proofs.Common.{◌∙◌, ◌<◌, List, length, refl, arith}
use Rattle.std.proofs.lemmas.List.{take_all}
use Rattle.page_tables.specs.declared.address.Addr.{Addr}
use Rattle.raw_objects.specs.Raws.{Raws}
use Rattle.object_promotion.proofs.Walk.{first-found, found-none, found-some, list-more, packed-still}
use Rattle.object_promotion.proofs.lists.list_young.Goals as goal

pub loop-init : goal.loop-init
loop-init c = record {
  same = refl;
  next = λ raws young ok. c.first-next.ensures ∙ first-found _ _ _ raws young ok;
  listed = λ raws young ok. c.new-list.ensures.items;
}

pub unreachable-requires : goal.unreachable-requires
unreachable-requires c =
    let raws : Raws = c.requires.0 in
    let young : List Addr = c.requires.1 in
    let ok = c.requires.2 in
    let count = ok.count in
    found-none young c.loop.counter c.loop.next (omega (arith, c.loop-test.true, c.objects-end.ensures, count)) (c.loop.invariant.next raws young ok) c.in_default.is

pub young_at-next-requires : goal.young_at-next-requires
young_at-next-requires c =
    let raws : Raws = c.requires.0 in
    let young : List Addr = c.requires.1 in
    let ok = c.requires.2 in
    let count = ok.count in
    let below : c.loop.counter < length young = omega (arith, c.loop-test.true, c.objects-end.ensures, count) in
    (raws, young, c.loop.counter, packed-still _ _ _ _ _ raws young c.loop.invariant.same ok, below, found-some young c.loop.counter c.loop.next c.in-Some.at below (c.loop.invariant.next raws young ok) c.in-Some.is)

pub loop-preserved : goal.loop-preserved
loop-preserved c = record {
  same = c.young_at-next.ensures.same ∙ c.loop.invariant.same;
  next = λ raws young ok.
      let count = ok.count in
      let below : c.loop.counter < length young = omega (arith, c.loop-test.true, c.objects-end.ensures, count) in
      let here = found-some young c.loop.counter c.loop.next c.in-Some.at below (c.loop.invariant.next raws young ok) c.in-Some.is in
      c.young_at-next.ensures.next raws young c.loop.counter (packed-still _ _ _ _ _ raws young c.loop.invariant.same ok) below here;
  listed = λ raws young ok.
      let count = ok.count in
      let below : c.loop.counter < length young = omega (arith, c.loop-test.true, c.objects-end.ensures, count) in
      let here = found-some young c.loop.counter c.loop.next c.in-Some.at below (c.loop.invariant.next raws young ok) c.in-Some.is in
      list-more young c.loop.list.items _ c.loop.counter c.in-Some.at below (c.loop.invariant.listed raws young ok) here c.in_ok-push.ensures.items;
}

pub returns-in_err-push-clause-same : goal.returns-in_err-push-clause-same
returns-in_err-push-clause-same c = c.loop.invariant.same

pub returns-clause-listed : goal.returns-clause-listed
returns-clause-listed c raws young ok =
    let count = ok.count in
    c.loop.invariant.listed raws young ok ∙ take_all c.loop.counter young (omega (arith, c.loop-test.false, c.objects-end.ensures, count))

pub returns-clause-same : goal.returns-clause-same
returns-clause-same c = c.loop.invariant.same
