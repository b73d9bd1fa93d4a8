use Rattle.std.proofs.Common.{◌≡◌, ◌∙◌, ◌*◌, ◌<◌, length, true, refl, sym, ap, subst, arith}
use Rattle.model_numbers.specs.Numbers.{region_bytes}
use Rattle.live_objects.specs.Live.{ListsYoung}
use Rattle.live_objects.specs.Marks.{State, marked}
use Rattle.live_objects.proofs.ListLemmas.{listing-done, listing-more}
use Rattle.live_objects.proofs.marks.Marks.list_young.Goals as goal

pub loop-place-preserved : goal.loop-place-preserved
loop-place-preserved c =
    let s = c.self.inside in
    let p = c.in-Some.place.0 in
    let place = c.in-Some.ensures.well_placed.places p c.in-Some.ensures.found.member in
    let within : p < region_bytes * length s.order = omega (arith, place.below, c.self.invariant.start, c.self.invariant.span) in
    listing-more s.order s.young c.loop-place.young.items c.push.new.self.items c.loop-place.from.0 p c.address.result c.loop-place.invariant c.in-Some.ensures.found within c.address.ensures.is c.address.ensures.value
    c.in_ok-push.ensures.items

pub returns : goal.returns
returns c = λ in_use same.
    let s = c.self.inside in
    let items = c.loop-place.young.items in
    let here = sym (ap (λ (it : State). it.numbers) (sym c.self.view_is)) in
    subst (λ (it : State). ListsYoung in_use (λ a. marked it a ≡ true) items) c.self.view_is
    (listing-done in_use s.order s.young s.large items c.loop-place.from.0 (here ∙ same) c.in_default.ensures.well_placed c.loop-place.invariant (c.in_default.ensures.none.0 refl))
