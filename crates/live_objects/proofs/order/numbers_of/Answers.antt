use Rattle.std.proofs.Common.{◌≡◌, ◌∙◌, ◌++◌, ◌∷◌, ◌<◌, [], ap, length, sym, subst, arith, All, nat_eq}
use Rattle.std.specs.Prelude.{option_map}
use Rattle.std.specs.List.{IsDistinct}
use Rattle.std.proofs.lemmas.List.{append-nil, length-map}
use Rattle.model_numbers.specs.Numbers.{region_count}
use Rattle.region_lists.specs.Rows.{Row}
use Rattle.region_space.specs.Space.{lists_of}
use Rattle.region_space.proofs.WalkLemmas.{in_use-apart}
use Rattle.live_objects.proofs.OrderLemmas.{no-rest, regions, regions-few, regions-within, step}
use Rattle.live_objects.proofs.order.numbers_of.Goals as goal

pub region_behind-next-requires : goal.region_behind-next-requires
region_behind-next-requires c =
    let i = c.loop-next.invariant in
    (step c.args.regions.now.in_use i.done i.rest c.in-Some.region (in_use-apart (lists_of c.args.regions.now) c.used.ensures.space) i.all (sym i.next ∙ c.in-Some.is)).there

pub loop-next-preserved : goal.loop-next-preserved
loop-next-preserved c =
    let i = c.loop-next.invariant in
    let s = step c.args.regions.now.in_use i.done i.rest c.in-Some.region (in_use-apart (lists_of c.args.regions.now) c.used.ensures.space) i.all (sym i.next ∙ c.in-Some.is) in
    record {
      done = i.done ++ s.row ∷ [];
      rest = s.more;
      all = s.all;
      next = c.region_behind-next.ensures ∙ ap (option_map (λ (row : Row). row.region)) s.next;
      numbers = c.in_ok-push.ensures.items ∙ ap (λ ns. ns ++ c.in-Some.region ∷ []) i.numbers ∙ sym s.numbers;
    }

pub returns-clause-numbers : goal.returns-clause-numbers
returns-clause-numbers c =
    let i = c.loop-next.invariant in
    let all : c.args.regions.now.in_use ≡ i.done =
    i.all ∙ ap (λ rows. i.done ++ rows) (no-rest i.rest (λ region is. c.in_default.not-Some region (i.next ∙ is))) ∙ append-nil i.done in
    i.numbers ∙ sym (ap regions all)

pub returns-clause-few : goal.returns-clause-few
returns-clause-few c =
    omega (arith, ap length (returns-clause-numbers c), length-map c.args.regions.now.in_use (λ (row : Row). row.region), regions-few (lists_of c.args.regions.now) c.used.ensures.space)

pub returns-clause-within : goal.returns-clause-within
returns-clause-within c = subst (All (λ n. n < region_count)) (sym (returns-clause-numbers c)) (regions-within (lists_of c.args.regions.now) c.used.ensures.space)

pub returns-clause-apart : goal.returns-clause-apart
returns-clause-apart c = subst (IsDistinct nat_eq) (sym (returns-clause-numbers c)) (in_use-apart (lists_of c.args.regions.now) c.used.ensures.space)
