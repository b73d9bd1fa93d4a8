-- The climbs from all classes, as lists.
use Rattle.std.proofs.Common.{◌≡◌, ℕ, ◌+◌, ◌<◌, List, map, length, get_or, Option, None, Some, refl, ap, sym, ◌∙◌, arith, subst, ◌*◌}
use Rattle.std.specs.Prelude.{All}
use Rattle.std.proofs.Math.Nat.{add-mul, mul-add, zero-mul}
use Rattle.std.specs.Option.{option_or}
use Rattle.std.specs.List.{range_with_len}
use Rattle.std.proofs.lemmas.List.{get_or-map, get_or_default, length-map}
use Rattle.std.proofs.lemmas.List.FromFn.{get_or-map-range_with_len, length-range_with_len}
use Rattle.dump_graph.specs.Classes.{Class}
use Rattle.dump_graph.specs.Climbing.{AreClimbs, ComesWithin, HasClimbed, climb, join, join_at, join_with, lost, standing, step, step_from}
use Rattle.dump_graph.specs.declared.climb.Climb.{Climb}
use Rattle.dump_graph.specs.declared.climb.Up.{Up}
use Rattle.dump_graph.specs.declared.climb.Up.TheVariants.{Top, Above, Lost}
use Rattle.dump_graph.proofs.Climbs.{climb-more, climb-within}

option_or-none : {X : Type 0} (o : Option X) → option_or o None ≡ o
option_or-none None = refl
option_or-none (Some x) = refl

join-standing : (one : Climb) → join one standing ≡ one
join-standing one = by one.next
  where
    by : (u : Up) → join_at one.fielded u standing ≡ record { fielded = one.fielded; next = u }
    by Top = refl
    by (Above p) = ap (λ (o : Option ℕ). let c : Climb = record { fielded = o; next = Above p } in c) (option_or-none one.fielded)
    by Lost = refl

-- those of no steps, and of one
pub climbs-standing : (known : List Class) → AreClimbs known 0 (map standing (range_with_len 0 (length known)))
climbs-standing known = (
  length-map (range_with_len 0 (length known)) standing ∙ length-range_with_len 0 (length known),
  λ k within. get_or-map-range_with_len standing 0 (length known) k k lost within (omega arith),
)

pub climbs-steps : (known : List Class) → AreClimbs known 1 (map (step_from known) known)
climbs-steps known = (length-map known (step_from known), λ k within. sym (join-standing (step known k)))

join-same : (count : ℕ) (one : Climb) (more rest : ℕ → Climb) → ComesWithin count one.next → ((p : ℕ) → p < count → more p ≡ rest p) → join one more ≡ join one rest
join-same count one more rest comes same = by one.next comes
  where
    by : (u : Up) → ComesWithin count u → join_at one.fielded u more ≡ join_at one.fielded u rest
    by Top comes = refl
    by (Above p) comes = ap (λ (c : Climb). let d : Climb = record { fielded = option_or one.fielded c.fielded; next = c.next } in d) (same p comes)
    by Lost comes = refl

-- each comes to a known class, or to none
pub climbs-within : (known : List Class) (s count : ℕ) (xs : List Climb) → AreClimbs known s xs → count ≡ length known → All (λ c. ComesWithin count c.next) xs
climbs-within known s count xs are is k d within =
    let below : k < length known = omega (arith, are.0, within) in
    let same : get_or xs k d ≡ climb known s k = get_or_default xs k d lost within ∙ are.1 k below in
    subst (λ (one : Climb). ComesWithin count one.next) (sym same) (subst (λ n. ComesWithin n (climb known s k).next) (sym is) (climb-within known s k below))

-- climbs and others behind them
pub climbs-joined : (known : List Class) (s t : ℕ) (xs ys : List Climb) → AreClimbs known s xs → AreClimbs known t ys → AreClimbs known (s + t) (map (join_with ys) xs)
climbs-joined known s t xs ys are more = (
  length-map xs (join_with ys) ∙ are.0,
  λ k within.
      get_or-map (join_with ys) xs k lost lost (omega (arith, are.0, within))
      ∙ (ap (join_with ys) (are.1 k within)
      ∙ (join-same (length known) (climb known s k) (λ n. get_or ys n lost) (climb known t) (climb-within known s k within) more.1
      ∙ sym (climb-more known s t k))),
)

-- how climbing begins, goes on and ends
pub climbs-begin : (known : List Class) (steps : ℕ) (climbs power : List Climb) → climbs ≡ map standing (range_with_len 0 (length known)) → power ≡ map (step_from known) known → HasClimbed known steps steps climbs power
climbs-begin known steps climbs power none one =
    (0, 1, (subst (AreClimbs known 0) (sym none) (climbs-standing known), subst (AreClimbs known 1) (sym one) (climbs-steps known), omega arith))

odd-steps : (done left half each steps : ℕ) → left ≡ half * 2 + 1 → done + left * each ≡ steps → (done + each) + half * (each + each) ≡ steps
odd-steps done left half each steps is had =
    let twice : left ≡ (half + half) + 1 = omega (arith, is) in
    let times : left * each ≡ ((half + half) + 1) * each = ap (λ n. n * each) twice in
    omega (arith, times, add-mul (half + half) 1 each, add-mul half half each, mul-add half each each, had)

even-steps : (done left half each steps : ℕ) → left ≡ half * 2 → done + left * each ≡ steps → done + half * (each + each) ≡ steps
even-steps done left half each steps is had =
    let twice : left ≡ half + half = omega (arith, is) in
    let times : left * each ≡ (half + half) * each = ap (λ n. n * each) twice in
    omega (arith, times, add-mul half half each, mul-add half each each, had)

pub climbs-odd : (known : List Class) (steps left half : ℕ) (climbs power climbs' power' : List Climb) → HasClimbed known steps left climbs power → left ≡ half * 2 + 1
    → climbs' ≡ map (join_with power) climbs → power' ≡ map (join_with power) power → HasClimbed known steps half climbs' power'
climbs-odd known steps left half climbs power climbs' power' (done, each, (a, b, had)) odd is also = (
  done + each,
  each + each,
  (
    subst (AreClimbs known (done + each)) (sym is) (climbs-joined known done each climbs power a b),
    subst (AreClimbs known (each + each)) (sym also) (climbs-joined known each each power power b b),
    odd-steps done left half each steps odd had,
  ),
)

pub climbs-even : (known : List Class) (steps left half : ℕ) (climbs power power' : List Climb) → HasClimbed known steps left climbs power → left ≡ half * 2
    → power' ≡ map (join_with power) power → HasClimbed known steps half climbs power'
climbs-even known steps left half climbs power power' (done, each, (a, b, had)) even also =
    (done, each + each, (a, subst (AreClimbs known (each + each)) (sym also) (climbs-joined known each each power power b b), even-steps done left half each steps even had))

none-left : (done left each steps : ℕ) → left ≡ 0 → done + left * each ≡ steps → done ≡ steps
none-left done left each steps none is =
    let times : left * each ≡ 0 * each = ap (λ n. n * each) none in
    omega (arith, times, zero-mul each, is)

pub climbs-end : (known : List Class) (steps left : ℕ) (climbs power : List Climb) → HasClimbed known steps left climbs power → left ≡ 0 → AreClimbs known steps climbs
climbs-end known steps left climbs power (done, each, (a, b, had)) none = subst (λ s. AreClimbs known s climbs) (none-left done left each steps none had) a
