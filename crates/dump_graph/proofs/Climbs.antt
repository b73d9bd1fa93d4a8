-- Climbs: put together, and what they gather.
use Rattle.std.proofs.Common.{◌≡◌, ℕ, zero, suc, ◌+◌, ◌<◌, Bool, true, false, cond, nat_eq, List, [], ◌∷◌, map, length, get_or, Option, None, Some, refl, ap, sym, ◌∙◌, arith, subst, zero-add, suc-add}
use Rattle.std.specs.Prelude.{position}
use Rattle.std.specs.Option.{option_or}
use Rattle.std.proofs.lemmas.List.{get_or-map, length-map}
use Rattle.dump_graph.specs.Classes.{Class}
use Rattle.dump_graph.specs.Climbing.{ComesWithin, climb, join, join_at, lost, step, step_from, step_to}
use Rattle.dump_graph.specs.declared.climb.Climb.{Climb}
use Rattle.dump_graph.specs.declared.climb.Up.{Up}
use Rattle.dump_graph.specs.declared.climb.Up.TheVariants.{Top, Above, Lost}
use Rattle.dump_graph.proofs.Positions.{position-at}

option_or-assoc : {X : Type 0} (a b c : Option X) → option_or (option_or a b) c ≡ option_or a (option_or b c)
option_or-assoc None b c = refl
option_or-assoc (Some x) b c = refl

-- one behind another, and one behind both
join-assoc : (one : Climb) (more rest : ℕ → Climb) → join (join one more) rest ≡ join one (λ p. join (more p) rest)
join-assoc one more rest = by one.next
  where
    inner : (f : Option ℕ) (g : Option ℕ) (u : Up) → join_at (option_or f g) u rest ≡ record { fielded = option_or f (join_at g u rest).fielded; next = (join_at g u rest).next }
    inner f g Top = refl
    inner f g (Above p) = ap (λ (o : Option ℕ). let c : Climb = record { fielded = o; next = (rest p).next } in c) (option_or-assoc f g (rest p).fielded)
    inner f g Lost = refl

    by : (u : Up) → join (join_at one.fielded u more) rest ≡ join_at one.fielded u (λ p. join (more p) rest)
    by Top = refl
    by (Above p) = inner one.fielded (more p).fielded (more p).next
    by Lost = refl

join-more : (one : Climb) (more rest : ℕ → Climb) → ((p : ℕ) → more p ≡ rest p) → join one more ≡ join one rest
join-more one more rest same = by one.next
  where
    by : (u : Up) → join_at one.fielded u more ≡ join_at one.fielded u rest
    by Top = refl
    by (Above p) = ap (λ (c : Climb). let d : Climb = record { fielded = option_or one.fielded c.fielded; next = c.next } in d) (same p)
    by Lost = refl

-- some steps, and then more
pub climb-more : (known : List Class) (s t n : ℕ) → climb known (s + t) n ≡ join (climb known s n) (climb known t)
climb-more known zero t n = ap (λ k. climb known k n) (zero-add t)
climb-more known (suc s) t n =
    ap (λ k. climb known k n) (suc-add s t)
    ∙ (join-more (step known n) (climb known (s + t)) (λ p. join (climb known s p) (climb known t)) (λ p. climb-more known s t p)
    ∙ sym (join-assoc (step known n) (climb known s) (climb known t)))

-- a step comes to a known class
step-to-within : (known : List Class) (o : Option ℕ) → ((p : ℕ) → o ≡ Some p → p < length known) → ComesWithin (length known) (step_to known o).next
step-to-within known None within = tt
step-to-within known (Some p) within = within p refl

pub step-from-within : (known : List Class) (c : Class) → ComesWithin (length known) (step_from known c).next
step-from-within known c = by (nat_eq c.parent 0)
  where
    found : Option ℕ
    found = position (nat_eq c.parent) (map (λ x. x.id) known)

    by : (b : Bool) → ComesWithin (length known) (cond b (record { fielded = None; next = Top }) (step_to known found)).next
    by true = tt
    by false = step-to-within known found (λ p is. omega (arith, (position-at (nat_eq c.parent) (map (λ x. x.id) known) p 0 is).0, length-map known (λ (x : Class). x.id)))

pub step-within : (known : List Class) (n : ℕ) → n < length known → ComesWithin (length known) (step known n).next
step-within [] n within = absurd (omega (arith, within))
step-within (c ∷ cs) n within =
    subst (λ (one : Climb). ComesWithin (length (c ∷ cs)) one.next) (sym (get_or-map (step_from (c ∷ cs)) (c ∷ cs) n c lost within)) (step-from-within (c ∷ cs) (get_or (c ∷ cs) n c))

-- so do some steps
join-within : (count : ℕ) (fielded : Option ℕ) (u : Up) (more : ℕ → Climb) → ComesWithin count u → ((p : ℕ) → p < count → ComesWithin count (more p).next) → ComesWithin count (join_at fielded u more).next
join-within count fielded Top more one rest = tt
join-within count fielded (Above p) more one rest = rest p one
join-within count fielded Lost more one rest = tt

pub climb-within : (known : List Class) (s n : ℕ) → n < length known → ComesWithin (length known) (climb known s n).next
climb-within known zero n within = within
climb-within known (suc s) n within = join-within (length known) (step known n).fielded (step known n).next (climb known s) (step-within known n within) (λ p below. climb-within known s p below)
