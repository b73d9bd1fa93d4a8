-- Steps up from a class to its superclasses, where classes go by their numbers. These are words of the code.
use Rattle.std.specs.Prelude.{◌≡◌, ℕ, zero, suc, ◌+◌, ◌*◌, ◌<◌, nat_eq, List, [], ◌∷◌, ◌++◌, map, length, get_or, position, Option, None, Some, if◌then◌else◌}
use Rattle.std.specs.Option.{option_or}
use Rattle.dump_graph.specs.Classes.{Class}
use Rattle.dump_graph.specs.declared.climb.Climb.{Climb}
use Rattle.dump_graph.specs.declared.climb.Up.{Up}
use Rattle.dump_graph.specs.declared.climb.Up.TheVariants.{Top, Above, Lost}

-- no steps, and the step beyond all classes
abbrev pub standing : ℕ → Climb
standing n = record { fielded = None; next = Above n }

abbrev pub lost : Climb
lost = record { fielded = None; next = Lost }

-- the codes of a class's own fields
abbrev pub own_codes : List Class → ℕ → List ℕ
own_codes known n = get_or (map (λ c. c.codes) known) n []

-- the number of a class, if it has fields
abbrev pub if_fielded : List ℕ → ℕ → Option ℕ
if_fielded [] n = None
if_fielded (code ∷ codes) n = Some n

-- the step to a superclass
abbrev pub step_to : List Class → Option ℕ → Climb
step_to known None = lost
step_to known (Some p) = record { fielded = if_fielded (own_codes known p) p; next = Above p }

-- the step up from a class
abbrev pub step_from : List Class → Class → Climb
step_from known c =
    if nat_eq c.parent 0 then record { fielded = None; next = Top }
    else step_to known (position (nat_eq c.parent) (map (λ x. x.id) known))

abbrev pub step : List Class → ℕ → Climb
step known n = get_or (map (step_from known) known) n lost

-- a climb and one behind it, by where the first comes to
abbrev pub join_at : Option ℕ → Up → (ℕ → Climb) → Climb
join_at fielded Top more = record { fielded = fielded; next = Top }
join_at fielded (Above p) more = record { fielded = option_or fielded (more p).fielded; next = (more p).next }
join_at fielded Lost more = record { fielded = fielded; next = Lost }

abbrev pub join : Climb → (ℕ → Climb) → Climb
join one more = join_at one.fielded one.next more

-- a climb and one of these behind it
abbrev pub join_with : List Climb → Climb → Climb
join_with more one = join one (λ n. get_or more n lost)

-- so many steps up from a class
abbrev pub climb : List Class → ℕ → ℕ → Climb
climb known zero n = standing n
climb known (suc steps) n = join (step known n) (climb known steps)

-- these are the climbs of so many steps from all classes
abbrev pub AreClimbs : List Class → ℕ → List Climb → Type 0
AreClimbs known steps climbs = (length climbs ≡ length known) × ((k : ℕ) → k < length known → get_or climbs k lost ≡ climb known steps k)

-- some of so many steps are climbed: as many as the climbs have, and as often as is left those of the others
abbrev pub HasClimbed : List Class → ℕ → ℕ → List Climb → List Climb → Type 0
HasClimbed known steps left climbs power =
    (done : ℕ) × (each : ℕ) × (AreClimbs known done climbs × AreClimbs known each power × (done + left * each ≡ steps))

-- a climb comes to one of so many classes, or to none
abbrev pub ComesWithin : ℕ → Up → Type 0
ComesWithin count Top = Unit {0}
ComesWithin count (Above p) = p < count
ComesWithin count Lost = Unit {0}

-- the codes of a class and of those above it, which so many steps reach
abbrev pub codes_above : Up → (ℕ → List ℕ) → List ℕ
codes_above Top more = []
codes_above (Above p) more = more p
codes_above Lost more = []

abbrev pub gathered : List Class → ℕ → ℕ → List ℕ
gathered known zero n = []
gathered known (suc steps) n = own_codes known n ++ codes_above (step known n).next (gathered known steps)
