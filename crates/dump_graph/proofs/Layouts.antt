-- The layout of a class, by the climb from it.
use Rattle.std.proofs.Common.{◌≡◌, ℕ, zero, suc, ◌<◌, Bool, true, false, cond, nat_eq, List, [], ◌∷◌, ◌++◌, map, length, get_or, Option, None, Some, option_map, refl, ap, sym, ◌∙◌, arith, subst}
use Rattle.std.specs.Prelude.{position, option_and_then}
use Rattle.std.specs.Option.{option_or}
use Rattle.std.proofs.lemmas.List.{append-nil, get_or-map, length-map}
use Rattle.dump_graph.specs.Classes.{Class, first_class, codes_within}
use Rattle.dump_graph.specs.ClassTable.{if_top, laid_out}
use Rattle.dump_graph.specs.Climbing.{ComesWithin, climb, codes_above, gathered, if_fielded, join_at, lost, own_codes, step, step_from, step_to}
use Rattle.dump_graph.specs.declared.climb.Climb.{Climb}
use Rattle.dump_graph.specs.declared.climb.Up.{Up}
use Rattle.dump_graph.specs.declared.climb.Up.TheVariants.{Top, Above, Lost}
use Rattle.dump_graph.proofs.Positions.{find-by-position, position-at}
use Rattle.dump_graph.proofs.Climbs.{step-within}

and_then-same : {X Y : Type 0} (o : Option X) (f g : X → Option Y) → ((x : X) → f x ≡ g x) → option_and_then f o ≡ option_and_then g o
and_then-same None f g same = refl
and_then-same (Some x) f g same = same x

-- it depends on the first class dumps alone
pub codes-same : (a b : List Class) → ((id : ℕ) → first_class a id ≡ first_class b id) → (s id : ℕ) → codes_within a s id ≡ codes_within b s id
codes-same a b same zero id = refl
codes-same a b same (suc s) id =
    ap (option_and_then (λ c. cond (nat_eq c.parent 0) (Some c.codes) (option_map (λ above. c.codes ++ above) (codes_within a s c.parent)))) (same id)
    ∙ and_then-same (first_class b id)
    (λ c. cond (nat_eq c.parent 0) (Some c.codes) (option_map (λ above. c.codes ++ above) (codes_within a s c.parent)))
    (λ c. cond (nat_eq c.parent 0) (Some c.codes) (option_map (λ above. c.codes ++ above) (codes_within b s c.parent)))
    (λ c. ap (λ o. cond (nat_eq c.parent 0) (Some c.codes) (option_map (λ above. c.codes ++ above) o)) (codes-same a b same s c.parent))

-- a step up to a class, which has fields or not
abbrev pub IsStep : List Class → Option ℕ → Up → Type 0
IsStep known fielded Top = fielded ≡ None
IsStep known fielded (Above p) = fielded ≡ if_fielded (own_codes known p) p
IsStep known fielded Lost = fielded ≡ None

step-to-is : (known : List Class) (o : Option ℕ) → IsStep known (step_to known o).fielded (step_to known o).next
step-to-is known None = refl
step-to-is known (Some p) = refl

step-from-is : (known : List Class) (c : Class) → IsStep known (step_from known c).fielded (step_from known c).next
step-from-is known c = by (nat_eq c.parent 0)
  where
    one : Bool → Climb
    one b = cond b (record { fielded = None; next = Top }) (step_to known (position (nat_eq c.parent) (map (λ x. x.id) known)))

    by : (b : Bool) → IsStep known (one b).fielded (one b).next
    by true = refl
    by false = step-to-is known (position (nat_eq c.parent) (map (λ x. x.id) known))

pub step-is : (known : List Class) (n : ℕ) → n < length known → IsStep known (step known n).fielded (step known n).next
step-is [] n within = absurd (omega (arith, within))
step-is (c ∷ cs) n within =
    subst (λ (one : Climb). IsStep (c ∷ cs) one.fielded one.next) (sym (get_or-map (step_from (c ∷ cs)) (c ∷ cs) n c lost within)) (step-from-is (c ∷ cs) (get_or (c ∷ cs) n c))

-- the codes that a climb to the top gathers: those of the class, and then those from the first class above it that has fields
abbrev pub GathersBy : List Class → ℕ → ℕ → Option ℕ → Type 0
GathersBy known s n None = gathered known s n ≡ own_codes known n
GathersBy known s n (Some d) =
    (t : ℕ) × ((t < s) × (d < length known) × ((climb known t d).next ≡ Top) × (gathered known s n ≡ own_codes known n ++ gathered known t d))

-- the same above a class without fields
gathers-on : (known : List Class) (s n p : ℕ) → gathered known (suc s) n ≡ own_codes known n ++ gathered known s p → own_codes known p ≡ [] → (o : Option ℕ) → GathersBy known s p o → GathersBy known (suc s) n o
gathers-on known s n p is none None by = is ∙ (ap (λ l. own_codes known n ++ l) (by ∙ none) ∙ append-nil (own_codes known n))
gathers-on known s n p is none (Some d) (t, (below, within, top, more)) =
    (t, (omega (arith, below), within, top, is ∙ ap (λ l. own_codes known n ++ l) (more ∙ ap (λ l. l ++ gathered known t d) none)))

pub gathers : (known : List Class) (s n : ℕ) → n < length known → (climb known s n).next ≡ Top → GathersBy known s n (climb known s n).fielded
gathers known zero n within top = absurd cc
gathers known (suc s) n within top =
    by (step known n).fielded (step known n).next (step-is known n within) (step-within known n within) refl top (λ p. gathers known s p)
  where
    at : (f : Option ℕ) (p : ℕ) → p < length known → gathered known (suc s) n ≡ own_codes known n ++ gathered known s p → (climb known s p).next ≡ Top
        → GathersBy known s p (climb known s p).fielded → (codes : List ℕ) → own_codes known p ≡ codes → f ≡ if_fielded codes p
        → GathersBy known (suc s) n (option_or f (climb known s p).fielded)
    at f p below is up rest [] none first = subst (λ o. GathersBy known (suc s) n (option_or o (climb known s p).fielded)) (sym first) (gathers-on known s n p is none (climb known s p).fielded rest)
    at f p below is up rest (code ∷ codes) some first = subst (λ o. GathersBy known (suc s) n (option_or o (climb known s p).fielded)) (sym first) (s, (omega arith, below, up, is))

    by : (f : Option ℕ) (u : Up) → IsStep known f u → ComesWithin (length known) u → codes_above (step known n).next (gathered known s) ≡ codes_above u (gathered known s)
        → (join_at f u (climb known s)).next ≡ Top
        → ((p : ℕ) → p < length known → (climb known s p).next ≡ Top → GathersBy known s p (climb known s p).fielded)
        → GathersBy known (suc s) n (join_at f u (climb known s)).fielded
    by f Top is below same up rest = subst (GathersBy known (suc s) n) (sym is) (ap (λ l. own_codes known n ++ l) same ∙ append-nil (own_codes known n))
    by f (Above p) is below same up rest = at f p below (ap (λ l. own_codes known n ++ l) same) up (rest p below up) (own_codes known p) refl is
    by f Lost is below same up rest = absurd cc

-- the codes, where one came to the top
abbrev if_up : Up → List ℕ → Option (List ℕ)
if_up Top l = Some l
if_up (Above p) l = None
if_up Lost l = None

if-top-up : (f : ℕ → List ℕ) (n : ℕ) (u : Up) → option_map f (if_top u n) ≡ if_up u (f n)
if-top-up f n Top = refl
if-top-up f n (Above p) = refl
if-top-up f n Lost = refl

-- a class that isn't known
abbrev no_class : Class
no_class = record { id = 0; parent = 0; codes = [] }

module _ (known : List Class) (s : ℕ) (before : (id : ℕ) → codes_within known s id ≡ option_map (gathered known s) (laid_out known s id)) where
  -- the codes of a class, and those that are gathered above it
  abbrev codes_from : Class → Option (List ℕ)
  codes_from c = cond (nat_eq c.parent 0) (Some c.codes) (option_map (λ above. c.codes ++ above) (codes_within known s c.parent))

  abbrev gathers_up : Climb → List ℕ → Option (List ℕ)
  gathers_up one codes = if_up (join_at one.fielded one.next (climb known s)).next (codes ++ codes_above one.next (gathered known s))

  up : (codes : List ℕ) (p : ℕ) (u : Up) → option_map (λ above. codes ++ above) (option_map (gathered known s) (if_top u p)) ≡ if_up u (codes ++ gathered known s p)
  up codes p Top = refl
  up codes p (Above q) = refl
  up codes p Lost = refl

  from-found : (codes : List ℕ) (o : Option ℕ) → option_map (λ above. codes ++ above) (option_map (gathered known s) (option_and_then (λ n. if_top (climb known s n).next n) o)) ≡ gathers_up (step_to known o) codes
  from-found codes None = refl
  from-found codes (Some p) = up codes p (climb known s p).next

  from-class : (c : Class) → codes_from c ≡ gathers_up (step_from known c) c.codes
  from-class c = by (nat_eq c.parent 0)
    where
      by : (b : Bool) → cond b (Some c.codes) (option_map (λ above. c.codes ++ above) (codes_within known s c.parent))
          ≡ gathers_up (cond b (record { fielded = None; next = Top }) (step_to known (position (nat_eq c.parent) (map (λ x. x.id) known)))) c.codes
      by true = ap Some (sym (append-nil c.codes))
      by false = ap (option_map (λ above. c.codes ++ above)) (before c.parent) ∙ from-found c.codes (position (nat_eq c.parent) (map (λ x. x.id) known))

  from-number : (n : ℕ) → n < length known → codes_from (get_or known n no_class) ≡ gathers_up (step known n) (own_codes known n)
  from-number n within =
      from-class (get_or known n no_class)
      ∙ (ap (λ one. gathers_up one (get_or known n no_class).codes) (sym (get_or-map (step_from known) known n no_class lost within))
      ∙ ap (gathers_up (step known n)) (sym (get_or-map (λ (c : Class). c.codes) known n no_class [] within)))

  from-place : (id : ℕ) (o : Option ℕ) → ((n : ℕ) → o ≡ Some n → n < length known)
      → option_and_then codes_from (option_map (λ n. get_or known n no_class) o) ≡ option_map (gathered known (suc s)) (option_and_then (λ n. if_top (climb known (suc s) n).next n) o)
  from-place id None within = refl
  from-place id (Some n) within = from-number n (within n refl) ∙ sym (if-top-up (gathered known (suc s)) n (climb known (suc s) n).next)

  pub codes-next : (id : ℕ) → codes_within known (suc s) id ≡ option_map (gathered known (suc s)) (laid_out known (suc s) id)
  codes-next id =
      ap (option_and_then codes_from) (find-by-position (λ (c : Class). c.id) id no_class known)
      ∙ from-place id (position (nat_eq id) (map (λ c. c.id) known))
      (λ n is. omega (arith, (position-at (nat_eq id) (map (λ c. c.id) known) n 0 is).0, length-map known (λ (x : Class). x.id)))

codes-none : (known : List Class) (o : Option ℕ) → None ≡ option_map (gathered known 0) (option_and_then (λ n. if_top (climb known 0 n).next n) o)
codes-none known None = refl
codes-none known (Some n) = refl

-- the types of an instance's values are those that a climb to the top gathers
pub codes-by-climb : (known : List Class) (s id : ℕ) → codes_within known s id ≡ option_map (gathered known s) (laid_out known s id)
codes-by-climb known zero id = codes-none known (position (nat_eq id) (map (λ c. c.id) known))
codes-by-climb known (suc s) id = codes-next known s (codes-by-climb known s) id
