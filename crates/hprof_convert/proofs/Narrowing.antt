-- Converted values: they fit, and are no longer than the wide ones.
use Rattle.std.proofs.Common.{◌≡◌, ℕ, ◌<◌, ◌≤◌, inl, inr, Bool, true, false, cond, nat_eq, List, [], ◌∷◌, length, take, drop, Option, None, Some, refl, ap, sym, arith, All, length-append, length-drop}
use Rattle.std.specs.Prelude.{position, sum_by}
use Rattle.std.proofs.lemmas.Bool.{eqb-true}
use Rattle.std.proofs.lemmas.List.{length-take-le}
use Rattle.std.proofs.lemmas.List.Sums.{sum_by-cons}
use Rattle.std.proofs.lemmas.List.Elements.{All-nil, All-append, All-take, All-drop}
use Rattle.hprof_records.specs.Types.{value_bytes}
use Rattle.hprof_records.specs.Parts.{word}
use Rattle.hprof_records.specs.Formed.{IsByte, IsValue}
use Rattle.hprof_read.proofs.FieldFormats.{field_octets}
use Rattle.hprof_wide.specs.Parts.{wide_value_bytes}
use Rattle.hprof_wide.specs.Formed.{IsIdWidth, IsWideValue}
use Rattle.dump_graph.proofs.Positions.{position-at}
use Rattle.hprof_convert.specs.Names.{number_at, rename}
use Rattle.hprof_convert.specs.Values.{id_in, renamed_value, renamed_values}

-- an identifier has 4 bytes at least
pub width-least : (w : ℕ) → IsIdWidth w → 4 ≤ w
width-least w (inl is) = omega (arith, is)
width-least w (inr is) = omega (arith, is)

number-within : (names : List ℕ) (o : Option ℕ) → ((n : ℕ) → o ≡ Some n → n < length names) → number_at o ≤ length names
number-within names None at = omega arith
number-within names (Some n) at = omega (arith, at n refl)

-- a new identifier counts at most the names
pub rename-within : (names : List ℕ) (id : ℕ) → rename names id ≤ length names
rename-within names id = number-within names (position (nat_eq id) names) (λ n is. (position-at (nat_eq id) names n 0 is).0)

-- a value of a reference's type has the 4 bytes of an identifier, and another one as many as before
value-by : (w : ℕ) (names : List ℕ) (code : ℕ) (bytes : List ℕ) (b : Bool) → nat_eq code 2 ≡ b → length bytes ≡ cond b w (value_bytes code) → length (cond b (word (rename names (id_in w bytes))) bytes) ≡ value_bytes code
value-by w names code bytes true is size = ap value_bytes (sym (eqb-true _ _ is))
value-by w names code bytes false is size = size

pub length-value : (w : ℕ) (names : List ℕ) (code : ℕ) (bytes : List ℕ) → length bytes ≡ wide_value_bytes w code → length (renamed_value w names (code, bytes)) ≡ value_bytes code
length-value w names code bytes size = value-by w names code bytes (nat_eq code 2) refl size

octets-by : (w : ℕ) (names bytes : List ℕ) (b : Bool) → All IsByte bytes → All IsByte (cond b (word (rename names (id_in w bytes))) bytes)
octets-by w names bytes true fit = field_octets 4 (rename names (id_in w bytes))
octets-by w names bytes false fit = fit

pub value-octets : (w : ℕ) (names : List ℕ) (code : ℕ) (bytes : List ℕ) → All IsByte bytes → All IsByte (renamed_value w names (code, bytes))
value-octets w names code bytes fit = octets-by w names bytes (nat_eq code 2) fit

pub value-fits : (w : ℕ) (names : List ℕ) (code : ℕ) (bytes : List ℕ) → IsWideValue w code bytes → IsValue code (renamed_value w names (code, bytes))
value-fits w names code bytes fit = (value-octets w names code bytes fit.0, length-value w names code bytes fit.1)

size-by : (w code : ℕ) (b : Bool) → 4 ≤ w → nat_eq code 2 ≡ b → value_bytes code ≤ cond b w (value_bytes code)
size-by w code true wide is = let four : value_bytes code ≡ 4 = ap value_bytes (eqb-true _ _ is) in omega (arith, four)
size-by w code false wide is = omega arith

pub size-within : (w code : ℕ) → 4 ≤ w → value_bytes code ≤ wide_value_bytes w code
size-within w code wide = size-by w code (nat_eq code 2) wide refl

pub sizes-within : (w : ℕ) (codes : List ℕ) → 4 ≤ w → sum_by value_bytes codes ≤ sum_by (wide_value_bytes w) codes
sizes-within w [] wide = omega arith
sizes-within w (code ∷ codes) wide = omega (arith, sum_by-cons value_bytes code codes, sum_by-cons (wide_value_bytes w) code codes, size-within w code wide, sizes-within w codes wide)

-- the values of an instance
pub values-octets : (w : ℕ) (names codes bytes : List ℕ) → All IsByte bytes → All IsByte (renamed_values w names codes bytes)
values-octets w names [] bytes fit = All-nil IsByte
values-octets w names (code ∷ codes) bytes fit =
    let n = wide_value_bytes w code in
    All-append IsByte (renamed_value w names (code, take n bytes)) (renamed_values w names codes (drop n bytes))
    (value-octets w names code (take n bytes) (All-take IsByte n bytes fit)) (values-octets w names codes (drop n bytes) (All-drop IsByte n bytes fit))

pub length-values : (w : ℕ) (names codes bytes : List ℕ) → sum_by (wide_value_bytes w) codes ≤ length bytes → length (renamed_values w names codes bytes) ≡ sum_by value_bytes codes
length-values w names [] bytes enough = refl
length-values w names (code ∷ codes) bytes enough =
    let n = wide_value_bytes w code in
    let sums = sum_by-cons (wide_value_bytes w) code codes in
    let whole : length (take n bytes) ≡ n = length-take-le n bytes (omega (arith, sums, enough)) in
    let rest : sum_by (wide_value_bytes w) codes ≤ length (drop n bytes) = omega (arith, sums, enough, length-drop n bytes) in
    omega (arith, length-append (renamed_value w names (code, take n bytes)) (renamed_values w names codes (drop n bytes)), length-value w names code (take n bytes) whole, length-values w names codes (drop n bytes) rest, sum_by-cons value_bytes code codes)
