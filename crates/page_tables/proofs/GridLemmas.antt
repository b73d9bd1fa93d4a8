-- Rows of places that may be empty, and how many places have a key.
use Rattle.std.proofs.Common.{◌≡◌, ◌≢◌, ◌⊎◌, ℕ, zero, suc, ◌+◌, ◌<◌, ◌≤◌, List, [], ◌∷◌, length, get_or, set, Some, None, Option, refl, sym, ap, ◌∙◌, inl, inr, arith, eqb}
use Rattle.std.proofs.lemmas.List.{get_or_past, get_or-set_same, get_or-set_other}
use Rattle.std.proofs.lemmas.Bool.{cases_eq, cases_lt, eq-eqb, ne_eqb, cond-true, cond-false}
use Rattle.std.proofs.lemmas.Option.{none-some}
use Rattle.page_tables.specs.Grid.{cell, one, one_held, held, all_held}

pub one-yes : (a x : ℕ) → a ≡ x → one a x ≡ 1
one-yes a x same = cond-true {A = ℕ} (eqb a x) 1 0 (eq-eqb a x same)

pub one-no : (a x : ℕ) → a ≢ x → one a x ≡ 0
one-no a x apart = cond-false {A = ℕ} (eqb a x) 1 0 (ne_eqb a x apart)

pub held-set : {E : Type 0} (key : E → ℕ) (row : List (Option E)) (c : ℕ) (o : Option E) (x : ℕ) → c < length row
    → held key (set row c o) x + one_held key (get_or row c None) x ≡ held key row x + one_held key o x
held-set key [] c o x within = absurd (omega arith)
held-set key (p ∷ rest) zero o x within = omega arith
held-set key (p ∷ rest) (suc c) o x within = omega (arith, held-set key rest c o x (omega arith))

pub all-set : {E : Type 0} (key : E → ℕ) (g : List (List (Option E))) (r : ℕ) (row : List (Option E)) (x : ℕ) → r < length g
    → all_held key (set g r row) x + held key (get_or g r []) x ≡ all_held key g x + held key row x
all-set key [] r row x within = absurd (omega arith)
all-set key (p ∷ rest) zero row x within = omega arith
all-set key (p ∷ rest) (suc r) row x within = omega (arith, all-set key rest r row x (omega arith))

-- the counts after one place was set
pub cell-set : {E : Type 0} (key : E → ℕ) (g : List (List (Option E))) (r c : ℕ) (o : Option E) (x : ℕ) → r < length g → c < length (get_or g r [])
    → all_held key (set g r (set (get_or g r []) c o)) x + one_held key (cell g r c) x ≡ all_held key g x + one_held key o x
cell-set key g r c o x within room = omega (arith, all-set key g r (set (get_or g r []) c o) x within, held-set key (get_or g r []) c o x room)

-- what stands there after it
pub cell-set_same : {E : Type 0} (g : List (List (Option E))) (r c : ℕ) (o : Option E) → r < length g → c < length (get_or g r [])
    → cell (set g r (set (get_or g r []) c o)) r c ≡ o
cell-set_same g r c o within room = ap (λ (row : List (Option _)). get_or row c None) (get_or-set_same g r (set (get_or g r []) c o) [] within) ∙ get_or-set_same (get_or g r []) c o None room

pub cell-set_other : {E : Type 0} (g : List (List (Option E))) (r c u q : ℕ) (o : Option E) → r < length g → (u ≢ r) ⊎ (q ≢ c)
    → cell (set g r (set (get_or g r []) c o)) u q ≡ cell g u q
cell-set_other g r c u q o within apart = elim (cases_eq u r) [
  | inl same ↦ elim apart [
    | inl other ↦ absurd (other same)
    | inr off ↦
        ap (λ n. cell (set g r (set (get_or g r []) c o)) n q) same
        ∙ ap (λ (row : List (Option _)). get_or row q None) (get_or-set_same g r (set (get_or g r []) c o) [] within)
        ∙ get_or-set_other (get_or g r []) c q o None off ∙ ap (λ n. cell g n q) (sym same)
  ]
  | inr other ↦ ap (λ (row : List (Option _)). get_or row q None) (get_or-set_other g r u (set (get_or g r []) c o) [] other)
]

-- what stands in a place has a place
pub cell-column : {E : Type 0} (g : List (List (Option E))) (r c : ℕ) (e : E) → cell g r c ≡ Some e → c < length (get_or g r [])
cell-column g r c e is = elim (cases_lt c (length (get_or g r []))) [
  | inl below ↦ below
  | inr past ↦ absurd (none-some e (sym (get_or_past (get_or g r []) c None past) ∙ is))
]

pub cell-row : {E : Type 0} (g : List (List (Option E))) (r c : ℕ) (e : E) → cell g r c ≡ Some e → r < length g
cell-row g r c e is = elim (cases_lt r (length g)) [
  | inl below ↦ below
  | inr past ↦ absurd (none-some e (sym (ap (λ (row : List (Option _)). get_or row c None) (get_or_past g r [] past)) ∙ is))
]

-- what stands in a place is counted
pub cell-there : {E : Type 0} (key : E → ℕ) (g : List (List (Option E))) (r c : ℕ) (e : E) (x : ℕ) → cell g r c ≡ Some e → key e ≡ x → 1 ≤ all_held key g x
cell-there key g r c e x is same =
    omega (
      arith,
      cell-set key g r c None x (cell-row g r c e is) (cell-column g r c e is),
      ap (λ (o : Option _). one_held key o x) is,
      one-yes (key e) x same,
    )

-- two places with a key are two
pub cell-two : {E : Type 0} (key : E → ℕ) (g : List (List (Option E))) (r c u q : ℕ) (e d : E) (x : ℕ) → cell g r c ≡ Some e → key e ≡ x → cell g u q ≡ Some d → key d ≡ x
    → (u ≢ r) ⊎ (q ≢ c) → 2 ≤ all_held key g x
cell-two key g r c u q e d x is same also equal apart =
    let row = cell-row g r c e is in
    let column = cell-column g r c e is in
    omega (
      arith,
      cell-set key g r c None x row column,
      ap (λ (o : Option _). one_held key o x) is,
      one-yes (key e) x same,
      cell-there key (set g r (set (get_or g r []) c None)) u q d x (cell-set_other g r c u q None row apart ∙ also) equal,
    )

-- a place with this key
pub record Found {E : Type 0} (key : E → ℕ) (g : List (List (Option E))) (x : ℕ) : Type 0 where
  pub row : ℕ
  pub column : ℕ
  pub it : E
  pub is : cell g row column ≡ Some it
  pub same : key it ≡ x

pub held_found : {E : Type 0} (key : E → ℕ) (row : List (Option E)) (x : ℕ) → 1 ≤ held key row x → (c : ℕ) × (e : E) × (get_or row c None ≡ Some e) × (key e ≡ x)
held_found key [] x some = absurd (omega arith)
held_found key (None ∷ rest) x some = let f = held_found key rest x (omega arith) in (suc f.0, f.1, f.2, f.3)
held_found key (Some e ∷ rest) x some = elim (cases_eq (key e) x) [
  | inl same ↦ (0, e, refl, same)
  | inr apart ↦ let f = held_found key rest x (omega (arith, some, one-no (key e) x apart)) in (suc f.0, f.1, f.2, f.3)
]

pub cell_found : {E : Type 0} (key : E → ℕ) (g : List (List (Option E))) (x : ℕ) → 1 ≤ all_held key g x → Found key g x
cell_found key [] x some = absurd (omega arith)
cell_found key (row ∷ rest) x some = elim (cases_lt 0 (held key row x)) [
  | inl here ↦ let f = held_found key row x (omega (arith, here)) in record { row = 0; column = f.0; it = f.1; is = f.2; same = f.3 }
  | inr none ↦ let f = cell_found key rest x (omega (arith, none, some)) in record { row = suc f.row; column = f.column; it = f.it; is = f.is; same = f.same }
]

-- a place with this key that is not this one
pub record Other {E : Type 0} (key : E → ℕ) (g : List (List (Option E))) (x r c : ℕ) : Type 0 where
  pub found : Found key g x
  pub apart : (found.row ≢ r) ⊎ (found.column ≢ c)

pub cell_other : {E : Type 0} (key : E → ℕ) (g : List (List (Option E))) (x r c : ℕ) (e : E) → cell g r c ≡ Some e → key e ≡ x → 2 ≤ all_held key g x → Other key g x r c
cell_other key g x r c e is same two =
    let within = cell-row g r c e is in
    let room = cell-column g r c e is in
    let some : 1 ≤ all_held key (set g r (set (get_or g r []) c None)) x =
    omega (arith, two, cell-set key g r c None x within room, ap (λ (o : Option _). one_held key o x) is, one-yes (key e) x same) in
    let f = cell_found key (set g r (set (get_or g r []) c None)) x some in
    elim (cases_eq f.row r) [
      | inl here ↦ elim (cases_eq f.column c) [
        | inl also ↦
            absurd (none-some f.it (sym (cell-set_same g r c None within room) ∙ ap (λ n. cell (set g r (set (get_or g r []) c None)) n c) (sym here)
            ∙ ap (cell (set g r (set (get_or g r []) c None)) f.row) (sym also) ∙ f.is))
        | inr off ↦ record {
          found = record { row = f.row; column = f.column; it = f.it; is = sym (cell-set_other g r c f.row f.column None within (inr off)) ∙ f.is; same = f.same };
          apart = inr off;
        }
      ]
      | inr off ↦ record {
        found = record { row = f.row; column = f.column; it = f.it; is = sym (cell-set_other g r c f.row f.column None within (inl off)) ∙ f.is; same = f.same };
        apart = inl off;
      }
    ]

-- a row of empty places holds nothing
pub held-empty : {E : Type 0} (key : E → ℕ) (row : List (Option E)) (x : ℕ) → ((c : ℕ) → get_or row c None ≡ None) → held key row x ≡ 0
held-empty key row x none = elim (cases_lt 0 (held key row x)) [
  | inl some ↦ let f = held_found key row x (omega (arith, some)) in absurd (none-some f.1 (sym (none f.0) ∙ f.2))
  | inr past ↦ omega (arith, past)
]
