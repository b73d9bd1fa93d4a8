-- Names that occur once, and the fields that they find.
use Rattle.std.proofs.Common.{◌≡◌, ℕ, ◌+◌, ◌*◌, ◌≤◌, ◌⊎◌, Bool, true, false, cond, not, ◌&&◌, ◌||◌, true≢false, List, [], ◌∷◌, ◌++◌, None, Some, length, filter, nat_eq, refl, sym, ap, ◌∙◌, inl, inr, arith}
use Rattle.std.specs.List.{list_any, find}
use Rattle.std.specs.Option.{option_map}
use Rattle.std.specs.Cmp.Lexicographic.{bytes_decides}
use Rattle.std.proofs.lemmas.Bool.{cases_Bool}
use Rattle.class_layout.specs.declared.kind.Kind.{Kind}
use Rattle.class_layout.specs.declared.kind.Kind.TheVariants.{Ref, Boolean, Byte, Char, Short, Int, Long}
use Rattle.class_layout.specs.declared.kind.FieldDecl.{FieldDecl}
use Rattle.class_layout.specs.Kinds.{kind_bytes, is_ref, next_multiple}
use Rattle.class_layout.specs.Layout.{Placed, Laid, place_field, place_fields, is_plain, in_layout_order, lay_out, field_named}
use Rattle.class_layout.specs.Names.{same_name}
use Rattle.class_layout.specs.ClassList.{declares, repeats, occurs_in, names_repeat}
use Rattle.class_layout.specs.Placing.{IsIn}
use Rattle.class_layout.proofs.Places.{kind_bytes-le}
use Rattle.class_layout.proofs.Lists.{how_many, how_many-append, how_many-none, none-how_many}

pub same_name-refl : (n : List ℕ) → same_name n n ≡ true
same_name-refl n = (bytes_decides n n).1 refl

pub names-same : (m n : List ℕ) → same_name m n ≡ true → m ≡ n
names-same m n h = (bytes_decides m n).0 h

pub same_name-symm : (m n : List ℕ) → same_name m n ≡ true → same_name n m ≡ true
same_name-symm m n h = (bytes_decides n m).1 (sym (names-same m n h))

module _ {X : Type 0} (name_of : X → List ℕ) where
  -- how many elements have a name
  abbrev pub named : List ℕ → List X → ℕ
  named n xs = how_many (λ x. same_name (name_of x) n) xs

  -- a name occurs twice
  abbrev pub twice : List X → Bool
  twice [] = false
  twice (x ∷ xs) = list_any (λ y. same_name (name_of y) (name_of x)) xs || twice xs

  or-false : (a b : Bool) → (a || b) ≡ false → (a ≡ false) × (b ≡ false)
  or-false true b h = absurd (true≢false h)
  or-false false b h = (refl, h)

  pub named-once : (xs : List X) (n : List ℕ) → twice xs ≡ false → named n xs ≤ 1
  named-once [] n h = omega arith
  named-once (x ∷ xs) n h =
      let parts = or-false (list_any (λ y. same_name (name_of y) (name_of x)) xs) (twice xs) h in
      elim (cases_Bool (same_name (name_of x) n)) [
        | inl e ↦
            let none : named (name_of x) xs ≡ 0 = how_many-none (λ y. same_name (name_of y) (name_of x)) xs parts.0 in
            let none' : named n xs ≡ 0 = ap (λ m. named m xs) (sym (names-same (name_of x) n e)) ∙ none in
            let one : named n (x ∷ xs) ≡ 1 + named n xs = ap (λ b. cond b 1 0 + named n xs) e in
            omega arith
        | inr e ↦
            let same : named n (x ∷ xs) ≡ 0 + named n xs = ap (λ b. cond b 1 0 + named n xs) e in
            omega (arith, named-once xs n parts.1)
      ]

  pub once-named : (xs : List X) → ((n : List ℕ) → named n xs ≤ 1) → twice xs ≡ false
  once-named [] h = refl
  once-named (x ∷ xs) h =
      let own : named (name_of x) (x ∷ xs) ≡ 1 + named (name_of x) xs = ap (λ b. cond b 1 0 + named (name_of x) xs) (same_name-refl (name_of x)) in
      let none : list_any (λ y. same_name (name_of y) (name_of x)) xs ≡ false = none-how_many (λ y. same_name (name_of y) (name_of x)) xs (omega (arith, h (name_of x))) in
      let rest : twice xs ≡ false = once-named xs (λ n. omega (arith, h n, cond-le (same_name (name_of x) n) (named n xs))) in
      ap (λ b. b || twice xs) none ∙ rest
    where
      cond-le : (b : Bool) (m : ℕ) → m ≤ cond b 1 0 + m
      cond-le true m = omega arith
      cond-le false m = omega arith

abbrev of_field : FieldDecl → List ℕ
of_field f = f.name

abbrev of_place : Placed → List ℕ
of_place p = p.name

repeats-twice : (fs : List FieldDecl) → repeats fs ≡ twice of_field fs
repeats-twice [] = refl
repeats-twice (f ∷ fs) = ap (λ b. declares fs f.name || b) (repeats-twice fs)

names_repeat-twice : (ps : List Placed) → names_repeat ps ≡ twice of_place ps
names_repeat-twice [] = refl
names_repeat-twice (p ∷ ps) = ap (λ b. list_any (λ q. same_name q.name p.name) ps || b) (names_repeat-twice ps)

how_many-filter : {X : Type 0} (p t : X → Bool) (x : X) (xs : List X) → how_many p (filter t (x ∷ xs)) ≡ cond (t x) (cond (p x) 1 0) 0 + how_many p (filter t xs)
how_many-filter p t x xs = by (t x)
  where
    by : (b : Bool) → how_many p (cond b (x ∷ filter t xs) (filter t xs)) ≡ cond b (cond (p x) 1 0) 0 + how_many p (filter t xs)
    by true = refl
    by false = omega arith

-- each kind belongs to one group
one_group : (k : Kind) (m : ℕ)
    → cond (is_ref k) m 0 + cond (not (is_ref k) && nat_eq (kind_bytes k) 8) m 0 + cond (not (is_ref k) && nat_eq (kind_bytes k) 4) m 0 + cond (not (is_ref k) && nat_eq (kind_bytes k) 2) m 0
    + cond (not (is_ref k) && nat_eq (kind_bytes k) 1) m 0 ≡ m
one_group Ref m = omega arith
one_group Boolean m = omega arith
one_group Byte m = omega arith
one_group Char m = omega arith
one_group Short m = omega arith
one_group Int m = omega arith
one_group Long m = omega arith

-- the layout order has each field once
module _ (p : FieldDecl → Bool) where
  abbrev in_groups : List FieldDecl → ℕ
  in_groups fs =
      how_many p (filter (λ f. is_ref f.kind) fs) + how_many p (filter (is_plain 8) fs) + how_many p (filter (is_plain 4) fs) + how_many p (filter (is_plain 2) fs) + how_many p (filter (is_plain 1) fs)

  all_groups : (fs : List FieldDecl) → in_groups fs ≡ how_many p fs
  all_groups [] = refl
  all_groups (f ∷ fs) =
      omega (
        arith,
        how_many-filter p (λ f. is_ref f.kind) f fs,
        how_many-filter p (is_plain 8) f fs,
        how_many-filter p (is_plain 4) f fs,
        how_many-filter p (is_plain 2) f fs,
        how_many-filter p (is_plain 1) f fs,
        one_group f.kind (cond (p f) 1 0),
        all_groups fs,
      )

  pub how_many-in_layout_order : (fs : List FieldDecl) → how_many p (in_layout_order fs) ≡ how_many p fs
  how_many-in_layout_order fs =
      let r = filter (λ f. is_ref f.kind) fs in
      let e = filter (is_plain 8) fs in
      let q = filter (is_plain 4) fs in
      let d = filter (is_plain 2) fs in
      let s = filter (is_plain 1) fs in
      how_many-append p (r ++ e ++ q ++ d) s ∙ ap (λ n. n + how_many p s) (how_many-append p (r ++ e ++ q) d ∙ ap (λ n. n + how_many p d) (how_many-append p (r ++ e) q ∙ ap (λ n. n + how_many p q) (how_many-append p r e)))
      ∙ all_groups fs

how_many-all : {X : Type 0} (xs : List X) → how_many (λ _. true) xs ≡ length xs
how_many-all [] = refl
how_many-all (x ∷ xs) = omega (arith, how_many-all xs)

pub length-in_layout_order : (fs : List FieldDecl) → length (in_layout_order fs) ≡ length fs
length-in_layout_order fs = sym (how_many-all (in_layout_order fs)) ∙ how_many-in_layout_order (λ _. true) fs ∙ how_many-all fs

-- what is placed has the names of the fields
pub named-place_fields : (weak : Bool) (laid : Laid) (fs : List FieldDecl) (n : List ℕ) → named of_place n (place_fields weak laid fs).fields ≡ named of_place n laid.fields + named of_field n fs
named-place_fields weak laid [] n = omega arith
named-place_fields weak laid (f ∷ fs) n =
    let next = place_field weak laid f in
    let x : Placed = record { name = f.name; at = record { kind = f.kind; offset = next_multiple (kind_bytes f.kind) laid.end; weak = weak } } in
    let one : named of_place n next.fields ≡ named of_place n laid.fields + named of_place n (x ∷ []) = how_many-append (λ p. same_name p.name n) laid.fields (x ∷ []) in
    omega (arith, named-place_fields weak next fs n, one)

pub named-lay_out : (weak : Bool) (laid : Laid) (fs : List FieldDecl) (n : List ℕ) → named of_place n (lay_out weak laid fs).fields ≡ named of_place n laid.fields + named of_field n fs
named-lay_out weak laid fs n =
    named-place_fields weak laid (in_layout_order fs) n ∙ ap (λ m. named of_place n laid.fields + m) (how_many-in_layout_order (λ f. same_name f.name n) fs)

-- a name that none of the inherited fields has
apart : (laid : Laid) (fs : List FieldDecl) (n : List ℕ) → occurs_in laid fs ≡ false → (named of_field n fs ≡ 0) ⊎ (named of_place n laid.fields ≡ 0)
apart laid [] n h = inl refl
apart laid (f ∷ fs) n h =
    let parts = or-false of_field (list_any (λ p. same_name p.name f.name) laid.fields) (occurs_in laid fs) h in
    elim (cases_Bool (same_name f.name n)) [
      | inl e ↦ inr (ap (λ m. named of_place m laid.fields) (sym (names-same f.name n e)) ∙ how_many-none (λ p. same_name p.name f.name) laid.fields parts.0)
      | inr e ↦
          elim (apart laid fs n parts.1) [
            | inl none ↦ inl (ap (λ b. cond b 1 0 + named of_field n fs) e ∙ omega (arith, none))
            | inr none ↦ inr none
          ]
    ]

-- each name occurs at most once among the places
pub unique : (ps : List Placed) → names_repeat ps ≡ false → (n : List ℕ) → named of_place n ps ≤ 1
unique ps h n = named-once of_place ps n (sym (names_repeat-twice ps) ∙ h)

pub names_repeat-lay_out : (weak : Bool) (laid : Laid) (fs : List FieldDecl) → names_repeat laid.fields ≡ false → repeats fs ≡ false → occurs_in laid fs ≡ false
    → names_repeat (lay_out weak laid fs).fields ≡ false
names_repeat-lay_out weak laid fs before own new =
    names_repeat-twice (lay_out weak laid fs).fields ∙ once-named of_place (lay_out weak laid fs).fields (λ n.
    let a : named of_place n laid.fields ≤ 1 = unique laid.fields before n in
    let b : named of_field n fs ≤ 1 = named-once of_field fs n (sym (repeats-twice fs) ∙ own) in
    let sum = named-lay_out weak laid fs n in
    elim (apart laid fs n new) [ inl none ↦ omega (arith, none, sum) | inr none ↦ omega (arith, none, sum) ])

IsIn-named : (ps : List Placed) (x : Placed) → IsIn x ps → 1 ≤ named of_place x.name ps
IsIn-named [] x h = absurd h
IsIn-named (p ∷ ps) x h =
    elim h [
      | inl e ↦
          let same : same_name p.name x.name ≡ true = ap (λ q. same_name q.name x.name) e ∙ same_name-refl x.name in
          let one : named of_place x.name (p ∷ ps) ≡ 1 + named of_place x.name ps = ap (λ b. cond b 1 0 + named of_place x.name ps) same in
          omega arith
      | inr r ↦ omega (arith, IsIn-named ps x r)
    ]

-- a place is found by its name, where names are unique
pub find-unique : (ps : List Placed) (x : Placed) → ((n : List ℕ) → named of_place n ps ≤ 1) → IsIn x ps → find (λ p. same_name p.name x.name) ps ≡ Some x
find-unique [] x u h = absurd h
find-unique (p ∷ ps) x u h =
    elim h [
      | inl e ↦
          let same : same_name p.name x.name ≡ true = ap (λ q. same_name q.name x.name) e ∙ same_name-refl x.name in
          ap (λ b. cond b (Some p) (find (λ p. same_name p.name x.name) ps)) same ∙ ap Some e
      | inr r ↦
          let there : 1 ≤ named of_place x.name ps = IsIn-named ps x r in
          elim (cases_Bool (same_name p.name x.name)) [
            | inl e ↦
                let two : named of_place x.name (p ∷ ps) ≡ 1 + named of_place x.name ps = ap (λ b. cond b 1 0 + named of_place x.name ps) e in
                absurd (omega (arith, u x.name))
            | inr e ↦
                ap (λ b. cond b (Some p) (find (λ p. same_name p.name x.name) ps)) e
                ∙ find-unique ps x (λ n. omega (arith, u n)) r
          ]
    ]

find-push : (p : Placed → Bool) (xs : List Placed) (x : Placed) → p x ≡ false → find p (xs ++ x ∷ []) ≡ find p xs
find-push p [] x e = ap (λ b. cond b (Some x) None) e
find-push p (y ∷ xs) x e = ap (cond (p y) (Some y)) (find-push p xs x e)

-- a name that no own field has is looked up among the inherited fields
find-place_fields : (weak : Bool) (laid : Laid) (fs : List FieldDecl) (n : List ℕ) → named of_field n fs ≡ 0
    → find (λ p. same_name p.name n) (place_fields weak laid fs).fields ≡ find (λ p. same_name p.name n) laid.fields
find-place_fields weak laid [] n h = refl
find-place_fields weak laid (f ∷ fs) n h =
    elim (cases_Bool (same_name f.name n)) [
      | inl e ↦
          let one : 1 + named of_field n fs ≡ 0 = ap (λ b. cond b 1 0 + named of_field n fs) (sym e) ∙ h in
          absurd (omega arith)
      | inr e ↦
          let rest : 0 + named of_field n fs ≡ 0 = ap (λ b. cond b 1 0 + named of_field n fs) (sym e) ∙ h in
          find-place_fields weak (place_field weak laid f) fs n (omega arith) ∙ find-push (λ p. same_name p.name n) laid.fields _ e
    ]

pub field_named-inherited : (weak : Bool) (laid : Laid) (fs : List FieldDecl) (n : List ℕ) → named of_field n fs ≡ 0 → field_named (lay_out weak laid fs) n ≡ field_named laid n
field_named-inherited weak laid fs n h =
    ap (option_map (λ p. p.at)) (find-place_fields weak laid (in_layout_order fs) n (how_many-in_layout_order (λ f. same_name f.name n) fs ∙ h))

pub field_named-own : (laid : Laid) (x : Placed) → names_repeat laid.fields ≡ false → IsIn x laid.fields → field_named laid x.name ≡ Some x.at
field_named-own laid x h there = ap (option_map (λ p. p.at)) (find-unique laid.fields x (unique laid.fields h) there)

-- how far a list of fields reaches
pub next_multiple-near : (k : Kind) (p : ℕ) → next_multiple (kind_bytes k) p ≤ p + 7
next_multiple-near Ref p = omega arith
next_multiple-near Boolean p = omega arith
next_multiple-near Byte p = omega arith
next_multiple-near Char p = omega arith
next_multiple-near Short p = omega arith
next_multiple-near Int p = omega arith
next_multiple-near Long p = omega arith

place_fields-near : (weak : Bool) (laid : Laid) (fs : List FieldDecl) → (place_fields weak laid fs).end ≤ laid.end + 15 * length fs
place_fields-near weak laid [] = omega arith
place_fields-near weak laid (f ∷ fs) =
    omega (arith, place_fields-near weak (place_field weak laid f) fs, next_multiple-near f.kind laid.end, kind_bytes-le f.kind)

pub lay_out-near : (weak : Bool) (laid : Laid) (fs : List FieldDecl) → (lay_out weak laid fs).end ≤ laid.end + 15 * length fs
lay_out-near weak laid fs = omega (arith, place_fields-near weak laid (in_layout_order fs), length-in_layout_order fs)
