-- The layout of a class, and the superclasses that lead up from it.
use Rattle.std.proofs.Common.{◌≡◌, ◌≢◌, ℕ, zero, suc, ◌<◌, ◌≤◌, ◌||◌, Bool, true, false, cond, nat_eq, List, [], ◌∷◌, ◌++◌, map, length, Option, None, Some, option_map, refl, ap, sym, ◌∙◌, arith, subst}
use Rattle.std.specs.Prelude.{option_and_then}
use Rattle.std.specs.List.{AllByRecursion, IsDistinct, flat_map, list_any}
use Rattle.std.proofs.lemmas.Cmp.{nat_eq_equiv}
use Rattle.std.proofs.lemmas.List.{append-nil, length-map}
use Rattle.std.proofs.lemmas.Map.Made.{length-le_from_is_member}
use Rattle.dump_graph.specs.Classes.{Class, codes_within, first_class, layout}
use Rattle.dump_graph.specs.Superclasses.{LeadUp}
use Rattle.dump_graph.proofs.Positions.{equal_from}

abbrev ids : List Class → List ℕ
ids cs = map (λ c. c.id) cs

module _ (known : List Class) where
  -- a class dump that is found has the identifier, which is that of a known class
  find-is : (all : List Class) (id : ℕ) (c : Class) → first_class all id ≡ Some c → (nat_eq id c.id ≡ true) × (list_any (nat_eq id) (ids all) ≡ true)
  find-is [] id c is = absurd cc
  find-is (x ∷ xs) id c is = by (find-is xs id c) (nat_eq id x.id) refl is
    where
      by : (first_class xs id ≡ Some c → (nat_eq id c.id ≡ true) × (list_any (nat_eq id) (ids xs) ≡ true)) → (b : Bool) → nat_eq id x.id ≡ b → cond b (Some x) (first_class xs id) ≡ Some c → (nat_eq id c.id ≡ true) × ((nat_eq id x.id || list_any (nat_eq id) (ids xs)) ≡ true)
      by more true here found = let same : x ≡ c = cc in (subst (λ (z : Class). nat_eq id z.id ≡ true) same here, ap (λ b. b || list_any (nat_eq id) (ids xs)) here)
      by more false there found = let rest = more found in (rest.0, ap (λ b. b || list_any (nat_eq id) (ids xs)) there ∙ rest.1)

  id-is : (id : ℕ) (c : Class) → first_class known id ≡ Some c → id ≡ c.id
  id-is id c is = equal_from id c.id (find-is known id c is).0

  -- two ways up from one class are equally long
  as-long : (id : ℕ) (l m : List Class) → LeadUp known id l → LeadUp known id m → length l ≡ length m
  as-long id [] m one other = absurd one
  as-long id (c ∷ l) [] one other = absurd other
  as-long id (c ∷ []) (d ∷ []) one other = refl
  as-long id (c ∷ []) (d ∷ e ∷ m) (is, top) (is', below, up) = let same : c ≡ d = cc in absurd (below (ap (λ (x : Class). x.parent) (sym same) ∙ top))
  as-long id (c ∷ e ∷ l) (d ∷ []) (is, below, up) (is', top) = let same : c ≡ d = cc in absurd (below (ap (λ (x : Class). x.parent) same ∙ top))
  as-long id (c ∷ e ∷ l) (d ∷ f ∷ m) (is, below, up) (is', below', up') =
      let same : c ≡ d = cc in
      ap suc (as-long c.parent (e ∷ l) (f ∷ m) up (subst (λ (x : Class). LeadUp known x.parent (f ∷ m)) (sym same) up'))

  -- so no class comes again further up
  comes-once : (id other : ℕ) (c : Class) (l m : List Class) → LeadUp known id l → LeadUp known other m → first_class known other ≡ Some c → length m < length l → nat_eq id c.id ≡ false
  comes-once id other c l m one up is less = by (nat_eq id c.id) refl
    where
      by : (b : Bool) → nat_eq id c.id ≡ b → nat_eq id c.id ≡ false
      by false apart = apart
      by true again =
          let same : other ≡ id = id-is other c is ∙ sym (equal_from id c.id again) in
          absurd (omega (arith, as-long id l m one (subst (λ i. LeadUp known i m) same up), less))

  none-again : (id other : ℕ) (l m : List Class) → LeadUp known id l → LeadUp known other m → length m < length l → AllByRecursion (λ y. nat_eq id y ≡ false) (ids m)
  none-again id other l [] one up less = absurd up
  none-again id other l (c ∷ []) one (is, top) less = (comes-once id other c l (c ∷ []) one (is, top) is less, tt)
  none-again id other l (c ∷ d ∷ m) one (is, below, up) less =
      (comes-once id other c l (c ∷ d ∷ m) one (is, below, up) is less, none-again id c.parent l (d ∷ m) one up (omega (arith, less)))

  pub all-differ : (id : ℕ) (l : List Class) → LeadUp known id l → IsDistinct nat_eq (ids l)
  unfolding IsDistinct
  all-differ id [] up = absurd up
  all-differ id (c ∷ []) up = (tt, tt)
  all-differ id (c ∷ d ∷ l) (is, below, up) =
      let here : LeadUp known c.id (c ∷ d ∷ l) = subst (λ i. LeadUp known i (c ∷ d ∷ l)) (id-is id c is) (is, below, up) in
      (none-again c.id c.parent (c ∷ d ∷ l) (d ∷ l) here up (omega arith), all-differ c.parent (d ∷ l) up)

  -- each is a known class
  at-head : (id q : ℕ) (c : Class) (rest : Bool) → first_class known id ≡ Some c → (nat_eq q c.id || rest) ≡ true → (rest ≡ true → list_any (nat_eq q) (ids known) ≡ true) → list_any (nat_eq q) (ids known) ≡ true
  at-head id q c rest is has more = by (nat_eq q c.id) refl has
    where
      by : (b : Bool) → nat_eq q c.id ≡ b → (b || rest) ≡ true → list_any (nat_eq q) (ids known) ≡ true
      by true here has = subst (λ i. list_any (nat_eq i) (ids known) ≡ true) (id-is id c is ∙ sym (equal_from q c.id here)) (find-is known id c is).1
      by false there has = more has

  all-known : (id : ℕ) (l : List Class) → LeadUp known id l → (q : ℕ) → list_any (nat_eq q) (ids l) ≡ true → list_any (nat_eq q) (ids known) ≡ true
  all-known id [] up q has = absurd up
  all-known id (c ∷ []) (is, top) q has = at-head id q c false is has (λ never. absurd cc)
  all-known id (c ∷ d ∷ l) (is, below, up) q has = at-head id q c (list_any (nat_eq q) (ids (d ∷ l))) is has (λ more. all-known c.parent (d ∷ l) up q more)

  few : (id : ℕ) (l : List Class) → LeadUp known id l → length l ≤ length known
  few id l up =
      let within : length (ids l) ≤ length (ids known) = length-le_from_is_member nat_eq_equiv (ids l) (ids known) (all-differ id l up) (all-known id l up) in
      omega (arith, within, length-map l (λ (c : Class). c.id), length-map known (λ (c : Class). c.id))

  -- their codes are the layout, if so many steps suffice
  abbrev codes_of : ℕ → Class → Option (List ℕ)
  codes_of steps c = cond (nat_eq c.parent 0) (Some c.codes) (option_map (λ above. c.codes ++ above) (codes_within known steps c.parent))

  not-0 : (n : ℕ) → n ≢ 0 → nat_eq n 0 ≡ false
  not-0 n other = by (nat_eq n 0) refl
    where
      by : (b : Bool) → nat_eq n 0 ≡ b → nat_eq n 0 ≡ false
      by false is = is
      by true is = absurd (other (equal_from n 0 is))

  codes-up : (steps id : ℕ) (l : List Class) → LeadUp known id l → length l ≤ steps → codes_within known steps id ≡ Some (flat_map (λ c. c.codes) l)
  codes-up steps id [] up enough = absurd up
  codes-up zero id (c ∷ l) up enough = absurd (omega (arith, enough))
  codes-up (suc steps) id (c ∷ []) (is, top) enough =
      let last : nat_eq c.parent 0 ≡ true = ap (λ n. nat_eq n 0) top in
      ap (option_and_then (codes_of steps)) is
      ∙ (ap (λ b. cond b (Some c.codes) (option_map (λ above. c.codes ++ above) (codes_within known steps c.parent))) last ∙ ap Some (sym (append-nil c.codes)))
  codes-up (suc steps) id (c ∷ d ∷ l) (is, below, up) enough =
      ap (option_and_then (codes_of steps)) is
      ∙ (ap (λ b. cond b (Some c.codes) (option_map (λ above. c.codes ++ above) (codes_within known steps c.parent))) (not-0 c.parent below)
      ∙ ap (option_map (λ above. c.codes ++ above)) (codes-up steps c.parent (d ∷ l) up (omega (arith, enough))))

  pub layout-up : (id : ℕ) (l : List Class) → LeadUp known id l → layout known id ≡ Some (flat_map (λ c. c.codes) l)
  layout-up id l up = codes-up (length known) id l up (few id l up)

  -- and a layout is of such classes

  one-more : (id : ℕ) (c : Class) (l : List Class) → first_class known id ≡ Some c → c.parent ≢ 0 → LeadUp known c.parent l → LeadUp known id (c ∷ l)
  one-more id c [] is below up = absurd up
  one-more id c (d ∷ l) is below up = (is, below, up)

  way-on : (id : ℕ) (c : Class) (codes above : List ℕ) → first_class known id ≡ Some c → nat_eq c.parent 0 ≡ false → codes ≡ c.codes ++ above
      → (l : List Class) × (LeadUp known c.parent l × (above ≡ flat_map (λ c. c.codes) l)) → (l : List Class) × (LeadUp known id l × (codes ≡ flat_map (λ c. c.codes) l))
  way-on id c codes above is below split (l, (up, same)) =
      (c ∷ l, (one-more id c l is (λ zero_is. absurd (cc (below, ap (λ n. nat_eq n 0) zero_is))) up, split ∙ ap (λ k. c.codes ++ k) same))

  way : (steps id : ℕ) (codes : List ℕ) → codes_within known steps id ≡ Some codes → (l : List Class) × (LeadUp known id l × (codes ≡ flat_map (λ c. c.codes) l))
  way zero id codes is = absurd cc
  way (suc steps) id codes is = by (way steps) (first_class known id) refl is
    where
      above : ((p : ℕ) (k : List ℕ) → codes_within known steps p ≡ Some k → (l : List Class) × (LeadUp known p l × (k ≡ flat_map (λ c. c.codes) l))) → (c : Class) → first_class known id ≡ Some c → nat_eq c.parent 0 ≡ false → (o : Option (List ℕ)) → codes_within known steps c.parent ≡ o → option_map (λ k. c.codes ++ k) o ≡ Some codes
          → (l : List Class) × (LeadUp known id l × (codes ≡ flat_map (λ c. c.codes) l))
      above ways c here below None more is = absurd cc
      above ways c here below (Some k) more is = let same : codes ≡ c.codes ++ k = cc in way-on id c codes k here below same (ways c.parent k more)

      at : ((p : ℕ) (k : List ℕ) → codes_within known steps p ≡ Some k → (l : List Class) × (LeadUp known p l × (k ≡ flat_map (λ c. c.codes) l))) → (c : Class) → first_class known id ≡ Some c → (b : Bool) → nat_eq c.parent 0 ≡ b → cond b (Some c.codes) (option_map (λ k. c.codes ++ k) (codes_within known steps c.parent)) ≡ Some codes
          → (l : List Class) × (LeadUp known id l × (codes ≡ flat_map (λ c. c.codes) l))
      at ways c here true top is = let same : codes ≡ c.codes = cc in (c ∷ [], ((here, equal_from c.parent 0 top), same ∙ sym (append-nil c.codes)))
      at ways c here false below is = above ways c here below (codes_within known steps c.parent) refl is

      by : ((p : ℕ) (k : List ℕ) → codes_within known steps p ≡ Some k → (l : List Class) × (LeadUp known p l × (k ≡ flat_map (λ c. c.codes) l))) → (o : Option Class) → first_class known id ≡ o → option_and_then (codes_of steps) o ≡ Some codes → (l : List Class) × (LeadUp known id l × (codes ≡ flat_map (λ c. c.codes) l))
      by ways None here is = absurd cc
      by ways (Some c) here is = at ways c here (nat_eq c.parent 0) refl is

  pub layout-way : (id : ℕ) (codes : List ℕ) → layout known id ≡ Some codes → (l : List Class) × (LeadUp known id l × IsDistinct nat_eq (map (λ c. c.id) l) × (codes ≡ flat_map (λ c. c.codes) l))
  layout-way id codes is = let found = way (length known) id codes is in (found.0, (found.1.0, all-differ id found.0 found.1.0, found.1.1))
