-- The layouts of instances through the converted class dumps are those through the class dumps.
use Rattle.std.proofs.Common.{◌≡◌, ℕ, zero, suc, ◌⊎◌, inl, inr, Bool, true, false, cond, nat_eq, List, [], ◌∷◌, ◌++◌, map, length, Option, None, Some, option_map, refl, ap, sym, ◌∙◌, arith, subst, All}
use Rattle.std.specs.Prelude.{Contains, option_and_then}
use Rattle.std.specs.List.{filter_map, flat_map}
use Rattle.std.proofs.lemmas.List.{length-map}
use Rattle.std.proofs.lemmas.List.Elements.{All-nil, All-cons, All-head, All-tail, Contains-append_left, Contains-append_right, Contains-append_cases, Contains-push_cases, Contains-get_or}
use Rattle.hprof_wide.specs.declared.wide_sub.WideSub.{WideSub}
use Rattle.hprof_wide.specs.declared.wide_sub.WideSub.TheVariants.{Root, HeapInfo, ClassDump, Instance, ObjectArray, PrimitiveArray, NoData}
use Rattle.hprof_wide.specs.declared.wide_top.WideTop.{WideTop}
use Rattle.hprof_wide.specs.declared.wide_top.WideTop.TheVariants.{Text, LoadClass, Trace, Segment, Other}
use Rattle.dump_graph.specs.Classes.{Class, classes, first_class, codes_within, layout}
use Rattle.dump_graph.specs.Graph.{parts}
use Rattle.dump_graph.proofs.Positions.{equal_from, nat_eq-same}
use Rattle.hprof_convert.specs.Names.{named, rename, IsAmong}
use Rattle.hprof_convert.specs.Identifiers.{ids_of_part, ids_of_record, ids_of}
use Rattle.hprof_convert.specs.Layouts.{wide_parts, wide_parts_of, wide_class_of, wide_classes}
use Rattle.hprof_convert.specs.Converted.{names_of, renamed_class, converted}
use Rattle.hprof_convert.proofs.Numbers.{zero-stays, rename-injective}
use Rattle.hprof_convert.proofs.Parts.{converted-classes}

-- what stands in one of some lists
head-is : {X : Type 0} (x y : X) → Contains (x ∷ []) y → x ≡ y
head-is x y has = by (Contains-push_cases [] x y has)
  where
    by : Contains [] y ⊎ (x ≡ y) → x ≡ y
    by (inl (k, within, is)) = absurd (omega (arith, within))
    by (inr is) = is

contains-in : {X : Type 0} (f : X → List ℕ) (xs : List X) (x : X) (q : ℕ) → Contains xs x → Contains (f x) q → Contains (flat_map f xs) q
contains-in f [] x q (k, within, is) has = absurd (omega (arith, within))
contains-in f (y ∷ xs) x q at has = by (λ later. contains-in f xs x q later has) (Contains-append_cases (y ∷ []) xs x at)
  where
    by : (Contains xs x → Contains (flat_map f xs) q) → Contains (y ∷ []) x ⊎ Contains xs x → Contains (f y ++ flat_map f xs) q
    by rest (inl here) = Contains-append_left (f y) (flat_map f xs) q (subst (λ z. Contains (f z) q) (sym (head-is y x here)) has)
    by rest (inr later) = Contains-append_right (f y) (flat_map f xs) q (rest later)

contains-from : {X Y : Type 0} (f : X → List Y) (xs : List X) (y : Y) → Contains (flat_map f xs) y → (x : X) × (Contains xs x × Contains (f x) y)
contains-from f [] y (k, within, is) = absurd (omega (arith, within))
contains-from f (x ∷ xs) y has = by (contains-from f xs y) (Contains-append_cases (f x) (flat_map f xs) y has)
  where
    by : (Contains (flat_map f xs) y → (z : _) × (Contains xs z × Contains (f z) y)) → Contains (f x) y ⊎ Contains (flat_map f xs) y → (z : _) × (Contains (x ∷ xs) z × Contains (f z) y)
    by rest (inl here) = (x, (Contains-append_left (x ∷ []) xs x (Contains-get_or (x ∷ []) 0 x (omega arith)), here))
    by rest (inr later) = let found = rest later in (found.0, (Contains-append_right (x ∷ []) xs found.0 found.1.0, found.1.1))

-- the identifiers of a part are among those of the records
module _ (w : ℕ) (known : List Class) where
  record-ids : (r : WideTop) (p : WideSub) (q : ℕ) → Contains (wide_parts_of r) p → Contains (ids_of_part w known p) q → Contains (ids_of_record w known r) q
  record-ids (Text time id bytes) p q (k, within, is) has = absurd (omega (arith, within))
  record-ids (LoadClass time serial class stack name rest) p q (k, within, is) has = absurd (omega (arith, within))
  record-ids (Trace time serial thread frames rest) p q (k, within, is) has = absurd (omega (arith, within))
  record-ids (Segment time tag size ps) p q at has = contains-in (ids_of_part w known) ps p q at has
  record-ids (Other time tag body) p q (k, within, is) has = absurd (omega (arith, within))

  pub part-ids : (rs : List WideTop) (p : WideSub) (q : ℕ) → Contains (wide_parts rs) p → Contains (ids_of_part w known p) q → Contains (flat_map (ids_of_record w known) rs) q
  part-ids rs p q at has =
      let found = contains-from wide_parts_of rs p at in
      contains-in (ids_of_record w known) rs found.0 q found.1.0 (record-ids found.0 p q found.1.1 has)

-- a class whose identifiers are among these
abbrev IsClassAmong : List ℕ → Class → Type 0
IsClassAmong ids c = IsAmong ids c.id × IsAmong ids c.parent

classes-among : (w : ℕ) (known : List Class) (ids : List ℕ) (ps : List WideSub) → ((p : WideSub) → Contains ps p → (q : ℕ) → Contains (ids_of_part w known p) q → Contains ids q) → All (IsClassAmong ids) (filter_map wide_class_of ps)
classes-among w known ids [] among = All-nil (IsClassAmong ids)
classes-among w known ids (p ∷ ps) among = by p (among p (Contains-append_left (p ∷ []) ps p (Contains-get_or (p ∷ []) 0 p (omega arith)))) (classes-among w known ids ps (λ o at. among o (Contains-append_right (p ∷ []) ps o at)))
  where
    by : (p : WideSub) → ((q : ℕ) → Contains (ids_of_part w known p) q → Contains ids q) → All (IsClassAmong ids) (filter_map wide_class_of ps) → All (IsClassAmong ids) (filter_map wide_class_of (p ∷ ps))
    by (Root tag id first second) here rest = rest
    by (HeapInfo heap name) here rest = rest
    by (ClassDump id stack parent loader signers domain spare_a spare_b size cs ss fs) here rest =
        let own : List ℕ = ids_of_part w known (ClassDump id stack parent loader signers domain spare_a spare_b size cs ss fs) in
        let class : Class = record { id = id; parent = parent; codes = map (λ (f : ℕ × ℕ). f.1) fs } in
        All-cons (IsClassAmong ids) class (filter_map wide_class_of ps) (inr (here id (Contains-get_or own 0 0 (omega arith))), inr (here parent (Contains-get_or own 1 0 (omega arith)))) rest
    by (Instance id stack class bytes) here rest = rest
    by (ObjectArray id stack class items) here rest = rest
    by (PrimitiveArray id stack code count bytes) here rest = rest
    by (NoData id stack count code) here rest = rest

module _ (ids : List ℕ) where
  abbrev new : ℕ → ℕ
  new id = rename (named ids) id

  same-test : (a b : ℕ) → IsAmong ids a → IsAmong ids b → nat_eq (new a) (new b) ≡ nat_eq a b
  same-test a b among also = by (nat_eq a b) refl (nat_eq (new a) (new b)) refl
    where
      by : (x : Bool) → nat_eq a b ≡ x → (y : Bool) → nat_eq (new a) (new b) ≡ y → nat_eq (new a) (new b) ≡ nat_eq a b
      by true is true is' = is' ∙ sym is
      by false is false is' = is' ∙ sym is
      by true is false is' = absurd (let one : nat_eq (new a) (new b) ≡ true = ap (λ k. nat_eq (new a) (new k)) (sym (equal_from a b is)) ∙ nat_eq-same (new a) in cc)
      by false is true is' = absurd (let one : nat_eq a b ≡ true = ap (nat_eq a) (sym (rename-injective ids a b among also (equal_from (new a) (new b) is'))) ∙ nat_eq-same a in cc)

  -- the first class dump with an identifier is found under the new one
  first-renamed : (known : List Class) (q : ℕ) → All (IsClassAmong ids) known → IsAmong ids q → first_class (map (renamed_class (named ids)) known) (new q) ≡ option_map (renamed_class (named ids)) (first_class known q)
  first-renamed [] q among is = refl
  first-renamed (c ∷ known) q among is =
      ap (λ b. cond b (Some (renamed_class (named ids) c)) (first_class (map (renamed_class (named ids)) known) (new q))) (same-test q c.id is (All-head (IsClassAmong ids) c known among).0)
      ∙ by (nat_eq q c.id) (first-renamed known q (All-tail (IsClassAmong ids) c known among) is)
    where
      by : (b : Bool) → first_class (map (renamed_class (named ids)) known) (new q) ≡ option_map (renamed_class (named ids)) (first_class known q)
          → cond b (Some (renamed_class (named ids) c)) (first_class (map (renamed_class (named ids)) known) (new q)) ≡ option_map (renamed_class (named ids)) (cond b (Some c) (first_class known q))
      by true rest = refl
      by false rest = rest

  found-among : (known : List Class) (q : ℕ) (c : Class) → All (IsClassAmong ids) known → first_class known q ≡ Some c → IsClassAmong ids c
  found-among [] q c among is = absurd cc
  found-among (x ∷ known) q c among is = by (nat_eq q x.id) (found-among known q c (All-tail (IsClassAmong ids) x known among)) is
    where
      by : (b : Bool) → (first_class known q ≡ Some c → IsClassAmong ids c) → cond b (Some x) (first_class known q) ≡ Some c → IsClassAmong ids c
      by true rest is = let same : x ≡ c = cc in subst (IsClassAmong ids) same (All-head (IsClassAmong ids) x known among)
      by false rest is = rest is

  module _ (known : List Class) (among : All (IsClassAmong ids) known) where
    abbrev own : List Class → ℕ → Class → Option (List ℕ)
    own all steps c = cond (nat_eq c.parent 0) (Some c.codes) (option_map (λ above. c.codes ++ above) (codes_within all steps c.parent))

    abbrev renamed : List Class
    renamed = map (renamed_class (named ids)) known

    top-renamed : (q : ℕ) → IsAmong ids q → nat_eq (new q) 0 ≡ nat_eq q 0
    top-renamed q is = ap (nat_eq (new q)) (sym (zero-stays ids)) ∙ same-test q 0 is (inl refl)

    codes-renamed : (steps q : ℕ) → IsAmong ids q → codes_within renamed steps (new q) ≡ codes_within known steps q
    codes-renamed zero q is = refl
    codes-renamed (suc steps) q is =
        ap (option_and_then (own renamed steps)) (first-renamed known q among is) ∙ by (first_class known q) refl (codes-renamed steps)
      where
        by : (o : Option Class) → first_class known q ≡ o → ((p : ℕ) → IsAmong ids p → codes_within renamed steps (new p) ≡ codes_within known steps p)
            → option_and_then (own renamed steps) (option_map (renamed_class (named ids)) o) ≡ option_and_then (own known steps) o
        by None at rest = refl
        by (Some c) at rest =
            let up : IsAmong ids c.parent = (found-among known q c among at).1 in
            ap (λ b. cond b (Some c.codes) (option_map (λ above. c.codes ++ above) (codes_within renamed steps (new c.parent)))) (top-renamed c.parent up)
            ∙ ap (λ (o : Option (List ℕ)). cond (nat_eq c.parent 0) (Some c.codes) (option_map (λ above. c.codes ++ above) o)) (rest c.parent up)

    pub layout-same : (q : ℕ) → IsAmong ids q → layout renamed (new q) ≡ layout known q
    layout-same q is = ap (λ n. codes_within renamed n (new q)) (length-map known (renamed_class (named ids))) ∙ codes-renamed (length known) q is

-- a class has the same layout through the converted class dumps
pub layout-converted : (w class : ℕ) (records : List WideTop) → IsAmong (ids_of w records) class → layout (classes (parts (converted w records))) (rename (names_of w records) class) ≡ layout (wide_classes records) class
layout-converted w class records is =
    let ids : List ℕ = ids_of w records in
    let among = classes-among w (wide_classes records) ids (wide_parts records) (λ p at q. part-ids w (wide_classes records) records p q at) in
    ap (λ (k : List Class). layout k (rename (names_of w records) class)) (converted-classes w records) ∙ layout-same ids (wide_classes records) among class is
