-- The strings of a dump: each text of it stands under its identifier.
use Rattle.std.proofs.Common.{◌≡◌, ◌↔◌, ◌⊎◌, ℕ, suc, ◌+◌, ◌<◌, ◌≤◌, Bool, true, false, cond, ◌||◌, List, [], ◌∷◌, ◌++◌, Option, Some, None, length, map, filter, nat_eq, slice_get, refl, sym, ap, ◌∙◌, subst, inl, inr, arith}
use Rattle.std.proofs.lemmas.Bool.{cases_Bool, cases_eq, eq-eqb, ne_eqb, true≢false}
use Rattle.std.proofs.lemmas.List.{append-nil}
use Rattle.std.specs.List.{find, flat_map, fold, list_any, position}
use Rattle.std.specs.Option.{option_map}
use Rattle.std.specs.Prelude.{unwrap_or}
use Rattle.class_layout.specs.declared.kind.FieldDecl.{FieldDecl}
use Rattle.class_layout.specs.ClassList.{Class}
use Rattle.class_layout.specs.Names.{same_name}
use Rattle.class_layout.specs.Placing.{IsIn}
use Rattle.class_layout.proofs.Lists.{how_many, how_many-append, how_many-none, position-no, position-yes}
use Rattle.class_layout.proofs.Places.{IsIn-left, IsIn-right}
use Rattle.class_layout.proofs.Uniqueness.{names-same, same_name-refl}
use Rattle.heap_graph.specs.Graph.{Graph}
use Rattle.hprof_write.specs.Segments.{heap_name, segments}
use Rattle.hprof_write.specs.Strings as strings
use Rattle.hprof_write.specs.Written.{items, written_with}
use Rattle.object_view.specs.declared.names.Heap.{Heap}
use Rattle.object_view.specs.declared.names.Heap.TheVariants.{Image, Zygote, App}
use Rattle.hprof_write.proofs.ValuesAt.{IsIn-slice_get}
use Rattle.dump_shows.specs.Reading as read
use Rattle.dump_shows.specs.Shows.{fixed_texts, IsText}
use Rattle.dump_shows.proofs.ListParts.{filter-no, filter-yes, find-no, find-yes, flat-in, in-either, in-flat, map-in}
use Rattle.dump_shows.proofs.Segs.{loads-none, segments-none, view-written}

-- texts with their identifiers, the first with this one
abbrev pub numbered : ℕ → List (List ℕ) → List (ℕ × List ℕ)
numbered id [] = []
numbered id (s ∷ ss) = (id, s) ∷ numbered (id + 1) ss

texts-read : (id : ℕ) (ss : List (List ℕ)) → flat_map read.strings_in (strings.text_records id ss) ≡ numbered id ss
texts-read id [] = refl
texts-read id (s ∷ ss) = ap (λ (l : List (ℕ × List ℕ)). (id, s) ∷ l) (texts-read (id + 1) ss)

pub strings-written : (ss : List (List ℕ)) (g : Graph) (table : ℕ → ℕ) → read.strings (written_with ss g table) ≡ numbered 1 ss
strings-written ss g table =
    let segs = segments-none read.strings_in (λ ps. refl) ss (items ss g table) in
    let loads = loads-none read.strings_in (λ serial class name. refl) ss 0 g.classes in
    view-written read.strings_in ss g table refl refl
    ∙ ap (λ l. flat_map read.strings_in (strings.text_records 1 ss) ++ (l ++ []) ++ flat_map read.strings_in (segments ss (items ss g table))) loads
    ∙ ap (λ l. flat_map read.strings_in (strings.text_records 1 ss) ++ [] ++ l) segs
    ∙ append-nil (flat_map read.strings_in (strings.text_records 1 ss) ++ []) ∙ append-nil (flat_map read.strings_in (strings.text_records 1 ss))
    ∙ texts-read 1 ss

abbrev has_id : ℕ → ℕ × List ℕ → Bool
has_id id s = nat_eq s.0 id

-- identifiers from one on
past : (id from : ℕ) (ss : List (List ℕ)) → id < from → filter (has_id id) (numbered from ss) ≡ []
past id from [] h = refl
past id from (s ∷ ss) h =
    let ne : from ≡ id → ⊥ = λ e. absurd (omega arith) in
    filter-no (has_id id) (from, s) (numbered (from + 1) ss) (ne_eqb from id ne) ∙ past id (from + 1) ss (omega arith)

pub one-string : (id from : ℕ) (ss : List (List ℕ)) → length (filter (has_id id) (numbered from ss)) ≤ 1
one-string id from [] = omega arith
one-string id from (s ∷ ss) =
    elim (cases_eq from id) [
      | inl e ↦
          let one : filter (has_id id) (numbered from (s ∷ ss)) ≡ (from, s) ∷ [] =
          filter-yes (has_id id) (from, s) (numbered (from + 1) ss) (eq-eqb from id e)
          ∙ ap (λ (l : List (ℕ × List ℕ)). (from, s) ∷ l) (past id (from + 1) ss (omega arith)) in
          omega (arith, ap length one)
      | inr ne ↦
          let same : filter (has_id id) (numbered from (s ∷ ss)) ≡ filter (has_id id) (numbered (from + 1) ss) =
          filter-no (has_id id) (from, s) (numbered (from + 1) ss) (ne_eqb from id ne) in
          omega (arith, ap length same, one-string id (from + 1) ss)
    ]

-- the place of a text is its identifier's
find-text : (text : List ℕ) (ss : List (List ℕ)) (from k : ℕ) → position (same_name text) ss ≡ Some k
    → option_map (λ (s : ℕ × List ℕ). s.1) (find (has_id (k + from)) (numbered from ss)) ≡ Some text
find-text text [] from k h = absurd (cc)
find-text text (s ∷ ss) from k h =
    elim (cases_Bool (same_name text s)) [
      | inl e ↦
          let z : Some 0 ≡ Some k = sym (position-yes (same_name text) s ss e) ∙ h in
          let y : 0 ≡ k = cc in
          let there = find-yes (has_id (k + from)) (from, s) (numbered (from + 1) ss) (eq-eqb from (k + from) (omega arith)) in
          ap (option_map (λ (s : ℕ × List ℕ). s.1)) there ∙ ap (λ (t : List ℕ). Some t) (sym (names-same text s e))
      | inr e ↦ later (position (same_name text) ss) refl (sym (position-no (same_name text) s ss e) ∙ h) (λ j at. find-text text ss (from + 1) j at)
    ]
  where
    later : (o : Option ℕ) → position (same_name text) ss ≡ o → option_map suc (position (same_name text) ss) ≡ Some k
        → ((j : ℕ) → position (same_name text) ss ≡ Some j → option_map (λ (s : ℕ × List ℕ). s.1) (find (has_id (j + (from + 1))) (numbered (from + 1) ss)) ≡ Some text)
        → option_map (λ (s : ℕ × List ℕ). s.1) (find (has_id (k + from)) (numbered from (s ∷ ss))) ≡ Some text
    later None e g rest =
        let f : None ≡ Some k = ap (option_map suc) (sym e) ∙ g in
        absurd (cc)
    later (Some j) e g rest =
        let f : Some (suc j) ≡ Some k = ap (option_map suc) (sym e) ∙ g in
        let y : suc j ≡ k = cc in
        let ne : from ≡ k + from → ⊥ = λ z. absurd (omega arith) in
        let i : j + (from + 1) ≡ k + from = omega arith in
        ap (option_map (λ (s : ℕ × List ℕ). s.1)) (find-no (has_id (k + from)) (from, s) (numbered (from + 1) ss) (ne_eqb from (k + from) ne))
        ∙ ap (λ n. option_map (λ (s : ℕ × List ℕ). s.1) (find (has_id n) (numbered (from + 1) ss))) (sym i)
        ∙ rest j e

-- what is among texts has a place
place-of : (text : List ℕ) (ss : List (List ℕ)) → list_any (same_name text) ss ≡ true → (k : ℕ) × (position (same_name text) ss ≡ Some k)
place-of text [] h = absurd (true≢false (sym h))
place-of text (s ∷ ss) h =
    elim (cases_Bool (same_name text s)) [
      | inl e ↦ (0, position-yes (same_name text) s ss e)
      | inr e ↦
          let r = place-of text ss (ap (λ b. b || list_any (same_name text) ss) (sym e) ∙ h) in
          (suc r.0, position-no (same_name text) s ss e ∙ ap (option_map suc) r.1)
    ]

any-left : (text : List ℕ) (ss ts : List (List ℕ)) → list_any (same_name text) ss ≡ true → list_any (same_name text) (ss ++ ts) ≡ true
any-left text [] ts h = absurd (true≢false (sym h))
any-left text (s ∷ ss) ts h = by (same_name text s) h (any-left text ss ts)
  where
    by : (b : Bool) → (b || list_any (same_name text) ss) ≡ true → (list_any (same_name text) ss ≡ true → list_any (same_name text) (ss ++ ts) ≡ true)
        → (b || list_any (same_name text) (ss ++ ts)) ≡ true
    by true e rest = refl
    by false e rest = rest e

any-last : (text : List ℕ) (ss : List (List ℕ)) → list_any (same_name text) (ss ++ text ∷ []) ≡ true
any-last text [] = ap (λ b. b || false) (same_name-refl text)
any-last text (s ∷ ss) = by (same_name text s) (any-last text ss)
  where
    by : (b : Bool) → list_any (same_name text) (ss ++ text ∷ []) ≡ true → (b || list_any (same_name text) (ss ++ text ∷ [])) ≡ true
    by true rest = refl
    by false rest = rest

-- a text that was added stays
stays : (text more : List ℕ) (ss : List (List ℕ)) → list_any (same_name text) ss ≡ true → list_any (same_name text) (strings.with_text ss more) ≡ true
stays text more ss h = by (list_any (same_name more) ss)
  where
    by : (b : Bool) → list_any (same_name text) (cond b ss (ss ++ more ∷ [])) ≡ true
    by true = h
    by false = any-left text ss (more ∷ []) h

added : (text : List ℕ) (ss : List (List ℕ)) → list_any (same_name text) (strings.with_text ss text) ≡ true
added text ss = by (list_any (same_name text) ss) refl
  where
    by : (b : Bool) → list_any (same_name text) ss ≡ b → list_any (same_name text) (cond b ss (ss ++ text ∷ [])) ≡ true
    by true e = e
    by false e = any-last text ss

all-stay : (text : List ℕ) (ts ss : List (List ℕ)) → list_any (same_name text) ss ≡ true → list_any (same_name text) (fold strings.with_text ss ts) ≡ true
all-stay text [] ss h = h
all-stay text (t ∷ ts) ss h = all-stay text ts (strings.with_text ss t) (stays text t ss h)

all-added : (text : List ℕ) (ts ss : List (List ℕ)) → IsIn text ts → list_any (same_name text) (fold strings.with_text ss ts) ≡ true
all-added text [] ss there = absurd there
all-added text (t ∷ ts) ss (inl e) =
    all-stay text ts (strings.with_text ss t) (subst (λ (u : List ℕ). list_any (same_name u) (strings.with_text ss t) ≡ true) e (added t ss))
all-added text (t ∷ ts) ss (inr there) = all-added text ts (strings.with_text ss t) there

-- a text of the classes is found under its identifier
pub text-found : (g : Graph) (table : ℕ → ℕ) (text : List ℕ) → IsIn text (strings.texts g.classes)
    → read.string_of (written_with (strings.strings g.classes) g table) (strings.string_id (strings.strings g.classes) text) ≡ Some text
text-found g table text there =
    let ss : List (List ℕ) = strings.strings g.classes in
    let at = place-of text ss (all-added text (strings.texts g.classes) [] there) in
    ap (λ (l : List (ℕ × List ℕ)). option_map (λ (s : ℕ × List ℕ). s.1) (find (has_id (strings.string_id ss text)) l)) (strings-written ss g table)
    ∙ ap (λ (o : Option ℕ). option_map (λ (s : ℕ × List ℕ). s.1) (find (has_id (unwrap_or o 0 + 1)) (numbered 1 ss))) at.1
    ∙ find-text text ss 1 at.0 at.1

-- the texts of classes: their names and their fields' names
pub class-text : (cs : List Class) (k : ℕ) (c : Class) → slice_get cs k ≡ Some c → IsIn c.name (strings.texts cs)
class-text cs k c h =
    IsIn-left c.name (flat_map strings.class_texts cs) (strings.array_name ∷ strings.heap_names)
    (in-flat strings.class_texts cs c c.name (IsIn-slice_get cs k c h) (inl refl))

pub field-text : (cs : List Class) (k : ℕ) (c : Class) (f : FieldDecl) → slice_get cs k ≡ Some c → IsIn f c.fields → IsIn f.name (strings.texts cs)
field-text cs k c f h there =
    IsIn-left f.name (flat_map strings.class_texts cs) (strings.array_name ∷ strings.heap_names)
    (in-flat strings.class_texts cs c f.name (IsIn-slice_get cs k c h) (inr (map-in (λ (f : FieldDecl). f.name) c.fields f there)))

pub array-text : (cs : List Class) → IsIn strings.array_name (strings.texts cs)
array-text cs = IsIn-right strings.array_name (flat_map strings.class_texts cs) (strings.array_name ∷ strings.heap_names) (inl refl)

pub heap-text : (cs : List Class) (heap : Heap) → IsIn (heap_name heap) (strings.texts cs)
heap-text cs heap = IsIn-right (heap_name heap) (flat_map strings.class_texts cs) (strings.array_name ∷ strings.heap_names) (inr (named heap))
  where
    named : (heap : Heap) → IsIn (heap_name heap) strings.heap_names
    named Image = inr (inl refl)
    named Zygote = inr (inr (inl refl))
    named App = inl refl

-- what is found among texts is one of them
any-in : (text : List ℕ) (ss : List (List ℕ)) → list_any (same_name text) ss ≡ true → IsIn text ss
any-in text [] h = absurd (true≢false (sym h))
any-in text (s ∷ ss) h =
    elim (cases_Bool (same_name text s)) [
      | inl e ↦ inl (sym (names-same text s e))
      | inr e ↦ inr (any-in text ss (ap (λ b. b || list_any (same_name text) ss) (sym e) ∙ h))
    ]

-- a text that was added is one of those that were to be added
was-added : (text more : List ℕ) (ss : List (List ℕ)) → IsIn text (strings.with_text ss more) → IsIn text ss ⊎ (more ≡ text)
was-added text more ss there = by (list_any (same_name more) ss) there
  where
    by : (b : Bool) → IsIn text (cond b ss (ss ++ more ∷ [])) → IsIn text ss ⊎ (more ≡ text)
    by true h = inl h
    by false h = elim (in-either text ss (more ∷ []) h) [ inl a ↦ inl a | inr b ↦ inr (elim b [ inl e ↦ e | inr none ↦ absurd none ]) ]

all-were-added : (text : List ℕ) (ts ss : List (List ℕ)) → IsIn text (fold strings.with_text ss ts) → IsIn text ss ⊎ IsIn text ts
all-were-added text [] ss there = inl there
all-were-added text (t ∷ ts) ss there =
    elim (all-were-added text ts (strings.with_text ss t) there) [
      | inl a ↦ elim (was-added text t ss a) [ inl old ↦ inl old | inr e ↦ inr (inl e) ]
      | inr b ↦ inr (inr b)
    ]

numbered-texts : (id : ℕ) (ss : List (List ℕ)) → map (λ (s : ℕ × List ℕ). s.1) (numbered id ss) ≡ ss
numbered-texts id [] = refl
numbered-texts id (s ∷ ss) = ap (λ (l : List (List ℕ)). s ∷ l) (numbered-texts (id + 1) ss)

-- the strings are the texts of the classes
pub strings-are : (g : Graph) (table : ℕ → ℕ) (text : List ℕ)
    → IsText g text ↔ IsIn text (map (λ (s : ℕ × List ℕ). s.1) (read.strings (written_with (strings.strings g.classes) g table)))
strings-are g table text = (
  λ is. subst (λ (l : List (List ℕ)). IsIn text l) (sym same) (any-in text ss (all-added text (strings.texts g.classes) [] (to is))),
  λ there. from (all-were-added text (strings.texts g.classes) [] (subst (λ (l : List (List ℕ)). IsIn text l) same there)),
)
  where
    ss : List (List ℕ)
    ss = strings.strings g.classes

    same : map (λ (s : ℕ × List ℕ). s.1) (read.strings (written_with (strings.strings g.classes) g table)) ≡ strings.strings g.classes
    same = ap (map (λ (s : ℕ × List ℕ). s.1)) (strings-written (strings.strings g.classes) g table) ∙ numbered-texts 1 (strings.strings g.classes)

    to : IsText g text → IsIn text (strings.texts g.classes)
    to (inl fixed) = IsIn-right text (flat_map strings.class_texts g.classes) fixed_texts fixed
    to (inr c) = IsIn-left text (flat_map strings.class_texts g.classes) fixed_texts (in-flat strings.class_texts g.classes c.0 text c.1 c.2)

    from : IsIn text [] ⊎ IsIn text (strings.texts g.classes) → IsText g text
    from (inl none) = absurd none
    from (inr there) =
        elim (in-either text (flat_map strings.class_texts g.classes) fixed_texts there) [
          | inl a ↦ inr (flat-in strings.class_texts g.classes text a)
          | inr b ↦ inl b
        ]

-- no text is added twice
few-with : (text more : List ℕ) (ss : List (List ℕ)) → how_many (same_name text) ss ≤ 1 → how_many (same_name text) (strings.with_text ss more) ≤ 1
few-with text more ss few = by (list_any (same_name more) ss) refl
  where
    by : (b : Bool) → list_any (same_name more) ss ≡ b → how_many (same_name text) (cond b ss (ss ++ more ∷ [])) ≤ 1
    by true e = few
    by false e =
        let all = how_many-append (same_name text) ss (more ∷ []) in
        elim (cases_Bool (same_name text more)) [
          | inl h ↦
              let none : how_many (same_name text) ss ≡ 0 =
              how_many-none (same_name text) ss (ap (λ (t : List ℕ). list_any (same_name t) ss) (names-same text more h) ∙ e) in
              let one : how_many (same_name text) (more ∷ []) ≡ 1 + 0 = ap (λ b. cond b 1 0 + 0) h in
              omega (arith, all, none, one)
          | inr h ↦
              let none : how_many (same_name text) (more ∷ []) ≡ 0 + 0 = ap (λ b. cond b 1 0 + 0) h in
              omega (arith, all, none, few)
        ]

all-few : (text : List ℕ) (ts ss : List (List ℕ)) → how_many (same_name text) ss ≤ 1 → how_many (same_name text) (fold strings.with_text ss ts) ≤ 1
all-few text [] ss few = few
all-few text (t ∷ ts) ss few = all-few text ts (strings.with_text ss t) (few-with text t ss few)

abbrev is_text : List ℕ → ℕ × List ℕ → Bool
is_text text s = same_name text s.1

length-with : (text : List ℕ) (id : ℕ) (ss : List (List ℕ)) → length (filter (is_text text) (numbered id ss)) ≡ how_many (same_name text) ss
length-with text id [] = refl
length-with text id (s ∷ ss) =
    elim (cases_Bool (same_name text s)) [
      | inl e ↦
          let yes' = ap length (filter-yes (is_text text) (id, s) (numbered (id + 1) ss) e) in
          let one : how_many (same_name text) (s ∷ ss) ≡ 1 + how_many (same_name text) ss = ap (λ b. cond b 1 0 + how_many (same_name text) ss) e in
          omega (arith, yes', one, length-with text (id + 1) ss)
      | inr e ↦
          let no' = ap length (filter-no (is_text text) (id, s) (numbered (id + 1) ss) e) in
          let none : how_many (same_name text) (s ∷ ss) ≡ 0 + how_many (same_name text) ss = ap (λ b. cond b 1 0 + how_many (same_name text) ss) e in
          omega (arith, no', none, length-with text (id + 1) ss)
    ]

pub one-text : (g : Graph) (table : ℕ → ℕ) (text : List ℕ) → length (read.strings_with (written_with (strings.strings g.classes) g table) text) ≤ 1
one-text g table text =
    let ss : List (List ℕ) = strings.strings g.classes in
    let few = all-few text (strings.texts g.classes) [] (omega arith) in
    let same = ap (λ (l : List (ℕ × List ℕ)). length (filter (is_text text) l)) (strings-written ss g table) in
    omega (arith, same, length-with text 1 ss, few)
