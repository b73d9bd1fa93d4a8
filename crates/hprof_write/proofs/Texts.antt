-- The texts of classes, one class after another.
use Rattle.std.proofs.Common.{◌≡◌, ℕ, ◌+◌, ◌≤◌, List, [], ◌∷◌, ◌++◌, Option, Some, None, length, take, map, codes, refl, sym, ap, ◌∙◌, add-one, subst}
use Rattle.std.proofs.lemmas.List.{append-nil, take_all}
use Rattle.std.proofs.lemmas.Grind.{flat_map-append, fold-append}
use Rattle.std.specs.List.{flat_map, fold, slice_get}
use Rattle.std.specs.Option.{IfSome, IsSomeAnd}
use Rattle.class_layout.specs.declared.kind.FieldDecl.{FieldDecl}
use Rattle.class_layout.specs.ClassList.{Class}
use Rattle.hprof_write.specs.Strings.{array_name, class_texts, heap_names, strings, with_text}
use Rattle.hprof_write.proofs.Chains.{at-map}
use Rattle.hprof_write.proofs.TableLines.{take-more}

-- one more class
pub texts-next : (cs : List Class) (k : ℕ) (name : List ℕ) (fields : List FieldDecl) (now next : List (List ℕ))
    → slice_get (map (λ c. c.name) cs) k ≡ Some name → slice_get (map (λ c. c.fields) cs) k ≡ Some fields
    → now ≡ fold with_text [] (flat_map class_texts (take k cs)) → next ≡ fold with_text now (name ∷ map (λ f. f.name) fields)
    → next ≡ fold with_text [] (flat_map class_texts (take (k + 1) cs))
texts-next cs k name fields now next hn hf before added =
    at (slice_get cs k) refl (at-map (λ (c : Class). c.name) cs k name hn) (at-map (λ (c : Class). c.fields) cs k fields hf)
  where
    at : (x : Option Class) → slice_get cs k ≡ x → IsSomeAnd x (λ c. c.name ≡ name) → IsSomeAnd x (λ c. c.fields ≡ fields)
        → next ≡ fold with_text [] (flat_map class_texts (take (k + 1) cs))
    at None e a b = absurd a
    at (Some c) e a b =
        let names : List FieldDecl → List (List ℕ) = λ fs. map (λ (f : FieldDecl). f.name) fs in
        let these : name ∷ names fields ≡ class_texts c = ap (λ (n : List ℕ). n ∷ names fields) (sym a) ∙ ap (λ (fs : List FieldDecl). c.name ∷ names fs) (sym b) in
        let all : flat_map class_texts (take (k + 1) cs) ≡ flat_map class_texts (take k cs) ++ class_texts c =
        ap (λ n. flat_map class_texts (take n cs)) (add-one k) ∙ ap (flat_map class_texts) (take-more cs k c e)
        ∙ flat_map-append class_texts (take k cs) (c ∷ []) ∙ ap (λ l. flat_map class_texts (take k cs) ++ l) (append-nil (class_texts c)) in
        added ∙ ap (λ (l : List (List ℕ)). fold with_text now l) these ∙ ap (λ (s : List (List ℕ)). fold with_text s (class_texts c)) before
        ∙ sym (fold-append with_text [] (flat_map class_texts (take k cs)) (class_texts c)) ∙ ap (fold with_text []) (sym all)

-- the name that was made
pub name-is : (o : Option (List ℕ)) (n t : List ℕ) → o ≡ Some n → IfSome o (λ m. m ≡ t) → n ≡ t
name-is o n t e h = let P : List ℕ → Type 0 = λ m. m ≡ t in subst (λ (x : Option (List ℕ)). IfSome x P) e h

-- the other names, after all classes
pub texts-last : (cs : List Class) (k : ℕ) (first s t u v : List (List ℕ)) (a b c d : List ℕ) → length cs ≤ k
    → first ≡ fold with_text [] (flat_map class_texts (take k cs)) → s ≡ with_text first a → t ≡ with_text s b → u ≡ with_text t c → v ≡ with_text u d
    → a ≡ array_name → b ≡ codes "app" → c ≡ codes "image" → d ≡ codes "zygote" → v ≡ strings cs
texts-last cs k first s t u v a b c d within hf hs ht hu hv ea eb ec ed =
    let all : first ≡ fold with_text [] (flat_map class_texts cs) = hf ∙ ap (λ l. fold with_text [] (flat_map class_texts l)) (take_all k cs within) in
    let s1 : s ≡ with_text (fold with_text [] (flat_map class_texts cs)) array_name =
    hs ∙ ap (λ (n : List ℕ). with_text first n) ea ∙ ap (λ (l : List (List ℕ)). with_text l array_name) all in
    let t1 = ht ∙ ap (λ (n : List ℕ). with_text s n) eb ∙ ap (λ (l : List (List ℕ)). with_text l (codes "app")) s1 in
    let u1 = hu ∙ ap (λ (n : List ℕ). with_text t n) ec ∙ ap (λ (l : List (List ℕ)). with_text l (codes "image")) t1 in
    hv ∙ ap (λ (n : List ℕ). with_text u n) ed ∙ ap (λ (l : List (List ℕ)). with_text l (codes "zygote")) u1
    ∙ sym (fold-append with_text [] (flat_map class_texts cs) (array_name ∷ heap_names))
