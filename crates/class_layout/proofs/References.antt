-- The references of a class: those that it inherits, and then its own in a row.
use Rattle.std.proofs.Common.{◌≡◌, ℕ, zero, suc, ◌+◌, ◌*◌, ◌<◌, Bool, true, false, cond, not, List, [], ◌∷◌, ◌++◌, Some, length, map, filter, nat_eq, slice_get, refl, sym, ap, ◌∙◌, inl, inr, arith, append_assoc}
use Rattle.std.specs.List.{count_by}
use Rattle.std.proofs.lemmas.Bool.{cases_Bool, and_parts, not-true, true≢false}
use Rattle.std.proofs.lemmas.List.{map-append}
use Rattle.std.proofs.lemmas.List.Elements.{filter-append}
use Rattle.std.proofs.lemmas.List.Sums.{length-filter}
use Rattle.class_layout.specs.declared.kind.Kind.{Kind}
use Rattle.class_layout.specs.declared.kind.Kind.TheVariants.{Ref}
use Rattle.class_layout.specs.declared.kind.FieldDecl.{FieldDecl}
use Rattle.class_layout.specs.declared.kind.FieldAt.{FieldAt}
use Rattle.class_layout.specs.Kinds.{is_ref, kind_bytes, next_multiple}
use Rattle.class_layout.specs.Layout.{Placed, Laid, place_field, place_fields, is_plain, lay_out, references}
use Rattle.class_layout.specs.Rows.{ref_at}
use Rattle.class_layout.proofs.Places.{place_fields-append}

-- n references, one directly after the other
abbrev pub run : Bool → ℕ → ℕ → List FieldAt
run weak from zero = []
run weak from (suc n) = ref_at weak from ∷ run weak (from + 4) n

pub length-run : (weak : Bool) (from n : ℕ) → length (run weak from n) ≡ n
length-run weak from zero = refl
length-run weak from (suc n) = omega (arith, length-run weak (from + 4) n)

pub slice_get-run : (weak : Bool) (from n i : ℕ) → i < n → slice_get (run weak from n) i ≡ Some (ref_at weak (from + 4 * i))
slice_get-run weak from zero i h = absurd (omega arith)
slice_get-run weak from (suc n) zero h = let e : from ≡ from + 4 * 0 = omega arith in ap (λ o. Some (ref_at weak o)) e
slice_get-run weak from (suc n) (suc i) h =
    let e : from + 4 + 4 * i ≡ from + 4 * suc i = omega arith in
    slice_get-run weak (from + 4) n i (omega arith) ∙ ap (λ o. Some (ref_at weak o)) e

-- the references of places, and of one place more
abbrev refs_of : List Placed → List FieldAt
refs_of ps = filter (λ at. is_ref at.kind) (map (λ p. p.at) ps)

refs_of-push : (ps : List Placed) (x : Placed) → refs_of (ps ++ x ∷ []) ≡ refs_of ps ++ refs_of (x ∷ [])
refs_of-push ps x = ap (filter (λ at. is_ref at.kind)) (map-append (λ p. p.at) ps (x ∷ [])) ∙ filter-append (λ at. is_ref at.kind) (map (λ p. p.at) ps) (map (λ p. p.at) (x ∷ []))

append-nil : {X : Type 0} (xs : List X) → xs ++ [] ≡ xs
append-nil [] = refl
append-nil (x ∷ xs) = ap (λ ys. x ∷ ys) (append-nil xs)

references-push_other : (weak : Bool) (laid : Laid) (f : FieldDecl) → is_ref f.kind ≡ false → references (place_field weak laid f) ≡ references laid
references-push_other weak laid f e =
    refs_of-push laid.fields _ ∙ ap (λ b. references laid ++ cond b (record { kind = f.kind; offset = next_multiple (kind_bytes f.kind) laid.end; weak = weak } ∷ []) []) e ∙ append-nil (references laid)

-- values that are no references add none
references-plain : (weak : Bool) (laid : Laid) (bytes : ℕ) (fs : List FieldDecl) → references (place_fields weak laid (filter (is_plain bytes) fs)) ≡ references laid
references-plain weak laid bytes [] = refl
references-plain weak laid bytes (f ∷ fs) =
    elim (cases_Bool (is_plain bytes f)) [
      | inl e ↦
          let plain : is_ref f.kind ≡ false = not-true (is_ref f.kind) (and_parts (not (is_ref f.kind)) (nat_eq (kind_bytes f.kind) bytes) e).0 in
          ap (λ b. references (place_fields weak laid (cond b (f ∷ filter (is_plain bytes) fs) (filter (is_plain bytes) fs)))) e
          ∙ references-plain weak (place_field weak laid f) bytes fs ∙ references-push_other weak laid f plain
      | inr e ↦
          ap (λ b. references (place_fields weak laid (cond b (f ∷ filter (is_plain bytes) fs) (filter (is_plain bytes) fs)))) e
          ∙ references-plain weak laid bytes fs
    ]

only_ref : (k : Kind) → is_ref k ≡ true → Ref ≡ k
only_ref k = elim k as (λ k. is_ref k ≡ true → Ref ≡ k) [ Ref ↦ λ e. refl | _ ↦ λ e. absurd (true≢false (sym e)) ]

next_again : (p : ℕ) → next_multiple 4 (next_multiple 4 p + 4) ≡ next_multiple 4 p + 4
next_again p = omega arith

references-push_ref : (weak : Bool) (laid : Laid) (f : FieldDecl) → Ref ≡ f.kind → references (place_field weak laid f) ≡ references laid ++ ref_at weak (next_multiple 4 laid.end) ∷ []
references-push_ref weak laid f e =
    let at_of : Kind → FieldAt = λ k. record { kind = k; offset = next_multiple (kind_bytes k) laid.end; weak = weak } in
    refs_of-push laid.fields _ ∙ ap (λ k. references laid ++ filter (λ at. is_ref at.kind) (at_of k ∷ [])) (sym e)

end-push_ref : (weak : Bool) (laid : Laid) (f : FieldDecl) → Ref ≡ f.kind → (place_field weak laid f).end ≡ next_multiple 4 laid.end + 4
end-push_ref weak laid f e = ap (λ k. next_multiple (kind_bytes k) laid.end + kind_bytes k) (sym e)

-- references stand in a row
references-refs : (weak : Bool) (laid : Laid) (fs : List FieldDecl)
    → references (place_fields weak laid (filter (λ f. is_ref f.kind) fs)) ≡ references laid ++ run weak (next_multiple 4 laid.end) (length (filter (λ f. is_ref f.kind) fs))
references-refs weak laid [] = sym (append-nil (references laid))
references-refs weak laid (f ∷ fs) =
    elim (cases_Bool (is_ref f.kind)) [
      | inl e ↦
          let r = filter (λ f. is_ref f.kind) fs in
          let next = place_field weak laid f in
          let o = next_multiple 4 laid.end in
          let k = only_ref f.kind e in
          let o-is : next_multiple 4 next.end ≡ o + 4 = ap (next_multiple 4) (end-push_ref weak laid f k) ∙ next_again laid.end in
          ap (λ b. references (place_fields weak laid (cond b (f ∷ r) r))) e
          ∙ references-refs weak next fs
          ∙ ap (λ n. references next ++ run weak n (length r)) o-is
          ∙ ap (λ xs. xs ++ run weak (o + 4) (length r)) (references-push_ref weak laid f k)
          ∙ append_assoc (references laid) (ref_at weak o ∷ []) (run weak (o + 4) (length r))
          ∙ sym (ap (λ b. references laid ++ run weak o (length (cond b (f ∷ r) r))) e)
      | inr e ↦
          ap (λ b. references (place_fields weak laid (cond b (f ∷ filter (λ f. is_ref f.kind) fs) (filter (λ f. is_ref f.kind) fs)))) e
          ∙ references-refs weak laid fs
          ∙ sym (ap (λ b. references laid ++ run weak (next_multiple 4 laid.end) (length (cond b (f ∷ filter (λ f. is_ref f.kind) fs) (filter (λ f. is_ref f.kind) fs)))) e)
    ]

pub references-lay_out : (weak : Bool) (laid : Laid) (fs : List FieldDecl)
    → references (lay_out weak laid fs) ≡ references laid ++ run weak (next_multiple 4 laid.end) (count_by (λ f. is_ref f.kind) fs)
references-lay_out weak laid fs =
    let r = filter (λ f. is_ref f.kind) fs in
    let e = filter (is_plain 8) fs in
    let q = filter (is_plain 4) fs in
    let d = filter (is_plain 2) fs in
    let s = filter (is_plain 1) fs in
    ap references (place_fields-append weak laid (r ++ e ++ q ++ d) s) ∙ references-plain weak (place_fields weak laid (r ++ e ++ q ++ d)) 1 fs
    ∙ ap references (place_fields-append weak laid (r ++ e ++ q) d) ∙ references-plain weak (place_fields weak laid (r ++ e ++ q)) 2 fs
    ∙ ap references (place_fields-append weak laid (r ++ e) q) ∙ references-plain weak (place_fields weak laid (r ++ e)) 4 fs
    ∙ ap references (place_fields-append weak laid r e) ∙ references-plain weak (place_fields weak laid r) 8 fs
    ∙ references-refs weak laid fs ∙ ap (λ n. references laid ++ run weak (next_multiple 4 laid.end) n) (length-filter (λ f. is_ref f.kind) fs)
