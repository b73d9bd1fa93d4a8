-- What holds of each layout: the header lies in it, and each of its fields.
use Rattle.std.proofs.Common.{◌≡◌, ℕ, zero, suc, ◌+◌, ◌≤◌, Bool, true, false, cond, List, [], ◌∷◌, ◌++◌, Option, None, Some, length, nat_eq, slice_get, unwrap_or, subst, arith}
use Rattle.std.specs.List.{AllByRecursion, find}
use Rattle.std.specs.Option.{option_map}
use Rattle.std.proofs.lemmas.Option.{same_Some, none-some}
use Rattle.class_layout.specs.declared.kind.Kind.{Kind}
use Rattle.class_layout.specs.declared.kind.Kind.TheVariants.{Ref}
use Rattle.class_layout.specs.declared.kind.FieldAt.{FieldAt}
use Rattle.class_layout.specs.declared.kind.FieldDecl.{FieldDecl}
use Rattle.class_layout.specs.ClassList.{Class, inherited, layout_of, layouts, layouts_after}
use Rattle.class_layout.specs.Kinds.{kind_bytes, next_multiple}
use Rattle.class_layout.specs.Layout.{Laid, Placed, bare, in_layout_order, lay_out, place_field, place_fields}
use Rattle.class_layout.specs.Names.{same_name}

-- all, with one more
pub all-push : {X : Type 0} (P : X → Type 0) (xs : List X) (x : X) → AllByRecursion P xs → P x → AllByRecursion P (xs ++ x ∷ [])
all-push P [] x h here = (here, tt)
all-push P (y ∷ xs) x h here = (h.0, all-push P xs x h.1 here)

-- what all are, each is
pub all-weaken : {X : Type 0} (P Q : X → Type 0) → ((x : X) → P x → Q x) → (xs : List X) → AllByRecursion P xs → AllByRecursion Q xs
all-weaken P Q f [] h = tt
all-weaken P Q f (x ∷ xs) h = (f x h.0, all-weaken P Q f xs h.1)

-- the one at an index is one of them, or there is none
pub all-at : {X : Type 0} (P : X → Type 0) (xs : List X) (k : ℕ) (d : X) → P d → AllByRecursion P xs → P (unwrap_or (slice_get xs k) d)
all-at P [] k d other h = other
all-at P (x ∷ xs) zero d other h = h.0
all-at P (x ∷ xs) (suc k) d other h = all-at P xs k d other h.1

module _ (P : Laid → Type 0) (first : P bare) (step : (weak : Bool) (laid : Laid) (f : FieldDecl) → P laid → P (place_field weak laid f)) where
  -- what placing keeps holds of fields that are placed, and of each layout
  fields-keep : (weak : Bool) (laid : Laid) (fs : List FieldDecl) → P laid → P (place_fields weak laid fs)
  fields-keep weak laid [] h = h
  fields-keep weak laid (f ∷ fs) h = fields-keep weak (place_field weak laid f) fs (step weak laid f h)

  inherited-keeps : (done : List Laid) (parent : Option ℕ) → AllByRecursion P done → P (inherited done parent)
  inherited-keeps done None h = first
  inherited-keeps done (Some p) h = all-at P done p bare first h

  layouts-keep : (done : List Laid) (cs : List Class) → AllByRecursion P done → AllByRecursion P (layouts_after done cs)
  layouts-keep done [] h = h
  layouts-keep done (c ∷ cs) h =
      let new = lay_out (nat_eq (length done) 1) (inherited done c.parent) c.fields in
      layouts-keep (done ++ new ∷ []) cs (all-push P done new h (fields-keep (nat_eq (length done) 1) (inherited done c.parent) (in_layout_order c.fields) (inherited-keeps done c.parent h)))

  pub each-layout : (cs : List Class) (k : ℕ) → P (layout_of cs k)
  each-layout cs k = all-at P (layouts cs) k bare first (layouts-keep [] cs tt)

-- a field's place is not before the end that it follows
pub multiple-le : (k : Kind) (p : ℕ) → p ≤ next_multiple (kind_bytes k) p
multiple-le k p = elim k as (λ k. p ≤ next_multiple (kind_bytes k) p) [ Ref ↦ omega arith | _ ↦ omega arith ]

-- the header lies before the end, and each field between them
abbrev pub LieWithin : Laid → Type 0
LieWithin l = (8 ≤ l.end) × AllByRecursion (λ p. (8 ≤ p.at.offset) × (p.at.offset + kind_bytes p.at.kind ≤ l.end)) l.fields

within-bare : LieWithin bare
within-bare = (omega arith, tt)

within-step : (weak : Bool) (laid : Laid) (f : FieldDecl) → LieWithin laid → LieWithin (place_field weak laid f)
within-step weak laid f h =
    let le = multiple-le f.kind laid.end in
    let offset : ℕ = next_multiple (kind_bytes f.kind) laid.end in
    let Lies : Placed → Type 0 = λ p. (8 ≤ p.at.offset) × (p.at.offset + kind_bytes p.at.kind ≤ offset + kind_bytes f.kind) in
    let more : (p : Placed) → (8 ≤ p.at.offset) × (p.at.offset + kind_bytes p.at.kind ≤ laid.end) → Lies p = λ p e. (e.0, omega (arith, le, e.1)) in (
      omega (arith, le, h.0),
      all-push Lies laid.fields (record { name = f.name; at = record { kind = f.kind; offset = offset; weak = weak } })
          (all-weaken _ Lies more laid.fields h.1) (omega (arith, le, h.0), omega arith),
    )

pub lie-within : (cs : List Class) (k : ℕ) → LieWithin (layout_of cs k)
lie-within cs k = each-layout LieWithin within-bare within-step cs k

-- a field that is found is one of them
pub found-all : (P : FieldAt → Type 0) (ps : List Placed) (name : List ℕ) (at : FieldAt) → AllByRecursion (λ p. P p.at) ps → option_map (λ p. p.at) (find (λ p. same_name p.name name) ps) ≡ Some at → P at
found-all P [] name at h e = absurd (none-some at e)
found-all P (p ∷ ps) name at h e = by (same_name p.name name) e (found-all P ps name at h.1)
  where
    by : (b : Bool) → option_map (λ q. q.at) (cond b (Some p) (find (λ q. same_name q.name name) ps)) ≡ Some at → (option_map (λ q. q.at) (find (λ q. same_name q.name name) ps) ≡ Some at → P at) → P at
    by true e rest = subst P (same_Some p.at at e) h.0
    by false e rest = rest e
