-- The layouts of a list of classes, as the list grows.
use Rattle.std.proofs.Common.{◌≡◌, ℕ, ◌+◌, ◌<◌, ◌≤◌, List, [], ◌∷◌, ◌++◌, Option, None, Some, IfSome, length, nat_eq, slice_get, unwrap_or, refl, sym, ap, ◌∙◌, arith, length-append}
use Rattle.class_layout.specs.Layout.{Laid, bare, lay_out}
use Rattle.class_layout.specs.ClassList.{Class, inherited, layouts_after, layouts, layout_of, superclass_layout, IsEarlier, IsClassList}
use Rattle.class_layout.proofs.Lists.{at_some, if_some, slice_get-append_left, slice_get-seam, split_at}

-- the layout of one more class
abbrev next_layout : List Laid → Class → Laid
next_layout done c = lay_out (nat_eq (length done) 1) (inherited done c.parent) c.fields

pub layouts_after-append : (done : List Laid) (xs ys : List Class) → layouts_after done (xs ++ ys) ≡ layouts_after (layouts_after done xs) ys
layouts_after-append done [] ys = refl
layouts_after-append done (x ∷ xs) ys = layouts_after-append (done ++ next_layout done x ∷ []) xs ys

pub length-layouts_after : (done : List Laid) (cs : List Class) → length (layouts_after done cs) ≡ length done + length cs
length-layouts_after done [] = omega arith
length-layouts_after done (c ∷ cs) =
    let more = done ++ next_layout done c ∷ [] in
    omega (arith, length-layouts_after more cs, length-append done (next_layout done c ∷ []))

pub length-layouts : (cs : List Class) → length (layouts cs) ≡ length cs
length-layouts cs = omega (arith, length-layouts_after [] cs)

-- later classes change no earlier layout
pub slice_get-layouts_after : (done : List Laid) (cs : List Class) (k : ℕ) → k < length done → slice_get (layouts_after done cs) k ≡ slice_get done k
slice_get-layouts_after done [] k h = refl
slice_get-layouts_after done (c ∷ cs) k h =
    let more = done ++ next_layout done c ∷ [] in
    slice_get-layouts_after more cs k (omega (arith, length-append done (next_layout done c ∷ []))) ∙ slice_get-append_left done (next_layout done c ∷ []) k h

pub layout_of-push_old : (cs ds : List Class) (k : ℕ) → k < length cs → layout_of (cs ++ ds) k ≡ layout_of cs k
layout_of-push_old cs ds k h =
    let e : slice_get (layouts (cs ++ ds)) k ≡ slice_get (layouts cs) k =
    ap (λ ls. slice_get ls k) (layouts_after-append [] cs ds) ∙ slice_get-layouts_after (layouts cs) ds k (omega (arith, length-layouts cs)) in
    ap (λ o. unwrap_or o bare) e

pub superclass_layout-push : (cs ds : List Class) (k : ℕ) (parent : Option ℕ) → IsEarlier k parent → k ≤ length cs → superclass_layout (cs ++ ds) parent ≡ superclass_layout cs parent
superclass_layout-push cs ds k None e h = refl
superclass_layout-push cs ds k (Some p) e h = layout_of-push_old cs ds p (omega arith)

same_inherited : (cs : List Class) (parent : Option ℕ) → inherited (layouts cs) parent ≡ superclass_layout cs parent
same_inherited cs None = refl
same_inherited cs (Some p) = refl

-- a class at the end of a list lies behind its superclass
pub layout_of-push_new : (cs : List Class) (c : Class) (ds : List Class)
    → layout_of (cs ++ c ∷ ds) (length cs) ≡ lay_out (nat_eq (length cs) 1) (superclass_layout cs c.parent) c.fields
layout_of-push_new cs c ds =
    let more = layouts cs ++ next_layout (layouts cs) c ∷ [] in
    let within : length cs < length more = omega (arith, length-append (layouts cs) (next_layout (layouts cs) c ∷ []), length-layouts cs) in
    let e : slice_get (layouts (cs ++ c ∷ ds)) (length cs) ≡ Some (next_layout (layouts cs) c) =
    ap (λ ls. slice_get ls (length cs)) (layouts_after-append [] cs (c ∷ ds)) ∙ slice_get-layouts_after more ds (length cs) within
    ∙ ap (slice_get more) (sym (length-layouts cs)) ∙ slice_get-seam (layouts cs) (next_layout (layouts cs) c) [] in
    ap (λ o. unwrap_or o bare) e
    ∙ ap (λ n. lay_out (nat_eq n 1) (inherited (layouts cs) c.parent) c.fields) (length-layouts cs)
    ∙ ap (λ l. lay_out (nat_eq (length cs) 1) l c.fields) (same_inherited cs c.parent)

-- each class lies behind its superclass
pub layout_of-class : (cs : List Class) (k : ℕ) (c : Class) → IsClassList cs → slice_get cs k ≡ Some c
    → layout_of cs k ≡ lay_out (nat_eq k 1) (superclass_layout cs c.parent) c.fields
layout_of-class cs k c formed at =
    let s = split_at cs k c at in
    let early : IsEarlier k c.parent = at_some (λ d. IsEarlier k d.parent) (slice_get cs k) c at (formed.parents k) in
    let short : k ≤ length s.0 = omega (arith, s.3) in
    ap (λ ds. layout_of ds k) s.2 ∙ ap (layout_of (s.0 ++ c ∷ s.1)) (sym s.3) ∙ layout_of-push_new s.0 c s.1
    ∙ ap (λ n. lay_out (nat_eq n 1) (superclass_layout s.0 c.parent) c.fields) s.3
    ∙ ap (λ l. lay_out (nat_eq k 1) l c.fields) (sym (ap (λ ds. superclass_layout ds c.parent) s.2 ∙ superclass_layout-push s.0 (c ∷ s.1) k c.parent early short))

pub layout_of-parts : (cs : List Class) (k : ℕ) → IsClassList cs → IfSome (slice_get cs k) (λ c. layout_of cs k ≡ lay_out (nat_eq k 1) (superclass_layout cs c.parent) c.fields)
layout_of-parts cs k formed = if_some _ (slice_get cs k) (λ c at. layout_of-class cs k c formed at)
