-- Labels of pages, and labels in front of others.
use Rattle.std.proofs.Common.{◌≡◌, ℕ, Bool, true, false, true≢false, cond, inl, inr, List, [], ◌∷◌, ◌++◌, Some, refl, sym, ap, subst, ◌∙◌}
use Rattle.std.specs.List.{AllByRecursion}
use Rattle.std.proofs.lemmas.Bool.{or_cases, or_parts}
use Rattle.std.proofs.lemmas.Option.{same_Some, none-some}
use Rattle.heap_world.specs.declared.names.Label.{Label}
use Rattle.heap_world.specs.declared.names.PageName.{PageName}
use Rattle.heap_world.specs.Pages.{is_touched, same_page}
use Rattle.heap_world.specs.World.{label_of, labelled}
use Rattle.heap_world.proofs.Bounds.{page-refl}
use Rattle.world_laws.proofs.PageLists.{page_is}
use Rattle.world_laws.proofs.StandingLists.{none_from}

-- the same either way round
page_back : (a b : PageName) → same_page a b ≡ true → same_page b a ≡ true
page_back a b e = ap (λ c. same_page b c) (page_is a b e) ∙ page-refl b

-- a page that was labelled has the line's label, another the one that it had
pub label_new : (line : ℕ) (pages : List PageName) (ls : List Label) (a : PageName) → is_touched pages a ≡ true → label_of (labelled line pages ls) a ≡ Some (record { page = a; line = line })
label_new line [] ls a h = absurd (true≢false (sym h))
label_new line (p ∷ ps) ls a h = by (same_page p a) refl (label_new line ps ls a)
  where
    by : (b : Bool) → same_page p a ≡ b → (is_touched ps a ≡ true → label_of (labelled line ps ls) a ≡ Some (record { page = a; line = line }))
        → cond b (Some (record { page = p; line = line })) (label_of (labelled line ps ls) a) ≡ Some (record { page = a; line = line })
    by true e rest = ap (λ x. Some (record { page = x; line = line })) (page_is p a e)
    by false e rest = elim (or_cases (same_page a p) (is_touched ps a) h) [
      | inl here ↦ absurd (true≢false (sym (page_back a p here) ∙ e))
      | inr later ↦ rest later
    ]

pub label_old : (line : ℕ) (pages : List PageName) (ls : List Label) (a : PageName) → is_touched pages a ≡ false → label_of (labelled line pages ls) a ≡ label_of ls a
label_old line [] ls a h = refl
label_old line (p ∷ ps) ls a h =
    let parts = or_parts (same_page a p) (is_touched ps a) h in
    let apart : same_page p a ≡ false = none_from (same_page p a) (λ e. true≢false (sym (page_back p a e) ∙ parts.0)) in
    ap (λ b. cond b (Some (record { page = p; line = line })) (label_of (labelled line ps ls) a)) apart ∙ label_old line ps ls a parts.1

-- a page's label is one of the labels
pub label_has : (P : Label → Type 0) (ls : List Label) (a : PageName) (l : Label) → AllByRecursion P ls → label_of ls a ≡ Some l → P l
label_has P [] a l all e = absurd (none-some l e)
label_has P (m ∷ ls) a l all e = by (same_page m.page a) e (label_has P ls a l all.1)
  where
    by : (b : Bool) → cond b (Some m) (label_of ls a) ≡ Some l → (label_of ls a ≡ Some l → P l) → P l
    by true e rest = subst P (same_Some m l e) all.0
    by false e rest = rest e

-- what all labels have, and those of the line
pub labelled_all : (P : Label → Type 0) (line : ℕ) (pages : List PageName) (ls : List Label) → ((a : PageName) → P (record { page = a; line = line })) → AllByRecursion P ls → AllByRecursion P (labelled line pages ls)
labelled_all P line [] ls new old = old
labelled_all P line (p ∷ ps) ls new old = (new p, labelled_all P line ps ls new old)

pub labelled_front : (line : ℕ) (pages : List PageName) (ls : List Label) → labelled line pages ls ≡ labelled line pages [] ++ ls
labelled_front line [] ls = refl
labelled_front line (p ∷ ps) ls = ap (λ rest. record { page = p; line = line } ∷ rest) (labelled_front line ps ls)
