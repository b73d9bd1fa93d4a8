-- Labels of pages, in front of others.
use Rattle.std.proofs.Common.{◌≡◌, ℕ, List, [], ◌∷◌, ◌++◌, append_assoc, refl, sym, ap, ◌∙◌}
use Rattle.heap_world.specs.declared.names.Label.{Label}
use Rattle.heap_world.specs.declared.names.PageName.{PageName}
use Rattle.heap_world.specs.World.{labelled}

labelled-front : (line : ℕ) (pages : List PageName) (ls : List Label) → labelled line pages ls ≡ labelled line pages [] ++ ls
labelled-front line [] ls = refl
labelled-front line (page ∷ pages) ls = ap (λ rest. record { page = page; line = line } ∷ rest) (labelled-front line pages ls)

labelled-append : (line : ℕ) (made first : List PageName) (ls : List Label) → labelled line (made ++ first) ls ≡ labelled line made (labelled line first ls)
labelled-append line [] first ls = refl
labelled-append line (page ∷ made) first ls = ap (λ rest. record { page = page; line = line } ∷ rest) (labelled-append line made first ls)

-- two lists of pages of one line
pub labelled_both : (line : ℕ) (made first : List PageName) (ls : List Label) → labelled line (made ++ first) ls ≡ (labelled line made [] ++ labelled line first []) ++ ls
labelled_both line made first ls =
    labelled-append line made first ls
    ∙ labelled-front line made (labelled line first ls)
    ∙ ap (λ rest. labelled line made [] ++ rest) (labelled-front line first ls)
    ∙ sym (append_assoc (labelled line made []) (labelled line first []) ls)

pub ruleset labelling = (labelled_both)
