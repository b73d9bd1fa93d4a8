-- The last line of a text: it has bytes, or there is none.
use Rattle.std.proofs.Common.{◌≡◌, ℕ, ◌<◌, ◌||◌, Bool, true, false, List, [], ◌∷◌, ◌++◌, None, Some, length, nat_le, refl, sym, ◌∙◌, ap, subst, arith}
use Rattle.std.specs.Prelude.{if◌then◌else◌}
use Rattle.model_numbers.specs.Numbers.{line_limit}
use Rattle.script_lang.specs.Feeding.{Feed, has_bytes, kept_line}
use Rattle.script_lang.specs.Parts.{lines}
use Rattle.script_lang.proofs.PartsLemmas.{lines-ended, lines-open}
use Rattle.script_run.specs.Outside.{Output, Setting}
use Rattle.script_run.specs.Progress.{HasRun, HasRunLines}

-- a line that isn't kept has bytes, and so has one that is kept with some
kept_some : (b : Bool) (x : ℕ) (xs : List ℕ) → has_bytes (if b then Some (x ∷ xs) else None) ≡ true
kept_some true x xs = refl
kept_some false x xs = refl

pub some_part : (part : List ℕ) → has_bytes (kept_line part) ≡ true → 0 < length part
some_part [] h = absurd (cc (h))
some_part (x ∷ xs) h = omega arith

pub no_part : (part : List ℕ) → has_bytes (kept_line part) ≡ false → part ≡ []
no_part [] h = refl
no_part (x ∷ xs) h = absurd (let some = kept_some (nat_le (length (x ∷ xs)) line_limit) x xs in cc (h, some))

or_false : (b : Bool) → b ≡ (b || false)
or_false true = refl
or_false false = refl

-- no bytes are left for a last line
pub last_none : (s : Setting) (text : List ℕ) (feed : Feed) (refused : Bool) (old new : Output)
    → HasRun s text feed refused old new → has_bytes feed.kept ≡ false → HasRunLines s (lines text) (refused || false) old new
last_none s text feed refused old new h none =
    let empty : h.part ≡ [] = no_part h.part (ap has_bytes (sym h.kept) ∙ none) in
    let all : lines text ≡ h.done = lines-ended text h.done (h.cut ∙ ap (λ (p : List ℕ). h.done ++ p ∷ []) empty) in
    subst (λ ls. HasRunLines s ls (refused || false) old new) (sym all) (subst (λ b. HasRunLines s h.done b old new) (or_false refused) h.has_run)

-- the bytes that are left are the last line
pub last_some : (s : Setting) (text : List ℕ) (feed : Feed) (refused : Bool) (old new : Output)
    → (h : HasRun s text feed refused old new) → has_bytes feed.kept ≡ true → lines text ≡ h.done ++ h.part ∷ []
last_some s text feed refused old new h some = lines-open text h.done h.part h.cut (some_part h.part (ap has_bytes (sym h.kept) ∙ some))
