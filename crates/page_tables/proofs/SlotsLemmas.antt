-- Entries, and the two parts in which a leaf keeps them.
use Rattle.std.proofs.Common.{◌≡◌, ◌≢◌, ℕ, zero, suc, ◌<◌, Bool, false, List, [], ◌∷◌, map, length, get_or, set, Some, None, Option, is_some, IsTrue, refl, sym, ap, ◌∙◌, arith, inl, inr, true≢false}
use Rattle.std.specs.Prelude.{replicate}
use Rattle.std.proofs.lemmas.Bool.{cases_eq}
use Rattle.page_tables.specs.declared.leaf.Entry.{Entry}
use Rattle.page_tables.specs.Leaf.{cleared, Fits}
use Rattle.page_tables.specs.Slots.{entry_of, entries_of, no_frame, frame_code, flag_code}

pub entry_of-none : (f : ℕ) (w : Bool) → f ≡ no_frame → entry_of f w ≡ None
entry_of-none f w is = grind arith

pub entry_of-some : (f : ℕ) (w : Bool) → f ≢ no_frame → entry_of f w ≡ Some (record { frame = f; written = w })
entry_of-some f w off = grind arith

pub entry_of-code : (o : Option Entry) → Fits o → entry_of (frame_code o) (flag_code o) ≡ o
entry_of-code None fits = refl
entry_of-code (Some e) fits = entry_of-some e.frame e.written (omega (arith, fits))

pub entry_of-cleared : (f : ℕ) (w : Bool) → entry_of f false ≡ cleared (entry_of f w)
entry_of-cleared f w = elim (cases_eq f no_frame) [
  | inl is ↦ entry_of-none f false is ∙ sym (ap cleared (entry_of-none f w is))
  | inr off ↦ entry_of-some f false off ∙ sym (ap cleared (entry_of-some f w off))
]

-- the entry that stands in a slot
pub entries-at : (fs : List ℕ) (ws : List Bool) (i : ℕ) → length fs ≡ length ws → i < length fs → get_or (entries_of fs ws) i None ≡ entry_of (get_or fs i 0) (get_or ws i false)
entries-at [] ws i len within = absurd (omega arith)
entries-at (f ∷ fs) [] i len within = absurd (omega arith)
entries-at (f ∷ fs) (w ∷ ws) zero len within = refl
entries-at (f ∷ fs) (w ∷ ws) (suc i) len within = entries-at fs ws i (omega arith) (omega arith)

pub entries-set : (fs : List ℕ) (ws : List Bool) (i : ℕ) (f : ℕ) (w : Bool) → length fs ≡ length ws → entries_of (set fs i f) (set ws i w) ≡ set (entries_of fs ws) i (entry_of f w)
entries-set [] ws i f w len = refl
entries-set (x ∷ fs) [] i f w len = absurd (omega arith)
entries-set (x ∷ fs) (y ∷ ws) zero f w len = refl
entries-set (x ∷ fs) (y ∷ ws) (suc i) f w len = ap (λ (es : List (Option Entry)). entry_of x y ∷ es) (entries-set fs ws i f w (omega arith))

pub entries-len : (fs : List ℕ) (ws : List Bool) → length fs ≡ length ws → length (entries_of fs ws) ≡ length fs
entries-len [] ws len = refl
entries-len (f ∷ fs) [] len = absurd (omega arith)
entries-len (f ∷ fs) (w ∷ ws) len = omega (arith, entries-len fs ws (omega arith))

pub entries-none : (n : ℕ) → entries_of (replicate n no_frame) (replicate n false) ≡ replicate n None
entries-none zero = refl
entries-none (suc n) = ap (λ (es : List (Option Entry)). None ∷ es) (entries-none n)

pub entries-cleared : (fs : List ℕ) (ws : List Bool) (n : ℕ) → length fs ≡ length ws → length ws ≡ n → entries_of fs (replicate n false) ≡ map cleared (entries_of fs ws)
entries-cleared [] ws n len is = refl
entries-cleared (f ∷ fs) [] n len is = absurd (omega arith)
entries-cleared (f ∷ fs) (w ∷ ws) zero len is = absurd (omega arith)
entries-cleared (f ∷ fs) (w ∷ ws) (suc n) len is =
    ap (λ (o : Option Entry). o ∷ entries_of fs (replicate n false)) (entry_of-cleared f w)
    ∙ ap (λ (es : List (Option Entry)). cleared (entry_of f w) ∷ es) (entries-cleared fs ws n (omega arith) (omega arith))

-- the entry of a slot that has one
pub entry-there : (f : ℕ) (w : Bool) → IsTrue (is_some (entry_of f w)) → entry_of f w ≡ Some (record { frame = f; written = w })
entry-there f w there = elim (cases_eq f no_frame) [
  | inl is ↦ absurd (true≢false (sym there ∙ ap (λ (o : Option Entry). is_some o) (entry_of-none f w is)))
  | inr off ↦ entry_of-some f w off
]
