-- Bytes that were put into others.
use Rattle.std.proofs.Common.{◌≡◌, ℕ, ◌+◌, ◌-◌, ◌<◌, ◌≤◌, List, ◌++◌, length, get_or, ap, ◌∙◌, inl, inr, arith}
use Rattle.std.specs.Prelude.{All, take, drop}
use Rattle.std.proofs.lemmas.List.{length-append, length-take, length-drop, length-take-le, get_or_append_left, get_or-append_right, get_or-take, get_or-drop}
use Rattle.std.proofs.lemmas.Bool.{cases_lt}
use Rattle.page_tables.specs.Frame.{patched, part_of}

-- an element before, among and after those that were put in
pub patched-before : (bs : List ℕ) (o : ℕ) (new : List ℕ) (k d : ℕ) → o + length new ≤ length bs → k < o → get_or (patched bs o new) k d ≡ get_or bs k d
patched-before bs o new k d room below =
    get_or_append_left (take o bs ++ new) (drop (o + length new) bs) d k (omega (arith, length-append (take o bs) new, length-take o bs))
    ∙ get_or_append_left (take o bs) new d k (omega (arith, length-take o bs))
    ∙ get_or-take o bs k d below

pub patched-in : (bs : List ℕ) (o : ℕ) (new : List ℕ) (k d : ℕ) → o + length new ≤ length bs → o ≤ k → k < o + length new → get_or (patched bs o new) k d ≡ get_or new (k - o) d
patched-in bs o new k d room above below =
    get_or_append_left (take o bs ++ new) (drop (o + length new) bs) d k (omega (arith, length-append (take o bs) new, length-take o bs))
    ∙ get_or-append_right (take o bs) new o k d (omega (arith, length-take o bs)) above

pub patched-after : (bs : List ℕ) (o : ℕ) (new : List ℕ) (k d : ℕ) → o + length new ≤ length bs → o + length new ≤ k → get_or (patched bs o new) k d ≡ get_or bs k d
patched-after bs o new k d room above =
    get_or-append_right (take o bs ++ new) (drop (o + length new) bs) (o + length new) k d (omega (arith, length-append (take o bs) new, length-take o bs)) above
    ∙ get_or-drop (o + length new) bs (k - (o + length new)) d
    ∙ ap (λ i. get_or bs i d) (let e : o + length new + (k - (o + length new)) ≡ k = omega arith in e)

pub length-patched : (bs : List ℕ) (o : ℕ) (new : List ℕ) → o + length new ≤ length bs → length (patched bs o new) ≡ length bs
length-patched bs o new room =
    omega (arith, length-append (take o bs ++ new) (drop (o + length new) bs), length-append (take o bs) new, length-take o bs, length-drop (o + length new) bs)

pub small-patched : (bs : List ℕ) (o : ℕ) (new : List ℕ) → o + length new ≤ length bs → All (λ b. b < 256) bs → All (λ b. b < 256) new → All (λ b. b < 256) (patched bs o new)
small-patched bs o new room bytes also k d within =
    let len = length-patched bs o new room in
    elim (cases_lt k o) [
      | inl before ↦ rw (patched-before bs o new k d room before) (bytes k d (omega arith))
      | inr above ↦ elim (cases_lt k (o + length new)) [
        | inl below ↦ rw (patched-in bs o new k d room above below) (also (k - o) d (omega arith))
        | inr after ↦ rw (patched-after bs o new k d room after) (bytes k d (omega arith))
      ]
    ]

-- the length of a part, and its elements
pub length-part : (bs : List ℕ) (start count : ℕ) → start + count ≤ length bs → length (part_of bs start count) ≡ count
length-part bs start count room = length-take-le count (drop start bs) (omega (arith, room, length-drop start bs))

pub part-at : (bs : List ℕ) (start count k d : ℕ) → k < count → get_or (part_of bs start count) k d ≡ get_or bs (start + k) d
part-at bs start count k d below = get_or-take count (drop start bs) k d below ∙ get_or-drop start bs k d

pub small-part : (bs : List ℕ) (start count : ℕ) → start + count ≤ length bs → All (λ b. b < 256) bs → All (λ b. b < 256) (part_of bs start count)
small-part bs start count room bytes k d within =
    let below : k < count = omega (arith, within, length-part bs start count room) in
    rw (part-at bs start count k d below) (bytes (start + k) d (omega (arith, below, room)))
