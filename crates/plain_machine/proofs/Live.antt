-- Live processes, one more at a time.
use Rattle.std.proofs.Common.{◌≡◌, ℕ, zero, suc, ◌+◌, ◌<◌, Bool, true, false, cond, not, List, [], ◌∷◌, ◌++◌, Some, get_or, length, map, sum, take, add-zero, nat_eq, refl, sym, subst, ap, ◌∙◌, arith}
use Rattle.std.specs.List.{flat_map, list_any}
use Rattle.std.proofs.lemmas.List.{map-append, take_more}
use Rattle.std.proofs.lemmas.List.Sums.{sum_by-append}
use Rattle.heap_world.specs.Pages.{distinct, keep_new, own_page_count}
use Rattle.std.proofs.lemmas.List.Concat.{flat_map-append}
use Rattle.heap_world.specs.declared.names.Label.{Label}
use Rattle.heap_world.specs.Sound.{IsSound}
use Rattle.class_layout.specs.Names.{same_name}
use Rattle.heap_world.specs.World.{Process, distinct_labels, keep_label, live, process_named, same_label, standing_labels}
use Rattle.plain_machine.specs.Worlds.{AreSound}

-- the live ones of two lists
pub live-append : (qs rs : List Process) → live (qs ++ rs) ≡ live qs ++ live rs
live-append [] rs = refl
live-append (q ∷ qs) rs = by (not q.part.exited) (live-append qs rs)
  where
    by : (b : Bool) → live (qs ++ rs) ≡ live qs ++ live rs → cond b (q ∷ live (qs ++ rs)) (live (qs ++ rs)) ≡ cond b (q ∷ live qs) (live qs) ++ live rs
    by true e = ap (λ ps. q ∷ ps) e
    by false e = e

-- the labels of one more process
pub live_more : (qs : List Process) (i : ℕ) (d : Process) → i < length qs →
    flat_map standing_labels (live (take (i + 1) qs)) ≡ flat_map standing_labels (live (take i qs)) ++ flat_map standing_labels (live (get_or qs i d ∷ []))
live_more qs i d within =
    ap (λ ps. flat_map standing_labels (live ps)) (take_more qs i d within)
    ∙ ap (flat_map standing_labels) (live-append (take i qs) (get_or qs i d ∷ []))
    ∙ flat_map-append standing_labels (live (take i qs)) (live (get_or qs i d ∷ []))

-- each of sound processes is sound
sound_at : (qs : List Process) (i : ℕ) (d : Process) → AreSound qs → i < length qs → IsSound (get_or qs i d).part
sound_at [] i d h within = absurd (omega (arith, within))
sound_at (q ∷ qs) zero d h within = h.0
sound_at (q ∷ qs) (suc i) d h within = sound_at qs i d h.1 (omega (arith, within))

pub sound_of : (qs : List Process) (i : ℕ) (q : Process) → AreSound qs → i < length qs → q ≡ get_or qs i q → IsSound q.part
sound_of qs i q h within is = subst (λ p. IsSound p.part) (sym is) (sound_at qs i q h within)

pub ruleset living = (live_more, sound_of)

sum-one : (n : ℕ) → sum (n ∷ []) ≡ n
sum-one n = omega arith

-- the pages of one more process's own
own_more : (qs : List Process) (i : ℕ) (d : Process) → i < length qs →
    sum (map (λ q. own_page_count q.part.graph) (live (take (i + 1) qs)))
    ≡ sum (map (λ q. own_page_count q.part.graph) (live (take i qs))) + sum (map (λ q. own_page_count q.part.graph) (live (get_or qs i d ∷ [])))
own_more qs i d within =
    ap (λ ps. sum (map (λ q. own_page_count q.part.graph) (live ps))) (take_more qs i d within)
    ∙ ap (λ ps. sum (map (λ q. own_page_count q.part.graph) ps)) (live-append (take i qs) (get_or qs i d ∷ []))
    ∙ ap sum (map-append (λ q. own_page_count q.part.graph) (live (take i qs)) (live (get_or qs i d ∷ [])))
    ∙ sum_by-append (λ n. n) (map (λ q. own_page_count q.part.graph) (live (take i qs))) (map (λ q. own_page_count q.part.graph) (live (get_or qs i d ∷ [])))

pub own_more_live : (qs : List Process) (i : ℕ) (q : Process) → i < length qs → q ≡ get_or qs i q → q.part.exited ≡ false →
    sum (map (λ q. own_page_count q.part.graph) (live (take (i + 1) qs))) ≡ sum (map (λ q. own_page_count q.part.graph) (live (take i qs))) + own_page_count q.part.graph
own_more_live qs i q within is lives =
    own_more qs i q within
    ∙ ap (λ n. sum (map (λ q. own_page_count q.part.graph) (live (take i qs))) + n)
    (ap (λ p. sum (map (λ q. own_page_count q.part.graph) (live (p ∷ [])))) (sym is)
    ∙ ap (λ b. sum (map (λ q. own_page_count q.part.graph) (cond (not b) (q ∷ []) []))) lives
    ∙ sum-one (own_page_count q.part.graph))

pub own_more_exited : (qs : List Process) (i : ℕ) (q : Process) → i < length qs → q ≡ get_or qs i q → q.part.exited ≡ true →
    sum (map (λ q. own_page_count q.part.graph) (live (take (i + 1) qs))) ≡ sum (map (λ q. own_page_count q.part.graph) (live (take i qs)))
own_more_exited qs i q within is ended =
    own_more qs i q within
    ∙ ap (λ n. sum (map (λ q. own_page_count q.part.graph) (live (take i qs))) + n)
    (ap (λ p. sum (map (λ q. own_page_count q.part.graph) (live (p ∷ [])))) (sym is)
    ∙ ap (λ b. sum (map (λ q. own_page_count q.part.graph) (cond (not b) (q ∷ []) []))) ended)
    ∙ add-zero (sum (map (λ q. own_page_count q.part.graph) (live (take i qs))))

pub ruleset counting_own = (own_more_live, own_more_exited, sound_of)

-- a label, and a number, that doesn't come again is one more
pub label_new : (l : Label) (ls : List Label) → list_any (same_label l) ls ≡ false → 1 + length (distinct_labels ls) ≡ length (distinct_labels (l ∷ ls))
label_new l ls h = sym (ap (λ b. length (keep_label b l (distinct_labels ls))) h ∙ omega arith)

pub number_new : (n : ℕ) (ns : List ℕ) → list_any (nat_eq n) ns ≡ false → 1 + length (distinct ns) ≡ length (distinct (n ∷ ns))
number_new n ns h = sym (ap (λ b. length (keep_new b n (distinct ns))) h ∙ omega arith)

-- a live process that a name finds is sound
pub sound_named : (qs : List Process) (name : List ℕ) (q : Process) → AreSound qs → process_named (live qs) name ≡ Some q → IsSound q.part
sound_named [] name q sound h = absurd (cc (h))
sound_named (p ∷ ps) name q sound h = by p.part.exited (same_name p.name name) refl refl h (sound_named ps name q sound.1)
  where
    by : (x b : Bool) → p.part.exited ≡ x → same_name p.name name ≡ b → process_named (cond (not x) (p ∷ live ps) (live ps)) name ≡ Some q
        → (process_named (live ps) name ≡ Some q → IsSound q.part) → IsSound q.part
    by true b out e found rest = rest found
    by false true out e found rest =
        let first : cond (same_name p.name name) (Some p) (process_named (live ps) name) ≡ Some p = ap (λ b. cond b (Some p) (process_named (live ps) name)) e in
        let same : p ≡ q = cc (first, found) in
        subst (λ r. IsSound r.part) same sound.0
    by false false out e found rest = rest (sym (ap (λ b. cond b (Some p) (process_named (live ps) name)) e) ∙ found)
