-- Processes by place and by name: one put in another's place, and one more.
use Rattle.std.proofs.Common.{◌≡◌, ℕ, zero, suc, ◌<◌, ◌≤◌, Bool, true, false, cond, ◌||◌, List, [], ◌∷◌, ◌++◌, Option, Some, None, set, length, nat_lt, slice_index_or, unwrap_or, IfSome, refl, sym, subst, ap, ◌∙◌, arith}
use Rattle.std.specs.List.{position, position_or_len, slice_get}
use Rattle.std.proofs.lemmas.Bool.{ltb-false, ltb-true}
use Rattle.std.proofs.lemmas.List.{map-append}
use Rattle.std.proofs.lemmas.List.Folds.{find_at}
use Rattle.class_layout.specs.Names.{same_name}
use Rattle.class_layout.proofs.Uniqueness.{same_name-refl}
use Rattle.heap_world.specs.declared.names.Label.{Label}
use Rattle.heap_world.specs.Part.{Part}
use Rattle.heap_world.specs.Sound.{IsSound}
use Rattle.heap_world.specs.World.{Process, World, child_process, process_named, put_if, put_process}
use Rattle.heap_world.proofs.Processes.{apart-symm, or_false, put, taken, taken-more}
use Rattle.world_laws.specs.Worlds.{AreNamedApart}
use Rattle.plain_machine.specs.Worlds.{ArePossible, AreSound}

-- nothing stands behind the last one
get_past : (qs : List Process) (i : ℕ) → length qs ≤ i → slice_get qs i ≡ None
get_past [] i h = refl
get_past (q ∷ qs) zero h = absurd (omega (arith, h))
get_past (q ∷ qs) (suc i) h = get_past qs i (omega (arith, h))

-- the place of a name
pub place_found : (qs : List Process) (name : List ℕ) (i : ℕ) → position (λ q. same_name q.name name) qs ≡ Some i → process_named qs name ≡ slice_get qs i
place_found qs name i h = by (nat_lt at (length qs)) h
  where
    at : ℕ
    at = position_or_len (λ q. same_name q.name name) qs

    by : (b : Bool) → cond b (Some at) None ≡ Some i → process_named qs name ≡ slice_get qs i
    by true e = let same : at ≡ i = cc in find_at (λ q. same_name q.name name) qs ∙ ap (slice_get qs) same
    by false e = absurd cc

-- a process in the place of one with its name is put there
pub put_set : (qs : List Process) (i : ℕ) (q new : Process) → AreNamedApart qs → slice_get qs i ≡ Some q → new.name ≡ q.name → put new qs ≡ set qs i new
put_set [] i q new apart h e = cc
put_set (p ∷ ps) zero q new apart h e =
    let same : p ≡ q = cc in
    let named : p.name ≡ new.name = ap (λ r. r.name) same ∙ sym e in
    let here : same_name p.name new.name ≡ true = ap (same_name p.name) (sym named) ∙ same_name-refl p.name in
    let others : taken ps new.name ≡ false = ap (taken ps) (sym named) ∙ apart.0 in
    ap (λ b. put_if b new p ∷ put new ps) here ∙ ap (λ rs. new ∷ rs) (put_none ps new others)
  where
    put_none : (rs : List Process) (new : Process) → taken rs new.name ≡ false → put new rs ≡ rs
    put_none [] new none = refl
    put_none (r ∷ rs) new none =
        let parts = or_false (same_name r.name new.name) (taken rs new.name) none in
        ap (λ b. put_if b new r ∷ put new rs) parts.0 ∙ ap (λ ss. r ∷ ss) (put_none rs new parts.1)
put_set (p ∷ ps) (suc i) q new apart h e =
    let other : same_name p.name new.name ≡ false = ap (same_name p.name) e ∙ differs p ps i q apart.0 h in
    ap (λ b. put_if b new p ∷ put new ps) other ∙ ap (λ rs. p ∷ rs) (put_set ps i q new apart.1 h e)
  where
    differs : (p : Process) (rs : List Process) (i : ℕ) (q : Process) → taken rs p.name ≡ false → slice_get rs i ≡ Some q → same_name p.name q.name ≡ false
    differs p [] i q none h = cc
    differs p (r ∷ rs) zero q none h =
        let same : r ≡ q = cc in
        let parts = or_false (same_name r.name p.name) (taken rs p.name) none in
        apart-symm q.name p.name (ap (λ s. same_name s.name p.name) (sym same) ∙ parts.0)
    differs p (r ∷ rs) (suc i) q none h = differs p rs i q (or_false (same_name r.name p.name) (taken rs p.name) none).1 h

-- what stands at a place is sound
pub sound_get : (qs : List Process) (i : ℕ) (q : Process) → AreSound qs → slice_get qs i ≡ Some q → IsSound q.part
sound_get [] i q sound h = cc
sound_get (p ∷ ps) zero q sound h = let same : p ≡ q = cc in subst (λ r. IsSound r.part) same sound.0
sound_get (p ∷ ps) (suc i) q sound h = sound_get ps i q sound.1 h

-- what is put is possible where it has the name and is sound
sound_set : (qs : List Process) (i : ℕ) (new : Process) → AreSound qs → IsSound new.part → AreSound (set qs i new)
sound_set [] i new sound h = tt
sound_set (p ∷ ps) zero new sound h = (h, sound.1)
sound_set (p ∷ ps) (suc i) new sound h = (sound.0, sound_set ps i new sound.1 h)

taken_set : (qs : List Process) (i : ℕ) (q new : Process) (name : List ℕ) → slice_get qs i ≡ Some q → new.name ≡ q.name → taken (set qs i new) name ≡ taken qs name
taken_set [] i q new name h e = cc
taken_set (p ∷ ps) zero q new name h e =
    let same : p ≡ q = cc in
    let named : new.name ≡ p.name = e ∙ ap (λ r. r.name) (sym same) in
    ap (λ m. same_name m name || taken ps name) named
taken_set (p ∷ ps) (suc i) q new name h e = ap (λ b. same_name p.name name || b) (taken_set ps i q new name h e)

apart_set : (qs : List Process) (i : ℕ) (q new : Process) → AreNamedApart qs → slice_get qs i ≡ Some q → new.name ≡ q.name → AreNamedApart (set qs i new)
apart_set [] i q new apart h e = tt
apart_set (p ∷ ps) zero q new apart h e =
    let same : p ≡ q = cc in
    let named : new.name ≡ p.name = e ∙ ap (λ r. r.name) (sym same) in
    (ap (taken ps) named ∙ apart.0, apart.1)
apart_set (p ∷ ps) (suc i) q new apart h e = (taken_set ps i q new p.name h e ∙ apart.0, apart_set ps i q new apart.1 h e)

pub possible_set : (qs : List Process) (i : ℕ) (q new : Process) → ArePossible qs → slice_get qs i ≡ Some q → new.name ≡ q.name → IsSound new.part → ArePossible (set qs i new)
possible_set qs i q new possible h e sound =
    record { apart = apart_set qs i q new possible.apart h e; sound = sound_set qs i new possible.sound sound }

-- one more process, whose name isn't taken
sound_more : (qs : List Process) (c : Process) → AreSound qs → IsSound c.part → AreSound (qs ++ c ∷ [])
sound_more [] c sound h = (h, tt)
sound_more (p ∷ ps) c sound h = (sound.0, sound_more ps c sound.1 h)

apart_more : (qs : List Process) (c : Process) → AreNamedApart qs → taken qs c.name ≡ false → AreNamedApart (qs ++ c ∷ [])
apart_more [] c apart h = (refl, tt)
apart_more (p ∷ ps) c apart h =
    let parts = or_false (same_name p.name c.name) (taken ps c.name) h in
    let other : (taken ps p.name || same_name c.name p.name) ≡ false =
    ap (λ b. b || same_name c.name p.name) apart.0 ∙ apart-symm p.name c.name parts.0 in
    (taken-more ps p.name c ∙ other, apart_more ps c apart.1 parts.1)

pub possible_more : (qs : List Process) (c : Process) → ArePossible qs → taken qs c.name ≡ false → IsSound c.part → ArePossible (qs ++ c ∷ [])
possible_more qs c possible h sound = record { apart = apart_more qs c possible.apart h; sound = sound_more qs c possible.sound sound }

-- it stands behind those that are there, and a put leaves it
pub get_more : (qs : List Process) (i : ℕ) (q c : Process) → slice_get qs i ≡ Some q → slice_get (qs ++ c ∷ []) i ≡ Some q
get_more [] i q c h = cc
get_more (p ∷ ps) zero q c h = h
get_more (p ∷ ps) (suc i) q c h = get_more ps i q c h

apart_get : (qs : List Process) (i : ℕ) (q : Process) (name : List ℕ) → slice_get qs i ≡ Some q → taken qs name ≡ false → same_name q.name name ≡ false
apart_get [] i q name h none = cc
apart_get (p ∷ ps) zero q name h none =
    let same : p ≡ q = cc in ap (λ r. same_name r.name name) (sym same) ∙ (or_false (same_name p.name name) (taken ps name) none).0
apart_get (p ∷ ps) (suc i) q name h none = apart_get ps i q name h (or_false (same_name p.name name) (taken ps name) none).1

pub put_more : (qs : List Process) (i : ℕ) (q new c : Process) → slice_get qs i ≡ Some q → new.name ≡ q.name → taken qs c.name ≡ false → put new (qs ++ c ∷ []) ≡ put new qs ++ c ∷ []
put_more qs i q new c h e none =
    let other : same_name c.name new.name ≡ false = ap (same_name c.name) e ∙ apart-symm q.name c.name (apart_get qs i q c.name h none) in
    map-append (λ old. put_if (same_name old.name new.name) new old) qs (c ∷ [])
    ∙ ap (λ b. put new qs ++ put_if b new c ∷ []) other

-- a process that takes a next part and labels is put in its own place
get_is : (qs : List Process) (i : ℕ) (q : Process) → i < length qs → q ≡ slice_index_or qs i q → slice_get qs i ≡ Some q
get_is [] i q within is = absurd (omega (arith, within))
get_is (p ∷ ps) zero q within is = ap Some (sym is)
get_is (p ∷ ps) (suc i) q within is = get_is ps i q (omega (arith, within)) is

-- a process with a next part and labels
abbrev pub with_next : Process → Option Part → List Label → Process
with_next q next labels = record { name = q.name; part = unwrap_or next q.part; labels = labels }

next_sound : (next : Option Part) (p : Part) → IsSound p → IfSome next (λ n. IsSound n) → IsSound (unwrap_or next p)
next_sound None p sound h = sound
next_sound (Some n) p sound h = h

module _ (qs : List Process) (i : ℕ) (old new : Process) (next : Option Part) (labels : List Label) (possible : ArePossible qs) (within : i < length qs)
    (is : old ≡ slice_index_or qs i old) (made : new ≡ with_next old next labels) (sound : IfSome next (λ n. IsSound n)) where
  here : slice_get qs i ≡ Some old
  here = get_is qs i old within is

  named : new.name ≡ old.name
  named = ap (λ q. q.name) made

  pub settled_possible : ArePossible (set qs i new)
  settled_possible =
      let whole : IsSound (unwrap_or next old.part) = next_sound next old.part (sound_get qs i old possible.sound here) sound in
      possible_set qs i old new possible here named (subst (λ q. IsSound q.part) (sym made) whole)

  pub settled_put : (q : Process) → slice_get qs i ≡ Some q → set qs i new ≡ put (with_next q next labels) qs
  settled_put q h =
      let same : old ≡ q = cc (here, h) in
      let put_is = put_set qs i old new possible.apart here named in
      sym put_is ∙ ap (λ r. put r qs) (made ∙ ap (λ r. with_next r next labels) same)

-- a child that is added before its parent is settled
pub forked : (w : World) (i : ℕ) (q : Process) (next : Option Part) (labels : List Label) (child : List ℕ) (new : Process) (w1 w2 : World)
    → slice_get w.processes i ≡ Some q → taken w.processes child ≡ false → new ≡ child_process (with_next q next labels) child
    → w1 ≡ record { processes = w.processes ++ new ∷ [] } → w2 ≡ put_process w1 (with_next q next labels)
    → w2 ≡ record { processes = (put_process w (with_next q next labels)).processes ++ child_process (with_next q next labels) child ∷ [] }
forked w i q next labels child new w1 w2 there fresh is added put_is =
    put_is
    ∙ ap (λ v. put_process v (with_next q next labels)) (added ∙ ap (λ c. record { processes = w.processes ++ c ∷ [] }) is)
    ∙ ap (λ qs. record { processes = qs }) (put_more w.processes i q (with_next q next labels) (child_process (with_next q next labels) child) there refl fresh)

-- where a name finds no process, it is at no place
pub place_none : (qs : List Process) (name : List ℕ) → position (λ q. same_name q.name name) qs ≡ None → process_named qs name ≡ None
place_none qs name h = by (nat_lt at (length qs)) refl h
  where
    at : ℕ
    at = position_or_len (λ q. same_name q.name name) qs

    by : (b : Bool) → nat_lt at (length qs) ≡ b → cond b (Some at) None ≡ None → process_named qs name ≡ None
    by true e none = absurd cc
    by false e none = find_at (λ q. same_name q.name name) qs ∙ get_past qs at (ltb-false at (length qs) e)

-- a place that is found is within
pub place_within : (qs : List Process) (name : List ℕ) (i : ℕ) → position (λ q. same_name q.name name) qs ≡ Some i → i < length qs
place_within qs name i h = by (nat_lt at (length qs)) refl h
  where
    at : ℕ
    at = position_or_len (λ q. same_name q.name name) qs

    by : (b : Bool) → nat_lt at (length qs) ≡ b → cond b (Some at) None ≡ Some i → i < length qs
    by true e found = let same : at ≡ i = cc in subst (λ k. k < length qs) same (ltb-true at (length qs) e)
    by false e found = absurd cc

get_within : (qs : List Process) (i : ℕ) → i < length qs → (q : Process) × (slice_get qs i ≡ Some q)
get_within [] i within = absurd (omega (arith, within))
get_within (p ∷ ps) zero within = (p, refl)
get_within (p ∷ ps) (suc i) within = get_within ps i (omega (arith, within))

-- the process of a name, at its place
pub process_at : (qs : List Process) (name : List ℕ) (i : ℕ) → position (λ q. same_name q.name name) qs ≡ Some i → (q : Process) × (slice_get qs i ≡ Some q) × (process_named qs name ≡ Some q)
process_at qs name i h =
    let at = get_within qs i (place_within qs name i h) in
    (at.0, at.1, place_found qs name i h ∙ at.1)
