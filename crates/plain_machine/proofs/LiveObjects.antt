-- The objects of live processes, one more process at a time.
use Rattle.std.proofs.Common.{◌≡◌, ℕ, ◌+◌, ◌<◌, Bool, true, false, cond, ◌||◌, Some, List, [], ◌∷◌, get_or, length, map, sum, take, refl, ap, ◌∙◌}
use Rattle.std.specs.Option.{is_some}
use Rattle.std.specs.List.{list_any}
use Rattle.std.proofs.lemmas.List.{map-append, take_more}
use Rattle.std.proofs.lemmas.List.Sums.{sum_by-append}
use Rattle.class_layout.specs.Names.{same_name}
use Rattle.heap_world.specs.World.{Process, live, process_named}
use Rattle.heap_world.specs.Counts.{objects_in, objects_in_any}
use Rattle.plain_machine.proofs.Live.{live-append}

abbrev objects : List Process → ℕ
objects qs = sum (map objects_in (live qs))

-- the objects of one more process
pub objects_more : (qs : List Process) (i : ℕ) (d : Process) → i < length qs →
    objects (take (i + 1) qs) ≡ objects (take i qs) + objects (get_or qs i d ∷ [])
objects_more qs i d within =
    ap objects (take_more qs i d within)
    ∙ ap (λ ps. sum (map objects_in ps)) (live-append (take i qs) (get_or qs i d ∷ []))
    ∙ ap sum (map-append objects_in (live (take i qs)) (live (get_or qs i d ∷ [])))
    ∙ sum_by-append (λ n. n) (map objects_in (live (take i qs))) (map objects_in (live (get_or qs i d ∷ [])))

-- a name has a count where a process has the name
pub counted_where_named : (qs : List Process) (name : List ℕ) → is_some (objects_in_any (process_named qs name)) ≡ list_any (λ q. same_name q.name name) qs
counted_where_named [] name = refl
counted_where_named (q ∷ qs) name = by (same_name q.name name) (counted_where_named qs name)
  where
    by : (b : Bool) → is_some (objects_in_any (process_named qs name)) ≡ list_any (λ r. same_name r.name name) qs
        → is_some (objects_in_any (cond b (Some q) (process_named qs name))) ≡ (b || list_any (λ r. same_name r.name name) qs)
    by true e = refl
    by false e = e
