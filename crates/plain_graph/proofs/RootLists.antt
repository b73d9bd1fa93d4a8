-- A root that is written, where the name had one before, and where not.
use Rattle.std.proofs.Common.{◌≡◌, ℕ, Bool, true, false, cond, List, [], ◌∷◌, ◌++◌, None, Some, get_or, position, set, refl}
use Rattle.class_layout.specs.Names.{same_name}
use Rattle.heap_graph.specs.declared.names.Held.{Held}
use Rattle.heap_graph.specs.declared.names.Root.{Root}
use Rattle.heap_graph.specs.Graph.{write_first, write_root}
use Rattle.plain_graph.proofs.FirstPlaces.{changed_at, grown_by}

abbrev held_now : Held → Root → Root
held_now holds r = record { name = r.name; holds = holds }

write_first-cond : (b : Bool) (r : Root) (name : List ℕ) (holds : Held) (rest later : List Root) → write_first b r name holds rest later ≡ cond b (held_now holds r ∷ rest) (r ∷ later)
write_first-cond true r name holds rest later = refl
write_first-cond false r name holds rest later = refl

pub write_root-at : (rs : List Root) (name : List ℕ) (holds : Held) (i : ℕ) (d : Root) → position (λ r. same_name r.name name) rs ≡ Some i → write_root rs name holds ≡ set rs i (record { name = (get_or rs i d).name; holds = holds })
write_root-at rs name holds i d at =
    changed_at (λ rs. write_root rs name holds) (λ r. same_name r.name name) (held_now holds) (record { name = name; holds = holds }) refl
    (λ r rs. write_first-cond (same_name r.name name) r name holds rs (write_root rs name holds)) rs i d at

pub write_root-new : (rs : List Root) (name : List ℕ) (holds : Held) → position (λ r. same_name r.name name) rs ≡ None → write_root rs name holds ≡ rs ++ record { name = name; holds = holds } ∷ []
write_root-new rs name holds at =
    grown_by (λ rs. write_root rs name holds) (λ r. same_name r.name name) (held_now holds) (record { name = name; holds = holds }) refl
    (λ r rs. write_first-cond (same_name r.name name) r name holds rs (write_root rs name holds)) rs at

-- both
pub ruleset writes = (write_root-at, write_root-new)
