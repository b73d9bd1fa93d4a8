-- What a collection keeps, and what it clears.
use Rattle.std.specs.Prelude.{ℕ, ◌-◌, Bool, true, false, ◌||◌, not, List, map, filter, length, count_by}
use Rattle.heap_graph.specs.declared.names.Content.{Content}
use Rattle.heap_graph.specs.declared.names.Content.TheVariants as content
use Rattle.heap_graph.specs.declared.names.Stored.{Stored}
use Rattle.heap_graph.specs.Graph.{Object, Graph, is_immune}
use Rattle.heap_graph.specs.Reach.{is_among, reached}

-- the immune objects and the reached ones are kept
abbrev pub is_kept : Bool → List ℕ → Object → Bool
is_kept sealed seen o = is_immune sealed o.place || is_among seen o.number

-- a reference becomes null where its target isn't kept
abbrev pub if_kept : Bool → ℕ → Content
if_kept true n = content.Object n
if_kept false n = content.Null

abbrev pub cleared_slot : List ℕ → Content → Content
cleared_slot kept (content.Number z) = content.Number z
cleared_slot kept content.Null = content.Null
cleared_slot kept (content.Object n) = if_kept (is_among kept n) n

-- a weak slot is cleared, a strong one stays
abbrev pub clear_if : Bool → List ℕ → Content → Content
clear_if true kept s = cleared_slot kept s
clear_if false kept s = s

abbrev pub cleared_stored : List ℕ → Stored → Stored
cleared_stored kept s = record { at = s.at; value = clear_if s.at.weak kept s.value }

abbrev pub cleared_slots : List ℕ → List Stored → List Stored
cleared_slots kept ss = map (cleared_stored kept) ss

abbrev pub cleared : List ℕ → Object → Object
cleared kept o = record o { slots = cleared_slots kept o.slots }

abbrev pub cleared_all : List Object → List Object
cleared_all kept = map (cleared (map (λ o. o.number) kept)) kept

-- the objects after a collection
abbrev pub collected_objects : Graph → List Object
collected_objects g = cleared_all (filter (is_kept g.sealed (reached g)) g.objects)

abbrev pub collect : Graph → Graph
collect g = record g { objects = collected_objects g }

-- how many objects aren't immune
abbrev pub loose_count : Graph → ℕ
loose_count g = count_by (λ o. not (is_immune g.sealed o.place)) g.objects

-- how many objects a collection removed, by the graph before it and the one after it
abbrev pub freed_count : Graph → Graph → ℕ
freed_count before after = length before.objects - length after.objects
