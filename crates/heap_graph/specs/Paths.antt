-- Reaching as a path, and graphs in which nothing dangles.
use Rattle.std.specs.Prelude.{◌≡◌, ℕ, ◌+◌, ◌*◌, ◌<◌, ◌≤◌, ◌⊎◌, true, false, List, [], ◌∷◌, map}
use Rattle.std.specs.List.{flat_map}
use Rattle.model_numbers.specs.Numbers.{region_bytes}
use Rattle.class_layout.specs.ClassList.{Class}
use Rattle.class_layout.specs.Placing.{IsIn}
use Rattle.heap_graph.specs.declared.names.Held.TheVariants as held
use Rattle.heap_graph.specs.declared.names.Root.{Root}
use Rattle.heap_graph.specs.declared.names.Shape.{Shape}
use Rattle.heap_graph.specs.declared.names.Content.TheVariants as content
use Rattle.heap_graph.specs.declared.names.Stored.{Stored}
use Rattle.heap_graph.specs.Graph.{Object, Graph, is_immune}
use Rattle.heap_graph.specs.Reach.{Node, is_among, held_by}
use Rattle.heap_graph.specs.Sizes.{is_large, is_too_large}
use Rattle.heap_graph.specs.Values.{targets, held_targets}

-- an object has the number
abbrev pub IsNumber : List Node → ℕ → Type 0
IsNumber vs n = is_among (map (λ v. v.number) vs) n ≡ true

-- a strong slot of the object m holds n
abbrev pub Holds : List Node → ℕ → ℕ → Type 0
Holds vs m n = is_among (held_by vs (m ∷ [])) n ≡ true

-- the members lead to n: a start holds the first, each holds the next, and the last holds n. They stand newest first
abbrev pub LeadsTo : List Node → List ℕ → List ℕ → ℕ → Type 0
LeadsTo vs from [] n = IsNumber vs n × (is_among from n ≡ true)
LeadsTo vs from (m ∷ path) n = IsNumber vs n × Holds vs m n × LeadsTo vs from path m

-- a root holds the object of the number
abbrev pub IsRooted : Graph → ℕ → Type 0
IsRooted g n = (r : Root) × IsIn r g.roots × (r.holds ≡ held.Object n)

-- a strong slot of the object holds the object of the number
abbrev pub HoldsStrongly : Object → ℕ → Type 0
HoldsStrongly o n = (s : Stored) × IsIn s o.slots × (s.at.weak ≡ false) × (s.value ≡ content.Object n)

-- a root holds the object of the number, or a strong slot of an immune object does
abbrev pub IsStart : Graph → ℕ → Type 0
IsStart g n = IsRooted g n ⊎ ((o : Object) × IsIn o g.objects × (is_immune g.sealed o.place ≡ true) × HoldsStrongly o n)

-- the path leads to the object of the number: a root or an immune object holds its first object, each holds the next,
-- and the last holds the object of the number. They stand newest first
abbrev pub IsPathTo : Graph → List Object → ℕ → Type 0
IsPathTo g [] n = IsStart g n
IsPathTo g (o ∷ path) n = IsIn o g.objects × HoldsStrongly o n × IsPathTo g path o.number

-- the graph has an object of the number, and a path leads to it
abbrev pub IsReached : Graph → ℕ → Type 0
IsReached g n = ((o : Object) × IsIn o g.objects × (o.number ≡ n)) × ((path : List Object) × IsPathTo g path n)

abbrev pub numbers : List Object → List ℕ
numbers os = map (λ o. o.number) os

-- each object that a root or a slot holds, weak or strong, is there
pub record IsClosed (g : Graph) : Type 0 where
  pub roots : (n : ℕ) → is_among (held_targets (map (λ r. r.holds) g.roots)) n ≡ true → is_among (numbers g.objects) n ≡ true
  pub slots : (n : ℕ) → is_among (flat_map (λ o. targets o.slots) g.objects) n ≡ true → is_among (numbers g.objects) n ≡ true

-- an object of the shape stands in a region: it isn't too large, and has no slot of its own
abbrev pub FitsRegion : List Class → Shape → Type 0
FitsRegion cs shape = (is_too_large cs shape ≡ false) × (is_large cs shape ≡ false)

-- sizes that fit a region each
abbrev pub FitRegions : List ℕ → Type 0
FitRegions [] = Unit {0}
FitRegions (s ∷ ss) = (0 < s) × (s ≤ region_bytes) × FitRegions ss

-- s bytes at p lie in one region
abbrev pub IsInRegion : ℕ → ℕ → Type 0
IsInRegion p s = (region : ℕ) × (region * region_bytes ≤ p) × (p + s ≤ (region + 1) * region_bytes)

-- each size stands at its place in one region, behind the sizes before it, the first from p on
abbrev pub ArePacked : ℕ → List ℕ → List ℕ → Type 0
ArePacked p [] [] = Unit {0}
ArePacked p (s ∷ ss) [] = ⊥
ArePacked p [] (at ∷ ats) = ⊥
ArePacked p (s ∷ ss) (at ∷ ats) = (p ≤ at) × IsInRegion at s × ArePacked (at + s) ss ats
