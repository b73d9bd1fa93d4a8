-- How the first class dumps lead from a class up to its last superclass.
use Rattle.std.specs.Prelude.{◌≡◌, ◌≢◌, ℕ, List, [], ◌∷◌, Some}
use Rattle.dump_graph.specs.Classes.{Class, first_class}

-- these are the first class dumps of the class with an identifier and of its superclasses, each the superclass of the one
-- before, and the last one's superclass is 0
abbrev pub LeadUp : List Class → ℕ → List Class → Type 0
LeadUp known id [] = ⊥
LeadUp known id (c ∷ []) = (first_class known id ≡ Some c) × (c.parent ≡ 0)
LeadUp known id (c ∷ d ∷ above) = (first_class known id ≡ Some c) × (c.parent ≢ 0) × LeadUp known c.parent (d ∷ above)
