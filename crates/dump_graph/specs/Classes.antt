-- The classes of a dump, and which fields the instances of a class have.
use Rattle.std.specs.Prelude.{ℕ, zero, suc, nat_eq, List, ◌++◌, map, length, Option, None, Some, option_map, option_and_then, if◌then◌else◌}
use Rattle.std.specs.List.{find, filter_map}
use Rattle.hprof_records.specs.declared.sub_record.SubRecord.{SubRecord}
use Rattle.hprof_records.specs.declared.sub_record.SubRecord.TheVariants.{ClassDump}

-- a class as a class dump tells it: its identifier, that of its superclass, and the codes of the types of its own fields
pub record Class : Type 0 where
  pub id : ℕ
  pub parent : ℕ
  pub codes : List ℕ

-- the class that a part tells
abbrev pub class_of : SubRecord → Option Class
class_of (ClassDump id stack parent loader signers domain spare_a spare_b size constants statics fields) =
    Some (record { id = id; parent = parent; codes = map (λ f. f.1) fields })
class_of _ = None

-- the class dumps, in order
abbrev pub classes : List SubRecord → List Class
classes parts = filter_map class_of parts

-- the first class dump with an identifier
abbrev pub first_class : List Class → ℕ → Option Class
first_class known id = find (λ c. nat_eq id c.id) known

-- the types of the fields of a class and of its superclasses, from the class upwards, where their first class dumps lead
-- to superclass 0 by at most so many of them
abbrev pub codes_within : List Class → ℕ → ℕ → Option (List ℕ)
codes_within known zero id = None
codes_within known (suc steps) id =
    option_and_then (λ c.
    if nat_eq c.parent 0 then Some c.codes
    else option_map (λ above. c.codes ++ above) (codes_within known steps c.parent))
    (first_class known id)

-- the types of an instance's values by its class, where the first class dumps of the class and of its superclasses lead
-- to superclass 0 without a repeat: then there are no more of them than class dumps
abbrev pub layout : List Class → ℕ → Option (List ℕ)
layout known id = codes_within known (length known) id
