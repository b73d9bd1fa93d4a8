use Rattle.std.proofs.Common.{◌≡◌, ◌++◌, ◌-◌, List, length, map, vec_len}
use Rattle.std.specs.Prelude.{option_map}
use Rattle.region_lists.specs.Rows.{Row, first_of}
use Rattle.live_objects.proofs.order.numbers_of.Given as goal

-- the rows up to the next one are done
abbrev pub invariant-loop-next : goal.invariant-loop-next
invariant-loop-next l = record {
  done : List Row;
  rest : List Row;
  all : l.regions.in_use ≡ done ++ rest;
  next : l.next ≡ option_map (λ (row : Row). row.region) (first_of rest);
  numbers : l.numbers.items ≡ map (λ (row : Row). row.region) done;
}

abbrev pub decreases-loop-next : goal.decreases-loop-next
decreases-loop-next l = length l.regions.in_use - vec_len l.numbers
