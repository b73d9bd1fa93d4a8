use Rattle.std.proofs.Common.{◌≡◌, ◌*◌, ◌≤◌, ◌++◌, length}
use Rattle.address_table.specs.Computed.{addresses_from, first_homes, large_count}
use Rattle.address_table.proofs.Behind.{last_end}
use Rattle.heap_graph.specs.Formed.{AreObjects}
use Rattle.model_numbers.specs.Numbers.{large_slot_count, region_bytes}
use Rattle.plain_view.proofs.addresses.addresses_of.Given as goal

abbrev pub invariant-loop-o : goal.invariant-loop-o
invariant-loop-o l = record {
  so_far : l.addresses.items ++ addresses_from (first_homes l.budget) l.classes l.end l.large l.rest ≡ addresses_from (first_homes l.budget) l.classes 0 0 l.objects;
  objects : AreObjects l.classes l.rest;
  young : last_end l.classes l.end l.rest ≤ region_bytes * l.budget;
  large : large_count l.large l.rest ≤ large_slot_count;
}

abbrev pub decreases-loop-o : goal.decreases-loop-o
decreases-loop-o l = length l.rest
