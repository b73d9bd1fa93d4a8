use Rattle.std.proofs.Common.{◌≡◌, ◌+◌, ◌*◌, ◌≤◌, Bool, filter, length, take}
use Rattle.class_layout.specs.Layout.{Laid, place_fields}
use Rattle.class_layout.specs.Placing.{has_rank, ArePlaced}
use Rattle.class_layout.proofs.placing.place_group.Given as goal

-- the fields up to here are placed
abbrev pub invariant-loop-i : goal.invariant-loop-i
invariant-loop-i l = record {
  long : length l.offsets ≡ length l.fields;
  bound : l.end ≤ l.from + 15 * l.i;
  ends : (weak : Bool) (laid : Laid) → laid.end ≡ l.from → (place_fields weak laid (filter (has_rank l.rank) (take l.i l.fields))).end ≡ l.end;
  places : (weak : Bool) (laid : Laid) → laid.end ≡ l.from → ArePlaced weak laid l.fields l.initial.offsets l.rank 0
      → ArePlaced weak (place_fields weak laid (filter (has_rank l.rank) (take l.i l.fields))) l.fields l.offsets l.rank l.i;
}
