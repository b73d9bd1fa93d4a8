use Rattle.std.proofs.Common.{◌≡◌, ◌+◌, ◌*◌, ◌≤◌, Bool, length}
use Rattle.class_layout.specs.Layout.{Laid, place_fields}
use Rattle.class_layout.specs.Placing.{ranked, ArePlaced}
use Rattle.class_layout.proofs.placing.place_all.Given as goal

-- the groups up to here are placed
abbrev pub invariant-loop-rank : goal.invariant-loop-rank
invariant-loop-rank l = record {
  long : length l.offsets ≡ length l.fields;
  bound : l.end ≤ l.from + 61440 * l.rank;
  ends : (weak : Bool) (laid : Laid) → laid.end ≡ l.from → (place_fields weak laid (ranked l.fields l.rank)).end ≡ l.end;
  places : (weak : Bool) (laid : Laid) → laid.end ≡ l.from → ArePlaced weak (place_fields weak laid (ranked l.fields l.rank)) l.fields l.offsets l.rank 0;
}
