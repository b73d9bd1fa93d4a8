use Rattle.std.proofs.Common.{◌≡◌, ◌⊎◌, ℕ, ◌<◌, true, get_or}
use Rattle.std.specs.List.{Contains}
use Rattle.bit_set.specs.Bits.{is_member, room}
use Rattle.large_objects.specs.declared.rows.LargeRow.{LargeRow}
use Rattle.object_collection.proofs.plan.add_promoted.Given as goal

-- the promoted ones before this one are members, and no other slot became one
abbrev pub invariant-loop-row : goal.invariant-loop-row
invariant-loop-row l = record {
  stay : (q : ℕ) → is_member l.fn.slots q ≡ true → is_member l.slots q ≡ true;
  only : (row : LargeRow) → Contains l.row-items row → is_member l.slots row.slot ≡ true → (row.promoted ≡ true) ⊎ (is_member l.fn.slots row.slot ≡ true);
  done : (k : ℕ) (d : LargeRow) → k < l.row-index → (get_or l.row-items k d).promoted ≡ true → is_member l.slots (get_or l.row-items k d).slot ≡ true;
  same_room : room l.slots ≡ room l.fn.slots;
}
