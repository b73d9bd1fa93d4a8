-- What a shelf in memory holds.
use Rattle.std.specs.Prelude.{ℕ, ◌+◌, ◌-◌, List, [], ◌∷◌, ◌++◌, length}
use Rattle.ah_outside.specs.FaultPlan.{Plan, after_call, after_fault}
use Rattle.ah_outside.specs.Outside.{Entry, begun, with_bytes, with_last_closed}

-- the entries, how many of them may stand, how many bytes there is room for in all, and the plan of its calls
pub record ShelfState : Type 0 where
  pub entries : List Entry
  pub limit : ℕ
  pub room : ℕ
  pub plan : Plan

-- how much room an entry takes: its name and its bytes
abbrev pub entry_size : Entry → ℕ
entry_size e = length e.name + length e.bytes

-- how much room the entries take in all
abbrev pub room_taken : List Entry → ℕ
room_taken [] = 0
room_taken (e ∷ es) = entry_size e + room_taken es

-- how many bytes there still is room for
abbrev pub room_left : ShelfState → ℕ
room_left s = s.room - room_taken s.entries

-- the shelf after a call that began an entry of this name
abbrev pub after_begin : ShelfState → List ℕ → ShelfState
after_begin s name = record { entries = s.entries ++ begun name ∷ []; limit = s.limit; room = s.room; plan = after_call s.plan }

-- the shelf after a call that appended these bytes
abbrev pub after_append : ShelfState → List ℕ → ShelfState
after_append s piece = record { entries = with_bytes s.entries piece; limit = s.limit; room = s.room; plan = after_call s.plan }

-- the shelf after a call that closed the last entry
abbrev pub after_finish : ShelfState → ShelfState
after_finish s = record { entries = with_last_closed s.entries; limit = s.limit; room = s.room; plan = after_call s.plan }

-- the shelf after a call that failed
abbrev pub after_failed_call : ShelfState → ShelfState
after_failed_call s = record { entries = s.entries; limit = s.limit; room = s.room; plan = after_fault s.plan }
