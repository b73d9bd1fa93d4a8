-- What a run changes: what its source has left, what its sink has gained, what its shelf has, the faults of the three, and
-- the machine, of which nothing is known but the worlds that it stands for.
use Rattle.std.specs.Prelude.{ℕ, List, Option}
use Rattle.ah_outside.specs.Outside.{Shelved}
use Rattle.plain_machine.specs.Worlds.{Meaning}

-- what the words of a run set: the budget of each process in regions, and the time in the headers of its dumps
pub record Setting : Type 0 where
  pub budget : ℕ
  pub time : ℕ

-- what lines change: the bytes that the sink has gained, where it tells them, its count of faults, what the shelf has,
-- its count of faults, and the machine
pub record Output : Type 0 where
  pub gained : Option (List ℕ)
  pub write_faults : ℕ
  pub shelved : Shelved
  pub shelf_faults : ℕ
  pub machine : Meaning

-- what a run changes: the bytes that the source has left, where it tells them, its count of faults, and what lines change
pub record Outside : Type 0 where
  pub left : Option (List ℕ)
  pub read_faults : ℕ
  pub output : Output

-- what lines change, from what a sink and a shelf tell and from a machine
abbrev pub output_of : Option (List ℕ) → ℕ → Shelved → ℕ → Meaning → Output
output_of held writes shelf shelvings m =
    record { gained = held; write_faults = writes; shelved = shelf; shelf_faults = shelvings; machine = m }

-- what a run changes, from what a source tells and from what lines change
abbrev pub outside_of : Option (List ℕ) → ℕ → Output → Outside
outside_of rest reads out = record { left = rest; read_faults = reads; output = out }
