-- What holds of a world before each line of a script.
use Rattle.std.specs.Prelude.{◌≡◌, ℕ, ◌+◌, ◌≤◌, false, List, [], ◌∷◌}
use Rattle.std.specs.List.{list_any}
use Rattle.class_layout.specs.Names.{same_name}
use Rattle.heap_world.specs.Commands.{HasFewFields}
use Rattle.heap_world.specs.Run.{Line}
use Rattle.heap_world.specs.Sound.{IsSound}
use Rattle.heap_world.specs.World.{Process, World}
use Rattle.world_laws.specs.Labels.{AreEarlier, AreLabelled, HaveLikeLarge, HaveOneLine, HaveOwnLines, Each}
use Rattle.world_laws.specs.Outward.{NotesWithin, TouchesOutward}

-- no two processes have one name
abbrev pub AreNamedApart : List Process → Type 0
AreNamedApart [] = Unit {0}
AreNamedApart (q ∷ qs) = (list_any (λ r. same_name r.name q.name) qs ≡ false) × AreNamedApart qs

-- names are apart, and each part is sound
pub record IsSoundWorld (w : World) : Type 0 where
  pub apart : AreNamedApart w.processes
  pub sound : Each w (λ q. IsSound q.part)

-- all that holds of a world before the line of this number
pub record IsInOrder (line : ℕ) (w : World) : Type 0 where
  pub sound : IsSoundWorld w
  pub earlier : AreEarlier line w
  pub labelled : AreLabelled w
  pub one_line : HaveOneLine w
  pub own_lines : HaveOwnLines w
  pub like_large : HaveLikeLarge w
  pub outward : Each w (λ q. TouchesOutward q.part)
  pub noted : Each w (λ q. NotesWithin q.part)

-- the numbers of lines rise from this one on, and each class line declares few fields
abbrev pub AreLines : ℕ → List Line → Type 0
AreLines least [] = Unit {0}
AreLines least (l ∷ ls) = (least ≤ l.number) × HasFewFields l.command.verb × AreLines (l.number + 1) ls

-- the number behind that of the last line
abbrev pub next_line : ℕ → List Line → ℕ
next_line least [] = least
next_line least (l ∷ ls) = next_line (l.number + 1) ls
