use Rattle.std.proofs.Common.{◌≡◌, ℕ, ◌+◌, List, Option, None, Some, length}
use Rattle.std.specs.Option.{option_copied}
use Rattle.script_lang.specs.Parts.{words_left}
use Rattle.script_lang.proofs.words.next_word.Given as goal

abbrev bytes_left : Option (List ℕ) → ℕ
bytes_left None = 0
bytes_left (Some rest) = length rest + 1

abbrev pub invariant-loop-left : goal.invariant-loop-left
invariant-loop-left l = words_left (option_copied l.left) ≡ words_left (option_copied l.fn.left)

abbrev pub decreases-loop-left : goal.decreases-loop-left
decreases-loop-left l = bytes_left (option_copied l.left)
