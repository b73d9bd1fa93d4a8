use Rattle.std.proofs.Common.{◌≡◌, length, is_some}
use Rattle.script_lang.specs.Forms.{decls_of}
use Rattle.script_lang.proofs.read.are_fields.Given as goal

abbrev pub invariant-loop-word : goal.invariant-loop-word
invariant-loop-word l = is_some (decls_of l.words) ≡ is_some (decls_of l.fn.words)

abbrev pub decreases-loop-word : goal.decreases-loop-word
decreases-loop-word l = length l.words
