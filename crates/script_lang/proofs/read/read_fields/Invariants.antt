use Rattle.std.proofs.Common.{◌≡◌, length}
use Rattle.script_lang.specs.Forms.{decls_of}
use Rattle.script_lang.proofs.FieldsLemmas.{decls_behind}
use Rattle.script_lang.proofs.read.read_fields.Given as goal

abbrev pub invariant-loop-word : goal.invariant-loop-word
invariant-loop-word l = decls_behind l.fields l.words ≡ decls_of l.fn.words

abbrev pub decreases-loop-word : goal.decreases-loop-word
decreases-loop-word l = length l.words
