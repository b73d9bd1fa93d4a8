use Rattle.std.proofs.Common.{◌≡◌, ℕ, false, List, ◌∷◌, Some, ◌∙◌, sym, ap}
use Rattle.script_lang.specs.Parts.{words}
use Rattle.script_lang.specs.Forms.{root_of}
use Rattle.script_lang.specs.Grammar.{begins_with_hash}
use Rattle.script_lang.proofs.ReadLemmas.{line_error}
use Rattle.script_lang.proofs.read.read_line.Goals as goal

pub returns-in-Err-clause-meaning : goal.returns-in-Err-clause-meaning
returns-in-Err-clause-meaning c =
    let first = c.in-Some.first.now in
    let command = c.in-Some-next.command.now in
    let args = c.next-2.new.self in
    let ws : words c.args.bytes.now ≡ first ∷ command ∷ args = sym c.of-words.ensures.words ∙ c.in-Some.ensures ∙ ap (λ (rest : List (List ℕ)). first ∷ rest) c.in-Some-next.ensures in
    let hash : begins_with_hash first ≡ false = sym c.is_remark.ensures ∙ c.if-is_remark.false in
    let root : root_of first ≡ Some c.in-Some-root_name.process = sym c.in-Some-root_name.ensures in
    line_error c.in-Err.error c.args.bytes.now first command args c.in-Some-root_name.process ws hash root c.in-Err.ensures.meaning
