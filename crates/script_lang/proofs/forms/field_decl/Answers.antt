use Rattle.std.proofs.Common.{◌∙◌, sym}
use Rattle.script_lang.proofs.FormsLemmas.{decl_of-cut, no_kind}
use Rattle.script_lang.specs.Forms.{field_of, kind_of}
use Rattle.script_lang.proofs.forms.field_decl.Goals as goal

pub returns-in_err-kind : goal.returns-in_err-kind
returns-in_err-kind c =
    let cut = rw c.in_ok-kind_word.was at c.cut.ensures.parts in
    c.from_residual-in_err-kind.ensures ∙ no_kind (field_of c.cut.result.0.now) (kind_of c.in_ok-kind_word.field-0.now) c.in_err-kind.ensures ∙ sym (decl_of-cut c.args.word.now c.cut.result.0.now c.in_ok-kind_word.field-0.now cut)
