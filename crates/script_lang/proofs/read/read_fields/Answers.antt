use Rattle.std.proofs.Common.{◌≡◌, ℕ, List, [], ◌∷◌, ◌++◌, ◌∙◌, sym, ap}
use Rattle.class_layout.specs.declared.kind.FieldDecl.{FieldDecl}
use Rattle.script_lang.proofs.FieldsLemmas.{decls_behind, decls_behind-more, on_success}
use Rattle.script_lang.proofs.read.read_fields.Goals as goal

pub loop-word-preserved : goal.loop-word-preserved
loop-word-preserved c =
    let fields = c.loop-word.fields in
    let field = c.in_ok-field.field in
    let word = c.in-Some.word.now in
    let rest = c.next.new.self in
    let pushed : c.push.new.self ≡ fields ++ field ∷ [] = on_success c.push.result _ c.if-is_err.ensures.value c.push.ensures.pushed in
    ap (λ (fs : List FieldDecl). decls_behind fs rest) pushed
    ∙ decls_behind-more fields field word rest (sym c.field_decl.ensures ∙ c.in_ok-field.ensures.ok_part)
    ∙ ap (λ (ws : List (List ℕ)). decls_behind fields ws) (sym c.in-Some.ensures)
    ∙ c.loop-word.invariant
