use Rattle.std.proofs.Common.{ap, length, arith}
use Rattle.script_lang.proofs.FieldsLemmas.{length-decls_of}
use Rattle.script_lang.proofs.read.class_verb.Goals as goal

pub returns-clause-few_fields : goal.returns-clause-few_fields
returns-clause-few_fields c =
    let rest = c.next-2.new.self in
    omega (arith, length-decls_of rest c.in_ok-fields.fields c.in_ok-fields.ensures, ap length c.in-Some.ensures, ap length c.in-Some-next.ensures)
