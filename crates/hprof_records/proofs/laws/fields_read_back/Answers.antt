use Rattle.std.proofs.Common.{sym, ◌∙◌}
use Rattle.hprof_records.proofs.ReadBack.{one_number, field_stands}
use Rattle.hprof_records.proofs.laws.fields_read_back.Goals as goal

pub returns-clause-read_back : goal.returns-clause-read_back
returns-clause-read_back c size x y before after hx hy e =
    sym (one_number size x y hx hy (sym (field_stands size x before after) ∙ e))
