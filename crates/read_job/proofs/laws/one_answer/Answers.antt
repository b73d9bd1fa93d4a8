use Rattle.read_job.proofs.OneAnswer.{AreLaws, not_both, same_answer}
use Rattle.read_job.proofs.laws.one_answer.Goals as goal

pub returns-clause-same : goal.returns-clause-same
returns-clause-same c =
    let laws : AreLaws = record {
      one_list = c.one_list.ensures;
      no_fault = c.no_fault_in_dumps.ensures;
      one_fault = c.first_faults.ensures;
      one_wide_list = c.one_wide_list.ensures;
      no_wide_fault = c.no_fault_in_wide_dumps.ensures;
      one_wide_fault = c.first_wide_faults.ensures;
    } in
    same_answer laws

pub returns-clause-apart : goal.returns-clause-apart
returns-clause-apart c =
    let laws : AreLaws = record {
      one_list = c.one_list.ensures;
      no_fault = c.no_fault_in_dumps.ensures;
      one_fault = c.first_faults.ensures;
      one_wide_list = c.one_wide_list.ensures;
      no_wide_fault = c.no_fault_in_wide_dumps.ensures;
      one_wide_fault = c.first_wide_faults.ensures;
    } in
    not_both laws
