use Rattle.std.proofs.Common.{◌≡◌, ◌≤◌, ◌++◌, take, drop, length}
use Rattle.std.specs.Prelude.{sum_by}
use Rattle.hprof_records.specs.Types.{value_bytes}
use Rattle.dump_graph.specs.References.{references_in}
use Rattle.dump_graph.proofs.references.read_fields.Given as goal

abbrev pub invariant-loop-code : goal.invariant-loop-code
invariant-loop-code l = record {
  within : sum_by value_bytes (take l.code-index l.codes) ≤ length l.bytes;
  rest : l.rest ≡ drop (sum_by value_bytes (take l.code-index l.codes)) l.bytes;
  found : l.found.items ≡ l.fn.found.items ++ references_in (take l.code-index l.codes) l.bytes;
}
