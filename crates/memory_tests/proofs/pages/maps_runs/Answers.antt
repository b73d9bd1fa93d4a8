use Rattle.std.proofs.Common.{ap, arith}
use Rattle.std.specs.Prelude.{is_some}
use Rattle.memory_tests.proofs.pages.maps_runs.Goals as goal

pub release_run-requires-clause-mapped : goal.release_run-requires-clause-mapped
release_run-requires-clause-mapped g c p run = ap is_some (c.in_ok-map_run.ensures.maps.zeros p (record { from = run.from; to = omega (arith, run.to) })).now
