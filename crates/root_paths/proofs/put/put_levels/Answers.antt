use Rattle.std.proofs.Common.{◌<◌, arith, length}
use Rattle.std.proofs.lemmas.List.FromFn.{length-range_with_len}
use Rattle.std.proofs.lemmas.Result.{err_from_is_err_and}
use Rattle.hprof_list.proofs.Putting.{each_done, each_more, each_stop}
use Rattle.root_paths.specs.Answer.{id_at, level_line}
use Rattle.root_paths.specs.Paths.{dist, numbers}
use Rattle.root_paths.proofs.Lines.{level-told, number-within}
use Rattle.root_paths.proofs.put.put_levels.Goals as goal

pub returns-in_err-put_reach : goal.returns-in_err-put_reach
returns-in_err-put_reach g c =
    let within : c.loop-i.i < length c.args.graph.now = omega arith in
    let p = err_from_is_err_and c.from_residual.result c.from_residual.ensures.1 in
    rw p.1 (each_stop (λ n. level_line c.args.limit (id_at c.args.graph.now n) (dist c.args.graph.now n)) (numbers c.args.graph.now) c.loop-i.i 0 _ _ _ _ _ _ _ (number-within c.args.graph.now c.loop-i.i within)
    (level-told c.args.limit c.args.graph.now c.args.reached.now c.loop-i.i c.id.result _ c.requires within c.id.ensures) c.loop-i.invariant c.in_err-put_reach.ensures)

pub loop-i-preserved : goal.loop-i-preserved
loop-i-preserved g c =
    let within : c.loop-i.i < length c.args.graph.now = omega arith in
    each_more (λ n. level_line c.args.limit (id_at c.args.graph.now n) (dist c.args.graph.now n)) (numbers c.args.graph.now) c.loop-i.i 0 _ _ _ _ _ _ _ (number-within c.args.graph.now c.loop-i.i within)
    (level-told c.args.limit c.args.graph.now c.args.reached.now c.loop-i.i c.id.result _ c.requires within c.id.ensures) c.loop-i.invariant c.in_ok-put_reach.ensures

pub returns : goal.returns
returns g c = each_done (λ n. level_line c.args.limit (id_at c.args.graph.now n) (dist c.args.graph.now n)) (numbers c.args.graph.now) c.loop-i.i _ _ _ _ (omega (arith, length-range_with_len 0 (length c.args.graph.now))) c.loop-i.invariant
