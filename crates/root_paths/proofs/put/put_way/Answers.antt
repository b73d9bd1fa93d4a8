use Rattle.std.proofs.Common.{List, ℕ, [], ◌∷◌, ◌∙◌, ap}
use Rattle.std.specs.Prelude.{codes}
use Rattle.std.specs.List.{concat}
use Rattle.std.proofs.lemmas.Result.{err_from_is_err_and}
use Rattle.hprof_list.specs.Listing.{id_text}
use Rattle.hprof_list.proofs.Putting.{each_more, each_stop}
use Rattle.root_paths.specs.Answer.{node_line}
use Rattle.root_paths.proofs.put.put_way.Goals as goal

pub returns-in_err-put_pieces : goal.returns-in_err-put_pieces
returns-in_err-put_pieces g c =
    let p = err_from_is_err_and c.from_residual.result c.from_residual.ensures.1 in
    rw p.1 (each_stop (node_line c.args.graph.now) c.args.way.now c.loop-number.number-index 0 _ _ _ _ _ _ _ c.loop-number-test.true (ap (λ (t : List ℕ). concat (t ∷ codes "\n" ∷ [])) (c.id_of.ensures ∙ ap id_text c.id.ensures)) c.loop-number.invariant c.in_err-put_pieces.ensures)

pub loop-number-preserved : goal.loop-number-preserved
loop-number-preserved g c =
    each_more (node_line c.args.graph.now) c.args.way.now c.loop-number.number-index 0 _ _ _ _ _ _ _ c.loop-number-test.true (ap (λ (t : List ℕ). concat (t ∷ codes "\n" ∷ [])) (c.id_of.ensures ∙ ap id_text c.id.ensures)) c.loop-number.invariant c.in_ok-put_pieces.ensures
