use Rattle.std.proofs.Common.{ℕ, List, [], ◌∷◌, ◌++◌, map, take, ap, sym, ◌∙◌}
use Rattle.hprof_convert.specs.Names.{rename}
use Rattle.hprof_convert.proofs.Renaming.{map-more}
use Rattle.hprof_convert.proofs.converted.renamed_ids.Goals as goal

pub loop-one-preserved : goal.loop-one-preserved
loop-one-preserved c =
    let f = rename c.args.names.now in
    let i = c.loop-one.one-index in
    c.in_ok-push.ensures.pushed
    ∙ (ap (λ (l : List ℕ). l ++ c.rename.result ∷ []) c.loop-one.invariant
    ∙ (ap (λ (x : ℕ). map f (take i c.args.list.now) ++ x ∷ []) c.rename.ensures
    ∙ sym (map-more f c.args.list.now i 0 c.loop-one-test.true)))
