-- The lines of nodes.
use Rattle.std.proofs.Common.{◌≡◌, ℕ, ◌+◌, ◌<◌, List, length, get_or, Option, None, ap, sym, ◌∙◌, arith}
use Rattle.std.proofs.lemmas.List.{get_or_default}
use Rattle.std.proofs.lemmas.List.FromFn.{get_or-range_with_len, length-range_with_len}
use Rattle.dump_graph.specs.Graph.{Node}
use Rattle.root_paths.specs.Paths.{numbers, dist}
use Rattle.root_paths.specs.Answer.{id_at, level_line}
use Rattle.root_paths.specs.Levels.{AreReached, level_of}
use Rattle.root_paths.specs.declared.levels.Reach.{Reach}

-- the line of a node and its level
pub level-told : (limit : Option ℕ) (g : List Node) (reached : List (Option Reach)) (n id : ℕ) (d : Option Reach) → AreReached g reached → n < length g → id ≡ id_at g n
    → level_line limit id (level_of (get_or reached n d)) ≡ level_line limit (id_at g (get_or (numbers g) n 0)) (dist g (get_or (numbers g) n 0))
level-told limit g reached n id d are lt told =
    ap (λ i. level_line limit i (level_of (get_or reached n d))) told
    ∙ (ap (λ r. level_line limit (id_at g n) (level_of r)) (get_or_default reached n d None (omega (arith, are.as_many)))
    ∙ (ap (level_line limit (id_at g n)) (are.levels n lt)
    ∙ ap (λ m. level_line limit (id_at g m) (dist g m)) (sym number)))
  where
    number : get_or (numbers g) n 0 ≡ n
    number = get_or-range_with_len 0 (length g) n 0 lt ∙ (let e : 0 + n ≡ n = omega arith in e)

pub number-within : (g : List Node) (n : ℕ) → n < length g → n < length (numbers g)
number-within g n lt = omega (arith, length-range_with_len 0 (length g))
