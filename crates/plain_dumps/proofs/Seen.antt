-- What a machine's view shows: the graph of the process, under the machine's table.
use Rattle.std.proofs.Common.{◌≡◌, ℕ, List, Some, sym, ◌∙◌, ap, subst}
use Rattle.heap_graph.specs.Graph.{Graph}
use Rattle.heap_graph.specs.Table.{Fits}
use Rattle.heap_graph.specs.Formed.{IsFormed}
use Rattle.heap_world.specs.World.{World}
use Rattle.heap_world.specs.Counts.{graph_of}
use Rattle.plain_view.specs.Viewed.{first_table}
use Rattle.plain_view.proofs.Shown.{first-fits}
use Rattle.plain_dumps.specs.Addresses.{addresses, table_in}

-- the table of a live process is its graph's first one
addresses-of : (m : World) (name : List ℕ) (g : Graph) → graph_of m name ≡ Some g → addresses m name ≡ first_table g
unfolding addresses
addresses-of m name g h = ap table_in h

-- the graph that a machine gives, in a world that it stands for
module _ (m : World) (name : List ℕ) (own : Graph) (is : Some own ≡ graph_of m name) (w : World) (meant : Some own ≡ graph_of w name) (g : Graph) (h : graph_of w name ≡ Some g) where
  same : own ≡ g
  same = cc (meant, h)

  at : addresses m name ≡ first_table g
  at = addresses-of m name own (sym is) ∙ ap first_table same

  -- what holds of what is seen holds of the process's graph under the machine's table
  pub shown : (P : Graph → (ℕ → ℕ) → Type 0) (seen : Graph) → seen ≡ own → P seen (first_table seen) → P g (addresses m name)
  shown P seen e p = subst (P g) (sym at) (subst (λ x. P x (first_table x)) (e ∙ same) p)

  -- the machine's table fits
  pub fits : IsFormed own → Fits (addresses m name) g
  fits formed = subst (λ t. Fits t g) (sym at) (subst (λ x. Fits (first_table x) x) same (first-fits own formed))
