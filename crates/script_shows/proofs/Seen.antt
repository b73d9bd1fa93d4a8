-- A formed graph under a table that fits is what a dump sees of a heap.
use Rattle.std.proofs.Common.{ℕ, refl}
use Rattle.heap_graph.specs.Graph.{Graph}
use Rattle.heap_graph.specs.Table.{Fits}
use Rattle.heap_graph.specs.Formed.{IsFormed}
use Rattle.object_view.specs.Seen.{IsShown}
use Rattle.plain_view.specs.Viewed.{first_table}
use Rattle.plain_view.proofs.Shown.{shown}
use Rattle.plain_view.proofs.Values.{value-fits}
use Rattle.dump_shows.specs.Shows.{IsSeen}
use Rattle.script_shows.proofs.NotNull.{not-null}

pub seen : (g : Graph) (table : ℕ → ℕ) → IsFormed g → Fits table g → IsSeen g table
seen g table formed fits =
    let first : IsShown g (first_table g) = shown g formed in
    record {
      shown = record {
        rising = first.rising;
        known = first.known;
        small = first.small;
        not_null = not-null g table formed fits;
        fits = fits;
      };
      classes = formed.classes;
      values = λ o p there here.
          value-fits g table (table o.number) p.kind p.offset o p formed fits.below
          (record { is_in = there; at_is = refl; is_place = record { is_in = here; kind_is = refl; offset_is = refl } });
    }
