-- How the making of an object ends, as the definitions say it.
use Rattle.heap_graph.specs.Allocation as allocation
use Rattle.plain_graph.specs.declared.allocation.Allocated.{Allocated}
use Rattle.plain_graph.specs.declared.allocation.Allocated.TheVariants.{Made, ImageFull, HeapFull}

abbrev pub allocated_of : Allocated → allocation.Allocated
allocated_of (Made g collected) = allocation.Made g collected
allocated_of (ImageFull fill size) = allocation.ImageFull fill size
allocated_of (HeapFull g free needed) = allocation.HeapFull g free needed
