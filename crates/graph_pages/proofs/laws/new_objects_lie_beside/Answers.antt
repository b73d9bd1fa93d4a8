use Rattle.graph_pages.proofs.Grown.{grown-same, new-beside}
use Rattle.graph_pages.proofs.laws.new_objects_lie_beside.Goals as goal

pub returns : goal.returns
returns c homes g shape slots place formed after house = new-beside homes g shape slots place formed after house (grown-same homes g shape slots place formed)
