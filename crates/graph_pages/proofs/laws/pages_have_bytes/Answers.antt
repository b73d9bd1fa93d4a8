use Rattle.graph_pages.proofs.Paged.{bytes-in}
use Rattle.graph_pages.proofs.laws.pages_have_bytes.Goals as goal

pub returns : goal.returns
returns c = bytes-in
