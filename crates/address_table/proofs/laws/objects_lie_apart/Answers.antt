use Rattle.address_table.proofs.Beside.{computed-apart}
use Rattle.address_table.proofs.laws.objects_lie_apart.Goals as goal

pub returns : goal.returns
returns c = computed-apart
