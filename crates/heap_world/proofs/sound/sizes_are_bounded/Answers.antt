use Rattle.heap_world.proofs.Bounds.{young-le, few-objects, bytes-le, promoted-le, touched-le}
use Rattle.heap_world.proofs.sound.sizes_are_bounded.Goals as goal

pub returns-clause-young : goal.returns-clause-young
returns-clause-young c = young-le

pub returns-clause-objects : goal.returns-clause-objects
returns-clause-objects c = few-objects

pub returns-clause-bytes : goal.returns-clause-bytes
returns-clause-bytes c g formed = bytes-le g.classes g.objects formed.objects

pub returns-clause-promoted : goal.returns-clause-promoted
returns-clause-promoted c = promoted-le

pub returns-clause-touched : goal.returns-clause-touched
returns-clause-touched c = touched-le
