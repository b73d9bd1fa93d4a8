use Rattle.object_view.proofs.Bytes.{bytes-below, bytes-same}
use Rattle.object_view.proofs.laws.objects_are_their_bytes.Goals as goal

pub returns-clause-bytes : goal.returns-clause-bytes
returns-clause-bytes c = bytes-same

pub returns-clause-small : goal.returns-clause-small
returns-clause-small c = bytes-below
