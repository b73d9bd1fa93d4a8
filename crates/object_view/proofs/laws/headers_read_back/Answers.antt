use Rattle.object_view.proofs.Standing.{HasHeader-stands, HasShape-stands}
use Rattle.object_view.proofs.laws.headers_read_back.Goals as goal

pub returns-clause-shape : goal.returns-clause-shape
returns-clause-shape c = HasShape-stands

pub returns-clause-header : goal.returns-clause-header
returns-clause-header c = HasHeader-stands
