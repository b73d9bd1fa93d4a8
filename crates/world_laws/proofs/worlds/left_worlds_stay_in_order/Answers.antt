use Rattle.world_laws.proofs.Left.{left_alone, left_in_order}
use Rattle.world_laws.proofs.worlds.left_worlds_stay_in_order.Goals as goal

pub returns-clause-alone : goal.returns-clause-alone
returns-clause-alone c = λ w left n command sound h. left_alone w n command sound left h

pub returns-clause-order : goal.returns-clause-order
returns-clause-order c = λ w left n command few order h. left_in_order w n command few order left h
