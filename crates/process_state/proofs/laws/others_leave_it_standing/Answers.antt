use Rattle.process_state.proofs.Same.{stands-acted, stands-ended, stands-joined, stands-same}
use Rattle.process_state.proofs.laws.others_leave_it_standing.Goals as goal

pub returns : goal.returns
returns c = record {
  same = λ s p old new h same. stands-same s p old new h same;
  acted = λ s p old new t h apart only. stands-acted s p old new t h apart only;
  ended = λ s p old new t h apart changes none. stands-ended s p old new t h apart changes none;
  joined = λ s p old new t u h apart beside changes copied. stands-joined s p old new t h apart u beside changes copied;
}
