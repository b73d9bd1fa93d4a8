use Rattle.process_steps.proofs.Finds.{fits-found, found-there, held-found, roots-found, stands-found, target-found}
use Rattle.process_steps.proofs.found.objects_are_found.Goals as goal

pub returns : goal.returns
returns c = record {
  roots = λ s m p name k. roots-found s m p k name;
  held = λ s m p name r n k. held-found s m p k name r n;
  targets = λ s m p o at n k. target-found s m p k o at n;
  found = λ s m p n o k. found-there p.graph n o;
  stands = λ s m p o k. stands-found s m p k o;
  fits = λ s m p o at k. fits-found s m p k o at;
}
