use Rattle.process_state.proofs.Updated.{image-updated, zygote-updated}
use Rattle.process_state.proofs.slots.updated_processes_stand.Goals as goal

pub returns-clause-image : goal.returns-clause-image
returns-clause-image c = λ s m p notes found stands sealed are start span same. image-updated s m p stands sealed notes found same are start span

pub returns-clause-zygote : goal.returns-clause-zygote
returns-clause-zygote c = λ s m p notes found stands sealed are start span same. zygote-updated s m p stands sealed notes found same are start span
