use Rattle.std.proofs.Common.{◌≡◌, false, subst, sym}
use Rattle.std.specs.List.{list_any}
use Rattle.class_layout.specs.Names.{same_name}
use Rattle.plain_machine.proofs.Worlds.{possible_more}
use Rattle.plain_machine.specs.Worlds.{ArePossible}
use Rattle.plain_machine.proofs.machine.Machine.add.Goals as goal

pub invariant_of-self-2 : goal.invariant_of-self-2
invariant_of-self-2 c =
    let seen : record { processes = c.self.inside.processes.items } ≡ c.args.self.now = c.self.view_is in
    let fresh : list_any (λ q. same_name q.name c.args.child.name) c.self.inside.processes.items ≡ false =
    subst (λ w. list_any (λ q. same_name q.name c.args.child.name) w.processes ≡ false) (sym seen) c.requires.fresh in
    subst ArePossible (sym c.in_ok-push.ensures.items) (possible_more c.self.inside.processes.items c.args.child c.self.invariant fresh c.requires.sound)
