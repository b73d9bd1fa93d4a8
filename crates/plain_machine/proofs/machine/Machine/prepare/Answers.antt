use Rattle.std.proofs.Common.{◌≡◌, ◌∙◌, [], ◌∷◌, ap, refl, subst, sym}
use Rattle.plain_machine.specs.Worlds.{ArePossible, first_process}
use Rattle.plain_machine.proofs.machine.Machine.prepare.Goals as goal

pub invariant_of-self : goal.invariant_of-self
invariant_of-self c =
    let is : c.in_ok-self-inside.field-0.items ≡ first_process c.args.regions c.args.number ∷ [] =
    c.in_ok-self-inside.ensures ∙ ap (λ q. q ∷ []) c.in_ok-zygote.ensures in
    let sound = c.parts_are_sound.ensures.first c.args.regions c.args.number c.requires.few_regions.0 c.requires.few_regions.1 c.requires.numbered.1 in
    subst ArePossible (sym is) (record { apart = (refl, tt); sound = (sound, tt) })
