use Rattle.std.proofs.Common.{sym, ◌∙◌, ap}
use Rattle.std.specs.Prelude.{option_map}
use Rattle.page_tables.specs.declared.leaf.Entry.{Entry}
use Rattle.cow_pages.proofs.ShownLemmas.{frame-shown}
use Rattle.cow_pages.proofs.SoundLemmas.{sound}
use Rattle.cow_pages.proofs.frames.Frames.frame_of.Goals as goal

pub returns-in-Some-clause-value : goal.returns-in-Some-clause-value
returns-in-Some-clause-value c =
    rw (← c.self.view_is) (sym (frame-shown c.self.inside.store c.self.invariant.kept c.args.t.0 c.args.page.0 ∙ ap (option_map (λ (it : Entry). it.frame)) (sym c.entry.ensures ∙ c.in-Some.is)))

pub returns-in-Some-clause-sound : goal.returns-in-Some-clause-sound
returns-in-Some-clause-sound c = rw (← c.self.view_is) (sound c.self.inside.store c.self.invariant)

pub returns-in-None-clause-value : goal.returns-in-None-clause-value
returns-in-None-clause-value c =
    rw (← c.self.view_is) (sym (frame-shown c.self.inside.store c.self.invariant.kept c.args.t.0 c.args.page.0 ∙ ap (option_map (λ (it : Entry). it.frame)) (sym c.entry.ensures ∙ c.in-None.is)))

pub returns-in-None-clause-sound : goal.returns-in-None-clause-sound
returns-in-None-clause-sound c = rw (← c.self.view_is) (sound c.self.inside.store c.self.invariant)
