use Rattle.std.proofs.Common.{sym, ◌∙◌, ap}
use Rattle.std.specs.Prelude.{option_map}
use Rattle.cow_pages.specs.Memory.{flag_of}
use Rattle.cow_pages.specs.Store.{page_of_entry}
use Rattle.cow_pages.proofs.ShownLemmas.{page_at-shown}
use Rattle.cow_pages.proofs.frames.Frames.written.Goals as goal

pub returns-in-Some : goal.returns-in-Some
returns-in-Some c =
    let s = c.self.inside.store in
    rw (← c.self.view_is) (sym (ap flag_of (page_at-shown s c.self.invariant.kept c.args.t.0 c.args.page.0 ∙ ap (option_map (page_of_entry s)) (sym c.entry.ensures ∙ c.in-Some.is))))

pub returns-in-None : goal.returns-in-None
returns-in-None c =
    let s = c.self.inside.store in
    rw (← c.self.view_is) (sym (ap flag_of (page_at-shown s c.self.invariant.kept c.args.t.0 c.args.page.0 ∙ ap (option_map (page_of_entry s)) (sym c.entry.ensures ∙ c.in-None.is))))
