use Rattle.std.proofs.Common.{◌≡◌, ◌∙◌, List, ℕ, ap, sym, subst}
use Rattle.std.specs.Prelude.{OnOk}
use Rattle.std.specs.Option.{is_some}
use Rattle.hprof_convert.proofs.Namings.{name-known, name-new, name-zero}
use Rattle.hprof_convert.proofs.places.Places.add_name.Goals as goal

pub returns-then-id-eq0 : goal.returns-then-id-eq0
returns-then-id-eq0 c = name-zero c.args.self.now c.args.id c.if-id-eq0.true

pub returns-then-is_some : goal.returns-then-is_some
returns-then-is_some c = name-known c.args.self.now c.args.id (sym (c.if-is_some.ensures ∙ ap is_some c.place_of.ensures))

pub returns : goal.returns
returns c =
    subst (λ (l : List ℕ). OnOk c.push.result (c.push.new.self ≡ l))
    (name-new c.args.self.now c.args.id c.if-id-eq0.false (sym (c.if-is_some.ensures ∙ ap is_some c.place_of.ensures))) c.push.ensures
