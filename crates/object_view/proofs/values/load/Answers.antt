use Rattle.std.proofs.Common.{◌≡◌, ◌∙◌, ℕ, ◌+◌, true, pos, to_z, of_z, rules, sym, ap, subst}
use Rattle.std.specs.Int.{w64}
use Rattle.std.proofs.lemmas.Int.{to_z-of_z}
use Rattle.class_layout.specs.declared.kind.Kind.{Kind}
use Rattle.class_layout.specs.declared.kind.Kind.TheVariants.{Ref}
use Rattle.cow_pages.specs.View.{u32_at, view_of}
use Rattle.object_view.specs.Values.{is_value, number_at, value_of}
use Rattle.object_view.proofs.Lookups.{address-fits, word-fits}
use Rattle.object_view.proofs.Stores.{loaded}
use Rattle.object_view.proofs.values.load.Goals as goal

pub returns-clause-object : goal.returns-clause-object
returns-clause-object c cs shape header values place s is value =
    to_z-of_z w64 c.load_at.result (search rules) ∙ c.load_at.ensures.value ∙ loaded cs _ c.args.at.0 shape header values c.args.kind c.args.offset place s is value

pub returns-clause-address : goal.returns-clause-address
returns-clause-address c is =
    let v = view_of c.args.frames.now c.args.t.0 in
    let at : ℕ = c.args.at.0 + c.args.offset in
    let small = word-fits c.args.frames.now c.load_at.new.frames c.args.t.0 _ at c.load_at.ensures.reads c.load_at.ensures.sound in
    let e : to_z w64 (of_z w64 c.load_at.result) ≡ pos (u32_at v at) =
    to_z-of_z w64 c.load_at.result (search rules) ∙ c.load_at.ensures.value ∙ ap (λ (k : Kind). value_of k (number_at v k at)) is in
    subst (λ z. is_value Ref z ≡ true) (sym e) (address-fits (u32_at v at) small)
