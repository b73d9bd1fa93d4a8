use Rattle.std.proofs.Common.{◌≡◌, ◌∙◌, ◌+◌, ℕ, IsTrue, sym, ap, subst, rules, arith, pos}
use Rattle.class_layout.specs.declared.kind.Kind.TheVariants.{Ref}
use Rattle.page_tables.specs.Address.{page_of}
use Rattle.cow_pages.specs.Memory.{is_mapped, Memory}
use Rattle.cow_pages.specs.View.{view_of}
use Rattle.object_view.specs.Changes.{PutsNumber}
use Rattle.object_view.specs.Values.{number_of}
use Rattle.raw_objects.specs.Raws.{HoldsRaws}
use Rattle.raw_objects.specs.References.{goes, turned_where}
use Rattle.raw_objects.proofs.Kept.{keeps-put, keeps-same, keeps-then}
use Rattle.raw_objects.proofs.Turned.{one-turned, same-target}
use Rattle.raw_objects.proofs.moves.turn_slot.Goals as goal

-- what was mapped is mapped where nothing changed
still-mapped : (old new : Memory) (t at : ℕ) → new ≡ old → IsTrue (is_mapped old t (page_of at)) → IsTrue (is_mapped new t (page_of (at + 0)))
still-mapped old new t at same is = let e : at + 0 ≡ at = omega arith in subst (λ m. IsTrue (is_mapped m t (page_of (at + 0)))) (sym same) (subst (λ a. IsTrue (is_mapped old t (page_of a))) (sym e) is)

pub returns-in_ok-store-clause-held : goal.returns-in_ok-store-clause-held
returns-in_ok-store-clause-held c cs raws done h it =
    let t = c.args.t.0 in
    let to : c.goes_to-to.result.0 ≡ goes raws c.args.target.0 = c.goes_to-to.ensures.goes cs (turned_where raws done) h it.stands in
    let puts : PutsNumber (view_of c.goes_to-to.new.frames t) (view_of c.store.new.frames t) Ref (c.args.at.0 + 0) (number_of Ref (pos c.goes_to-to.result.0)) = search rules in
    let at : c.args.at.0 + 0 ≡ c.args.at.0 = omega arith in
    let mid = subst (λ (m : Memory). HoldsRaws cs (view_of m t) (turned_where raws done)) (sym c.goes_to-to.ensures.same) h in
    one-turned cs (view_of c.goes_to-to.new.frames t) raws done c.args.at.0 c.args.target.0 mid it (view_of c.store.new.frames t)
    (subst (λ n. PutsNumber (view_of c.goes_to-to.new.frames t) (view_of c.store.new.frames t) Ref c.args.at.0 (number_of Ref (pos n))) to
    (subst (λ a. PutsNumber (view_of c.goes_to-to.new.frames t) (view_of c.store.new.frames t) Ref a (number_of Ref (pos c.goes_to-to.result.0))) at puts))

pub returns-else-ne-clause-held : goal.returns-else-ne-clause-held
returns-else-ne-clause-held c cs raws done h it =
    let to : c.goes_to-to.result.0 ≡ goes raws c.args.target.0 = c.goes_to-to.ensures.goes cs (turned_where raws done) h it.stands in
    let same : c.goes_to-to.result.0 ≡ c.args.target.0 = search rules in
    let mid = subst (λ (m : Memory). HoldsRaws cs (view_of m c.args.t.0) (turned_where raws done)) (sym c.goes_to-to.ensures.same) h in
    same-target cs (view_of c.goes_to-to.new.frames c.args.t.0) raws done c.args.at.0 c.args.target.0 mid it (sym to ∙ same)

pub returns-in_ok-store-clause-keeps : goal.returns-in_ok-store-clause-keeps
returns-in_ok-store-clause-keeps c may here =
    keeps-then c.args.frames.now c.goes_to-to.new.frames c.store.new.frames c.args.t.0 may (keeps-same c.args.frames.now c.goes_to-to.new.frames c.args.t.0 may c.goes_to-to.ensures.same)
    (keeps-put c.store.result c.goes_to-to.new.frames c.store.new.frames c.args.t.0 _ _ _ _ may c.store.ensures.pages c.store.ensures.sound (still-mapped c.args.frames.now c.goes_to-to.new.frames c.args.t.0 c.args.at.0 c.goes_to-to.ensures.same c.requires.mapped) c.store.ensures.number c.store.ensures.written c.store.ensures.err
    (let e : c.args.at.0 + 0 ≡ c.args.at.0 = omega arith in ap (λ b. may (page_of b)) e ∙ here))

pub returns-in_err-store-clause-keeps : goal.returns-in_err-store-clause-keeps
returns-in_err-store-clause-keeps c may here =
    keeps-then c.args.frames.now c.goes_to-to.new.frames c.store.new.frames c.args.t.0 may (keeps-same c.args.frames.now c.goes_to-to.new.frames c.args.t.0 may c.goes_to-to.ensures.same)
    (keeps-put c.store.result c.goes_to-to.new.frames c.store.new.frames c.args.t.0 _ _ _ _ may c.store.ensures.pages c.store.ensures.sound (still-mapped c.args.frames.now c.goes_to-to.new.frames c.args.t.0 c.args.at.0 c.goes_to-to.ensures.same c.requires.mapped) c.store.ensures.number c.store.ensures.written c.store.ensures.err
    (let e : c.args.at.0 + 0 ≡ c.args.at.0 = omega arith in ap (λ b. may (page_of b)) e ∙ here))

pub returns-else-ne-clause-keeps : goal.returns-else-ne-clause-keeps
returns-else-ne-clause-keeps c may here = keeps-same c.args.frames.now c.goes_to-to.new.frames c.args.t.0 may c.goes_to-to.ensures.same
