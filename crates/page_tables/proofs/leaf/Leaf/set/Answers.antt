use Rattle.std.proofs.Common.{◌≡◌, None, get_or, set, ap, ◌∙◌, arith}
use Rattle.page_tables.specs.Leaf.{Leaf, one_mapped, present}
use Rattle.page_tables.specs.Slots.{entries_of, entry_of, frame_code}
use Rattle.page_tables.proofs.LeafLemmas.{present-set, present-le, one_mapped-le}
use Rattle.page_tables.proofs.SlotsLemmas.{entries-set, entry_of-code}
use Rattle.page_tables.proofs.leaf.Leaf.set.Goals as goal

pub overflow_sub-self : goal.overflow_sub-self
overflow_sub-self c =
    let es = c.args.self.now.entries in
    let gone : c.count_of-gone.result ≡ one_mapped (get_or es c.args.slot None) = c.count_of-gone.ensures ∙ ap one_mapped c.entry.ensures in
    let mapped : c.self.inside.mapped ≡ present es = ap (λ (l : Leaf). l.mapped) c.self.view_is ∙ c.requires.mapped in
    omega (arith, gone, mapped, present-set es c.args.slot None (omega (arith, c.requires.len, c.requires.within)))

pub overflow_add-self : goal.overflow_add-self
overflow_add-self c =
    let es = c.args.self.now.entries in
    let mapped : c.self.inside.mapped ≡ present es = ap (λ (l : Leaf). l.mapped) c.self.view_is ∙ c.requires.mapped in
    omega (arith, c.count_of.ensures, one_mapped-le c.args.entry, mapped, present-le es, c.requires.len)

pub returns : goal.returns
returns c =
    let es = c.args.self.now.entries in
    let fs = c.self.inside.frames in
    let ws = c.self.inside.written in
    let i = c.args.slot in
    let o = c.args.entry in
    let f = c.frame_code.result in
    let w = c.flag_code.result in
    let gone : c.count_of-gone.result ≡ one_mapped (get_or es i None) = c.count_of-gone.ensures ∙ ap one_mapped c.entry.ensures in
    let mapped : c.self.inside.mapped ≡ present es = ap (λ (l : Leaf). l.mapped) c.self.view_is ∙ c.requires.mapped in
    let put : entries_of (set fs i f) (set ws i w) ≡ set es i o =
    entries-set fs ws i f w (omega (arith, c.self.invariant.frame_len, c.self.invariant.flag_len))
    ∙ ap (λ (l : Leaf). set l.entries i (entry_of f w)) c.self.view_is
    ∙ ap (λ n. set es i (entry_of n w)) c.frame_code.ensures
    ∙ ap (λ b. set es i (entry_of (frame_code o) b)) c.flag_code.ensures
    ∙ ap (set es i) (entry_of-code o c.requires.fits) in
    record {
      entries = put;
      mapped = omega (
        arith,
        gone,
        c.count_of.ensures,
        mapped,
        present-set es i o (omega (arith, c.requires.len, c.requires.within)),
        present-set es i None (omega (arith, c.requires.len, c.requires.within)),
        ap present put,
      );
    }
