use Rattle.std.proofs.Common.{sym, ◌∙◌, ◌≡◌, ap, subst, arith, get_or, refl}
use Rattle.std.specs.Int.{w16, from_le_bytes}
use Rattle.cow_pages.specs.declared.store.Store.{Store}
use Rattle.cow_pages.specs.View.{u16_at}
use Rattle.cow_pages.specs.Store.{shown, IsStore}
use Rattle.cow_pages.proofs.SoundLemmas.{sound}
use Rattle.cow_pages.proofs.ReadLemmas.{counted_read, read_within, two-frame, two, small_two, small_bytes}
use Rattle.std.proofs.lemmas.Nat.{le_bytes_2}
use Rattle.cow_pages.proofs.frames.Frames.read_u16.Goals as goal

pub index-requires : goal.index-requires
index-requires c =
    rw c.read-number.ensures.store (omega (arith, c.self.inside.store.frames.ok, read_within c.self.inside.store c.self.invariant c.args.t.0 _ _ c.read-number.ensures.number))

pub returns : goal.returns
unfolding u16_at
returns c =
    let s = c.self.inside.store in
    let f = c.read-number.result in
    let x = c.index.result.now in
    let read : x ≡ get_or s.frames.items f x = c.index.ensures ∙ ap (λ (st : Store). get_or st.frames.items f x) c.read-number.ensures.store in
    let small = small_two x.bytes c.offset.result (small_bytes s c.self.invariant c.args.t.0 _ f x c.read-number.ensures.number read) in
    record {
      value = rw (← c.self.view_is)
          (c.u16_in.ensures ∙ ap (from_le_bytes w16) (two-frame s c.self.invariant c.args.t.0 c.args.at.0 f c.offset.result x c.requires.aligned c.read-number.ensures.number read c.offset.ensures));
      bytes = rw (← c.self.view_is)
          (le_bytes_2 (two x.bytes c.offset.result) c.u16_in.result refl small c.u16_in.ensures
          ∙ two-frame s c.self.invariant c.args.t.0 c.args.at.0 f c.offset.result x c.requires.aligned c.read-number.ensures.number read c.offset.ensures);
      counts = rw (← c.self.view_is) (ap shown c.read-number.ensures.store);
      sound = sound _ (subst IsStore (sym c.read-number.ensures.store) (counted_read c.self.inside.store c.args.at.0 c.self.invariant));
    }

pub invariant_of-self : goal.invariant_of-self
invariant_of-self c = subst IsStore (sym c.read-number.ensures.store) (counted_read c.self.inside.store c.args.at.0 c.self.invariant)
