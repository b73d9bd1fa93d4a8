use Rattle.std.proofs.Common.{◌<◌, ℕ, List, [], length, set, refl, sym, ap, subst, ◌∙◌, arith}
use Rattle.std.proofs.lemmas.List.{get_or_default}
use Rattle.page_tables.specs.declared.frame.Frame.{Frame}
use Rattle.page_tables.specs.Frame.{patched}
use Rattle.page_tables.proofs.ListLemmas.{field-was}
use Rattle.cow_pages.proofs.MarkLemmas.{put_store}
use Rattle.cow_pages.proofs.store.Store.put.Goals as goal

pub put-requires : goal.put-requires
put-requires c =
    let s = c.args.self.now in
    let read = field-was (λ (it : Frame). it.bytes) s.frames.items c.args.number c.index_mut.result.now [] c.requires.within c.index_mut.ensures.value in
    omega (arith, ap (λ (bs : List ℕ). length bs) read, c.requires.store.room.whole c.args.number c.requires.within, c.requires.room)

pub returns : goal.returns
returns c =
    let s = c.args.self.now in
    let x = c.index_mut.result.now in
    let read = field-was (λ (it : Frame). it.bytes) s.frames.items c.args.number x [] c.requires.within c.index_mut.ensures.value in
    let all = put_store s (record s { frames = Rattle.std.specs.Vec.with_item s.frames c.args.number (record { bytes = c.put.new.bytes }) }) c.args.number c.args.offset c.args.bytes.now c.requires.store c.requires.within c.requires.room
    (λ k d within. subst (λ b. b < 256) (get_or_default c.args.bytes.now k 0 d within) (omega (arith, c.type_inv.bytes k)))
    (ap (λ (bs : List ℕ). set s.frames.items c.args.number (record { bytes = bs })) (c.put.ensures.after ∙ ap (λ (bs : List ℕ). patched bs c.args.offset c.args.bytes.now) (sym read)))
    refl in
    record { store = all.0; puts = all.1 }
