use Rattle.std.proofs.Common.{◌≡◌, ◌+◌, ◌≤◌, List, length, set, refl, ap, ◌∙◌, arith}
use Rattle.std.proofs.lemmas.List.{length-set, with_items_is}
use Rattle.std.specs.Vec.{with_items}
use Rattle.page_tables.specs.declared.frame.Frame.{Frame}
use Rattle.page_tables.specs.Frame.{frame_bytes, part_of, patched}
use Rattle.page_tables.proofs.PatchLemmas.{length-part, small-part}
use Rattle.cow_pages.specs.Store.{bytes_of}
use Rattle.cow_pages.proofs.MarkLemmas.{put_store}
use Rattle.cow_pages.proofs.store.Store.put_part.Goals as goal

pub returns : goal.returns
returns c =
    let s = c.args.self.now in
    let f = c.args.number in
    let o = c.args.offset in
    let part = part_of (bytes_of s c.args.source) c.args.start c.args.count in
    let fits : c.args.start + c.args.count ≤ length (bytes_of s c.args.source) =
    omega (arith, c.requires.source_room, c.requires.store.room.whole c.args.source c.requires.source_within) in
    let len : length part ≡ c.args.count = length-part (bytes_of s c.args.source) c.args.start c.args.count fits in
    let put : c.copy_part.new.frames ≡ set s.frames.items f (record { bytes = patched (bytes_of s f) o part }) =
    c.copy_part.ensures ∙ ap (λ (fs : List Frame). set fs f (record { bytes = patched (frame_bytes fs f) o (part_of (frame_bytes fs c.args.source) c.args.start c.args.count) })) c.as_mut_slice.ensures.value in
    let count : length c.copy_part.new.frames ≡ length s.frames.items = ap (λ (fs : List Frame). length fs) put ∙ length-set s.frames.items f (record { bytes = patched (bytes_of s f) o part }) in
    let all = put_store s (record s { frames = with_items s.frames c.copy_part.new.frames }) f o part c.requires.store c.requires.within (omega (arith, len, c.requires.room))
    (small-part (bytes_of s c.args.source) c.args.start c.args.count fits (c.requires.store.room.bytes c.args.source c.requires.source_within))
    (with_items_is s.frames c.copy_part.new.frames (omega (arith, count, s.frames.ok)) ∙ put)
    refl in
    record { store = all.0; puts = all.1 }
