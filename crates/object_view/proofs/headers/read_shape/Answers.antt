use Rattle.std.proofs.Common.{◌≡◌, ◌∙◌, ◌+◌, sym}
use Rattle.cow_pages.specs.View.{u32_at, view_of}
use Rattle.object_view.specs.Words.{array_word}
use Rattle.object_view.proofs.Lookups.{array-only, u32-later, HasShape-array}
use Rattle.object_view.proofs.headers.read_shape.Goals as goal

pub returns-in-Some-clause-shape : goal.returns-in-Some-clause-shape
returns-in-Some-clause-shape c =
    let v = view_of c.args.frames.now c.args.t.0 in
    let word : u32_at v c.args.at.0 ≡ array_word c.in-Some.kind = sym c.read_u32-word.ensures.value ∙ c.in-Some.ensures in
    let count : u32_at v (c.args.at.0 + 8) ≡ c.read_u32-count.result = sym (c.read_u32-count.ensures.value ∙ u32-later c.args.frames.now c.read_u32-word.new.self c.args.t.0 _ (c.args.at.0 + 8) c.read_u32-word.ensures.counts) in
    HasShape-array v c.args.at.0 c.requires.0 c.in-Some.kind c.read_u32-count.result c.requires.1 word count

pub returns-in-Some-clause-only : goal.returns-in-Some-clause-only
returns-in-Some-clause-only c shape has =
    let v = view_of c.args.frames.now c.args.t.0 in
    let word : u32_at v c.args.at.0 ≡ array_word c.in-Some.kind = sym c.read_u32-word.ensures.value ∙ c.in-Some.ensures in
    let count : u32_at v (c.args.at.0 + 8) ≡ c.read_u32-count.result = sym (c.read_u32-count.ensures.value ∙ u32-later c.args.frames.now c.read_u32-word.new.self c.args.t.0 _ (c.args.at.0 + 8) c.read_u32-word.ensures.counts) in
    array-only v c.args.at.0 shape c.in-Some.kind c.read_u32-count.result has word count
