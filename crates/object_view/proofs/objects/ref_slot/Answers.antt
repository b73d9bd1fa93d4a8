use Rattle.std.proofs.Common.{rules, ◌≡◌, ◌∙◌, ◌+◌, ◌<◌, ◌^◌, IsTrue, sym, ap, subst}
use Rattle.std.specs.Prelude.{option_map}
use Rattle.page_tables.specs.Address.{page_of}
use Rattle.cow_pages.specs.Memory.{Memory, is_mapped}
use Rattle.cow_pages.specs.View.{u32_at, view_of}
use Rattle.heap_graph.specs.declared.names.Shape.{Shape}
use Rattle.object_view.specs.Objects.{reference_place, slot_at, IsObject}
use Rattle.object_view.proofs.Lookups.{found-slot, slot-is, slot-object, u32-later}
use Rattle.object_view.proofs.Standing.{HasShape-stands}
use Rattle.object_view.proofs.objects.ref_slot.Goals as goal

pub overflow_add-at : goal.overflow_add-at
overflow_add-at c =
    let v = view_of c.args.frames.now c.args.t.0 in
    let object : IsObject c.args.classes.now v c.args.at.0 c.read_shape-shape.result = subst (IsObject c.args.classes.now v c.args.at.0) (sym (c.read_shape-shape.ensures.only c.requires.0 c.requires.1.has_shape)) c.requires.1 in
    let it = found-slot c.args.classes.now v c.args.at.0 c.read_shape-shape.result c.args.k c.in_ok-offset.offset c.in_ok-offset.weak object c.in_ok-offset.ensures in
    let below : c.args.at.0 + c.in_ok-offset.offset < 2 ^ 32 = it.below in
    search rules

pub read_u32-requires-clause-aligned : goal.read_u32-requires-clause-aligned
read_u32-requires-clause-aligned c =
    let v = view_of c.args.frames.now c.args.t.0 in
    let object : IsObject c.args.classes.now v c.args.at.0 c.read_shape-shape.result = subst (IsObject c.args.classes.now v c.args.at.0) (sym (c.read_shape-shape.ensures.only c.requires.0 c.requires.1.has_shape)) c.requires.1 in
    (found-slot c.args.classes.now v c.args.at.0 c.read_shape-shape.result c.args.k c.in_ok-offset.offset c.in_ok-offset.weak object c.in_ok-offset.ensures).multiple

pub read_u32-requires-clause-mapped : goal.read_u32-requires-clause-mapped
read_u32-requires-clause-mapped c =
    let v = view_of c.args.frames.now c.args.t.0 in
    let object : IsObject c.args.classes.now v c.args.at.0 c.read_shape-shape.result = subst (IsObject c.args.classes.now v c.args.at.0) (sym (c.read_shape-shape.ensures.only c.requires.0 c.requires.1.has_shape)) c.requires.1 in
    let it = found-slot c.args.classes.now v c.args.at.0 c.read_shape-shape.result c.args.k c.in_ok-offset.offset c.in_ok-offset.weak object c.in_ok-offset.ensures in
    subst (λ (m : Memory). IsTrue (is_mapped m c.args.t.0 (page_of (c.args.at.0 + c.in_ok-offset.offset)))) (sym c.read_shape-shape.ensures.reads) it.mapped

pub returns-clause-slot : goal.returns-clause-slot
returns-clause-slot c shape has =
    let v = view_of c.args.frames.now c.args.t.0 in
    let object : IsObject c.args.classes.now v c.args.at.0 c.read_shape-shape.result = subst (IsObject c.args.classes.now v c.args.at.0) (sym (c.read_shape-shape.ensures.only c.requires.0 c.requires.1.has_shape)) c.requires.1 in
    let it = found-slot c.args.classes.now v c.args.at.0 c.read_shape-shape.result c.args.k c.in_ok-offset.offset c.in_ok-offset.weak object c.in_ok-offset.ensures in
    let target : c.read_u32.result ≡ u32_at v (c.args.at.0 + c.in_ok-offset.offset) =
    c.read_u32.ensures.value ∙ u32-later c.args.frames.now c.read_shape-shape.new.frames c.args.t.0 _ (c.args.at.0 + c.in_ok-offset.offset) c.read_shape-shape.ensures.reads in
    slot-is v c.args.at.0 c.in_ok-offset.offset c.read_u32.result c.in_ok-offset.weak it.place it.offset_is it.weak_is target
    ∙ ap (option_map (slot_at v c.args.at.0)) (sym it.is)
    ∙ ap (λ (s : Shape). option_map (slot_at v c.args.at.0) (reference_place c.args.classes.now s c.args.k)) (c.read_shape-shape.ensures.only shape has)

pub returns-clause-object : goal.returns-clause-object
returns-clause-object c shape header values place s is value =
    let v = view_of c.args.frames.now c.args.t.0 in
    slot-object c.args.classes.now v c.args.at.0 shape header values c.args.k place _ s is value
    (returns-clause-slot c shape (HasShape-stands c.args.classes.now v c.args.at.0 shape header values s))
