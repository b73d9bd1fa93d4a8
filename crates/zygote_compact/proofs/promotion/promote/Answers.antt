use Rattle.std.proofs.Common.{◌≡◌, ◌∙◌, true, subst, inl, inr}
use Rattle.std.specs.Prelude.{Err, OnOk}
use Rattle.std.proofs.lemmas.Result.{IfErr-weaker, IfOk-weaker, on_err_weaker, on_ok_weaker}
use Rattle.object_view.proofs.Outcomes.{on_ok_both}
use Rattle.heap_graph.specs.Fork.{has_zygote_room, promotion_bytes, promotion_start}
use Rattle.heap_graph.specs.Graph.{Graph}
use Rattle.image_space.specs.Space.{pages_up_to, KeepsPages}
use Rattle.object_view.specs.Seen.{RoseBy}
use Rattle.object_collection.specs.Collects.{state_of}
use Rattle.object_promotion.specs.declared.promotion.PromoteError.TheVariants.{Full}
use Rattle.object_promotion.specs.Promotes.{LeavesPages}
use Rattle.zygote_space.specs.Space.{to_page}
use Rattle.evacuate.specs.Stands.{homes_in, raws_of, KeepsGraph}
use Rattle.evacuate.proofs.Can.{are-young}
use Rattle.zygote_compact.specs.Spots.{HasSpots}
use Rattle.zygote_compact.proofs.Can.{bytes-are, can-promote, no-room, on_ok_three, pages-are, reads-are, rooms, start-is, too-much}
use Rattle.zygote_compact.proofs.Kept.{graph-kept, heap-left}
use Rattle.zygote_compact.proofs.Moved.{spots-left}
use Rattle.zygote_compact.proofs.promotion.promote.Goals as goal

pub promote_objects-requires : goal.promote_objects-requires
promote_objects-requires c = (raws_of (homes_in c.args.regions.now.in_use c.args.larges.now) c.requires.0, can-promote _ _ _ _ _ c.requires.2 c.requires.1)

pub returns-clause-full : goal.returns-clause-full
returns-clause-full c g k s off =
    let it = c.promote_objects.ensures.full _ _ (can-promote _ _ _ g _ s k) (are-young _ _ _ g k.heap) (too-much _ _ _ g _ s k.heap off) in (
      subst (λ n. c.promote_objects.result ≡ Err (Full n (promotion_bytes g))) (start-is g _ s)
          (subst (λ n. c.promote_objects.result ≡ Err (Full (to_page c.args.zygote.now.fill) n)) (bytes-are _ _ _ g _ s k.heap) it.0),
      it.1,
    )

-- a call that succeeded had room
had-room : (c : goal.After-roots-1) → OnOk c.promote_objects.result ((g : Graph) → KeepsGraph (state_of c.args.classes.now c.args.regions.now c.args.larges.now c.args.roots.now c.args.slots.now) c.args.frames.now c.args.t.0 g × HasSpots c.args.zygote.now g → has_zygote_room g ≡ true)
had-room c =
    rooms c.promote_objects.result (λ g. KeepsGraph (state_of c.args.classes.now c.args.regions.now c.args.larges.now c.args.roots.now c.args.slots.now) c.args.frames.now c.args.t.0 g × HasSpots c.args.zygote.now g)
    (λ g. Full (promotion_start g) (promotion_bytes g)) (c.promote_objects.new.frames ≡ c.args.frames.now) (λ g it off. returns-clause-full c g it.0 it.1 off)

pub returns-clause-held : goal.returns-clause-held
returns-clause-held c =
    on_ok_three c.promote_objects.result (λ promoted pages room g further k s.
    heap-left _ _ _ _ g _ _ _ _ _ k.heap s (room g (k, s)) (promoted _ (can-promote _ _ _ g _ s k))
    (pages-are _ _ _ g _ s k.heap _ (pages _ _ (can-promote _ _ _ g _ s k) (are-young _ _ _ g k.heap))) further)
    c.promote_objects.ensures.promoted c.promote_objects.ensures.pages (had-room c)

pub returns-clause-kept : goal.returns-clause-kept
returns-clause-kept c =
    on_ok_three c.promote_objects.result (λ promoted pages room g k s.
    graph-kept _ _ _ _ g _ _ _ _ _ k.heap s (room g (k, s)) (promoted _ (can-promote _ _ _ g _ s k))
    (pages-are _ _ _ g _ s k.heap _ (pages _ _ (can-promote _ _ _ g _ s k) (are-young _ _ _ g k.heap))) k.is_sealed)
    c.promote_objects.ensures.promoted c.promote_objects.ensures.pages (had-room c)

pub returns-clause-spots : goal.returns-clause-spots
returns-clause-spots c =
    on_ok_both c.promote_objects.result (λ promoted room g k s. spots-left _ _ _ _ g _ _ _ _ _ k.heap s (room g (k, s)) (promoted _ (can-promote _ _ _ g _ s k)))
    c.promote_objects.ensures.promoted (had-room c)

pub returns-clause-rows : goal.returns-clause-rows
returns-clause-rows c = on_ok_weaker c.promote_objects.result (λ promoted. (promoted _ (can-promote _ _ _ c.requires.0 _ c.requires.2 c.requires.1)).rows_promoted) c.promote_objects.ensures.promoted

pub returns-clause-count : goal.returns-clause-count
returns-clause-count c = IfOk-weaker c.promote_objects.result _ _ (λ n is g k s. is ∙ k.heap.stands.objects) c.promote_objects.ensures.count

pub returns-clause-pages : goal.returns-clause-pages
returns-clause-pages c =
    on_ok_weaker c.promote_objects.result (λ pages g k s.
    subst (λ fill. LeavesPages (state_of c.args.classes.now c.args.regions.now c.args.larges.now c.args.roots.now c.args.slots.now) c.args.frames.now c.promote_objects.new.frames c.args.t.0 fill (promotion_bytes g)) s.fill
    (pages-are _ _ _ g _ s k.heap _ (pages _ _ (can-promote _ _ _ g _ s k) (are-young _ _ _ g k.heap)))) c.promote_objects.ensures.pages

pub returns-clause-reads : goal.returns-clause-reads
returns-clause-reads c =
    on_ok_weaker c.promote_objects.result (λ reads g k s.
    subst (λ n. RoseBy n c.args.frames.now.reads c.promote_objects.new.frames.reads) (reads-are _ _ _ g _ s k.heap)
    (reads _ _ (can-promote _ _ _ g _ s k) (are-young _ _ _ g k.heap))) c.promote_objects.ensures.reads

pub returns-clause-err : goal.returns-clause-err
returns-clause-err c g k s =
    IfErr-weaker c.promote_objects.result _ _ (λ e why. elim why [ inl much ↦ inl (no-room _ _ _ g _ s k.heap much) | inr memory ↦ inr memory ])
    (c.promote_objects.ensures.err _ _ (can-promote _ _ _ g _ s k) (are-young _ _ _ g k.heap))

pub returns-clause-same_pages : goal.returns-clause-same_pages
returns-clause-same_pages c =
    on_err_weaker c.promote_objects.result (λ same g k s.
    subst (λ n. KeepsPages c.args.frames.now c.promote_objects.new.frames (pages_up_to n)) (bytes-are _ _ _ g _ s k.heap)
    (same _ _ (can-promote _ _ _ g _ s k) (are-young _ _ _ g k.heap))) c.promote_objects.ensures.same_pages
