use Rattle.std.proofs.Common.{◌∙◌, ℕ, true, List, refl, sym, ap, subst}
use Rattle.class_layout.specs.ClassList.{Class}
use Rattle.cow_pages.specs.Memory.{Memory}
use Rattle.cow_pages.specs.View.{view_of}
use Rattle.object_view.specs.Seen.{RoseBy}
use Rattle.raw_objects.specs.Raws.{HoldsRaws, Raws}
use Rattle.raw_objects.specs.References.{turned_where}
use Rattle.raw_objects.proofs.Kept.{keeps-same, keeps-then}
use Rattle.object_moves.specs.Turns.{reads_to_turn}
use Rattle.object_collection.specs.Phases.{is_turned, none_turned, objects_turned, young_turned}
use Rattle.object_collection.proofs.Turnings.{none-first, objects-alone, slots-alone}
use Rattle.object_collection.proofs.phases.turn_references.Goals as goal

pub turn_all-requires-2 : goal.turn_all-requires-2
turn_all-requires-2 c =
    let raws : Raws = c.requires.0 in
    let ok = c.requires.1 in
    let cs : List Class = c.args.classes.now in
    let young = c.args.young.now in
    let first = none-first cs c.args.frames.now c.args.t.0 raws ok.holds in
    let keeps = c.turn_all.ensures.keeps raws none_turned (λ (p : ℕ). true) first ok.young (λ i below p low high. refl) in
    (raws, young_turned cs raws young, c.turn_all.ensures.held raws none_turned first ok.young, ok.large, objects-alone cs _ _ c.args.t.0 raws (λ (p : ℕ). true) c.args.large.now ok.holds ok.large.has keeps ok.large_alone)

pub turn_slots-requires : goal.turn_slots-requires
turn_slots-requires c =
    let raws : Raws = c.requires.0 in
    let ok = c.requires.1 in
    let cs : List Class = c.args.classes.now in
    let young = c.args.young.now in
    let first = none-first cs c.args.frames.now c.args.t.0 raws ok.holds in
    let keeps = c.turn_all.ensures.keeps raws none_turned (λ (p : ℕ). true) first ok.young (λ i below p low high. refl) in
    let second = c.turn_all.ensures.held raws none_turned first ok.young in
    let again = c.turn_all-2.ensures.keeps raws (young_turned cs raws young) (λ (p : ℕ). true) second ok.large (λ i below p low high. refl) in (
      cs,
      raws,
      objects_turned cs raws young c.args.large.now,
      c.turn_all-2.ensures.held raws (young_turned cs raws young) second ok.large,
      slots-alone cs _ _ c.args.t.0 raws (λ (p : ℕ). true) c.args.slots.now ok.holds (keeps-then _ _ _ _ _ keeps again) ok.slots,
    )

pub turn_roots-requires : goal.turn_roots-requires
turn_roots-requires c =
    let raws : Raws = c.requires.0 in
    let ok = c.requires.1 in
    let cs : List Class = c.args.classes.now in
    let young = c.args.young.now in
    let first = none-first cs c.args.frames.now c.args.t.0 raws ok.holds in
    let keeps = c.turn_all.ensures.keeps raws none_turned (λ (p : ℕ). true) first ok.young (λ i below p low high. refl) in
    let second = c.turn_all.ensures.held raws none_turned first ok.young in
    let again = c.turn_all-2.ensures.keeps raws (young_turned cs raws young) (λ (p : ℕ). true) second ok.large (λ i below p low high. refl) in
    let third = c.turn_all-2.ensures.held raws (young_turned cs raws young) second ok.large in
    let slots = slots-alone cs _ _ c.args.t.0 raws (λ (p : ℕ). true) c.args.slots.now ok.holds (keeps-then _ _ _ _ _ keeps again) ok.slots in (
      cs,
      turned_where raws (is_turned cs raws (record { young = young; large = c.args.large.now; slots = c.args.slots.now })),
      c.turn_slots.ensures.held cs raws (objects_turned cs raws young c.args.large.now) third slots,
      ok.targets,
    )

pub returns-clause-held : goal.returns-clause-held
returns-clause-held c raws ok =
    let cs : List Class = c.args.classes.now in
    let young = c.args.young.now in
    let first = none-first cs c.args.frames.now c.args.t.0 raws ok.holds in
    let keeps = c.turn_all.ensures.keeps raws none_turned (λ (p : ℕ). true) first ok.young (λ i below p low high. refl) in
    let second = c.turn_all.ensures.held raws none_turned first ok.young in
    let again = c.turn_all-2.ensures.keeps raws (young_turned cs raws young) (λ (p : ℕ). true) second ok.large (λ i below p low high. refl) in
    let third = c.turn_all-2.ensures.held raws (young_turned cs raws young) second ok.large in
    let slots = slots-alone cs _ _ c.args.t.0 raws (λ (p : ℕ). true) c.args.slots.now ok.holds (keeps-then _ _ _ _ _ keeps again) ok.slots in
    let last = c.turn_slots.ensures.held cs raws (objects_turned cs raws young c.args.large.now) third slots in
    subst (λ (m : Memory). HoldsRaws cs (view_of m c.args.t.0) (turned_where raws (is_turned cs raws (record { young = young; large = c.args.large.now; slots = c.args.slots.now })))) (sym c.turn_roots.ensures.same) last

pub returns-clause-roots : goal.returns-clause-roots
returns-clause-roots c raws ok =
    let cs : List Class = c.args.classes.now in
    let young = c.args.young.now in
    let first = none-first cs c.args.frames.now c.args.t.0 raws ok.holds in
    let keeps = c.turn_all.ensures.keeps raws none_turned (λ (p : ℕ). true) first ok.young (λ i below p low high. refl) in
    let second = c.turn_all.ensures.held raws none_turned first ok.young in
    let again = c.turn_all-2.ensures.keeps raws (young_turned cs raws young) (λ (p : ℕ). true) second ok.large (λ i below p low high. refl) in
    let third = c.turn_all-2.ensures.held raws (young_turned cs raws young) second ok.large in
    let slots = slots-alone cs _ _ c.args.t.0 raws (λ (p : ℕ). true) c.args.slots.now ok.holds (keeps-then _ _ _ _ _ keeps again) ok.slots in
    let last = c.turn_slots.ensures.held cs raws (objects_turned cs raws young c.args.large.now) third slots in
    c.turn_roots.ensures.goes cs (turned_where raws (is_turned cs raws (record { young = young; large = c.args.large.now; slots = c.args.slots.now }))) last ok.targets

pub returns-clause-keeps : goal.returns-clause-keeps
returns-clause-keeps c raws may ok young_within large_within slots_within =
    let cs : List Class = c.args.classes.now in
    let young = c.args.young.now in
    let first = none-first cs c.args.frames.now c.args.t.0 raws ok.holds in
    let keeps = c.turn_all.ensures.keeps raws none_turned may first ok.young young_within in
    let second = c.turn_all.ensures.held raws none_turned first ok.young in
    let again = c.turn_all-2.ensures.keeps raws (young_turned cs raws young) may second ok.large large_within in
    let slots = c.turn_slots.ensures.keeps may slots_within in
    keeps-then _ _ _ _ may (keeps-then _ _ _ _ may keeps again) (keeps-then _ _ _ _ may slots (keeps-same _ _ _ may c.turn_roots.ensures.same))

pub returns-clause-bounded : goal.returns-clause-bounded
returns-clause-bounded c sound high raws ok =
    let cs : List Class = c.args.classes.now in
    let first = none-first cs c.args.frames.now c.args.t.0 raws ok.holds in
    let rose = c.turn_all.ensures.bounded sound raws none_turned first ok.young in
    let rest = ap (λ (m : Memory). m.reads) c.turn_roots.ensures.same ∙ c.turn_slots.ensures.reads ∙ c.turn_all-2.ensures.reads high in
    subst (RoseBy (reads_to_turn cs raws c.args.young.now) c.args.frames.now.reads) (sym rest) rose
