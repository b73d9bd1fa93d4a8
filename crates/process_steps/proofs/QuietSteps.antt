-- Steps that leave the pages of memory, and what each command keeps of a part.
use Rattle.std.proofs.Common.{◌≡◌, ◌∙◌, ◌+◌, ◌-◌, ◌^◌, ℕ, Bool, true, false, List, [], min, refl, sym, ap, subst, inl, true≢false, IsTrue}
use Rattle.cow_pages.specs.Memory.{frame_at, is_written, IsSound, Memory}
use Rattle.cow_pages.specs.Only.{OnlyTable}
use Rattle.heap_graph.specs.declared.names.Held.{Held}
use Rattle.heap_graph.specs.Graph.{drop_root}
use Rattle.heap_graph.proofs.LaidOut.{all-weaken}
use Rattle.heap_world.specs.declared.command.Verb.{Verb}
use Rattle.heap_world.specs.declared.command.Verb.TheVariants as verb
use Rattle.heap_world.specs.declared.names.Card.{Card}
use Rattle.heap_world.specs.declared.names.Card.TheVariants as card
use Rattle.heap_world.specs.declared.names.PageName.{PageName}
use Rattle.heap_world.specs.declared.names.PageName.TheVariants.{Image, Zygote, Large}
use Rattle.heap_world.specs.declared.reply.Reply.{Reply}
use Rattle.heap_world.specs.Acts.{act, dump_counted, dump_to, write_held}
use Rattle.heap_world.specs.Cards.{is_noted, outward_cards}
use Rattle.heap_world.specs.Commands.{HasFewFields}
use Rattle.heap_world.specs.Effect.{becomes, tells, Effect}
use Rattle.heap_world.specs.Pages.{is_touched}
use Rattle.heap_world.specs.Part.{Part}
use Rattle.heap_world.specs.Sound as world
use Rattle.heap_world.proofs.FormedKept.{counted_formed}
use Rattle.heap_world.proofs.SoundActs.{act_sound, fork_sound}
use Rattle.world_laws.specs.Named.{is_named, stands, waits}
use Rattle.world_laws.proofs.NotedCards.{act_notes, fork_notes}
use Rattle.world_laws.proofs.OutwardPages.{act_touches, fork_touches}
use Rattle.object_view.specs.Seen.{root_address}
use Rattle.evacuate.specs.Stands.{HoldsHeap}
use Rattle.root_list.specs.Roots.{with_root, without_root}
use Rattle.process_state.specs.Acts.{effect_of, fork_effect, page_in, Acts, Step}
use Rattle.process_state.specs.Cards.{has_noted, NotesCards}
use Rattle.process_state.specs.Stands.{HasCounts, HasFlags, StandsIn}
use Rattle.process_state.specs.State.{addresses_in, heap_of, State}
use Rattle.process_state.proofs.Roots.{stands-dropped, stands-written}
use Rattle.process_state.proofs.Same.{stands-uncounted}
use Rattle.process_steps.specs.Kept.{IsKept}
use Rattle.process_steps.specs.Quiet.{SamePages}

-- WHAT COMMANDS KEEP

module _ (s : State) (m : Memory) (p : Part) (h : StandsIn s m p) where
  -- a command that is no fork
  pub kept-act : (v : Verb) → HasFewFields v → IsKept (act p v).part
  kept-act v few = record { part = act_sound p v few h.part; outward = act_touches p v few h.part h.outward; within = act_notes p h.part h.within v few }

  -- only a sealed process forks, and else its part is as it was
  kept-fork : (b : Bool) → p.graph.sealed ≡ b → IsKept (fork_effect b p).part
  kept-fork false sealed = record { part = h.part; outward = h.outward; within = h.within }
  kept-fork true sealed = record { part = fork_sound p sealed h.part; outward = fork_touches p sealed h.part h.outward; within = fork_notes p h.part h.within sealed }

  pub kept-command : (v : Verb) → HasFewFields v → IsKept (effect_of p v).part
  kept-command (verb.Class name parent fields) few = kept-act (verb.Class name parent fields) few
  kept-command (verb.New root class) few = kept-act (verb.New root class) few
  kept-command (verb.Array root k count) few = kept-act (verb.Array root k count) few
  kept-command (verb.Weak root referent) few = kept-act (verb.Weak root referent) few
  kept-command (verb.Set root field v) few = kept-act (verb.Set root field v) few
  kept-command (verb.Put root index v) few = kept-act (verb.Put root index v) few
  kept-command (verb.Get root field) few = kept-act (verb.Get root field) few
  kept-command (verb.At root index) few = kept-act (verb.At root index) few
  kept-command (verb.Copy to from) few = kept-act (verb.Copy to from) few
  kept-command (verb.Load to from field) few = kept-act (verb.Load to from field) few
  kept-command (verb.LoadAt to from index) few = kept-act (verb.LoadAt to from index) few
  kept-command (verb.Drop root) few = kept-act (verb.Drop root) few
  kept-command (verb.Show root) few = kept-act (verb.Show root) few
  kept-command verb.Seal few = kept-act verb.Seal few
  kept-command verb.Gc few = kept-act verb.Gc few
  kept-command (verb.Fork child) few = kept-fork p.graph.sealed refl
  kept-command verb.Exit few = kept-act verb.Exit few
  kept-command verb.Free few = kept-act verb.Free few
  kept-command verb.Pages few = kept-act verb.Pages few
  kept-command verb.Frames few = kept-act verb.Frames few
  kept-command verb.Dump few = kept-act verb.Dump few

-- STEPS THAT LEAVE THE PAGES

-- what stands for the part after an effect that makes no page did what the effect says, where the pages are as they were and
-- have the names that they had
pub quiet-acts : (s n : State) (was now : Memory) (p : Part) (e : Effect) → StandsIn n now e.part → n.page_table ≡ s.page_table → SamePages was now → e.made ≡ []
    → ((a : PageName) → is_named e.part.graph a ≡ true → page_in n e.part.graph a ≡ page_in s p.graph a) → Acts (record { old = s; new = n; was = was; now = now }) p e
quiet-acts s n was now p e stands table same none pages = record {
  stands = stands;
  page_table = table;
  only = subst (λ (m : Memory). OnlyTable was m s.page_table) (sym same) (record { others = λ u q apart. refl; live = λ u. refl; own = λ q f is. inl is });
  kept = λ a named quiet. ap (frame_at now s.page_table) (pages a named)
      ∙ subst (λ (m : Memory). frame_at m s.page_table (page_in s p.graph a) ≡ frame_at was s.page_table (page_in s p.graph a)) (sym same) refl;
  made = λ a named made. absurd (true≢false (sym made ∙ ap (λ ps. is_touched ps a) none));
}

-- a process that is as it was
pub unchanged : (c : Step) (p : Part) (r : Reply) → StandsIn c.old c.was p → c.new ≡ c.old → SamePages c.was c.now → IsSound c.now → Acts c p (tells p r)
unchanged c p r h is same sound =
    subst (λ n. Acts (record c { new = n }) p (tells p r)) (sym is)
    (quiet-acts c.old c.old c.was c.now p (tells p r) (stands-uncounted c.old p c.was c.now h same sound) refl same refl (λ a named. refl))

-- a root is written
pub root-acts : (c : Step) (p : Part) (name : List ℕ) (h : Held) (r : Reply) → StandsIn c.old c.was p → c.new ≡ record c.old { roots = with_root c.old.roots name (record { 0 = root_address (addresses_in c.old p.graph) h }) }
    → SamePages c.was c.now → IsSound c.now → world.IsSound (write_held p name h r).part → Acts c p (write_held p name h r)
root-acts c p name h r k is same sound after =
    let new : State = record c.old { roots = with_root c.old.roots name (record { 0 = root_address (addresses_in c.old p.graph) h }) } in
    subst (λ n. Acts (record c { new = n }) p (write_held p name h r)) (sym is)
    (quiet-acts c.old new c.was c.now p (write_held p name h r) (stands-written c.old c.now p (stands-uncounted c.old p c.was c.now k same sound) name h after) refl same refl (λ a named. named-same a))
  where
    named-same : (a : PageName) → page_in (record c.old { roots = with_root c.old.roots name (record { 0 = root_address (addresses_in c.old p.graph) h }) }) (write_held p name h r).part.graph a ≡ page_in c.old p.graph a
    named-same (Image j) = refl
    named-same (Zygote j) = refl
    named-same (Large n j) = refl

-- a root is dropped
pub drop-acts : (c : Step) (p : Part) (name : List ℕ) (r : Reply) → StandsIn c.old c.was p → c.new ≡ record c.old { roots = without_root c.old.roots name }
    → SamePages c.was c.now → IsSound c.now → world.IsSound (becomes p (record p.graph { roots = drop_root p.graph.roots name }) r).part → Acts c p (becomes p (record p.graph { roots = drop_root p.graph.roots name }) r)
drop-acts c p name r k is same sound after =
    let new : State = record c.old { roots = without_root c.old.roots name } in
    let e : Effect = becomes p (record p.graph { roots = drop_root p.graph.roots name }) r in
    subst (λ n. Acts (record c { new = n }) p (becomes p (record p.graph { roots = drop_root p.graph.roots name }) r)) (sym is)
    (quiet-acts c.old new c.was c.now p e (stands-dropped c.old c.now p (stands-uncounted c.old p c.was c.now k same sound) name after) refl same refl (λ a named. named-same a))
  where
    named-same : (a : PageName) → page_in (record c.old { roots = without_root c.old.roots name }) (record p.graph { roots = drop_root p.graph.roots name }) a ≡ page_in c.old p.graph a
    named-same (Image j) = refl
    named-same (Zygote j) = refl
    named-same (Large n j) = refl

-- A DUMP

-- the count of dumps is nothing to the rest of a process
module _ (s : State) (m : Memory) (p : Part) (k : StandsIn s m p) (n d : ℕ) (same : n ≡ d) where
  abbrev new : State
  new = record s { dumps = n }

  abbrev after : Part
  after = record p { graph = record p.graph { dumps = d } }

  formed-with : world.IsSound after
  formed-with = record {
    formed = counted_formed p.graph d k.part.formed;
    before_seal = k.part.before_seal;
    touched_stand = k.part.touched_stand;
    touched_once = k.part.touched_once;
    stored_once = k.part.stored_once;
    held_once = k.part.held_once;
    outward_noted = k.part.outward_noted;
  }

  heap-with : HoldsHeap (heap_of new []) m s.page_table after.graph
  heap-with = record {
    formed = formed-with.formed;
    house = record { regions = k.heap.house.regions; slots = k.heap.house.slots; for_young = k.heap.house.for_young; for_large = k.heap.house.for_large };
    pages = record { objects = k.heap.pages.objects; pages = k.heap.pages.pages };
    stands = record {
      classes = k.heap.stands.classes;
      packed = k.heap.stands.packed;
      objects = k.heap.stands.objects;
      no_from = k.heap.stands.no_from;
      half = k.heap.stands.half;
      count = k.heap.stands.count;
      rows = k.heap.stands.rows;
      roots = k.heap.stands.roots;
    };
    regions = k.heap.regions;
    large = k.heap.large;
    space = k.heap.space;
    sound = k.heap.sound;
    live = k.heap.live;
  }

  counts-with : HasCounts new after.graph
  counts-with = record {
    names = k.counts.names;
    next = k.counts.next;
    numbered = k.counts.numbered;
    budget = k.counts.budget;
    is_sealed = k.counts.is_sealed;
    dumps = same;
    objects = k.counts.objects;
    promoted = k.counts.promoted;
  }

  noted : (c : Card) → has_noted new c ≡ true → is_noted p.stored p.held c ≡ true
  noted (card.Image j) = k.cards.noted (card.Image j)
  noted (card.Zygote j) = k.cards.noted (card.Zygote j)

  cards-with : NotesCards new after
  cards-with = record { image = k.cards.image; zygote = k.cards.zygote; noted = noted; outward = all-weaken (λ c. has_noted s c ≡ true) (λ c. has_noted new c ≡ true) has (outward_cards p.graph) k.cards.outward; before_seal = k.cards.before_seal }
    where
      has : (c : Card) → has_noted s c ≡ true → has_noted new c ≡ true
      has (card.Image j) is = is
      has (card.Zygote j) is = is

  flags-with : HasFlags new m after
  flags-with = record { touched = touched; waiting = waiting }
    where
      touched : (a : PageName) → p.graph.sealed ≡ true → stands after.graph a ≡ true → is_written m s.page_table (page_in new after.graph a) ≡ is_touched p.touched a
      touched (Image j) = k.flags.touched (Image j)
      touched (Zygote j) = k.flags.touched (Zygote j)
      touched (Large b j) = k.flags.touched (Large b j)

      waiting : (a : PageName) → waits after.graph a ≡ true → IsTrue (is_written m s.page_table (page_in new after.graph a))
      waiting (Image j) is = absurd (true≢false (sym is))
      waiting (Zygote j) is = absurd (true≢false (sym is))
      waiting (Large b j) is = k.flags.waiting (Large b j) is

  pub stands-counted : StandsIn new m after
  stands-counted = record {
    lives = k.lives;
    part = formed-with;
    outward = k.outward;
    within = record { stored = k.within.stored; held = k.within.held };
    counts = counts-with;
    heap = heap-with;
    flags = flags-with;
    cards = cards-with;
    alone = k.alone;
    image_is = k.image_is;
    zygote_is = k.zygote_is;
    image = record { fill = k.image.fill; starts = k.image.starts };
    zygote = record { closed = k.zygote.closed; fill = k.zygote.fill; starts = k.zygote.starts };
  }

  pub counted-page : (a : PageName) → page_in new after.graph a ≡ page_in s p.graph a
  counted-page (Image j) = refl
  counted-page (Zygote j) = refl
  counted-page (Large b j) = refl

pub dump-acts : (c : Step) (p : Part) → StandsIn c.old c.was p → c.new ≡ record c.old { dumps = min (c.old.dumps + 1) (2 ^ 32 - 1) } → SamePages c.was c.now → IsSound c.now → Acts c p (dump_to p (dump_counted p.graph))
dump-acts c p k is same sound =
    let h : StandsIn c.old c.now p = stands-uncounted c.old p c.was c.now k same sound in
    let count : min (c.old.dumps + 1) (2 ^ 32 - 1) ≡ (dump_counted p.graph).dumps = ap (λ n. min (n + 1) (2 ^ 32 - 1)) k.counts.dumps in
    let new : State = record c.old { dumps = min (c.old.dumps + 1) (2 ^ 32 - 1) } in
    subst (λ n. Acts (record c { new = n }) p (dump_to p (dump_counted p.graph))) (sym is)
    (quiet-acts c.old new c.was c.now p (dump_to p (dump_counted p.graph))
    (stands-counted c.old c.now p h (min (c.old.dumps + 1) (2 ^ 32 - 1)) (dump_counted p.graph).dumps count) refl same refl
    (λ a named. counted-page c.old c.now p h (min (c.old.dumps + 1) (2 ^ 32 - 1)) (dump_counted p.graph).dumps count a))
