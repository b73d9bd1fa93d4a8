-- What a step of a process does to it and to memory.
use Rattle.std.specs.Prelude.{◌≡◌, ◌++◌, ◌∷◌, [], ℕ, Bool, true, false, List, Option, None, Some}
use Rattle.class_layout.specs.Placing.{IsIn}
use Rattle.cow_pages.specs.Change.{ChangesTable}
use Rattle.cow_pages.specs.Memory.{frame_at, is_live, leaf_in, page_at, HasOneSharer, IsSettled, Memory}
use Rattle.cow_pages.specs.Only.{OnlyTable}
use Rattle.heap_graph.specs.Collection.{collect}
use Rattle.heap_graph.specs.Fork.{child_of}
use Rattle.heap_graph.specs.Graph.{Graph}
use Rattle.heap_world.specs.declared.command.Verb.{Verb}
use Rattle.heap_world.specs.declared.command.Verb.TheVariants as verb
use Rattle.heap_world.specs.declared.names.PageName.{PageName}
use Rattle.heap_world.specs.declared.reply.Refusal.TheVariants.{NotSealed}
use Rattle.heap_world.specs.declared.reply.Reply.{Reply}
use Rattle.heap_world.specs.declared.reply.Reply.TheVariants.{Done}
use Rattle.heap_world.specs.Acts.{act, fork_part, gc_to}
use Rattle.heap_world.specs.Effect.{refuses, tells, Effect}
use Rattle.heap_world.specs.Pages.{is_touched}
use Rattle.heap_world.specs.Part.{Part}
use Rattle.object_view.specs.Seen.{RoseBy}
use Rattle.world_laws.specs.Named.{is_named}
use Rattle.world_laws.specs.Wanting.{collects}
use Rattle.graph_pages.specs.Pages.{page_named}
use Rattle.process_state.specs.State.{addresses_in, State}
use Rattle.process_state.specs.Stands.{StandsIn}

-- a process and memory before a step and after it
pub record Step : Type 0 where
  pub old : State
  pub new : State
  pub was : Memory
  pub now : Memory

-- the page of a name
abbrev pub page_in : State → Graph → PageName → ℕ
page_in s g a = page_named (addresses_in s g) a

-- a process that stood for a part did what an effect on that part says: it stands for the part after it, only its table
-- changed, a page that it neither made nor touched first keeps its frame, and one that it made has a frame of its own
pub record Acts (c : Step) (p : Part) (e : Effect) : Type 0 where
  pub stands : StandsIn c.new c.now e.part
  pub page_table : c.new.page_table ≡ c.old.page_table
  pub only : OnlyTable c.was c.now c.old.page_table
  pub kept : (a : PageName) → is_named e.part.graph a ≡ true → is_touched (e.made ++ e.first) a ≡ false
      → frame_at c.now c.old.page_table (page_in c.new e.part.graph a) ≡ frame_at c.was c.old.page_table (page_in c.old p.graph a)
  pub made : (a : PageName) → is_named e.part.graph a ≡ true → is_touched e.made a ≡ true → HasOneSharer c.now c.old.page_table (page_in c.new e.part.graph a)

-- only a sealed process forks
abbrev pub fork_effect : Bool → Part → Effect
fork_effect false p = refuses p NotSealed
fork_effect true p = fork_part p

-- what a command does to the process of its line; the child of a fork is another process
abbrev pub effect_of : Part → Verb → Effect
effect_of p (verb.Fork child) = fork_effect p.graph.sealed p
effect_of p v = act p v

-- how far a fork comes behind its collection
abbrev pub promotions : Part → Verb → List Effect
promotions p (verb.Fork child) = fork_part p ∷ []
promotions p v = []

-- a command that collects does so first, and a fork promotes then
abbrev pub effects_between : Bool → Part → Verb → List Effect
effects_between true p v = gc_to p (collect p.graph) ∷ promotions p v
effects_between false p v = []

-- where memory was wanting, a command did nothing, or what it does first
abbrev pub effects_left : Part → Verb → List Effect
effects_left p v = tells p (effect_of p v).reply ∷ effects_between (collects v (effect_of p v).reply) p v

-- a process did what a command does, and the answer is its reply; without an answer memory was wanting
abbrev pub Does : Step → Part → Verb → Option Reply → Type 0
Does c p v None = (e : Effect) × IsIn e (effects_left p v) × Acts c p e
Does c p v (Some answer) = (answer ≡ (effect_of p v).reply) × Acts c p (effect_of p v) × RoseBy (effect_of p v).allowed c.was.reads c.now.reads

-- a table was added: it has the pages of another one, with their frames and in its leaves, and no flag
pub record JoinsTable (old new : Memory) (t u : ℕ) : Type 0 where
  pub fresh : is_live old u ≡ false
  pub live : is_live new u ≡ true
  pub pages : (q : ℕ) → page_at new u q ≡ page_at old t q
  pub leaves : (i : ℕ) → leaf_in new u i ≡ leaf_in old t i
  pub settled : IsSettled new u
  pub rest : ChangesTable old new u

-- a fork that wasn't refused: the process promotes, then a child joins, and both stand in the memory with the child
pub record Forks (c : Step) (made : State) (p : Part) : Type 0 where
  pub is_sealed : p.graph.sealed ≡ true
  pub done : (fork_part p).reply ≡ Done
  pub between : Memory
  pub acts : Acts (record c { now = between }) p (fork_part p)
  pub joins : JoinsTable between c.now c.old.page_table made.page_table
  pub parent : StandsIn c.new c.now (fork_part p).part
  pub child : StandsIn made c.now (record (fork_part p).part { graph = child_of (fork_part p).part.graph })
