-- What a command does to a process.
use Rattle.std.specs.Prelude.{ℕ, Bool, true, false, List, [], Result, Ok, Err}
use Rattle.heap_world.specs.declared.reply.Reply.{Reply}
use Rattle.heap_world.specs.declared.reply.Reply.TheVariants as reply
use Rattle.heap_world.specs.declared.reply.Refusal.{Refusal}
use Rattle.heap_graph.specs.Graph.{Graph}
use Rattle.heap_world.specs.declared.names.PageName.{PageName}
use Rattle.heap_world.specs.Part.{Part}

-- the part after it, the reply, the shared pages that it made, those that it touched first, and how many reads of
-- the image and zygote windows it allows
pub record Effect : Type 0 where
  pub part : Part
  pub reply : Reply
  pub made : List PageName
  pub first : List PageName
  pub allowed : ℕ

-- every line with a reply allows 16 reads
abbrev pub line_reads : ℕ
line_reads = 16

-- nothing but a reply
abbrev pub tells : Part → Reply → Effect
tells p r = record { part = p; reply = r; made = []; first = []; allowed = line_reads }

abbrev pub refuses : Part → Refusal → Effect
refuses p why = tells p (reply.Refused why)

-- a new graph, and a reply
abbrev pub becomes : Part → Graph → Reply → Effect
becomes p g r = tells (record p { graph = g }) r

-- an effect, unless there was a refusal
abbrev pub effect_or : Part → Result Effect Refusal → Effect
effect_or p (Ok e) = e
effect_or p (Err why) = refuses p why

abbrev pub is_refusal : Reply → Bool
is_refusal (reply.Refused why) = true
is_refusal r = false
