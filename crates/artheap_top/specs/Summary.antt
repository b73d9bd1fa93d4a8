-- The summary of a generated script.
use Rattle.std.specs.Prelude.{ℕ, Bool, true, false, List, ◌++◌, codes, decimal, filter, length}
use Rattle.heap_world.specs.declared.reply.Reply.{Reply}
use Rattle.heap_world.specs.declared.reply.Reply.TheVariants as reply
use Rattle.heap_world.specs.Effect.{is_refusal}
use Rattle.heap_world.specs.Run.{Answer}
use Rattle.heap_world.specs.World.{frame_count}
use Rattle.heap_world.specs.Counts.{live_count, live_objects}
use Rattle.script_make.specs.Script.{soak_lines}
use Rattle.artheap_top.specs.declared.summary.Summary.{Summary}
use Rattle.script_report.specs.Report.{answers_of, world_of}

-- a process collected: the replies `#n gc` and `kept K freed F`
abbrev pub tells_collection : Reply → Bool
tells_collection (reply.Made number collected) = collected
tells_collection (reply.Kept kept freed) = true
tells_collection r = false

-- how many answers are refusals
abbrev pub refusal_count : List Answer → ℕ
refusal_count given = length (filter (λ a. is_refusal a.reply) given)

-- how many answers tell a collection
abbrev pub collection_count : List Answer → ℕ
collection_count given = length (filter (λ a. tells_collection a.reply) given)

-- a line of the summary: a word with the blank behind it, and a number
abbrev pub summary_line : List ℕ → ℕ → List ℕ
summary_line word n = word ++ decimal n ++ codes "\n"

-- the text of a summary, line by line
abbrev pub summary_text : Summary → List ℕ
summary_text s =
    codes "soak " ++ decimal s.start ++ codes " " ++ decimal s.count ++ codes "\n"
    ++ summary_line (codes "lines ") s.lines
    ++ summary_line (codes "refused ") s.refused
    ++ summary_line (codes "collections ") s.collections
    ++ summary_line (codes "processes ") s.processes
    ++ summary_line (codes "objects ") s.objects
    ++ summary_line (codes "frames ") s.frames

-- what is to be told of lines: the words of the call, how many lines there are, what their answers tell, and what the
-- last world holds
abbrev pub summary_of : ℕ → ℕ → ℕ → List (List ℕ) → Summary
summary_of budget start count ls =
    let given = answers_of budget ls in
    let w = world_of budget ls in
    record {
      start = start;
      count = count;
      lines = length ls;
      refused = refusal_count given;
      collections = collection_count given;
      processes = live_count w;
      objects = live_objects w;
      frames = frame_count w;
    }

-- the summary of the script that the generator makes of two numbers, for processes with this budget of regions
abbrev pub summary : ℕ → ℕ → ℕ → List ℕ
summary budget start count = summary_text (summary_of budget start count (soak_lines start count))
