-- Small scripts and worlds, and what is answered: several pages, full windows, and reads that are allowed.
use Rattle.std.specs.Prelude.{ℕ, zero, suc, ◌+◌, ◌-◌, true, false, List, [], ◌∷◌, ◌++◌, map, pos, codes}
use Rattle.model_numbers.specs.Numbers.{image_base, zygote_base, zygote_length}
use Rattle.class_layout.specs.declared.kind.Kind.TheVariants as kind
use Rattle.class_layout.specs.declared.kind.Value.TheVariants as value
use Rattle.heap_graph.specs.declared.names.Place.{Place}
use Rattle.heap_graph.specs.declared.names.Place.TheVariants as place
use Rattle.heap_graph.specs.declared.names.Shape.TheVariants.{Array}
use Rattle.heap_graph.specs.Examples.{root_to, young}
use Rattle.heap_graph.specs.Graph.{Object, first_graph}
use Rattle.heap_world.specs.declared.command.Verb.TheVariants as verb
use Rattle.heap_world.specs.declared.names.PageName.TheVariants.{Zygote}
use Rattle.heap_world.specs.declared.names.PageName.{PageName}
use Rattle.heap_world.specs.declared.reply.Refusal.TheVariants as refusal
use Rattle.heap_world.specs.declared.reply.Reply.TheVariants as reply
use Rattle.heap_world.specs.Examples.{answer, field, line}
use Rattle.heap_world.specs.Part.{Part, first_part}
use Rattle.heap_world.specs.Run.{Answer, Line, step_line}
use Rattle.heap_world.specs.World.{World}
use Rattle.world_laws.specs.Wanting.{left_worlds}

-- what each line allows
abbrev pub allowances : World → List Line → List ℕ
allowances w [] = []
allowances w (l ∷ ls) = let s = step_line w l in s.allowed ∷ allowances s.world ls

-- the pages that each process touched
abbrev pub touched_pages : World → List (List PageName)
touched_pages w = map (λ q. q.part.touched) w.processes

-- an image object of 3 pages, a large one of 5, and one of 2 that a fork promotes to the zygote window
abbrev pub several_pages : List Line
several_pages =
    line 1 (codes "zygote") (verb.Array (codes "a") kind.Byte 10000)
    ∷ line 2 (codes "zygote") verb.Seal
    ∷ line 3 (codes "zygote") (verb.Array (codes "b") kind.Byte 20000)
    ∷ line 4 (codes "zygote") (verb.Array (codes "c") kind.Ref 2000)
    ∷ line 5 (codes "zygote") verb.Frames
    ∷ line 6 (codes "zygote") (verb.Fork (codes "app"))
    ∷ line 7 (codes "zygote") verb.Frames
    ∷ line 8 (codes "app") (verb.Put (codes "a") 9000 (value.Number (pos 1)))
    ∷ line 9 (codes "zygote") verb.Frames
    ∷ line 10 (codes "app") (verb.Put (codes "b") 4096 (value.Number (pos 1)))
    ∷ line 11 (codes "app") (verb.Put (codes "c") 1500 value.Null)
    ∷ line 12 (codes "zygote") verb.Frames
    ∷ line 13 (codes "app") verb.Pages
    ∷ line 14 (codes "zygote") verb.Exit
    ∷ line 15 (codes "app") verb.Frames
    ∷ []

abbrev pub several_pages_answers : List Answer
several_pages_answers =
    answer 1 (reply.Made 1 false)
    ∷ answer 2 reply.Done
    ∷ answer 3 (reply.Made 2 false)
    ∷ answer 4 (reply.Made 3 false)
    ∷ answer 5 (reply.Frames 10)
    ∷ answer 6 reply.Done
    ∷ answer 7 (reply.Frames 10)
    ∷ answer 8 reply.Done
    ∷ answer 9 (reply.Frames 11)
    ∷ answer 10 reply.Done
    ∷ answer 11 reply.Done
    ∷ answer 12 (reply.Frames 13)
    ∷ answer 13 (reply.Pages 3 1 2 1 5 1)
    ∷ answer 14 reply.Done
    ∷ answer 15 (reply.Frames 10)
    ∷ []

-- a world of one process
abbrev pub alone : Part → World
alone p = record { processes = record { name = codes "zygote"; part = p; labels = [] } ∷ [] }

-- an object of 4,096 bytes on the last page of the zygote window but one, which was touched; a young one of as many bytes
-- and 8 more, and a young one that nothing holds
abbrev pub near_end : World
near_end =
    alone (record (first_part 64 4) {
      graph = record (first_graph 64 4) {
        sealed = true;
        roots = root_to (codes "r") 2 ∷ [];
        objects =
            record { number = 1; shape = Array kind.Byte 4084; slots = []; place = place.Zygote (zygote_base + (zygote_length - 8192)) }
            ∷ young 2 (Array kind.Byte 4092) []
            ∷ young 3 (Array kind.Byte 8) []
            ∷ [];
      };
      touched = Zygote 65534 ∷ [];
    })

abbrev pub fork_and_collect : List Line
fork_and_collect = line 1 (codes "zygote") (verb.Fork (codes "app")) ∷ line 2 (codes "zygote") verb.Gc ∷ []

abbrev pub near_end_answers : List Answer
near_end_answers = answer 1 (reply.Refused (refusal.ZygoteFull 268431360 4104)) ∷ answer 2 (reply.Kept 1 0) ∷ []

-- so many arrays of 1,048,576 bytes in the image, from a number on
abbrev pub image_arrays : ℕ → ℕ → ℕ → List Object
image_arrays number spot zero = []
image_arrays number spot (suc count) =
    record { number = number; shape = Array kind.Byte 1048564; slots = []; place = place.Image spot } ∷ image_arrays (number + 1) (spot + 1048576) count

-- an image with 16 bytes left
abbrev pub nearly_full_image : World
nearly_full_image =
    alone (record (first_part 64 65) {
      graph = record (first_graph 64 65) {
        objects =
            image_arrays 1 image_base 63
            ++ record { number = 64; shape = Array kind.Byte 1048548; slots = []; place = place.Image (image_base + 66060288) } ∷ [];
      };
    })

-- an array of 17 bytes takes 24, one of 16 takes 16
abbrev pub by_one_byte : List Line
by_one_byte =
    line 1 (codes "zygote") (verb.Array (codes "a") kind.Byte 5)
    ∷ line 2 (codes "zygote") (verb.Array (codes "a") kind.Byte 4)
    ∷ line 3 (codes "zygote") (verb.Array (codes "b") kind.Byte 0)
    ∷ []

abbrev pub by_one_byte_answers : List Answer
by_one_byte_answers =
    answer 1 (reply.Refused (refusal.ImageFull 67108848 24))
    ∷ answer 2 (reply.Made 65 false)
    ∷ answer 3 (reply.Refused (refusal.ImageFull 67108864 16))
    ∷ []

-- a heap that is full: the refusal collects, and leaves nothing for the later collection to remove
abbrev pub refused_and_collected : List Line
refused_and_collected =
    line 1 (codes "zygote") verb.Seal
    ∷ line 2 (codes "zygote") (verb.Array (codes "a") kind.Byte 100)
    ∷ line 3 (codes "zygote") (verb.Array (codes "a") kind.Byte 100)
    ∷ line 4 (codes "zygote") (verb.Array (codes "b") kind.Byte 300000)
    ∷ line 5 (codes "zygote") verb.Gc
    ∷ []

abbrev pub refused_and_collected_answers : List Answer
refused_and_collected_answers =
    answer 1 reply.Done
    ∷ answer 2 (reply.Made 1 false)
    ∷ answer 3 (reply.Made 2 false)
    ∷ answer 4 (reply.Refused (refusal.HeapFull 0 2))
    ∷ answer 5 (reply.Kept 1 0)
    ∷ []

-- a promoted object refers to a young one: its card is noted from the store on, until the next fork
abbrev pub noted_card : List Line
noted_card =
    line 1 (codes "zygote") (verb.Class (codes "N") (codes "java.lang.Object") (field (codes "n") kind.Ref ∷ []))
    ∷ line 2 (codes "zygote") verb.Seal
    ∷ line 3 (codes "zygote") (verb.New (codes "a") (codes "N"))
    ∷ line 4 (codes "zygote") (verb.Fork (codes "c1"))
    ∷ line 5 (codes "c1") (verb.New (codes "b") (codes "N"))
    ∷ line 6 (codes "c1") (verb.Set (codes "a") (codes "n") (value.Root (codes "b")))
    ∷ line 7 (codes "c1") (verb.Drop (codes "b"))
    ∷ line 8 (codes "c1") verb.Gc
    ∷ line 9 (codes "c1") verb.Gc
    ∷ line 10 (codes "c1") (verb.Fork (codes "c2"))
    ∷ line 11 (codes "c1") verb.Gc
    ∷ []

abbrev pub noted_card_allowances : List ℕ
noted_card_allowances = 16 ∷ 16 ∷ 16 ∷ 48 ∷ 16 ∷ 16 ∷ 16 ∷ 2064 ∷ 2064 ∷ 4144 ∷ 16 ∷ []

-- the places of each process's objects
abbrev pub places : World → List (List Place)
places w = map (λ q. map (λ o. o.place) q.part.graph.objects) w.processes

-- the same in each world that a line may leave where memory is wanting for it
abbrev pub places_left : World → Line → List (List (List Place))
places_left w l = map places (left_worlds w l.number l.command)

-- a sealed process with two young objects, of which one is held
abbrev pub one_held : List Line
one_held =
    line 1 (codes "zygote") verb.Seal
    ∷ line 2 (codes "zygote") (verb.Array (codes "a") kind.Byte 100)
    ∷ line 3 (codes "zygote") (verb.Array (codes "a") kind.Byte 100)
    ∷ []

abbrev pub both_young : List (List Place)
both_young = (place.Young ∷ place.Young ∷ []) ∷ []

abbrev pub one_young : List (List Place)
one_young = (place.Young ∷ []) ∷ []

abbrev pub one_promoted : List (List Place)
one_promoted = (place.Zygote zygote_base ∷ []) ∷ []
