-- Small scripts, as lists of commands, and what the world answers.
use Rattle.std.specs.Prelude.{ℕ, true, false, List, [], ◌∷◌, pos, codes}
use Rattle.class_layout.specs.declared.kind.Kind.{Kind}
use Rattle.class_layout.specs.declared.kind.Kind.TheVariants as kind
use Rattle.class_layout.specs.declared.kind.FieldDecl.{FieldDecl}
use Rattle.class_layout.specs.declared.kind.Value.TheVariants as value
use Rattle.heap_world.specs.declared.command.Verb.{Verb}
use Rattle.heap_world.specs.declared.command.Verb.TheVariants as verb
use Rattle.heap_world.specs.declared.reply.Reply.{Reply}
use Rattle.heap_world.specs.declared.reply.Reply.TheVariants as reply
use Rattle.heap_world.specs.declared.reply.Refusal.TheVariants as refusal
use Rattle.heap_world.specs.Run.{Line, Answer}

-- a line for a process
abbrev pub line : ℕ → List ℕ → Verb → Line
line number process v = record { number = number; command = record { process = process; verb = v } }

-- the answer to a line
abbrev pub answer : ℕ → Reply → Answer
answer number r = record { line = number; reply = r }

abbrev pub field : List ℕ → Kind → FieldDecl
field name k = record { name = name; kind = k }

abbrev pub fork_and_store : List Line
fork_and_store =
    line 1 (codes "zygote") (verb.Class (codes "P") (codes "java.lang.Object") (field (codes "x") kind.Int ∷ []))
    ∷ line 2 (codes "zygote") (verb.Seal)
    ∷ line 3 (codes "zygote") (verb.New (codes "a") (codes "P"))
    ∷ line 4 (codes "zygote") (verb.Set (codes "a") (codes "x") (value.Number (pos 7)))
    ∷ line 5 (codes "zygote") (verb.Fork (codes "c1"))
    ∷ line 6 (codes "c1") (verb.Set (codes "a") (codes "x") (value.Number (pos 9)))
    ∷ line 7 (codes "zygote") (verb.Get (codes "a") (codes "x"))
    ∷ line 8 (codes "c1") (verb.Get (codes "a") (codes "x"))
    ∷ line 9 (codes "c1") (verb.Pages)
    ∷ line 10 (codes "zygote") (verb.Pages)
    ∷ line 11 (codes "zygote") (verb.Frames)
    ∷ line 12 (codes "zygote") (verb.Exit)
    ∷ line 13 (codes "c1") (verb.Get (codes "a") (codes "x"))
    ∷ line 14 (codes "c1") (verb.Frames)
    ∷ line 15 (codes "zygote") (verb.Get (codes "a") (codes "x"))
    ∷ []

abbrev pub fork_and_store_answers : List Answer
fork_and_store_answers =
    answer 1 (reply.Class 2)
    ∷ answer 2 (reply.Done)
    ∷ answer 3 (reply.Made 1 false)
    ∷ answer 4 (reply.Done)
    ∷ answer 5 (reply.Done)
    ∷ answer 6 (reply.Done)
    ∷ answer 7 (reply.Number (pos 7))
    ∷ answer 8 (reply.Number (pos 9))
    ∷ answer 9 (reply.Pages 0 0 1 1 0 0)
    ∷ answer 10 (reply.Pages 0 0 1 0 0 0)
    ∷ answer 11 (reply.Frames 2)
    ∷ answer 12 (reply.Done)
    ∷ answer 13 (reply.Number (pos 9))
    ∷ answer 14 (reply.Frames 1)
    ∷ answer 15 (reply.Refused refusal.Exited)
    ∷ []

abbrev pub second_fork : List Line
second_fork =
    line 1 (codes "zygote") (verb.Class (codes "N") (codes "java.lang.Object") (field (codes "n") kind.Ref ∷ []))
    ∷ line 2 (codes "zygote") (verb.Seal)
    ∷ line 3 (codes "zygote") (verb.New (codes "a") (codes "N"))
    ∷ line 4 (codes "zygote") (verb.Fork (codes "c1"))
    ∷ line 5 (codes "zygote") (verb.New (codes "b") (codes "N"))
    ∷ line 6 (codes "zygote") (verb.Set (codes "a") (codes "n") (value.Root (codes "b")))
    ∷ line 7 (codes "zygote") (verb.Pages)
    ∷ line 8 (codes "zygote") (verb.Fork (codes "c2"))
    ∷ line 9 (codes "c2") (verb.Gc)
    ∷ line 10 (codes "c2") (verb.Pages)
    ∷ line 11 (codes "c2") (verb.Get (codes "a") (codes "n"))
    ∷ line 12 (codes "c1") (verb.Get (codes "a") (codes "n"))
    ∷ line 13 (codes "zygote") (verb.Frames)
    ∷ []

abbrev pub second_fork_answers : List Answer
second_fork_answers =
    answer 1 (reply.Class 2)
    ∷ answer 2 (reply.Done)
    ∷ answer 3 (reply.Made 1 false)
    ∷ answer 4 (reply.Done)
    ∷ answer 5 (reply.Made 2 false)
    ∷ answer 6 (reply.Done)
    ∷ answer 7 (reply.Pages 0 0 1 1 0 0)
    ∷ answer 8 (reply.Done)
    ∷ answer 9 (reply.Kept 0 0)
    ∷ answer 10 (reply.Pages 0 0 2 0 0 0)
    ∷ answer 11 (reply.Object 2)
    ∷ answer 12 (reply.Null)
    ∷ answer 13 (reply.Frames 3)
    ∷ []

abbrev pub collection_after_fork : List Line
collection_after_fork =
    line 1 (codes "zygote") (verb.Class (codes "N") (codes "java.lang.Object") (field (codes "n") kind.Ref ∷ []))
    ∷ line 2 (codes "zygote") (verb.Seal)
    ∷ line 3 (codes "zygote") (verb.New (codes "a") (codes "N"))
    ∷ line 4 (codes "zygote") (verb.Fork (codes "c1"))
    ∷ line 5 (codes "c1") (verb.New (codes "b") (codes "N"))
    ∷ line 6 (codes "c1") (verb.Set (codes "a") (codes "n") (value.Root (codes "b")))
    ∷ line 7 (codes "c1") (verb.Drop (codes "b"))
    ∷ line 8 (codes "c1") (verb.Gc)
    ∷ line 9 (codes "c1") (verb.Gc)
    ∷ line 10 (codes "c1") (verb.Load (codes "q") (codes "a") (codes "n"))
    ∷ line 11 (codes "c1") (verb.Pages)
    ∷ []

abbrev pub collection_after_fork_answers : List Answer
collection_after_fork_answers =
    answer 1 (reply.Class 2)
    ∷ answer 2 (reply.Done)
    ∷ answer 3 (reply.Made 1 false)
    ∷ answer 4 (reply.Done)
    ∷ answer 5 (reply.Made 2 false)
    ∷ answer 6 (reply.Done)
    ∷ answer 7 (reply.Done)
    ∷ answer 8 (reply.Kept 1 0)
    ∷ answer 9 (reply.Kept 1 0)
    ∷ answer 10 (reply.Object 2)
    ∷ answer 11 (reply.Pages 0 0 1 1 0 0)
    ∷ []

abbrev pub weak_reference : List Line
weak_reference =
    line 1 (codes "zygote") (verb.Class (codes "P") (codes "java.lang.Object") (field (codes "x") kind.Int ∷ []))
    ∷ line 2 (codes "zygote") (verb.Seal)
    ∷ line 3 (codes "zygote") (verb.New (codes "a") (codes "P"))
    ∷ line 4 (codes "zygote") (verb.Weak (codes "w") (codes "a"))
    ∷ line 5 (codes "zygote") (verb.Gc)
    ∷ line 6 (codes "zygote") (verb.Get (codes "w") (codes "referent"))
    ∷ line 7 (codes "zygote") (verb.Drop (codes "a"))
    ∷ line 8 (codes "zygote") (verb.Gc)
    ∷ line 9 (codes "zygote") (verb.Get (codes "w") (codes "referent"))
    ∷ []

abbrev pub weak_reference_answers : List Answer
weak_reference_answers =
    answer 1 (reply.Class 2)
    ∷ answer 2 (reply.Done)
    ∷ answer 3 (reply.Made 1 false)
    ∷ answer 4 (reply.Made 2 false)
    ∷ answer 5 (reply.Kept 2 0)
    ∷ answer 6 (reply.Object 1)
    ∷ answer 7 (reply.Done)
    ∷ answer 8 (reply.Kept 1 1)
    ∷ answer 9 (reply.Null)
    ∷ []

abbrev pub shared_weak_reference : List Line
shared_weak_reference =
    line 1 (codes "zygote") (verb.Class (codes "P") (codes "java.lang.Object") (field (codes "x") kind.Int ∷ []))
    ∷ line 2 (codes "zygote") (verb.Seal)
    ∷ line 3 (codes "zygote") (verb.New (codes "a") (codes "P"))
    ∷ line 4 (codes "zygote") (verb.Weak (codes "w") (codes "a"))
    ∷ line 5 (codes "zygote") (verb.Fork (codes "c1"))
    ∷ line 6 (codes "c1") (verb.New (codes "y") (codes "P"))
    ∷ line 7 (codes "c1") (verb.Set (codes "w") (codes "referent") (value.Root (codes "y")))
    ∷ line 8 (codes "c1") (verb.Pages)
    ∷ line 9 (codes "c1") (verb.Drop (codes "y"))
    ∷ line 10 (codes "c1") (verb.Gc)
    ∷ line 11 (codes "c1") (verb.Get (codes "w") (codes "referent"))
    ∷ line 12 (codes "c1") (verb.Pages)
    ∷ line 13 (codes "zygote") (verb.Get (codes "w") (codes "referent"))
    ∷ []

abbrev pub shared_weak_reference_answers : List Answer
shared_weak_reference_answers =
    answer 1 (reply.Class 2)
    ∷ answer 2 (reply.Done)
    ∷ answer 3 (reply.Made 1 false)
    ∷ answer 4 (reply.Made 2 false)
    ∷ answer 5 (reply.Done)
    ∷ answer 6 (reply.Made 3 false)
    ∷ answer 7 (reply.Done)
    ∷ answer 8 (reply.Pages 0 0 1 1 0 0)
    ∷ answer 9 (reply.Done)
    ∷ answer 10 (reply.Kept 0 1)
    ∷ answer 11 (reply.Null)
    ∷ answer 12 (reply.Pages 0 0 1 1 0 0)
    ∷ answer 13 (reply.Object 1)
    ∷ []

abbrev pub refusals : List Line
refusals =
    line 1 (codes "zygote") (verb.Class (codes "P") (codes "java.lang.Object") (field (codes "x") kind.Int ∷ []))
    ∷ line 2 (codes "zygote") (verb.Class (codes "P") (codes "java.lang.Object") ([]))
    ∷ line 3 (codes "zygote") (verb.Class (codes "Q") (codes "X") ([]))
    ∷ line 4 (codes "zygote") (verb.Class (codes "Q") (codes "P") (field (codes "x") kind.Byte ∷ []))
    ∷ line 5 (codes "zygote") (verb.Class (codes "Q") (codes "P") (field (codes "y") kind.Int ∷ field (codes "y") kind.Int ∷ []))
    ∷ line 6 (codes "zygote") (verb.Get (codes "a") (codes "x"))
    ∷ line 7 (codes "zygote") (verb.New (codes "a") (codes "P"))
    ∷ line 8 (codes "zygote") (verb.Get (codes "a") (codes "z"))
    ∷ line 9 (codes "zygote") (verb.At (codes "a") 0)
    ∷ line 10 (codes "zygote") (verb.Class (codes "R") (codes "java.lang.Object") (field (codes "r") kind.Ref ∷ []))
    ∷ line 11 (codes "zygote") (verb.New (codes "b") (codes "R"))
    ∷ line 12 (codes "zygote") (verb.Load (codes "q") (codes "b") (codes "r"))
    ∷ line 13 (codes "zygote") (verb.Get (codes "q") (codes "x"))
    ∷ line 14 (codes "zygote") (verb.Show (codes "b"))
    ∷ line 15 (codes "zygote") (verb.Show (codes "q"))
    ∷ []

abbrev pub refusals_answers : List Answer
refusals_answers =
    answer 1 (reply.Class 2)
    ∷ answer 2 (reply.Refused refusal.ClassTaken)
    ∷ answer 3 (reply.Refused refusal.NoClass)
    ∷ answer 4 (reply.Refused refusal.FieldTaken)
    ∷ answer 5 (reply.Refused refusal.FieldTaken)
    ∷ answer 6 (reply.Refused refusal.NoRoot)
    ∷ answer 7 (reply.Made 1 false)
    ∷ answer 8 (reply.Refused refusal.NoField)
    ∷ answer 9 (reply.Refused refusal.NotArray)
    ∷ answer 10 (reply.Class 3)
    ∷ answer 11 (reply.Made 2 false)
    ∷ answer 12 (reply.Null)
    ∷ answer 13 (reply.Refused refusal.Null)
    ∷ answer 14 (reply.Shown 2 (codes "R"))
    ∷ answer 15 (reply.Null)
    ∷ []

abbrev pub full_region : List Line
full_region =
    line 1 (codes "zygote") (verb.Seal)
    ∷ line 2 (codes "zygote") (verb.Array (codes "a0") kind.Byte 12275)
    ∷ line 3 (codes "zygote") (verb.Array (codes "a1") kind.Byte 12275)
    ∷ line 4 (codes "zygote") (verb.Array (codes "a2") kind.Byte 12275)
    ∷ line 5 (codes "zygote") (verb.Array (codes "a3") kind.Byte 12275)
    ∷ line 6 (codes "zygote") (verb.Array (codes "a4") kind.Byte 12275)
    ∷ line 7 (codes "zygote") (verb.Array (codes "a5") kind.Byte 12275)
    ∷ line 8 (codes "zygote") (verb.Array (codes "a6") kind.Byte 12275)
    ∷ line 9 (codes "zygote") (verb.Array (codes "a7") kind.Byte 12275)
    ∷ line 10 (codes "zygote") (verb.Array (codes "a8") kind.Byte 12275)
    ∷ line 11 (codes "zygote") (verb.Array (codes "a9") kind.Byte 12275)
    ∷ line 12 (codes "zygote") (verb.Array (codes "a10") kind.Byte 12275)
    ∷ line 13 (codes "zygote") (verb.Array (codes "a11") kind.Byte 12275)
    ∷ line 14 (codes "zygote") (verb.Array (codes "a12") kind.Byte 12275)
    ∷ line 15 (codes "zygote") (verb.Array (codes "a13") kind.Byte 12275)
    ∷ line 16 (codes "zygote") (verb.Array (codes "a14") kind.Byte 12275)
    ∷ line 17 (codes "zygote") (verb.Array (codes "a15") kind.Byte 12275)
    ∷ line 18 (codes "zygote") (verb.Array (codes "a16") kind.Byte 12275)
    ∷ line 19 (codes "zygote") (verb.Array (codes "a17") kind.Byte 12275)
    ∷ line 20 (codes "zygote") (verb.Array (codes "a18") kind.Byte 12275)
    ∷ line 21 (codes "zygote") (verb.Array (codes "a19") kind.Byte 12275)
    ∷ line 22 (codes "zygote") (verb.Array (codes "a20") kind.Byte 12275)
    ∷ line 23 (codes "zygote") (verb.Array (codes "a21") kind.Byte 12275)
    ∷ line 24 (codes "zygote") (verb.Drop (codes "a5"))
    ∷ line 25 (codes "zygote") (verb.Array (codes "a21") kind.Byte 12275)
    ∷ []

abbrev pub full_region_answers : List Answer
full_region_answers =
    answer 1 (reply.Done)
    ∷ answer 2 (reply.Made 1 false)
    ∷ answer 3 (reply.Made 2 false)
    ∷ answer 4 (reply.Made 3 false)
    ∷ answer 5 (reply.Made 4 false)
    ∷ answer 6 (reply.Made 5 false)
    ∷ answer 7 (reply.Made 6 false)
    ∷ answer 8 (reply.Made 7 false)
    ∷ answer 9 (reply.Made 8 false)
    ∷ answer 10 (reply.Made 9 false)
    ∷ answer 11 (reply.Made 10 false)
    ∷ answer 12 (reply.Made 11 false)
    ∷ answer 13 (reply.Made 12 false)
    ∷ answer 14 (reply.Made 13 false)
    ∷ answer 15 (reply.Made 14 false)
    ∷ answer 16 (reply.Made 15 false)
    ∷ answer 17 (reply.Made 16 false)
    ∷ answer 18 (reply.Made 17 false)
    ∷ answer 19 (reply.Made 18 false)
    ∷ answer 20 (reply.Made 19 false)
    ∷ answer 21 (reply.Made 20 false)
    ∷ answer 22 (reply.Made 21 false)
    ∷ answer 23 (reply.Refused (refusal.HeapFull 0 1))
    ∷ answer 24 (reply.Done)
    ∷ answer 25 (reply.Made 22 true)
    ∷ []

abbrev pub large_object_over_fork : List Line
large_object_over_fork =
    line 1 (codes "zygote") (verb.Seal)
    ∷ line 2 (codes "zygote") (verb.Array (codes "a") kind.Byte 1048564)
    ∷ line 3 (codes "zygote") (verb.Free)
    ∷ line 4 (codes "zygote") (verb.Fork (codes "c1"))
    ∷ line 5 (codes "c1") (verb.Put (codes "a") 5000 (value.Number (pos 1)))
    ∷ line 6 (codes "c1") (verb.Pages)
    ∷ line 7 (codes "zygote") (verb.Pages)
    ∷ line 8 (codes "zygote") (verb.Frames)
    ∷ line 9 (codes "zygote") (verb.At (codes "a") 5000)
    ∷ line 10 (codes "zygote") (verb.Drop (codes "a"))
    ∷ line 11 (codes "zygote") (verb.Gc)
    ∷ line 12 (codes "zygote") (verb.Free)
    ∷ []

abbrev pub large_object_over_fork_answers : List Answer
large_object_over_fork_answers =
    answer 1 (reply.Done)
    ∷ answer 2 (reply.Made 1 false)
    ∷ answer 3 (reply.Regions 60)
    ∷ answer 4 (reply.Done)
    ∷ answer 5 (reply.Done)
    ∷ answer 6 (reply.Pages 0 0 0 0 256 1)
    ∷ answer 7 (reply.Pages 0 0 0 0 256 0)
    ∷ answer 8 (reply.Frames 257)
    ∷ answer 9 (reply.Number (pos 0))
    ∷ answer 10 (reply.Done)
    ∷ answer 11 (reply.Kept 0 0)
    ∷ answer 12 (reply.Regions 60)
    ∷ []

abbrev pub dumps : List Line
dumps =
    line 1 (codes "zygote") (verb.Dump)
    ∷ line 2 (codes "zygote") (verb.Class (codes "P") (codes "java.lang.Object") (field (codes "x") kind.Int ∷ []))
    ∷ line 3 (codes "zygote") (verb.New (codes "a") (codes "P"))
    ∷ line 4 (codes "zygote") (verb.Seal)
    ∷ line 5 (codes "zygote") (verb.Dump)
    ∷ line 6 (codes "zygote") (verb.New (codes "b") (codes "P"))
    ∷ line 7 (codes "zygote") (verb.Dump)
    ∷ line 8 (codes "zygote") (verb.Fork (codes "c1"))
    ∷ line 9 (codes "c1") (verb.New (codes "d") (codes "P"))
    ∷ line 10 (codes "c1") (verb.Dump)
    ∷ []

abbrev pub dumps_answers : List Answer
dumps_answers =
    answer 1 (reply.Refused refusal.NotSealed)
    ∷ answer 2 (reply.Class 2)
    ∷ answer 3 (reply.Made 1 false)
    ∷ answer 4 (reply.Done)
    ∷ answer 5 (reply.Dumped 1 1)
    ∷ answer 6 (reply.Made 2 false)
    ∷ answer 7 (reply.Dumped 2 2)
    ∷ answer 8 (reply.Done)
    ∷ answer 9 (reply.Made 3 false)
    ∷ answer 10 (reply.Dumped 1 3)
    ∷ []
