-- Lines and what they mean, and replies with their texts.
use Rattle.std.specs.Prelude.{ℕ, pos, negsuc, Bool, true, false, not, ◌&&◌, List, [], ◌∷◌, ◌++◌, Option, Some, Result, Ok, codes, replicate}
use Rattle.std.specs.List.{list_any}
use Rattle.class_layout.specs.declared.kind.Kind.TheVariants.{Ref, Boolean, Int, Long}
use Rattle.class_layout.specs.declared.kind.Value.TheVariants as value
use Rattle.class_layout.specs.Names.{same_name}
use Rattle.heap_world.specs.declared.command.Command.{Command}
use Rattle.heap_world.specs.declared.command.Verb.{Verb}
use Rattle.heap_world.specs.declared.command.Verb.TheVariants as verb
use Rattle.heap_world.specs.declared.reply.Reply.{Reply}
use Rattle.heap_world.specs.declared.reply.Reply.TheVariants as reply
use Rattle.heap_world.specs.declared.reply.Refusal.TheVariants as refusal
use Rattle.script_lang.specs.declared.read.LineError.{LineError}

-- a name of 128 bytes
abbrev pub long_name : List ℕ
long_name = replicate 128 97

-- a line of the process p, and what it asks
abbrev pub good_lines : List (List ℕ × Verb)
good_lines =
    (codes "p class A java.lang.Object", verb.Class (codes "A") (codes "java.lang.Object") [])
    ∷ (codes "p class a.B$1 A x:int _$:ref", verb.Class (codes "a.B$1") (codes "A") (record { name = codes "x"; kind = Int } ∷ record { name = codes "_$"; kind = Ref } ∷ []))
    ∷ (codes "p new a java.lang.ref.WeakReference", verb.New (codes "a") (codes "java.lang.ref.WeakReference"))
    ∷ (codes "p array a long 4294967295", verb.Array (codes "a") Long 4294967295)
    ∷ (codes "p array a boolean 0", verb.Array (codes "a") Boolean 0)
    ∷ (codes "p weak w a", verb.Weak (codes "w") (codes "a"))
    ∷ (codes "p set a x null", verb.Set (codes "a") (codes "x") value.Null)
    ∷ (codes "p set a x -9223372036854775808", verb.Set (codes "a") (codes "x") (value.Number (negsuc 9223372036854775807)))
    ∷ (codes "p set a x b", verb.Set (codes "a") (codes "x") (value.Root (codes "b")))
    ∷ (codes "p put a 10 9223372036854775807", verb.Put (codes "a") 10 (value.Number (pos 9223372036854775807)))
    ∷ (codes "p get a x", verb.Get (codes "a") (codes "x"))
    ∷ (codes "p at a 0", verb.At (codes "a") 0)
    ∷ (codes "p copy a b", verb.Copy (codes "a") (codes "b"))
    ∷ (codes "p load a b x", verb.Load (codes "a") (codes "b") (codes "x"))
    ∷ (codes "p loadat a b 7", verb.LoadAt (codes "a") (codes "b") 7)
    ∷ (codes "p show a", verb.Show (codes "a"))
    ∷ (codes "p drop " ++ long_name, verb.Drop long_name)
    ∷ (codes "p seal", verb.Seal)
    ∷ (codes "p gc", verb.Gc)
    ∷ (codes "p fork c1", verb.Fork (codes "c1"))
    ∷ (codes " \tp\t\texit  ", verb.Exit)
    ∷ (codes "p free\r", verb.Free)
    ∷ (codes "p pages \r", verb.Pages)
    ∷ (codes "p frames", verb.Frames)
    ∷ (codes "p dump", verb.Dump)
    ∷ []

-- what a line means that asks this of the process p
abbrev pub asked_of_p : Verb → Result (Option Command) LineError
asked_of_p v = Ok (Some (record { process = codes "p"; verb = v }))

-- lines without a reply
abbrev pub silent_lines : List (List ℕ)
silent_lines = [] ∷ codes "\r" ∷ codes " \t " ∷ codes "#" ∷ codes "  # p gc" ∷ codes "#p frob" ∷ []

-- bad lines
abbrev pub bad_lines : List (List ℕ)
bad_lines =
    codes "p"
    ∷ codes "p frob"
    ∷ codes "p dump a"
    ∷ codes "p GC"
    ∷ codes "p gc a"
    ∷ codes "p gc\r\r"
    ∷ codes "p gc\r "
    ∷ codes "null gc"
    ∷ codes "1p gc"
    ∷ codes "p new null A"
    ∷ codes "p new a"
    ∷ codes "p new a A b"
    ∷ codes "p new a_ 1A"
    ∷ codes "p new _a A"
    ∷ codes "p fork null"
    ∷ codes "p class A"
    ∷ codes "p class A B x"
    ∷ codes "p class A B x:int:int"
    ∷ codes "p class A B x:float"
    ∷ codes "p class A B :int"
    ∷ codes "p class A B x: int"
    ∷ codes "p array a float 3"
    ∷ codes "p array a int 4294967296"
    ∷ codes "p array a int 00"
    ∷ codes "p array a int 07"
    ∷ codes "p array a int -1"
    ∷ codes "p array a int 1x"
    ∷ codes "p at a +1"
    ∷ codes "p set a x -0"
    ∷ codes "p set a x -01"
    ∷ codes "p set a x 01"
    ∷ codes "p set a x -"
    ∷ codes "p set a x 9223372036854775808"
    ∷ codes "p set a x -9223372036854775809"
    ∷ codes "p set a x 18446744073709551616"
    ∷ codes "p get a x.y"
    ∷ codes "p get a 1"
    ∷ (codes "p drop a" ++ long_name)
    ∷ []

-- line numbers and replies, and their texts
abbrev pub replies : List ((ℕ × Reply) × List ℕ)
replies =
    ((1, reply.Class 65535), codes "1: class 65535\n")
    ∷ ((2, reply.Made 268435455 false), codes "2: #268435455\n")
    ∷ ((25, reply.Made 22 true), codes "25: #22 gc\n")
    ∷ ((3, reply.Done), codes "3: ok\n")
    ∷ ((4, reply.Number (negsuc 9223372036854775807)), codes "4: -9223372036854775808\n")
    ∷ ((5, reply.Number (pos 0)), codes "5: 0\n")
    ∷ ((6, reply.Null), codes "6: null\n")
    ∷ ((7, reply.Object 2), codes "7: #2\n")
    ∷ ((14, reply.Shown 2 (codes "java.lang.Object[]")), codes "14: #2 java.lang.Object[]\n")
    ∷ ((3536, reply.Kept 50 450), codes "3536: kept 50 freed 450\n")
    ∷ ((3, reply.Regions 63), codes "3: regions 63\n")
    ∷ ((6, reply.Pages 8 1 2 0 256 3), codes "6: image 8 1 zygote 2 0 large 256 3\n")
    ∷ ((3538, reply.Frames 14), codes "3538: frames 14\n")
    ∷ ((65, reply.Refused (refusal.ImageFull 67108864 8)), codes "65: E18 image full: fill 67108864 size 8\n")
    ∷ ((23, reply.Refused (refusal.HeapFull 0 1)), codes "23: E19 heap full: free 0 needed 1\n")
    ∷ ((1029, reply.Refused (refusal.ZygoteFull 268435456 8)), codes "1029: E20 zygote full: fill 268435456 total 8\n")
    ∷ ((18446744073709551615, reply.Refused refusal.NumberLimit), codes "18446744073709551615: E22 number limit\n")
    ∷ []

-- no word stands twice
abbrev pub are_different : List (List ℕ) → Bool
are_different [] = true
are_different (w ∷ ws) = not (list_any (same_name w) ws) && are_different ws
