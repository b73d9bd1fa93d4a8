-- The text of a reply.
use Rattle.std.specs.Prelude.{ℕ, Bool, true, false, List, [], ◌++◌, codes, decimal}
use Rattle.std.specs.Fmt.{signed_decimal}
use Rattle.heap_world.specs.declared.reply.Reply.{Reply}
use Rattle.heap_world.specs.declared.reply.Reply.TheVariants as reply
use Rattle.heap_world.specs.declared.reply.Refusal.{Refusal}
use Rattle.heap_world.specs.declared.reply.Refusal.TheVariants as refusal

-- the text of each refusal; where something is full, with its two numbers
abbrev pub refusal_text : Refusal → List ℕ
refusal_text refusal.BadLine = codes "E1 bad line"
refusal_text refusal.LineTooLong = codes "E2 line too long"
refusal_text refusal.NoProcess = codes "E3 no such process"
refusal_text refusal.Exited = codes "E4 process exited"
refusal_text refusal.ClassTaken = codes "E5 class taken"
refusal_text refusal.NoClass = codes "E6 no such class"
refusal_text refusal.ClassLimit = codes "E7 class limit"
refusal_text refusal.FieldTaken = codes "E8 field taken"
refusal_text refusal.NoRoot = codes "E9 no such root"
refusal_text refusal.Null = codes "E10 null"
refusal_text refusal.NoField = codes "E11 no such field"
refusal_text refusal.NotArray = codes "E12 not an array"
refusal_text refusal.IndexRange = codes "E13 index out of range"
refusal_text refusal.Misfit = codes "E14 value does not fit"
refusal_text refusal.Sealed = codes "E15 already sealed"
refusal_text refusal.NotSealed = codes "E16 not sealed"
refusal_text refusal.TooLarge = codes "E17 object too large"
refusal_text (refusal.ImageFull fill size) = codes "E18 image full: fill " ++ decimal fill ++ codes " size " ++ decimal size
refusal_text (refusal.HeapFull free needed) = codes "E19 heap full: free " ++ decimal free ++ codes " needed " ++ decimal needed
refusal_text (refusal.ZygoteFull fill total) = codes "E20 zygote full: fill " ++ decimal fill ++ codes " total " ++ decimal total
refusal_text refusal.ProcessTaken = codes "E21 process name taken"
refusal_text refusal.NumberLimit = codes "E22 number limit"

-- ` gc` where the process collected first
abbrev pub collected_mark : Bool → List ℕ
collected_mark true = codes " gc"
collected_mark false = []

-- the text of each reply
abbrev pub reply_words : Reply → List ℕ
reply_words (reply.Class id) = codes "class " ++ decimal id
reply_words (reply.Made number collected) = codes "#" ++ decimal number ++ collected_mark collected
reply_words reply.Done = codes "ok"
reply_words (reply.Number z) = signed_decimal z
reply_words reply.Null = codes "null"
reply_words (reply.Object number) = codes "#" ++ decimal number
reply_words (reply.Shown number class) = codes "#" ++ decimal number ++ codes " " ++ class
reply_words (reply.Kept kept freed) = codes "kept " ++ decimal kept ++ codes " freed " ++ decimal freed
reply_words (reply.Regions count) = codes "regions " ++ decimal count
reply_words (reply.Pages image image_written zygote zygote_written large large_written) =
    codes "image " ++ decimal image ++ codes " " ++ decimal image_written
    ++ codes " zygote " ++ decimal zygote ++ codes " " ++ decimal zygote_written
    ++ codes " large " ++ decimal large ++ codes " " ++ decimal large_written
reply_words (reply.Frames count) = codes "frames " ++ decimal count
reply_words (reply.Dumped count objects) = codes "dump " ++ decimal count ++ codes " objects " ++ decimal objects
reply_words (reply.Refused why) = refusal_text why

-- a line of the report: the line's number, the reply, and a line feed
abbrev pub reply_line : ℕ → Reply → List ℕ
reply_line line reply = decimal line ++ codes ": " ++ reply_words reply ++ codes "\n"
