-- The lines that a feed hands out.
use Rattle.std.specs.Prelude.{ℕ, List, Option, None, Some}
use Rattle.script_lang.specs.declared.feed.Fed.{Fed}
use Rattle.script_lang.specs.declared.feed.Fed.TheVariants.{Line, TooLong}
use Rattle.script_lang.specs.Feeding.{FedLine, kept_line}

-- the line that is handed out: its number, and its bytes, or none where it is too long
abbrev pub fed_line : Fed → FedLine
fed_line (Line number bytes) = record { number = number; kept = kept_line bytes.now }
fed_line (TooLong number) = record { number = number; kept = None }

-- the bytes that are handed out, however many, or none where the line is told to be too long
abbrev pub fed_bytes : Fed → Option (List ℕ)
fed_bytes (Line number bytes) = Some bytes.now
fed_bytes (TooLong number) = None
