-- The bytes of frames.
use Rattle.std.specs.Prelude.{ℕ, ◌+◌, List, [], ◌++◌, length, map, take, drop, replicate, slice_index_or}
use Rattle.model_numbers.specs.Numbers.{page_bytes}
use Rattle.page_tables.specs.declared.frame.Frame.{Frame}

-- a frame of zeros
abbrev pub zero_frame : Frame
zero_frame = record { bytes = replicate page_bytes 0 }

-- the bytes of a frame
abbrev pub frame_bytes : List Frame → ℕ → List ℕ
frame_bytes frames f = slice_index_or (map (λ (it : Frame). it.bytes) frames) f []

-- a frame with the bytes of another
abbrev pub frame_of : List Frame → ℕ → Frame
frame_of frames f = record { bytes = frame_bytes frames f }

-- the bytes with these put in from an offset on
abbrev pub patched : List ℕ → ℕ → List ℕ → List ℕ
patched bytes offset new = take offset bytes ++ new ++ drop (offset + length new) bytes

-- so many of the bytes from an offset on
abbrev pub part_of : List ℕ → ℕ → ℕ → List ℕ
part_of bytes start count = take count (drop start bytes)
