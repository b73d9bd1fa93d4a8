-- What a space shows of its open segment. No public clause cites this module.
use Rattle.zygote_space.specs.declared.space.Segment.{Segment}
use Rattle.zygote_space.specs.Space.{Segment as Open}

abbrev pub shown_segment : Segment → Open
shown_segment segment = record { next = segment.next; rest = segment.rest }
