use Rattle.std.proofs.Common.{◌≡◌, ◌+◌, Option, List, ℕ, length, true, false, Bool, refl, ap, sym, ◌∙◌, subst}
use Rattle.std.specs.Prelude.{if◌then◌else◌}
use mir.Val.{bool_byte}
use Rattle.script_lang.specs.Feeding.{Feed, taken, first_part, grown}
use Rattle.script_lang.specs.FeedState.{IsOneLine}
use Rattle.script_lang.proofs.FeedingLemmas.{OnePart-first_part, IsOneLine-grown, take-taken, length-taken-le, takes, ahead-feed}
use Rattle.script_lang.proofs.feed.LineFeed.feed.Goals as goal
use Rattle.script_lang.proofs.feed.LineFeed.feed.Goals.{After-from}

-- a line feed counts as one byte
bool_byte-if : (is : Bool) → bool_byte is ≡ (if is then 1 else 0)
bool_byte-if true = refl
bool_byte-if false = refl

-- how many bytes are taken
counted : (c : After-from) → length c.up_to_line_feed-is_whole.result.0.now + c.from.result ≡ length (taken c.args.piece.now)
counted c = rw (c.from.ensures, bool_byte-if c.up_to_line_feed-is_whole.result.1) (sym c.up_to_line_feed-is_whole.ensures.count)

pub invariant_of-self : goal.invariant_of-self
invariant_of-self c =
    let kept : c.grow.new.self ≡ grown c.self.inside.kept (first_part c.args.piece.now) =
    c.grow.ensures ∙ ap (grown c.self.inside.kept) c.up_to_line_feed-is_whole.ensures.part in
    let going : c.self.inside.is_ended ≡ false = ap (λ (feed : Feed). feed.ended) c.self.view_is ∙ c.requires.not_ended in
    let P : Option (List ℕ) → Type 0 = IsOneLine in (
      subst P (sym kept) (IsOneLine-grown c.self.inside.kept (first_part c.args.piece.now) c.self.invariant.0 (OnePart-first_part c.args.piece.now)),
      λ ended unfinished. absurd (let no : true ≡ false = sym ended ∙ going in cc),
    )

pub returns-clause-bytes : goal.returns-clause-bytes
returns-clause-bytes c = rw (counted c) (take-taken c.args.piece.now)

pub returns-clause-within : goal.returns-clause-within
returns-clause-within c = rw (counted c) (length-taken-le c.args.piece.now)

pub returns-clause-some : goal.returns-clause-some
returns-clause-some c = λ some. rw (counted c) ((takes c.args.piece.now).some some)

pub returns-clause-lines : goal.returns-clause-lines
returns-clause-lines c = λ rest.
    let old : Feed = record { number = c.self.inside.number; kept = c.self.inside.kept; whole = c.self.inside.is_whole; ended = c.self.inside.is_ended } in
    let whole : c.self.inside.is_whole ≡ false = ap (λ (feed : Feed). feed.whole) c.self.view_is ∙ c.requires.unfinished in
    rw (← c.self.view_is, counted c, c.grow.ensures, c.up_to_line_feed-is_whole.ensures.part, c.up_to_line_feed-is_whole.ensures.ended)
    (ahead-feed old c.args.piece.now rest whole c.self.invariant.0)
