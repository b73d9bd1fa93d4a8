-- A run of a script goes on by what a feed takes of a piece.
use Rattle.std.proofs.Common.{◌≡◌, ℕ, ◌+◌, ◌-◌, ◌<◌, ◌||◌, Bool, true, false, List, [], ◌∷◌, ◌++◌, Some, length, length-drop, take, drop, refl, sym, ◌∙◌, ap, subst, arith, append_assoc, length-append}
use Rattle.std.proofs.lemmas.List.{append-nil, take-append-drop, take_all}
use Rattle.std.proofs.Math.Seq.{take-add}
use Rattle.std.specs.Prelude.{if◌then◌else◌}
use Rattle.script_lang.specs.Feeding.{Feed, first_part, has_line_feed, kept_line, taken}
use Rattle.script_lang.specs.Parts.{is_byte, parts}
use Rattle.script_lang.proofs.FeedingLemmas.{OnePart-first_part, parts-ended, take-taken}
use Rattle.script_lang.proofs.PartsLemmas.{lines-ended, parts-append, whole_lines-last}
use Rattle.job_status.specs.declared.stop.Stop.{Stop}
use Rattle.script_run.specs.Outside.{Output, Setting}
use Rattle.script_run.specs.Progress.{HasRun, HasRunLines, StoppedBehind, StoppedIn}

-- without a line feed, what is taken is one part
taken_open : (piece : List ℕ) → has_line_feed piece ≡ false → parts (is_byte 10) (taken piece) ≡ first_part piece ∷ []
taken_open piece none =
    ap (λ b. parts (is_byte 10) (first_part piece ++ (if b then 10 ∷ [] else []))) none
    ∙ (ap (parts (is_byte 10)) (append-nil (first_part piece)) ∙ OnePart-first_part piece)

-- with one, it is a part, and the start of the next
taken_whole : (piece : List ℕ) → has_line_feed piece ≡ true → parts (is_byte 10) (taken piece) ≡ first_part piece ∷ [] ∷ []
taken_whole piece one =
    ap (λ b. parts (is_byte 10) (first_part piece ++ (if b then 10 ∷ [] else []))) one
    ∙ parts-ended (first_part piece) [] (OnePart-first_part piece)

or_false : (b : Bool) → (b || false) ≡ b
or_false true = refl
or_false false = refl

-- no line came whole
pub fed_open : (s : Setting) (text piece : List ℕ) (feed feed' : Feed) (refused : Bool) (old new : Output)
    → HasRun s text feed refused old new → has_line_feed piece ≡ false → feed'.number ≡ feed.number
    → ((part : List ℕ) → feed.kept ≡ kept_line part → feed'.kept ≡ kept_line (part ++ first_part piece))
    → HasRun s (text ++ taken piece) feed' (refused || false) old new
fed_open s text piece feed feed' refused old new h none number kept = record {
  done = h.done;
  part = h.part ++ first_part piece;
  cut = parts-append (is_byte 10) text (taken piece) h.done h.part (first_part piece) [] h.cut (taken_open piece none);
  number = number ∙ h.number;
  kept = kept h.part h.kept;
  has_run = subst (λ b. HasRunLines s h.done b old new) (sym (or_false refused)) h.has_run;
}

-- the parts of a text and what is taken behind it, where a line came whole
whole_cut : (text piece : List ℕ) (done : List (List ℕ)) (part : List ℕ) → parts (is_byte 10) text ≡ done ++ part ∷ [] → has_line_feed piece ≡ true
    → parts (is_byte 10) (text ++ taken piece) ≡ (done ++ (part ++ first_part piece) ∷ []) ++ [] ∷ []
whole_cut text piece done part cut one =
    parts-append (is_byte 10) text (taken piece) done part (first_part piece) ([] ∷ []) cut (taken_whole piece one)
    ∙ sym (append_assoc done ((part ++ first_part piece) ∷ []) ([] ∷ []))

-- a line came whole and was run
pub fed_whole : (s : Setting) (text piece : List ℕ) (feed feed' : Feed) (refused refused' : Bool) (old mid new : Output)
    → (h : HasRun s text feed refused old mid) → has_line_feed piece ≡ true → feed'.number ≡ feed.number + 1 → feed'.kept ≡ Some []
    → HasRunLines s (h.done ++ (h.part ++ first_part piece) ∷ []) refused' old new
    → HasRun s (text ++ taken piece) feed' refused' old new
fed_whole s text piece feed feed' refused refused' old mid new h one number kept has_run = record {
  done = h.done ++ (h.part ++ first_part piece) ∷ [];
  part = [];
  cut = whole_cut text piece h.done h.part h.cut one;
  number = omega (arith, number, h.number, length-append h.done ((h.part ++ first_part piece) ∷ []));
  kept = kept;
  has_run = has_run;
}

-- a line came whole and stopped
pub fed_stopped : (stop : Stop) (s : Setting) (text piece : List ℕ) (feed : Feed) (refused : Bool) (old mid new : Output)
    → (h : HasRun s text feed refused old mid) → has_line_feed piece ≡ true → 0 < length (taken piece)
    → StoppedBehind stop s h.done (h.part ++ first_part piece) old new
    → StoppedIn s (text ++ piece) (length piece) stop old new
fed_stopped stop s text piece feed refused old mid new h one some stopped =
    let n = length (taken piece) in
    let all : taken piece ++ drop n piece ≡ piece = ap (λ (xs : List ℕ). xs ++ drop n piece) (sym (take-taken piece)) ∙ take-append-drop n piece in
    record {
      before = h.done;
      line = h.part ++ first_part piece;
      upto = text ++ taken piece;
      behind = drop n piece;
      text_is = ap (λ (xs : List ℕ). text ++ xs) (sym all) ∙ sym (append_assoc text (taken piece) (drop n piece));
      got = lines-ended (text ++ taken piece) (h.done ++ (h.part ++ first_part piece) ∷ []) (whole_cut text piece h.done h.part h.cut one);
      ended = whole_lines-last (text ++ taken piece) (h.done ++ (h.part ++ first_part piece) ∷ []) [] (whole_cut text piece h.done h.part h.cut one);
      few = omega (arith, some, ap length all, length-append (taken piece) (drop n piece));
      stopped = stopped;
    }

-- one way or the other
pub by_truth : {P : Type 0} (b : Bool) → (b ≡ true → P) → (b ≡ false → P) → P
by_truth true yes_ no_ = yes_ refl
by_truth false yes_ no_ = no_ refl

or_more : (a b c : Bool) → ((a || b) || c) ≡ (a || (b || c))
or_more true b c = refl
or_more false b c = refl

-- more of a piece was fed
pub run_more : (s : Setting) (text piece rest : List ℕ) (k n : ℕ) (feed : Feed) (a b c : Bool) (old new : Output)
    → rest ≡ drop k piece → HasRun s ((text ++ take k piece) ++ take n rest) feed ((a || b) || c) old new
    → HasRun s (text ++ take (k + n) piece) feed (a || (b || c)) old new
run_more s text piece rest k n feed a b c old new is h =
    let e : (text ++ take k piece) ++ take n rest ≡ text ++ take (k + n) piece =
    append_assoc text (take k piece) (take n rest) ∙ (ap (λ (xs : List ℕ). text ++ (take k piece ++ take n xs)) is ∙ ap (λ (xs : List ℕ). text ++ xs) (sym (take-add k n piece))) in
    subst (λ (xs : List ℕ). HasRun s xs feed (a || (b || c)) old new) e (subst (λ r. HasRun s ((text ++ take k piece) ++ take n rest) feed r old new) (or_more a b c) h)

-- the rest of a list, as a slice
pub rest_of : (k : ℕ) (xs : List ℕ) → take (length xs - k) (drop k xs) ≡ drop k xs
rest_of k xs = take_all (length xs - k) (drop k xs) (omega (arith, length-drop k xs))

-- a stop in what was left of a piece is one in the piece
pub stop_more : (stop : Stop) (s : Setting) (text piece rest : List ℕ) (k : ℕ) (old new : Output)
    → rest ≡ drop k piece → StoppedIn s ((text ++ take k piece) ++ rest) (length rest) stop old new
    → StoppedIn s (text ++ piece) (length piece) stop old new
stop_more stop s text piece rest k old new is h = record {
  before = h.before;
  line = h.line;
  upto = h.upto;
  behind = h.behind;
  text_is = ap (λ (xs : List ℕ). text ++ xs) (sym (take-append-drop k piece)) ∙ (sym (append_assoc text (take k piece) (drop k piece)) ∙ (ap (λ (xs : List ℕ). (text ++ take k piece) ++ xs) (sym is) ∙ h.text_is));
  got = h.got;
  ended = h.ended;
  few = omega (arith, h.few, ap length is, length-drop k piece);
  stopped = h.stopped;
}
