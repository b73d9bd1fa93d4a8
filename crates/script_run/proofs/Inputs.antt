-- A run of a script from a source: how it begins, goes on, ends, and stops.
use Rattle.std.proofs.Common.{◌≡◌, ◌⊎◌, inl, inr, ℕ, ◌+◌, ◌<◌, ◌≤◌, Bool, true, false, List, [], ◌∷◌, ◌++◌, Option, Result, Ok, Err, MatchResult, length, map, take, drop, refl, sym, ◌∙◌, ap, subst, arith, append_assoc, length-append}
use Rattle.std.specs.Prelude.{nat_lt}
use Rattle.std.proofs.lemmas.Bool.{ltb-false}
use Rattle.std.proofs.lemmas.List.{append-nil, take-append-drop}
use Rattle.std.proofs.Math.Seq.{take-append-add}
use Rattle.ah_outside.specs.Outside.{FaultRose, Gave}
use Rattle.heap_world.specs.Isolation.{NoNameTaken}
use Rattle.heap_world.specs.World.{empty_world, first_world}
use Rattle.model_numbers.specs.Numbers.{input_limit, piece_bytes}
use Rattle.plain_machine.specs.Worlds.{Meaning, StandsFor}
use Rattle.script_lang.specs.Feeding.{Feed, fresh_feed}
use Rattle.script_lang.specs.Parts.{lines, whole_lines}
use Rattle.script_lang.proofs.PartsLemmas.{whole_lines-last}
use Rattle.script_report.specs.Own.{AreAloneIn, told_by_script}
use Rattle.script_report.specs.Report.{answers, last_world}
use Rattle.script_run.specs.declared.input.Progress.{Progress}
use Rattle.job_status.specs.declared.stop.Stop.{Stop}
use Rattle.job_status.specs.declared.stop.Stop.TheVariants.{Read, Write, Shelf, Memory, TooLong}
use Rattle.job_status.specs.Inputs.{NothingLeft}
use Rattle.script_run.specs.Ends.{CameTo, EndedRun, RanLines, StoppedForMemory, TookTooMany}
use Rattle.script_run.specs.Outside.{Outside, Output, Setting, outside_of}
use Rattle.script_run.specs.Progress.{HasRun, HasRunLines, HasTaken, StoppedIn, StoppedLast}
use Rattle.job_status.specs.Status.{job_status, refused_status, stop_status}
use Rattle.script_run.proofs.Dumps.{shelved-none}
use Rattle.job_status.proofs.Outside.{FaultRose-earlier, Gained-none, Gave-more, Gave-none}

-- no line was run
lines_begin : (s : Setting) (out : Output) (m : Meaning) → out.shelved.unfinished ≡ false → StandsFor m (first_world s.budget 1) → HasRunLines s [] false out (record out { machine = m })
lines_begin s out m finished stands = record {
  ran = record { report = Gained-none out.gained; dumps = shelved-none s.time out.shelved finished; stands = stands };
  refusals = refl;
  counted = omega arith;
  shelf_counted = omega arith;
}

-- a run that begins
abbrev pub started : Feed → Progress
started feed = record { feed = feed; room = input_limit; refused = false }

-- nothing was taken
pub turns_begin : (s : Setting) (feed : Feed) (left : Option (List ℕ)) (reads : ℕ) (out : Output) (m : Meaning)
    → feed ≡ fresh_feed → out.shelved.unfinished ≡ false → StandsFor m (first_world s.budget 1)
    → HasTaken s (started feed) (outside_of left reads out) (outside_of left reads (record out { machine = m }))
turns_begin s feed left reads out m fresh finished stands = record {
  text = [];
  gave = Gave-none left;
  fits = refl;
  has_run = record {
    done = [];
    part = [];
    cut = refl;
    number = ap (λ f. f.number) fresh;
    kept = ap (λ f. f.kept) fresh;
    has_run = lines_begin s out m finished stands;
  };
  counted = omega arith;
}

-- memory was wanting before the first line
pub not_begun : (s : Setting) (left : Option (List ℕ)) (reads : ℕ) (out : Output) (m : Meaning)
    → StandsFor m empty_world ⊎ StandsFor m (first_world s.budget 1) → StoppedForMemory s (outside_of left reads out) (outside_of left reads (record out { machine = m }))
not_begun s left reads out m stands = inl (record { nothing_taken = refl; nothing_put = Gained-none out.gained; nothing_shelved = refl; stands = stands })

-- bytes were taken and run
pub turn_goes_on : (s : Setting) (run run' : Progress) (bytes : List ℕ) (old mid new : Outside)
    → (h : HasTaken s run old mid) → Gave mid.left bytes new.left → mid.read_faults ≤ new.read_faults → run'.room + length bytes ≡ run.room
    → HasRun s (h.text ++ bytes) run'.feed run'.refused old.output new.output → HasTaken s run' old new
turn_goes_on s run run' bytes old mid new h gave falls fewer ran = record {
  text = h.text ++ bytes;
  gave = Gave-more old.left h.text mid.left bytes new.left h.gave gave;
  fits = omega (arith, h.fits, fewer, length-append h.text bytes);
  has_run = ran;
  counted = omega (arith, h.counted, falls);
}

-- nothing came
pub not_more : (n : ℕ) → nat_lt 0 n ≡ false → n ≡ 0
not_more n none = omega (arith, ltb-false 0 n none)

-- a read failed
pub turn_reads_no_more : (s : Setting) (run : Progress) (old mid new : Outside)
    → HasTaken s run old mid → new.left ≡ mid.left → new.output ≡ mid.output → mid.read_faults ≤ new.read_faults → FaultRose mid.read_faults new.read_faults
    → EndedRun s (stop_status Read) old new
turn_reads_no_more s run old mid new h same output falls rose = (
  record {
    taken = h.text;
    gave = subst (Gave old.left h.text) (sym same) h.gave;
    fits = omega (arith, h.fits);
    ran = subst (λ o. RanLines s (whole_lines h.text) old.output o) (sym output)
        (subst (λ ls. RanLines s ls old.output mid.output) (sym (whole_lines-last h.text h.has_run.done h.has_run.part h.has_run.cut)) h.has_run.has_run.ran);
  },
  FaultRose-earlier old.read_faults mid.read_faults new.read_faults h.counted falls rose,
)

-- how far a run came that stopped in what was taken last, of which the first bytes were run
module _ (s : Setting) (run : Progress) (taken : List ℕ) (k : ℕ) (old mid new : Outside) (h : HasTaken s run old mid) (gave : Gave mid.left taken new.left)
    (short : length taken ≤ piece_bytes) (room : length (take k taken) ≤ run.room) where
  all_given : Gave old.left (h.text ++ taken) new.left
  all_given = Gave-more old.left h.text mid.left taken new.left h.gave gave

  came_to : (stop : Stop) → (s : StoppedIn s (h.text ++ take k taken) (length (take k taken)) stop old.output new.output) → CameTo old new (s.before ++ s.line ∷ [])
  came_to stop s =
      let all : take k taken ++ drop k taken ≡ taken = take-append-drop k taken in
      let is : h.text ++ taken ≡ s.upto ++ (s.behind ++ drop k taken) = ap (λ (xs : List ℕ). h.text ++ xs) (sym all)
      ∙ (sym (append_assoc h.text (take k taken) (drop k taken)) ∙ (ap (λ (xs : List ℕ). xs ++ drop k taken) s.text_is ∙ append_assoc s.upto s.behind (drop k taken))) in
      record {
        upto = s.upto;
        behind = s.behind ++ drop k taken;
        gave = subst (λ (xs : List ℕ). Gave old.left xs new.left) is all_given;
        got = s.got;
        ended = inl s.ended;
        within = omega (arith, ap length s.text_is, length-append h.text (take k taken), length-append s.upto s.behind, h.fits, room);
        few = omega (arith, s.few, short, ap length all, length-append (take k taken) (drop k taken), length-append s.behind (drop k taken));
      }

  pub turn_stops : (stop : Stop) → StoppedIn s (h.text ++ take k taken) (length (take k taken)) stop old.output new.output → EndedRun s (stop_status stop) old new
  unfolding came_to
  turn_stops Read s = absurd s.stopped
  turn_stops Write s = (record { before = s.before; line = s.line; came = came_to Write s; put = s.stopped.0 }, s.stopped.1)
  turn_stops Shelf s = (record { before = s.before; line = s.line; came = came_to Shelf s; put = s.stopped.0 }, s.stopped.1)
  turn_stops Memory s = inr (record { before = s.before; line = s.line; came = came_to Memory s; put = s.stopped })
  turn_stops TooLong s = absurd s.stopped

-- there was room for the first bytes that were taken last, and not for all
pub takes_too_many : (s : Setting) (run : Progress) (taken : List ℕ) (feed : Feed) (refused : Bool) (old mid new : Outside)
    → (h : HasTaken s run old mid) → Gave mid.left taken new.left → run.room < length taken → length taken ≤ piece_bytes
    → HasRun s (h.text ++ take run.room taken) feed refused old.output new.output → TookTooMany s old new
takes_too_many s run taken feed refused old mid new h gave more short ran =
    let first : take input_limit (h.text ++ taken) ≡ h.text ++ take run.room taken = ap (λ n. take n (h.text ++ taken)) (sym h.fits) ∙ take-append-add h.text taken run.room in
    let whole : whole_lines (take input_limit (h.text ++ taken)) ≡ ran.done = ap whole_lines first ∙ whole_lines-last (h.text ++ take run.room taken) ran.done ran.part ran.cut in
    record {
      taken = h.text ++ taken;
      gave = Gave-more old.left h.text mid.left taken new.left h.gave gave;
      too_many = omega (arith, h.fits, more, length-append h.text taken);
      barely = omega (arith, h.fits, short, length-append h.text taken);
      ran = subst (λ ls. RanLines s ls old.output new.output) (sym whole) ran.has_run.ran;
    }

-- what the laws say of every script
pub record AreIsolated (budget : ℕ) : Type 0 where
  pub alone : (text : List ℕ) → NoNameTaken (answers budget text) → AreAloneIn budget text (told_by_script budget text)
  pub told : (text : List ℕ) → map (λ t. t.name) (told_by_script budget text) ≡ map (λ q. q.name) (last_world budget text).processes

-- the input was read to its end, and then its last line was run, or there was none, or it stopped
module _ (s : Setting) (run : Progress) (old mid new : Outside) (laws : AreIsolated s.budget) (h : HasTaken s run old mid) (left : new.left ≡ mid.left) (nothing : NothingLeft mid.left) where
  gave_all : Gave old.left h.text new.left
  gave_all = subst (Gave old.left h.text) (sym left) h.gave

  none_left : NothingLeft new.left
  none_left = subst NothingLeft (sym left) nothing

  run_ends : (refused : Bool) → HasRunLines s (lines h.text) refused old.output new.output → EndedRun s (refused_status refused) old new
  run_ends true ran =
      record { text = h.text; gave = gave_all; nothing_left = none_left; fits = omega (arith, h.fits); ran = ran.ran; refusals = ran.refusals; isolated = laws.alone h.text; told = laws.told h.text }
  run_ends false ran =
      record { text = h.text; gave = gave_all; nothing_left = none_left; fits = omega (arith, h.fits); ran = ran.ran; refusals = ran.refusals; isolated = laws.alone h.text; told = laws.told h.text }

  last_came : (ls : List (List ℕ)) → lines h.text ≡ ls → CameTo old new ls
  last_came ls got = record {
    upto = h.text;
    behind = [];
    gave = subst (λ (xs : List ℕ). Gave old.left xs new.left) (sym (append-nil h.text)) gave_all;
    got = got;
    ended = inr (refl, none_left);
    within = omega (arith, h.fits);
    few = omega arith;
  }

  last_stops : (stop : Stop) → StoppedLast s h.text stop old.output new.output → EndedRun s (stop_status stop) old new
  last_stops Read s = absurd s.stopped
  last_stops Write s = (record { before = s.before; line = s.line; came = last_came (s.before ++ s.line ∷ []) s.got; put = s.stopped.0 }, s.stopped.1)
  last_stops Shelf s = (record { before = s.before; line = s.line; came = last_came (s.before ++ s.line ∷ []) s.got; put = s.stopped.0 }, s.stopped.1)
  last_stops Memory s = inr (record { before = s.before; line = s.line; came = last_came (s.before ++ s.line ∷ []) s.got; put = s.stopped })
  last_stops TooLong s = absurd s.stopped

  pub run_over : (r : Result Bool Stop) → MatchResult r (λ b. HasRunLines s (lines h.text) b old.output new.output) (λ stop. StoppedLast s h.text stop old.output new.output)
      → EndedRun s (job_status r) old new
  run_over (Ok refused) ran = run_ends refused ran
  run_over (Err stop) s = last_stops stop s
