-- What is counted of lines, line by line.
use Rattle.std.proofs.Common.{◌≡◌, ℕ, zero, suc, ◌+◌, ◌||◌, ◌<◌, Bool, true, false, inl, inr, List, [], ◌∷◌, ◌++◌, Option, None, Some, cond, filter, length, nat_lt, slice_get, take, refl, sym, ◌∙◌, ap, subst, arith, append_assoc, length-append, suc-add}
use Rattle.std.proofs.lemmas.Bool.Decides.{nat_tests}
use Rattle.std.proofs.lemmas.List.{append-nil, take_more}
use Rattle.std.proofs.lemmas.List.Elements.{filter-append}
use Rattle.std.proofs.lemmas.Option.{get_or_from_slice_get, slice_get_within}
use Rattle.ah_outside.specs.Outside.{FaultRose, Gained, GainedPrefix}
use Rattle.heap_world.specs.declared.reply.Reply.{Reply}
use Rattle.heap_world.specs.Effect.{is_refusal}
use Rattle.heap_world.specs.Run.{Answer}
use Rattle.heap_world.specs.World.{first_world}
use Rattle.plain_machine.specs.Worlds.{Meaning, StandsAmong, StandsFor}
use Rattle.script_make.specs.Lines.{made_line, next_state}
use Rattle.script_make.specs.Script.{made_lines, soak_lines, state_after}
use Rattle.script_make.specs.declared.state.MakeState.{MakeState}
use Rattle.job_status.specs.declared.status.Status.TheVariants.{WriteFault}
use Rattle.artheap_top.specs.declared.summary.Summary.{Summary}
use Rattle.artheap_top.specs.declared.tally.Tally.{Tally}
use Rattle.job_status.specs.Status.{refused_status}
use Rattle.script_report.specs.Report.{answers_of, has_refusal, step_line, with_answer, world_of}
use Rattle.artheap_top.specs.Soaking.{EndedSoak, HasSoaked, LeftBetween, counted, no_lines, one_more_if, SoakOutput}
use Rattle.artheap_top.specs.Summary.{collection_count, refusal_count, summary, summary_of, summary_text, tells_collection}
use Rattle.script_report.proofs.Reports.{answers-more, next_answers, world-more}
use Rattle.script_report.proofs.Wanting.{before_left, labels_of_lines}
use Rattle.script_report.specs.Wanting.{left_behind, left_between, line_left}
use Rattle.world_laws.specs.Labels.{AreEarlier}

-- how many of the answers with one more pass a test
count-more : (p : Answer → Bool) (budget : ℕ) (ls : List (List ℕ)) (l : List ℕ)
    → length (filter p (answers_of budget (ls ++ l ∷ []))) ≡ length (filter p (answers_of budget ls)) + length (filter p (next_answers budget ls l))
count-more p budget ls l =
    ap (λ given. length (filter p given)) (answers-more budget ls l)
    ∙ (ap length (filter-append p (answers_of budget ls) (next_answers budget ls l))
    ∙ length-append (filter p (answers_of budget ls)) (filter p (next_answers budget ls l)))

-- one answer is counted where it passes
count-one : (p : Answer → Bool) (a : Answer) (m : ℕ) → m + length (filter p (a ∷ [])) ≡ one_more_if (p a) m
count-one p a m = by (p a)
  where
    by : (b : Bool) → m + length (cond b (a ∷ []) []) ≡ one_more_if b m
    by true = refl
    by false = omega arith

count-none : (m : ℕ) → m + 0 ≡ m
count-none m = omega arith

-- what was counted of a line's answer
counted-refused : (n : ℕ) (o : Option Reply) (t : Tally) → t.refused + refusal_count (with_answer n o []) ≡ (counted t o).refused
counted-refused n None t = count-none t.refused
counted-refused n (Some r) t = count-one (λ a. is_refusal a.reply) (record { line = n; reply = r }) t.refused

counted-collections : (n : ℕ) (o : Option Reply) (t : Tally) → t.collections + collection_count (with_answer n o []) ≡ (counted t o).collections
counted-collections n None t = count-none t.collections
counted-collections n (Some r) t = count-one (λ a. tells_collection a.reply) (record { line = n; reply = r }) t.collections

counted-lines : (o : Option Reply) (t : Tally) → (counted t o).lines ≡ t.lines + 1
counted-lines None t = refl
counted-lines (Some r) t = refl

-- a line was run behind others, and counted
pub soaks_behind : (budget : ℕ) (before : List (List ℕ)) (line : List ℕ) (n : ℕ) (o : Option Reply) (t : Tally) (machine machine' : Meaning)
    → HasSoaked budget before t machine → n ≡ t.lines + 1 → o ≡ (step_line (world_of budget before) n line).reply
    → StandsFor machine' (step_line (world_of budget before) n line).world
    → HasSoaked budget (before ++ line ∷ []) (counted t o) machine'
soaks_behind budget before line n o t machine machine' had at is stands =
    let at' : n ≡ 1 + length before = omega (arith, at, had.lines) in
    let given : with_answer (1 + length before) o [] ≡ next_answers budget before line =
    ap (λ p. with_answer (1 + length before) p []) (subst (λ k. o ≡ (step_line (world_of budget before) k line).reply) at' is) in
    record {
      lines = counted-lines o t ∙ (ap (λ m. m + 1) had.lines ∙ sym (length-append before (line ∷ [])));
      refused = sym (counted-refused (1 + length before) o t)
          ∙ (ap (λ m. m + refusal_count (with_answer (1 + length before) o [])) had.refused
          ∙ (ap (λ xs. refusal_count (answers_of budget before) + refusal_count xs) given
          ∙ sym (count-more (λ a. is_refusal a.reply) budget before line)));
      collections = sym (counted-collections (1 + length before) o t)
          ∙ (ap (λ m. m + collection_count (with_answer (1 + length before) o [])) had.collections
          ∙ (ap (λ xs. collection_count (answers_of budget before) + collection_count xs) given
          ∙ sym (count-more (λ a. tells_collection a.reply) budget before line)));
      stands = subst (StandsFor machine') (sym (world-more budget before line))
          (subst (λ k. StandsFor machine' (step_line (world_of budget before) k line).world) at' stands);
    }

-- one more made line
pub made_lines-more : (n : ℕ) (s : MakeState) → made_lines (n + 1) s ≡ made_lines n s ++ made_line (state_after n s) ∷ []
made_lines-more zero s = refl
made_lines-more (suc n) s = rw suc-add (ap (λ ls. made_line s ∷ ls) (made_lines-more n (next_state s)))

pub state_after-more : (n : ℕ) (s : MakeState) → state_after (n + 1) s ≡ next_state (state_after n s)
state_after-more zero s = refl
state_after-more (suc n) s = rw suc-add (state_after-more n (next_state s))

some_above : (n : ℕ) → true ≡ nat_lt 0 (suc n)
some_above n = grind (arith, nat_tests)

-- some answer is a refusal where refusals were counted
pub refusals_tell : (given : List Answer) → has_refusal given ≡ nat_lt 0 (refusal_count given)
refusals_tell [] = refl
refusals_tell (a ∷ given) = by (is_refusal a.reply) (refusals_tell given)
  where
    refusals : List Answer
    refusals = filter (λ a. is_refusal a.reply) given

    by : (b : Bool) → has_refusal given ≡ nat_lt 0 (length refusals) → (b || has_refusal given) ≡ nat_lt 0 (length (cond b (a ∷ refusals) refusals))
    by true rest = some_above (length refusals)
    by false rest = rest

-- lines were run behind others, and one more
pub soaks_more : (budget : ℕ) (before ls : List (List ℕ)) (line : List ℕ) (ls' : List (List ℕ)) (t : Tally) (machine : Meaning)
    → ls' ≡ ls ++ line ∷ [] → HasSoaked budget ((before ++ ls) ++ line ∷ []) t machine → HasSoaked budget (before ++ ls') t machine
soaks_more budget before ls line ls' t machine is had =
    subst (λ xs. HasSoaked budget xs t machine) (append_assoc before ls (line ∷ []) ∙ ap (λ xs. before ++ xs) (sym is)) had

-- one more of a list's first elements
pub take-found : {X : Type 0} (xs : List X) (k : ℕ) (x : X) → slice_get xs k ≡ Some x → take (k + 1) xs ≡ take k xs ++ x ∷ []
take-found xs k x found = take_more xs k x (slice_get_within xs k x found) ∙ ap (λ y. take k xs ++ y ∷ []) (get_or_from_slice_get xs k x x found)

-- nothing was counted before the first line
pub soaks_begin : (budget : ℕ) (t : Tally) (machine : Meaning) → t ≡ no_lines → StandsFor machine (first_world budget 1) → HasSoaked budget [] t machine
soaks_begin budget t machine is stands = subst (λ u. HasSoaked budget [] u machine) (sym is) (record { lines = refl; refused = refl; collections = refl; stands = stands })

module _ (budget start count : ℕ) (t : Tally) (s : Summary) (old new : SoakOutput)
    (had : HasSoaked budget (soak_lines start count) t new.machine) (is : s ≡ summary_of budget start count (soak_lines start count)) where
  -- the summary was put whole
  pub soak_ends : Gained old.gained (summary_text s) new.gained → EndedSoak budget start count (refused_status (nat_lt 0 t.refused)) old new
  soak_ends put =
      by (nat_lt 0 t.refused) (refusals_tell (answers_of budget (soak_lines start count)) ∙ ap (nat_lt 0) (sym had.refused))
      (subst (λ u. Gained old.gained (summary_text u) new.gained) is put)
    where
      by : (b : Bool) → has_refusal (answers_of budget (soak_lines start count)) ≡ b → Gained old.gained (summary budget start count) new.gained
          → EndedSoak budget start count (refused_status b) old new
      by true e told = (told, record { refusals = e; stands = had.stands })
      by false e told = (told, record { refusals = e; stands = had.stands })

  -- or in part
  pub soak_stops : GainedPrefix old.gained (summary_text s) new.gained → FaultRose old.write_faults new.write_faults → EndedSoak budget start count WriteFault old new
  soak_stops put rose = (subst (λ u. GainedPrefix old.gained (summary_text u) new.gained) is put, had.stands, rose)

-- the next line's number is greater than those of all labels
pub next_is_later : (budget : ℕ) (before : List (List ℕ)) (t : Tally) (machine : Meaning) → HasSoaked budget before t machine → AreEarlier (t.lines + 1) (world_of budget before)
next_is_later budget before t machine had =
    let at : 1 + length before ≡ t.lines + 1 = omega (arith, had.lines) in
    subst (λ k. AreEarlier k (world_of budget before)) at (labels_of_lines budget before)

-- where memory was wanting for it, the machine stands for a world that it may leave
pub left_here : (budget : ℕ) (before : List (List ℕ)) (line : List ℕ) (t : Tally) (machine machine' : Meaning)
    → HasSoaked budget before t machine → StandsAmong machine' (line_left (world_of budget before) (t.lines + 1) line) → StandsAmong machine' (left_behind budget before line)
left_here budget before line t machine machine' had stands =
    let at : t.lines + 1 ≡ 1 + length before = omega (arith, had.lines) in
    subst (λ k. StandsAmong machine' (line_left (world_of budget before) k line)) at stands

-- a line that is found in a list stands between others
found_between : (xs : List (List ℕ)) (k : ℕ) (x : List ℕ) → slice_get xs k ≡ Some x → (rest : List (List ℕ)) × (xs ≡ take k xs ++ x ∷ rest)
found_between [] k x found = absurd cc
found_between (y ∷ ys) zero x found = let same : y ≡ x = cc in (ys, ap (λ (z : List ℕ). z ∷ ys) same)
found_between (y ∷ ys) (suc k) x found = let more = found_between ys k x found in (more.0, ap (λ (zs : List (List ℕ)). y ∷ zs) more.1)

-- so does each made line
made_between : (n count : ℕ) (s : MakeState) → n < count → (rest : List (List ℕ)) × (made_lines count s ≡ made_lines n s ++ made_line (state_after n s) ∷ rest)
made_between n zero s within = absurd (omega (arith, within))
made_between zero (suc count) s within = (made_lines count (next_state s), refl)
made_between (suc n) (suc count) s within =
    let more = made_between n count (next_state s) (omega (arith, within)) in
    (more.0, ap (λ (zs : List (List ℕ)). made_line s ∷ zs) more.1)

module _ (budget : ℕ) (before : List (List ℕ)) (machine : Meaning) where
  -- memory was wanting for one of the lines
  pub left_found : (ls : List (List ℕ)) (k : ℕ) (line : List ℕ) → slice_get ls k ≡ Some line → StandsAmong machine (left_behind budget (before ++ take k ls) line) → LeftBetween budget before ls machine
  left_found ls k line found stands =
      let more = found_between ls k line found in
      record { done = take k ls; rest = line ∷ more.0; are = more.1; stands = stands }

  pub left_made : (n count : ℕ) (s : MakeState) (line : List ℕ) → n < count → made_line (state_after n s) ≡ line → StandsAmong machine (left_behind budget (before ++ made_lines n s) line)
      → LeftBetween budget before (made_lines count s) machine
  left_made n count s line within is stands =
      let more = made_between n count s within in
      record { done = made_lines n s; rest = line ∷ more.0; are = more.1 ∙ ap (λ (l : List ℕ). made_lines n s ++ l ∷ more.0) is; stands = stands }

  -- with more lines behind, and in front
  pub left_more : (ls more : List (List ℕ)) → LeftBetween budget before ls machine → LeftBetween budget before (ls ++ more) machine
  left_more ls more left = record {
    done = left.done;
    rest = left.rest ++ more;
    are = ap (λ (xs : List (List ℕ)). xs ++ more) left.are ∙ append_assoc left.done left.rest more;
    stands = by left.rest left.stands;
  }
    where
      done : List (List ℕ)
      done = before ++ left.done

      begun : (xs : List (List ℕ)) → StandsFor machine (world_of budget done) → StandsAmong machine (left_between budget done xs)
      begun [] stands = (world_of budget done, inl refl, stands)
      begun (line ∷ xs) stands = (world_of budget done, before_left (world_of budget done) (1 + length done) line, stands)

      by : (rest : List (List ℕ)) → StandsAmong machine (left_between budget done rest) → StandsAmong machine (left_between budget done (rest ++ more))
      by [] (w, inl same, stands) = begun more (subst (StandsFor machine) (sym same) stands)
      by [] (w, inr none, stands) = absurd none
      by (line ∷ rest) stands = stands

  pub left_behind_lines : (first ls : List (List ℕ)) → LeftBetween budget (before ++ first) ls machine → LeftBetween budget before (first ++ ls) machine
  left_behind_lines first ls left = record {
    done = first ++ left.done;
    rest = left.rest;
    are = ap (λ (xs : List (List ℕ)). first ++ xs) left.are ∙ sym (append_assoc first left.done left.rest);
    stands = subst (λ xs. StandsAmong machine (left_between budget xs left.rest)) (append_assoc before first left.done) left.stands;
  }

  -- after all lines
  pub left_after : (ls : List (List ℕ)) → StandsFor machine (world_of budget (before ++ ls)) → LeftBetween budget before ls machine
  left_after ls stands = record { done = ls; rest = []; are = sym (append-nil ls); stands = (world_of budget (before ++ ls), inl refl, stands) }
