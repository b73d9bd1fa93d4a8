-- What each process was told: a step of the world, and a line of its own in the world of its lines alone.
use Rattle.std.proofs.Common.{◌≡◌, ℕ, Bool, true, false, cond, List, [], ◌∷◌, ◌++◌, Some, map, codes, refl, sym, ap, ◌∙◌, subst, append_assoc, append-nil}
use Rattle.std.specs.List.{list_any}
use Rattle.std.specs.Option.{option_map}
use Rattle.class_layout.specs.Names.{same_name}
use Rattle.class_layout.proofs.Uniqueness.{names-same}
use Rattle.heap_world.specs.declared.command.Verb.{Verb}
use Rattle.heap_world.specs.declared.command.Verb.TheVariants as verb
use Rattle.heap_world.specs.declared.reply.Reply.{Reply}
use Rattle.heap_world.specs.Run.{Line, answers, step_line, world_after}
use Rattle.heap_world.specs.Isolation.{Told, AreAlone, NoNameTaken, child_told, first_told, own_answer, own_answers, part_of, refuses_name, tell, tell_if, told_after, told_by, told_named, told_of_fork, with_forked}
use Rattle.heap_world.specs.World.{Process, World, first_world, is_done}
use Rattle.heap_world.specs.Part.{first_part}
use Rattle.heap_world.proofs.Processes.{or_false, apart-symm}
use Rattle.heap_world.proofs.Alone.{Follows, IsAlike, OfChild, follows_other, own_step}

-- the world after one more line
world_after-push : (w : World) (ls : List Line) (l : Line) → world_after w (ls ++ l ∷ []) ≡ (step_line (world_after w ls) l).world
world_after-push w [] l = refl
world_after-push w (x ∷ ls) l = world_after-push (step_line w x).world ls l

-- the own answers with one more line
own_answers-push : (w : World) (ls : List Line) (l : Line) → own_answers w (ls ++ l ∷ []) ≡ own_answers w ls ++ own_answer l (step_line (world_after w ls) l).reply
own_answers-push w [] l = append-nil (own_answer l (step_line w l).reply)
own_answers-push w (x ∷ ls) l =
    let first = own_answer x (step_line w x).reply in
    let after = (step_line w x).world in
    ap (λ more. first ++ more) (own_answers-push after ls l)
    ∙ sym (append_assoc first (own_answers after ls) (own_answer l (step_line (world_after after ls) l).reply))

-- a world so far against that of a process's own lines alone
pub record IsKept (start w : World) (t : Told) : Type 0 where
  pub answers : t.answers ≡ own_answers start t.lines
  pub follows : Follows w (world_after start t.lines) t.name

-- the same of each process
abbrev pub AreKept : World → World → List Told → Type 0
AreKept start w [] = Unit {0}
AreKept start w (t ∷ ts) = IsKept start w t × AreKept start w ts

-- of two lists of processes, joined end to end
kept-append : (start w : World) (ts us : List Told) → AreKept start w ts → AreKept start w us → AreKept start w (ts ++ us)
kept-append start w [] us h k = k
kept-append start w (t ∷ ts) us h k = (h.0, kept-append start w ts us h.1 k)

module _ (start w : World) (l : Line) (fine : refuses_name (step_line w l).reply ≡ false) where
  -- the reply to the line, and the world after it
  abbrev reply : Reply
  reply = (step_line w l).reply

  abbrev next : World
  next = (step_line w l).world

  -- both worlds after an own line
  alike : (t : Told) → same_name t.name l.command.process ≡ true → IsKept start w t → IsAlike l.number l.command.verb t.name (step_line w l) (step_line (world_after start t.lines) l)
  alike t own k =
      let same : t.name ≡ l.command.process = names-same t.name l.command.process own in
      let f : Follows w (world_after start t.lines) l.command.process = subst (Follows w (world_after start t.lines)) same k.follows in
      subst (λ m. IsAlike l.number l.command.verb m (step_line w l) (step_line (world_after start t.lines) l)) (sym same) (own_step w (world_after start t.lines) l.number l.command f fine)

  -- what the own lines with one more answer
  told_answers : (t : Told) → same_name t.name l.command.process ≡ true → IsKept start w t → t.answers ++ own_answer l reply ≡ own_answers start (t.lines ++ l ∷ [])
  told_answers t own k =
      ap (λ more. more ++ own_answer l reply) k.answers
      ∙ ap (λ more. own_answers start t.lines ++ more) (alike t own k).answer
      ∙ sym (own_answers-push start t.lines l)

  -- one process after the line
  tell_kept : (b : Bool) (t : Told) → same_name t.name l.command.process ≡ b → IsKept start w t → IsKept start next (tell_if b l reply t)
  tell_kept true t own k =
      record {
        answers = told_answers t own k;
        follows = subst (λ a. Follows next a t.name) (sym (world_after-push start t.lines l)) (alike t own k).follows;
      }
  tell_kept false t own k =
      record {
        answers = k.answers;
        follows = follows_other w (world_after start t.lines) l.number l.command t.name (apart-symm t.name l.command.process own) k.follows;
      }

  -- each process after the line
  tells_kept : (ts : List Told) → AreKept start w ts → AreKept start next (map (tell l reply) ts)
  tells_kept [] h = tt
  tells_kept (t ∷ ts) h = (tell_kept (same_name t.name l.command.process) t refl h.0, tells_kept ts h.1)

  module _ (child : List ℕ) (is : l.command.verb ≡ verb.Fork child) (done : is_done reply ≡ true) where
    -- a fork's child
    child_kept : (t : Told) → same_name t.name l.command.process ≡ true → IsKept start w t →
        IsKept start next (record { name = child; lines = t.lines ++ l ∷ []; answers = t.answers ++ own_answer l reply })
    child_kept t own k =
        let a : World = world_after start t.lines in
        let of_child : OfChild (verb.Fork child) true (Follows next (step_line a l).world) =
        subst (λ b. OfChild (verb.Fork child) b (Follows next (step_line a l).world)) done
        (subst (λ v. OfChild v (is_done reply) (Follows next (step_line a l).world)) is (alike t own k).child) in
        record {
          answers = told_answers t own k;
          follows = subst (λ b. Follows next b child) (sym (world_after-push start t.lines l)) of_child;
        }

    -- what is added for the child
    children_kept : (ts : List Told) → AreKept start w ts → AreKept start next (child_told (told_named (map (tell l reply) ts) l.command.process) child)
    children_kept [] h = tt
    children_kept (t ∷ ts) h = by (same_name t.name l.command.process) refl (children_kept ts h.1)
      where
        by : (b : Bool) → same_name t.name l.command.process ≡ b → AreKept start next (child_told (told_named (map (tell l reply) ts) l.command.process) child) →
            AreKept start next (child_told (cond (same_name (tell_if b l reply t).name l.command.process) (Some (tell_if b l reply t)) (told_named (map (tell l reply) ts) l.command.process)) child)
        by true own later =
            subst (λ b. AreKept start next (child_told (cond b (Some (tell_if true l reply t)) (told_named (map (tell l reply) ts) l.command.process)) child)) (sym own) (child_kept t own h.0, tt)
        by false own later =
            subst (λ b. AreKept start next (child_told (cond b (Some t) (told_named (map (tell l reply) ts) l.command.process)) child)) (sym own) later

  -- all processes after the line
  step_kept : (ts : List Told) → AreKept start w ts → AreKept start next (told_by ts l reply)
  step_kept ts h = by l.command.verb refl
    where
      told : AreKept start next (map (tell l reply) ts)
      told = tells_kept ts h

      forked : (child : List ℕ) → l.command.verb ≡ verb.Fork child → (d : Bool) → is_done reply ≡ d → AreKept start next (told_of_fork d (map (tell l reply) ts) l.command.process child)
      forked child is true done = kept-append start next (map (tell l reply) ts) (child_told (told_named (map (tell l reply) ts) l.command.process) child) told (children_kept child is done ts h)
      forked child is false done = told

      by : (v : Verb) → l.command.verb ≡ v → AreKept start next (with_forked (map (tell l reply) ts) l v reply)
      by (verb.Fork child) is = forked child is (is_done reply) refl
      by v is = told

-- what is kept at the end is alone
kept_alone : (start w : World) (ts : List Told) → AreKept start w ts → AreAlone start w ts
kept_alone start w [] h = tt
kept_alone start w (t ∷ ts) h =
    let f = h.0.follows in
    let here : part_of w t.name ≡ Some f.here.part = ap (option_map (λ q. q.part)) f.here_is in
    let there : part_of (world_after start t.lines) t.name ≡ Some f.there.part = ap (option_map (λ q. q.part)) f.there_is in
    (record { answers = h.0.answers; part = here ∙ ap Some f.part ∙ sym there }, kept_alone start w ts h.1)

-- all lines
pub run_kept : (start w : World) (ts : List Told) (ls : List Line) → NoNameTaken (answers w ls) → AreKept start w ts → AreAlone start (world_after w ls) (told_after w ts ls)
run_kept start w ts [] fine h = kept_alone start w ts h
run_kept start w ts (l ∷ ls) fine h =
    let parts = or_false (refuses_name (step_line w l).reply) (list_any (λ a. refuses_name a.reply) (answers (step_line w l).world ls)) fine in
    run_kept start (step_line w l).world (told_by ts l (step_line w l).reply) ls parts.1 (step_kept start w l parts.0 ts h)

-- the first world
pub first_kept : (budget number : ℕ) → AreKept (first_world budget number) (first_world budget number) first_told
first_kept budget number =
    let q : Process = record { name = codes "zygote"; part = first_part budget number; labels = [] } in (
      record {
        answers = refl;
        follows = record { here = q; there = q; here_is = refl; there_is = refl; part = refl; names = λ m h. h };
      },
      tt,
    )
