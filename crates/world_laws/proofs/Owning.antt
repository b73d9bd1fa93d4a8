-- Pages that are a process's own, and what two processes have in common.
use Rattle.std.proofs.Common.{◌≡◌, ◌≢◌, ◌⊎◌, ℕ, ◌+◌, ◌<◌, ◌≤◌, Bool, true, false, true≢false, inl, inr, List, [], ◌∷◌, ◌++◌, Some, refl, sym, ap, subst, ◌∙◌, arith}
use Rattle.std.specs.List.{AllByRecursion}
use Rattle.std.proofs.lemmas.Option.{same_Some}
use Rattle.model_numbers.specs.Numbers.{page_bytes}
use Rattle.class_layout.specs.Names.{same_name}
use Rattle.class_layout.specs.Placing.{IsIn}
use Rattle.class_layout.proofs.Uniqueness.{same_name-refl}
use Rattle.heap_graph.specs.Fork.{promoted}
use Rattle.heap_graph.specs.Collection.{collect}
use Rattle.heap_graph.specs.Graph.{Object}
use Rattle.heap_graph.specs.Sizes.{parts_for}
use Rattle.heap_graph.proofs.LaidOut.{all-weaken}
use Rattle.heap_world.specs.declared.command.Command.{Command}
use Rattle.heap_world.specs.declared.names.Label.{Label}
use Rattle.heap_world.specs.declared.names.PageName.{PageName}
use Rattle.heap_world.specs.declared.names.PageName.TheVariants.{Large}
use Rattle.heap_world.specs.Acts.{act, fork_part}
use Rattle.heap_world.specs.Effect.{Effect}
use Rattle.heap_graph.specs.Formed.{AreRising, IsFormed}
use Rattle.heap_world.specs.Commands.{HasFewFields}
use Rattle.heap_world.specs.Pages.{is_touched}
use Rattle.heap_world.specs.World.{Process, World, child_process, is_done, label_of, process_after, step, stepped}
use Rattle.heap_world.proofs.Processes.{apart-symm}
use Rattle.heap_world.proofs.SoundActs.{fork_sound}
use Rattle.heap_world.proofs.Standing.{in-left, in-right}
use Rattle.world_laws.specs.Labels.{AreAlike, AreEarlier, EachTwo, HasEarlier, HaveLikeLarge, HaveOwnLines, IsOwn, OwnLines}
use Rattle.world_laws.specs.Named.{waits}
use Rattle.world_laws.specs.Worlds.{IsSoundWorld}
use Rattle.world_laws.proofs.Behaving.{Behaves, behaves_act, behaves_fork}
use Rattle.world_laws.proofs.Labelling.{label_has, label_new, label_old, labelled_all}
use Rattle.world_laws.proofs.Promoting.{none_wait}
use Rattle.world_laws.proofs.Stepping.{in_more, in_put, named_in, step_walk}
use Rattle.world_laws.proofs.Walk.{fork_walk}

-- what holds of each two processes holds of each two after a put, and with one more
pairs_put : (R : Process → Process → Type 0) (w : World) (n : ℕ) (q : Process) (e : Effect)
    → ((r : Process) → IsIn r w.processes → same_name r.name q.name ≡ false → R (process_after n e q) r × R r (process_after n e q)) → EachTwo w R → EachTwo (stepped w n q e).world R
pairs_put R w n q e new two a b in_a in_b apart =
    let after : Process = process_after n e q in
    elim (in_put w.processes after a in_a) [
      | inl x ↦ elim (in_put w.processes after b in_b) [
        | inl y ↦ absurd (true≢false (sym (same_name-refl q.name) ∙ ap (λ (c : Process). same_name q.name c.name) y ∙ ap (λ (c : Process). same_name c.name b.name) x ∙ apart))
        | inr y ↦ subst (λ c. R c b) x (new b y.0 y.1).0
      ]
      | inr x ↦ elim (in_put w.processes after b in_b) [
        | inl y ↦ subst (λ c. R a c) y (new a x.0 x.1).1
        | inr y ↦ two a b x.0 y.0 apart
      ]
    ]

pairs_more : (R : Process → Process → Type 0) (w : World) (child : Process) → ((r : Process) → IsIn r w.processes → R child r × R r child) → EachTwo w R
    → (a b : Process) → IsIn a (w.processes ++ child ∷ []) → IsIn b (w.processes ++ child ∷ []) → same_name a.name b.name ≡ false → R a b
pairs_more R w child new two a b in_a in_b apart = elim (in_more w.processes child a in_a) [
  | inl x ↦ elim (in_more w.processes child b in_b) [
    | inl y ↦ two a b x y apart
    | inr y ↦ subst (λ c. R a c) y (new a x).1
  ]
  | inr x ↦ elim (in_more w.processes child b in_b) [
    | inl y ↦ subst (λ c. R c b) x (new b y).0
    | inr y ↦ absurd (true≢false (sym (same_name-refl child.name) ∙ ap (λ (c : Process). same_name child.name c.name) y ∙ ap (λ (c : Process). same_name c.name b.name) x ∙ apart))
  ]
]

-- a relation of two processes over a step: of what an effect leaves and another process, and of a child and any
pub pairs_step : (R : Process → Process → Type 0) (w : World) (n : ℕ) (c : Command) → HasFewFields c.verb → IsSoundWorld w
    → ((q r : Process) (e : Effect) → IsIn q w.processes → IsIn r w.processes → same_name r.name q.name ≡ false → Behaves q.part e → R (process_after n e q) r × R r (process_after n e q))
    → ((q : Process) (name : List ℕ) → IsIn q w.processes → q.part.graph.sealed ≡ true → is_done (fork_part q.part).reply ≡ true
    → let after = process_after n (fork_part q.part) q in
    (R (child_process after name) after × R after (child_process after name)) × ((r : Process) → R after r × R r after → R (child_process after name) r × R r (child_process after name)))
    → EachTwo w R → EachTwo (step w n c).world R
pairs_step R w n c few sound after child two = step_walk w n c (λ s. EachTwo s.world R) (record {
  refusing = λ why left. two;
  frames = two;
  acts = λ q is lives. let there = named_in w.processes c.process q is in pairs_put R w n q (act q.part c.verb) (λ r other apart. after q r (act q.part c.verb) there other apart (behaves_act q.part c.verb few (sound.sound q there).formed)) two;
  forks = λ q name is sealed free done.
      let there = named_in w.processes c.process q is in
      let e : Effect = fork_part q.part in
      let b = behaves_fork q.part sealed (sound.sound q there).formed in
      let new = child q name there sealed done in
      pairs_more R (stepped w n q e).world (child_process (process_after n e q) name)
      (λ r in_r. elim (in_put w.processes (process_after n e q) r in_r) [
        | inl same ↦ subst (λ x. R (child_process (process_after n e q) name) x × R x (child_process (process_after n e q) name)) same new.0
        | inr x ↦ new.1 r (after q r e there x.0 x.1 b)
      ])
      (pairs_put R w n q e (λ r other apart. after q r e there other apart b) two);
  unforked = λ q is sealed full. let there = named_in w.processes c.process q is in pairs_put R w n q (fork_part q.part) (λ r other apart. after q r (fork_part q.part) there other apart (behaves_fork q.part sealed (sound.sound q there).formed)) two;
})

-- a page that a process owns after an effect, and that the effect did not label, was its own
own_before : (n : ℕ) (q : Process) (e : Effect) → Behaves q.part e → (a : PageName) → is_touched (e.made ++ e.first) a ≡ false → IsOwn (process_after n e q) a → IsOwn q a
own_before n q e b a unchanged (inl waiting) = elim (b.names.waiting a waiting) [
  | inl was ↦ inl was
  | inr made ↦ absurd (true≢false (sym (in-left e.made e.first a made) ∙ unchanged))
]
own_before n q e b a unchanged (inr touched) = elim (b.touched a touched) [
  | inl first ↦ absurd (true≢false (sym (in-right e.made e.first a first) ∙ unchanged))
  | inr was ↦ inr was
]

-- a forked process, and its child, own nothing
owns_none : (n : ℕ) (q : Process) → is_done (fork_part q.part).reply ≡ true → (a : PageName) → IsOwn (process_after n (fork_part q.part) q) a → ⊥
owns_none n q = fork_walk q.part (λ e. is_done e.reply ≡ true → (a : PageName) → IsOwn (process_after n e q) a → ⊥)
    (λ room done a. none a)
    (λ full done. absurd (true≢false (sym done)))
  where
    none : (a : PageName) → (waits (promoted (collect q.part.graph)) a ≡ true) ⊎ (is_touched [] a ≡ true) → ⊥
    none a (inl waiting) = true≢false (sym waiting ∙ none_wait (collect q.part.graph) a)
    none a (inr touched) = true≢false (sym touched)

-- own lines
lines_after : (n : ℕ) (q r : Process) (e : Effect) → Behaves q.part e → HasEarlier n r → OwnLines q r → OwnLines (process_after n e q) r
lines_after n q r e b earlier lines a l own is = by (is_touched (e.made ++ e.first) a) refl
  where
    by : (c : Bool) → is_touched (e.made ++ e.first) a ≡ c → AllByRecursion (λ m. m.line ≢ l.line) r.labels
    by true changed =
        let same : record { page = a; line = n } ≡ l = same_Some (record { page = a; line = n }) l (sym (label_new n (e.made ++ e.first) q.labels a changed) ∙ is) in
        let line : n ≡ l.line = ap (λ (m : Label). m.line) same in
        all-weaken (λ m. m.line < n) (λ m. m.line ≢ l.line) (λ m less equal. omega (arith, less, equal, line)) r.labels earlier
    by false unchanged = lines a l (own_before n q e b a unchanged own) (sym (label_old n (e.made ++ e.first) q.labels a unchanged) ∙ is)

lines_other : (n : ℕ) (q r : Process) (e : Effect) → HasEarlier n r → OwnLines r q → OwnLines r (process_after n e q)
lines_other n q r e earlier lines a l own is =
    let less : l.line < n = label_has (λ m. m.line < n) r.labels a l earlier is in
    labelled_all (λ m. m.line ≢ l.line) n (e.made ++ e.first) q.labels (λ c equal. omega (arith, less, equal)) (lines a l own is)

pub step_own_lines : (w : World) (n : ℕ) (c : Command) → HasFewFields c.verb → IsSoundWorld w → AreEarlier n w → HaveOwnLines w → HaveOwnLines (step w n c).world
step_own_lines w n c few sound earlier lines = pairs_step OwnLines w n c few sound
    (λ q r e in_q in_r apart b.
    (lines_after n q r e b (earlier r in_r) (lines q r in_q in_r (apart-symm r.name q.name apart)), lines_other n q r e (earlier r in_r) (lines r q in_r in_q apart)))
    (λ q name in_q sealed done.
    let none = owns_none n q done in
    ((λ a l own is. absurd (none a own), λ a l own is. absurd (none a own)), λ r two. (λ a l own is. absurd (none a own), two.1)))
    lines

pub own_apart : (w : World) (q r : Process) (a b : PageName) (l m : Label) → HaveOwnLines w → IsIn q w.processes → IsIn r w.processes → same_name q.name r.name ≡ false → IsOwn q a → label_of q.labels a ≡ Some l
    → label_of r.labels b ≡ Some m → m.line ≢ l.line
own_apart w q r a b l m lines in_q in_r apart own is other = label_has (λ x. x.line ≢ l.line) r.labels b m (lines q r in_q in_r apart a l own is) other

-- rising numbers lie from the first one on
number_from : (low next : ℕ) (os : List Object) (x : Object) → AreRising low next os → IsIn x os → low ≤ x.number
number_from low next [] x rising there = absurd there
number_from low next (z ∷ os) x rising (inl e) = subst (λ (u : Object). low ≤ u.number) e rising.0
number_from low next (z ∷ os) x rising (inr there) = omega (arith, rising.0, number_from (z.number + 1) next os x rising.1 there)

-- two objects of one number are one
one_number : (low next : ℕ) (os : List Object) (o x : Object) → AreRising low next os → IsIn o os → IsIn x os → o.number ≡ x.number → o ≡ x
one_number low next [] o x rising in_o in_x e = absurd in_o
one_number low next (y ∷ os) o x rising (inl a) (inl b) e = sym a ∙ b
one_number low next (y ∷ os) o x rising (inl a) (inr in_x) e =
    let number : y.number ≡ x.number = ap (λ (z : Object). z.number) a ∙ e in absurd (omega (arith, number, number_from (y.number + 1) next os x rising.1 in_x))
one_number low next (y ∷ os) o x rising (inr in_o) (inl b) e =
    let number : y.number ≡ o.number = ap (λ (z : Object). z.number) b ∙ sym e in absurd (omega (arith, number, number_from (y.number + 1) next os o rising.1 in_o))
one_number low next (y ∷ os) o x rising (inr in_o) (inr in_x) e = one_number (y.number + 1) next os o x rising.1 in_o in_x e

-- objects of one label
module _ (n : ℕ) (q r : Process) (e : Effect) (b : Behaves q.part e) (earlier : HasEarlier n r) where
  abbrev changed : List PageName
  changed = e.made ++ e.first

  abbrev after : Process
  after = process_after n e q

  -- a label that both have is not of this line
  unlabelled : (a : PageName) (l : Label) → label_of after.labels a ≡ Some l → label_of r.labels a ≡ Some l → is_touched changed a ≡ false
  unlabelled a l mine its = by (is_touched changed a) refl
    where
      by : (c : Bool) → is_touched changed a ≡ c → c ≡ false
      by true h =
          let line : n ≡ l.line = ap (λ (m : Label). m.line) (same_Some (record { page = a; line = n }) l (sym (label_new n changed q.labels a h) ∙ mine)) in
          absurd (omega (arith, line, label_has (λ m. m.line < n) r.labels a l earlier its))
      by false h = refl

  alike_after : AreAlike q r → AreAlike after r
  alike_after alike o x k l in_o in_x number slot_o slot_x less_o less_x mine its =
      let apart : is_touched changed (Large o.number k) ≡ false = unlabelled (Large o.number k) l mine its in
      elim (b.large o in_o slot_o) [
        | inl s ↦
            let was : label_of q.labels (Large o.number k) ≡ Some l = sym (label_old n changed q.labels (Large o.number k) apart) ∙ mine in
            s.2.shape
            ∙ alike s.0 x k l s.1 in_x (sym s.2.number ∙ number) (s.2.slot slot_o) slot_x (subst (λ m. k < parts_for page_bytes m) s.2.bytes less_o) less_x
            (subst (λ m. label_of q.labels (Large m k) ≡ Some l) s.2.number was) (subst (λ m. label_of r.labels (Large m k) ≡ Some l) s.2.number its)
        | inr made ↦ absurd (true≢false (sym (in-left e.made e.first (Large o.number k) (made k less_o)) ∙ apart))
      ]

  alike_other : AreAlike r q → AreAlike r after
  alike_other alike o x k l in_o in_x number slot_o slot_x less_o less_x its mine =
      let apart : is_touched changed (Large o.number k) ≡ false = unlabelled (Large o.number k) l mine its in
      elim (b.large x in_x slot_x) [
        | inl s ↦
            let was : label_of q.labels (Large o.number k) ≡ Some l = sym (label_old n changed q.labels (Large o.number k) apart) ∙ mine in
            alike o s.0 k l in_o s.1 (number ∙ s.2.number) slot_o (s.2.slot slot_x) less_o (subst (λ m. k < parts_for page_bytes m) s.2.bytes less_x) its was
            ∙ sym s.2.shape
        | inr made ↦ absurd (true≢false (sym (in-left e.made e.first (Large x.number k) (made k less_x)) ∙ ap (λ m. is_touched changed (Large m k)) (sym number) ∙ apart))
      ]

pub step_like_large : (w : World) (n : ℕ) (c : Command) → HasFewFields c.verb → IsSoundWorld w → AreEarlier n w → HaveLikeLarge w → HaveLikeLarge (step w n c).world
step_like_large w n c few sound earlier alike = pairs_step AreAlike w n c few sound
    (λ q r e in_q in_r apart b. (alike_after n q r e b (earlier r in_r) (alike q r in_q in_r (apart-symm r.name q.name apart)), alike_other n q r e b (earlier r in_r) (alike r q in_r in_q apart)))
    (λ q name in_q sealed done.
    let formed : IsFormed (fork_part q.part).part.graph = (fork_sound q.part sealed (sound.sound q in_q)).formed in
    let one : (o x : Object) → IsIn o (fork_part q.part).part.graph.objects → IsIn x (fork_part q.part).part.graph.objects → o.number ≡ x.number → o.shape ≡ x.shape =
    λ o x in_o in_x number. ap (λ (z : Object). z.shape) (one_number 0 (fork_part q.part).part.graph.next (fork_part q.part).part.graph.objects o x formed.numbers in_o in_x number) in
    ((λ o x k l in_o in_x number _ _ _ _ _ _. one o x in_o in_x number, λ o x k l in_o in_x number _ _ _ _ _ _. one o x in_o in_x number), λ r two. two))
    alike
