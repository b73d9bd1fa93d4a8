-- What an answer does, and two steps one after the other.
use Rattle.std.proofs.Common.{◌≡◌, ◌∙◌, ◌++◌, ℕ, [], true, false, true≢false, refl, ap, sym, subst, inl, inr}
use Rattle.cow_pages.specs.Memory.{frame_at, HasOneSharer, IsSound, Memory}
use Rattle.cow_pages.specs.Only.{OnlyTable}
use Rattle.cow_pages.proofs.OnlyLemmas.{only-trans}
use Rattle.heap_world.specs.declared.names.PageName.{PageName}
use Rattle.heap_world.specs.declared.reply.Reply.{Reply}
use Rattle.heap_world.specs.Effect.{tells, Effect}
use Rattle.heap_world.specs.Pages.{is_touched}
use Rattle.heap_world.specs.Part.{Part}
use Rattle.heap_world.proofs.Standing.{in-left}
use Rattle.world_laws.specs.Effects.{KeepsNames}
use Rattle.world_laws.specs.Named.{is_named}
use Rattle.process_state.specs.Acts.{page_in, Acts, Step}
use Rattle.process_state.specs.Stands.{StandsIn}
use Rattle.process_state.specs.State.{State}
use Rattle.process_state.proofs.Same.{stands-uncounted}

pub answers : (s : State) (m : Memory) (p : Part) (r : Reply) (reads : ℕ) → StandsIn s m p → IsSound (record m { reads = reads }) → Acts (record { old = s; new = s; was = m; now = record m { reads = reads } }) p (tells p r)
answers s m p r reads stands sound = record {
  stands = stands-uncounted s p m (record m { reads = reads }) stands refl sound;
  page_table = refl;
  only = record { others = λ u q apart. refl; live = λ u. refl; own = λ q f is. inl is };
  kept = λ a named same. refl;
  made = λ a named made. absurd (cc);
}

-- a page that the second step neither made nor touched first was named after the first one
named-before : (p : Part) (f : Effect) (a : PageName) → KeepsNames p f → is_named f.part.graph a ≡ true → is_touched (f.made ++ f.first) a ≡ false → is_named p.graph a ≡ true
named-before p f a keeps named quiet = elim (keeps.named a named) [
  | inl before ↦ before
  | inr made ↦ absurd (true≢false (sym (in-left f.made f.first a made) ∙ quiet))
]

pub follow : (c d : Step) (p : Part) (e f : Effect) → Acts c p e → Acts d e.part f → d.old ≡ c.new → d.was ≡ c.now → e.made ≡ [] → e.first ≡ [] → KeepsNames e.part f
    → Acts (record { old = c.old; new = d.new; was = c.was; now = d.now }) p f
follow c d p e f one two same-old same-was no-made no-first keeps = record {
  stands = two.stands;
  page_table = two.page_table ∙ table-is;
  only = only-trans c.was c.now d.now c.old.page_table one.only only-two;
  kept = λ a named quiet. kept-two a named quiet ∙ one.kept a (named-before e.part f a keeps named quiet) (quiet-one a);
  made = λ a named made. subst (λ t. HasOneSharer d.now t (page_in d.new f.part.graph a)) table-is (two.made a named made);
}
  where
    table-is : d.old.page_table ≡ c.old.page_table
    table-is = ap (λ (s : State). s.page_table) same-old ∙ one.page_table

    only-two : OnlyTable c.now d.now c.old.page_table
    only-two = subst (λ t. OnlyTable c.now d.now t) table-is (subst (λ m. OnlyTable m d.now d.old.page_table) same-was two.only)

    quiet-one : (a : PageName) → is_touched (e.made ++ e.first) a ≡ false
    quiet-one a = ap (λ ps. is_touched (ps ++ e.first) a) no-made ∙ ap (λ ps. is_touched ps a) no-first

    kept-two : (a : PageName) → is_named f.part.graph a ≡ true → is_touched (f.made ++ f.first) a ≡ false
        → frame_at d.now c.old.page_table (page_in d.new f.part.graph a) ≡ frame_at c.now c.old.page_table (page_in c.new e.part.graph a)
    kept-two a named quiet =
        subst (λ t. frame_at d.now t (page_in d.new f.part.graph a) ≡ frame_at c.now t (page_in c.new e.part.graph a)) table-is
        (subst (λ m. frame_at d.now d.old.page_table (page_in d.new f.part.graph a) ≡ frame_at m d.old.page_table (page_in c.new e.part.graph a)) same-was
        (subst (λ s. frame_at d.now d.old.page_table (page_in d.new f.part.graph a) ≡ frame_at d.was d.old.page_table (page_in s e.part.graph a)) same-old (two.kept a named quiet)))
