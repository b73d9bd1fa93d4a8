-- What each effect does to page names and to the part, beside what its definition computes.
use Rattle.std.specs.Prelude.{◌≡◌, ◌⊎◌, Bool, true, false, ◌++◌}
use Rattle.std.specs.List.{AllByRecursion}
use Rattle.heap_world.specs.declared.command.Verb.{Verb}
use Rattle.heap_world.specs.declared.command.Verb.TheVariants as verb
use Rattle.heap_world.specs.declared.names.PageName.{PageName}
use Rattle.heap_world.specs.declared.reply.Refusal.{Refusal}
use Rattle.heap_world.specs.declared.reply.Refusal.TheVariants as refusal
use Rattle.heap_world.specs.Effect.{Effect}
use Rattle.heap_world.specs.Pages.{is_touched}
use Rattle.heap_world.specs.Part.{Part}
use Rattle.world_laws.specs.Named.{is_named, stands, waits}

-- a page that has a label afterwards had one, or was made; and the same of pages that wait
pub record KeepsNames (p : Part) (e : Effect) : Type 0 where
  pub named : (page : PageName) → is_named e.part.graph page ≡ true → (is_named p.graph page ≡ true) ⊎ (is_touched e.made page ≡ true)
  pub waiting : (page : PageName) → waits e.part.graph page ≡ true → (waits p.graph page ≡ true) ⊎ (is_touched e.made page ≡ true)

-- a page that was made had no label before, and has one afterwards
pub record MakesNew (p : Part) (e : Effect) : Type 0 where
  pub was_none : (page : PageName) → is_touched e.made page ≡ true → is_named p.graph page ≡ false
  pub is_there : (page : PageName) → is_touched e.made page ≡ true → is_named e.part.graph page ≡ true

-- what was touched first stood, and was untouched
abbrev pub TouchesFirst : Part → Effect → Type 0
TouchesFirst p e = AllByRecursion (λ page. (stands p.graph page ≡ true) × (is_touched p.touched page ≡ false)) e.first

-- afterwards these are touched: what was touched first, and what was touched before
abbrev pub AddsTouched : Part → Effect → Type 0
AddsTouched p e = e.part.touched ≡ e.first ++ p.touched

-- a command stores into a field or an element
abbrev pub is_store : Verb → Bool
is_store (verb.Set root field value) = true
is_store (verb.Put root index value) = true
is_store v = false

abbrev pub is_seal : Verb → Bool
is_seal verb.Seal = true
is_seal v = false

-- the heap or the zygote window is full, also after a collection
abbrev pub is_full : Refusal → Bool
is_full (refusal.HeapFull free needed) = true
is_full (refusal.ZygoteFull fill total) = true
is_full why = false
