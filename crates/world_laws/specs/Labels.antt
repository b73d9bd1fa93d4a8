-- What holds of the labels of all processes before a line of a number.
use Rattle.std.specs.Prelude.{◌≡◌, ◌≢◌, ◌⊎◌, ℕ, ◌<◌, true, false, List, ◌++◌, Some}
use Rattle.std.specs.List.{AllByRecursion}
use Rattle.class_layout.specs.Names.{same_name}
use Rattle.class_layout.specs.Placing.{IsIn}
use Rattle.heap_graph.specs.Graph.{Object}
use Rattle.heap_graph.specs.Sizes.{parts_for, unrounded}
use Rattle.model_numbers.specs.Numbers.{page_bytes}
use Rattle.heap_world.specs.declared.names.Label.{Label}
use Rattle.heap_world.specs.declared.names.PageName.{PageName}
use Rattle.heap_world.specs.declared.names.PageName.TheVariants.{Large}
use Rattle.heap_world.specs.Pages.{is_touched}
use Rattle.heap_world.specs.World.{Process, World, label_of}
use Rattle.world_laws.specs.Named.{has_slot, is_named, is_waiting, waits}

-- each process of the world
abbrev pub Each : World → (Process → Type 0) → Type 0
Each w P = (q : Process) → IsIn q w.processes → P q

-- each two processes of the world, which have two names
abbrev pub EachTwo : World → (Process → Process → Type 0) → Type 0
EachTwo w P = (q r : Process) → IsIn q w.processes → IsIn r w.processes → same_name q.name r.name ≡ false → P q r

-- each label is of a line before this one
abbrev pub HasEarlier : ℕ → Process → Type 0
HasEarlier line q = AllByRecursion (λ l. l.line < line) q.labels

abbrev pub AreEarlier : ℕ → World → Type 0
AreEarlier line w = Each w (HasEarlier line)

-- the labels are those of the other process and, in front of them, labels of this line
abbrev pub AddsOwn : ℕ → Process → Process → Type 0
AddsOwn line old new = (added : List Label) × AllByRecursion (λ l. l.line ≡ line) added × (new.labels ≡ added ++ old.labels)

-- the page has a label, which is of that page
abbrev pub HasLabel : Process → PageName → Type 0
HasLabel q page = (line : ℕ) × (label_of q.labels page ≡ Some (record { page = page; line = line }))

-- each page that stands or waits has a label
abbrev pub IsLabelled : Process → Type 0
IsLabelled q = (page : PageName) → is_named q.part.graph page ≡ true → HasLabel q page

abbrev pub AreLabelled : World → Type 0
AreLabelled w = Each w IsLabelled

-- the pages of a waiting object have the label of one line
abbrev pub HasOneLine : Process → Type 0
HasOneLine q =
    (o : Object) → IsIn o q.part.graph.objects → is_waiting o.place ≡ true →
    (line : ℕ) × ((k : ℕ) → k < parts_for page_bytes (unrounded q.part.graph.classes o.shape) → label_of q.labels (Large o.number k) ≡ Some (record { page = Large o.number k; line = line }))

abbrev pub HaveOneLine : World → Type 0
HaveOneLine w = Each w HasOneLine

-- the page is the process's own: it waits, or the process touched it
abbrev pub IsOwn : Process → PageName → Type 0
IsOwn q page = (waits q.part.graph page ≡ true) ⊎ (is_touched q.part.touched page ≡ true)

-- the line of an own page's label is the line of no label of the other process
abbrev pub OwnLines : Process → Process → Type 0
OwnLines q r = (page : PageName) (l : Label) → IsOwn q page → label_of q.labels page ≡ Some l → AllByRecursion (λ m. m.line ≢ l.line) r.labels

abbrev pub HaveOwnLines : World → Type 0
HaveOwnLines w = EachTwo w OwnLines

-- objects of one number whose page has one label are of one shape
abbrev pub AreAlike : Process → Process → Type 0
AreAlike q r =
    (o x : Object) (k : ℕ) (l : Label) → IsIn o q.part.graph.objects → IsIn x r.part.graph.objects → o.number ≡ x.number → has_slot o.place ≡ true → has_slot x.place ≡ true
    → k < parts_for page_bytes (unrounded q.part.graph.classes o.shape) → k < parts_for page_bytes (unrounded r.part.graph.classes x.shape)
    → label_of q.labels (Large o.number k) ≡ Some l → label_of r.labels (Large o.number k) ≡ Some l → o.shape ≡ x.shape

abbrev pub HaveLikeLarge : World → Type 0
HaveLikeLarge w = EachTwo w AreAlike
