-- What fields and elements hold.
use Rattle.std.specs.Prelude.{ℕ, Bool, true, false, not, List, [], ◌∷◌, filter, pos, nat_eq}
use Rattle.class_layout.specs.declared.kind.FieldAt.{FieldAt}
use Rattle.class_layout.specs.Kinds.{is_ref}
use Rattle.heap_graph.specs.declared.names.Content.{Content}
use Rattle.heap_graph.specs.declared.names.Content.TheVariants as content
use Rattle.heap_graph.specs.declared.names.Held.{Held}
use Rattle.heap_graph.specs.declared.names.Held.TheVariants as held
use Rattle.heap_graph.specs.declared.names.Stored.{Stored}

-- what a field or element holds before anything is stored: null, or 0
abbrev pub empty_slot : Bool → Content
empty_slot true = content.Null
empty_slot false = content.Number (pos 0)

-- what a slot holds, given what was stored
abbrev pub value_if : Bool → Content → Content → Content
value_if true here later = here
value_if false here later = later

abbrev pub value_at : List Stored → FieldAt → Content
value_at [] at = empty_slot (is_ref at.kind)
value_at (s ∷ ss) at = value_if (nat_eq s.at.offset at.offset) s.value (value_at ss at)

-- what was stored, with one more store: in the slot's old place, or last
abbrev pub stored_if : Bool → Stored → List Stored → List Stored → Stored → List Stored
stored_if true new rest later old = new ∷ rest
stored_if false new rest later old = old ∷ later

abbrev pub with_stored : List Stored → Stored → List Stored
with_stored [] new = new ∷ []
with_stored (s ∷ ss) new = stored_if (nat_eq s.at.offset new.at.offset) new ss (with_stored ss new) s

-- a root's reference as a slot
abbrev pub slot_of : Held → Content
slot_of held.Null = content.Null
slot_of (held.Object n) = content.Object n

-- a slot's reference; a number is none
abbrev pub held_of : Content → Held
held_of (content.Number z) = held.Null
held_of content.Null = held.Null
held_of (content.Object n) = held.Object n

-- the object that a slot holds, in front of others
abbrev pub with_target : Content → List ℕ → List ℕ
with_target (content.Number z) ns = ns
with_target content.Null ns = ns
with_target (content.Object n) ns = n ∷ ns

-- the objects that slots hold, in order
abbrev pub targets : List Stored → List ℕ
targets [] = []
targets (s ∷ ss) = with_target s.value (targets ss)

-- the objects that roots hold
abbrev pub held_targets : List Held → List ℕ
held_targets [] = []
held_targets (h ∷ hs) = with_target (slot_of h) (held_targets hs)

-- the slots that aren't weak
abbrev pub strong_slots : List Stored → List Stored
strong_slots ss = filter (λ s. not s.at.weak) ss
