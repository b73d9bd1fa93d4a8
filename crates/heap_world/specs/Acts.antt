-- Each command of a process: its refusals in their order, and what it does.
use Rattle.std.specs.Prelude.{ℕ, ◌+◌, ◌-◌, ◌*◌, ◌/◌, Bool, true, false, List, [], ◌∷◌, ◌++◌, Option, None, Some, Result, Ok, Err, map, filter, min, length, ◌^◌, nat_le, nat_eq, slice_get, codes, count_by, sum}
use Rattle.model_numbers.specs.Numbers.{page_bytes, number_limit}
use Rattle.class_layout.specs.declared.kind.Kind.{Kind}
use Rattle.class_layout.specs.declared.kind.Kind.TheVariants as kind
use Rattle.class_layout.specs.declared.kind.FieldAt.{FieldAt}
use Rattle.class_layout.specs.declared.kind.Value.{Value}
use Rattle.class_layout.specs.declared.classes.DefineError.{DefineError}
use Rattle.class_layout.specs.declared.classes.DefineError.TheVariants as define
use Rattle.class_layout.specs.ClassList.{Class, define_class, number_of}
use Rattle.class_layout.specs.Kinds.{is_ref}
use Rattle.heap_world.specs.declared.command.Verb.{Verb}
use Rattle.heap_world.specs.declared.command.Verb.TheVariants as verb
use Rattle.heap_world.specs.declared.reply.Reply.{Reply}
use Rattle.heap_world.specs.declared.reply.Reply.TheVariants as reply
use Rattle.heap_world.specs.declared.reply.Refusal.{Refusal}
use Rattle.heap_world.specs.declared.reply.Refusal.TheVariants as refusal
use Rattle.heap_graph.specs.declared.names.Shape.{Shape}
use Rattle.heap_graph.specs.declared.names.Shape.TheVariants.{Instance, Array}
use Rattle.heap_graph.specs.declared.names.Content.{Content}
use Rattle.heap_graph.specs.declared.names.Content.TheVariants as content
use Rattle.heap_graph.specs.declared.names.Held.{Held}
use Rattle.heap_graph.specs.declared.names.Stored.{Stored}
use Rattle.heap_graph.specs.declared.names.Held.TheVariants as held
use Rattle.heap_graph.specs.Graph.{Graph, Object, write_root, drop_root, image_fill, zygote_fill, size_of_object, is_immune, object_at}
use Rattle.heap_graph.specs.Allocation.{Allocated, make}
use Rattle.heap_graph.specs.Allocation as allocated
use Rattle.heap_graph.specs.Collection.{collect, loose_count, freed_count}
use Rattle.heap_graph.specs.Fork.{promotion_start, promotion_bytes, has_zygote_room, promoted}
use Rattle.heap_graph.specs.Packing.{free, young_objects}
use Rattle.heap_graph.specs.Table.{in_spot_window}
use Rattle.heap_graph.specs.Sizes.{parts_for, is_large, is_too_large, size_in, unrounded}
use Rattle.heap_graph.specs.Values.{slot_of, held_of, value_at, with_stored}
use Rattle.heap_world.specs.declared.names.PageName.{PageName}
use Rattle.heap_world.specs.declared.names.PageName.TheVariants.{Image, Zygote, Large}
use Rattle.heap_world.specs.Pages.{count_from, image_pages, zygote_pages, promoted_pages, page_in, is_touched, is_image_page, is_zygote_page, is_large_page}
use Rattle.heap_world.specs.Slots.{◌>>=◌, slot_named, slot_indexed, held_by_root, object_held, named_by, stored_value, only_reference}
use Rattle.heap_world.specs.declared.names.Card.{Card}
use Rattle.heap_world.specs.Cards.{cards_in, add_cards, noted_count}
use Rattle.heap_world.specs.Part.{Part, with_collected}
use Rattle.heap_world.specs.Effect.{Effect, line_reads, tells, refuses, becomes, effect_or}

-- class

abbrev pub define_refusal : DefineError → Refusal
define_refusal define.Taken = refusal.ClassTaken
define_refusal define.NoSuper = refusal.NoClass
define_refusal define.Limit = refusal.ClassLimit
define_refusal define.FieldTaken = refusal.FieldTaken
define_refusal define.OutOfMemory = refusal.ClassLimit

abbrev pub after_define : Part → Result (List Class) DefineError → Effect
after_define p (Ok classes) = becomes p (record p.graph { classes = classes }) (reply.Class (length p.graph.classes))
after_define p (Err why) = refuses p (define_refusal why)

-- new, array, weak

-- the pages of the image that bytes behind so many others are the first to reach
abbrev pub image_pages_behind : ℕ → ℕ → List PageName
image_pages_behind fill bytes =
    map Image (count_from (parts_for page_bytes fill) (parts_for page_bytes (fill + bytes) - parts_for page_bytes fill))

-- the pages of the next object's large slot, where it is large
abbrev pub slot_pages_if : Bool → Graph → Shape → List PageName
slot_pages_if true g shape = map (Large g.next) (count_from 0 (parts_for page_bytes (unrounded g.classes shape)))
slot_pages_if false g shape = []

-- the pages that the next object makes: before the seal those of the image that it is the first to reach, later those of
-- a large slot
abbrev pub pages_of_new : Bool → Graph → Shape → List PageName
pages_of_new false g shape = image_pages_behind (image_fill g) (size_in g.classes shape)
pages_of_new true g shape = slot_pages_if (is_large g.classes shape) g shape

-- the last step of making an object: the root is written
abbrev pub root_written : Graph → List ℕ → ℕ → Graph
root_written g root n = record g { roots = write_root g.roots root (held.Object n) }

-- a collection allows 2,048 reads for each noted card
abbrev pub collection_allowance : Bool → Part → ℕ
collection_allowance true p = 2048 * noted_count p.stored p.held
collection_allowance false p = 0

abbrev pub part_after : Bool → Part → Graph → Part
part_after true p g = with_collected p g
part_after false p g = record p { graph = g }

abbrev pub after_make : Part → List ℕ → Shape → Allocated → Effect
after_make p root shape (allocated.Made g collected) =
    record {
      part = part_after collected p (root_written g root p.graph.next);
      reply = reply.Made p.graph.next collected;
      made = pages_of_new p.graph.sealed p.graph shape;
      first = [];
      allowed = line_reads + collection_allowance collected p;
    }
after_make p root shape (allocated.ImageFull fill size) = refuses p (refusal.ImageFull fill size)
after_make p root shape (allocated.HeapFull g free needed) =
    record {
      part = with_collected p g;
      reply = reply.Refused (refusal.HeapFull free needed);
      made = [];
      first = [];
      allowed = line_reads + collection_allowance true p;
    }

-- numbers are below 268,435,456
abbrev pub make_numbered : Bool → Part → List ℕ → Shape → List Stored → Effect
make_numbered true p root shape slots = refuses p refusal.NumberLimit
make_numbered false p root shape slots = after_make p root shape (make p.graph shape slots)

abbrev pub make_slots : Part → List ℕ → Shape → List Stored → Effect
make_slots p root shape slots = make_numbered (nat_le number_limit p.graph.next) p root shape slots

abbrev pub make_sized : Bool → Part → List ℕ → Shape → Effect
make_sized true p root shape = refuses p refusal.TooLarge
make_sized false p root shape = make_slots p root shape []

abbrev pub make_shape : Part → List ℕ → Shape → Effect
make_shape p root shape = make_sized (is_too_large p.graph.classes shape) p root shape

abbrev pub new_of_class : Part → List ℕ → Option ℕ → Effect
new_of_class p root None = refuses p refusal.NoClass
new_of_class p root (Some class) = make_shape p root (Instance class)

-- where the referent of a weak reference stands
abbrev pub referent_at : FieldAt
referent_at = record { kind = kind.Ref; offset = 8; weak = true }

abbrev pub make_weak : Part → List ℕ → Result Held Refusal → Effect
make_weak p root (Err why) = refuses p why
make_weak p root (Ok h) = make_slots p root (Instance 1) (record { at = referent_at; value = slot_of h } ∷ [])

-- set, put

-- the object of a number with a slot stored to
abbrev pub stored_in_if : Bool → Object → Stored → Object
stored_in_if true o new = record o { slots = with_stored o.slots new }
stored_in_if false o new = o

abbrev pub stored_in : List Object → ℕ → Stored → List Object
stored_in os n new = map (λ o. stored_in_if (nat_eq o.number n) o new) os

abbrev pub with_slot : Graph → ℕ → Stored → Graph
with_slot g n new = record g { objects = stored_in g.objects n new }

abbrev pub first_if : Bool → PageName → List PageName
first_if true page = []
first_if false page = page ∷ []

abbrev pub first_touch : List PageName → Option PageName → List PageName
first_touch touched None = []
first_touch touched (Some page) = first_if (is_touched touched page) page

abbrev pub stored_cards_if : Bool → List Card → List Card
stored_cards_if true cards = cards
stored_cards_if false cards = []

-- a store into an immune object touches a page, and a card where it stored a reference
abbrev pub store_effect : Bool → Part → Graph → Object → FieldAt → Effect
store_effect false p g o s = becomes p g reply.Done
store_effect true p g o s =
    record {
      part = record p {
        graph = g;
        touched = first_touch p.touched (page_in o o.place s.offset) ++ p.touched;
        stored = add_cards (stored_cards_if (is_ref s.kind) (cards_in o.place s.offset)) p.stored;
      };
      reply = reply.Done;
      made = [];
      first = first_touch p.touched (page_in o o.place s.offset);
      allowed = line_reads;
    }

abbrev pub store : Part → Object → FieldAt → Content → Effect
store p o s v = store_effect (is_immune p.graph.sealed o.place) p (with_slot p.graph o.number (record { at = s; value = v })) o s

abbrev pub set_field : Part → List ℕ → List ℕ → Value → Result Effect Refusal
set_field p root field v = do
  h ← held_by_root p.graph root
  named ← named_by p.graph v
  o ← object_held p.graph h
  s ← slot_named p.graph.classes o.shape field
  new ← stored_value s.kind v named
  Ok (store p o s new)

abbrev pub put_element : Part → List ℕ → ℕ → Value → Result Effect Refusal
put_element p root index v = do
  h ← held_by_root p.graph root
  named ← named_by p.graph v
  o ← object_held p.graph h
  s ← slot_indexed o.shape index
  new ← stored_value s.kind v named
  Ok (store p o s new)

-- get, at

abbrev pub slot_reply : Content → Reply
slot_reply (content.Number z) = reply.Number z
slot_reply content.Null = reply.Null
slot_reply (content.Object n) = reply.Object n

abbrev pub get_field : Part → List ℕ → List ℕ → Result Effect Refusal
get_field p root field = do
  h ← held_by_root p.graph root
  o ← object_held p.graph h
  s ← slot_named p.graph.classes o.shape field
  Ok (tells p (slot_reply (value_at o.slots s)))

abbrev pub get_element : Part → List ℕ → ℕ → Result Effect Refusal
get_element p root index = do
  h ← held_by_root p.graph root
  o ← object_held p.graph h
  s ← slot_indexed o.shape index
  Ok (tells p (slot_reply (value_at o.slots s)))

-- copy, load, loadat

abbrev pub held_reply : Held → Reply
held_reply held.Null = reply.Null
held_reply (held.Object n) = reply.Object n

abbrev pub write_held : Part → List ℕ → Held → Reply → Effect
write_held p root h r = becomes p (record p.graph { roots = write_root p.graph.roots root h }) r

abbrev pub copy_root : Part → List ℕ → List ℕ → Result Effect Refusal
copy_root p to from = do
  h ← held_by_root p.graph from
  Ok (write_held p to h reply.Done)

abbrev pub load_slot : Part → List ℕ → Object → FieldAt → Result Effect Refusal
load_slot p to o s = do
  h ← only_reference (is_ref s.kind) (held_of (value_at o.slots s))
  Ok (write_held p to h (held_reply h))

abbrev pub load_field : Part → List ℕ → List ℕ → List ℕ → Result Effect Refusal
load_field p to from field = do
  h ← held_by_root p.graph from
  o ← object_held p.graph h
  s ← slot_named p.graph.classes o.shape field
  load_slot p to o s

abbrev pub load_element : Part → List ℕ → List ℕ → ℕ → Result Effect Refusal
load_element p to from index = do
  h ← held_by_root p.graph from
  o ← object_held p.graph h
  s ← slot_indexed o.shape index
  load_slot p to o s

-- drop, show

abbrev pub drop_held : Part → List ℕ → Result Effect Refusal
drop_held p root = do
  h ← held_by_root p.graph root
  Ok (becomes p (record p.graph { roots = drop_root p.graph.roots root }) reply.Done)

abbrev pub array_name : Kind → List ℕ
array_name kind.Ref = codes "java.lang.Object[]"
array_name kind.Boolean = codes "boolean[]"
array_name kind.Byte = codes "byte[]"
array_name kind.Char = codes "char[]"
array_name kind.Short = codes "short[]"
array_name kind.Int = codes "int[]"
array_name kind.Long = codes "long[]"

abbrev pub class_name : Option Class → List ℕ
class_name None = []
class_name (Some c) = c.name

abbrev pub shape_name : List Class → Shape → List ℕ
shape_name cs (Instance class) = class_name (slice_get cs class)
shape_name cs (Array k count) = array_name k

abbrev pub shown_object : List Class → Option Object → Reply
shown_object cs None = reply.Null
shown_object cs (Some o) = reply.Shown o.number (shape_name cs o.shape)

abbrev pub shown : Graph → Held → Reply
shown g held.Null = reply.Null
shown g (held.Object n) = shown_object g.classes (object_at g n)

abbrev pub show_root : Part → List ℕ → Result Effect Refusal
show_root p root = do
  h ← held_by_root p.graph root
  Ok (tells p (shown p.graph h))

-- seal, gc

abbrev pub seal_if : Bool → Part → Effect
seal_if true p = refuses p refusal.Sealed
seal_if false p = tells (record p { graph = record p.graph { sealed = true }; touched = []; stored = [] }) reply.Done

-- the process goes on with the collected graph
abbrev pub gc_to : Part → Graph → Effect
gc_to p g =
    record {
      part = with_collected p g;
      reply = reply.Kept (loose_count g) (freed_count p.graph g);
      made = [];
      first = [];
      allowed = line_reads + collection_allowance true p;
    }

abbrev pub gc_if : Bool → Part → Effect
gc_if false p = refuses p refusal.NotSealed
gc_if true p = gc_to p (collect p.graph)

-- fork, of a sealed process whose child's name is free

-- a fork allows 4,096 reads for each noted card
abbrev pub fork_allowance : Part → ℕ
fork_allowance p = 4096 * noted_count p.stored p.held

-- for an object, four reads per 4-byte word and 16
abbrev pub object_allowance : List Class → Object → ℕ
object_allowance cs o = 4 * (size_of_object cs o / 4) + 16

-- a fork allows so many for each object that it promotes
abbrev pub promotion_allowance : Graph → ℕ
promotion_allowance g = sum (map (object_allowance g.classes) (young_objects g))

-- the pages of the zygote window that a fork makes
abbrev pub fork_pages : Graph → List PageName
fork_pages g = map Zygote (count_from (parts_for page_bytes (zygote_fill g)) (parts_for page_bytes (promotion_bytes g)))

abbrev pub fork_collected : Bool → Part → Graph → Effect
fork_collected true p g =
    record {
      part = record p { graph = promoted g; touched = []; stored = []; held = [] };
      reply = reply.Done;
      made = fork_pages g;
      first = [];
      allowed = line_reads + fork_allowance p + promotion_allowance g;
    }
fork_collected false p g =
    record {
      part = with_collected p g;
      reply = reply.Refused (refusal.ZygoteFull (promotion_start g) (promotion_bytes g));
      made = [];
      first = [];
      allowed = line_reads + fork_allowance p;
    }

-- the process promotes the objects of the collected graph, where they fit
abbrev pub fork_to : Part → Graph → Effect
fork_to p g = fork_collected (has_zygote_room g) p g

-- a process that forks collects first
abbrev pub fork_part : Part → Effect
fork_part p = fork_to p (collect p.graph)

-- dump

-- the count of dumps stands still at the last value of 32 bits
abbrev pub dump_counted : Graph → Graph
dump_counted g = record g { dumps = min (g.dumps + 1) (2 ^ 32 - 1) }

-- a dump allows so many reads for each object of the image and of the zygote window
abbrev pub dump_allowance : Graph → ℕ
dump_allowance g = sum (map (object_allowance g.classes) (filter (λ o. in_spot_window o.place) g.objects))

abbrev pub dump_to : Part → Graph → Effect
dump_to p g =
    record {
      part = record p { graph = g };
      reply = reply.Dumped g.dumps (length g.objects);
      made = [];
      first = [];
      allowed = line_reads + dump_allowance g;
    }

-- only a sealed process is dumped
abbrev pub dump_if : Bool → Part → Effect
dump_if false p = refuses p refusal.NotSealed
dump_if true p = dump_to p (dump_counted p.graph)

-- pages

abbrev pub page_counts : Part → Reply
page_counts p =
    reply.Pages (length (image_pages p.graph)) (count_by is_image_page p.touched) (length (zygote_pages p.graph)) (count_by is_zygote_page p.touched)
    (length (promoted_pages p.graph)) (count_by is_large_page p.touched)

-- a command of a process. A fork and the count of frames look beyond it: they stand with the world, and do nothing here
abbrev pub act : Part → Verb → Effect
act p (verb.Class name parent fields) = after_define p (define_class p.graph.classes name parent fields)
act p (verb.New root class) = new_of_class p root (number_of p.graph.classes class)
act p (verb.Array root k count) = make_shape p root (Array k count)
act p (verb.Weak root referent) = make_weak p root (held_by_root p.graph referent)
act p (verb.Set root field v) = effect_or p (set_field p root field v)
act p (verb.Put root index v) = effect_or p (put_element p root index v)
act p (verb.Get root field) = effect_or p (get_field p root field)
act p (verb.At root index) = effect_or p (get_element p root index)
act p (verb.Copy to from) = effect_or p (copy_root p to from)
act p (verb.Load to from field) = effect_or p (load_field p to from field)
act p (verb.LoadAt to from index) = effect_or p (load_element p to from index)
act p (verb.Drop root) = effect_or p (drop_held p root)
act p (verb.Show root) = effect_or p (show_root p root)
act p verb.Seal = seal_if p.graph.sealed p
act p verb.Gc = gc_if p.graph.sealed p
act p (verb.Fork child) = tells p reply.Done
act p verb.Exit = tells (record p { exited = true }) reply.Done
act p verb.Free = tells p (reply.Regions (free p.graph))
act p verb.Pages = tells p (page_counts p)
act p verb.Frames = tells p reply.Done
act p verb.Dump = dump_if p.graph.sealed p
