-- Pages that processes share, by name, and the pages of a process.
use Rattle.std.specs.Prelude.{ℕ, zero, suc, ◌+◌, ◌-◌, ◌/◌, Bool, true, false, ◌&&◌, List, [], ◌∷◌, ◌++◌, Option, None, Some, map, length, nat_eq, sum}
use Rattle.std.specs.List.{list_any, flat_map}
use Rattle.model_numbers.specs.Numbers.{image_base, zygote_base, page_bytes}
use Rattle.class_layout.specs.ClassList.{Class}
use Rattle.heap_world.specs.declared.names.PageName.{PageName}
use Rattle.heap_world.specs.declared.names.PageName.TheVariants.{Image, Zygote, Large}
use Rattle.heap_graph.specs.declared.names.Place.{Place}
use Rattle.heap_graph.specs.declared.names.Place.TheVariants as place
use Rattle.heap_graph.specs.Graph.{Graph, Object, image_fill, zygote_fill}
use Rattle.heap_graph.specs.Packing.{places_from, young_sizes}
use Rattle.heap_graph.specs.Sizes.{parts_for, unrounded}

-- two names are of one page
abbrev pub same_page : PageName → PageName → Bool
same_page (Image j) (Image k) = nat_eq j k
same_page (Image j) (Zygote k) = false
same_page (Image j) (Large n k) = false
same_page (Zygote j) (Image k) = false
same_page (Zygote j) (Zygote k) = nat_eq j k
same_page (Zygote j) (Large n k) = false
same_page (Large m j) (Image k) = false
same_page (Large m j) (Zygote k) = false
same_page (Large m j) (Large n k) = nat_eq m n && nat_eq j k

abbrev pub is_touched : List PageName → PageName → Bool
is_touched pages page = list_any (same_page page) pages

-- so many numbers from one on
abbrev pub count_from : ℕ → ℕ → List ℕ
count_from start zero = []
count_from start (suc n) = start ∷ count_from (start + 1) n

-- the pages of a large object
abbrev pub large_pages : List Class → Object → List PageName
large_pages cs o = map (Large o.number) (count_from 0 (parts_for page_bytes (unrounded cs o.shape)))

abbrev pub pages_if_promoted : List Class → Object → Place → List PageName
pages_if_promoted cs o (place.Image spot) = []
pages_if_promoted cs o (place.Zygote spot) = []
pages_if_promoted cs o place.Young = []
pages_if_promoted cs o place.Large = []
pages_if_promoted cs o place.Promoted = large_pages cs o

abbrev pub image_pages : Graph → List PageName
image_pages g = map Image (count_from 0 (parts_for page_bytes (image_fill g)))

abbrev pub zygote_pages : Graph → List PageName
zygote_pages g = map Zygote (count_from 0 (parts_for page_bytes (zygote_fill g)))

abbrev pub promoted_pages : Graph → List PageName
promoted_pages g = flat_map (λ o. pages_if_promoted g.classes o o.place) g.objects

-- the pages that stand: those of the image, the zygote window and promoted large objects
abbrev pub standing_pages : Graph → List PageName
standing_pages g = image_pages g ++ zygote_pages g ++ promoted_pages g

-- the page of an offset in an object that others may share
abbrev pub page_in : Object → Place → ℕ → Option PageName
page_in o (place.Image spot) offset = Some (Image ((spot + offset - image_base) / page_bytes))
page_in o (place.Zygote spot) offset = Some (Zygote ((spot + offset - zygote_base) / page_bytes))
page_in o place.Young offset = None
page_in o place.Large offset = Some (Large o.number (offset / page_bytes))
page_in o place.Promoted offset = Some (Large o.number (offset / page_bytes))

-- numbers without those that come again
abbrev pub keep_new : Bool → ℕ → List ℕ → List ℕ
keep_new true n ns = ns
keep_new false n ns = n ∷ ns

abbrev pub distinct : List ℕ → List ℕ
distinct [] = []
distinct (n ∷ ns) = keep_new (list_any (nat_eq n) ns) n (distinct ns)

-- the pages that so many bytes at a place cover
abbrev pub covered : ℕ → ℕ → List ℕ
covered at size = count_from (at / page_bytes) ((at + size - 1) / page_bytes + 1 - at / page_bytes)

abbrev pub all_covered : List ℕ → List ℕ → List ℕ
all_covered [] sizes = []
all_covered (at ∷ ats) [] = []
all_covered (at ∷ ats) (size ∷ sizes) = covered at size ++ all_covered ats sizes

-- how many pages the young objects cover
abbrev pub young_page_count : Graph → ℕ
young_page_count g = length (distinct (all_covered (places_from 0 (young_sizes g)) (young_sizes g)))

abbrev pub large_page_count : List Class → Object → Place → ℕ
large_page_count cs o (place.Image spot) = 0
large_page_count cs o (place.Zygote spot) = 0
large_page_count cs o place.Young = 0
large_page_count cs o place.Large = parts_for page_bytes (unrounded cs o.shape)
large_page_count cs o place.Promoted = 0

-- how many pages are the process's own: those of young objects, and of large ones that aren't promoted
abbrev pub own_page_count : Graph → ℕ
own_page_count g = young_page_count g + sum (map (λ o. large_page_count g.classes o o.place) g.objects)

abbrev pub is_image_page : PageName → Bool
is_image_page (Image k) = true
is_image_page (Zygote k) = false
is_image_page (Large n k) = false

abbrev pub is_zygote_page : PageName → Bool
is_zygote_page (Image k) = false
is_zygote_page (Zygote k) = true
is_zygote_page (Large n k) = false

abbrev pub is_large_page : PageName → Bool
is_large_page (Image k) = false
is_large_page (Zygote k) = false
is_large_page (Large n k) = true
