-- What is planned and opened fits together.
use Rattle.std.proofs.Common.{◌≡◌, ◌∙◌, ◌+◌, ℕ, List, sum, sym, ap, subst}
use Rattle.page_tables.specs.declared.address.Addr.{Addr}
use Rattle.page_tables.specs.declared.address.Window.TheVariants.{Zygote}
use Rattle.page_tables.specs.Address.{first_page}
use Rattle.cow_pages.specs.Memory.{IsSound, Memory}
use Rattle.cow_pages.specs.View.{view_of}
use Rattle.image_space.specs.Space.{pages_up_to}
use Rattle.page_runs.specs.Runs.{MapsRun}
use Rattle.raw_objects.specs.Raws.{Raws}
use Rattle.object_moves.specs.Copies.{sizes_at}
use Rattle.object_collection.specs.Collects.{AreYoung, HeapState}
use Rattle.object_collection.specs.Phases.{Turning}
use Rattle.zygote_space.specs.Space.{end_of, HasPagesUpTo, IsSpace, Opens, Space}
use Rattle.object_promotion.specs.Listed.{ArePacked}
use Rattle.object_promotion.specs.Phases.{IsOpened, IsPlan}
use Rattle.object_promotion.specs.Promotes.{CanPromote}
use Rattle.object_promotion.proofs.Opened.{packed-there}

-- the sum of the sizes, the lists and the segment are of the objects that stand in the regions
pub is-opened : (h : HeapState) (m summed planned opened : Memory) (t : ℕ) (raws : Raws) (z z1 : Space) (total : ℕ) (plan : Turning) (young : List Addr) → CanPromote h m t raws z → AreYoung h raws young
    → summed ≡ m → planned ≡ summed → (ArePacked h.classes (view_of m t) h.regions raws young → total ≡ sum (sizes_at h.classes raws young))
    → (CanPromote h summed t raws z → AreYoung h raws young → IsPlan h raws plan × (plan.young ≡ young))
    → Opens z z1 total → MapsRun planned opened t (first_page Zygote + pages_up_to z.fill) (pages_up_to total) → IsSpace z1 → (IsSound planned → IsSound opened) → HasPagesUpTo opened t (end_of z1)
    → IsOpened h m opened t raws z z1 plan × (plan.young ≡ young) × (total ≡ sum (sizes_at h.classes raws young))
is-opened h m summed planned opened t raws z z1 total plan young can are same1 same2 total_is planned_is opens maps space sound pages =
    let same : planned ≡ m = same2 ∙ same1 in
    let bytes = total_is (packed-there h m t raws young can.can are) in
    let lists = planned_is (subst (λ (x : Memory). CanPromote h x t raws z) (sym same1) can) are in
    let mine : total ≡ sum (sizes_at h.classes raws plan.young) = bytes ∙ ap (λ (ats : List Addr). sum (sizes_at h.classes raws ats)) (sym lists.1) in (
      record {
        can = can;
        plan_is = lists.0;
        opens = subst (Opens z z1) mine opens;
        maps = subst (λ (n : ℕ). MapsRun m opened t (first_page Zygote + pages_up_to z.fill) (pages_up_to n)) mine
            (subst (λ (x : Memory). MapsRun x opened t (first_page Zygote + pages_up_to z.fill) (pages_up_to total)) same maps);
        space = space;
        sound = sound (subst IsSound (sym same) can.can.held.sound);
        pages = pages;
      },
      lists.1,
      bytes,
    )
