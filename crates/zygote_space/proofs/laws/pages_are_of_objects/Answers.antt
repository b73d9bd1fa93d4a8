use Rattle.std.proofs.Common.{◌∙◌, ◌||◌, ap, arith, subst, sym}
use Rattle.std.specs.Prelude.{IfSome}
use Rattle.page_tables.specs.declared.address.Window.TheVariants.{Zygote}
use Rattle.page_runs.specs.Covered.{covers}
use Rattle.image_space.specs.Space.{holds_first}
use Rattle.image_space.proofs.PageLemmas.{bytes-more}
use Rattle.zygote_space.specs.Space.{IsSegment, end_in, to_page, zygote_spot}
use Rattle.zygote_space.proofs.laws.pages_are_of_objects.Goals as goal

pub returns : goal.returns
returns c = record {
  grown = λ old new at size p space some places.
      let open_one : IsSegment old.fill places.segment = subst (λ it. IfSome it (IsSegment old.fill)) places.was space.segment in
      ap (λ n. holds_first Zygote n p) places.fill ∙ bytes-more 196608 old.fill places.segment.next size at p (omega (arith, places.spot)) open_one.same_pages some;
  opened = λ old new total p closed some opens.
      let spot = zygote_spot (to_page old.fill) in
      let now = ap (end_in new.fill) opens.segment in
      let before = ap (end_in old.fill) closed in
      ap (λ n. holds_first Zygote n p) now
      ∙ bytes-more 196608 old.fill (to_page old.fill) total spot p (omega arith) (omega arith) some
      ∙ ap (λ (n : _). holds_first Zygote n p || covers spot total p) (sym before);
  mapped = λ m t bytes p has window. has p window;
}
