use Rattle.std.proofs.Common.{◌∙◌, ap, arith}
use Rattle.page_tables.specs.declared.address.Window.TheVariants.{Image}
use Rattle.image_space.specs.Space.{holds_first}
use Rattle.image_space.proofs.PageLemmas.{bytes-more}
use Rattle.image_space.proofs.laws.pages_are_of_objects.Goals as goal

pub returns : goal.returns
returns c = record {
  grown = λ old new at size p is places.
      ap (λ n. holds_first Image n p) places.fill ∙ bytes-more 131072 old.fill old.fill size at p (omega (arith, places.spot)) (omega arith) (omega (arith, is.least));
  mapped = λ m t fill p has window. has p window;
}
