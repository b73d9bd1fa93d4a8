use Rattle.std.proofs.Common.{◌≡◌, List, option_map, take}
use Rattle.page_tables.specs.declared.address.Addr.{Addr}
use Rattle.cow_pages.specs.View.{view_of}
use Rattle.raw_objects.specs.Raws.{Raws}
use Rattle.object_promotion.specs.Listed.{found_at, ArePacked}
use Rattle.object_promotion.proofs.lists.list_young.Given as goal

-- the objects before the next one are listed
abbrev pub invariant-loop : goal.invariant-loop
invariant-loop l = record {
  same : l.frames ≡ l.fn.frames;
  next : (raws : Raws) (young : List Addr) → ArePacked l.classes (view_of l.fn.frames l.t.0) l.regions raws young → option_map (λ (at : Addr). at.0) l.next ≡ found_at young l.counter;
  listed : (raws : Raws) (young : List Addr) → ArePacked l.classes (view_of l.fn.frames l.t.0) l.regions raws young → l.list.items ≡ take l.counter young;
}
