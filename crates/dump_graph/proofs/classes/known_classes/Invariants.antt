use Rattle.std.proofs.Common.{◌≡◌, ◌≤◌, map, take, length}
use Rattle.dump_graph.specs.Classes.{classes}
use Rattle.dump_graph.specs.Firsts.{firsts, IsApart}
use Rattle.dump_graph.proofs.classes.known_classes.Given as goal

abbrev pub invariant-loop-part : goal.invariant-loop-part
invariant-loop-part l = record {
  known : l.known.items ≡ firsts (λ c. c.id) (classes (take l.part-index (map (λ p. p.now) l.parts)));
  numbers : l.numbers ≡ map (λ c. c.id) l.known.items;
  apart : IsApart l.numbers;
  dumps : l.dumps ≡ length (classes (take l.part-index (map (λ p. p.now) l.parts)));
  few : l.dumps ≤ l.part-index;
}
