use Rattle.std.proofs.Common.{◌≡◌, [], length, take}
use Rattle.std.specs.List.{flat_map, fold}
use Rattle.hprof_write.specs.Strings.{class_texts, with_text}
use Rattle.hprof_write.proofs.strings.strings_of.Given as goal

abbrev pub invariant-loop-class : goal.invariant-loop-class
invariant-loop-class l = record {
  count : l.class-end ≡ length l.classes;
  keys : l.strings.keys ≡ fold with_text [] (flat_map class_texts (take l.class l.classes));
}
