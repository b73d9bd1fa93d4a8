use Rattle.std.proofs.Common.{◌≤◌, length, codes, arith}
use Rattle.hprof_write.specs.Strings.{array_name}
use Rattle.hprof_write.proofs.Texts.{name-is, texts-last, texts-next}
use Rattle.hprof_write.proofs.strings.strings_of.Goals as goal

pub loop-class-preserved : goal.loop-class-preserved
loop-class-preserved c =
    record {
      count = c.loop-class.invariant.count;
      keys = texts-next c.args.classes.now c.loop-class.class c.name.result c.own_fields.result.now c.loop-class.strings.keys c.add_class.new.strings.keys
          c.name.ensures c.own_fields.ensures c.loop-class.invariant.keys c.in_ok-add_class.ensures;
    }

pub returns : goal.returns
returns c =
    let count = c.loop-class.invariant.count in
    let within : length c.args.classes.now ≤ c.loop-class.class = omega arith in
    texts-last c.args.classes.now c.loop-class.class c.loop-class.strings.keys c.add_text.new.strings.keys c.add_text-2.new.strings.keys c.add_text-3.new.strings.keys c.add_text-4.new.strings.keys
    c.unwrap.result c.unwrap-2.result c.unwrap-3.result c.unwrap-4.result within c.loop-class.invariant.keys
    c.in_ok-add_text.ensures c.in_ok-add_text-2.ensures c.in_ok-add_text-3.ensures c.in_ok-add_text-4.ensures
    (name-is c.of.result c.unwrap.result array_name c.unwrap.ensures c.of.ensures.value)
    (name-is c.of-2.result c.unwrap-2.result (codes "app") c.unwrap-2.ensures c.of-2.ensures.value)
    (name-is c.of-3.result c.unwrap-3.result (codes "image") c.unwrap-3.ensures c.of-3.ensures.value)
    (name-is c.of-4.result c.unwrap-4.result (codes "zygote") c.unwrap-4.ensures c.of-4.ensures.value)
