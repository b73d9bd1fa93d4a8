use Rattle.std.proofs.Common.{rules, arith}
use Rattle.ah_outside.proofs.sound_source.SoundSourceSource.TheImpl.Goals as goal

pub take-tells : goal.take-tells
take-tells g c = record {
  within = search rules;
  gave = search rules;
  end = search rules;
  failed = search rules;
  cause = search rules;
  never_falls = omega arith;
}
