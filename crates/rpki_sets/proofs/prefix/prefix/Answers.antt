use Rattle.std.proofs.Common.{refl, arith}
use Rattle.rpki_sets.proofs.PrefixLemmas.{last_fits}
use Rattle.rpki_sets.proofs.prefix.prefix.Goals as goal

pub overflow_add-result : goal.overflow_add-result
overflow_add-result c = record {
  fits = last_fits c.args.address _ c.args.width (omega arith) c.requires.width c.requires.address c.if-free-eq128.false _ refl;
}
