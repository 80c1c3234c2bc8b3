use Rattle.rpki_der.proofs.Numbers.{too_large}
use Rattle.rpki_der.proofs.number.below_2_64.Goals as goal

pub returns-then-number-ge72057594037927936 : goal.returns-then-number-ge72057594037927936
returns-then-number-ge72057594037927936 c = too_large _ _ _ c.loop-octet-test.true c.loop-octet.invariant c.if-number-ge72057594037927936.true
