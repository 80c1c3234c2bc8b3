use Rattle.rpki_ca.proofs.Digits.{is_spelling, spelled}
use Rattle.rpki_ca.proofs.law.hexadecimal_is_digits.Goals as goal

pub returns : goal.returns
returns c = λ input octets. (is_spelling input octets, spelled input octets)
