use Rattle.std.proofs.Common.{rules}
use Rattle.rpki_base.specs.contracts.algorithm.PublicKeyFormatPartialEq.TheImpl as formats
use Rattle.rpki_base.specs.contracts.key_identifier.KeyIdentifierPartialEq.TheImpl as identifiers
use Rattle.rpki_idcert.proofs.Alike.{fields_decide}
use Rattle.rpki_idcert.proofs.tbs.equal_certificates_are_the_same.Goals as goal

pub returns-clause-fields : goal.returns-clause-fields
returns-clause-fields c = fields_decide formats.eq-value.it identifiers.eq-value.it (λ x y. search rules) (λ x y. search rules)
