-- An error of the decoding of a signed message says that none was found.
use Rattle.std.proofs.Common.{Err}
use Rattle.rpki_der.specs.declared.error.DecodeError.{DecodeError}
use Rattle.rpki_der.specs.declared.error.DecodeError.TheVariants as der
use Rattle.rpki_provisioning.specs.Answers.{of_der}
use Rattle.rpki_provisioning.specs.Cms.{FindsSigned}

pub nothing_found : (X : Type 0) (e : DecodeError) → FindsSigned {X = X} (Err (of_der e)) → ⊥
nothing_found X der.Malformed f = f
nothing_found X der.OutOfMemory f = f
