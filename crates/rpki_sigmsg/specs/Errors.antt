-- How the errors of creation are printed, and come of those of a signer.
use Rattle.std.specs.Prelude.{ℕ, Option, Some, List, codes}
use Rattle.rpki_signer.specs.declared.errors.MakeError.{MakeError}
use Rattle.rpki_signer.specs.declared.errors.MakeError.TheVariants as make
use Rattle.rpki_signer.specs.Errors.{signing_text}
use Rattle.rpki_sigmsg.specs.declared.create_error.CreateError.{CreateError}
use Rattle.rpki_sigmsg.specs.declared.create_error.CreateError.TheVariants as create

-- where the signer's own errors have these texts
abbrev pub create_text : {E : Type 0} → (E → Option (List ℕ)) → CreateError E → Option (List ℕ)
create_text text create.Moment = Some (codes "the moment has no window")
create_text text create.TooLong = Some (codes "content, key or signature too long")
create_text text create.KeyReused = Some (codes "the one-off key is the issuing key")
create_text text (create.Signing error) = signing_text text error
create_text text create.OutOfMemory = Some (codes "out of memory")

-- the error of creation that an error of making becomes: each variant keeps its name
abbrev pub create_error_of : {E : Type 0} → MakeError E → CreateError E
create_error_of make.TooLong = create.TooLong
create_error_of (make.Signing error) = create.Signing error
create_error_of make.OutOfMemory = create.OutOfMemory
