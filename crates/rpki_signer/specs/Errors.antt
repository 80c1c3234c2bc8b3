-- How the errors of signers are printed, and become one another.
use Rattle.std.specs.Prelude.{ℕ, Option, Some, List, codes}
use Rattle.rpki_signer.specs.declared.errors.CallError.{CallError}
use Rattle.rpki_signer.specs.declared.errors.CallError.TheVariants as call
use Rattle.rpki_signer.specs.declared.errors.KeyError.{KeyError}
use Rattle.rpki_signer.specs.declared.errors.KeyError.TheVariants as key
use Rattle.rpki_signer.specs.declared.errors.SigningError.{SigningError}
use Rattle.rpki_signer.specs.declared.errors.SigningError.TheVariants as signing
use Rattle.rpki_signer.specs.declared.errors.MakeError.{MakeError}
use Rattle.rpki_signer.specs.declared.errors.MakeError.TheVariants as make

-- ---- texts, where the signer's own errors have these

-- the text of a CallError: the signer's own, or that memory ran out
abbrev pub call_text : {E : Type 0} → (E → Option (List ℕ)) → CallError E → Option (List ℕ)
call_text text (call.Signer error) = text error
call_text text call.OutOfMemory = Some (codes "out of memory")

-- the text of a KeyError: that there is no such key, the signer's own, or that memory ran out
abbrev pub key_text : {E : Type 0} → (E → Option (List ℕ)) → KeyError E → Option (List ℕ)
key_text text key.KeyNotFound = Some (codes "key not found")
key_text text (key.Signer error) = text error
key_text text key.OutOfMemory = Some (codes "out of memory")

-- the text of a SigningError: that there is no such key, that it isn't compatible with the
-- algorithm, the signer's own, or that memory ran out
abbrev pub signing_text : {E : Type 0} → (E → Option (List ℕ)) → SigningError E → Option (List ℕ)
signing_text text signing.KeyNotFound = Some (codes "key not found")
signing_text text signing.IncompatibleKey = Some (codes "key not compatible with algorithm")
signing_text text (signing.Signer error) = text error
signing_text text signing.OutOfMemory = Some (codes "out of memory")

-- the text of a MakeError: that a key or a signature is too long, that of a SigningError, or that
-- memory ran out
abbrev pub make_text : {E : Type 0} → (E → Option (List ℕ)) → MakeError E → Option (List ℕ)
make_text text make.TooLong = Some (codes "key or signature too long")
make_text text (make.Signing error) = signing_text text error
make_text text make.OutOfMemory = Some (codes "out of memory")

-- ---- conversions: each variant keeps its name

-- the KeyError that a CallError becomes
abbrev pub key_error_of : {E : Type 0} → CallError E → KeyError E
key_error_of (call.Signer error) = key.Signer error
key_error_of call.OutOfMemory = key.OutOfMemory

-- the SigningError that a CallError becomes
abbrev pub signing_error_of : {E : Type 0} → CallError E → SigningError E
signing_error_of (call.Signer error) = signing.Signer error
signing_error_of call.OutOfMemory = signing.OutOfMemory

-- the SigningError that a KeyError becomes
abbrev pub signing_error_of_key : {E : Type 0} → KeyError E → SigningError E
signing_error_of_key key.KeyNotFound = signing.KeyNotFound
signing_error_of_key (key.Signer error) = signing.Signer error
signing_error_of_key key.OutOfMemory = signing.OutOfMemory

-- want of memory stands beside what the signer says
abbrev pub make_error_of : {E : Type 0} → SigningError E → MakeError E
make_error_of signing.OutOfMemory = make.OutOfMemory
make_error_of error = make.Signing error
