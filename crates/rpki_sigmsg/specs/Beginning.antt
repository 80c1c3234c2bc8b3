-- Octets that begin with a signed message (RFC 6492, 3.1; RFC 8181, 2). What stands behind it isn't
-- read.
use Rattle.std.specs.Prelude.{ℕ, List}
use Rattle.rpki_der.specs.declared.mode.Mode.TheVariants.{Ber}
use Rattle.rpki_der.specs.Takes.{BeginsAs}
use Rattle.rpki_sigmsg.specs.Message.{MessageFields, signed_message}

-- the octets begin with this signed message, in BER
abbrev pub BeginsSigned : List ℕ → MessageFields → Type 0
BeginsSigned octets signed = BeginsAs (signed_message Ber) Ber octets signed

-- the octets begin with a signed message whose content is this
pub record HoldsContent (is : List ℕ → Type 0) (octets : List ℕ) : Type 0 where
  pub signed : MessageFields
  pub begins : BeginsSigned octets signed
  pub content : is signed.content
