-- The certificates that a CRL revokes (RFC 5280, 5.1.2.6 and 5.3).
use Rattle.std.specs.Prelude.{ℕ, ℤ, Bool, bytes_eq, Option, Some, List, []}
use Rattle.std.specs.List.{list_any}
use Rattle.rpki_common.specs.Chaining.{◌>>=◌}
use Rattle.rpki_der.specs.Tags.{sequence}
use Rattle.rpki_der.specs.Value.{Value}
use Rattle.rpki_der.specs.Grammar.{within, first, optional, every, done}
use Rattle.rpki_der.specs.Held.{held}
use Rattle.rpki_base.specs.Serial.{serial}
use Rattle.rpki_base.specs.Time.{time}
use Rattle.rpki_sigmsg.specs.Algorithm.{any_sequence}

-- the serial number as twenty octets, and the seconds since 1970
pub record EntryFields : Type 0 where
  pub user_certificate : List ℕ
  pub revocation_date : ℤ

--     revokedCertificates SEQUENCE OF SEQUENCE {
--       userCertificate CertificateSerialNumber,
--       revocationDate Time,
--       crlEntryExtensions Extensions OPTIONAL } OPTIONAL
--
-- an entry: a serial number, a time, and the entry's extensions or none, unread
unfoldable pub crl_entry : Value → Option EntryFields
crl_entry = within sequence (λ vs. do
  certificate ← first serial vs
  date ← first time certificate.1
  extensions ← optional sequence any_sequence date.1
  done (record { user_certificate = certificate.0; revocation_date = date.0 }) extensions.1)

-- the entries' octets as they stand, one behind the other, and what they say
pub record RevokedFields : Type 0 where
  pub octets : List ℕ
  pub entries : List EntryFields

-- a SEQUENCE of entries
unfoldable pub revoked_certificates : Value → Option RevokedFields
revoked_certificates = within sequence (λ vs. do
  list ← held (every crl_entry) vs
  Some (record { octets = list.0; entries = list.1 }))

-- where no list is there
abbrev pub none_revoked : RevokedFields
none_revoked = record { octets = []; entries = [] }

-- an entry has this serial number
abbrev pub is_listed : List ℕ → List EntryFields → Bool
is_listed number = list_any (λ e. bytes_eq e.user_certificate number)
