-- Signed data: what was signed, as its exact octets, and the signature of it (RFC 5280, 4.1.1 and
-- 5.1.1; RFC 2986, 4.2).
use Rattle.std.specs.Prelude.{ℕ, ◌^◌, ◌<◌, Option, Some, List, ◌++◌, length}
use Rattle.rpki_common.specs.Chaining.{◌>>=◌}
use Rattle.rpki_der.specs.declared.mode.Mode.{Mode}
use Rattle.rpki_der.specs.Tags.{sequence}
use Rattle.rpki_der.specs.Value.{Value, Values}
use Rattle.rpki_der.specs.Grammar.{any, within, first, done, so}
use Rattle.rpki_der.specs.Bits.{bit_string}
use Rattle.rpki_der.specs.Held.{with_octets}
use Rattle.rpki_der.specs.Writing.{der_constructed}
use Rattle.rpki_base.specs.Bits.{spelled_bits}
use Rattle.rpki_base.specs.Signature.{SignatureParts}

-- the exact octets of the signed value, and the signature
pub record SignedParts (A : Type 0) : Type 0 where
  pub slice : List ℕ
  pub signature : SignatureParts A

-- a value whose octets are read as an algorithm
abbrev pub algorithm_in : {A : Type 0} → (Mode → List ℕ → Option A) → Mode → Value → Option A
algorithm_in reads mode = so any (reads mode)

-- the algorithm and the octets of the signature, and nothing behind them; how many bits of the last
-- octet are unused is dropped
unfoldable pub signature_in : {A : Type 0} → (Mode → List ℕ → Option A) → Mode → Values
    → Option (SignatureParts A)
signature_in reads mode vs = do
  algorithm ← first (algorithm_in reads mode) vs
  bits ← first bit_string algorithm.1
  done (record { algorithm = algorithm.0; value = bits.0.octets }) bits.1

-- The form that Certificate (4.1), CertificateList (5.1) and CertificationRequest (RFC 2986, 4.2)
-- have in common:
--
--     SEQUENCE {
--       tbs ANY,
--       signatureAlgorithm AlgorithmIdentifier,
--       signatureValue BIT STRING }
--
-- a signed value, as a grammar reads it, and its signature, and what is made of both
unfoldable pub signed_as : {X A Y : Type 0} → (Value → Option X) → (X → SignatureParts A → Y)
    → (Mode → List ℕ → Option A) → Mode → Value → Option Y
signed_as grammar made reads mode = within sequence (λ vs. do
  value ← first grammar vs
  signature ← signature_in reads mode value.1
  Some (made value.0 signature))

-- the octets that were signed, and their signature
abbrev pub signed_octets : {A : Type 0} → List ℕ → SignatureParts A → SignedParts A
signed_octets slice signature = record { slice = slice; signature = signature }

-- any signed value, by its octets
unfoldable pub signed_data : {A : Type 0} → (Mode → List ℕ → Option A) → Mode → Value
    → Option (SignedParts A)
signed_data reads mode = signed_as any signed_octets reads mode

-- the exact octets that are signed with their signature, and what they say
pub record Signed (A T : Type 0) : Type 0 where
  pub signed : SignedParts A
  pub tbs : T

-- the octets that are signed and what they say, with their signature
abbrev pub signed_fields : {A T : Type 0} → List ℕ × T → SignatureParts A → Signed A T
signed_fields held signature = record { signed = signed_octets held.0 signature; tbs = held.1 }

-- a signed value that a grammar reads, which says what it is
unfoldable pub signed_value : {A T : Type 0} → (Mode → Value → Option T)
    → (Mode → List ℕ → Option A) → Mode → Value → Option (Signed A T)
signed_value tbs reads mode = signed_as (with_octets (tbs mode)) signed_fields reads mode

-- ---- as signed data are written, where spelled says how algorithms are

-- the fields in turn: what was signed as it is held, the algorithm identifier, and the signature as
-- a BIT STRING
abbrev pub spelled_parts : {A : Type 0} → (A → List ℕ) → SignedParts A → List ℕ
spelled_parts spelled d = d.slice ++ (spelled d.signature.algorithm
    ++ spelled_bits d.signature.value)

-- a SEQUENCE of the fields in DER
abbrev pub spelled_data : {A : Type 0} → (A → List ℕ) → SignedParts A → List ℕ
spelled_data spelled d = der_constructed sequence (spelled_parts spelled d)

-- the data have a spelling: four length octets can say how long their parts are (X.690, 8.1.3)
abbrev pub CanSpellSigned : {A : Type 0} → (A → List ℕ) → SignedParts A → Type 0
CanSpellSigned spelled d = length (spelled_parts spelled d) < 2 ^ 32
