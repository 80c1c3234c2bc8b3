-- What is read of the octets in a shape, and how often reading them ticks. A means for the readers
-- of certificates and requests.
use Rattle.std.specs.Prelude.{◌≡◌, ℕ, ◌+◌, ◌*◌, ◌≤◌, List, length, sum_by, Option, None, Some, Result, MatchResult, ⊤}
use Rattle.rpki_updown.specs.declared.error.Error.{Error}
use Rattle.rpki_updown.specs.declared.error.Error.TheVariants as errors
use Rattle.rpki_updown.specs.Entitlements.{IssuedOf, ClassOf, IssuanceOf}
use Rattle.rpki_provisioning.specs.declared.shape.PayloadShape.{PayloadShape}
use Rattle.rpki_provisioning.specs.declared.shape.PayloadShape.TheVariants as shape

-- the answer is this fault, where nothing is given; OutOfMemory says nothing
abbrev pub IsFault : {Y : Type 0} → Error → Option Y → Error → Type 0
IsFault fault given errors.OutOfMemory = ⊤
IsFault fault given e = (e ≡ fault) × (given ≡ None)

-- what is given of so many octets, after at most two ticks for each of them; no tick is taken back
pub record Filled {Y : Type 0} (given : Option Y) (octets before after : ℕ) (y : Y) : Type 0 where
  pub gives : given ≡ Some y
  pub least : before ≤ after
  pub most : after ≤ before + 2 * octets

-- the error is this fault, where nothing is given, or OutOfMemory, after at most two ticks for each
-- of so many octets, and 8; no tick is taken back
pub record Unfilled {Y : Type 0} (fault : Error) (given : Option Y) (octets before after : ℕ)
    (e : Error) : Type 0 where
  pub fault' : IsFault fault given e
  pub least : before ≤ after
  pub most : after ≤ before + 2 * octets + 8

-- what is given of so many octets is answered, or an error is, each with the ticks that it may take
abbrev pub Fills : {X Y : Type 0} → Error → Option Y → (X → Y) → ℕ → ℕ → ℕ → Result X Error
    → Type 0
Fills fault given view octets before after result =
    MatchResult result (λ x. Filled given octets before after (view x))
    (λ e. Unfilled fault given octets before after e)

-- ---- how many octets are to be read

-- how many octets an issued certificate has
abbrev pub issued_size : IssuedOf (List ℕ) → ℕ
issued_size c = length c.cert

-- how many octets all certificates in a class have, with the issuing key's
abbrev pub class_size : ClassOf (List ℕ) → ℕ
class_size c = sum_by issued_size c.issued_certs + length c.signing_cert.cert

-- how many octets the issued certificate and the issuing key's have
abbrev pub issuance_size : IssuanceOf (List ℕ) → ℕ
issuance_size i = issued_size i.issued_cert + length i.signing_cert.cert

-- how many octets the certificates or the request in a payload have
abbrev pub payload_size : PayloadShape → ℕ
payload_size shape.List = 0
payload_size (shape.ListResponse classes) = sum_by class_size classes
payload_size (shape.Issue request) = length request.csr
payload_size (shape.IssueResponse response) = issuance_size response
payload_size (shape.Revoke key) = 0
payload_size (shape.RevokeResponse key) = 0
payload_size (shape.ErrorResponse response) = 0

-- what is wrong where they can't be read
abbrev pub fault_in : PayloadShape → Error
fault_in (shape.Issue request) = errors.InvalidCsrSyntax
fault_in _ = errors.CertSyntax
