-- What a parent says of a resource class, and what it issues in one (RFC 6492, 3.3.2 and 3.4).
use Rattle.std.specs.Prelude.{◌≡◌, ◌≢◌, ℕ, ℤ, All, slice_get, take, map, List, Some}
use Rattle.rpki_base.specs.PublicKey.{KeyFields}
use Rattle.rpki_base.specs.RpkiSignatureAlgorithm.{RpkiAlgorithm}
use Rattle.rpki_base.specs.SignedData.{Signed}
use Rattle.rpki_cert.specs.Cert.{CertFields}
use Rattle.rpki_cert.specs.Csr.{RequestFields}
use Rattle.rpki_cert.specs.CsrAttributes.{CaAttributes}
use Rattle.rpki_sets.specs.Resources.{Resources}
use Rattle.rpki_updown.specs.RequestResourceLimit.{LimitFields}

-- ---- what is said, with certificates as C and requests as R: as what they are read as, or as the
-- octets that a message holds

-- a certificate that was issued: where it is published, what was asked for it, and itself
pub record IssuedOf (C : Type 0) : Type 0 where
  pub uri : List ℕ
  pub req_limit : LimitFields
  pub cert : C

-- the certificate of the issuing key: where it is published, and itself
pub record SigningOf (C : Type 0) : Type 0 where
  pub url : List ℕ
  pub cert : C

-- a class: its name, the client's resources in it until when (seconds since 1970), the certificates
-- issued to the client, and that of the issuing key
pub record ClassOf (C : Type 0) : Type 0 where
  pub class_name : List ℕ
  pub resource_set : Resources
  pub not_after : ℤ
  pub issued_certs : List (IssuedOf C)
  pub signing_cert : SigningOf C

-- a class with one issued certificate
pub record IssuanceOf (C : Type 0) : Type 0 where
  pub class_name : List ℕ
  pub resource_set : Resources
  pub not_after : ℤ
  pub issued_cert : IssuedOf C
  pub signing_cert : SigningOf C

-- what is asked for: the class, a limit, and the request for a certificate
pub record AskedOf (R : Type 0) : Type 0 where
  pub class_name : List ℕ
  pub limit : LimitFields
  pub csr : R

-- ---- records with f of each certificate, or of the request, in its place

-- an issued certificate, with f of it in its place
abbrev pub issued_with : {C D : Type 0} → (C → D) → IssuedOf C → IssuedOf D
issued_with f c = record { uri = c.uri; req_limit = c.req_limit; cert = f c.cert }

-- the issuing key's certificate, with f of it in its place
abbrev pub signing_with : {C D : Type 0} → (C → D) → SigningOf C → SigningOf D
signing_with f c = record { url = c.url; cert = f c.cert }

-- a class, with f of each of its certificates in its place
abbrev pub class_with : {C D : Type 0} → (C → D) → ClassOf C → ClassOf D
class_with f class' = record {
  class_name = class'.class_name;
  resource_set = class'.resource_set;
  not_after = class'.not_after;
  issued_certs = map (issued_with f) class'.issued_certs;
  signing_cert = signing_with f class'.signing_cert;
}

-- what is issued, with f of both certificates in their places
abbrev pub issuance_with : {C D : Type 0} → (C → D) → IssuanceOf C → IssuanceOf D
issuance_with f r = record {
  class_name = r.class_name;
  resource_set = r.resource_set;
  not_after = r.not_after;
  issued_cert = issued_with f r.issued_cert;
  signing_cert = signing_with f r.signing_cert;
}

-- what is asked for, with f of the request in its place
abbrev pub asked_with : {R S : Type 0} → (R → S) → AskedOf R → AskedOf S
asked_with f a = record { class_name = a.class_name; limit = a.limit; csr = f a.csr }

-- ---- the records of certificates and requests that were read

-- an issued certificate as it was read, with its URI and what was asked for
abbrev pub IssuedFields : Type 0
IssuedFields = IssuedOf CertFields

-- the issuing key's certificate as it was read, with its URI
abbrev pub SigningFields : Type 0
SigningFields = SigningOf CertFields

-- what a parent says of a resource class, with its certificates as they were read (3.3.2)
abbrev pub ClassFields : Type 0
ClassFields = ClassOf CertFields

-- what a parent issues in a resource class, with both certificates as they were read (3.4.2)
abbrev pub IssuanceFields : Type 0
IssuanceFields = IssuanceOf CertFields

-- a request of an authority
abbrev pub CaRequest : Type 0
CaRequest = Signed RpkiAlgorithm (RequestFields CaAttributes)

-- what a child asks for, with the request as it was read (3.4.1)
abbrev pub IssuanceRequestFields : Type 0
IssuanceRequestFields = AskedOf CaRequest

-- ---- the certificate of a key

-- none of the certificates has this key
abbrev pub NoneHas : KeyFields → List IssuedFields → Type 0
NoneHas key certs = All (λ c. c.cert.key ≢ key) certs

-- the first of the certificates that has this key
pub record IsFirstWith (key : KeyFields) (certs : List IssuedFields) (c : IssuedFields) : Type 0
  where
    pub place : ℕ
    pub at : slice_get certs place ≡ Some c
    pub has : c.cert.key ≡ key
    pub before : NoneHas key (take place certs)

-- what is issued, where this is the certificate
abbrev pub issuance : ClassFields → IssuedFields → IssuanceFields
issuance class' cert = record {
  class_name = class'.class_name;
  resource_set = class'.resource_set;
  not_after = class'.not_after;
  issued_cert = cert;
  signing_cert = class'.signing_cert;
}

-- what is issued is the first certificate of the class that has this key, with what the class says
pub record IsIssuanceFor (key : KeyFields) (class' : ClassFields) (r : IssuanceFields) : Type 0
  where
    pub cert : IssuedFields
    pub first : IsFirstWith key class'.issued_certs cert
    pub is : r ≡ issuance class' cert
