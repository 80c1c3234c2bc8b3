-- What it means that a certificate or a request was read in DER.
use Rattle.std.specs.Prelude.{◌≡◌, ℕ, List, Option, Some}
use Rattle.base64.specs.GeneralPurpose.{IsBytes}
use Rattle.rpki_der.specs.declared.mode.Mode.{Mode}
use Rattle.rpki_der.specs.declared.mode.Mode.TheVariants.{Der}
use Rattle.rpki_der.specs.Reader.{decoded}
use Rattle.rpki_der.specs.Takes.{BeginsAs}
use Rattle.rpki_der.specs.Value.{Value}
use Rattle.rpki_der.specs.Whole.{whole_of}
use Rattle.rpki_base.specs.RpkiSignatureAlgorithm.{x509_algorithm, spelled_x509}
use Rattle.rpki_base.specs.SignedData.{Signed, spelled_data}
use Rattle.rpki_cert.specs.Cert.{CertFields, certificate}
use Rattle.rpki_cert.specs.Csr.{RequestFields, certification_request}
use Rattle.rpki_cert.specs.CsrAttributes.{ca_attributes}
use Rattle.rpki_cert.specs.Making.{CaRequest}

-- The octets of the certificate are octets, and in DER they are read as it.
pub record IsCertificate (c : CertFields) : Type 0 where
  pub octets : IsBytes c.slice
  pub read : decoded (certificate Der) Der c.slice ≡ Some c

-- Octets begin with the request, in DER.
pub record IsReadInDer {A T : Type 0} (attributes : Mode → Value → Option T)
    (reads : Mode → List ℕ → Option A) (r : Signed A (RequestFields T)) : Type 0 where
  pub octets : List ℕ
  pub bytes : IsBytes octets
  pub begins : BeginsAs (certification_request attributes reads Der) Der octets r

-- What is written of an authority's request are octets, and in DER they are read as it.
pub record IsRequest (r : CaRequest) : Type 0 where
  pub octets : IsBytes (spelled_data spelled_x509 r.signed)
  pub read : decoded (certification_request ca_attributes (whole_of x509_algorithm) Der) Der
      (spelled_data spelled_x509 r.signed) ≡ Some r
