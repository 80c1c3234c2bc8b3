-- What is asked of a scheme, as data: whether signatures are those of octets under keys.
use Rattle.std.specs.Prelude.{ℕ, Bool, true, false, Option, None, Some, List, [], ◌∷◌, ◌++◌, map}
use Rattle.rpki_base.specs.PublicKey.{KeyFields}
use Rattle.rpki_base.specs.RpkiSignatureAlgorithm.{RpkiAlgorithm}
use Rattle.rpki_base.specs.Scheme.{Relation}
use Rattle.rpki_base.specs.SignedData.{Signed}
use Rattle.rpki_base.specs.declared.algorithm.SigningAlgorithm.TheVariants.{RsaSha256}
use Rattle.rpki_cert.specs.Csr.{RequestFields}
use Rattle.rpki_idcert.specs.Checks.{names_itself}
use Rattle.rpki_idcert.specs.IdCert.{CertificateFields}
use Rattle.rpki_sigmsg.specs.Crl.{CrlFields}
use Rattle.rpki_sigmsg.specs.Message.{MessageFields}
use Rattle.rpki_external.specs.declared.question.Part.{Part}
use Rattle.rpki_external.specs.declared.question.Part.TheVariants as parts

-- of which part it is, under which key, for which octets, and by which signature
pub record QuestionFields : Type 0 where
  pub part : Part
  pub key : KeyFields
  pub octets : List ℕ
  pub signature : List ℕ

-- what a question asks: whether the signature is one of the octets under the key
abbrev pub SignatureHolds : Relation → QuestionFields → Type 0
SignatureHolds scheme q = scheme RsaSha256 q.key q.octets q.signature

-- a part, the octets of it that are signed, and their signature, under whatever key
pub record SignedPartFields : Type 0 where
  pub part : Part
  pub octets : List ℕ
  pub signature : List ℕ

-- the question whether it is signed under this key
abbrev pub under : KeyFields → SignedPartFields → QuestionFields
under key p = record { part = p.part; key = key; octets = p.octets; signature = p.signature }

-- Questions: what is asked under a key that stands in what is verified, if something is; and the
-- parts that are asked under each of the keys that are handed in.
pub record QuestionsFields : Type 0 where
  pub own : Option QuestionFields
  pub parts : List SignedPartFields
  pub keys : List KeyFields

-- the question of its own, if there is one
abbrev pub own_question : Option QuestionFields → List QuestionFields
own_question None = []
own_question (Some q) = q ∷ []

-- each part under one key after the other
abbrev pub under_each : List SignedPartFields → List KeyFields → List QuestionFields
under_each parts [] = []
under_each parts (key ∷ keys) = map (under key) parts ++ under_each parts keys

-- the questions one by one, in their order: that of its own, and the parts under one key after the
-- other
abbrev pub listed : QuestionsFields → List QuestionFields
listed q = own_question q.own ++ under_each q.parts q.keys

-- ---- a signed message (RFC 5652, 5.4 and 5.6; RFC 5280, 4.1.1.3 and 5.1.1.3)

-- the attributes, under the certificate's key
abbrev pub attributes_question : MessageFields → QuestionFields
attributes_question m = record {
  part = parts.Attributes;
  key = m.certificate.tbs.key;
  octets = m.covered;
  signature = m.signature.value;
}

-- the certificate
abbrev pub certificate_part : CertificateFields → SignedPartFields
certificate_part c = record {
  part = parts.Certificate;
  octets = c.signed.slice;
  signature = c.signed.signature.value;
}

-- a CRL
abbrev pub crl_part : CrlFields → SignedPartFields
crl_part c = record {
  part = parts.Crl;
  octets = c.signed.slice;
  signature = c.signed.signature.value;
}

-- what the checks under these keys ask: of the attributes once, and under each key of the
-- certificate and of each CRL
abbrev pub message_questions : MessageFields → List KeyFields → QuestionsFields
message_questions m keys = record {
  own = Some (attributes_question m);
  parts = certificate_part m.certificate ∷ map crl_part m.crls;
  keys = keys;
}

-- ---- a trust anchor's certificate (RFC 8183, 5; RFC 5280, 4.1.1.3)

-- the certificate, under its own key
abbrev pub anchor_question : CertificateFields → QuestionFields
anchor_question c = record {
  part = parts.Anchor;
  key = c.tbs.key;
  octets = c.signed.slice;
  signature = c.signed.signature.value;
}

-- its own signature is asked where it names itself as its issuer
abbrev pub anchor_asked : Bool → CertificateFields → Option QuestionFields
anchor_asked true c = Some (anchor_question c)
anchor_asked false c = None

-- what the checks of a trust anchor's certificate ask
abbrev pub anchor_questions : CertificateFields → QuestionsFields
anchor_questions c = record { own = anchor_asked (names_itself c.tbs) c; parts = []; keys = [] }

-- ---- a certificate request (RFC 2986, 4.2)

-- the request, under the key that it names
abbrev pub request_question : {T : Type 0} → Signed RpkiAlgorithm (RequestFields T) → QuestionFields
request_question r = record {
  part = parts.Request;
  key = r.tbs.key;
  octets = r.signed.slice;
  signature = r.signed.signature.value;
}

-- what the check of a request asks
abbrev pub request_questions : {T : Type 0} → Signed RpkiAlgorithm (RequestFields T)
    → QuestionsFields
request_questions r = record { own = Some (request_question r); parts = []; keys = [] }
