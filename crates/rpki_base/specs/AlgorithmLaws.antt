-- That the signature algorithms keep the laws of their trait: what is written of them is taken
-- again. No clause cites this.
use Rattle.std.proofs.Common.{◌≡◌, ℕ, ◌<◌, Bool, true, false, Option, None, Some, List, [], ◌++◌, length, refl, sym, ap, ◌∙◌, arith, length-append}
use Rattle.std.specs.Prelude.{bytes_eq, if◌then◌else◌}
use Rattle.rpki_common.specs.Chaining.{◌>>=◌}
use Rattle.rpki_der.specs.declared.mode.Mode.{Mode}
use Rattle.rpki_der.specs.Tags.{sequence, null_tag, oid_tag}
use Rattle.rpki_der.specs.Value.{Value, Values, End, ◌▸◌, Begins}
use Rattle.rpki_der.specs.Grammar.{within, first, optional, done, so}
use Rattle.rpki_der.specs.Oid.{subidentifiers, oid}
use Rattle.rpki_der.specs.Null.{null}
use Rattle.rpki_der.specs.Whole.{whole_of}
use Rattle.rpki_der.specs.Writing.{primitive_value, der_primitive, constructed_value, der_length}
use Rattle.rpki_der.proofs.Written.{spells_followed, spells_primitive, begins_constructed}
use Rattle.rpki_base.specs.ObjectIdentifiers.{sha256_with_rsa, ecdsa_with_sha256}
use Rattle.rpki_base.specs.AlgorithmIdentifier.{algorithm_identifier, spelled_identifier}
use Rattle.rpki_base.specs.declared.rpki_algorithm.RsaIdentifier.{RsaIdentifier}
use Rattle.rpki_base.specs.declared.rpki_algorithm.RsaIdentifier.TheVariants.{RsaEncryption, Sha256WithRsaEncryption}
use Rattle.rpki_base.specs.RpkiSignatureAlgorithm.{RpkiAlgorithm, x509_meaning, x509_algorithm, spelled_x509, cms_meaning, cms_algorithm, name_of, spelled_cms}
use Rattle.rpki_base.specs.BgpsecSignatureAlgorithm.{router_meaning, router_algorithm, spelled_router}
use Rattle.rpki_base.specs.WritingLaws.{length-der_length, is_sequence, is_oid, is_null, whole_so, whole_begins}

-- ---- the value that is written

-- the values in an algorithm identifier: the object identifier, and NULL behind it where that is
-- there
abbrev identifier_fields : List ℕ → Bool → Values
identifier_fields name true = primitive_value oid_tag name ▸ primitive_value null_tag [] ▸ End
identifier_fields name false = primitive_value oid_tag name ▸ End

-- an object identifier that is short and lawful
pub record IsShortName (name : List ℕ) : Type 0 where
  pub lawful : subidentifiers name ≡ Some name
  pub short : length name < 100

-- an OBJECT IDENTIFIER with fewer than 100 contents octets has fewer than 200 octets in DER
oid_short : (name : List ℕ) → length name < 100 → length (der_primitive oid_tag name) < 200
oid_short name h = omega (
  arith,
  length-der_length (length name),
  length-append
      (der_length (length name)) name,
)

-- what is written of an identifier, whose name has fewer than 100 octets, begins with the SEQUENCE
-- of its fields, whatever rest stands behind it
pub identifier_begins : (mode : Mode) (name : List ℕ) (b : Bool) (rest : List ℕ) → length name < 100
    → Begins mode (spelled_identifier name b ++ rest)
    (constructed_value sequence (identifier_fields name b)) rest
identifier_begins mode name true rest h =
    begins_constructed mode sequence (der_primitive oid_tag name ++ der_primitive null_tag []) rest
    _ is_sequence (omega (
      arith,
      oid_short name h,
      length-append (der_primitive oid_tag name)
          (der_primitive null_tag []),
    )) (spells_followed mode _ _ _ _
    (spells_primitive mode oid_tag name is_oid (omega arith))
    (spells_primitive mode null_tag [] is_null (omega arith)))
identifier_begins mode name false rest h =
    begins_constructed mode sequence (der_primitive oid_tag name) rest _ is_sequence
    (omega (arith, oid_short name h)) (spells_primitive mode oid_tag name is_oid (omega arith))

-- the SEQUENCE of the fields of a lawful name is read as that name, and whether NULL is there
identifier_reads : (name : List ℕ) (b : Bool) → subidentifiers name ≡ Some name
    → algorithm_identifier (constructed_value sequence (identifier_fields name b)) ≡ Some (name, b)
unfolding algorithm_identifier within first optional done so oid null ◌>>=◌
identifier_reads name true e = rw e refl
identifier_reads name false e = rw e refl

-- what is written of an identifier with a short and lawful name is read as what that name and NULL,
-- or its absence, mean
pub taken_again : {X : Type 0} (meaning : List ℕ × Bool → Option X) (mode : Mode) (name : List ℕ)
    (b : Bool) → IsShortName name
    → whole_of (so algorithm_identifier meaning) mode (spelled_identifier name b)
    ≡ meaning (name, b)
unfolding ◌>>=◌
taken_again meaning mode name b n =
    whole_so algorithm_identifier meaning mode (spelled_identifier name b)
    ∙ ap (λ o. o >>= meaning) (whole_begins algorithm_identifier mode (spelled_identifier name b) _
    (identifier_begins mode name b [] n.short) ∙ identifier_reads name b n.lawful)

-- ---- RSA over SHA-256

-- the object identifier sha256WithRSAEncryption is short and lawful
sha256_rsa_short : IsShortName sha256_with_rsa
sha256_rsa_short = record { lawful = refl; short = omega arith }

-- each object identifier that is written in a signer's information is short and lawful
name_short : (i : RsaIdentifier) → IsShortName (name_of i)
name_short RsaEncryption = record { lawful = refl; short = omega arith }
name_short Sha256WithRsaEncryption = sha256_rsa_short

-- where an algorithm under rsaEncryption or nothing is given by a condition, what is given is one
-- under rsaEncryption
meant_named : (b : Bool) (null' : Bool) (a : RpkiAlgorithm)
    → (if b then Some (record { identifier = RsaEncryption; null = null' }) else None) ≡ Some a
    → a.identifier ≡ RsaEncryption
meant_named true null' a e = let f : a ≡ record { identifier = RsaEncryption; null = null' } =
    cc in ap (λ (r : RpkiAlgorithm). r.identifier) f
meant_named false null' a e = absurd cc

-- what a read identifier means in a certificate, if anything, is held under rsaEncryption
found_named : (o : Option (List ℕ × Bool)) (a : RpkiAlgorithm) → (o >>= x509_meaning) ≡ Some a
    → a.identifier ≡ RsaEncryption
unfolding ◌>>=◌
found_named None a e = absurd cc
found_named (Some x) a e = meant_named (bytes_eq x.0 sha256_with_rsa) x.1 a e

-- an algorithm that is read as certificates name it is held under rsaEncryption
pub x509_named : (mode : Mode) (octets : List ℕ) (a : RpkiAlgorithm)
    → whole_of x509_algorithm mode octets ≡ Some a → a.identifier ≡ RsaEncryption
unfolding x509_algorithm
x509_named mode octets a e = found_named (whole_of algorithm_identifier mode octets) a
    (sym (whole_so algorithm_identifier x509_meaning mode octets) ∙ e)

-- an algorithm that is held under rsaEncryption is read again from what certificates hold of it
pub x509_again : (mode : Mode) (a : RpkiAlgorithm) → a.identifier ≡ RsaEncryption
    → whole_of x509_algorithm mode (spelled_x509 a) ≡ Some a
unfolding x509_algorithm
x509_again mode a e = taken_again x509_meaning mode sha256_with_rsa a.null sha256_rsa_short
    ∙ ap (λ (i : RsaIdentifier). Some (record { identifier = i; null = a.null })) (sym e)

-- a value begins what certificates hold of an algorithm, whatever stands behind it
pub x509_value : (mode : Mode) (a : RpkiAlgorithm) (rest : List ℕ)
    → (v : Value) × Begins mode (spelled_x509 a ++ rest) v rest
x509_value mode a rest = (
  constructed_value sequence (identifier_fields sha256_with_rsa a.null),
  identifier_begins mode sha256_with_rsa a.null rest (omega arith),
)

-- an object identifier that is written in a signer's information means the algorithm it is of
meant_cms : (i : RsaIdentifier) (b : Bool)
    → cms_meaning (name_of i, b) ≡ Some (record { identifier = i; null = b })
meant_cms RsaEncryption b = refl
meant_cms Sha256WithRsaEncryption b = refl

-- an algorithm is read again from what is written of it in a signer's information
pub cms_again : (mode : Mode) (a : RpkiAlgorithm)
    → whole_of cms_algorithm mode (spelled_cms a) ≡ Some a
unfolding cms_algorithm
cms_again mode a = taken_again cms_meaning mode (name_of a.identifier) a.null
    (name_short a.identifier) ∙ meant_cms a.identifier a.null

-- a value begins what is written of an algorithm in a signer's information, whatever stands behind
-- it
pub cms_value : (mode : Mode) (a : RpkiAlgorithm) (rest : List ℕ)
    → (v : Value) × Begins mode (spelled_cms a ++ rest) v rest
cms_value mode a rest = (
  constructed_value sequence
      (identifier_fields (name_of a.identifier) a.null),
  identifier_begins mode (name_of a.identifier)
      a.null rest (omega (arith, (name_short a.identifier).short)),
)

-- ---- ECDSA over SHA-256

-- the object identifier ecdsa-with-SHA256 is short and lawful
ecdsa_short : IsShortName ecdsa_with_sha256
ecdsa_short = record { lawful = refl; short = omega arith }

-- the algorithm of BGPsec is read again from what is written of it
pub router_again : (mode : Mode) (a : Unit {0})
    → whole_of router_algorithm mode spelled_router ≡ Some a
unfolding router_algorithm
router_again mode a = taken_again router_meaning mode ecdsa_with_sha256 false ecdsa_short

-- a value begins what is written of the algorithm of BGPsec, whatever stands behind it
pub router_value : (mode : Mode) (rest : List ℕ)
    → (v : Value) × Begins mode (spelled_router ++ rest) v rest
router_value mode rest = (
  constructed_value sequence (identifier_fields ecdsa_with_sha256 false),
  identifier_begins mode ecdsa_with_sha256 false rest (omega arith),
)
