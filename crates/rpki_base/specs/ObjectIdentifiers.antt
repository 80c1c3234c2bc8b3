-- The object identifiers of keys, signatures and extensions, by their contents octets (RFC 8017, C;
-- RFC 5480, 2.1.1; RFC 5758, 3.2).
use Rattle.std.specs.Prelude.{ℕ, List, [], ◌∷◌}

-- rsaEncryption, 1.2.840.113549.1.1.1
abbrev pub rsa_encryption : List ℕ
rsa_encryption = 42 ∷ 134 ∷ 72 ∷ 134 ∷ 247 ∷ 13 ∷ 1 ∷ 1 ∷ 1 ∷ []

-- sha256WithRSAEncryption, 1.2.840.113549.1.1.11
abbrev pub sha256_with_rsa : List ℕ
sha256_with_rsa = 42 ∷ 134 ∷ 72 ∷ 134 ∷ 247 ∷ 13 ∷ 1 ∷ 1 ∷ 11 ∷ []

-- id-ecPublicKey, 1.2.840.10045.2.1
abbrev pub ec_public_key : List ℕ
ec_public_key = 42 ∷ 134 ∷ 72 ∷ 206 ∷ 61 ∷ 2 ∷ 1 ∷ []

-- prime256v1, the curve that is also named secp256r1, 1.2.840.10045.3.1.7
abbrev pub prime256v1 : List ℕ
prime256v1 = 42 ∷ 134 ∷ 72 ∷ 206 ∷ 61 ∷ 3 ∷ 1 ∷ 7 ∷ []

-- ecdsa-with-SHA256, 1.2.840.10045.4.3.2
abbrev pub ecdsa_with_sha256 : List ℕ
ecdsa_with_sha256 = 42 ∷ 134 ∷ 72 ∷ 206 ∷ 61 ∷ 4 ∷ 3 ∷ 2 ∷ []

-- id-at-commonName, 2.5.4.3 (RFC 5280, A.1)
abbrev pub common_name : List ℕ
common_name = 85 ∷ 4 ∷ 3 ∷ []

-- ---- extensions (RFC 5280, 4.2.1 and 5.2)

-- id-ce-subjectKeyIdentifier, 2.5.29.14
abbrev pub subject_key_identifier : List ℕ
subject_key_identifier = 85 ∷ 29 ∷ 14 ∷ []

-- id-ce-basicConstraints, 2.5.29.19
abbrev pub basic_constraints : List ℕ
basic_constraints = 85 ∷ 29 ∷ 19 ∷ []

-- id-ce-cRLNumber, 2.5.29.20
abbrev pub crl_number : List ℕ
crl_number = 85 ∷ 29 ∷ 20 ∷ []

-- id-ce-authorityKeyIdentifier, 2.5.29.35
abbrev pub authority_key_identifier : List ℕ
authority_key_identifier = 85 ∷ 29 ∷ 35 ∷ []
