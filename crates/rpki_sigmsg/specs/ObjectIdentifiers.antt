-- The object identifiers of signed messages, by their contents octets (RFC 5652, 5.1 and 11.1 to
-- 11.3;
-- RFC 5754, 2.2; RFC 6019, 2; RFC 6492, 3.1.1.3).
use Rattle.std.specs.Prelude.{ℕ, List, [], ◌∷◌}

-- id-signedData, 1.2.840.113549.1.7.2
abbrev pub signed_data_type : List ℕ
signed_data_type = 42 ∷ 134 ∷ 72 ∷ 134 ∷ 247 ∷ 13 ∷ 1 ∷ 7 ∷ 2 ∷ []

-- id-contentType, 1.2.840.113549.1.9.3
abbrev pub content_type : List ℕ
content_type = 42 ∷ 134 ∷ 72 ∷ 134 ∷ 247 ∷ 13 ∷ 1 ∷ 9 ∷ 3 ∷ []

-- id-messageDigest, 1.2.840.113549.1.9.4
abbrev pub message_digest : List ℕ
message_digest = 42 ∷ 134 ∷ 72 ∷ 134 ∷ 247 ∷ 13 ∷ 1 ∷ 9 ∷ 4 ∷ []

-- id-signingTime, 1.2.840.113549.1.9.5
abbrev pub signing_time : List ℕ
signing_time = 42 ∷ 134 ∷ 72 ∷ 134 ∷ 247 ∷ 13 ∷ 1 ∷ 9 ∷ 5 ∷ []

-- id-aa-binarySigningTime, 1.2.840.113549.1.9.16.2.46
abbrev pub binary_signing_time : List ℕ
binary_signing_time = 42 ∷ 134 ∷ 72 ∷ 134 ∷ 247 ∷ 13 ∷ 1 ∷ 9 ∷ 16 ∷ 2 ∷ 46 ∷ []

-- id-ct-xml, 1.2.840.113549.1.9.16.1.28
abbrev pub xml_content : List ℕ
xml_content = 42 ∷ 134 ∷ 72 ∷ 134 ∷ 247 ∷ 13 ∷ 1 ∷ 9 ∷ 16 ∷ 1 ∷ 28 ∷ []

-- id-sha256, 2.16.840.1.101.3.4.2.1
abbrev pub sha256_name : List ℕ
sha256_name = 96 ∷ 134 ∷ 72 ∷ 1 ∷ 101 ∷ 3 ∷ 4 ∷ 2 ∷ 1 ∷ []
