-- The object identifiers of requests, by their contents octets.
use Rattle.std.specs.Prelude.{ℕ, List, [], ◌∷◌}

-- extensionRequest, 1.2.840.113549.1.9.14 (RFC 2985, 5.4.2)
abbrev pub extension_request : List ℕ
extension_request = 42 ∷ 134 ∷ 72 ∷ 134 ∷ 247 ∷ 13 ∷ 1 ∷ 9 ∷ 14 ∷ []

-- ---- extensions (RFC 5280, 4.2.1 and 4.2.2)

-- id-ce-keyUsage, 2.5.29.15
abbrev pub key_usage : List ℕ
key_usage = 85 ∷ 29 ∷ 15 ∷ []

-- id-ce-extKeyUsage, 2.5.29.37
abbrev pub extended_key_usage : List ℕ
extended_key_usage = 85 ∷ 29 ∷ 37 ∷ []

-- id-pe-subjectInfoAccess, 1.3.6.1.5.5.7.1.11
abbrev pub subject_info_access : List ℕ
subject_info_access = 43 ∷ 6 ∷ 1 ∷ 5 ∷ 5 ∷ 7 ∷ 1 ∷ 11 ∷ []

-- ---- what a key is used for

-- id-kp-bgpsec-router, 1.3.6.1.5.5.7.3.30 (RFC 8209, 3.1.3.2)
abbrev pub bgpsec_router : List ℕ
bgpsec_router = 43 ∷ 6 ∷ 1 ∷ 5 ∷ 5 ∷ 7 ∷ 3 ∷ 30 ∷ []

-- ---- what is accessed

-- id-ad-caRepository, 1.3.6.1.5.5.7.48.5 (RFC 5280, 4.2.2.2)
abbrev pub ca_repository : List ℕ
ca_repository = 43 ∷ 6 ∷ 1 ∷ 5 ∷ 5 ∷ 7 ∷ 48 ∷ 5 ∷ []

-- id-ad-rpkiManifest, 1.3.6.1.5.5.7.48.10 (RFC 6487, 4.8.8.1)
abbrev pub rpki_manifest : List ℕ
rpki_manifest = 43 ∷ 6 ∷ 1 ∷ 5 ∷ 5 ∷ 7 ∷ 48 ∷ 10 ∷ []

-- id-ad-rpkiNotify, 1.3.6.1.5.5.7.48.13 (RFC 8182, 3.2)
abbrev pub rpki_notify : List ℕ
rpki_notify = 43 ∷ 6 ∷ 1 ∷ 5 ∷ 5 ∷ 7 ∷ 48 ∷ 13 ∷ []
