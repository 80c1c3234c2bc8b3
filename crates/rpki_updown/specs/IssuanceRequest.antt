-- Requests for certificates, printed.
use Rattle.std.specs.Prelude.{ℕ, List, ◌++◌, Option, None, Some, codes}
use Rattle.hex.specs.Hex.{encode_upper}
use Rattle.sha1.specs.Sha1.{sha1}
use Rattle.rpki_updown.specs.Entitlements.{IssuanceRequestFields, CaRequest}
use Rattle.rpki_updown.specs.RequestResourceLimit.{LimitFields, limit_text}

-- the URI, or `<none>` where there is none
abbrev pub or_none : Option (List ℕ) → List ℕ
or_none None = codes "<none>"
or_none (Some uri) = uri

-- where things are to be, as the request says it
abbrev pub places_text : CaRequest → List ℕ
places_text csr =
    codes "' rrdp notify '" ++ (or_none csr.tbs.attributes.access.rpki_notify
    ++ (codes "' ca repo '" ++ (or_none csr.tbs.attributes.access.ca_repository
    ++ (codes "' mft '" ++ (or_none csr.tbs.attributes.access.rpki_manifest ++ codes "'")))))

-- what is asked for: in a class of this name, with this limit, for the key with this identifier
abbrev pub asked_text : List ℕ → LimitFields → List ℕ → List ℕ
asked_text name limit key = codes "class name '" ++ (name ++ (codes "' limit '"
    ++ (limit_text limit ++ (codes "' csr for key '" ++ encode_upper key))))

-- What is printed: the name of the class, the limit, the identifier of the key in hexadecimal
-- digits in upper case, and the three places, or `<none>`, each in quotation marks.
abbrev pub issuance_request_text : IssuanceRequestFields → List ℕ
issuance_request_text r =
    asked_text r.class_name r.limit (sha1 r.csr.tbs.key.bits) ++ places_text r.csr
