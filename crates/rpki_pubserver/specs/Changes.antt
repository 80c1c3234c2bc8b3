-- What becomes of a store by the changes of a query (RFC 8181, 2.2), and why a change isn't made
-- (2.5).
use Rattle.std.specs.Prelude.{ℕ, if◌then◌else◌, Option, None, Some, Result, Ok, Err, List, [], ◌∷◌, nat_eq}
use Rattle.std.specs.List.{starts_with}
use Rattle.std.specs.Str.{bytes_eq}
use Rattle.rpki_publication.specs.declared.publish_delta_element.PublishDeltaElement.{PublishDeltaElement}
use Rattle.rpki_publication.specs.declared.publish_delta_element.PublishDeltaElement.TheVariants as change
use Rattle.rpki_publication.specs.declared.report_error_code.ReportErrorCode.{ReportErrorCode}
use Rattle.rpki_publication.specs.declared.report_error_code.ReportErrorCode.TheVariants as code
use Rattle.rpki_pubserver.specs.Store.{Store, digest_at, put, without}

-- the URI of a change
abbrev pub uri_of : PublishDeltaElement → List ℕ
uri_of (change.Publish p) = p.uri
uri_of (change.Update u) = u.uri
uri_of (change.Withdraw w) = w.uri

-- the tag of a change, if it has one (2.2)
abbrev pub tag_of_change : PublishDeltaElement → Option (List ℕ)
tag_of_change (change.Publish p) = p.tag
tag_of_change (change.Update u) = u.tag
tag_of_change (change.Withdraw w) = w.tag

-- ---- one change

-- why a replacement or a withdrawal that names this digest is refused, by the digest of the object at
-- the URI, if there is one
abbrev pub code_by_hash : List ℕ → Option (List ℕ) → Option ReportErrorCode
code_by_hash hash None = Some code.NoObjectPresent
code_by_hash hash (Some digest) =
    if bytes_eq digest hash then None else Some code.NoObjectMatchingHash

-- why a change isn't made where the object with this digest is there: one is published where none is
abbrev pub code_at : PublishDeltaElement → Option (List ℕ) → Option ReportErrorCode
code_at (change.Publish p) None = None
code_at (change.Publish p) (Some digest) = Some code.ObjectAlreadyPresent
code_at (change.Update u) there = code_by_hash u.hash there
code_at (change.Withdraw w) there = code_by_hash w.hash there

-- why a change isn't made where this is there: its URI has to begin with the base
abbrev pub code_under : List ℕ → PublishDeltaElement → Option (List ℕ) → Option ReportErrorCode
code_under base e there =
    if starts_with nat_eq (uri_of e) base then code_at e there else Some code.PermissionFailure

-- why a change of a store isn't made
abbrev pub code_of : List ℕ → Store → PublishDeltaElement → Option ReportErrorCode
code_of base store e = code_under base e (digest_at store (uri_of e))

-- the store where it is made
abbrev pub changed : Store → PublishDeltaElement → Store
changed store (change.Publish p) = put store p.uri p.content
changed store (change.Update u) = put store u.uri u.content
changed store (change.Withdraw w) = without store w.uri

-- a change that isn't made, and why
pub record Refused : Type 0 where
  pub element : PublishDeltaElement
  pub code : ReportErrorCode

-- this store where there is no code; else that the change isn't made, for the code
abbrev pub refused_or : PublishDeltaElement → Store → Option ReportErrorCode → Result Store Refused
refused_or e store None = Ok store
refused_or e store (Some code) = Err (record { element = e; code = code })

-- the store behind a change, or that it isn't made
abbrev pub after_element : List ℕ → Store → PublishDeltaElement → Result Store Refused
after_element base store e = refused_or e (changed store e) (code_of base store e)

-- ---- all changes of a query

-- the store behind all changes, one behind the other, or the first that isn't made
abbrev pub after_all : List ℕ → Result Store Refused → List PublishDeltaElement
    → Result Store Refused
after_all base (Err refused) elements = Err refused
after_all base (Ok store) [] = Ok store
after_all base (Ok store) (e ∷ more) = after_all base (after_element base store e) more

-- the store where all these changes are made, one behind the other
abbrev pub all_made : Store → List PublishDeltaElement → Store
all_made store [] = store
all_made store (e ∷ more) = all_made (changed store e) more
