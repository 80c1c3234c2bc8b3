-- The codes of errors, and what each means (RFC 8181, 2.5).
use Rattle.std.specs.Prelude.{ℕ, List, Option, None, Some, if◌then◌else◌, codes}
use Rattle.std.specs.Str.{bytes_eq}
use Rattle.rpki_publication.specs.declared.report_error_code.ReportErrorCode.{ReportErrorCode}
use Rattle.rpki_publication.specs.declared.report_error_code.ReportErrorCode.TheVariants as code

-- the text of a code, which stands in the attribute `error_code`
abbrev pub code_text : ReportErrorCode → List ℕ
code_text code.XmlError = codes "xml_error"
code_text code.PermissionFailure = codes "permission_failure"
code_text code.BadCmsSignature = codes "bad_cms_signature"
code_text code.ObjectAlreadyPresent = codes "object_already_present"
code_text code.NoObjectPresent = codes "no_object_present"
code_text code.NoObjectMatchingHash = codes "no_object_matching_hash"
code_text code.ConsistencyProblem = codes "consistency_problem"
code_text code.OtherError = codes "other_error"

-- the code that a text is
unfoldable pub code_of_text : List ℕ → Option ReportErrorCode
code_of_text text =
    if bytes_eq text (codes "xml_error") then Some code.XmlError
    else if bytes_eq text (codes "permission_failure") then Some code.PermissionFailure
    else if bytes_eq text (codes "bad_cms_signature") then Some code.BadCmsSignature
    else if bytes_eq text (codes "object_already_present") then Some code.ObjectAlreadyPresent
    else if bytes_eq text (codes "no_object_present") then Some code.NoObjectPresent
    else if bytes_eq text (codes "no_object_matching_hash") then Some code.NoObjectMatchingHash
    else if bytes_eq text (codes "consistency_problem") then Some code.ConsistencyProblem
    else if bytes_eq text (codes "other_error") then Some code.OtherError
    else None

-- the text of an error that has none of its own
abbrev pub default_text : ReportErrorCode → List ℕ
default_text code.XmlError = codes "Encountered an XML problem."
default_text code.PermissionFailure = codes "Client does not have permission to update this URI."
default_text code.BadCmsSignature = codes "Encountered bad CMS signature."
default_text code.ObjectAlreadyPresent =
    codes "An object is already present at this URI, yet a \"hash\" attribute was not specified."
default_text code.NoObjectPresent =
    codes "There is no object present at this URI, yet a \"hash\" attribute was specified."
default_text code.NoObjectMatchingHash =
    codes "The \"hash\" attribute supplied does not match the \"hash\" attribute of the object at this URI."
default_text code.ConsistencyProblem =
    codes "Server detected an update that looks like it will cause a consistency problem (e.g., an object was deleted, but the manifest was not updated)."
default_text code.OtherError = codes "Found some other issue."
