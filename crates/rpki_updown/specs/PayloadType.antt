-- The kinds of messages (RFC 6492, 3.2), by the attribute `type`.
use Rattle.std.specs.Prelude.{ℕ, List, Option, None, Some, if◌then◌else◌, codes}
use Rattle.std.specs.Str.{bytes_eq}
use Rattle.rpki_updown.specs.declared.payload_type.PayloadType.{PayloadType}
use Rattle.rpki_updown.specs.declared.payload_type.PayloadType.TheVariants as kind

-- the text of a kind, which stands in the attribute `type`
abbrev pub payload_type_text : PayloadType → List ℕ
payload_type_text kind.List = codes "list"
payload_type_text kind.ListResponse = codes "list_response"
payload_type_text kind.Issue = codes "issue"
payload_type_text kind.IssueResponse = codes "issue_response"
payload_type_text kind.Revoke = codes "revoke"
payload_type_text kind.RevokeResponse = codes "revoke_response"
payload_type_text kind.ErrorResponse = codes "error_response"

-- the kind that a text is
unfoldable pub payload_type_of_text : List ℕ → Option PayloadType
payload_type_of_text text =
    if bytes_eq text (codes "list") then Some kind.List
    else if bytes_eq text (codes "list_response") then Some kind.ListResponse
    else if bytes_eq text (codes "issue") then Some kind.Issue
    else if bytes_eq text (codes "issue_response") then Some kind.IssueResponse
    else if bytes_eq text (codes "revoke") then Some kind.Revoke
    else if bytes_eq text (codes "revoke_response") then Some kind.RevokeResponse
    else if bytes_eq text (codes "error_response") then Some kind.ErrorResponse
    else None
