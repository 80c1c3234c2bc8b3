-- What is printed of a kind of message is read as that kind.
use Rattle.std.proofs.Common.{◌≡◌, Some, refl}
use Rattle.rpki_updown.specs.declared.payload_type.PayloadType.{PayloadType}
use Rattle.rpki_updown.specs.declared.payload_type.PayloadType.TheVariants as kind
use Rattle.rpki_updown.specs.PayloadType.{payload_type_text, payload_type_of_text}

pub kind_again : (t : PayloadType) → payload_type_of_text (payload_type_text t) ≡ Some t
unfolding payload_type_of_text
kind_again kind.List = refl
kind_again kind.ListResponse = refl
kind_again kind.Issue = refl
kind_again kind.IssueResponse = refl
kind_again kind.Revoke = refl
kind_again kind.RevokeResponse = refl
kind_again kind.ErrorResponse = refl
