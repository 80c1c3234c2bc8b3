-- What is replied to a message that was refused.
use Rattle.std.proofs.Common.{◌≡◌, ◌∙◌, ℕ, ℤ, Ok, Err, List, ap, inl, inr, refl, sym}
use Rattle.rpki_base.specs.declared.validation.ValidationKind.TheVariants as kind
use Rattle.rpki_ca.specs.declared.receiving.ReceiveError.{ReceiveError}
use Rattle.rpki_ca.specs.declared.receiving.ReceiveError.TheVariants as errors
use Rattle.rpki_external.specs.Running.{Written}
use Rattle.rpki_publication.specs.Message.{text_of}
use Rattle.rpki_publication.specs.declared.message.Message.{Message}
use Rattle.rpki_publication.specs.declared.report_error_code.ReportErrorCode.{ReportErrorCode}
use Rattle.rpki_publication.specs.declared.report_error_code.ReportErrorCode.TheVariants as codes
use Rattle.rpki_pubserver.specs.Messages.{error_alone}
use Rattle.rpki_pubserver.specs.Replies.{reply_to}
use Rattle.rpki_pubserver.specs.Store.{Store}
use Rattle.rpki_c.specs.Arguments.{IsUnread}
use Rattle.rpki_c.specs.Deciding.{HasStatus, IsErrorTo, RefusesBy, RefusesIn}

-- an error of receipt, to which this error alone is replied
pub record IsReplied (status : ℤ) (code : ReportErrorCode) : Type 0 where
  pub error : ReceiveError
  pub has : HasStatus status error
  pub replied : (base : List ℕ) (store : Store) → (reply_to base store (Err error)).message ≡ error_alone code

replied : (status : ℤ) (code : ReportErrorCode) → IsErrorTo status code → IsReplied status code
replied status codes.BadCmsSignature (inl four) = record { error = errors.CmsDecode; has = four; replied = λ base store. refl }
replied status codes.BadCmsSignature (inr six) =
    record { error = errors.Validation (record { kind = kind.Verification; check = 1 }); has = six; replied = λ base store. refl }
replied status codes.XmlError five = record { error = errors.XmlError; has = five; replied = λ base store. refl }
replied status other none = absurd none

unreplied : (status : ℤ) → IsUnread (IsErrorTo status) → IsUnread (HasStatus status)
unreplied status none errors.CmsDecode is = none codes.BadCmsSignature (inl is)
unreplied status none errors.XmlError is = none codes.XmlError is
unreplied status none errors.CertSyntax is = none codes.XmlError is
unreplied status none errors.InvalidCsrSyntax is = none codes.XmlError is
unreplied status none (errors.Validation e) is = none codes.BadCmsSignature (inr is)
unreplied status none errors.OutOfMemory is = is

-- by the code of the error, it is what a server replies
pub refuses : (status : ℤ) (answer : Written) → RefusesBy status answer → RefusesIn status answer
refuses status answer (inl by) =
    let r = replied status by.0 by.1 in
    inl (r.error, r.has, λ base store. by.2 ∙ ap (λ (m : Message). Ok (text_of m)) (sym (r.replied base store)))
refuses status answer (inr unread) = inr (unread.0, unreplied status unread.1)
