-- Replies can be written so that they are read again.
use Rattle.std.proofs.Common.{◌≡◌, ◌≢◌, IfSome, Result, Ok, Err, IfOk, [], ◌∷◌, sym, subst}
use Rattle.rpki_xml.specs.Lettered.{AreOctets}
use Rattle.rpki_publication.specs.declared.publish_delta_element.PublishDeltaElement.{PublishDeltaElement}
use Rattle.rpki_publication.specs.declared.publish_delta_element.PublishDeltaElement.TheVariants as change
use Rattle.rpki_publication.specs.declared.report_error_code.ReportErrorCode.{ReportErrorCode}
use Rattle.rpki_publication.specs.declared.message.Message.{Message}
use Rattle.rpki_publication.specs.Change.{IsWritableChange}
use Rattle.rpki_publication.specs.Message.{IsWritable}
use Rattle.rpki_publication.specs.ReportError.{ReportErrorFields, IsWritableError}
use Rattle.rpki_publication.proofs.Plain.{default_octets, default_trimmed}
use Rattle.rpki_pubserver.specs.Changes.{Refused, tag_of_change}
use Rattle.rpki_pubserver.specs.Messages.{error_alone, error_message, error_about}

some_error : (error : ReportErrorFields) → (error ∷ []) ≢ []
some_error error e = cc

one_error : (error : ReportErrorFields) → IsWritableError error → IsWritable (error_message error)
one_error error writable = (some_error error, (writable, tt))

pub alone_writable : (c : ReportErrorCode) → IsWritable (error_alone c)
alone_writable c = one_error _ (record { tag = tt; error_text = default_octets c; trimmed = default_trimmed c; failed_pdu = tt })

tag_octets : (e : PublishDeltaElement) → IsWritableChange e → IfSome (tag_of_change e) AreOctets
tag_octets (change.Publish p) h = h.tag
tag_octets (change.Update u) h = h.tag
tag_octets (change.Withdraw w) h = h.tag

pub error_writable : (r : Refused) → IsWritableChange r.element → IsWritable (error_about r)
error_writable r h = one_error _ (record { tag = tag_octets r.element h; error_text = default_octets r.code; trimmed = default_trimmed r.code; failed_pdu = h })

pub ok_writable : {E : Type 0} (r : Result Message E) (m : Message) → IfOk r (λ x. x ≡ m) → IsWritable m → IfOk r IsWritable
ok_writable (Ok x) m is writable = subst IsWritable (sym is) writable
ok_writable (Err e) m is writable = tt
