-- What octets are read as, and why they aren't.
use Rattle.std.proofs.Common.{◌≡◌, ◌≤◌, ◌+◌, ◌*◌, List, ℕ, Option, Some, None, Result, Ok, Err, refl, sym, ap, ◌∙◌, arith}
use Rattle.std.specs.Prelude.{MatchResult}
use Rattle.rpki_common.specs.Chaining.{◌>>=◌}
use Rattle.rpki_common.proofs.Truths.{none_some, some_none}
use Rattle.rpki_updown.specs.declared.error.Error.{Error}
use Rattle.rpki_updown.specs.declared.error.Error.TheVariants as errors
use Rattle.rpki_updown.specs.Answers.{of_xml, cause_of}
use Rattle.rpki_xmltext.proofs.Transfers.{Blames}
use Rattle.rpki_xml.specs.declared.error.XmlError.{XmlError}
use Rattle.rpki_xml.specs.declared.error.XmlError.TheVariants as xml
use Rattle.rpki_xml.specs.Answers.{IsDocumentRefused, Fails}
use Rattle.rpki_xml.specs.Element.{Element}
use Rattle.rpki_xml.specs.Lexing.{IsDocument}
use Rattle.rpki_xml.proofs.Documents.{one_document}
use Rattle.rpki_provisioning.specs.declared.shape.PayloadShape.{PayloadShape}
use Rattle.rpki_provisioning.specs.declared.shape.PayloadShape.TheVariants as shape
use Rattle.rpki_provisioning.specs.Answers.{RefusesMessage}
use Rattle.rpki_provisioning.specs.Filling.{IsFault, Fills, fault_in}
use Rattle.rpki_provisioning.specs.Message.{shape_in, message_of, HasShape, Reads}
use Rattle.rpki_provisioning.specs.Shape.{MessageFields, MessageShape, payload_of_shape, message_of_shape}
use Rattle.rpki_provisioning.proofs.Unread.{none_of_some, list_unread, response_unread, issue_unread}

pub no_document : (e : XmlError) (b : List ℕ) → IsDocumentRefused e b → RefusesMessage b (of_xml e)
no_document xml.OutOfMemory b refused = tt
no_document xml.Malformed b refused = (refl, λ s r. refused r.element r.document)

pub no_shape : (e : XmlError) (b : List ℕ) (d : Element) → IsDocument b d → Fails e (shape_in d) → RefusesMessage b (of_xml e)
no_shape xml.OutOfMemory b d document fails = tt
no_shape xml.Malformed b d document fails = (refl, λ s r. none_some s (sym fails ∙ ap shape_in (one_document b d r.element document r.document) ∙ r.message))

pub has_shape : (b : List ℕ) (d : Element) (s : MessageShape) → IsDocument b d → shape_in d ≡ Some s → HasShape b s
has_shape b d s document is = record { element = d; document = document; message = is }

then_filled : (o : Option MessageShape) (s : MessageShape) (m : MessageFields) → o ≡ Some s → message_of_shape s ≡ Some m → (o >>= message_of_shape) ≡ Some m
unfolding ◌>>=◌
then_filled o s m is filled = rw is filled

pub reads : (b : List ℕ) (d : Element) (s : MessageShape) (m : MessageFields) → IsDocument b d → shape_in d ≡ Some s → message_of_shape s ≡ Some m → Reads b m
unfolding message_of
reads b d s m document is filled = record { element = d; document = document; message = then_filled (shape_in d) s m is filled }

payload_none : (s : MessageShape) → message_of_shape s ≡ None → payload_of_shape s.payload ≡ None
unfolding message_of_shape
payload_none s e = none_of_some _ (payload_of_shape s.payload) e

fault_is : (b : List ℕ) (s : MessageShape) (p : PayloadShape) → HasShape b s → s.payload ≡ p → payload_of_shape p ≡ None → RefusesMessage b (fault_in p)
unfolding payload_of_shape
fault_is b s shape.List has is e = absurd (some_none _ e)
fault_is b s (shape.ListResponse classes) has is e = record { shape = s; has = has; unread = rw is (list_unread classes e) }
fault_is b s (shape.Issue request) has is e = record { shape = s; has = has; request = request.csr; is = rw is refl; unread = issue_unread request e }
fault_is b s (shape.IssueResponse response) has is e = record { shape = s; has = has; unread = rw is (response_unread response e) }
fault_is b s (shape.Revoke request) has is e = absurd (some_none _ e)
fault_is b s (shape.RevokeResponse response) has is e = absurd (some_none _ e)
fault_is b s (shape.ErrorResponse response) has is e = absurd (some_none _ e)

answered : (b : List ℕ) (s : MessageShape) (e : Error) → HasShape b s → (e ≡ fault_in s.payload) × (message_of_shape s ≡ None) → RefusesMessage b e
answered b s e has fault = rw fault.0 (fault_is b s s.payload has refl (payload_none s fault.1))

pub unfilled : (b : List ℕ) (s : MessageShape) (e : Error) → HasShape b s → IsFault (fault_in s.payload) (message_of_shape s) e → RefusesMessage b e
unfilled b s errors.InvalidVersion has fault = answered b s errors.InvalidVersion has fault
unfilled b s (errors.XmlError error) has fault = answered b s (errors.XmlError error) has fault
unfilled b s (errors.InvalidPayloadType error) has fault = answered b s (errors.InvalidPayloadType error) has fault
unfilled b s errors.InvalidCsrSyntax has fault = answered b s errors.InvalidCsrSyntax has fault
unfilled b s errors.CertSyntax has fault = answered b s errors.CertSyntax has fault
unfilled b s errors.CmsDecode has fault = answered b s errors.CmsDecode has fault
unfilled b s (errors.Validation error) has fault = answered b s (errors.Validation error) has fault
unfilled b s (errors.Limit set limit) has fault = answered b s (errors.Limit set limit) has fault
unfilled b s errors.Read has fault = answered b s errors.Read has fault
unfilled b s errors.Write has fault = answered b s errors.Write has fault
unfilled b s errors.TooLong has fault = answered b s errors.TooLong has fault
unfilled b s errors.OutOfMemory has fault = tt

-- the shape is filled, or it isn't
pub message_answer : (b : List ℕ) (d : Element) (s : MessageShape) (n before after : ℕ) (r : Result MessageFields Error) → IsDocument b d → shape_in d ≡ Some s
    → Fills (fault_in s.payload) (message_of_shape s) (λ m. m) n before after r → MatchResult r (Reads b) (RefusesMessage b)
message_answer b d s n before after (Ok m) document is filled = reads b d s m document is filled.gives
message_answer b d s n before after (Err e) document is unfilled' = unfilled b s e (has_shape b d s document is) unfilled'.fault'

pub at_most : {X Y : Type 0} (fault : Error) (given : Option Y) (view : X → Y) (n m before after : ℕ) (r : Result X Error) → n ≤ m → Fills fault given view n before after r → after ≤ before + 2 * m + 8
at_most fault given view n m before after (Ok x) within filled = let most = filled.most in omega (arith, most, within)
at_most fault given view n m before after (Err e) within unfilled' = let most = unfilled'.most in omega (arith, most, within)

-- ---- from a source

xml_blames : (error : XmlError) (octets : List ℕ) → RefusesMessage octets (errors.XmlError error) → Blames (cause_of (errors.XmlError error))
xml_blames xml.Malformed octets h = tt
xml_blames xml.OutOfMemory octets h = absurd (memory h.0)
  where
    memory : xml.OutOfMemory ≡ xml.Malformed → ⊥
    memory e = cc

pub blames : (octets : List ℕ) (e : Error) → RefusesMessage octets e → Blames (cause_of e)
blames octets errors.InvalidVersion h = h
blames octets (errors.XmlError error) h = xml_blames error octets h
blames octets (errors.InvalidPayloadType error) h = h
blames octets errors.InvalidCsrSyntax h = tt
blames octets errors.CertSyntax h = tt
blames octets errors.CmsDecode h = h
blames octets (errors.Validation error) h = h
blames octets (errors.Limit set limit) h = h
blames octets errors.Read h = h
blames octets errors.Write h = h
blames octets errors.TooLong h = h
blames octets errors.OutOfMemory h = tt

pub no_fewer : (s : MessageShape) (n before after : ℕ) (r : Result MessageFields Error) → Fills (fault_in s.payload) (message_of_shape s) (λ m. m) n before after r → before ≤ after
no_fewer s n before after (Ok m) filled = filled.least
no_fewer s n before after (Err e) unfilled' = unfilled'.least
