-- Octets that are read by a table, or not.
use Rattle.std.proofs.Common.{◌≡◌, ℕ, List, Option, Some, None, sym, ap, subst, ◌∙◌}
use Rattle.rpki_xml.specs.declared.error.XmlError.{XmlError}
use Rattle.rpki_xml.specs.declared.error.XmlError.TheVariants as xml
use Rattle.rpki_xml.specs.Element.{Element}
use Rattle.rpki_xml.specs.Answers.{IsDocumentRefused, Fails}
use Rattle.rpki_xml.specs.Lexing.{IsDocument}
use Rattle.rpki_xml.proofs.Documents.{one_document}
use Rattle.rpki_common.proofs.Truths.{none_some, same_some}
use Rattle.rpki_xmltext.specs.declared.cause.Cause.{Cause}
use Rattle.rpki_xmltext.specs.declared.cause.Cause.TheVariants as causes
use Rattle.rpki_xmltext.specs.Answers.{IsNoMessageBy, RefusesMessage}
use Rattle.rpki_xmltext.specs.Reading.{ReadsAs}

-- the cause of an error of XML
abbrev pub of_xml : XmlError → Cause
of_xml xml.Malformed = causes.Malformed
of_xml xml.OutOfMemory = causes.OutOfMemory

refuses : {M E : Type 0} (cause_of : E → Option Cause) (table : Element → Option M) (b : List ℕ) (x : E) (cause : Cause) → cause_of x ≡ Some cause → IsNoMessageBy table b (Some cause) → RefusesMessage cause_of table b x
refuses cause_of table b x cause caused h = subst (λ (c : Option Cause). IsNoMessageBy table b c) (sym caused) h

-- octets that are no document are no message
pub no_document : {M E : Type 0} (cause_of : E → Option Cause) (table : Element → Option M) (e : XmlError) (x : E) (b : List ℕ) → cause_of x ≡ Some (of_xml e) → IsDocumentRefused e b → RefusesMessage cause_of table b x
no_document cause_of table xml.OutOfMemory x b caused refused = refuses cause_of table b x causes.OutOfMemory caused tt
no_document cause_of table xml.Malformed x b caused refused = refuses cause_of table b x causes.Malformed caused (λ m r. refused r.element r.document)

-- a document whose element is no message of the table
pub no_message : {M E : Type 0} (cause_of : E → Option Cause) (table : Element → Option M) (b : List ℕ) (d : Element) (e : XmlError) (x : E) → cause_of x ≡ Some (of_xml e) → IsDocument b d → Fails e (table d) → RefusesMessage cause_of table b x
no_message cause_of table b d xml.OutOfMemory x caused document fails = refuses cause_of table b x causes.OutOfMemory caused tt
no_message cause_of table b d xml.Malformed x caused document fails =
    refuses cause_of table b x causes.Malformed caused (λ m r. none_some m (sym fails ∙ ap table (one_document b d r.element document r.document) ∙ r.message))

-- octets are at most one message of the table
pub one_message : {M : Type 0} (table : Element → Option M) (b : List ℕ) (m n : M) → ReadsAs table b m → ReadsAs table b n → m ≡ n
one_message table b m n p q = same_some m n (sym p.message ∙ ap table (one_document b p.element q.element p.document q.document) ∙ q.message)

-- what is nothing makes nothing of the whole
pub none_through : {X Y : Type 0} (e : XmlError) (part : Option X) (whole : Option Y) → (part ≡ None → whole ≡ None) → Fails e part → Fails e whole
none_through xml.OutOfMemory part whole none fails = tt
none_through xml.Malformed part whole none fails = none fails
