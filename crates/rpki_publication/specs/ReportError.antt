-- An error that a server reports (RFC 8181, 2.4).
use Rattle.std.specs.Prelude.{◌≡◌, ℕ, List, [], ◌∷◌, Bool, ◌||◌, Option, None, Some, IfSome, filter, codes}
use Rattle.rpki_common.specs.Chaining.{◌>>=◌}
use Rattle.rpki_common.specs.Items as items
use Rattle.rpki_xmltext.specs.Parts.{attribute, leaf}
use Rattle.rpki_xml.specs.Content.{trimmed}
use Rattle.rpki_xml.specs.Draft.{optional_attribute}
use Rattle.rpki_xml.specs.Element.{Elements, none, Element, alone, first, listed, is_none, is_nil}
use Rattle.rpki_xml.specs.Lettered.{AreOctets}
use Rattle.rpki_xml.specs.Tables.{require, is_named, at_most_one_child}
use Rattle.rpki_publication.specs.declared.query_pdu.QueryPdu.{QueryPdu}
use Rattle.rpki_publication.specs.declared.report_error_code.ReportErrorCode.{ReportErrorCode}
use Rattle.rpki_publication.specs.Change.{query_pdu_element, query_pdu_in, IsWritablePdu, normal_pdu}
use Rattle.rpki_publication.specs.Pdu.{reply_attributes_in}
use Rattle.rpki_publication.specs.ReportErrorCode.{code_text, default_text}

-- what is reported: a code, and a tag, a text and the element that failed, each if it is there
pub record ReportErrorFields : Type 0 where
  pub error_code : ReportErrorCode
  pub tag : Option (List ℕ)
  pub error_text : Option (List ℕ)
  -- the element of the query that failed
  pub failed_pdu : Option QueryPdu

-- ---- what is written

-- the error's text, or that of its code
abbrev pub shown_text : ReportErrorCode → Option (List ℕ) → List ℕ
shown_text code None = default_text code
shown_text code (Some text) = text

-- the `failed_pdu` that is written, with the element that failed in it, if there is one
abbrev pub failed_pdu_elements : Option QueryPdu → Elements
failed_pdu_elements None = none
failed_pdu_elements (Some pdu) =
    alone (record {
      head = record { name = codes "failed_pdu"; namespace = None; attributes = []; text = [] };
      children = alone (query_pdu_element pdu);
    })

-- the `report_error` that is written: code and tag as attributes, and in it the text, and the
-- element that failed if there is one
unfoldable pub report_error_element : ReportErrorFields → Element
report_error_element r = record {
  head = record {
    name = codes "report_error";
    namespace = None;
    attributes =
        attribute (codes "error_code") (code_text r.error_code)
        ∷ optional_attribute (codes "tag") r.tag;
    text = [];
  };
  children =
      first (leaf (codes "error_text") [] (shown_text r.error_code r.error_text)).head none
      (failed_pdu_elements r.failed_pdu);
}

-- ---- what is read

-- whether the element is an `error_text`
abbrev pub is_error_text : Element → Bool
is_error_text e = is_named (codes "error_text") e.head

-- whether the element is a `failed_pdu`
abbrev pub is_failed_pdu : Element → Bool
is_failed_pdu e = is_named (codes "failed_pdu") e.head

-- whether the element may stand in a `report_error`: an `error_text` or a `failed_pdu`
abbrev pub is_detail : Element → Bool
is_detail e = is_error_text e || is_failed_pdu e

-- a text without children; attributes are not looked at
unfoldable pub error_text_in : Element → Option (Option (List ℕ))
error_text_in e = require (is_none e.children) >>= λ _. Some (Some e.head.text)

-- the part of a query that an element is, if there is one, which has to be lawful then
abbrev pub pdu_where_there : Option Element → Option (Option QueryPdu)
pdu_where_there None = Some None
pdu_where_there (Some e) = query_pdu_in e >>= λ pdu. Some (Some pdu)

-- at most one element of a query, and no text; attributes are not looked at
unfoldable pub failed_pdu_in : Element → Option (Option QueryPdu)
failed_pdu_in e = do
  _ ← require (is_nil e.head.text)
  found ← at_most_one_child e.children
  pdu_where_there found

-- the text of an error and the element that failed, each if it was found
pub record ErrorDetails : Type 0 where
  pub error_text : Option (List ℕ)
  pub failed_pdu : Option QueryPdu

-- any number of texts and failed elements, in any order. Each has to be lawful, and the last of
-- each counts
unfoldable pub details_in : Elements → Option ErrorDetails
details_in children = do
  _ ← items.only is_detail (listed children)
  text ← items.the_last None error_text_in (filter is_error_text (listed children))
  pdu ← items.the_last None failed_pdu_in (filter is_failed_pdu (listed children))
  Some (record { error_text = text; failed_pdu = pdu })

-- a `report_error` with a code, and no text of its own
unfoldable pub report_error_in : Element → Option ReportErrorFields
report_error_in e = do
  _ ← require (is_named (codes "report_error") e.head)
  _ ← require (is_nil e.head.text)
  a ← reply_attributes_in e.head
  code ← a.error_code
  details ← details_in e.children
  Some (record {
    error_code = code;
    tag = a.tag;
    error_text = details.error_text;
    failed_pdu = details.failed_pdu;
  })

-- ---- what can be written so that it is read again

-- Tag and text consist of octets that a document may have, and the text has no outer white space.
pub record IsWritableError (r : ReportErrorFields) : Type 0 where
  pub tag : IfSome r.tag AreOctets
  pub error_text : IfSome r.error_text AreOctets
  pub trimmed : IfSome r.error_text (λ text. trimmed text ≡ text)
  pub failed_pdu : IfSome r.failed_pdu IsWritablePdu

-- the form in which an element that failed is read back, if there is one
abbrev pub normal_failed : Option QueryPdu → Option QueryPdu
normal_failed None = None
normal_failed (Some pdu) = Some (normal_pdu pdu)

-- the form in which an error is read back: with the text that was written
unfoldable pub normal_error : ReportErrorFields → ReportErrorFields
normal_error r = record {
  error_code = r.error_code;
  tag = r.tag;
  error_text = Some (shown_text r.error_code r.error_text);
  failed_pdu = normal_failed r.failed_pdu;
}
