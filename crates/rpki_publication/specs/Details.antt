-- The elements in the report of an error, one after the other. A means for the loop over them.
use Rattle.std.specs.Prelude.{if◌then◌else◌, Option, None, Some}
use Rattle.rpki_common.specs.Chaining.{◌>>=◌}
use Rattle.rpki_xml.specs.Element.{Element}
use Rattle.rpki_xml.specs.Tables.{require}
use Rattle.rpki_publication.specs.ReportError.{ErrorDetails, is_error_text, is_failed_pdu, error_text_in, failed_pdu_in}

-- neither a text nor a failed element was found
abbrev pub nothing_found : ErrorDetails
nothing_found = record { error_text = None; failed_pdu = None }

-- the text in this element takes the place of one found before; an unlawful element is refused
abbrev pub details_with_text : ErrorDetails → Element → Option ErrorDetails
details_with_text found e =
    error_text_in e >>= λ text. Some (record { error_text = text; failed_pdu = found.failed_pdu })

-- the failed element in this one takes the place of one found before; an unlawful element is
-- refused
abbrev pub with_pdu : ErrorDetails → Element → Option ErrorDetails
with_pdu found e =
    failed_pdu_in e >>= λ pdu. Some (record { error_text = found.error_text; failed_pdu = pdu })

-- what was found once one more element is looked at
abbrev pub details_step : ErrorDetails → Element → Option ErrorDetails
details_step found e =
    if is_error_text e then details_with_text found e
    else (require (is_failed_pdu e) >>= λ _. with_pdu found e)
