-- Where a service is reached (RFC 8183, 5.2.2 and 5.2.4).
use Rattle.std.specs.Prelude.{◌≡◌, ℕ, List, Bool, true, Option, None, Some, if◌then◌else◌, codes}
use Rattle.rpki_common.specs.Chaining.{◌>>=◌}
use Rattle.rpki_text.specs.Json.{string_of_json}
use Rattle.rpki_text.specs.Uri.{https, has_scheme, fault_of}
use Rattle.rpki_xml.specs.Element.{Head}
use Rattle.rpki_xml.specs.Lettered.{AreOctets}
use Rattle.rpki_xml.specs.Tables.{required}
use Rattle.rpki_xmltext.specs.UriText.{uri_of_text}
use Rattle.rpki_setup.specs.declared.service_uri.ServiceUri.{ServiceUri}
use Rattle.rpki_setup.specs.declared.service_uri.ServiceUri.TheVariants.{Https, Http}

-- a text begins with `http://`, in any case
abbrev pub is_http : List ℕ → Bool
is_http text = has_scheme (codes "http://") text

-- A text that begins with `http://` is kept as it is. Every other one has to be an https URI.
unfoldable pub service_uri_of_text : List ℕ → Option ServiceUri
service_uri_of_text text =
    if is_http text
    then Some (Http text)
    else (do
      u ← uri_of_text https text
      Some (Https u))

-- the service URI that the one string of a JSON text is
unfoldable pub service_uri_of_json : List ℕ → Option ServiceUri
service_uri_of_json text = string_of_json text >>= service_uri_of_text

-- the service URI in an element's attribute `service_uri`, which has to be there
unfoldable pub service_uri_in : Head → Option ServiceUri
service_uri_in h = do
  text ← required (codes "service_uri") h
  service_uri_of_text text

-- the text of a service URI
abbrev pub service_text : ServiceUri → List ℕ
service_text (Https u) = u
service_text (Http text) = text

-- What can be written so that it is read again. That an https URI is lawful is kept by its type.
abbrev pub IsWritableService : ServiceUri → Type 0
IsWritableService (Https u) = fault_of https u ≡ None
IsWritableService (Http text) = (is_http text ≡ true) × AreOctets text
