-- Service URIs, and the two schemes of their texts.
use Rattle.std.proofs.Common.{◌≡◌, ℕ, List, Option, Err, IsErrOf, true, false, Some, None, refl}
use Rattle.rpki_common.specs.Chaining.{◌>>=◌}
use Rattle.rpki_text.specs.Uri.{https, fault_of}
use Rattle.rpki_text.specs.declared.uri.Error.{Error as UriError}
use Rattle.rpki_text.specs.Json.{string_of_json}
use Rattle.rpki_text.specs.declared.json.JsonError.{JsonError}
use Rattle.rpki_text.specs.declared.json.JsonError.TheVariants as json
use Rattle.rpki_setup.specs.declared.error.Error.{Error}
use Rattle.rpki_setup.specs.declared.error.Error.TheVariants as errors
use Rattle.rpki_setup.specs.Answers.{json_of, RefusesServiceUri}
use Rattle.rpki_setup.specs.ServiceUri.{is_http, service_uri_of_text, service_uri_of_json}
use Rattle.rpki_xmltext.specs.UriText.{uri_of_text}
use Rattle.rpki_setup.specs.declared.service_uri.ServiceUri.{ServiceUri}
use Rattle.rpki_setup.specs.declared.service_uri.ServiceUri.TheVariants.{Https, Http}

-- a text with `http://` is kept
pub kept : (text : List ℕ) → is_http text ≡ true → service_uri_of_text text ≡ Some (Http text)
unfolding service_uri_of_text
kept text h = rw h refl

-- an https URI is read as itself
pub lawful : (text : List ℕ) → is_http text ≡ false → fault_of https text ≡ None → service_uri_of_text text ≡ Some (Https text)
unfolding service_uri_of_text uri_of_text ◌>>=◌
lawful text h f = rw (h, f) refl

pub unlawful : (text : List ℕ) (e : UriError) → is_http text ≡ false → fault_of https text ≡ Some e → service_uri_of_text text ≡ None
unfolding service_uri_of_text uri_of_text ◌>>=◌
unlawful text e h f = rw (h, f) refl

-- ---- JSON texts

pub no_string : (text : List ℕ) → string_of_json text ≡ None → service_uri_of_json text ≡ None
unfolding service_uri_of_json ◌>>=◌
no_string text e = rw e refl

-- the string of a JSON text is read
pub string_is : (text found given : List ℕ) (o : Option ServiceUri) → string_of_json text ≡ Some found → given ≡ found → service_uri_of_text given ≡ o → service_uri_of_json text ≡ o
unfolding service_uri_of_json ◌>>=◌
string_is text found given o e p f = rw (e, ← p) f

-- what is told as malformed is no want of memory
pub told : (r : JsonError) (e : Error) → r ≡ json_of e → IsErrOf {T = ServiceUri} (Err r) json.Malformed → json_of e ≡ json.Malformed
told r e p q = cc

-- an error that is no want of memory says that the text is no service URI
pub no_service : (text : List ℕ) (e : Error) → RefusesServiceUri text e → json_of e ≡ json.Malformed → service_uri_of_text text ≡ None
no_service text (errors.InvalidUri e) p h = unlawful text e p.0 p.2
no_service text errors.OutOfMemory p h = cc
no_service text (errors.InvalidXml e) p h = absurd p
no_service text errors.InvalidVersion p h = absurd p
no_service text errors.InvalidHandle p h = absurd p
no_service text errors.InvalidTaBase64 p h = absurd p
no_service text errors.InvalidTaCertEncoding p h = absurd p
no_service text errors.InvalidTaCert p h = absurd p
no_service text errors.Read p h = absurd p
no_service text errors.Write p h = absurd p
no_service text errors.TooLong p h = absurd p

-- ---- URIs of one kind
