-- The elements of a response, one after the other. A means for the loop over them.
use Rattle.std.specs.Prelude.{ℕ, List, if◌then◌else◌, Option, Some}
use Rattle.rpki_common.specs.Chaining.{◌>>=◌}
use Rattle.rpki_xml.specs.Element.{Element}
use Rattle.rpki_xml.specs.Tables.{require}
use Rattle.rpki_setup.specs.ParentResponse.{holds_certificate, is_passed_over, some_certificate}

-- what was found once one more element is looked at: the octets of the last certificate
abbrev pub response_step : Option (List ℕ) → Element → Option (Option (List ℕ))
response_step found e =
    if holds_certificate e
    then some_certificate e
    else (require (is_passed_over e) >>= λ _. Some found)
