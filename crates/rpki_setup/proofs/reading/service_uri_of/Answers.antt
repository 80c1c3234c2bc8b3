use Rattle.rpki_setup.proofs.Services.{unlawful}
use Rattle.rpki_setup.proofs.reading.service_uri_of.Goals as goal

pub returns-in-Err-InvalidUri : goal.returns-in-Err-InvalidUri
returns-in-Err-InvalidUri c =
    let h = rw c.in-Err-InvalidUri.field-0-is at c.in-Err-InvalidUri.ensures.refused in
    unlawful c.args.text.now c.in-Err-InvalidUri.field-0-0 h.0 h.2
