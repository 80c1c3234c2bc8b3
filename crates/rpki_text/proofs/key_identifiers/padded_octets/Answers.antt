use Rattle.base64.specs.GeneralPurpose.{decoded_of}
use Rattle.rpki_text.proofs.key_identifiers.padded_octets.Goals as goal

pub returns-clause-octets : goal.returns-clause-octets
unfolding decoded_of
returns-clause-octets c = c.twenty_octets.ensures.octets
