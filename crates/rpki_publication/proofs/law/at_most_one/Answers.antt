use Rattle.rpki_xmltext.proofs.Read.{one_message}
use Rattle.rpki_publication.specs.Message.{message_of}
use Rattle.rpki_publication.proofs.law.at_most_one.Goals as goal

pub returns : goal.returns
returns c = one_message message_of
