use Rattle.rpki_xmltext.proofs.Read.{one_message}
use Rattle.rpki_provisioning.specs.Message.{shape_in, message_of}
use Rattle.rpki_provisioning.proofs.law.at_most_one.Goals as goal

pub returns-clause-shape : goal.returns-clause-shape
returns-clause-shape c = one_message shape_in

pub returns-clause-message : goal.returns-clause-message
returns-clause-message c = one_message message_of
