use Rattle.rpki_provisioning.proofs.message.Message.decode_within.Goals as goal

pub returns : goal.returns
returns g c = c.decode_slice_counted.ensures.message
