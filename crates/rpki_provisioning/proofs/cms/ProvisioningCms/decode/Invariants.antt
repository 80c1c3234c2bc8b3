use Rattle.rpki_provisioning.proofs.cms.ProvisioningCms.decode.Given as goal

abbrev pub ghosts-decode_within : goal.ghosts-decode_within
ghosts-decode_within a = record { name = a.blank.name; parts = a.blank.parts }
