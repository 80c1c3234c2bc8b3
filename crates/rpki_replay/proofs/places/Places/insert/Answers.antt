use Rattle.std.proofs.Common.{◌∙◌}
use Rattle.rpki_replay.proofs.Mapped.{placed, placed_rsa, placed_elliptic}
use Rattle.rpki_replay.proofs.places.Places.insert.Goals as goal

pub returns-in_ok-insert-in-Rsa-clause-ok : goal.returns-in_ok-insert-in-Rsa-clause-ok
returns-in_ok-insert-in-Rsa-clause-ok c =
    let items = c.in_ok-bits.ensures.items ∙ c.as_slice.ensures ∙ c.bits_bytes.ensures in
    placed_rsa c.args.self.now.rsa c.insert.new.self c.args.self.now.elliptic c.args.key.now c.args.place c.in-Rsa.ensures
    (rw items at (placed c.args.self.now.rsa c.insert.new.self c.in_ok-bits.bits.items c.args.place c.in_ok-insert-in-Rsa.ensures.updates))

pub returns-in_ok-insert-in-EcdsaP256-clause-ok : goal.returns-in_ok-insert-in-EcdsaP256-clause-ok
returns-in_ok-insert-in-EcdsaP256-clause-ok c =
    let items = c.in_ok-bits.ensures.items ∙ c.as_slice.ensures ∙ c.bits_bytes.ensures in
    placed_elliptic c.args.self.now.rsa c.args.self.now.elliptic c.insert-in-EcdsaP256.new.self c.args.key.now c.args.place c.in-EcdsaP256.ensures
    (rw items at (placed c.args.self.now.elliptic c.insert-in-EcdsaP256.new.self c.in_ok-bits.bits.items c.args.place c.in_ok-insert-in-EcdsaP256.ensures.updates))
