use Rattle.rpki_signer.proofs.ToySigners.{three_pieces}
use Rattle.rpki_signer.proofs.toy_signer.random_block.Goals as goal

pub returns : goal.returns
returns c = three_pieces _ _ _ _ _ _ _ c.to_be_bytes-seed.ensures c.to_be_bytes-number.ensures c.to_be_bytes-block.ensures c.digest_of.ensures
