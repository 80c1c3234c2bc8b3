use Rattle.rpki_text.proofs.HashLaws.{digest_of_text-again}
use Rattle.rpki_text.proofs.digests.printed_hash_is_read.Goals as goal

pub returns : goal.returns
returns c = digest_of_text-again
