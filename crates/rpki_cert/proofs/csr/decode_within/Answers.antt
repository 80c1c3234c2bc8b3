use Rattle.rpki_cert.proofs.Captured.{decodes_uncounted}
use Rattle.rpki_cert.proofs.csr.decode_within.Goals as goal

pub returns : goal.returns
returns g c = decodes_uncounted 2 _ _ _ _ _ _ _ c.decode_counted.ensures
