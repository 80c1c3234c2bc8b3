use Rattle.rpki_publication.proofs.Again.{normal_twice}
use Rattle.rpki_publication.proofs.law.normal_form_is_normal.Goals as goal

pub returns : goal.returns
returns c = normal_twice
