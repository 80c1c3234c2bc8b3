use Rattle.std.proofs.Common.{refl}
use Rattle.rpki_der.proofs.Counting.{takes_err, refuses_so, refuses_wider}
use Rattle.rpki_der.proofs.Insides.{takes_so_given}
use Rattle.rpki_base.proofs.extension.take_extension.Goals as goal

pub returns-in_err-extension : goal.returns-in_err-extension
returns-in_err-extension g c = takes_err _ _ _ _ _ _ _ _ _ c.from_residual.ensures.1 (refuses_so _ _ _ _ _ _ _ (refuses_wider _ _ _ _ _ _ _ refl c.in_err-extension.ensures.value))

pub returns : goal.returns
returns g c = takes_so_given 1 1 _ _ _ _ _ _ _ _ _ _ _ c.in_ok-extension.ensures.value c.in_ok-extension.ensures.within c.found_with.ensures
