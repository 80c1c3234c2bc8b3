use Rattle.std.proofs.Common.{sym, subst}
use Rattle.rpki_der.specs.Ticks.{CountedOne}
use Rattle.rpki_der.proofs.Counting.{takes_err, refuses_memory}
use Rattle.rpki_der.proofs.octets.take_copied_counted.Goals as goal

pub returns-in_err-to_vec : goal.returns-in_err-to_vec
returns-in_err-to_vec g c = takes_err _ _ _ _ _ _ _ _ _ c.from_residual-in_err-to_vec.ensures.1 (refuses_memory _ _ _ _ _ _ _ c.in_ok-contents.ensures.value _)

pub returns : goal.returns
returns g c = subst (CountedOne _ _ _ _ _ _) (sym (c.in_ok-to_vec.ensures.items_if_clones_equal (λ x y e. e))) c.in_ok-contents.ensures.value
