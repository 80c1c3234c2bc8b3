use Rattle.std.proofs.Common.{◌≡◌, false, true, sym, ◌∙◌}
use Rattle.rpki_der.proofs.Counting.{takes_part_err}
use Rattle.rpki_sigmsg.proofs.Further.{takes_another, takes_no_other, refuses_another}
use Rattle.rpki_sigmsg.proofs.parts.take_other_crl.Goals as goal

unlike : false ≡ true → ⊥
unlike e = cc

pub returns-then-end : goal.returns-then-end
returns-then-end g c = takes_no_other _ _ _ _ (c.end.ensures.0 c.if-end.true)

pub returns-in_err-crl : goal.returns-in_err-crl
returns-in_err-crl g c = takes_part_err _ _ _ _ _ _ _ _ _ _ c.from_residual.ensures.1 (refuses_another _ _ _ _ _ _ (λ e. unlike (sym c.if-end.false ∙ c.end.ensures.1 e)) c.in_err-crl.ensures)

pub returns : goal.returns
returns g c = takes_another _ _ _ _ _ _ _ c.in_ok-crl.ensures
