use Rattle.std.proofs.Common.{◌≡◌, ℕ, Result, Ok, Err, refl, ap}
use Rattle.rpki_base.specs.declared.validation.ValidationError.{ValidationError}
use Rattle.rpki_sigmsg.proofs.AnyKey.{one_place, not_unbelieved}
use Rattle.rpki_sigmsg.proofs.message.SignedMessage.validate_any_at.Goals as goal

abbrev at_place : ℕ → Result ℕ ValidationError
at_place n = Ok n

same : (a b : ℕ) → at_place a ≡ at_place b → a ≡ b
same a b e = cc

unlike : (e : ValidationError) (n : ℕ) → Err e ≡ at_place n → ⊥
unlike e n k = cc

pub returns-in-Ok-clause-believed : goal.returns-in-Ok-clause-believed
returns-in-Ok-clause-believed g c = λ place. (
  (λ e. c.in-Ok.ensures.ok place (ap Ok (same c.in-Ok.place place e))),
  (λ f. ap Ok (one_place g.P.Scheme.checks c.args.self.now c.args.keys.now c.args.when c.in-Ok.place place (c.in-Ok.ensures.ok c.in-Ok.place refl) f)),
)

pub returns-in-Err-clause-believed : goal.returns-in-Err-clause-believed
returns-in-Err-clause-believed g c = λ place. (
  (λ e. absurd (unlike _ place e)),
  (λ f. absurd (not_unbelieved g.P.Scheme.checks c.args.self.now c.args.keys.now c.args.when place f (c.in-Err.ensures.err c.in-Err.check refl))),
)
