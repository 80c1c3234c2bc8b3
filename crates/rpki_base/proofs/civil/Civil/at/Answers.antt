use Rattle.std.proofs.Common.{arith}
use Rattle.jiff_core.proofs.SignedLemmas.{signed_casts}
use Rattle.jiff_core.proofs.CalendarLemmas.{days_in_month_bounds}
use Rattle.rpki_base.proofs.Civils.{at_date}
use Rattle.rpki_base.proofs.civil.Civil.at.Goals as goal

pub returns-clause-value : goal.returns-clause-value
returns-clause-value c = at_date c.day_at-second.result.0 _ c.day_at-second.result.1 c.args.seconds (omega (arith, signed_casts, c.day_at-second.ensures.year)) c.day_at-second.ensures.second (omega (arith, signed_casts, c.day_at-second.ensures.whole, c.requires)) c.requires

pub returns-clause-digits : goal.returns-clause-digits
returns-clause-digits c =
    let d = c.day_at-second.result.0 in (
      omega (arith, signed_casts, d.year_in.0, d.year_in.1, c.day_at-second.ensures.year),
      omega (arith, d.month_in.1),
      omega (arith, d.day_in.1, (days_in_month_bounds d.year d.month).0),
      omega (arith, c.day_at-second.ensures.second),
      omega arith,
      omega arith,
    )
