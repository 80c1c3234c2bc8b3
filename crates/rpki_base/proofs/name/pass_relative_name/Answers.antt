-- by tools/proofs/answers.py rpki_base name pass_relative_name Name relative_name enter_counted '>pass_attributes'
use Rattle.std.proofs.Common.{refl}
use Rattle.rpki_base.specs.Name.{relative_name}
use Rattle.rpki_der.proofs.Counting.{refuses_within, takes_err}
use Rattle.rpki_der.proofs.Leftovers.{takes_all_rest}
use Rattle.rpki_base.proofs.name.pass_relative_name.Goals as goal

pub returns-in_err-enter_counted : goal.returns-in_err-enter_counted
unfolding relative_name
returns-in_err-enter_counted g c = takes_err _ _ _ _ _ _ _ _ _ c.from_residual.ensures.1
    (refuses_within _ _ _ c.args.cursor.now _ _ _ c.in_err-enter_counted.ensures.place c.in_err-enter_counted.ensures.ticks)

pub returns : goal.returns
unfolding relative_name
returns g c = takes_all_rest _ _ _ _ _ _ _ _ _ _ _ _ refl c.in_ok-enter_counted.ensures.place c.in_ok-enter_counted.ensures.ticks c.pass_attributes.ensures
