-- by tools/proofs/answers.py rpki_sigmsg attributes take_attribute Gathered add_value enter_counted kind '>finish_attribute@rpki_sigmsg.specs.Gathered.{add,shown}=(λ m vs. add m (shown c.args.found)
--     (c.in_ok-kind.kind.now, vs))'
use Rattle.std.proofs.Common.{refl, ◌∙◌}
use Rattle.rpki_der.proofs.Counting.{refuses_inside, refuses_within, stops_first, takes_err}
use Rattle.rpki_der.proofs.Leftovers.{takes_within_rest}
use Rattle.rpki_der.proofs.Modes.{rest_in}
use Rattle.rpki_sigmsg.specs.Gathered.{add, add_value, shown}
use Rattle.rpki_sigmsg.proofs.attributes.take_attribute.Goals as goal

pub returns-in_err-enter_counted : goal.returns-in_err-enter_counted
unfolding add_value
returns-in_err-enter_counted g c = takes_err _ _ _ _ _ _ _ _ _ c.from_residual.ensures.1
    (refuses_within _ _ _ c.args.cursor.now _ _ _ c.in_err-enter_counted.ensures.place c.in_err-enter_counted.ensures.ticks)

pub returns-in_err-kind : goal.returns-in_err-kind
unfolding add_value
returns-in_err-kind g c = takes_err _ _ _ _ _ _ _ _ _ c.from_residual-in_err-kind.ensures.1
    (refuses_inside _ _ _ _ _ _ _ _ _ _ refl c.in_ok-enter_counted.ensures.place c.in_ok-enter_counted.ensures.ticks
    (stops_first _ _ _ _ _ _ _ _ refl c.in_err-kind.ensures))

pub returns : goal.returns
unfolding add_value
returns g c = takes_within_rest _ _ _ _ _ _ _ _ _ _ _ _ _ _ _ _ _ refl refl c.in_ok-enter_counted.ensures.place c.in_ok-enter_counted.ensures.ticks c.in_ok-kind.ensures
    (rest_in _ _ (λ m vs. add m (shown c.args.found) (c.in_ok-kind.kind.now, vs)) _ _ _ _ _ _ _ (c.in_ok-kind.ensures.takes.mode ∙ c.in_ok-enter_counted.ensures.place.mode) c.finish_attribute.ensures)
