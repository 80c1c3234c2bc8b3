-- by tools/proofs/answers.py rpki_base signed_data SignedData.take_from_counted SignedData signed_data+signed_as enter_counted octets:value '!slice'
--     '&signature@rpki_base.specs.SignedData.signature_in=(signature_in g.Alg.SignatureAlgorithm.reads)' =in_ok-slice
use Rattle.std.proofs.Common.{refl, ◌∙◌}
use Rattle.rpki_base.specs.SignedData.{signature_in, signed_as, signed_data}
use Rattle.rpki_der.proofs.Counting.{reads_first, refuses_inside, refuses_within, stops_first, stops_later, stops_memory, takes_err, takes_within}
use Rattle.rpki_der.proofs.Leftovers.{reads_bind, stops_bind}
use Rattle.rpki_der.proofs.Modes.{reads_in, stops_in}
use Rattle.rpki_base.proofs.signed_data.SignedData.take_from_counted.Goals as goal

pub returns-in_err-enter_counted : goal.returns-in_err-enter_counted
unfolding signed_data signed_as
returns-in_err-enter_counted g c = takes_err _ _ _ _ _ _ _ _ _ c.from_residual.ensures.1
    (refuses_within _ _ _ c.args.cursor.now _ _ _ c.in_err-enter_counted.ensures.place c.in_err-enter_counted.ensures.ticks)

pub returns-in_err-octets : goal.returns-in_err-octets
unfolding signed_data signed_as
returns-in_err-octets g c = takes_err _ _ _ _ _ _ _ _ _ c.from_residual-in_err-octets.ensures.1
    (refuses_inside _ _ _ _ _ _ _ _ _ _ refl c.in_ok-enter_counted.ensures.place c.in_ok-enter_counted.ensures.ticks
    (stops_first _ _ _ _ _ _ _ _ refl c.in_err-octets.ensures.value))

pub returns-in_err-slice : goal.returns-in_err-slice
unfolding signed_data signed_as
returns-in_err-slice g c = takes_err _ _ _ _ _ _ _ _ _ c.from_residual-in_err-slice.ensures.1
    (refuses_inside _ _ _ _ _ _ _ _ _ _ refl c.in_ok-enter_counted.ensures.place c.in_ok-enter_counted.ensures.ticks
    (stops_later _ _ _ _ _ _ _ _ _ _ _ _ refl c.in_ok-octets.ensures.value
    (stops_memory _ _ _ _ _ refl)))

pub returns-in_err-signature : goal.returns-in_err-signature
unfolding signed_data signed_as
returns-in_err-signature g c = takes_err _ _ _ _ _ _ _ _ _ c.from_residual-in_err-signature.ensures.1
    (refuses_inside _ _ _ _ _ _ _ _ _ _ refl c.in_ok-enter_counted.ensures.place c.in_ok-enter_counted.ensures.ticks
    (stops_later _ _ _ _ _ _ _ _ _ _ _ _ refl c.in_ok-octets.ensures.value
    (stops_bind _ _ _ _ _ _ _ _
    (stops_in _ _ (signature_in g.Alg.SignatureAlgorithm.reads) _ _ _ _ _ (c.in_ok-octets.ensures.value.takes.mode ∙ c.in_ok-enter_counted.ensures.place.mode) c.in_err-signature.ensures))))

pub returns : goal.returns
unfolding signed_data signed_as
returns g c = rw c.in_ok-slice.ensures
    (takes_within _ _ _ _ _ _ _ _ _ _ _ refl c.in_ok-enter_counted.ensures.place c.in_ok-enter_counted.ensures.ticks
    (reads_first _ _ _ _ _ _ _ _ _ _ _ _ _ refl c.in_ok-octets.ensures.value
    (reads_bind _ _ _ _ _ _ _ _ _ _
    (reads_in _ _ (signature_in g.Alg.SignatureAlgorithm.reads) _ _ _ _ _ _ (c.in_ok-octets.ensures.value.takes.mode ∙ c.in_ok-enter_counted.ensures.place.mode) c.in_ok-signature.ensures) refl)))
