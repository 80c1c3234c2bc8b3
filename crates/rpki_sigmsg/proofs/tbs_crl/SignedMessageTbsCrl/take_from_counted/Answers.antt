-- by tools/proofs/answers.py rpki_sigmsg tbs_crl SignedMessageTbsCrl.take_from_counted TbsCrl tbs_crl enter_counted take_integer_if_counted
--     algorithm@rpki_base.specs.RpkiSignatureAlgorithm.algorithm=algorithm issuer this_update next_update '?revoked'
--     'known@rpki_der.specs.Grammar.wrapped+rpki_der.specs.Tags.context+rpki_sigmsg.specs.CrlExtensions.extension_list=(λ m. wrapped (context 0) (extension_list m))' leave_counted
--     =parts-authority_key_id =unwrap_or =empty
use Rattle.std.proofs.Common.{refl, ◌∙◌}
use Rattle.rpki_base.specs.RpkiSignatureAlgorithm.{algorithm}
use Rattle.rpki_der.proofs.Counting.{reads_done, reads_first, reads_part, refuses_inside, refuses_within, stops_behind, stops_done, stops_first, stops_later, stops_part, takes_err, takes_within}
use Rattle.rpki_der.proofs.Modes.{refuses_in, takes_in}
use Rattle.rpki_der.specs.Grammar.{wrapped}
use Rattle.rpki_der.specs.Tags.{context}
use Rattle.rpki_sigmsg.specs.CrlExtensions.{extension_list}
use Rattle.rpki_sigmsg.specs.TbsCrl.{tbs_crl}
use Rattle.rpki_sigmsg.proofs.tbs_crl.SignedMessageTbsCrl.take_from_counted.Goals as goal

pub returns-in_err-enter_counted : goal.returns-in_err-enter_counted
unfolding tbs_crl
returns-in_err-enter_counted g c = takes_err _ _ _ _ _ _ _ _ _ c.from_residual.ensures.1
    (refuses_within _ _ _ c.args.cursor.now _ _ _ c.in_err-enter_counted.ensures.place c.in_err-enter_counted.ensures.ticks)

pub returns-in_err-take_integer_if_counted : goal.returns-in_err-take_integer_if_counted
unfolding tbs_crl
returns-in_err-take_integer_if_counted g c = takes_err _ _ _ _ _ _ _ _ _ c.from_residual-in_err-take_integer_if_counted.ensures.1
    (refuses_inside _ _ _ _ _ _ _ _ _ _ refl c.in_ok-enter_counted.ensures.place c.in_ok-enter_counted.ensures.ticks
    (stops_first _ _ _ _ _ _ _ _ refl c.in_err-take_integer_if_counted.ensures))

pub returns-in_err-algorithm : goal.returns-in_err-algorithm
unfolding tbs_crl
returns-in_err-algorithm g c = takes_err _ _ _ _ _ _ _ _ _ c.from_residual-in_err-algorithm.ensures.1
    (refuses_inside _ _ _ _ _ _ _ _ _ _ refl c.in_ok-enter_counted.ensures.place c.in_ok-enter_counted.ensures.ticks
    (stops_later _ _ _ _ _ _ _ _ _ _ _ _ refl c.in_ok-take_integer_if_counted.ensures
    (stops_first _ _ _ _ _ _ _ _ refl (refuses_in _ algorithm _ _ _ _ _ (c.in_ok-take_integer_if_counted.ensures.takes.mode ∙ c.in_ok-enter_counted.ensures.place.mode) c.in_err-algorithm.ensures))))

pub returns-in_err-issuer : goal.returns-in_err-issuer
unfolding tbs_crl
returns-in_err-issuer g c = takes_err _ _ _ _ _ _ _ _ _ c.from_residual-in_err-issuer.ensures.1
    (refuses_inside _ _ _ _ _ _ _ _ _ _ refl c.in_ok-enter_counted.ensures.place c.in_ok-enter_counted.ensures.ticks
    (stops_later _ _ _ _ _ _ _ _ _ _ _ _ refl c.in_ok-take_integer_if_counted.ensures
    (stops_later _ _ _ _ _ _ _ _ _ _ _ _ refl
    (takes_in _ algorithm _ _ _ _ _ _ (c.in_ok-take_integer_if_counted.ensures.takes.mode ∙ c.in_ok-enter_counted.ensures.place.mode) c.in_ok-algorithm.ensures)
    (stops_first _ _ _ _ _ _ _ _ refl c.in_err-issuer.ensures))))

pub returns-in_err-this_update : goal.returns-in_err-this_update
unfolding tbs_crl
returns-in_err-this_update g c = takes_err _ _ _ _ _ _ _ _ _ c.from_residual-in_err-this_update.ensures.1
    (refuses_inside _ _ _ _ _ _ _ _ _ _ refl c.in_ok-enter_counted.ensures.place c.in_ok-enter_counted.ensures.ticks
    (stops_later _ _ _ _ _ _ _ _ _ _ _ _ refl c.in_ok-take_integer_if_counted.ensures
    (stops_later _ _ _ _ _ _ _ _ _ _ _ _ refl
    (takes_in _ algorithm _ _ _ _ _ _ (c.in_ok-take_integer_if_counted.ensures.takes.mode ∙ c.in_ok-enter_counted.ensures.place.mode) c.in_ok-algorithm.ensures)
    (stops_later _ _ _ _ _ _ _ _ _ _ _ _ refl c.in_ok-issuer.ensures
    (stops_first _ _ _ _ _ _ _ _ refl c.in_err-this_update.ensures)))))

pub returns-in_err-next_update : goal.returns-in_err-next_update
unfolding tbs_crl
returns-in_err-next_update g c = takes_err _ _ _ _ _ _ _ _ _ c.from_residual-in_err-next_update.ensures.1
    (refuses_inside _ _ _ _ _ _ _ _ _ _ refl c.in_ok-enter_counted.ensures.place c.in_ok-enter_counted.ensures.ticks
    (stops_later _ _ _ _ _ _ _ _ _ _ _ _ refl c.in_ok-take_integer_if_counted.ensures
    (stops_later _ _ _ _ _ _ _ _ _ _ _ _ refl
    (takes_in _ algorithm _ _ _ _ _ _ (c.in_ok-take_integer_if_counted.ensures.takes.mode ∙ c.in_ok-enter_counted.ensures.place.mode) c.in_ok-algorithm.ensures)
    (stops_later _ _ _ _ _ _ _ _ _ _ _ _ refl c.in_ok-issuer.ensures
    (stops_later _ _ _ _ _ _ _ _ _ _ _ _ refl c.in_ok-this_update.ensures
    (stops_first _ _ _ _ _ _ _ _ refl c.in_err-next_update.ensures))))))

pub returns-in_err-revoked : goal.returns-in_err-revoked
unfolding tbs_crl
returns-in_err-revoked g c = takes_err _ _ _ _ _ _ _ _ _ c.from_residual-in_err-revoked.ensures.1
    (refuses_inside _ _ _ _ _ _ _ _ _ _ refl c.in_ok-enter_counted.ensures.place c.in_ok-enter_counted.ensures.ticks
    (stops_later _ _ _ _ _ _ _ _ _ _ _ _ refl c.in_ok-take_integer_if_counted.ensures
    (stops_later _ _ _ _ _ _ _ _ _ _ _ _ refl
    (takes_in _ algorithm _ _ _ _ _ _ (c.in_ok-take_integer_if_counted.ensures.takes.mode ∙ c.in_ok-enter_counted.ensures.place.mode) c.in_ok-algorithm.ensures)
    (stops_later _ _ _ _ _ _ _ _ _ _ _ _ refl c.in_ok-issuer.ensures
    (stops_later _ _ _ _ _ _ _ _ _ _ _ _ refl c.in_ok-this_update.ensures
    (stops_later _ _ _ _ _ _ _ _ _ _ _ _ refl c.in_ok-next_update.ensures
    (stops_part _ _ _ _ _ _ _ _ _ refl c.in_err-revoked.ensures)))))))

pub returns-in_err-known : goal.returns-in_err-known
unfolding tbs_crl
returns-in_err-known g c = takes_err _ _ _ _ _ _ _ _ _ c.from_residual-in_err-known.ensures.1
    (refuses_inside _ _ _ _ _ _ _ _ _ _ refl c.in_ok-enter_counted.ensures.place c.in_ok-enter_counted.ensures.ticks
    (stops_later _ _ _ _ _ _ _ _ _ _ _ _ refl c.in_ok-take_integer_if_counted.ensures
    (stops_later _ _ _ _ _ _ _ _ _ _ _ _ refl
    (takes_in _ algorithm _ _ _ _ _ _ (c.in_ok-take_integer_if_counted.ensures.takes.mode ∙ c.in_ok-enter_counted.ensures.place.mode) c.in_ok-algorithm.ensures)
    (stops_later _ _ _ _ _ _ _ _ _ _ _ _ refl c.in_ok-issuer.ensures
    (stops_later _ _ _ _ _ _ _ _ _ _ _ _ refl c.in_ok-this_update.ensures
    (stops_later _ _ _ _ _ _ _ _ _ _ _ _ refl c.in_ok-next_update.ensures
    (stops_behind _ _ _ _ _ _ _ _ _ _ _ _ _ refl c.in_ok-revoked.ensures
    (stops_first _ _ _ _ _ _ _ _ refl
    (refuses_in _ (λ m. wrapped (context 0) (extension_list m)) _ _ _ _ _ (c.in_ok-revoked.ensures.takes.mode ∙ c.in_ok-next_update.ensures.takes.mode ∙ c.in_ok-this_update.ensures.takes.mode
    ∙ c.in_ok-issuer.ensures.takes.mode ∙ c.in_ok-algorithm.ensures.takes.mode ∙ c.in_ok-take_integer_if_counted.ensures.takes.mode ∙ c.in_ok-enter_counted.ensures.place.mode)
    c.in_err-known.ensures)))))))))

pub returns-in_err-leave_counted : goal.returns-in_err-leave_counted
unfolding tbs_crl
returns-in_err-leave_counted g c = takes_err _ _ _ _ _ _ _ _ _ c.from_residual-in_err-leave_counted.ensures.1
    (refuses_inside _ _ _ _ _ _ _ _ _ _ refl c.in_ok-enter_counted.ensures.place c.in_ok-enter_counted.ensures.ticks
    (stops_later _ _ _ _ _ _ _ _ _ _ _ _ refl c.in_ok-take_integer_if_counted.ensures
    (stops_later _ _ _ _ _ _ _ _ _ _ _ _ refl
    (takes_in _ algorithm _ _ _ _ _ _ (c.in_ok-take_integer_if_counted.ensures.takes.mode ∙ c.in_ok-enter_counted.ensures.place.mode) c.in_ok-algorithm.ensures)
    (stops_later _ _ _ _ _ _ _ _ _ _ _ _ refl c.in_ok-issuer.ensures
    (stops_later _ _ _ _ _ _ _ _ _ _ _ _ refl c.in_ok-this_update.ensures
    (stops_later _ _ _ _ _ _ _ _ _ _ _ _ refl c.in_ok-next_update.ensures
    (stops_behind _ _ _ _ _ _ _ _ _ _ _ _ _ refl c.in_ok-revoked.ensures
    (stops_later _ _ _ _ _ _ _ _ _ _ _ _ refl
    (takes_in _ (λ m. wrapped (context 0) (extension_list m)) _ _ _ _ _ _ (c.in_ok-revoked.ensures.takes.mode ∙ c.in_ok-next_update.ensures.takes.mode ∙ c.in_ok-this_update.ensures.takes.mode
    ∙ c.in_ok-issuer.ensures.takes.mode ∙ c.in_ok-algorithm.ensures.takes.mode ∙ c.in_ok-take_integer_if_counted.ensures.takes.mode ∙ c.in_ok-enter_counted.ensures.place.mode) c.in_ok-known.ensures)
    (stops_done _ _ _ _ _ _ c.in_err-leave_counted.ensures.place c.in_err-leave_counted.ensures.refused)))))))))

pub returns : goal.returns
unfolding tbs_crl
returns g c = rw (c.parts-authority_key_id.ensures, c.unwrap_or.ensures, c.empty.ensures)
    (takes_within _ _ _ _ _ _ _ _ _ _ _ refl c.in_ok-enter_counted.ensures.place c.in_ok-enter_counted.ensures.ticks
    (reads_first _ _ _ _ _ _ _ _ _ _ _ _ _ refl c.in_ok-take_integer_if_counted.ensures
    (reads_first _ _ _ _ _ _ _ _ _ _ _ _ _ refl
    (takes_in _ algorithm _ _ _ _ _ _ (c.in_ok-take_integer_if_counted.ensures.takes.mode ∙ c.in_ok-enter_counted.ensures.place.mode) c.in_ok-algorithm.ensures)
    (reads_first _ _ _ _ _ _ _ _ _ _ _ _ _ refl c.in_ok-issuer.ensures
    (reads_first _ _ _ _ _ _ _ _ _ _ _ _ _ refl c.in_ok-this_update.ensures
    (reads_first _ _ _ _ _ _ _ _ _ _ _ _ _ refl c.in_ok-next_update.ensures
    (reads_part _ _ _ _ _ _ _ _ _ _ _ _ _ _ refl c.in_ok-revoked.ensures
    (reads_first _ _ _ _ _ _ _ _ _ _ _ _ _ refl
    (takes_in _ (λ m. wrapped (context 0) (extension_list m)) _ _ _ _ _ _ (c.in_ok-revoked.ensures.takes.mode ∙ c.in_ok-next_update.ensures.takes.mode ∙ c.in_ok-this_update.ensures.takes.mode
    ∙ c.in_ok-issuer.ensures.takes.mode ∙ c.in_ok-algorithm.ensures.takes.mode ∙ c.in_ok-take_integer_if_counted.ensures.takes.mode ∙ c.in_ok-enter_counted.ensures.place.mode) c.in_ok-known.ensures)
    (reads_done _ _ _ _ _ _ refl c.in_ok-leave_counted.ensures.place c.in_ok-leave_counted.ensures.ticks)))))))))
