-- by tools/proofs/answers.py rpki_sigmsg signer take_signer_info Signer signer_info enter_counted take_integer_if_counted
--     'identifier@rpki_base.specs.KeyIdentifier.key_identifier_under+rpki_der.specs.Tags.context=(key_identifier_under (context 0))' pass_digest_algorithm
--     attributes@rpki_sigmsg.specs.Attributes.signed_attributes=signed_attributes algorithm@rpki_sigmsg.specs.Algorithm.signature_algorithm=signature_algorithm
--     'signature_value@rpki_der.specs.Held.with_octets+rpki_der.specs.OctetString.octet_string=(λ m. with_octets (octet_string m))' leave_counted =new-signature
use Rattle.std.proofs.Common.{refl, ◌∙◌}
use Rattle.rpki_base.specs.KeyIdentifier.{key_identifier_under}
use Rattle.rpki_der.proofs.Counting.{reads_done, reads_first, refuses_inside, refuses_within, stops_done, stops_first, stops_later, takes_err, takes_within}
use Rattle.rpki_der.proofs.Modes.{refuses_in, takes_in}
use Rattle.rpki_der.specs.Held.{with_octets}
use Rattle.rpki_der.specs.OctetString.{octet_string}
use Rattle.rpki_der.specs.Tags.{context}
use Rattle.rpki_sigmsg.specs.Algorithm.{signature_algorithm}
use Rattle.rpki_sigmsg.specs.Attributes.{signed_attributes}
use Rattle.rpki_sigmsg.specs.Signer.{signer_info}
use Rattle.rpki_sigmsg.proofs.signer.take_signer_info.Goals as goal

pub returns-in_err-enter_counted : goal.returns-in_err-enter_counted
unfolding signer_info
returns-in_err-enter_counted g c = takes_err _ _ _ _ _ _ _ _ _ c.from_residual.ensures.1
    (refuses_within _ _ _ c.args.cursor.now _ _ _ c.in_err-enter_counted.ensures.place c.in_err-enter_counted.ensures.ticks)

pub returns-in_err-take_integer_if_counted : goal.returns-in_err-take_integer_if_counted
unfolding signer_info
returns-in_err-take_integer_if_counted g c = takes_err _ _ _ _ _ _ _ _ _ c.from_residual-in_err-take_integer_if_counted.ensures.1
    (refuses_inside _ _ _ _ _ _ _ _ _ _ refl c.in_ok-enter_counted.ensures.place c.in_ok-enter_counted.ensures.ticks
    (stops_first _ _ _ _ _ _ _ _ refl c.in_err-take_integer_if_counted.ensures))

pub returns-in_err-identifier : goal.returns-in_err-identifier
unfolding signer_info
returns-in_err-identifier g c = takes_err _ _ _ _ _ _ _ _ _ c.from_residual-in_err-identifier.ensures.1
    (refuses_inside _ _ _ _ _ _ _ _ _ _ refl c.in_ok-enter_counted.ensures.place c.in_ok-enter_counted.ensures.ticks
    (stops_later _ _ _ _ _ _ _ _ _ _ _ _ refl c.in_ok-take_integer_if_counted.ensures
    (stops_first _ _ _ _ _ _ _ _ refl
    (refuses_in _ (key_identifier_under (context 0)) _ _ _ _ _ (c.in_ok-take_integer_if_counted.ensures.takes.mode ∙ c.in_ok-enter_counted.ensures.place.mode) c.in_err-identifier.ensures))))

pub returns-in_err-pass_digest_algorithm : goal.returns-in_err-pass_digest_algorithm
unfolding signer_info
returns-in_err-pass_digest_algorithm g c = takes_err _ _ _ _ _ _ _ _ _ c.from_residual-in_err-pass_digest_algorithm.ensures.1
    (refuses_inside _ _ _ _ _ _ _ _ _ _ refl c.in_ok-enter_counted.ensures.place c.in_ok-enter_counted.ensures.ticks
    (stops_later _ _ _ _ _ _ _ _ _ _ _ _ refl c.in_ok-take_integer_if_counted.ensures
    (stops_later _ _ _ _ _ _ _ _ _ _ _ _ refl
    (takes_in _ (key_identifier_under (context 0)) _ _ _ _ _ _ (c.in_ok-take_integer_if_counted.ensures.takes.mode ∙ c.in_ok-enter_counted.ensures.place.mode) c.in_ok-identifier.ensures)
    (stops_first _ _ _ _ _ _ _ _ refl c.in_err-pass_digest_algorithm.ensures))))

pub returns-in_err-attributes : goal.returns-in_err-attributes
unfolding signer_info
returns-in_err-attributes g c = takes_err _ _ _ _ _ _ _ _ _ c.from_residual-in_err-attributes.ensures.1
    (refuses_inside _ _ _ _ _ _ _ _ _ _ refl c.in_ok-enter_counted.ensures.place c.in_ok-enter_counted.ensures.ticks
    (stops_later _ _ _ _ _ _ _ _ _ _ _ _ refl c.in_ok-take_integer_if_counted.ensures
    (stops_later _ _ _ _ _ _ _ _ _ _ _ _ refl
    (takes_in _ (key_identifier_under (context 0)) _ _ _ _ _ _ (c.in_ok-take_integer_if_counted.ensures.takes.mode ∙ c.in_ok-enter_counted.ensures.place.mode) c.in_ok-identifier.ensures)
    (stops_later _ _ _ _ _ _ _ _ _ _ _ _ refl c.in_ok-pass_digest_algorithm.ensures
    (stops_first _ _ _ _ _ _ _ _ refl
    (refuses_in _ signed_attributes _ _ _ _ _ (c.in_ok-pass_digest_algorithm.ensures.takes.mode ∙ c.in_ok-identifier.ensures.takes.mode ∙ c.in_ok-take_integer_if_counted.ensures.takes.mode
    ∙ c.in_ok-enter_counted.ensures.place.mode) c.in_err-attributes.ensures))))))

pub returns-in_err-algorithm : goal.returns-in_err-algorithm
unfolding signer_info
returns-in_err-algorithm g c = takes_err _ _ _ _ _ _ _ _ _ c.from_residual-in_err-algorithm.ensures.1
    (refuses_inside _ _ _ _ _ _ _ _ _ _ refl c.in_ok-enter_counted.ensures.place c.in_ok-enter_counted.ensures.ticks
    (stops_later _ _ _ _ _ _ _ _ _ _ _ _ refl c.in_ok-take_integer_if_counted.ensures
    (stops_later _ _ _ _ _ _ _ _ _ _ _ _ refl
    (takes_in _ (key_identifier_under (context 0)) _ _ _ _ _ _ (c.in_ok-take_integer_if_counted.ensures.takes.mode ∙ c.in_ok-enter_counted.ensures.place.mode) c.in_ok-identifier.ensures)
    (stops_later _ _ _ _ _ _ _ _ _ _ _ _ refl c.in_ok-pass_digest_algorithm.ensures
    (stops_later _ _ _ _ _ _ _ _ _ _ _ _ refl
    (takes_in _ signed_attributes _ _ _ _ _ _ (c.in_ok-pass_digest_algorithm.ensures.takes.mode ∙ c.in_ok-identifier.ensures.takes.mode ∙ c.in_ok-take_integer_if_counted.ensures.takes.mode
    ∙ c.in_ok-enter_counted.ensures.place.mode) c.in_ok-attributes.ensures)
    (stops_first _ _ _ _ _ _ _ _ refl
    (refuses_in _ signature_algorithm _ _ _ _ _ (c.in_ok-attributes.ensures.takes.mode ∙ c.in_ok-pass_digest_algorithm.ensures.takes.mode ∙ c.in_ok-identifier.ensures.takes.mode
    ∙ c.in_ok-take_integer_if_counted.ensures.takes.mode ∙ c.in_ok-enter_counted.ensures.place.mode) c.in_err-algorithm.ensures)))))))

pub returns-in_err-signature_value : goal.returns-in_err-signature_value
unfolding signer_info
returns-in_err-signature_value g c = takes_err _ _ _ _ _ _ _ _ _ c.from_residual-in_err-signature_value.ensures.1
    (refuses_inside _ _ _ _ _ _ _ _ _ _ refl c.in_ok-enter_counted.ensures.place c.in_ok-enter_counted.ensures.ticks
    (stops_later _ _ _ _ _ _ _ _ _ _ _ _ refl c.in_ok-take_integer_if_counted.ensures
    (stops_later _ _ _ _ _ _ _ _ _ _ _ _ refl
    (takes_in _ (key_identifier_under (context 0)) _ _ _ _ _ _ (c.in_ok-take_integer_if_counted.ensures.takes.mode ∙ c.in_ok-enter_counted.ensures.place.mode) c.in_ok-identifier.ensures)
    (stops_later _ _ _ _ _ _ _ _ _ _ _ _ refl c.in_ok-pass_digest_algorithm.ensures
    (stops_later _ _ _ _ _ _ _ _ _ _ _ _ refl
    (takes_in _ signed_attributes _ _ _ _ _ _ (c.in_ok-pass_digest_algorithm.ensures.takes.mode ∙ c.in_ok-identifier.ensures.takes.mode ∙ c.in_ok-take_integer_if_counted.ensures.takes.mode
    ∙ c.in_ok-enter_counted.ensures.place.mode) c.in_ok-attributes.ensures)
    (stops_later _ _ _ _ _ _ _ _ _ _ _ _ refl
    (takes_in _ signature_algorithm _ _ _ _ _ _ (c.in_ok-attributes.ensures.takes.mode ∙ c.in_ok-pass_digest_algorithm.ensures.takes.mode ∙ c.in_ok-identifier.ensures.takes.mode
    ∙ c.in_ok-take_integer_if_counted.ensures.takes.mode ∙ c.in_ok-enter_counted.ensures.place.mode) c.in_ok-algorithm.ensures)
    (stops_first _ _ _ _ _ _ _ _ refl
    (refuses_in _ (λ m. with_octets (octet_string m)) _ _ _ _ _ (c.in_ok-algorithm.ensures.takes.mode ∙ c.in_ok-attributes.ensures.takes.mode ∙ c.in_ok-pass_digest_algorithm.ensures.takes.mode
    ∙ c.in_ok-identifier.ensures.takes.mode ∙ c.in_ok-take_integer_if_counted.ensures.takes.mode ∙ c.in_ok-enter_counted.ensures.place.mode) c.in_err-signature_value.ensures))))))))

pub returns-in_err-leave_counted : goal.returns-in_err-leave_counted
unfolding signer_info
returns-in_err-leave_counted g c = takes_err _ _ _ _ _ _ _ _ _ c.from_residual-in_err-leave_counted.ensures.1
    (refuses_inside _ _ _ _ _ _ _ _ _ _ refl c.in_ok-enter_counted.ensures.place c.in_ok-enter_counted.ensures.ticks
    (stops_later _ _ _ _ _ _ _ _ _ _ _ _ refl c.in_ok-take_integer_if_counted.ensures
    (stops_later _ _ _ _ _ _ _ _ _ _ _ _ refl
    (takes_in _ (key_identifier_under (context 0)) _ _ _ _ _ _ (c.in_ok-take_integer_if_counted.ensures.takes.mode ∙ c.in_ok-enter_counted.ensures.place.mode) c.in_ok-identifier.ensures)
    (stops_later _ _ _ _ _ _ _ _ _ _ _ _ refl c.in_ok-pass_digest_algorithm.ensures
    (stops_later _ _ _ _ _ _ _ _ _ _ _ _ refl
    (takes_in _ signed_attributes _ _ _ _ _ _ (c.in_ok-pass_digest_algorithm.ensures.takes.mode ∙ c.in_ok-identifier.ensures.takes.mode ∙ c.in_ok-take_integer_if_counted.ensures.takes.mode
    ∙ c.in_ok-enter_counted.ensures.place.mode) c.in_ok-attributes.ensures)
    (stops_later _ _ _ _ _ _ _ _ _ _ _ _ refl
    (takes_in _ signature_algorithm _ _ _ _ _ _ (c.in_ok-attributes.ensures.takes.mode ∙ c.in_ok-pass_digest_algorithm.ensures.takes.mode ∙ c.in_ok-identifier.ensures.takes.mode
    ∙ c.in_ok-take_integer_if_counted.ensures.takes.mode ∙ c.in_ok-enter_counted.ensures.place.mode) c.in_ok-algorithm.ensures)
    (stops_later _ _ _ _ _ _ _ _ _ _ _ _ refl
    (takes_in _ (λ m. with_octets (octet_string m)) _ _ _ _ _ _ (c.in_ok-algorithm.ensures.takes.mode ∙ c.in_ok-attributes.ensures.takes.mode ∙ c.in_ok-pass_digest_algorithm.ensures.takes.mode
    ∙ c.in_ok-identifier.ensures.takes.mode ∙ c.in_ok-take_integer_if_counted.ensures.takes.mode ∙ c.in_ok-enter_counted.ensures.place.mode) c.in_ok-signature_value.ensures)
    (stops_done _ _ _ _ _ _ c.in_err-leave_counted.ensures.place c.in_err-leave_counted.ensures.refused))))))))

pub returns : goal.returns
unfolding signer_info
returns g c = rw c.new-signature.ensures
    (takes_within _ _ _ _ _ _ _ _ _ _ _ refl c.in_ok-enter_counted.ensures.place c.in_ok-enter_counted.ensures.ticks
    (reads_first _ _ _ _ _ _ _ _ _ _ _ _ _ refl c.in_ok-take_integer_if_counted.ensures
    (reads_first _ _ _ _ _ _ _ _ _ _ _ _ _ refl
    (takes_in _ (key_identifier_under (context 0)) _ _ _ _ _ _ (c.in_ok-take_integer_if_counted.ensures.takes.mode ∙ c.in_ok-enter_counted.ensures.place.mode) c.in_ok-identifier.ensures)
    (reads_first _ _ _ _ _ _ _ _ _ _ _ _ _ refl c.in_ok-pass_digest_algorithm.ensures
    (reads_first _ _ _ _ _ _ _ _ _ _ _ _ _ refl
    (takes_in _ signed_attributes _ _ _ _ _ _ (c.in_ok-pass_digest_algorithm.ensures.takes.mode ∙ c.in_ok-identifier.ensures.takes.mode ∙ c.in_ok-take_integer_if_counted.ensures.takes.mode
    ∙ c.in_ok-enter_counted.ensures.place.mode) c.in_ok-attributes.ensures)
    (reads_first _ _ _ _ _ _ _ _ _ _ _ _ _ refl
    (takes_in _ signature_algorithm _ _ _ _ _ _ (c.in_ok-attributes.ensures.takes.mode ∙ c.in_ok-pass_digest_algorithm.ensures.takes.mode ∙ c.in_ok-identifier.ensures.takes.mode
    ∙ c.in_ok-take_integer_if_counted.ensures.takes.mode ∙ c.in_ok-enter_counted.ensures.place.mode) c.in_ok-algorithm.ensures)
    (reads_first _ _ _ _ _ _ _ _ _ _ _ _ _ refl
    (takes_in _ (λ m. with_octets (octet_string m)) _ _ _ _ _ _ (c.in_ok-algorithm.ensures.takes.mode ∙ c.in_ok-attributes.ensures.takes.mode ∙ c.in_ok-pass_digest_algorithm.ensures.takes.mode
    ∙ c.in_ok-identifier.ensures.takes.mode ∙ c.in_ok-take_integer_if_counted.ensures.takes.mode ∙ c.in_ok-enter_counted.ensures.place.mode) c.in_ok-signature_value.ensures)
    (reads_done _ _ _ _ _ _ refl c.in_ok-leave_counted.ensures.place c.in_ok-leave_counted.ensures.ticks))))))))
