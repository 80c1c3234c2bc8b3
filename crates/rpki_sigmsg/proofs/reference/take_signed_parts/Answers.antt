-- by tools/proofs/answers.py rpki_sigmsg reference take_signed_parts Message signed_parts enter_counted take_integer_if_counted pass_digest_algorithms
--     content@rpki_sigmsg.specs.Message.encapsulated_content=encapsulated_content
--     'certificate@rpki_der.specs.Grammar.wrapped+rpki_der.specs.Tags.context+rpki_der.specs.Held.with_octets+rpki_idcert.specs.IdCert.identity_certificate=(λ m. wrapped (context 0) (with_octets
--     (identity_certificate m)))' crls 'signer@rpki_der.specs.Grammar.wrapped+rpki_der.specs.Tags.set+rpki_sigmsg.specs.Signer.signer_info=(λ m. wrapped set (signer_info m))' '!signed' leave_counted
--     =new
use Rattle.std.proofs.Common.{refl, ◌∙◌}
use Rattle.rpki_der.proofs.Counting.{reads_done, reads_first, refuses_inside, refuses_within, stops_done, stops_first, stops_later, stops_memory, takes_err, takes_within}
use Rattle.rpki_der.proofs.Modes.{refuses_in, takes_in}
use Rattle.rpki_der.specs.Grammar.{wrapped}
use Rattle.rpki_der.specs.Held.{with_octets}
use Rattle.rpki_der.specs.Tags.{context, set}
use Rattle.rpki_idcert.specs.IdCert.{identity_certificate}
use Rattle.rpki_sigmsg.specs.Message.{encapsulated_content, signed_parts}
use Rattle.rpki_sigmsg.specs.Signer.{signer_info}
use Rattle.rpki_sigmsg.proofs.reference.take_signed_parts.Goals as goal

pub returns-in_err-enter_counted : goal.returns-in_err-enter_counted
unfolding signed_parts
returns-in_err-enter_counted g c = takes_err _ _ _ _ _ _ _ _ _ c.from_residual.ensures.1
    (refuses_within _ _ _ c.args.cursor.now _ _ _ c.in_err-enter_counted.ensures.place c.in_err-enter_counted.ensures.ticks)

pub returns-in_err-take_integer_if_counted : goal.returns-in_err-take_integer_if_counted
unfolding signed_parts
returns-in_err-take_integer_if_counted g c = takes_err _ _ _ _ _ _ _ _ _ c.from_residual-in_err-take_integer_if_counted.ensures.1
    (refuses_inside _ _ _ _ _ _ _ _ _ _ refl c.in_ok-enter_counted.ensures.place c.in_ok-enter_counted.ensures.ticks
    (stops_first _ _ _ _ _ _ _ _ refl c.in_err-take_integer_if_counted.ensures))

pub returns-in_err-pass_digest_algorithms : goal.returns-in_err-pass_digest_algorithms
unfolding signed_parts
returns-in_err-pass_digest_algorithms g c = takes_err _ _ _ _ _ _ _ _ _ c.from_residual-in_err-pass_digest_algorithms.ensures.1
    (refuses_inside _ _ _ _ _ _ _ _ _ _ refl c.in_ok-enter_counted.ensures.place c.in_ok-enter_counted.ensures.ticks
    (stops_later _ _ _ _ _ _ _ _ _ _ _ _ refl c.in_ok-take_integer_if_counted.ensures
    (stops_first _ _ _ _ _ _ _ _ refl c.in_err-pass_digest_algorithms.ensures)))

pub returns-in_err-content : goal.returns-in_err-content
unfolding signed_parts
returns-in_err-content g c = takes_err _ _ _ _ _ _ _ _ _ c.from_residual-in_err-content.ensures.1
    (refuses_inside _ _ _ _ _ _ _ _ _ _ refl c.in_ok-enter_counted.ensures.place c.in_ok-enter_counted.ensures.ticks
    (stops_later _ _ _ _ _ _ _ _ _ _ _ _ refl c.in_ok-take_integer_if_counted.ensures
    (stops_later _ _ _ _ _ _ _ _ _ _ _ _ refl c.in_ok-pass_digest_algorithms.ensures
    (stops_first _ _ _ _ _ _ _ _ refl
    (refuses_in _ encapsulated_content _ _ _ _ _ (c.in_ok-pass_digest_algorithms.ensures.takes.mode ∙ c.in_ok-take_integer_if_counted.ensures.takes.mode ∙ c.in_ok-enter_counted.ensures.place.mode)
    c.in_err-content.ensures)))))

pub returns-in_err-certificate : goal.returns-in_err-certificate
unfolding signed_parts
returns-in_err-certificate g c = takes_err _ _ _ _ _ _ _ _ _ c.from_residual-in_err-certificate.ensures.1
    (refuses_inside _ _ _ _ _ _ _ _ _ _ refl c.in_ok-enter_counted.ensures.place c.in_ok-enter_counted.ensures.ticks
    (stops_later _ _ _ _ _ _ _ _ _ _ _ _ refl c.in_ok-take_integer_if_counted.ensures
    (stops_later _ _ _ _ _ _ _ _ _ _ _ _ refl c.in_ok-pass_digest_algorithms.ensures
    (stops_later _ _ _ _ _ _ _ _ _ _ _ _ refl
    (takes_in _ encapsulated_content _ _ _ _ _ _ (c.in_ok-pass_digest_algorithms.ensures.takes.mode ∙ c.in_ok-take_integer_if_counted.ensures.takes.mode ∙ c.in_ok-enter_counted.ensures.place.mode)
    c.in_ok-content.ensures)
    (stops_first _ _ _ _ _ _ _ _ refl
    (refuses_in _ (λ m. wrapped (context 0) (with_octets (identity_certificate m))) _ _ _ _ _ (c.in_ok-content.ensures.takes.mode ∙ c.in_ok-pass_digest_algorithms.ensures.takes.mode
    ∙ c.in_ok-take_integer_if_counted.ensures.takes.mode ∙ c.in_ok-enter_counted.ensures.place.mode) c.in_err-certificate.ensures))))))

pub returns-in_err-crls : goal.returns-in_err-crls
unfolding signed_parts
returns-in_err-crls g c = takes_err _ _ _ _ _ _ _ _ _ c.from_residual-in_err-crls.ensures.1
    (refuses_inside _ _ _ _ _ _ _ _ _ _ refl c.in_ok-enter_counted.ensures.place c.in_ok-enter_counted.ensures.ticks
    (stops_later _ _ _ _ _ _ _ _ _ _ _ _ refl c.in_ok-take_integer_if_counted.ensures
    (stops_later _ _ _ _ _ _ _ _ _ _ _ _ refl c.in_ok-pass_digest_algorithms.ensures
    (stops_later _ _ _ _ _ _ _ _ _ _ _ _ refl
    (takes_in _ encapsulated_content _ _ _ _ _ _ (c.in_ok-pass_digest_algorithms.ensures.takes.mode ∙ c.in_ok-take_integer_if_counted.ensures.takes.mode ∙ c.in_ok-enter_counted.ensures.place.mode)
    c.in_ok-content.ensures)
    (stops_later _ _ _ _ _ _ _ _ _ _ _ _ refl
    (takes_in _ (λ m. wrapped (context 0) (with_octets (identity_certificate m))) _ _ _ _ _ _ (c.in_ok-content.ensures.takes.mode ∙ c.in_ok-pass_digest_algorithms.ensures.takes.mode
    ∙ c.in_ok-take_integer_if_counted.ensures.takes.mode ∙ c.in_ok-enter_counted.ensures.place.mode) c.in_ok-certificate.ensures)
    (stops_first _ _ _ _ _ _ _ _ refl c.in_err-crls.ensures))))))

pub returns-in_err-signer : goal.returns-in_err-signer
unfolding signed_parts
returns-in_err-signer g c = takes_err _ _ _ _ _ _ _ _ _ c.from_residual-in_err-signer.ensures.1
    (refuses_inside _ _ _ _ _ _ _ _ _ _ refl c.in_ok-enter_counted.ensures.place c.in_ok-enter_counted.ensures.ticks
    (stops_later _ _ _ _ _ _ _ _ _ _ _ _ refl c.in_ok-take_integer_if_counted.ensures
    (stops_later _ _ _ _ _ _ _ _ _ _ _ _ refl c.in_ok-pass_digest_algorithms.ensures
    (stops_later _ _ _ _ _ _ _ _ _ _ _ _ refl
    (takes_in _ encapsulated_content _ _ _ _ _ _ (c.in_ok-pass_digest_algorithms.ensures.takes.mode ∙ c.in_ok-take_integer_if_counted.ensures.takes.mode ∙ c.in_ok-enter_counted.ensures.place.mode)
    c.in_ok-content.ensures)
    (stops_later _ _ _ _ _ _ _ _ _ _ _ _ refl
    (takes_in _ (λ m. wrapped (context 0) (with_octets (identity_certificate m))) _ _ _ _ _ _ (c.in_ok-content.ensures.takes.mode ∙ c.in_ok-pass_digest_algorithms.ensures.takes.mode
    ∙ c.in_ok-take_integer_if_counted.ensures.takes.mode ∙ c.in_ok-enter_counted.ensures.place.mode) c.in_ok-certificate.ensures)
    (stops_later _ _ _ _ _ _ _ _ _ _ _ _ refl c.in_ok-crls.ensures
    (stops_first _ _ _ _ _ _ _ _ refl
    (refuses_in _ (λ m. wrapped set (signer_info m)) _ _ _ _ _ (c.in_ok-crls.ensures.takes.mode ∙ c.in_ok-certificate.ensures.takes.mode ∙ c.in_ok-content.ensures.takes.mode
    ∙ c.in_ok-pass_digest_algorithms.ensures.takes.mode ∙ c.in_ok-take_integer_if_counted.ensures.takes.mode ∙ c.in_ok-enter_counted.ensures.place.mode) c.in_err-signer.ensures))))))))

pub returns-in_err-signed : goal.returns-in_err-signed
unfolding signed_parts
returns-in_err-signed g c = takes_err _ _ _ _ _ _ _ _ _ c.from_residual-in_err-signed.ensures.1
    (refuses_inside _ _ _ _ _ _ _ _ _ _ refl c.in_ok-enter_counted.ensures.place c.in_ok-enter_counted.ensures.ticks
    (stops_later _ _ _ _ _ _ _ _ _ _ _ _ refl c.in_ok-take_integer_if_counted.ensures
    (stops_later _ _ _ _ _ _ _ _ _ _ _ _ refl c.in_ok-pass_digest_algorithms.ensures
    (stops_later _ _ _ _ _ _ _ _ _ _ _ _ refl
    (takes_in _ encapsulated_content _ _ _ _ _ _ (c.in_ok-pass_digest_algorithms.ensures.takes.mode ∙ c.in_ok-take_integer_if_counted.ensures.takes.mode ∙ c.in_ok-enter_counted.ensures.place.mode)
    c.in_ok-content.ensures)
    (stops_later _ _ _ _ _ _ _ _ _ _ _ _ refl
    (takes_in _ (λ m. wrapped (context 0) (with_octets (identity_certificate m))) _ _ _ _ _ _ (c.in_ok-content.ensures.takes.mode ∙ c.in_ok-pass_digest_algorithms.ensures.takes.mode
    ∙ c.in_ok-take_integer_if_counted.ensures.takes.mode ∙ c.in_ok-enter_counted.ensures.place.mode) c.in_ok-certificate.ensures)
    (stops_later _ _ _ _ _ _ _ _ _ _ _ _ refl c.in_ok-crls.ensures
    (stops_later _ _ _ _ _ _ _ _ _ _ _ _ refl
    (takes_in _ (λ m. wrapped set (signer_info m)) _ _ _ _ _ _ (c.in_ok-crls.ensures.takes.mode ∙ c.in_ok-certificate.ensures.takes.mode ∙ c.in_ok-content.ensures.takes.mode
    ∙ c.in_ok-pass_digest_algorithms.ensures.takes.mode ∙ c.in_ok-take_integer_if_counted.ensures.takes.mode ∙ c.in_ok-enter_counted.ensures.place.mode) c.in_ok-signer.ensures)
    (stops_memory _ _ _ _ _ refl))))))))

pub returns-in_err-leave_counted : goal.returns-in_err-leave_counted
unfolding signed_parts
returns-in_err-leave_counted g c = takes_err _ _ _ _ _ _ _ _ _ c.from_residual-in_err-leave_counted.ensures.1
    (refuses_inside _ _ _ _ _ _ _ _ _ _ refl c.in_ok-enter_counted.ensures.place c.in_ok-enter_counted.ensures.ticks
    (stops_later _ _ _ _ _ _ _ _ _ _ _ _ refl c.in_ok-take_integer_if_counted.ensures
    (stops_later _ _ _ _ _ _ _ _ _ _ _ _ refl c.in_ok-pass_digest_algorithms.ensures
    (stops_later _ _ _ _ _ _ _ _ _ _ _ _ refl
    (takes_in _ encapsulated_content _ _ _ _ _ _ (c.in_ok-pass_digest_algorithms.ensures.takes.mode ∙ c.in_ok-take_integer_if_counted.ensures.takes.mode ∙ c.in_ok-enter_counted.ensures.place.mode)
    c.in_ok-content.ensures)
    (stops_later _ _ _ _ _ _ _ _ _ _ _ _ refl
    (takes_in _ (λ m. wrapped (context 0) (with_octets (identity_certificate m))) _ _ _ _ _ _ (c.in_ok-content.ensures.takes.mode ∙ c.in_ok-pass_digest_algorithms.ensures.takes.mode
    ∙ c.in_ok-take_integer_if_counted.ensures.takes.mode ∙ c.in_ok-enter_counted.ensures.place.mode) c.in_ok-certificate.ensures)
    (stops_later _ _ _ _ _ _ _ _ _ _ _ _ refl c.in_ok-crls.ensures
    (stops_later _ _ _ _ _ _ _ _ _ _ _ _ refl
    (takes_in _ (λ m. wrapped set (signer_info m)) _ _ _ _ _ _ (c.in_ok-crls.ensures.takes.mode ∙ c.in_ok-certificate.ensures.takes.mode ∙ c.in_ok-content.ensures.takes.mode
    ∙ c.in_ok-pass_digest_algorithms.ensures.takes.mode ∙ c.in_ok-take_integer_if_counted.ensures.takes.mode ∙ c.in_ok-enter_counted.ensures.place.mode) c.in_ok-signer.ensures)
    (stops_done _ _ _ _ _ _ c.in_err-leave_counted.ensures.place c.in_err-leave_counted.ensures.refused))))))))

pub returns : goal.returns
unfolding signed_parts
returns g c = rw c.new.ensures
    (takes_within _ _ _ _ _ _ _ _ _ _ _ refl c.in_ok-enter_counted.ensures.place c.in_ok-enter_counted.ensures.ticks
    (reads_first _ _ _ _ _ _ _ _ _ _ _ _ _ refl c.in_ok-take_integer_if_counted.ensures
    (reads_first _ _ _ _ _ _ _ _ _ _ _ _ _ refl c.in_ok-pass_digest_algorithms.ensures
    (reads_first _ _ _ _ _ _ _ _ _ _ _ _ _ refl
    (takes_in _ encapsulated_content _ _ _ _ _ _ (c.in_ok-pass_digest_algorithms.ensures.takes.mode ∙ c.in_ok-take_integer_if_counted.ensures.takes.mode ∙ c.in_ok-enter_counted.ensures.place.mode)
    c.in_ok-content.ensures)
    (reads_first _ _ _ _ _ _ _ _ _ _ _ _ _ refl
    (takes_in _ (λ m. wrapped (context 0) (with_octets (identity_certificate m))) _ _ _ _ _ _ (c.in_ok-content.ensures.takes.mode ∙ c.in_ok-pass_digest_algorithms.ensures.takes.mode
    ∙ c.in_ok-take_integer_if_counted.ensures.takes.mode ∙ c.in_ok-enter_counted.ensures.place.mode) c.in_ok-certificate.ensures)
    (reads_first _ _ _ _ _ _ _ _ _ _ _ _ _ refl c.in_ok-crls.ensures
    (reads_first _ _ _ _ _ _ _ _ _ _ _ _ _ refl
    (takes_in _ (λ m. wrapped set (signer_info m)) _ _ _ _ _ _ (c.in_ok-crls.ensures.takes.mode ∙ c.in_ok-certificate.ensures.takes.mode ∙ c.in_ok-content.ensures.takes.mode
    ∙ c.in_ok-pass_digest_algorithms.ensures.takes.mode ∙ c.in_ok-take_integer_if_counted.ensures.takes.mode ∙ c.in_ok-enter_counted.ensures.place.mode) c.in_ok-signer.ensures)
    (reads_done _ _ _ _ _ _ refl c.in_ok-leave_counted.ensures.place c.in_ok-leave_counted.ensures.ticks))))))))
