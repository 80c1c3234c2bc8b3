-- by tools/proofs/answers.py rpki_cert cert take_key Cert tbs_certificate enter_counted take_version _serial take_algorithm@rpki_base.specs.RpkiSignatureAlgorithm.algorithm=algorithm _issuer
--     _validity _subject key 'pass_extensions@rpki_der.specs.Grammar.wrapped+rpki_der.specs.Tags.context+rpki_cert.specs.Cert.unread_extensions=(λ m. wrapped (context 3) (unread_extensions m))'
--     leave_counted
use Rattle.std.proofs.Common.{refl, ◌∙◌}
use Rattle.rpki_base.specs.RpkiSignatureAlgorithm.{algorithm}
use Rattle.rpki_cert.specs.Cert.{tbs_certificate, unread_extensions}
use Rattle.rpki_der.proofs.Counting.{reads_done, reads_first, refuses_inside, refuses_within, stops_done, stops_first, stops_later, takes_err, takes_within}
use Rattle.rpki_der.proofs.Modes.{refuses_in, takes_in}
use Rattle.rpki_der.specs.Grammar.{wrapped}
use Rattle.rpki_der.specs.Tags.{context}
use Rattle.rpki_cert.proofs.cert.take_key.Goals as goal

pub returns-in_err-enter_counted : goal.returns-in_err-enter_counted
unfolding tbs_certificate
returns-in_err-enter_counted g c = takes_err _ _ _ _ _ _ _ _ _ c.from_residual.ensures.1
    (refuses_within _ _ _ c.args.cursor.now _ _ _ c.in_err-enter_counted.ensures.place c.in_err-enter_counted.ensures.ticks)

pub returns-in_err-take_version : goal.returns-in_err-take_version
unfolding tbs_certificate
returns-in_err-take_version g c = takes_err _ _ _ _ _ _ _ _ _ c.from_residual-in_err-take_version.ensures.1
    (refuses_inside _ _ _ _ _ _ _ _ _ _ refl c.in_ok-enter_counted.ensures.place c.in_ok-enter_counted.ensures.ticks
    (stops_first _ _ _ _ _ _ _ _ refl c.in_err-take_version.ensures))

pub returns-in_err-_serial : goal.returns-in_err-_serial
unfolding tbs_certificate
returns-in_err-_serial g c = takes_err _ _ _ _ _ _ _ _ _ c.from_residual-in_err-_serial.ensures.1
    (refuses_inside _ _ _ _ _ _ _ _ _ _ refl c.in_ok-enter_counted.ensures.place c.in_ok-enter_counted.ensures.ticks
    (stops_later _ _ _ _ _ _ _ _ _ _ _ _ refl c.in_ok-take_version.ensures
    (stops_first _ _ _ _ _ _ _ _ refl c.in_err-_serial.ensures)))

pub returns-in_err-take_algorithm : goal.returns-in_err-take_algorithm
unfolding tbs_certificate
returns-in_err-take_algorithm g c = takes_err _ _ _ _ _ _ _ _ _ c.from_residual-in_err-take_algorithm.ensures.1
    (refuses_inside _ _ _ _ _ _ _ _ _ _ refl c.in_ok-enter_counted.ensures.place c.in_ok-enter_counted.ensures.ticks
    (stops_later _ _ _ _ _ _ _ _ _ _ _ _ refl c.in_ok-take_version.ensures
    (stops_later _ _ _ _ _ _ _ _ _ _ _ _ refl c.in_ok-_serial.ensures
    (stops_first _ _ _ _ _ _ _ _ refl
    (refuses_in _ algorithm _ _ _ _ _ (c.in_ok-_serial.ensures.takes.mode ∙ c.in_ok-take_version.ensures.takes.mode ∙ c.in_ok-enter_counted.ensures.place.mode) c.in_err-take_algorithm.ensures)))))

pub returns-in_err-_issuer : goal.returns-in_err-_issuer
unfolding tbs_certificate
returns-in_err-_issuer g c = takes_err _ _ _ _ _ _ _ _ _ c.from_residual-in_err-_issuer.ensures.1
    (refuses_inside _ _ _ _ _ _ _ _ _ _ refl c.in_ok-enter_counted.ensures.place c.in_ok-enter_counted.ensures.ticks
    (stops_later _ _ _ _ _ _ _ _ _ _ _ _ refl c.in_ok-take_version.ensures
    (stops_later _ _ _ _ _ _ _ _ _ _ _ _ refl c.in_ok-_serial.ensures
    (stops_later _ _ _ _ _ _ _ _ _ _ _ _ refl
    (takes_in _ algorithm _ _ _ _ _ _ (c.in_ok-_serial.ensures.takes.mode ∙ c.in_ok-take_version.ensures.takes.mode ∙ c.in_ok-enter_counted.ensures.place.mode) c.in_ok-take_algorithm.ensures)
    (stops_first _ _ _ _ _ _ _ _ refl c.in_err-_issuer.ensures)))))

pub returns-in_err-_validity : goal.returns-in_err-_validity
unfolding tbs_certificate
returns-in_err-_validity g c = takes_err _ _ _ _ _ _ _ _ _ c.from_residual-in_err-_validity.ensures.1
    (refuses_inside _ _ _ _ _ _ _ _ _ _ refl c.in_ok-enter_counted.ensures.place c.in_ok-enter_counted.ensures.ticks
    (stops_later _ _ _ _ _ _ _ _ _ _ _ _ refl c.in_ok-take_version.ensures
    (stops_later _ _ _ _ _ _ _ _ _ _ _ _ refl c.in_ok-_serial.ensures
    (stops_later _ _ _ _ _ _ _ _ _ _ _ _ refl
    (takes_in _ algorithm _ _ _ _ _ _ (c.in_ok-_serial.ensures.takes.mode ∙ c.in_ok-take_version.ensures.takes.mode ∙ c.in_ok-enter_counted.ensures.place.mode) c.in_ok-take_algorithm.ensures)
    (stops_later _ _ _ _ _ _ _ _ _ _ _ _ refl c.in_ok-_issuer.ensures
    (stops_first _ _ _ _ _ _ _ _ refl c.in_err-_validity.ensures))))))

pub returns-in_err-_subject : goal.returns-in_err-_subject
unfolding tbs_certificate
returns-in_err-_subject g c = takes_err _ _ _ _ _ _ _ _ _ c.from_residual-in_err-_subject.ensures.1
    (refuses_inside _ _ _ _ _ _ _ _ _ _ refl c.in_ok-enter_counted.ensures.place c.in_ok-enter_counted.ensures.ticks
    (stops_later _ _ _ _ _ _ _ _ _ _ _ _ refl c.in_ok-take_version.ensures
    (stops_later _ _ _ _ _ _ _ _ _ _ _ _ refl c.in_ok-_serial.ensures
    (stops_later _ _ _ _ _ _ _ _ _ _ _ _ refl
    (takes_in _ algorithm _ _ _ _ _ _ (c.in_ok-_serial.ensures.takes.mode ∙ c.in_ok-take_version.ensures.takes.mode ∙ c.in_ok-enter_counted.ensures.place.mode) c.in_ok-take_algorithm.ensures)
    (stops_later _ _ _ _ _ _ _ _ _ _ _ _ refl c.in_ok-_issuer.ensures
    (stops_later _ _ _ _ _ _ _ _ _ _ _ _ refl c.in_ok-_validity.ensures
    (stops_first _ _ _ _ _ _ _ _ refl c.in_err-_subject.ensures)))))))

pub returns-in_err-key : goal.returns-in_err-key
unfolding tbs_certificate
returns-in_err-key g c = takes_err _ _ _ _ _ _ _ _ _ c.from_residual-in_err-key.ensures.1
    (refuses_inside _ _ _ _ _ _ _ _ _ _ refl c.in_ok-enter_counted.ensures.place c.in_ok-enter_counted.ensures.ticks
    (stops_later _ _ _ _ _ _ _ _ _ _ _ _ refl c.in_ok-take_version.ensures
    (stops_later _ _ _ _ _ _ _ _ _ _ _ _ refl c.in_ok-_serial.ensures
    (stops_later _ _ _ _ _ _ _ _ _ _ _ _ refl
    (takes_in _ algorithm _ _ _ _ _ _ (c.in_ok-_serial.ensures.takes.mode ∙ c.in_ok-take_version.ensures.takes.mode ∙ c.in_ok-enter_counted.ensures.place.mode) c.in_ok-take_algorithm.ensures)
    (stops_later _ _ _ _ _ _ _ _ _ _ _ _ refl c.in_ok-_issuer.ensures
    (stops_later _ _ _ _ _ _ _ _ _ _ _ _ refl c.in_ok-_validity.ensures
    (stops_later _ _ _ _ _ _ _ _ _ _ _ _ refl c.in_ok-_subject.ensures
    (stops_first _ _ _ _ _ _ _ _ refl c.in_err-key.ensures))))))))

pub returns-in_err-pass_extensions : goal.returns-in_err-pass_extensions
unfolding tbs_certificate
returns-in_err-pass_extensions g c = takes_err _ _ _ _ _ _ _ _ _ c.from_residual-in_err-pass_extensions.ensures.1
    (refuses_inside _ _ _ _ _ _ _ _ _ _ refl c.in_ok-enter_counted.ensures.place c.in_ok-enter_counted.ensures.ticks
    (stops_later _ _ _ _ _ _ _ _ _ _ _ _ refl c.in_ok-take_version.ensures
    (stops_later _ _ _ _ _ _ _ _ _ _ _ _ refl c.in_ok-_serial.ensures
    (stops_later _ _ _ _ _ _ _ _ _ _ _ _ refl
    (takes_in _ algorithm _ _ _ _ _ _ (c.in_ok-_serial.ensures.takes.mode ∙ c.in_ok-take_version.ensures.takes.mode ∙ c.in_ok-enter_counted.ensures.place.mode) c.in_ok-take_algorithm.ensures)
    (stops_later _ _ _ _ _ _ _ _ _ _ _ _ refl c.in_ok-_issuer.ensures
    (stops_later _ _ _ _ _ _ _ _ _ _ _ _ refl c.in_ok-_validity.ensures
    (stops_later _ _ _ _ _ _ _ _ _ _ _ _ refl c.in_ok-_subject.ensures
    (stops_later _ _ _ _ _ _ _ _ _ _ _ _ refl c.in_ok-key.ensures
    (stops_first _ _ _ _ _ _ _ _ refl
    (refuses_in _ (λ m. wrapped (context 3) (unread_extensions m)) _ _ _ _ _ (c.in_ok-key.ensures.takes.mode ∙ c.in_ok-_subject.ensures.takes.mode ∙ c.in_ok-_validity.ensures.takes.mode
    ∙ c.in_ok-_issuer.ensures.takes.mode ∙ c.in_ok-take_algorithm.ensures.takes.mode ∙ c.in_ok-_serial.ensures.takes.mode ∙ c.in_ok-take_version.ensures.takes.mode
    ∙ c.in_ok-enter_counted.ensures.place.mode) c.in_err-pass_extensions.ensures))))))))))

pub returns-in_err-leave_counted : goal.returns-in_err-leave_counted
unfolding tbs_certificate
returns-in_err-leave_counted g c = takes_err _ _ _ _ _ _ _ _ _ c.from_residual-in_err-leave_counted.ensures.1
    (refuses_inside _ _ _ _ _ _ _ _ _ _ refl c.in_ok-enter_counted.ensures.place c.in_ok-enter_counted.ensures.ticks
    (stops_later _ _ _ _ _ _ _ _ _ _ _ _ refl c.in_ok-take_version.ensures
    (stops_later _ _ _ _ _ _ _ _ _ _ _ _ refl c.in_ok-_serial.ensures
    (stops_later _ _ _ _ _ _ _ _ _ _ _ _ refl
    (takes_in _ algorithm _ _ _ _ _ _ (c.in_ok-_serial.ensures.takes.mode ∙ c.in_ok-take_version.ensures.takes.mode ∙ c.in_ok-enter_counted.ensures.place.mode) c.in_ok-take_algorithm.ensures)
    (stops_later _ _ _ _ _ _ _ _ _ _ _ _ refl c.in_ok-_issuer.ensures
    (stops_later _ _ _ _ _ _ _ _ _ _ _ _ refl c.in_ok-_validity.ensures
    (stops_later _ _ _ _ _ _ _ _ _ _ _ _ refl c.in_ok-_subject.ensures
    (stops_later _ _ _ _ _ _ _ _ _ _ _ _ refl c.in_ok-key.ensures
    (stops_later _ _ _ _ _ _ _ _ _ _ _ _ refl
    (takes_in _ (λ m. wrapped (context 3) (unread_extensions m)) _ _ _ _ _ _ (c.in_ok-key.ensures.takes.mode ∙ c.in_ok-_subject.ensures.takes.mode ∙ c.in_ok-_validity.ensures.takes.mode
    ∙ c.in_ok-_issuer.ensures.takes.mode ∙ c.in_ok-take_algorithm.ensures.takes.mode ∙ c.in_ok-_serial.ensures.takes.mode ∙ c.in_ok-take_version.ensures.takes.mode
    ∙ c.in_ok-enter_counted.ensures.place.mode) c.in_ok-pass_extensions.ensures)
    (stops_done _ _ _ _ _ _ c.in_err-leave_counted.ensures.place c.in_err-leave_counted.ensures.refused))))))))))

pub returns : goal.returns
unfolding tbs_certificate
returns g c = takes_within _ _ _ _ _ _ _ _ _ _ _ refl c.in_ok-enter_counted.ensures.place c.in_ok-enter_counted.ensures.ticks
    (reads_first _ _ _ _ _ _ _ _ _ _ _ _ _ refl c.in_ok-take_version.ensures
    (reads_first _ _ _ _ _ _ _ _ _ _ _ _ _ refl c.in_ok-_serial.ensures
    (reads_first _ _ _ _ _ _ _ _ _ _ _ _ _ refl
    (takes_in _ algorithm _ _ _ _ _ _ (c.in_ok-_serial.ensures.takes.mode ∙ c.in_ok-take_version.ensures.takes.mode ∙ c.in_ok-enter_counted.ensures.place.mode) c.in_ok-take_algorithm.ensures)
    (reads_first _ _ _ _ _ _ _ _ _ _ _ _ _ refl c.in_ok-_issuer.ensures
    (reads_first _ _ _ _ _ _ _ _ _ _ _ _ _ refl c.in_ok-_validity.ensures
    (reads_first _ _ _ _ _ _ _ _ _ _ _ _ _ refl c.in_ok-_subject.ensures
    (reads_first _ _ _ _ _ _ _ _ _ _ _ _ _ refl c.in_ok-key.ensures
    (reads_first _ _ _ _ _ _ _ _ _ _ _ _ _ refl
    (takes_in _ (λ m. wrapped (context 3) (unread_extensions m)) _ _ _ _ _ _ (c.in_ok-key.ensures.takes.mode ∙ c.in_ok-_subject.ensures.takes.mode ∙ c.in_ok-_validity.ensures.takes.mode
    ∙ c.in_ok-_issuer.ensures.takes.mode ∙ c.in_ok-take_algorithm.ensures.takes.mode ∙ c.in_ok-_serial.ensures.takes.mode ∙ c.in_ok-take_version.ensures.takes.mode
    ∙ c.in_ok-enter_counted.ensures.place.mode) c.in_ok-pass_extensions.ensures)
    (reads_done _ _ _ _ _ _ refl c.in_ok-leave_counted.ensures.place c.in_ok-leave_counted.ensures.ticks)))))))))
