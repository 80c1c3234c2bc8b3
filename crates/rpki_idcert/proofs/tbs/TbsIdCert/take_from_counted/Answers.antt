-- by tools/proofs/answers.py rpki_idcert tbs TbsIdCert.take_from_counted TbsIdCert tbs_certificate enter_counted take_version serial
--     take_algorithm@rpki_base.specs.RpkiSignatureAlgorithm.algorithm=algorithm issuer validity subject key
--     'known@rpki_der.specs.Grammar.wrapped+rpki_der.specs.Tags.context+rpki_idcert.specs.Extensions.extension_list=(λ m. wrapped (context 3) (extension_list m))' leave_counted =parts-subject_key_id
use Rattle.std.proofs.Common.{refl, ◌∙◌}
use Rattle.rpki_base.specs.RpkiSignatureAlgorithm.{algorithm}
use Rattle.rpki_der.proofs.Counting.{reads_done, reads_first, refuses_inside, refuses_within, stops_done, stops_first, stops_later, takes_err, takes_within}
use Rattle.rpki_der.proofs.Modes.{refuses_in, takes_in}
use Rattle.rpki_der.specs.Grammar.{wrapped}
use Rattle.rpki_der.specs.Tags.{context}
use Rattle.rpki_idcert.specs.Extensions.{extension_list}
use Rattle.rpki_idcert.specs.TbsIdCert.{tbs_certificate}
use Rattle.rpki_idcert.proofs.tbs.TbsIdCert.take_from_counted.Goals as goal

pub returns-in_err-enter_counted : goal.returns-in_err-enter_counted
unfolding tbs_certificate
returns-in_err-enter_counted g c = takes_err _ _ _ _ _ _ _ _ _ c.from_residual.ensures.1
    (refuses_within _ _ _ c.args.cursor.now _ _ _ c.in_err-enter_counted.ensures.place c.in_err-enter_counted.ensures.ticks)

pub returns-in_err-take_version : goal.returns-in_err-take_version
unfolding tbs_certificate
returns-in_err-take_version g c = takes_err _ _ _ _ _ _ _ _ _ c.from_residual-in_err-take_version.ensures.1
    (refuses_inside _ _ _ _ _ _ _ _ _ _ refl c.in_ok-enter_counted.ensures.place c.in_ok-enter_counted.ensures.ticks
    (stops_first _ _ _ _ _ _ _ _ refl c.in_err-take_version.ensures))

pub returns-in_err-serial : goal.returns-in_err-serial
unfolding tbs_certificate
returns-in_err-serial g c = takes_err _ _ _ _ _ _ _ _ _ c.from_residual-in_err-serial.ensures.1
    (refuses_inside _ _ _ _ _ _ _ _ _ _ refl c.in_ok-enter_counted.ensures.place c.in_ok-enter_counted.ensures.ticks
    (stops_later _ _ _ _ _ _ _ _ _ _ _ _ refl c.in_ok-take_version.ensures
    (stops_first _ _ _ _ _ _ _ _ refl c.in_err-serial.ensures)))

pub returns-in_err-take_algorithm : goal.returns-in_err-take_algorithm
unfolding tbs_certificate
returns-in_err-take_algorithm g c = takes_err _ _ _ _ _ _ _ _ _ c.from_residual-in_err-take_algorithm.ensures.1
    (refuses_inside _ _ _ _ _ _ _ _ _ _ refl c.in_ok-enter_counted.ensures.place c.in_ok-enter_counted.ensures.ticks
    (stops_later _ _ _ _ _ _ _ _ _ _ _ _ refl c.in_ok-take_version.ensures
    (stops_later _ _ _ _ _ _ _ _ _ _ _ _ refl c.in_ok-serial.ensures
    (stops_first _ _ _ _ _ _ _ _ refl
    (refuses_in _ algorithm _ _ _ _ _ (c.in_ok-serial.ensures.takes.mode ∙ c.in_ok-take_version.ensures.takes.mode ∙ c.in_ok-enter_counted.ensures.place.mode) c.in_err-take_algorithm.ensures)))))

pub returns-in_err-issuer : goal.returns-in_err-issuer
unfolding tbs_certificate
returns-in_err-issuer g c = takes_err _ _ _ _ _ _ _ _ _ c.from_residual-in_err-issuer.ensures.1
    (refuses_inside _ _ _ _ _ _ _ _ _ _ refl c.in_ok-enter_counted.ensures.place c.in_ok-enter_counted.ensures.ticks
    (stops_later _ _ _ _ _ _ _ _ _ _ _ _ refl c.in_ok-take_version.ensures
    (stops_later _ _ _ _ _ _ _ _ _ _ _ _ refl c.in_ok-serial.ensures
    (stops_later _ _ _ _ _ _ _ _ _ _ _ _ refl
    (takes_in _ algorithm _ _ _ _ _ _ (c.in_ok-serial.ensures.takes.mode ∙ c.in_ok-take_version.ensures.takes.mode ∙ c.in_ok-enter_counted.ensures.place.mode) c.in_ok-take_algorithm.ensures)
    (stops_first _ _ _ _ _ _ _ _ refl c.in_err-issuer.ensures)))))

pub returns-in_err-validity : goal.returns-in_err-validity
unfolding tbs_certificate
returns-in_err-validity g c = takes_err _ _ _ _ _ _ _ _ _ c.from_residual-in_err-validity.ensures.1
    (refuses_inside _ _ _ _ _ _ _ _ _ _ refl c.in_ok-enter_counted.ensures.place c.in_ok-enter_counted.ensures.ticks
    (stops_later _ _ _ _ _ _ _ _ _ _ _ _ refl c.in_ok-take_version.ensures
    (stops_later _ _ _ _ _ _ _ _ _ _ _ _ refl c.in_ok-serial.ensures
    (stops_later _ _ _ _ _ _ _ _ _ _ _ _ refl
    (takes_in _ algorithm _ _ _ _ _ _ (c.in_ok-serial.ensures.takes.mode ∙ c.in_ok-take_version.ensures.takes.mode ∙ c.in_ok-enter_counted.ensures.place.mode) c.in_ok-take_algorithm.ensures)
    (stops_later _ _ _ _ _ _ _ _ _ _ _ _ refl c.in_ok-issuer.ensures
    (stops_first _ _ _ _ _ _ _ _ refl c.in_err-validity.ensures))))))

pub returns-in_err-subject : goal.returns-in_err-subject
unfolding tbs_certificate
returns-in_err-subject g c = takes_err _ _ _ _ _ _ _ _ _ c.from_residual-in_err-subject.ensures.1
    (refuses_inside _ _ _ _ _ _ _ _ _ _ refl c.in_ok-enter_counted.ensures.place c.in_ok-enter_counted.ensures.ticks
    (stops_later _ _ _ _ _ _ _ _ _ _ _ _ refl c.in_ok-take_version.ensures
    (stops_later _ _ _ _ _ _ _ _ _ _ _ _ refl c.in_ok-serial.ensures
    (stops_later _ _ _ _ _ _ _ _ _ _ _ _ refl
    (takes_in _ algorithm _ _ _ _ _ _ (c.in_ok-serial.ensures.takes.mode ∙ c.in_ok-take_version.ensures.takes.mode ∙ c.in_ok-enter_counted.ensures.place.mode) c.in_ok-take_algorithm.ensures)
    (stops_later _ _ _ _ _ _ _ _ _ _ _ _ refl c.in_ok-issuer.ensures
    (stops_later _ _ _ _ _ _ _ _ _ _ _ _ refl c.in_ok-validity.ensures
    (stops_first _ _ _ _ _ _ _ _ refl c.in_err-subject.ensures)))))))

pub returns-in_err-key : goal.returns-in_err-key
unfolding tbs_certificate
returns-in_err-key g c = takes_err _ _ _ _ _ _ _ _ _ c.from_residual-in_err-key.ensures.1
    (refuses_inside _ _ _ _ _ _ _ _ _ _ refl c.in_ok-enter_counted.ensures.place c.in_ok-enter_counted.ensures.ticks
    (stops_later _ _ _ _ _ _ _ _ _ _ _ _ refl c.in_ok-take_version.ensures
    (stops_later _ _ _ _ _ _ _ _ _ _ _ _ refl c.in_ok-serial.ensures
    (stops_later _ _ _ _ _ _ _ _ _ _ _ _ refl
    (takes_in _ algorithm _ _ _ _ _ _ (c.in_ok-serial.ensures.takes.mode ∙ c.in_ok-take_version.ensures.takes.mode ∙ c.in_ok-enter_counted.ensures.place.mode) c.in_ok-take_algorithm.ensures)
    (stops_later _ _ _ _ _ _ _ _ _ _ _ _ refl c.in_ok-issuer.ensures
    (stops_later _ _ _ _ _ _ _ _ _ _ _ _ refl c.in_ok-validity.ensures
    (stops_later _ _ _ _ _ _ _ _ _ _ _ _ refl c.in_ok-subject.ensures
    (stops_first _ _ _ _ _ _ _ _ refl c.in_err-key.ensures))))))))

pub returns-in_err-known : goal.returns-in_err-known
unfolding tbs_certificate
returns-in_err-known g c = takes_err _ _ _ _ _ _ _ _ _ c.from_residual-in_err-known.ensures.1
    (refuses_inside _ _ _ _ _ _ _ _ _ _ refl c.in_ok-enter_counted.ensures.place c.in_ok-enter_counted.ensures.ticks
    (stops_later _ _ _ _ _ _ _ _ _ _ _ _ refl c.in_ok-take_version.ensures
    (stops_later _ _ _ _ _ _ _ _ _ _ _ _ refl c.in_ok-serial.ensures
    (stops_later _ _ _ _ _ _ _ _ _ _ _ _ refl
    (takes_in _ algorithm _ _ _ _ _ _ (c.in_ok-serial.ensures.takes.mode ∙ c.in_ok-take_version.ensures.takes.mode ∙ c.in_ok-enter_counted.ensures.place.mode) c.in_ok-take_algorithm.ensures)
    (stops_later _ _ _ _ _ _ _ _ _ _ _ _ refl c.in_ok-issuer.ensures
    (stops_later _ _ _ _ _ _ _ _ _ _ _ _ refl c.in_ok-validity.ensures
    (stops_later _ _ _ _ _ _ _ _ _ _ _ _ refl c.in_ok-subject.ensures
    (stops_later _ _ _ _ _ _ _ _ _ _ _ _ refl c.in_ok-key.ensures
    (stops_first _ _ _ _ _ _ _ _ refl
    (refuses_in _ (λ m. wrapped (context 3) (extension_list m)) _ _ _ _ _ (c.in_ok-key.ensures.takes.mode ∙ c.in_ok-subject.ensures.takes.mode ∙ c.in_ok-validity.ensures.takes.mode
    ∙ c.in_ok-issuer.ensures.takes.mode ∙ c.in_ok-take_algorithm.ensures.takes.mode ∙ c.in_ok-serial.ensures.takes.mode ∙ c.in_ok-take_version.ensures.takes.mode
    ∙ c.in_ok-enter_counted.ensures.place.mode) c.in_err-known.ensures))))))))))

pub returns-in_err-leave_counted : goal.returns-in_err-leave_counted
unfolding tbs_certificate
returns-in_err-leave_counted g c = takes_err _ _ _ _ _ _ _ _ _ c.from_residual-in_err-leave_counted.ensures.1
    (refuses_inside _ _ _ _ _ _ _ _ _ _ refl c.in_ok-enter_counted.ensures.place c.in_ok-enter_counted.ensures.ticks
    (stops_later _ _ _ _ _ _ _ _ _ _ _ _ refl c.in_ok-take_version.ensures
    (stops_later _ _ _ _ _ _ _ _ _ _ _ _ refl c.in_ok-serial.ensures
    (stops_later _ _ _ _ _ _ _ _ _ _ _ _ refl
    (takes_in _ algorithm _ _ _ _ _ _ (c.in_ok-serial.ensures.takes.mode ∙ c.in_ok-take_version.ensures.takes.mode ∙ c.in_ok-enter_counted.ensures.place.mode) c.in_ok-take_algorithm.ensures)
    (stops_later _ _ _ _ _ _ _ _ _ _ _ _ refl c.in_ok-issuer.ensures
    (stops_later _ _ _ _ _ _ _ _ _ _ _ _ refl c.in_ok-validity.ensures
    (stops_later _ _ _ _ _ _ _ _ _ _ _ _ refl c.in_ok-subject.ensures
    (stops_later _ _ _ _ _ _ _ _ _ _ _ _ refl c.in_ok-key.ensures
    (stops_later _ _ _ _ _ _ _ _ _ _ _ _ refl
    (takes_in _ (λ m. wrapped (context 3) (extension_list m)) _ _ _ _ _ _ (c.in_ok-key.ensures.takes.mode ∙ c.in_ok-subject.ensures.takes.mode ∙ c.in_ok-validity.ensures.takes.mode
    ∙ c.in_ok-issuer.ensures.takes.mode ∙ c.in_ok-take_algorithm.ensures.takes.mode ∙ c.in_ok-serial.ensures.takes.mode ∙ c.in_ok-take_version.ensures.takes.mode
    ∙ c.in_ok-enter_counted.ensures.place.mode) c.in_ok-known.ensures)
    (stops_done _ _ _ _ _ _ c.in_err-leave_counted.ensures.place c.in_err-leave_counted.ensures.refused))))))))))

pub returns : goal.returns
unfolding tbs_certificate
returns g c = rw c.parts-subject_key_id.ensures
    (takes_within _ _ _ _ _ _ _ _ _ _ _ refl c.in_ok-enter_counted.ensures.place c.in_ok-enter_counted.ensures.ticks
    (reads_first _ _ _ _ _ _ _ _ _ _ _ _ _ refl c.in_ok-take_version.ensures
    (reads_first _ _ _ _ _ _ _ _ _ _ _ _ _ refl c.in_ok-serial.ensures
    (reads_first _ _ _ _ _ _ _ _ _ _ _ _ _ refl
    (takes_in _ algorithm _ _ _ _ _ _ (c.in_ok-serial.ensures.takes.mode ∙ c.in_ok-take_version.ensures.takes.mode ∙ c.in_ok-enter_counted.ensures.place.mode) c.in_ok-take_algorithm.ensures)
    (reads_first _ _ _ _ _ _ _ _ _ _ _ _ _ refl c.in_ok-issuer.ensures
    (reads_first _ _ _ _ _ _ _ _ _ _ _ _ _ refl c.in_ok-validity.ensures
    (reads_first _ _ _ _ _ _ _ _ _ _ _ _ _ refl c.in_ok-subject.ensures
    (reads_first _ _ _ _ _ _ _ _ _ _ _ _ _ refl c.in_ok-key.ensures
    (reads_first _ _ _ _ _ _ _ _ _ _ _ _ _ refl
    (takes_in _ (λ m. wrapped (context 3) (extension_list m)) _ _ _ _ _ _ (c.in_ok-key.ensures.takes.mode ∙ c.in_ok-subject.ensures.takes.mode ∙ c.in_ok-validity.ensures.takes.mode
    ∙ c.in_ok-issuer.ensures.takes.mode ∙ c.in_ok-take_algorithm.ensures.takes.mode ∙ c.in_ok-serial.ensures.takes.mode ∙ c.in_ok-take_version.ensures.takes.mode
    ∙ c.in_ok-enter_counted.ensures.place.mode) c.in_ok-known.ensures)
    (reads_done _ _ _ _ _ _ refl c.in_ok-leave_counted.ensures.place c.in_ok-leave_counted.ensures.ticks))))))))))
