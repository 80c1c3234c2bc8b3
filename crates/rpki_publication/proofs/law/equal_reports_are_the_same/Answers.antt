use Rattle.std.proofs.Common.{refl}
use Rattle.rpki_common.proofs.Truths.{both, are_true}
use Rattle.rpki_publication.proofs.Equal.{options_same, texts_same, report_is}
use Rattle.rpki_publication.proofs.law.equal_reports_are_the_same.Goals as goal

pub returns : goal.returns
returns c = λ a b. (
  λ e.
      let p = both _ _ e in
      let q = both _ _ p.1 in
      let r = both _ _ q.1 in
      report_is a b ((c.equal_values_are_the_same.ensures.code a.error_code b.error_code).0 p.0) ((texts_same a.tag b.tag).0 q.0) ((texts_same a.error_text b.error_text).0 r.0)
      ((options_same _ c.equal_values_are_the_same.ensures.pdu a.failed_pdu b.failed_pdu).0 r.1),
  λ e.
      rw e
      (are_true _ _ ((c.equal_values_are_the_same.ensures.code b.error_code b.error_code).1 refl)
      (are_true _ _ ((texts_same b.tag b.tag).1 refl)
      (are_true _ _ ((texts_same b.error_text b.error_text).1 refl) ((options_same _ c.equal_values_are_the_same.ensures.pdu b.failed_pdu b.failed_pdu).1 refl)))),
)
