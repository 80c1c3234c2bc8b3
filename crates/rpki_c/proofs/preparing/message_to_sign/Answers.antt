use Rattle.std.proofs.Common.{◌∙◌, Ok, inl, inr, ap, refl, List, ℕ}
use Rattle.std.proofs.lemmas.Result.{err_from_is_err_and}
use Rattle.rpki_sigmsg.specs.Making.{UnsignedFields}
use Rattle.rpki_external.specs.Making.{unsigned}
use Rattle.rpki_external.specs.Records.{records_of}
use Rattle.rpki_c.specs.Records.{unsigned_records}
use Rattle.rpki_c.proofs.preparing.message_to_sign.Goals as goal

pub returns-in_err-unsigned-clause-err : goal.returns-in_err-unsigned-clause-err
returns-in_err-unsigned-clause-err c =
    let p = err_from_is_err_and c.from_residual-in_err-unsigned.result c.from_residual-in_err-unsigned.ensures.1 in
    let fails = rw c.in_ok-to_xml_bytes.ensures at c.in_err-unsigned.ensures.err in
    rw (p.1, p.2) (λ other. inl (inr (record { message = c.in_ok-message.message; reads = c.in_ok-message.ensures.ok; error = c.in_err-unsigned.field-0.0; fails_so = fails; is = refl })))

pub returns-clause-ok : goal.returns-clause-ok
returns-clause-ok c =
    let can = rw c.in_ok-to_xml_bytes.ensures at c.in_ok-unsigned.ensures.can in
    let made = c.in_ok-unsigned.ensures.prepared ∙ ap (λ (t : List ℕ). unsigned t c.args.plan.now) c.in_ok-to_xml_bytes.ensures in
    inr (record {
      message = c.in_ok-message.message;
      reads = c.in_ok-message.ensures.ok;
      answered = (can, ap Ok (c.in_ok-message_records.ensures ∙ ap (λ (u : UnsignedFields). records_of (unsigned_records u)) made));
    })
