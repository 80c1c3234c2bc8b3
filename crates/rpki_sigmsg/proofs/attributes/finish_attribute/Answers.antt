use Rattle.std.proofs.Common.{rules, ◌≡◌, true, false, refl}
use Rattle.std.specs.Prelude.{bytes_eq}
use Rattle.rpki_sigmsg.specs.ObjectIdentifiers.{content_type, message_digest}
use Rattle.rpki_sigmsg.specs.Gathered.{shown}
use Rattle.rpki_der.proofs.Leftovers.{takes_rest_err, reads_as, stops_as, reads_bind, stops_bind}
use Rattle.rpki_sigmsg.proofs.Adding.{add_content_type, add_digest, add_times_found}
use Rattle.rpki_sigmsg.proofs.attributes.finish_attribute.Goals as goal
use Rattle.rpki_sigmsg.proofs.attributes.finish_attribute.Goals.{then-eq+in_ok-content_type, else-eq+then-eq-2+in_ok-digest, else-eq+else-eq-2+in_ok-times}

pub returns-in_err-content_type : goal.returns-in_err-content_type
returns-in_err-content_type g c =
    let t0 : bytes_eq c.args.kind.now content_type ≡ true = search rules in
    takes_rest_err _ _ _ _ _ _ _ _ _ _ c.from_residual.ensures.1 (stops_as _ _ _ _ _ _ _ _ (λ vs. add_content_type _ (shown c.args.found) _ vs t0) (stops_bind _ _ _ _ _ _ _ _ c.in_err-content_type.ensures))

pub returns-in_err-digest : goal.returns-in_err-digest
returns-in_err-digest g c =
    let t0 : bytes_eq c.args.kind.now message_digest ≡ true = search rules in
    takes_rest_err _ _ _ _ _ _ _ _ _ _ c.from_residual-in_err-digest.ensures.1 (stops_as _ _ _ _ _ _ _ _ (λ vs. add_digest _ (shown c.args.found) _ vs t0) (stops_bind _ _ _ _ _ _ _ _ c.in_err-digest.ensures))

pub returns-in_err-times : goal.returns-in_err-times
returns-in_err-times g c =
    let t0 : bytes_eq c.args.kind.now content_type ≡ false = search rules in
    let t1 : bytes_eq c.args.kind.now message_digest ≡ false = search rules in
    takes_rest_err _ _ _ _ _ _ _ _ _ _ c.from_residual-in_err-times.ensures.1 (stops_as _ _ _ _ _ _ _ _ (λ vs. add_times_found _ (shown c.args.found) _ vs t0 t1) (stops_bind _ _ _ _ _ _ _ _ c.in_err-times.ensures))

pub returns : goal.returns
returns g c = elim c.if-eq.branch [
  | then-eq+in_ok-content_type w ↦
      let t0 : bytes_eq c.args.kind.now content_type ≡ true = search rules in
      rw (w.cursor-is, w.steps-is, w.content_type-is, w.digest-is, w.times-is) (reads_as _ _ _ _ _ _ _ _ _ (λ vs. add_content_type _ (shown c.args.found) _ vs t0) (reads_bind _ _ _ _ _ _ _ _ _ _ w.in_ok-content_type.ensures refl))
  | else-eq+then-eq-2+in_ok-digest w ↦
      let t0 : bytes_eq c.args.kind.now message_digest ≡ true = search rules in
      rw (w.cursor-is, w.steps-is, w.content_type-is, w.digest-is, w.times-is) (reads_as _ _ _ _ _ _ _ _ _ (λ vs. add_digest _ (shown c.args.found) _ vs t0) (reads_bind _ _ _ _ _ _ _ _ _ _ w.in_ok-digest.ensures refl))
  | else-eq+else-eq-2+in_ok-times w ↦
      let t0 : bytes_eq c.args.kind.now content_type ≡ false = search rules in
      let t1 : bytes_eq c.args.kind.now message_digest ≡ false = search rules in
      rw (w.cursor-is, w.steps-is, w.content_type-is, w.digest-is, w.times-is) (reads_as _ _ _ _ _ _ _ _ _ (λ vs. add_times_found _ (shown c.args.found) _ vs t0 t1) (reads_bind _ _ _ _ _ _ _ _ _ _ w.in_ok-times.ensures refl))
]
