use Rattle.std.proofs.Common.{rules, ◌≡◌, true, false, refl}
use Rattle.std.specs.Prelude.{bytes_eq}
use Rattle.rpki_sigmsg.specs.ObjectIdentifiers.{signing_time, binary_signing_time}
use Rattle.rpki_der.proofs.Leftovers.{takes_rest_err, reads_as, stops_as, reads_bind, stops_bind}
use Rattle.rpki_sigmsg.proofs.Adding.{add_signing_time, add_binary_time, add_no_time}
use Rattle.rpki_sigmsg.proofs.attributes.finish_time.Goals as goal

pub returns-in_err-signing : goal.returns-in_err-signing
returns-in_err-signing g c =
    let t0 : bytes_eq c.args.kind.now signing_time ≡ true = search rules in
    takes_rest_err _ _ _ _ _ _ _ _ _ _ c.from_residual.ensures.1 (stops_as _ _ _ _ _ _ _ _ (λ vs. add_signing_time (c.args.found.signing, c.args.found.binary) _ vs t0) (stops_bind _ _ _ _ _ _ _ _ c.in_err-signing.ensures))

pub returns-in_ok-signing : goal.returns-in_ok-signing
returns-in_ok-signing g c =
    let t0 : bytes_eq c.args.kind.now signing_time ≡ true = search rules in
    reads_as _ _ _ _ _ _ _ _ _ (λ vs. add_signing_time (c.args.found.signing, c.args.found.binary) _ vs t0) (reads_bind _ _ _ _ _ _ _ _ _ _ c.in_ok-signing.ensures refl)

pub returns-in_err-binary : goal.returns-in_err-binary
returns-in_err-binary g c =
    let t0 : bytes_eq c.args.kind.now binary_signing_time ≡ true = search rules in
    takes_rest_err _ _ _ _ _ _ _ _ _ _ c.from_residual-in_err-binary.ensures.1 (stops_as _ _ _ _ _ _ _ _ (λ vs. add_binary_time (c.args.found.signing, c.args.found.binary) _ vs t0) (stops_bind _ _ _ _ _ _ _ _ c.in_err-binary.ensures))

pub returns-in_ok-binary : goal.returns-in_ok-binary
returns-in_ok-binary g c =
    let t0 : bytes_eq c.args.kind.now binary_signing_time ≡ true = search rules in
    reads_as _ _ _ _ _ _ _ _ _ (λ vs. add_binary_time (c.args.found.signing, c.args.found.binary) _ vs t0) (reads_bind _ _ _ _ _ _ _ _ _ _ c.in_ok-binary.ensures refl)

pub returns-in_err-pass_rest_counted : goal.returns-in_err-pass_rest_counted
returns-in_err-pass_rest_counted g c =
    let t0 : bytes_eq c.args.kind.now signing_time ≡ false = search rules in
    let t1 : bytes_eq c.args.kind.now binary_signing_time ≡ false = search rules in
    takes_rest_err _ _ _ _ _ _ _ _ _ _ c.from_residual-in_err-pass_rest_counted.ensures.1 (stops_as _ _ _ _ _ _ _ _ (λ vs. add_no_time (c.args.found.signing, c.args.found.binary) _ vs t0 t1) (stops_bind _ _ _ _ _ _ _ _ c.in_err-pass_rest_counted.ensures))

pub returns-in_ok-pass_rest_counted : goal.returns-in_ok-pass_rest_counted
returns-in_ok-pass_rest_counted g c =
    let t0 : bytes_eq c.args.kind.now signing_time ≡ false = search rules in
    let t1 : bytes_eq c.args.kind.now binary_signing_time ≡ false = search rules in
    reads_as _ _ _ _ _ _ _ _ _ (λ vs. add_no_time (c.args.found.signing, c.args.found.binary) _ vs t0 t1) (reads_bind _ _ _ _ _ _ _ _ _ _ c.in_ok-pass_rest_counted.ensures refl)
