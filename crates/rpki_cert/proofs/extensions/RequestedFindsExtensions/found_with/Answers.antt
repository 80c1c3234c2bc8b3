use Rattle.std.proofs.Common.{rules, ◌≡◌, true, false, refl}
use Rattle.std.specs.Prelude.{bytes_eq}
use Rattle.rpki_base.specs.ObjectIdentifiers.{basic_constraints as basic_name}
use Rattle.rpki_cert.specs.ObjectIdentifiers as names
use Rattle.rpki_der.proofs.Insides.{gives_counted_err}
use Rattle.rpki_der.proofs.Giving.{given_as, lacks_as, given_bind, lacks_bind}
use Rattle.rpki_cert.proofs.Captured.{lacks_at_once}
use Rattle.rpki_cert.proofs.Gathering.{add_authority, add_usage, add_purposes, add_access, add_other}
use Rattle.rpki_cert.proofs.extensions.RequestedFindsExtensions.found_with.Goals as goal
use Rattle.rpki_cert.proofs.extensions.RequestedFindsExtensions.found_with.Goals.{then-eq+in_ok-basic_ca, else-eq+then-eq-2+in_ok-key_usage, else-eq+else-eq-2+then-eq-3+in_ok-extended_key_usage, else-eq+else-eq-2+else-eq-3+then-eq-4+in_ok-access}

pub returns-in_err-basic_ca : goal.returns-in_err-basic_ca
returns-in_err-basic_ca g c =
    let t : bytes_eq c.args.extension.now.identifier basic_name ≡ true = search rules in
    rw (← c.self.view_is) (gives_counted_err _ _ _ _ _ _ _ _ c.from_residual.ensures.1 (lacks_as _ _ _ _ _ _ _ (add_authority (tt, (c.self.inside.basic_ca, (c.self.inside.key_usage, (c.self.inside.extended_key_usage, c.self.inside.access)))) c.args.extension.now t) (lacks_bind _ _ _ _ _ _ _ (rw c.held-value.ensures at c.in_err-basic_ca.ensures))))

pub returns-in_err-key_usage : goal.returns-in_err-key_usage
returns-in_err-key_usage g c =
    let t : bytes_eq c.args.extension.now.identifier names.key_usage ≡ true = search rules in
    rw (← c.self.view_is) (gives_counted_err _ _ _ _ _ _ _ _ c.from_residual-in_err-key_usage.ensures.1 (lacks_as _ _ _ _ _ _ _ (add_usage (tt, (c.self.inside.basic_ca, (c.self.inside.key_usage, (c.self.inside.extended_key_usage, c.self.inside.access)))) c.args.extension.now t) (lacks_bind _ _ _ _ _ _ _ (rw c.held-value.ensures at c.in_err-key_usage.ensures))))

pub returns-in_err-extended_key_usage : goal.returns-in_err-extended_key_usage
returns-in_err-extended_key_usage g c =
    let t : bytes_eq c.args.extension.now.identifier names.extended_key_usage ≡ true = search rules in
    rw (← c.self.view_is) (gives_counted_err _ _ _ _ _ _ _ _ c.from_residual-in_err-extended_key_usage.ensures.1 (lacks_as _ _ _ _ _ _ _ (add_purposes (tt, (c.self.inside.basic_ca, (c.self.inside.key_usage, (c.self.inside.extended_key_usage, c.self.inside.access)))) c.args.extension.now t) (lacks_bind _ _ _ _ _ _ _ (rw c.held-value.ensures at c.in_err-extended_key_usage.ensures))))

pub returns-in_err-access : goal.returns-in_err-access
returns-in_err-access g c =
    let t : bytes_eq c.args.extension.now.identifier names.subject_info_access ≡ true = search rules in
    rw (← c.self.view_is) (gives_counted_err _ _ _ _ _ _ _ _ c.from_residual-in_err-access.ensures.1 (lacks_as _ _ _ _ _ _ _ (add_access (tt, (c.self.inside.basic_ca, (c.self.inside.key_usage, (c.self.inside.extended_key_usage, c.self.inside.access)))) c.args.extension.now t) (lacks_bind _ _ _ _ _ _ _ (rw c.held-value.ensures at c.in_err-access.ensures))))

pub returns-else-eq-4 : goal.returns-else-eq-4
returns-else-eq-4 g c =
    let a : bytes_eq c.args.extension.now.identifier basic_name ≡ false = search rules in
    let b : bytes_eq c.args.extension.now.identifier names.key_usage ≡ false = search rules in
    let d : bytes_eq c.args.extension.now.identifier names.extended_key_usage ≡ false = search rules in
    let e : bytes_eq c.args.extension.now.identifier names.subject_info_access ≡ false = search rules in
    rw (← c.self.view_is) (lacks_at_once _ _ _ _ (add_other (tt, (c.self.inside.basic_ca, (c.self.inside.key_usage, (c.self.inside.extended_key_usage, c.self.inside.access)))) c.args.extension.now a b d e))

pub returns : goal.returns
returns g c = elim c.if-eq.branch [
  | then-eq+in_ok-basic_ca w ↦
      let t : bytes_eq c.args.extension.now.identifier basic_name ≡ true = search rules in
      rw (w.steps-is, w.basic_ca-is, w.key_usage-is, w.extended_key_usage-is, w.access-is, ← c.self.view_is) (given_as _ _ _ _ _ _ _ (add_authority (tt, (c.self.inside.basic_ca, (c.self.inside.key_usage, (c.self.inside.extended_key_usage, c.self.inside.access)))) c.args.extension.now t) (given_bind _ _ _ _ _ _ _ _ (rw c.held-value.ensures at w.in_ok-basic_ca.ensures) refl))
  | else-eq+then-eq-2+in_ok-key_usage w ↦
      let t : bytes_eq c.args.extension.now.identifier names.key_usage ≡ true = search rules in
      rw (w.steps-is, w.basic_ca-is, w.key_usage-is, w.extended_key_usage-is, w.access-is, ← c.self.view_is) (given_as _ _ _ _ _ _ _ (add_usage (tt, (c.self.inside.basic_ca, (c.self.inside.key_usage, (c.self.inside.extended_key_usage, c.self.inside.access)))) c.args.extension.now t) (given_bind _ _ _ _ _ _ _ _ (rw c.held-value.ensures at w.in_ok-key_usage.ensures) refl))
  | else-eq+else-eq-2+then-eq-3+in_ok-extended_key_usage w ↦
      let t : bytes_eq c.args.extension.now.identifier names.extended_key_usage ≡ true = search rules in
      rw (w.steps-is, w.basic_ca-is, w.key_usage-is, w.extended_key_usage-is, w.access-is, ← c.self.view_is) (given_as _ _ _ _ _ _ _ (add_purposes (tt, (c.self.inside.basic_ca, (c.self.inside.key_usage, (c.self.inside.extended_key_usage, c.self.inside.access)))) c.args.extension.now t) (given_bind _ _ _ _ _ _ _ _ (rw c.held-value.ensures at w.in_ok-extended_key_usage.ensures) refl))
  | else-eq+else-eq-2+else-eq-3+then-eq-4+in_ok-access w ↦
      let t : bytes_eq c.args.extension.now.identifier names.subject_info_access ≡ true = search rules in
      rw (w.steps-is, w.basic_ca-is, w.key_usage-is, w.extended_key_usage-is, w.access-is, ← c.self.view_is) (given_as _ _ _ _ _ _ _ (add_access (tt, (c.self.inside.basic_ca, (c.self.inside.key_usage, (c.self.inside.extended_key_usage, c.self.inside.access)))) c.args.extension.now t) (given_bind _ _ _ _ _ _ _ _ (rw c.held-value.ensures at w.in_ok-access.ensures) refl))
]
