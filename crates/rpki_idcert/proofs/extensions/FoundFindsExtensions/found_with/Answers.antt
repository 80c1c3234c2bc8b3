use Rattle.std.proofs.Common.{rules, ◌≡◌, true, false, refl}
use Rattle.std.specs.Prelude.{bytes_eq}
use Rattle.rpki_base.specs.ObjectIdentifiers.{subject_key_identifier, basic_constraints as basic_name, authority_key_identifier}
use Rattle.rpki_der.proofs.Insides.{gives_counted_err}
use Rattle.rpki_der.proofs.Giving.{given_as, lacks_as, given_bind, lacks_bind, given_at_once}
use Rattle.rpki_idcert.proofs.Gathering.{add_subject, add_ca, add_authority, add_other}
use Rattle.rpki_idcert.proofs.extensions.FoundFindsExtensions.found_with.Goals as goal
use Rattle.rpki_idcert.proofs.extensions.FoundFindsExtensions.found_with.Goals.{then-eq+in_ok-subject, else-eq+then-eq-2+in_ok-basic_ca, else-eq+else-eq-2+then-eq-3+in_ok-authority, else-eq+else-eq-2+else-eq-3}

pub returns-in_err-subject : goal.returns-in_err-subject
returns-in_err-subject g c =
    let t : bytes_eq c.args.extension.now.identifier subject_key_identifier ≡ true = search rules in
    rw (← c.self.view_is) (gives_counted_err _ _ _ _ _ _ _ _ c.from_residual.ensures.1 (lacks_as _ _ _ _ _ _ _ (add_subject (c.self.inside.subject, (c.self.inside.basic_ca, c.self.inside.authority)) c.args.extension.now t) (lacks_bind _ _ _ _ _ _ _ (rw c.held-value.ensures at c.in_err-subject.ensures))))

pub returns-in_err-basic_ca : goal.returns-in_err-basic_ca
returns-in_err-basic_ca g c =
    let t : bytes_eq c.args.extension.now.identifier basic_name ≡ true = search rules in
    rw (← c.self.view_is) (gives_counted_err _ _ _ _ _ _ _ _ c.from_residual-in_err-basic_ca.ensures.1 (lacks_as _ _ _ _ _ _ _ (add_ca (c.self.inside.subject, (c.self.inside.basic_ca, c.self.inside.authority)) c.args.extension.now t) (lacks_bind _ _ _ _ _ _ _ (rw c.held-value.ensures at c.in_err-basic_ca.ensures))))

pub returns-in_err-authority : goal.returns-in_err-authority
returns-in_err-authority g c =
    let t : bytes_eq c.args.extension.now.identifier authority_key_identifier ≡ true = search rules in
    rw (← c.self.view_is) (gives_counted_err _ _ _ _ _ _ _ _ c.from_residual-in_err-authority.ensures.1 (lacks_as _ _ _ _ _ _ _ (add_authority (c.self.inside.subject, (c.self.inside.basic_ca, c.self.inside.authority)) c.args.extension.now t) (lacks_bind _ _ _ _ _ _ _ (rw c.held-value.ensures at c.in_err-authority.ensures))))

pub returns : goal.returns
returns g c = elim c.if-eq.branch [
  | then-eq+in_ok-subject w ↦
      let t : bytes_eq c.args.extension.now.identifier subject_key_identifier ≡ true = search rules in
      rw (w.steps-is, w.subject-is, w.basic_ca-is, w.authority-is, ← c.self.view_is) (given_as _ _ _ _ _ _ _ (add_subject (c.self.inside.subject, (c.self.inside.basic_ca, c.self.inside.authority)) c.args.extension.now t) (given_bind _ _ _ _ _ _ _ _ (rw c.held-value.ensures at w.in_ok-subject.ensures) refl))
  | else-eq+then-eq-2+in_ok-basic_ca w ↦
      let t : bytes_eq c.args.extension.now.identifier basic_name ≡ true = search rules in
      rw (w.steps-is, w.subject-is, w.basic_ca-is, w.authority-is, ← c.self.view_is) (given_as _ _ _ _ _ _ _ (add_ca (c.self.inside.subject, (c.self.inside.basic_ca, c.self.inside.authority)) c.args.extension.now t) (given_bind _ _ _ _ _ _ _ _ (rw c.held-value.ensures at w.in_ok-basic_ca.ensures) refl))
  | else-eq+else-eq-2+then-eq-3+in_ok-authority w ↦
      let t : bytes_eq c.args.extension.now.identifier authority_key_identifier ≡ true = search rules in
      rw (w.steps-is, w.subject-is, w.basic_ca-is, w.authority-is, ← c.self.view_is) (given_as _ _ _ _ _ _ _ (add_authority (c.self.inside.subject, (c.self.inside.basic_ca, c.self.inside.authority)) c.args.extension.now t) (given_bind _ _ _ _ _ _ _ _ (rw c.held-value.ensures at w.in_ok-authority.ensures) refl))
  | else-eq+else-eq-2+else-eq-3 w ↦
      let a : bytes_eq c.args.extension.now.identifier subject_key_identifier ≡ false = search rules in
      let b : bytes_eq c.args.extension.now.identifier basic_name ≡ false = search rules in
      let d : bytes_eq c.args.extension.now.identifier authority_key_identifier ≡ false = search rules in
      rw (w.steps-is, w.subject-is, w.basic_ca-is, w.authority-is, ← c.self.view_is) (given_at_once _ _ _ _ _ (add_other (c.self.inside.subject, (c.self.inside.basic_ca, c.self.inside.authority)) c.args.extension.now a b d))
]
