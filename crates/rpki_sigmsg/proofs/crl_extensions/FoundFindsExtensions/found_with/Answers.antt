use Rattle.std.proofs.Common.{rules, ◌≡◌, true, false, refl}
use Rattle.std.specs.Prelude.{bytes_eq}
use Rattle.rpki_base.specs.ObjectIdentifiers.{authority_key_identifier, crl_number}
use Rattle.rpki_der.proofs.Insides.{gives_counted_err}
use Rattle.rpki_der.proofs.Giving.{given_as, lacks_as, given_bind, lacks_bind, given_at_once}
use Rattle.rpki_sigmsg.proofs.CrlGathering.{add_authority, add_number, add_other}
use Rattle.rpki_sigmsg.proofs.crl_extensions.FoundFindsExtensions.found_with.Goals as goal

pub returns-in_err-authority : goal.returns-in_err-authority
returns-in_err-authority g c =
    let t : bytes_eq c.args.extension.now.identifier authority_key_identifier ≡ true = search rules in
    rw (← c.self.view_is) (gives_counted_err _ _ _ _ _ _ _ _ c.from_residual.ensures.1 (lacks_as _ _ _ _ _ _ _ (add_authority (c.self.inside.authority, c.self.inside.number) c.args.extension.now t) (lacks_bind _ _ _ _ _ _ _ (rw c.held-value.ensures at c.in_err-authority.ensures))))

pub returns-in_ok-authority : goal.returns-in_ok-authority
returns-in_ok-authority g c =
    let t : bytes_eq c.args.extension.now.identifier authority_key_identifier ≡ true = search rules in
    rw (← c.self.view_is) (given_as _ _ _ _ _ _ _ (add_authority (c.self.inside.authority, c.self.inside.number) c.args.extension.now t) (given_bind _ _ _ _ _ _ _ _ (rw c.held-value.ensures at c.in_ok-authority.ensures) refl))

pub returns-in_err-number : goal.returns-in_err-number
returns-in_err-number g c =
    let t : bytes_eq c.args.extension.now.identifier crl_number ≡ true = search rules in
    rw (← c.self.view_is) (gives_counted_err _ _ _ _ _ _ _ _ c.from_residual-in_err-number.ensures.1 (lacks_as _ _ _ _ _ _ _ (add_number (c.self.inside.authority, c.self.inside.number) c.args.extension.now t) (lacks_bind _ _ _ _ _ _ _ (rw c.held-value.ensures at c.in_err-number.ensures))))

pub returns-in_ok-number : goal.returns-in_ok-number
returns-in_ok-number g c =
    let t : bytes_eq c.args.extension.now.identifier crl_number ≡ true = search rules in
    rw (← c.self.view_is) (given_as _ _ _ _ _ _ _ (add_number (c.self.inside.authority, c.self.inside.number) c.args.extension.now t) (given_bind _ _ _ _ _ _ _ _ (rw c.held-value.ensures at c.in_ok-number.ensures) refl))

pub returns-else-eq-2 : goal.returns-else-eq-2
returns-else-eq-2 g c =
    let a : bytes_eq c.args.extension.now.identifier authority_key_identifier ≡ false = search rules in
    let b : bytes_eq c.args.extension.now.identifier crl_number ≡ false = search rules in
    rw (← c.self.view_is) (given_at_once _ _ _ _ _ (add_other (c.self.inside.authority, c.self.inside.number) c.args.extension.now a b))
