use Rattle.std.proofs.Common.{rules, ◌≡◌, true, Some, sym}
use Rattle.std.specs.Prelude.{bytes_eq}
use Rattle.rpki_cert.proofs.Lawfulness.{other_method, no_location, located_at}
use Rattle.rpki_cert.proofs.access.located.Goals as goal

pub returns-then-ne : goal.returns-then-ne
returns-then-ne g c = sym (other_method c.args.method.now g.K.UriKind.kind c.args.description.now (search rules))

pub returns-in-None : goal.returns-in-None
returns-in-None g c = sym (no_location c.args.method.now g.K.UriKind.kind c.args.description.now (search rules))

pub returns-in-Some : goal.returns-in-Some
returns-in-Some g c =
    let a : bytes_eq c.args.description.now.method c.args.method.now ≡ true = search rules in
    let b : c.args.description.now.location ≡ Some c.in-Some.octets.now = search rules in
    rw (located_at c.args.method.now g.K.UriKind.kind c.args.description.now c.in-Some.octets.now a b) c.lawful.ensures
