use Rattle.std.proofs.Common.{◌≡◌, ap, length, rules}
use Rattle.rpki_upserver.specs.ToyIssuer.{ToyIssuerState}
use Rattle.rpki_upserver.proofs.Toys.{drew_so}
use Rattle.rpki_upserver.proofs.toy_issuer.ToyIssuer.draw.Goals as goal

pub returns-in-Ok-clause-ok : goal.returns-in-Ok-clause-ok
returns-in-Ok-clause-ok c =
    let drawn = c.in-Ok.ensures.exact in
    let twenty : length c.rand.new.target ≡ 20 = search rules in
    drew_so c.args.self.now _ c.self.inside.signer c.rand.new.self c.rand.new.target c.from.result (ap (λ (i : ToyIssuerState). i.signer) c.self.view_is)
    (ap (λ (i : ToyIssuerState). record i { signer = c.rand.new.self }) c.self.view_is) twenty drawn.0 drawn.1 drawn.2 c.from.ensures
