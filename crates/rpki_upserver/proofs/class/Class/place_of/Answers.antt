use Rattle.std.proofs.Common.{◌≡◌, ◌↔◌, true, IsSome, subst}
use Rattle.rpki_upserver.specs.Table.{ClassState, has_key, is_issued_in}
use Rattle.rpki_upserver.proofs.Places.{some_placed}
use Rattle.rpki_upserver.proofs.class.Class.place_of.Goals as goal

pub returns-clause-issued : goal.returns-clause-issued
returns-clause-issued c =
    subst (λ (s : ClassState). IsSome c.place_among.result ↔ (is_issued_in c.args.key s ≡ true)) c.self.view_is (some_placed (has_key c.args.key) c.self.inside.issued.items c.place_among.result c.place_among.ensures.place)
