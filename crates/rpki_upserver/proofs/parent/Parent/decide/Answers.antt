use Rattle.std.proofs.Common.{◌∙◌, sym}
use Rattle.rpki_upserver.proofs.Saying.{listed, to_others, unknown}
use Rattle.rpki_upserver.proofs.Told.{clash}
use Rattle.rpki_upserver.proofs.parent.Parent.decide.Goals as goal

pub returns-then-not-is_from_child-clause-ok : goal.returns-then-not-is_from_child-clause-ok
returns-then-not-is_from_child-clause-ok g c =
    to_others g.P.Scheme.checks c.args.self.now c.args.message.now (g.N.Issuer.state c.args.issuer.now) (λ from. clash c.is_from_child.result (c.is_from_child.ensures.1 from) c.if-not-is_from_child.true)

pub returns-in-List-clause-ok : goal.returns-in-List-clause-ok
returns-in-List-clause-ok g c =
    listed g.P.Scheme.checks c.args.self.now c.args.message.now (g.N.Issuer.state c.args.issuer.now) (c.is_from_child.ensures.0 c.if-not-is_from_child.false) (sym c.payload.ensures ∙ c.in-List.is) c.classes-classes.ensures.writable

pub returns-in_default : goal.returns-in_default
returns-in_default g c = record {
  ok = unknown g.P.Scheme.checks c.args.self.now c.args.message.now (g.N.Issuer.state c.args.issuer.now) c.payload.result.now c.payload.ensures (c.is_from_child.ensures.0 c.if-not-is_from_child.false) c.in_default.not-List c.in_default.not-Issue c.in_default.not-Revoke;
  err = tt;
}
