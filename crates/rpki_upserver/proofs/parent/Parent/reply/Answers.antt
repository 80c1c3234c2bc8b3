use Rattle.std.proofs.Common.{◌≡◌, get_or, subst, sym}
use Rattle.rpki_provisioning.specs.Writable.{IsWritable}
use Rattle.rpki_provisioning.specs.declared.payload.Payload.TheVariants as payloads
use Rattle.rpki_upserver.specs.declared.decision.Decision.{Decision}
use Rattle.rpki_upserver.specs.Decision.{IsIssuance, IsPayloadOf}
use Rattle.rpki_upserver.specs.Table.{IsParent, ParentState}
use Rattle.rpki_upserver.proofs.Saying.{is_reply, issued_told, reply_writable}
use Rattle.rpki_upserver.proofs.parent.Parent.reply.Goals as goal

pub returns-in_ok-response-in-Issued-clause-message : goal.returns-in_ok-response-in-Issued-clause-message
returns-in_ok-response-in-Issued-clause-message c = λ payload said.
    let h : IsIssuance c.args.self.now.table c.in-Issued.class c.in-Issued.place payload = subst (λ (d : Decision). IsPayloadOf c.args.self.now.table d payload) c.in-Issued.is said in
    let at = subst (λ (q : ParentState). c.index.result.now ≡ get_or q.table c.in-Issued.class c.index.result.now) c.self.view_is c.index.ensures in
    is_reply _ c.args.self.now c.issue_response.result c.in_ok-me.me c.in_ok-child.child (payloads.IssueResponse c.in_ok-response-in-Issued.response) payload c.self.view_is c.issue_response.ensures c.in_ok-me.ensures c.in_ok-child.ensures
    (issued_told c.args.self.now.table c.in-Issued.class c.in-Issued.place c.index.result.now c.in_ok-response-in-Issued.response payload at c.in_ok-response-in-Issued.ensures h)

pub returns-in_ok-response-in-Issued-clause-writable : goal.returns-in_ok-response-in-Issued-clause-writable
returns-in_ok-response-in-Issued-clause-writable c =
    let h : IsIssuance c.args.self.now.table c.in-Issued.class c.in-Issued.place c.requires.payload = subst (λ (d : Decision). IsPayloadOf c.args.self.now.table d c.requires.payload) c.in-Issued.is c.requires.said in
    let at = subst (λ (q : ParentState). c.index.result.now ≡ get_or q.table c.in-Issued.class c.index.result.now) c.self.view_is c.index.ensures in
    subst IsWritable (sym (is_reply _ c.args.self.now c.issue_response.result c.in_ok-me.me c.in_ok-child.child (payloads.IssueResponse c.in_ok-response-in-Issued.response) c.requires.payload c.self.view_is c.issue_response.ensures c.in_ok-me.ensures c.in_ok-child.ensures
    (issued_told c.args.self.now.table c.in-Issued.class c.in-Issued.place c.index.result.now c.in_ok-response-in-Issued.response c.requires.payload at c.in_ok-response-in-Issued.ensures h)))
    (reply_writable c.args.self.now c.requires.payload (subst (λ (q : ParentState). IsParent q.me q.child q.table) c.self.view_is c.self.invariant.0) c.requires.writable)
