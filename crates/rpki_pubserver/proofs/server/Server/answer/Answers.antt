use Rattle.std.proofs.Common.{◌∙◌, ap, refl, sym}
use Rattle.rpki_publication.specs.declared.message.Message.TheVariants as messages
use Rattle.rpki_publication.specs.declared.reply.Reply.TheVariants as replies
use Rattle.rpki_pubserver.specs.Asking.{reply_to_asked}
use Rattle.rpki_pubserver.specs.declared.asking.Asked.{Asked}
use Rattle.rpki_pubserver.specs.declared.asking.Asked.TheVariants as asked
use Rattle.rpki_pubserver.proofs.Answered.{answered_only, answered_so, refused_so, reply_so, writable_so}
use Rattle.rpki_pubserver.proofs.server.Server.answer.Goals as goal

pub answer_delta-requires : goal.answer_delta-requires
answer_delta-requires g c = writable_so g.P.Scheme.checks c.args.octets.now c.self.inside.publisher c.args.when c.receive-received.result c.in_ok-delta.field-0 (asked.Changes c.in-Changes.delta) c.receive-received.ensures c.in_ok-delta.ensures.asked c.in-Changes.is

pub returns-in-Changes-clause-answered : goal.returns-in-Changes-clause-answered
returns-in-Changes-clause-answered g c =
    let a : Asked = asked.Changes c.in-Changes.delta in
    let is = reply_so g.P.Scheme.checks c.args.self.now _ c.args.octets.now c.args.when c.receive-received.result a c.self.view_is c.receive-received.ensures c.in_ok-delta.ensures.given (sym c.in-Changes.is ∙ c.in_ok-delta.ensures.asked) in
    answered_so g.P.Scheme.checks c.args.self.now c.args.octets.now c.args.when _ (reply_to_asked c.args.self.now.base c.args.self.now.store a) c.answer_delta.result _ c.answer_delta.new.self is refl c.answer_delta.ensures.signed c.answer_delta.ensures.changed

pub returns-in_ok-list-in-List-clause-answered : goal.returns-in_ok-list-in-List-clause-answered
returns-in_ok-list-in-List-clause-answered g c =
    let is = reply_so g.P.Scheme.checks c.args.self.now _ c.args.octets.now c.args.when c.receive-received.result asked.List c.self.view_is c.receive-received.ensures c.in_ok-delta.ensures.given (sym c.in-List.is ∙ c.in_ok-delta.ensures.asked) in
    answered_only g.P.Scheme.checks c.args.self.now c.args.octets.now c.args.when _ (reply_to_asked c.args.self.now.base c.args.self.now.store asked.List) c.signed.result c.list_reply-in-List.result is
    (c.list_reply-in-List.ensures ∙ ap (λ l. messages.Reply (replies.List l)) c.in_ok-list-in-List.ensures.list) c.signed.ensures.ok refl

pub returns-in_ok-list-in-List-clause-refused : goal.returns-in_ok-list-in-List-clause-refused
returns-in_ok-list-in-List-clause-refused g c =
    let is = reply_so g.P.Scheme.checks c.args.self.now _ c.args.octets.now c.args.when c.receive-received.result asked.List c.self.view_is c.receive-received.ensures c.in_ok-delta.ensures.given (sym c.in-List.is ∙ c.in_ok-delta.ensures.asked) in
    refused_so g.P.Scheme.checks c.args.self.now c.args.octets.now c.args.when _ (reply_to_asked c.args.self.now.base c.args.self.now.store asked.List) c.signed.result c.list_reply-in-List.result is
    (c.list_reply-in-List.ensures ∙ ap (λ l. messages.Reply (replies.List l)) c.in_ok-list-in-List.ensures.list) c.signed.ensures.err

pub returns-in_ok-reply-in-Nothing-clause-answered : goal.returns-in_ok-reply-in-Nothing-clause-answered
returns-in_ok-reply-in-Nothing-clause-answered g c =
    let is = reply_so g.P.Scheme.checks c.args.self.now _ c.args.octets.now c.args.when c.receive-received.result (asked.Nothing c.in-Nothing.code) c.self.view_is c.receive-received.ensures c.in_ok-delta.ensures.given (sym c.in-Nothing.is ∙ c.in_ok-delta.ensures.asked) in
    answered_only g.P.Scheme.checks c.args.self.now c.args.octets.now c.args.when _ (reply_to_asked c.args.self.now.base c.args.self.now.store (asked.Nothing c.in-Nothing.code)) c.signed-in-Nothing.result c.in_ok-reply-in-Nothing.reply is c.in_ok-reply-in-Nothing.ensures.message c.signed-in-Nothing.ensures.ok refl

pub returns-in_ok-reply-in-Nothing-clause-refused : goal.returns-in_ok-reply-in-Nothing-clause-refused
returns-in_ok-reply-in-Nothing-clause-refused g c =
    let is = reply_so g.P.Scheme.checks c.args.self.now _ c.args.octets.now c.args.when c.receive-received.result (asked.Nothing c.in-Nothing.code) c.self.view_is c.receive-received.ensures c.in_ok-delta.ensures.given (sym c.in-Nothing.is ∙ c.in_ok-delta.ensures.asked) in
    refused_so g.P.Scheme.checks c.args.self.now c.args.octets.now c.args.when _ (reply_to_asked c.args.self.now.base c.args.self.now.store (asked.Nothing c.in-Nothing.code)) c.signed-in-Nothing.result c.in_ok-reply-in-Nothing.reply is c.in_ok-reply-in-Nothing.ensures.message c.signed-in-Nothing.ensures.err
