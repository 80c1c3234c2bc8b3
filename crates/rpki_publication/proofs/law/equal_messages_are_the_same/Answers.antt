use Rattle.std.proofs.Common.{◌≡◌, true, refl, ap, subst}
use Rattle.rpki_publication.specs.contracts.message.MessagePartialEq.TheImpl as message_eq
use Rattle.rpki_publication.specs.contracts.query.QueryPartialEq.TheImpl as query_eq
use Rattle.rpki_publication.specs.contracts.reply.ReplyPartialEq.TheImpl as reply_eq
use Rattle.rpki_publication.specs.contracts.publish_delta.PublishDeltaPartialEq.TheImpl as delta_eq
use Rattle.rpki_publication.specs.contracts.list_reply.ListReplyPartialEq.TheImpl as list_eq
use Rattle.rpki_publication.specs.contracts.error_reply.ErrorReplyPartialEq.TheImpl as error_eq
use Rattle.rpki_publication.specs.declared.message.Message.{Message}
use Rattle.rpki_publication.specs.declared.message.Message.TheVariants as message
use Rattle.rpki_publication.specs.declared.query.Query.{Query}
use Rattle.rpki_publication.specs.declared.query.Query.TheVariants as query
use Rattle.rpki_publication.specs.declared.reply.Reply.{Reply}
use Rattle.rpki_publication.specs.declared.reply.Reply.TheVariants as reply
use Rattle.rpki_publication.proofs.Equal.{AreSame, never}
use Rattle.rpki_publication.proofs.law.equal_messages_are_the_same.Goals as goal

query_to : AreSame delta_eq.eq-value.it → (a b : Query) → query_eq.eq-value.it a b ≡ true → a ≡ b
query_to h query.List query.List e = refl
query_to h query.List (query.Delta y) e = absurd (never e)
query_to h (query.Delta x) query.List e = absurd (never e)
query_to h (query.Delta x) (query.Delta y) e = ap query.Delta ((h x y).0 e)

query_itself : AreSame delta_eq.eq-value.it → (a : Query) → query_eq.eq-value.it a a ≡ true
query_itself h query.List = refl
query_itself h (query.Delta x) = (h x x).1 refl

queries : AreSame delta_eq.eq-value.it → AreSame query_eq.eq-value.it
queries h a b = (query_to h a b, λ e. subst (λ (q : Query). query_eq.eq-value.it a q ≡ true) e (query_itself h a))

reply_to : AreSame list_eq.eq-value.it → AreSame error_eq.eq-value.it → (a b : Reply) → reply_eq.eq-value.it a b ≡ true → a ≡ b
reply_to h k (reply.List x) (reply.List y) e = ap reply.List ((h x y).0 e)
reply_to h k (reply.List x) reply.Success e = absurd (never e)
reply_to h k (reply.List x) (reply.ErrorReply y) e = absurd (never e)
reply_to h k reply.Success (reply.List y) e = absurd (never e)
reply_to h k reply.Success reply.Success e = refl
reply_to h k reply.Success (reply.ErrorReply y) e = absurd (never e)
reply_to h k (reply.ErrorReply x) (reply.List y) e = absurd (never e)
reply_to h k (reply.ErrorReply x) reply.Success e = absurd (never e)
reply_to h k (reply.ErrorReply x) (reply.ErrorReply y) e = ap reply.ErrorReply ((k x y).0 e)

reply_itself : AreSame list_eq.eq-value.it → AreSame error_eq.eq-value.it → (a : Reply) → reply_eq.eq-value.it a a ≡ true
reply_itself h k (reply.List x) = (h x x).1 refl
reply_itself h k reply.Success = refl
reply_itself h k (reply.ErrorReply x) = (k x x).1 refl

replies : AreSame list_eq.eq-value.it → AreSame error_eq.eq-value.it → AreSame reply_eq.eq-value.it
replies h k a b = (reply_to h k a b, λ e. subst (λ (r : Reply). reply_eq.eq-value.it a r ≡ true) e (reply_itself h k a))

message_to : AreSame query_eq.eq-value.it → AreSame reply_eq.eq-value.it → (a b : Message) → message_eq.eq-value.it a b ≡ true → a ≡ b
message_to h k (message.Query x) (message.Query y) e = ap message.Query ((h x y).0 e)
message_to h k (message.Query x) (message.Reply y) e = absurd (never e)
message_to h k (message.Reply x) (message.Query y) e = absurd (never e)
message_to h k (message.Reply x) (message.Reply y) e = ap message.Reply ((k x y).0 e)

message_itself : AreSame query_eq.eq-value.it → AreSame reply_eq.eq-value.it → (a : Message) → message_eq.eq-value.it a a ≡ true
message_itself h k (message.Query x) = (h x x).1 refl
message_itself h k (message.Reply x) = (k x x).1 refl

pub returns-clause-query : goal.returns-clause-query
returns-clause-query c = queries c.equal_lists_are_the_same.ensures.delta

pub returns-clause-reply : goal.returns-clause-reply
returns-clause-reply c = replies c.equal_lists_are_the_same.ensures.list c.equal_lists_are_the_same.ensures.errors

pub returns-clause-message : goal.returns-clause-message
returns-clause-message c = λ a b.
    let h = queries c.equal_lists_are_the_same.ensures.delta in
    let k = replies c.equal_lists_are_the_same.ensures.list c.equal_lists_are_the_same.ensures.errors in
    (message_to h k a b, λ e. subst (λ (m : Message). message_eq.eq-value.it a m ≡ true) e (message_itself h k a))
