use Rattle.std.proofs.Common.{◌≡◌, ◌∙◌, Bool, true, false, ap, not, refl, sym, List}
use Rattle.rpki_publication.specs.declared.publish_delta_element.PublishDeltaElement.{PublishDeltaElement}
use Rattle.rpki_pubserver.specs.Changes.{all_made}
use Rattle.rpki_pubserver.specs.Deciding.{store_behind}
use Rattle.rpki_pubserver.specs.Places.{has_change, live}
use Rattle.rpki_pubserver.specs.Replies.{reply_to_delta}
use Rattle.rpki_pubserver.specs.Store.{Store}
use Rattle.rpki_pubserver.proofs.server.answer_changes.Goals as goal

not_false : (b : Bool) → not b ≡ false → b ≡ true
not_false true e = refl
not_false false e = cc

pub returns-clause-changed : goal.returns-clause-changed
returns-clause-changed g c =
    let store : Store = live c.args.objects.now in
    let changes : List PublishDeltaElement = c.elements-changes.result.now in
    let decided = c.in_ok-decision.ensures.decided store c.told.ensures.ordered c.in_ok-told.ensures.told in
    c.make_all.ensures.made
    ∙ ap (λ (s : Store). all_made s changes) c.prepare.ensures.live
    ∙ sym (decided.behind ∙ ap (λ (b : Bool). store_behind store changes b) (not_false c.in_ok-decision.decision.made c.if-not-decision.false))
    ∙ ap (λ (l : List PublishDeltaElement). (reply_to_delta c.args.base.now store l).next) c.elements-changes.ensures

pub returns-clause-elsewhere : goal.returns-clause-elsewhere
returns-clause-elsewhere g c =
    let changes : List PublishDeltaElement = c.elements-changes.result.now in
    λ uri none.
    let apart : has_change changes uri ≡ false = ap (λ (l : List PublishDeltaElement). has_change l uri) c.elements-changes.ensures ∙ none in
    c.make_all.ensures.elsewhere uri apart ∙ c.prepare.ensures.elsewhere uri apart
