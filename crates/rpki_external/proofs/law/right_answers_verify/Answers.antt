use Rattle.rpki_external.proofs.RightAnswers.{anchor_decided, request_decided}
use Rattle.rpki_external.proofs.Under.{AtMostOne, setup_under}
use Rattle.rpki_external.proofs.law.right_answers_verify.Goals as goal

pub returns-clause-anchor : goal.returns-clause-anchor
returns-clause-anchor g c = anchor_decided g.P.Scheme.checks g.P.Scheme.fits

pub returns-clause-request : goal.returns-clause-request
returns-clause-request g c = request_decided g.P.Scheme.checks g.P.Scheme.fits

pub returns-clause-setup : goal.returns-clause-setup
returns-clause-setup g c = λ kind octets when q answers answer asked right v.
    let each = c.at_most_one.ensures in
    let one : AtMostOne = record { child = each.child_request; parent = each.parent_response; publisher = each.publisher_request; repository = each.repository_response } in
    setup_under g.P.Scheme.checks g.P.Scheme.fits answers one kind octets when q answer asked right v
