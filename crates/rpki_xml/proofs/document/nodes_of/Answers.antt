use Rattle.std.proofs.lemmas.Result.{err_from_is_err_and}
use Rattle.std.specs.Global.{Vec}
use Rattle.rpki_xml.specs.declared.element.Node.{Node}
use Rattle.rpki_xml.specs.DocumentNodes.{root_of}
use Rattle.rpki_xml.specs.Pieces.{piece}
use Rattle.rpki_xml.specs.Stack.{held}
use Rattle.rpki_xml.proofs.Documents.{one_more}
use Rattle.rpki_xml.proofs.Roots.{own_head, whole_held, starts, piece_refused, step_refused, answered}
use Rattle.rpki_xml.proofs.Backs.{reached_back}
use Rattle.rpki_xml.proofs.document.nodes_of.Goals as goal

pub loop-rest-init : goal.loop-rest-init
loop-rest-init c = record {
  reached = rw (c.in_ok-push.ensures.items, c.in_ok-push-2.ensures.items, c.in_ok-nodes.ensures.items, c.new-places.ensures.items) (starts c.args.octets.now c.args.octets.now c.in_ok-own.own (own_head c.args.octets.now c.in_ok-own.own c.in_ok-own.ensures.head) c.in_ok-own.ensures.below);
  kept = rw (c.in_ok-push.ensures.items, c.in_ok-push-2.ensures.items, c.in_ok-nodes.ensures.items, c.new-places.ensures.items) (whole_held c.args.octets.now c.in_ok-own.own (own_head c.args.octets.now c.in_ok-own.own c.in_ok-own.ensures.head) c.in_ok-own.ensures.below).1;
}

pub returns-in_err-piece-clause-value : goal.returns-in_err-piece-clause-value
returns-in_err-piece-clause-value c =
    let p = err_from_is_err_and c.from_residual-in_err-piece.result c.from_residual-in_err-piece.ensures.1 in
    rw (p.1, p.2) (piece_refused c.in_err-piece.field-0.0 c.args.octets.now c.loop-rest.rest.now (held c.args.octets.now c.loop-rest.nodes.items c.loop-rest.places.items) c.loop-rest.invariant.reached c.in_err-piece.ensures.value c.loop-rest-test.ensures)

pub returns-in_err-take-clause-value : goal.returns-in_err-take-clause-value
returns-in_err-take-clause-value c =
    let p = err_from_is_err_and c.from_residual-in_err-take.result c.from_residual-in_err-take.ensures.1 in
    rw (p.1, p.2) (step_refused c.in_err-take.field-0.0 c.args.octets.now c.loop-rest.rest.now c.in_ok-piece.after.now (piece c.args.octets.now c.in_ok-piece.piece) (held c.args.octets.now c.loop-rest.nodes.items c.loop-rest.places.items) c.loop-rest.invariant.reached c.in_ok-piece.ensures.value c.in_err-take.ensures.given)

pub loop-rest-preserved : goal.loop-rest-preserved
loop-rest-preserved c = record {
  reached = one_more c.args.octets.now c.loop-rest.rest.now c.in_ok-piece.after.now (piece c.args.octets.now c.in_ok-piece.piece) (held c.args.octets.now c.loop-rest.nodes.items c.loop-rest.places.items) (held c.args.octets.now c.take.new.nodes.items c.take.new.places.items) c.loop-rest.invariant.reached c.in_ok-piece.ensures.value c.in_ok-take.ensures.given;
  kept = c.in_ok-take.ensures.kept;
}

pub returns-clause-value : goal.returns-clause-value
returns-clause-value c =
    answered (λ (v : Vec Node). root_of c.args.octets.now v.items) c.finished.result c.args.octets.now c.loop-rest.rest.now (held c.args.octets.now c.loop-rest.nodes.items c.loop-rest.places.items) c.requires c.loop-rest.invariant.reached c.loop-rest-test.ensures (rw c.deref.ensures.value at c.finished.ensures.value)

pub piece_at-requires : goal.piece_at-requires
piece_at-requires c = reached_back c.args.octets.now c.loop-rest.rest.now _ c.loop-rest.invariant.reached
