use Rattle.std.proofs.Common.{◌++◌, ◌∙◌, Err, List, ap, map, subst, sym}
use Rattle.rpki_ca.specs.Lines.{lines_of}
use Rattle.rpki_replay.specs.declared.peers.Peer.{Peer}
use Rattle.rpki_replay.specs.declared.state_text.StateError.{StateError}
use Rattle.rpki_replay.specs.declared.state_text.StateError.TheVariants.{BadState}
use Rattle.rpki_replay.specs.State.{IsState}
use Rattle.rpki_replay.specs.StateText.{ends_line, peer_line}
use Rattle.rpki_replay.proofs.Lines.{all_read, handed_on, lines_more, no_text, not_next, state_more}
use Rattle.rpki_replay.proofs.guard.Guard.from_text.Goals as goal

pub returns-then-not-ends_line-clause-err : goal.returns-then-not-ends_line-clause-err
returns-then-not-ends_line-clause-err c = λ n peers is. no_text c.args.text.now peers (c.if-not-ends_line.ensures ∙ ap ends_line c.as_bytes.ensures.value) is

pub loop-line-init : goal.loop-line-init
loop-line-init c = record {
  state = subst IsState (sym c.new-guard.ensures) (record { distinct = tt; each = tt });
  lines = ap (λ (l : List Peer). map peer_line l ++ c.into_iter-line-iterator.result) c.new-guard.ensures ∙ c.into_iter-line-iterator.ensures.into_iter_gives ∙ c.new-line-items.ensures ∙ ap lines_of c.as_bytes-2.ensures.value;
}

pub loop-line-preserved : goal.loop-line-preserved
loop-line-preserved c =
    let read = c.in_ok-add_line.ensures.ok in
    record {
      state = state_more c.loop-line.guard c.add_line.new.self read.0 c.loop-line.invariant.state read.1 read.3 read.4;
      lines = lines_more c.loop-line.guard c.add_line.new.self read.0 c.in-Some.line.now c.loop-line.line-iterator c.next.new.self (lines_of c.args.text.now) c.loop-line.invariant.lines c.in-Some.ensures.steps read.2 read.4;
    }

pub returns-in_err-add_line-clause-err : goal.returns-in_err-add_line-clause-err
returns-in_err-add_line-clause-err c = λ n peers is.
    not_next c.loop-line.guard c.in-Some.line.now c.loop-line.line-iterator c.next.new.self c.args.text.now peers c.loop-line.invariant.state c.loop-line.invariant.lines c.in-Some.ensures.steps (c.in_err-add_line.ensures.bad (ap (λ (e : StateError). Err e) (handed_on c.from_residual.result c.in_err-add_line.field-0.0 BadState n c.from_residual.ensures.1))) is

pub returns-clause-ok : goal.returns-clause-ok
returns-clause-ok c = all_read c.loop-line.guard c.loop-line.line-iterator c.args.text.now c.loop-line.invariant.state c.loop-line.invariant.lines c.in-None.ensures.steps.0 (c.if-not-ends_line.ensures ∙ ap ends_line c.as_bytes.ensures.value)
