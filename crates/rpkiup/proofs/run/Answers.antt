use Rattle.rpki_signer.specs.Signer.{HoldsKey}
use Rattle.rpki_signer.specs.Toy.{ToyChecks}
use Rattle.rpki_signer.specs.ToySigner.{ToyState, state_of}
use Rattle.std.proofs.Common.{subst}
use Rattle.rpki_ca.specs.Seen.{seen, seen_signer}
use Rattle.rpki_upserver.specs.ProgramIssuer.{IsProgramIssuer}
use Rattle.rpki_upserver.specs.Running.{EndsParentRun, run_of}
use Rattle.rpki_upserver.specs.ToyIssuer.{issuer_state}
use Rattle.rpkiup.proofs.run.Goals as goal

pub returns-clause-ran : goal.returns-clause-ran
returns-clause-ran g c = λ when child are. record {
  issuing_key = c.in_ok-of_issuer.issuing_key;
  issuer = c.in_ok-issuer.issuer;
  signing = c.in_ok-issuer.signing;
  issuer_is = subst (λ (s : ToyState). IsProgramIssuer s c.in_ok-of_issuer.issuing_key c.in_ok-issuer.issuer c.in_ok-issuer.signing) c.in_ok-of_issuer.ensures.signer c.in_ok-issuer.ensures.issuer;
  key = c.in_ok-signer.key;
  held = c.in_ok-signer.ensures.key.0;
  holds = subst (λ (s : ToyState). HoldsKey (state_of s).keyring c.in_ok-signer.key c.in_ok-signer.ensures.key.0) c.in_ok-signer.ensures.signer c.in_ok-signer.ensures.key.1;
  issuer_after = issuer_state c.serve.new.issuer;
  signer_after = state_of c.serve.new.signer;
  ends = subst (λ (s : ToyState). EndsParentRun ToyChecks (run_of when child c.in_ok-issuer.signing (issuer_state c.in_ok-issuer.issuer) (issuer_state c.serve.new.issuer) (seen_signer c.in_ok-signer.key (state_of s) (state_of c.serve.new.signer)))
      c.serve.result.0 (seen g.I.Source.rest g.I.Source.faults c.args.input.now c.serve.new.input) (seen g.O.Sink.written g.O.Sink.faults c.args.output.now c.serve.new.output)) c.in_ok-signer.ensures.signer (c.serve.ensures.ends when child are);
}
