use Rattle.std.proofs.Common.{◌≡◌, false, eqb, ap, length, sym, ◌∙◌}
use Rattle.std.proofs.lemmas.Bool.{eqb-true}
use Rattle.rpki_sets.specs.Texts.{trimmed}
use Rattle.rpki_sets.proofs.Fitting.{runs_of-blank, runs_of-parts}
use Rattle.rpki_sets.proofs.reading.read_runs.Goals as goal

pub returns-then-is_empty-clause-runs : goal.returns-then-is_empty-clause-runs
returns-then-is_empty-clause-runs g c =
    runs_of-blank g.N.Numbers.kind c.args.text.now _ (sym (ap length c.trimmed.ensures) ∙ eqb-true _ 0 (sym c.if-is_empty.ensures)) c.new.ensures.items

pub returns-clause-runs : goal.returns-clause-runs
returns-clause-runs g c =
    let full : eqb (length (trimmed c.args.text.now)) 0 ≡ false = ap (λ t. eqb (length t) 0) (sym c.trimmed.ensures) ∙ sym c.if-is_empty.ensures in
    rw (runs_of-parts g.N.Numbers.kind c.args.text.now full) c.read_parts.ensures.runs

pub returns-clause-malformed : goal.returns-clause-malformed
returns-clause-malformed g c =
    let full : eqb (length (trimmed c.args.text.now)) 0 ≡ false = ap (λ t. eqb (length t) 0) (sym c.trimmed.ensures) ∙ sym c.if-is_empty.ensures in
    λ e. runs_of-parts g.N.Numbers.kind c.args.text.now full ∙ c.read_parts.ensures.malformed e
