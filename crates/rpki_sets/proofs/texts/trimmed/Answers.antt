use Rattle.std.proofs.Common.{ap, reverse, ◌∙◌}
use Rattle.rpki_sets.specs.Texts.{trimmed as trimmed_of, skip_spaces as skip_spaces_of}
use Rattle.rpki_sets.proofs.texts.trimmed.Goals as goal

pub returns : goal.returns
unfolding trimmed_of
returns c = c.drop_spaces.ensures ∙ ap (λ text. reverse (skip_spaces_of (reverse text))) c.skip_spaces.ensures
