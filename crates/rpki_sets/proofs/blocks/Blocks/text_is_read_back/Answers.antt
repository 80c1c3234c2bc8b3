use Rattle.rpki_sets.proofs.ReadBack.{runs_of-text_of, blocks_of-text_of}
use Rattle.rpki_sets.proofs.blocks.Blocks.text_is_read_back.Goals as goal

pub returns-clause-runs : goal.returns-clause-runs
returns-clause-runs g c = runs_of-text_of g.N.Numbers.kind c.law.ensures c.args.self.now c.runs-runs.ensures.set

pub returns-clause-set : goal.returns-clause-set
returns-clause-set g c = blocks_of-text_of g.N.Numbers.kind c.law.ensures c.args.self.now c.runs-runs.ensures.set
