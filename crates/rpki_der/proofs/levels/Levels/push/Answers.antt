use Rattle.std.proofs.Common.{length, ap, arith}
use Rattle.rpki_der.specs.Levels.{levels_of}
use Rattle.rpki_der.proofs.Depths.{marked_within}
use Rattle.rpki_der.proofs.levels.Levels.push.Goals as goal

pub overflow_add-self : goal.overflow_add-self
overflow_add-self c =
    let within = marked_within c.self.inside.marked (levels_of c.self.inside.runs.items) in
    omega (arith, within, c.self.invariant, ap length c.self.view_is, c.requires.room)
