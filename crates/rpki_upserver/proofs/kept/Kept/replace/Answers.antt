use Rattle.std.proofs.Common.{◌∙◌, ap}
use Rattle.rpki_upserver.specs.Kept.{kept_items}
use Rattle.rpki_upserver.proofs.Keeping.{not_among, replaced}
use Rattle.rpki_upserver.proofs.kept.Kept.replace.Goals.{in-Some, in_default}
use Rattle.rpki_upserver.proofs.kept.Kept.replace.Goals as goal

pub returns : goal.returns
returns g c = elim c.match-self.branch [
  | in-Some w ↦ ap (λ s. (kept_items s.items).items) w.self-inside-is ∙ replaced c.self.inside.items w.in-Some.items c.args.self.now c.args.place c.args.item w.in-Some.is c.self.view_is c.requires
  | in_default w ↦ absurd (not_among c.self.inside.items c.args.self.now c.args.place w.in_default.is c.self.view_is c.requires)
]
