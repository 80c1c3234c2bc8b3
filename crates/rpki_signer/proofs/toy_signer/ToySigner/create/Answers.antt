use Rattle.std.proofs.Common.{sym, subst, ◌∙◌}
use Rattle.rpki_signer.specs.ToySigner.{IsSoundToy}
use Rattle.rpki_signer.proofs.ToySigners.{added_sound, drawn_sound}
use Rattle.rpki_signer.proofs.toy_signer.ToySigner.create.Goals as goal
use Rattle.rpki_signer.proofs.toy_signer.ToySigner.create.Goals.{in-Ok-push, in-Err-push}

pub invariant_of-self : goal.invariant_of-self
invariant_of-self c =
    let e = c.self.view_is ∙ c.in-Ok.ensures.ok.2 in
    elim c.match-push.branch [
      | in-Ok-push w ↦ subst (λ keys. IsSoundToy c.self.inside.seed c.self.inside.next keys) (sym w.in-Ok-push.ensures.items) (added_sound c.args.self.now _ c.in-Ok.number c.args.format c.draw.ensures.sound e c.in-Ok.ensures.ok.1)
      | in-Err-push w ↦ subst (λ keys. IsSoundToy c.self.inside.seed c.self.inside.next keys) (sym w.in-Err-push.ensures.items) (drawn_sound c.args.self.now _ c.draw.ensures.sound e)
    ]

pub returns-clause-sound_after : goal.returns-clause-sound_after
returns-clause-sound_after c = invariant_of-self c
