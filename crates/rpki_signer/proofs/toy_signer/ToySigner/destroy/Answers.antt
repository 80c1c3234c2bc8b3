use Rattle.std.proofs.Common.{◌≡◌, ◌<◌, length, subst, ap, ◌∙◌}
use Rattle.std.specs.Prelude.{slice_index_or}
use Rattle.rpki_signer.specs.declared.toy_signer.ToyKey.{ToyKey}
use Rattle.rpki_signer.specs.ToySigner.{ToyState, IsTakenOut}
use Rattle.rpki_signer.proofs.ToySigners.{taken_out, out_sound}
use Rattle.rpki_signer.proofs.toy_signer.ToySigner.destroy.Goals as goal

within : (c : goal.After-remove) → c.in-Some.place < length c.self.inside.keys.items
within c = subst (λ l. c.in-Some.place < length l) c.deref.ensures.value c.in-Some.ensures.some.0

numbered : (c : goal.After-remove) → c.remove.result.number ≡ c.args.number
numbered c = ap (λ (k : ToyKey). k.number) c.remove.ensures.value ∙ subst (λ l. (slice_index_or l c.in-Some.place c.remove.result).number ≡ c.args.number) c.deref.ensures.value (c.in-Some.ensures.some.1 c.remove.result)

out : (c : goal.After-remove) → IsTakenOut c.args.number c.self.inside.keys.items c.remove.new.self.items
out c = taken_out c.args.number c.in-Some.place c.self.inside.keys.items c.remove.new.self.items c.remove.result (within c) c.remove.ensures.value (numbered c) c.remove.ensures.by_index.2

pub invariant_of-self : goal.invariant_of-self
invariant_of-self c = out_sound _ _ c.args.number c.self.inside.keys.items c.remove.new.self.items (out c) c.self.invariant

pub returns-clause-destroyed : goal.returns-clause-destroyed
returns-clause-destroyed c =
    let e = c.self.view_is ∙ c.in_default.ensures.ok.1 in
    record {
      listed = c.in_default.ensures.ok.0;
      out = subst (λ l. IsTakenOut c.args.number l c.remove.new.self.items) (ap (λ (s : ToyState). s.keys) e) (out c);
      is = ap (λ (s : ToyState). record s { keys = c.remove.new.self.items }) e;
    }

pub returns-clause-sound_after : goal.returns-clause-sound_after
returns-clause-sound_after c = invariant_of-self c
