use Rattle.std.proofs.Common.{◌≡◌, ◌∙◌, None, Some, Option, List, ℕ, cond, subst}
use Rattle.std.specs.Map.{lookup}
use Rattle.std.specs.Option.{option_or}
use Rattle.std.specs.Str.{bytes_eq}
use Rattle.rpki_pubserver.specs.Places.{Places}
use Rattle.rpki_pubserver.proofs.Telling.{told_at, told_more}
use Rattle.rpki_pubserver.proofs.told.Told.by.Goals as goal

pub loop-one-preserved : goal.loop-one-preserved
loop-one-preserved c =
    let old : Places = c.loop-one.told in
    let new : Places = c.tell.new.self in
    let one = c.one-item.result in
    let told = told_at old new c.as_str.result.now c.copied.result c.in_ok-tell.ensures.here c.in_ok-tell.ensures.first c.in_ok-tell.ensures.elsewhere in
    let at_uri = subst (λ (key : List ℕ). (u : List ℕ) → lookup (bytes_eq u) new ≡ option_or (lookup (bytes_eq u) old) (cond (bytes_eq u key) (Some c.copied.result) None)) (c.as_str.ensures.text ∙ c.uri.ensures) told in
    let so = subst (λ (hash : Option (List ℕ)). (u : List ℕ) → lookup (bytes_eq u) new ≡ option_or (lookup (bytes_eq u) old) (cond (bytes_eq u one.0) (Some hash) None)) (c.copied.ensures ∙ c.hash.ensures) at_uri in
    told_more old new c.args.known.now c.loop-one.one-index one c.loop-one-test.true c.one-item.is so c.loop-one.invariant
