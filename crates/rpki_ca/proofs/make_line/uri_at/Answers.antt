use Rattle.std.proofs.Common.{rules, ◌≡◌, None, List, ℕ, subst, sym, ◌∙◌}
use Rattle.rpki_text.specs.Uri.{fault_of, rsync}
use Rattle.rpki_ca.specs.Summary.{uri_at}
use Rattle.rpki_ca.proofs.Named.{lawful_at}
use Rattle.rpki_ca.proofs.make_line.uri_at.Goals as goal

pub unreachable-requires : goal.unreachable-requires
unreachable-requires c =
    let text : c.as_str.result.now ≡ uri_at c.args.place = c.as_str.ensures.value ∙ c.in_ok-text.ensures.ok in
    let lawful : fault_of rsync c.as_str.result.now ≡ None = subst (λ (t : List ℕ). fault_of rsync t ≡ None) (sym text) (lawful_at c.args.place c.ranges.place.fits) in
    search rules
