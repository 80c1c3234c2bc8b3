use Rattle.std.proofs.Common.{List, Option, sym, subst}
use Rattle.std.specs.Option.{IsSome}
use Rattle.rpki_sets.specs.declared.run.Run.{Run}
use Rattle.rpki_upserver.proofs.Meanings.{asn_means, ipv4_means, ipv6_means}
use Rattle.rpki_upserver.proofs.preparing.resources.Goals as goal

pub unwrap-asn-requires : goal.unwrap-asn-requires
unwrap-asn-requires c = subst (λ (o : Option (List Run)). IsSome o) (sym c.in_ok-blocks.ensures) asn_means

pub unwrap-ipv4-requires : goal.unwrap-ipv4-requires
unwrap-ipv4-requires c = subst (λ (o : Option (List Run)). IsSome o) (sym c.in_ok-blocks-2.ensures) ipv4_means

pub unwrap-ipv6-requires : goal.unwrap-ipv6-requires
unwrap-ipv6-requires c = subst (λ (o : Option (List Run)). IsSome o) (sym c.in_ok-blocks-3.ensures) ipv6_means
