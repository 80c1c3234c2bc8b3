-- AS numbers and addresses together.
use Rattle.std.specs.Prelude.{ℕ, Bool, ◌&&◌, List, ◌++◌, codes}
use Rattle.std.specs.Cmp.{IsEquivalence, and_equiv, on_equiv}
use Rattle.std.specs.Cmp.Lexicographic.{pointwise, lists_equiv}
use Rattle.rpki_sets.specs.declared.run.Run.{Run}
use Rattle.rpki_sets.specs.Comparing.{is_same, is_same-equiv}
use Rattle.rpki_sets.specs.AsNumbers.{as_text}
use Rattle.rpki_sets.specs.Ipv4Addresses.{ipv4_blocks_text}
use Rattle.rpki_sets.specs.Ipv6Addresses.{ipv6_blocks_text}

-- a set of each kind
pub record Resources : Type 0 where
  pub asn : List Run
  pub ipv4 : List Run
  pub ipv6 : List Run

-- both hold the same sets
abbrev pub are_same : Resources → Resources → Bool
are_same a b =
    pointwise is_same a.asn b.asn && (pointwise is_same a.ipv4 b.ipv4 && pointwise is_same a.ipv6
    b.ipv6)

-- equality of resources is an equivalence
pub are_same-equiv : IsEquivalence are_same
are_same-equiv =
    and_equiv (on_equiv (λ r. r.asn) (lists_equiv is_same-equiv))
    (and_equiv (on_equiv (λ r. r.ipv4) (lists_equiv is_same-equiv))
    (on_equiv (λ r. r.ipv6) (lists_equiv is_same-equiv)))

-- the three sets, each in quotation marks
abbrev pub resources_text : Resources → List ℕ
resources_text r =
    codes "asn: '" ++ (as_text r.asn ++ (codes "', ipv4: '"
    ++ (ipv4_blocks_text r.ipv4 ++ (codes "', ipv6: '"
    ++ (ipv6_blocks_text r.ipv6 ++ codes "'")))))
