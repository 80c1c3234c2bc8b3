-- The most that a certificate is asked for (RFC 6492, 3.4.1).
use Rattle.std.specs.Prelude.{ℕ, Bool, ◌&&◌, List, [], ◌∷◌, ◌++◌, Option, None, Some, ⊤, codes}
use Rattle.std.specs.Cmp.{IsEquivalence, and_equiv, on_equiv}
use Rattle.std.specs.Cmp.Lexicographic.{pointwise, lists_equiv, options_equiv}
use Rattle.std.specs.List.{join_with_byte}
use Rattle.std.specs.Option.{option_eq}
use Rattle.rpki_sets.specs.declared.run.Run.{Run}
use Rattle.rpki_sets.specs.AsNumbers.{as_text}
use Rattle.rpki_sets.specs.Comparing.{is_same, is_same-equiv}
use Rattle.rpki_sets.specs.Ipv4Addresses.{ipv4_blocks_text}
use Rattle.rpki_sets.specs.Ipv6Addresses.{ipv6_blocks_text}
use Rattle.rpki_sets.specs.Resources.{Resources}
use Rattle.rpki_sets.specs.Runs.{Includes}

-- of each kind what is stated; a kind for which nothing is stated is not limited
pub record LimitFields : Type 0 where
  pub asn : Option (List Run)
  pub ipv4 : Option (List Run)
  pub ipv6 : Option (List Run)

-- nothing is stated
abbrev pub no_limit : LimitFields
no_limit = record { asn = None; ipv4 = None; ipv6 = None }

-- ---- what a limit leaves of a set

-- the numbers that are held include those that are stated
abbrev pub HasStated : Option (List Run) → List Run → Type 0
HasStated None held = ⊤
HasStated (Some stated) held = Includes held stated

-- the set includes all that is stated
pub record IsContained (limit : LimitFields) (set : Resources) : Type 0 where
  pub asn : HasStated limit.asn set.asn
  pub ipv4 : HasStated limit.ipv4 set.ipv4
  pub ipv6 : HasStated limit.ipv6 set.ipv6

-- what is stated, else what is held
abbrev pub limited : Option (List Run) → List Run → List Run
limited None held = held
limited (Some stated) held = stated

-- of each kind what is stated, else the set's own numbers
abbrev pub limited_set : LimitFields → Resources → Resources
limited_set limit set = record {
  asn = limited limit.asn set.asn;
  ipv4 = limited limit.ipv4 set.ipv4;
  ipv6 = limited limit.ipv6 set.ipv6;
}

-- ---- equality

-- both limits state the same
abbrev pub are_same : LimitFields → LimitFields → Bool
are_same a b =
    option_eq (pointwise is_same) a.asn b.asn && (option_eq (pointwise is_same) a.ipv4 b.ipv4
    && option_eq (pointwise is_same) a.ipv6 b.ipv6)

-- equality of limits is an equivalence
pub are_same-equiv : IsEquivalence are_same
are_same-equiv =
    and_equiv (on_equiv (λ l. l.asn) (options_equiv (lists_equiv is_same-equiv)))
    (and_equiv (on_equiv (λ l. l.ipv4) (options_equiv (lists_equiv is_same-equiv)))
    (on_equiv (λ l. l.ipv6) (options_equiv (lists_equiv is_same-equiv))))

-- ---- what is printed

-- a part that is stated: its name and its numbers
abbrev pub part : List ℕ → (List Run → List ℕ) → Option (List Run) → List (List ℕ)
part name text None = []
part name text (Some stated) = (name ++ text stated) ∷ []

-- the parts that are stated
abbrev pub parts : LimitFields → List (List ℕ)
parts limit =
    part (codes "asn: ") as_text limit.asn ++ (part (codes "ipv4: ") ipv4_blocks_text limit.ipv4
    ++ part (codes "ipv6: ") ipv6_blocks_text limit.ipv6)

-- `none` where there are no parts, and else the parts with a space between each two
abbrev pub none_or_joined : List (List ℕ) → List ℕ
none_or_joined [] = codes "none"
none_or_joined (first ∷ more) = join_with_byte 32 (first ∷ more)

-- `none`, or the stated parts with a space between each two
abbrev pub limit_text : LimitFields → List ℕ
limit_text limit = none_or_joined (parts limit)
