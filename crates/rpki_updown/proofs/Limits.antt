-- `==` of limits holds exactly between the same ones.
use Rattle.std.proofs.Common.{◌≡◌, ◌↔◌, IsTrue, Bool, true, List, Option, Some, None, refl}
use Rattle.std.proofs.lemmas.Bool.{false≢true, and_parts, and_from}
use Rattle.std.specs.Cmp.Lexicographic.{pointwise}
use Rattle.std.specs.Option.{option_eq}
use Rattle.rpki_sets.specs.declared.run.Run.{Run}
use Rattle.rpki_sets.specs.Comparing.{is_same}
use Rattle.rpki_sets.proofs.EqualRuns.{same_lists}
use Rattle.rpki_updown.specs.RequestResourceLimit.{LimitFields, are_same}

stated_to : (a b : Option (List Run)) → option_eq (pointwise is_same) a b ≡ true → a ≡ b
stated_to None None e = refl
stated_to None (Some y) e = absurd (false≢true e)
stated_to (Some x) None e = absurd (false≢true e)
stated_to (Some x) (Some y) e = let p = (same_lists x y (pointwise is_same x y) refl).0 e in λ i. Some (p i)

stated_itself : (a : Option (List Run)) → option_eq (pointwise is_same) a a ≡ true
stated_itself None = refl
stated_itself (Some x) = (same_lists x x (pointwise is_same x x) refl).1 refl

pub limits_same : (a b : LimitFields) → (are_same a b ≡ true) ↔ (a ≡ b)
limits_same a b = (
  λ e.
      let p = and_parts _ _ e in
      let q = and_parts _ _ p.1 in
      let asn = stated_to a.asn b.asn p.0 in
      let ipv4 = stated_to a.ipv4 b.ipv4 q.0 in
      let ipv6 = stated_to a.ipv6 b.ipv6 q.1 in
      λ i. record { asn = asn i; ipv4 = ipv4 i; ipv6 = ipv6 i },
  λ e. rw e (and_from _ _ (stated_itself b.asn) (and_from _ _ (stated_itself b.ipv4) (stated_itself b.ipv6))),
)

-- an answer that is the test of two limits says whether they are one
pub same_limits : (answer : Bool) (a b : LimitFields) → answer ≡ are_same a b → IsTrue answer ↔ (a ≡ b)
same_limits answer a b e = rw e (limits_same a b)
