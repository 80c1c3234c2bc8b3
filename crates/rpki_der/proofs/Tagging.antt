-- Equal tags, as they are held, are the same.
use Rattle.std.proofs.Common.{◌≡◌, ℕ, ◌-◌, true, List, ◌++◌, length, replicate, refl}
use Rattle.std.specs.Prelude.{◌&&◌, bytes_eq, nat_eq}
use Rattle.std.proofs.lemmas.Bool.{eqb-true, eq-eqb}
use Rattle.rpki_common.proofs.Truths.{both, are_true, same_octets, equal_octets}
use Rattle.rpki_der.proofs.Uniqueness.{same_cut}

abbrev padded : List ℕ → List ℕ
padded a = a ++ replicate (4 - length a) 0

pub same_tags : (a b : List ℕ) → (bytes_eq (padded a) (padded b) && nat_eq (length a) (length b)) ≡ true → a ≡ b
same_tags a b e =
    let p = both _ _ e in
    (same_cut a b _ _ (eqb-true _ _ p.1) (same_octets _ _ p.0)).front

pub equal_tags : (a b : List ℕ) → a ≡ b → (bytes_eq (padded a) (padded b) && nat_eq (length a) (length b)) ≡ true
equal_tags a b e = rw e (are_true _ _ (equal_octets (padded b)) (eq-eqb (length b) (length b) refl))
