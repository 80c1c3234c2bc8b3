-- Where the objects of `make` are published: each place has a lawful URI.
use Rattle.std.proofs.Common.{◌≡◌, ℕ, ◌^◌, ◌<◌, ◌≤◌, Bool, true, ◌&&◌, None, List, [], ◌∷◌, ◌++◌, length, codes, get_or, refl, sym, ap, ◌∙◌, subst, append_assoc, length-append, arith}
use Rattle.std.proofs.lemmas.Bool.Decides.{nat_tests}
use Rattle.std.proofs.lemmas.Fmt.{decimal_is_IsNumeral, length-decimal-le}
use Rattle.std.proofs.lemmas.List.{get_or_default}
use Rattle.std.proofs.lemmas.List.Folds.{list_all-append}
use Rattle.std.proofs.lemmas.List.Sums.{list_all-from_AllPass}
use Rattle.std.proofs.lemmas.Str.Parse.{digit_at}
use Rattle.std.specs.Fmt.{decimal}
use Rattle.std.specs.List.{list_all}
use Rattle.std.specs.Int.{IsInRange}
use Rattle.rpki_common.proofs.Truths.{are_true}
use Rattle.rpki_text.specs.Uri.{fault_of, is_uri_octet, rsync}
use Rattle.rpki_text.proofs.Naming.{IsName, first_stays, is_no_slash, long_is_no_dot, one_part, place_lawful}
use Rattle.rpki_ca.specs.Summary.{uri_at}

uri_digit : (c : ℕ) → IsInRange 48 57 c → is_uri_octet c ≡ true
uri_digit c h = grind (arith, nat_tests)

no_slash_digit : (c : ℕ) → IsInRange 48 57 c → is_no_slash c ≡ true
no_slash_digit c h = grind (arith, nat_tests)

-- the name of the object at a place
abbrev name_at : ℕ → List ℕ
name_at place = codes "f" ++ decimal place ++ codes ".txt"

module _ (p : ℕ → Bool) (digits : (c : ℕ) → IsInRange 48 57 c → p c ≡ true) (front : list_all p (codes "f") ≡ true) (end : list_all p (codes ".txt") ≡ true) where
  digits_pass : (n : ℕ) → n < 2 ^ 32 → list_all p (decimal n) ≡ true
  digits_pass n small = list_all-from_AllPass p (decimal n) (λ k d below. subst (λ (c : ℕ). p c ≡ true) (get_or_default (decimal n) k 0 d below) (digits _ (digit_at (decimal n) k (decimal_is_IsNumeral n (omega arith)).0.1 below)))

  all_pass : (n : ℕ) → n < 2 ^ 32 → list_all p (name_at n) ≡ true
  all_pass n small =
      list_all-append p (codes "f") (decimal n ++ codes ".txt") ∙ are_true (list_all p (codes "f")) (list_all p (decimal n ++ codes ".txt")) front
      (list_all-append p (decimal n) (codes ".txt") ∙ are_true (list_all p (decimal n)) (list_all p (codes ".txt")) (digits_pass n small) end)

is_name : (place : ℕ) → place < 2 ^ 32 → IsName (name_at place)
is_name place small =
    let plain = all_pass is_no_slash no_slash_digit refl refl place small in
    let digits = length-decimal-le 10 place (omega arith) (omega (arith, small)) (omega (arith, small)) in
    let behind = length-append (decimal place) (codes ".txt") in
    record {
      octets = all_pass is_uri_octet uri_digit refl refl place small;
      one = one_part (name_at place) plain;
      dots = long_is_no_dot (name_at place) (omega (arith, behind));
      slash = first_stays (name_at place) plain;
      short = omega (arith, behind, digits);
    }

pub lawful_at : (place : ℕ) → place < 2 ^ 32 → fault_of rsync (uri_at place) ≡ None
lawful_at place small = place_lawful (codes "rsync://localhost/ca/") (name_at place) refl (omega arith) (is_name place small)
