-- Which texts are handles.
use Rattle.std.proofs.Common.{◌≡◌, ℕ, Bool, true, false, ◌&&◌, if◌then◌else◌, nat_le, List, length, Some, None, refl, ap, arith}
use Rattle.std.specs.List.{list_all}
use Rattle.std.proofs.lemmas.List.Sums.{AllPass-from_list_all, list_all-from_AllPass}
use Rattle.std.proofs.lemmas.Bool.Decides.{nat_tests}
use Rattle.rpki_text.specs.Json.{string_of_json}
use Rattle.rpki_text.specs.Handle.{is_handle_octet, is_handle, IsHandle, handle_of_text, handle_of_json}
use Rattle.rpki_common.proofs.Truths.{both, are_true}

-- what passes the test keeps the rule
pub IsHandle-from_test : (text : List ℕ) → is_handle text ≡ true → IsHandle text
IsHandle-from_test text e =
    let first = both (nat_le 1 (length text) && nat_le (length text) 255) (list_all is_handle_octet text) e in
    let second = both (nat_le 1 (length text)) (nat_le (length text) 255) first.0 in
    let low = second.0 in
    let high = second.1 in
    (grind (arith, nat_tests), grind (arith, nat_tests), AllPass-from_list_all is_handle_octet text first.1)

-- what keeps the rule passes the test
pub is_handle-holds : (text : List ℕ) → IsHandle text → is_handle text ≡ true
is_handle-holds text (a, b, all) =
    let low : nat_le 1 (length text) ≡ true = grind (arith, nat_tests) in
    let high : nat_le (length text) 255 ≡ true = grind (arith, nat_tests) in
    are_true (nat_le 1 (length text) && nat_le (length text) 255) (list_all is_handle_octet text) (are_true (nat_le 1 (length text)) (nat_le (length text) 255) low high)
    (list_all-from_AllPass is_handle_octet text all)

-- a text that keeps the rule is a handle
pub handle_of_text-some : (text : List ℕ) → IsHandle text → handle_of_text text ≡ Some text
handle_of_text-some text h = ap (λ (b : Bool). if b then Some text else None) (is_handle-holds text h)

none_for : (text : List ℕ) (b : Bool) → (b ≡ true → ⊥) → (if b then Some text else None) ≡ None
none_for text true h = absurd (h refl)
none_for text false h = refl

-- a text that breaks the rule is none
pub handle_of_text-none : (text : List ℕ) → (IsHandle text → ⊥) → handle_of_text text ≡ None
handle_of_text-none text h = none_for text (is_handle text) (λ e. h (IsHandle-from_test text e))

-- the string of a JSON text is a handle
pub handle_of_json-some : (text name handle : List ℕ) → string_of_json text ≡ Some name → handle ≡ name → IsHandle name → handle_of_json text ≡ Some handle
handle_of_json-some text name handle e same h = rw (e, same) (handle_of_text-some name h)

-- the string of a JSON text is none
pub handle_of_json-none : (text name : List ℕ) → string_of_json text ≡ Some name → (IsHandle name → ⊥) → handle_of_json text ≡ None
handle_of_json-none text name e h = rw e (handle_of_text-none name h)
