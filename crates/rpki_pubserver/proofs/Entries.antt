-- Entries by texts: what is at a text where one is put, set or taken.
use Rattle.std.proofs.Common.{◌≡◌, ℕ, Bool, true, false, cond, Option, None, Some, List, [], ◌∷◌, ◌++◌, refl, sym, ap, subst, ◌∙◌}
use Rattle.std.specs.BTreeMap.{insert_entry}
use Rattle.std.specs.Cmp.Lexicographic.{slice_cmp, nat_list_cmp_total}
use Rattle.std.specs.List.{AllByRecursion}
use Rattle.std.specs.List.Sorted.{IsStrictlySortedBy}
use Rattle.std.specs.Map.{keys_of, lookup, remove_entry, set_value}
use Rattle.std.specs.Option.{option_or}
use Rattle.std.specs.Ordering.{is_eq, match_ordering, nat_cmp, ordering_reverse}
use Rattle.std.specs.declared.cmp.Ordering.{Ordering}
use Rattle.std.specs.declared.cmp.Ordering.TheVariants.{Less, Equal, Greater}
use Rattle.std.specs.Str.{bytes_eq}
use Rattle.std.proofs.lemmas.Map.Keys.{sorted_head, sorted_tail}
use Rattle.std.proofs.lemmas.Map.Text.{is_eq-slice_cmp}
use Rattle.std.proofs.lemmas.Slice.Eq.{bytes_eq-Decides}
use Rattle.rpki_common.proofs.Truths.{equal_octets}

-- ---- texts in order

abbrev pub text_cmp : List ℕ → List ℕ → Ordering
text_cmp one other = slice_cmp nat_cmp one other

-- each text of these entries is behind this one
abbrev pub AreBehind : {X : Type 0} → List ℕ → List (List ℕ × X) → Type 0
AreBehind uri entries = AllByRecursion (λ other. text_cmp uri other ≡ Less) (keys_of entries)

abbrev pub AreSorted : {X : Type 0} → List (List ℕ × X) → Type 0
AreSorted entries = IsStrictlySortedBy (slice_cmp nat_cmp) (keys_of entries)

pub less_equal : (o : Ordering) → o ≡ Less → is_eq o ≡ false
less_equal o e = rw e refl

pub greater_from_less : (one other : List ℕ) → text_cmp one other ≡ Less → text_cmp other one ≡ Greater
greater_from_less one other e = nat_list_cmp_total.antisymm other one ∙ ap ordering_reverse e

-- a text behind another is another one, both ways
pub other_before : (one other : List ℕ) → text_cmp one other ≡ Less → bytes_eq one other ≡ false
other_before one other e = sym (is_eq-slice_cmp one other) ∙ less_equal (text_cmp one other) e

pub other_behind : (one other : List ℕ) → text_cmp one other ≡ Less → bytes_eq other one ≡ false
other_behind one other e = sym (is_eq-slice_cmp other one) ∙ ap is_eq (greater_from_less one other e)

pub equal_from_same : (one other : List ℕ) → bytes_eq one other ≡ true → text_cmp one other ≡ Equal
equal_from_same one other e = is_equal (text_cmp one other) (is_eq-slice_cmp one other ∙ e)
  where
    is_equal : (o : Ordering) → is_eq o ≡ true → o ≡ Equal
    is_equal Less h = cc
    is_equal Equal h = refl
    is_equal Greater h = cc

pub equal_text : (uri key : List ℕ) → text_cmp uri key ≡ Equal → bytes_eq uri key ≡ true
equal_text uri key e = sym (is_eq-slice_cmp uri key) ∙ ap is_eq e

apart_key : (other uri key : List ℕ) → bytes_eq other uri ≡ false → bytes_eq uri key ≡ true → bytes_eq other key ≡ false
apart_key other uri key apart same = subst (λ (k : List ℕ). bytes_eq other k ≡ false) ((bytes_eq-Decides uri key).0 same) apart

module _ {X : Type 0} where
  -- what is at a text
  abbrev pub at : List ℕ → List (List ℕ × X) → Option X
  at uri entries = lookup (bytes_eq uri) entries

  -- a text that is before all of these has no entry among them
  pub none_at : (uri : List ℕ) (entries : List (List ℕ × X)) → AreBehind uri entries → at uri entries ≡ None
  none_at uri [] behind = refl
  none_at uri ((key, there) ∷ entries) behind = rw (other_before uri key behind.0) (none_at uri entries behind.1)

  -- ---- at the text

  pub set_here : (uri : List ℕ) (entries : List (List ℕ × X)) (there x : X) → at uri entries ≡ Some there → at uri (set_value (bytes_eq uri) entries x) ≡ Some x
  set_here uri [] there x some = cc
  set_here uri ((key, y) ∷ entries) there x some = by (bytes_eq uri key) refl some (λ more. set_here uri entries there x more)
    where
      by : (b : Bool) → bytes_eq uri key ≡ b → cond b (Some y) (at uri entries) ≡ Some there → (at uri entries ≡ Some there → at uri (set_value (bytes_eq uri) entries x) ≡ Some x) → at uri (cond b ((key, x) ∷ entries) ((key, y) ∷ set_value (bytes_eq uri) entries x)) ≡ Some x
      by true same some rest = rw same refl
      by false apart some rest = rw apart (rest some)

  pub put_here : (uri : List ℕ) (entries : List (List ℕ × X)) (x : X) → at uri (insert_entry (slice_cmp nat_cmp) entries uri x) ≡ Some x
  put_here uri [] x = rw (equal_octets uri) refl
  put_here uri ((key, y) ∷ entries) x = by (text_cmp uri key) refl (put_here uri entries x)
    where
      by : (o : Ordering) → text_cmp uri key ≡ o → at uri (insert_entry (slice_cmp nat_cmp) entries uri x) ≡ Some x → at uri (match_ordering o ((uri, x) ∷ (key, y) ∷ entries) ((key, x) ∷ entries) ((key, y) ∷ insert_entry (slice_cmp nat_cmp) entries uri x)) ≡ Some x
      by Less e more = rw (equal_octets uri) refl
      by Equal e more = rw (equal_text uri key e) refl
      by Greater e more = rw (other_before_greater e) more
        where
          other_before_greater : text_cmp uri key ≡ Greater → bytes_eq uri key ≡ false
          other_before_greater g = sym (is_eq-slice_cmp uri key) ∙ ap is_eq g

  pub removed_here : (uri : List ℕ) (entries : List (List ℕ × X)) → AreSorted entries → at uri (remove_entry (bytes_eq uri) entries) ≡ None
  removed_here uri [] sorted = refl
  removed_here uri ((key, there) ∷ entries) sorted = by (bytes_eq uri key) refl (removed_here uri entries (sorted_tail _ key (keys_of entries) sorted))
    where
      by : (b : Bool) → bytes_eq uri key ≡ b → at uri (remove_entry (bytes_eq uri) entries) ≡ None → at uri (cond b entries ((key, there) ∷ remove_entry (bytes_eq uri) entries)) ≡ None
      by true same more = none_at uri entries (subst (λ (k : List ℕ). AreBehind k entries) (sym ((bytes_eq-Decides uri key).0 same)) (sorted_head _ key (keys_of entries) sorted))
      by false apart more = rw apart more

  -- ---- at another one

  module _ (other uri : List ℕ) (apart : bytes_eq other uri ≡ false) where
    pub set_elsewhere : (entries : List (List ℕ × X)) (x : X) → at other (set_value (bytes_eq uri) entries x) ≡ at other entries
    set_elsewhere [] x = refl
    set_elsewhere ((key, there) ∷ entries) x = by (bytes_eq uri key) refl (set_elsewhere entries x)
      where
        by : (b : Bool) → bytes_eq uri key ≡ b → at other (set_value (bytes_eq uri) entries x) ≡ at other entries → at other (cond b ((key, x) ∷ entries) ((key, there) ∷ set_value (bytes_eq uri) entries x)) ≡ at other ((key, there) ∷ entries)
        by true same more = rw (apart_key other uri key apart same) refl
        by false same more = ap (λ (o : Option X). cond (bytes_eq other key) (Some there) o) more

    pub removed_elsewhere : (entries : List (List ℕ × X)) → at other (remove_entry (bytes_eq uri) entries) ≡ at other entries
    removed_elsewhere [] = refl
    removed_elsewhere ((key, there) ∷ entries) = by (bytes_eq uri key) refl (removed_elsewhere entries)
      where
        by : (b : Bool) → bytes_eq uri key ≡ b → at other (remove_entry (bytes_eq uri) entries) ≡ at other entries → at other (cond b entries ((key, there) ∷ remove_entry (bytes_eq uri) entries)) ≡ at other ((key, there) ∷ entries)
        by true same more = rw (apart_key other uri key apart same) refl
        by false same more = ap (λ (o : Option X). cond (bytes_eq other key) (Some there) o) more

    pub put_elsewhere : (entries : List (List ℕ × X)) (x : X) → at other (insert_entry (slice_cmp nat_cmp) entries uri x) ≡ at other entries
    put_elsewhere [] x = rw apart refl
    put_elsewhere ((key, there) ∷ entries) x = by (text_cmp uri key) refl (put_elsewhere entries x)
      where
        by : (r : Ordering) → text_cmp uri key ≡ r → at other (insert_entry (slice_cmp nat_cmp) entries uri x) ≡ at other entries
            → at other (match_ordering r ((uri, x) ∷ (key, there) ∷ entries) ((key, x) ∷ entries) ((key, there) ∷ insert_entry (slice_cmp nat_cmp) entries uri x)) ≡ at other ((key, there) ∷ entries)
        by Less e more = rw apart refl
        by Equal e more = rw (apart_key other uri key apart (equal_text uri key e)) refl
        by Greater e more = ap (λ (o : Option X). cond (bytes_eq other key) (Some there) o) more

  -- ---- one more entry behind all

  pub at_more : (uri : List ℕ) (entries : List (List ℕ × X)) (key : List ℕ) (x : X) → at uri (entries ++ (key, x) ∷ []) ≡ option_or (at uri entries) (cond (bytes_eq uri key) (Some x) None)
  at_more uri [] key x = refl
  at_more uri ((k, y) ∷ entries) key x = by (bytes_eq uri k) (at_more uri entries key x)
    where
      by : (b : Bool) → at uri (entries ++ (key, x) ∷ []) ≡ option_or (at uri entries) (cond (bytes_eq uri key) (Some x) None) → cond b (Some y) (at uri (entries ++ (key, x) ∷ [])) ≡ option_or (cond b (Some y) (at uri entries)) (cond (bytes_eq uri key) (Some x) None)
      by true more = refl
      by false more = more
