-- The objects stay in the order of their URIs.
use Rattle.std.proofs.Common.{◌≡◌, ℕ, Bool, true, false, cond, List, [], ◌∷◌, refl, ap, ◌∙◌}
use Rattle.std.specs.Cmp.Lexicographic.{nat_list_cmp_total}
use Rattle.std.specs.List.{AllByRecursion}
use Rattle.std.specs.List.Sorted.{IsStrictlySortedBy}
use Rattle.std.specs.Map.{keys_of}
use Rattle.std.specs.Ordering.{match_ordering, ordering_reverse}
use Rattle.std.specs.declared.cmp.Ordering.{Ordering}
use Rattle.std.specs.declared.cmp.Ordering.TheVariants.{Less, Equal, Greater}
use Rattle.std.specs.Str.{bytes_eq}
use Rattle.rpki_publication.specs.declared.publish_delta_element.PublishDeltaElement.{PublishDeltaElement}
use Rattle.rpki_publication.specs.declared.publish_delta_element.PublishDeltaElement.TheVariants as change
use Rattle.rpki_pubserver.specs.Changes.{changed}
use Rattle.rpki_pubserver.specs.Store.{IsStore, Store, put, without}
use Rattle.rpki_pubserver.proofs.Entries.{text_cmp}

-- each URI is behind this one
abbrev AreAfter : List ℕ → Store → Type 0
AreAfter uri store = AllByRecursion (λ other. text_cmp uri other ≡ Less) (keys_of store)

after_less : (one other : List ℕ) (store : Store) → text_cmp one other ≡ Less → AreAfter other store → AreAfter one store
after_less one other [] less after = tt
after_less one other (pair ∷ store) less after = (nat_list_cmp_total.trans one other pair.0 less after.0, after_less one other store less after.1)

less_from_greater : (uri key : List ℕ) → text_cmp uri key ≡ Greater → text_cmp key uri ≡ Less
less_from_greater uri key e = nat_list_cmp_total.antisymm key uri ∙ ap ordering_reverse e

-- ---- where an object is put

after_put : (one uri octets : List ℕ) (store : Store) → text_cmp one uri ≡ Less → AreAfter one store → AreAfter one (put store uri octets)
after_put one uri octets [] less after = (less, tt)
after_put one uri octets (pair ∷ store) less after = by (text_cmp uri pair.0) (after_put one uri octets store less after.1)
  where
    by : (o : Ordering) → AreAfter one (put store uri octets) → AreAfter one (match_ordering o ((uri, octets) ∷ pair ∷ store) ((pair.0, octets) ∷ store) (pair ∷ put store uri octets))
    by Less more = (less, after)
    by Equal more = (after.0, after.1)
    by Greater more = (after.0, more)

put_ordered : (uri octets : List ℕ) (store : Store) → IsStore store → IsStore (put store uri octets)
unfolding IsStrictlySortedBy
put_ordered uri octets [] ordered = (tt, tt)
put_ordered uri octets (pair ∷ store) ordered = by (text_cmp uri pair.0) refl (put_ordered uri octets store ordered.1)
  where
    by : (o : Ordering) → text_cmp uri pair.0 ≡ o → IsStore (put store uri octets) → IsStore (match_ordering o ((uri, octets) ∷ pair ∷ store) ((pair.0, octets) ∷ store) (pair ∷ put store uri octets))
    by Less e more = ((e, after_less uri pair.0 store e ordered.0), ordered)
    by Equal e more = (ordered.0, ordered.1)
    by Greater e more = (after_put pair.0 uri octets store (less_from_greater uri pair.0 e) ordered.0, more)

-- ---- where one is taken

after_without : (one uri : List ℕ) (store : Store) → AreAfter one store → AreAfter one (without store uri)
after_without one uri [] after = tt
after_without one uri (pair ∷ store) after = by (bytes_eq uri pair.0) (after_without one uri store after.1)
  where
    by : (b : Bool) → AreAfter one (without store uri) → AreAfter one (cond b store (pair ∷ without store uri))
    by true more = after.1
    by false more = (after.0, more)

without_ordered : (uri : List ℕ) (store : Store) → IsStore store → IsStore (without store uri)
unfolding IsStrictlySortedBy
without_ordered uri [] ordered = tt
without_ordered uri (pair ∷ store) ordered = by (bytes_eq uri pair.0) (without_ordered uri store ordered.1)
  where
    by : (b : Bool) → IsStore (without store uri) → IsStore (cond b store (pair ∷ without store uri))
    by true more = ordered.1
    by false more = (after_without pair.0 uri store ordered.0, more)

pub changed_ordered : (store : Store) (e : PublishDeltaElement) → IsStore store → IsStore (changed store e)
changed_ordered store (change.Publish p) ordered = put_ordered p.uri p.content store ordered
changed_ordered store (change.Update u) ordered = put_ordered u.uri u.content store ordered
changed_ordered store (change.Withdraw w) ordered = without_ordered w.uri store ordered
