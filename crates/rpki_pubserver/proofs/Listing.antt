-- The list of the objects, one more.
use Rattle.std.proofs.Common.{◌≡◌, ◌++◌, ℕ, Option, Some, List, [], ◌∷◌, append_assoc, subst, sym, ap, ◌∙◌}
use Rattle.std.specs.Prelude.{string_bytes, String}
use Rattle.std.specs.List.{AllByRecursion}
use Rattle.sha2.specs.Sha256.{sha256}
use Rattle.rpki_publication.specs.ListElement.{ListElementFields}
use Rattle.rpki_publication.specs.ListReply.{IsWritableListElement}
use Rattle.rpki_pubserver.specs.Places.{live, placed}
use Rattle.rpki_pubserver.specs.Store.{listed_store}

pub one_more_listed : {Z : Type 0} (items new all : List ListElementFields) (entries rest : List (String Z × Option (List ℕ))) (key : String Z) (octets : List ℕ) (e : ListElementFields)
    → items ++ listed_store (live (placed entries)) ≡ all → entries ≡ (key, Some octets) ∷ rest → e ≡ record { uri = string_bytes key; hash = sha256 octets } → new ≡ items ++ e ∷ [] → new ++ listed_store (live (placed rest)) ≡ all
one_more_listed items new all entries rest key octets e h first is made =
    ap (λ l. l ++ listed_store (live (placed rest))) made
    ∙ append_assoc items (e ∷ []) (listed_store (live (placed rest)))
    ∙ ap (λ x. items ++ x ∷ listed_store (live (placed rest))) is
    ∙ ap (λ l. items ++ listed_store (live (placed l))) (sym first)
    ∙ h

pub one_writable_more : (items new : List ListElementFields) (e : ListElementFields) → AllByRecursion IsWritableListElement items → IsWritableListElement e → new ≡ items ++ e ∷ [] → AllByRecursion IsWritableListElement new
one_writable_more items new e all one made = subst (λ l. AllByRecursion IsWritableListElement l) (sym made) (go items all)
  where
    go : (l : List ListElementFields) → AllByRecursion IsWritableListElement l → AllByRecursion IsWritableListElement (l ++ e ∷ [])
    go [] h = (one, tt)
    go (x ∷ l) h = (h.0, go l h.1)
