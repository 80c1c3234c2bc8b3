-- A change that isn't made, by its place among all. A means for the loop over them.
use Rattle.std.specs.Prelude.{◌≡◌, ℕ, Some, Ok, Err, List, slice_get}
use Rattle.rpki_publication.specs.declared.publish_delta_element.PublishDeltaElement.{PublishDeltaElement}
use Rattle.rpki_pubserver.specs.declared.deciding.Refused as held
use Rattle.rpki_pubserver.specs.Changes.{after_all}
use Rattle.rpki_pubserver.specs.Store.{Store}

-- the change is the first that isn't made
pub record IsChangeRefused (base : List ℕ) (store : Store) (changes : List PublishDeltaElement)
    (refused : held.Refused) : Type 0 where
  pub element : PublishDeltaElement
  pub stands : slice_get changes refused.place ≡ Some element
  pub first : after_all base (Ok store) changes
      ≡ Err (record { element = element; code = refused.code })
