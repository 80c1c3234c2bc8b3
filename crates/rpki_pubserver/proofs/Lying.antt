-- Objects under a base, and the list of them.
use Rattle.std.proofs.Common.{◌≡◌, ℕ, Bool, true, false, cond, if◌then◌else◌, None, Some, Result, Ok, List, [], ◌∷◌, map, nat_eq, refl, ap, ◌∙◌}
use Rattle.std.specs.Cmp.Lexicographic.{slice_cmp}
use Rattle.std.specs.List.{starts_with}
use Rattle.std.specs.Ordering.{match_ordering, nat_cmp}
use Rattle.std.specs.declared.cmp.Ordering.{Ordering}
use Rattle.std.specs.declared.cmp.Ordering.TheVariants.{Less, Equal, Greater}
use Rattle.std.specs.Str.{bytes_eq}
use Rattle.hex.specs.Hex.{encode_lower}
use Rattle.sha2.specs.Sha256.{sha256}
use Rattle.rpki_publication.specs.declared.publish_delta_element.PublishDeltaElement.{PublishDeltaElement}
use Rattle.rpki_publication.specs.declared.publish_delta_element.PublishDeltaElement.TheVariants as change
use Rattle.rpki_publication.specs.declared.report_error_code.ReportErrorCode.TheVariants as code
use Rattle.rpki_publication.specs.ListReply.{withdrawal_of}
use Rattle.rpki_pubserver.specs.Changes.{Refused, after_all, after_element, changed, code_at, code_of, uri_of}
use Rattle.rpki_pubserver.specs.Store.{LieUnder, Store, digest_at, listed_store, put, without}
use Rattle.rpki_common.proofs.Truths.{equal_octets}

-- ---- one change

abbrev IsUnder : List ℕ → List ℕ → Type 0
IsUnder base uri = starts_with nat_eq uri base ≡ true

lie_put : (base uri octets : List ℕ) (store : Store) → IsUnder base uri → LieUnder base store → LieUnder base (put store uri octets)
lie_put base uri octets [] here lie = (here, tt)
lie_put base uri octets (pair ∷ store) here lie = by (slice_cmp nat_cmp uri pair.0) (lie_put base uri octets store here lie.1)
  where
    by : (o : Ordering) → LieUnder base (put store uri octets) → LieUnder base (match_ordering o ((uri, octets) ∷ pair ∷ store) ((pair.0, octets) ∷ store) (pair ∷ put store uri octets))
    by Less more = (here, lie)
    by Equal more = (lie.0, lie.1)
    by Greater more = (lie.0, more)

lie_without : (base uri : List ℕ) (store : Store) → LieUnder base store → LieUnder base (without store uri)
lie_without base uri [] lie = tt
lie_without base uri (pair ∷ store) lie = by (bytes_eq uri pair.0) (lie_without base uri store lie.1)
  where
    by : (b : Bool) → LieUnder base (without store uri) → LieUnder base (cond b store (pair ∷ without store uri))
    by true more = lie.1
    by false more = (lie.0, more)

lie_changed : (base : List ℕ) (store : Store) (e : PublishDeltaElement) → IsUnder base (uri_of e) → LieUnder base store → LieUnder base (changed store e)
lie_changed base store (change.Publish p) here lie = lie_put base p.uri p.content store here lie
lie_changed base store (change.Update u) here lie = lie_put base u.uri u.content store here lie
lie_changed base store (change.Withdraw w) here lie = lie_without base w.uri store lie

-- a change that is made is under the base
under_made : (base : List ℕ) (store : Store) (e : PublishDeltaElement) → code_of base store e ≡ None → IsUnder base (uri_of e)
under_made base store e none = by (starts_with nat_eq (uri_of e) base) none
  where
    by : (b : Bool) → (if b then code_at e (digest_at store (uri_of e)) else Some code.PermissionFailure) ≡ None → b ≡ true
    by true n = refl
    by false n = cc

pub lie_made : (base : List ℕ) (store : Store) (e : PublishDeltaElement) → code_of base store e ≡ None → LieUnder base store → LieUnder base (changed store e)
lie_made base store e none lie = lie_changed base store e (under_made base store e none) lie

-- ---- the list

-- a withdraw of the first object is made
first_taken : (base uri octets : List ℕ) (store : Store) → IsUnder base uri → after_element base ((uri, octets) ∷ store) (change.Withdraw (record { tag = Some (encode_lower (sha256 octets)); uri = uri; hash = sha256 octets })) ≡ Ok store
first_taken base uri octets store under = rw under (rw (equal_octets uri) (rw (equal_octets (sha256 octets)) refl))

pub none_left : (base : List ℕ) (store : Store) → LieUnder base store → after_all base (Ok store) (map (λ e. change.Withdraw (withdrawal_of e)) (listed_store store)) ≡ Ok []
none_left base [] lie = refl
none_left base (pair ∷ store) lie =
    ap (λ (r : Result Store Refused). after_all base r (map (λ e. change.Withdraw (withdrawal_of e)) (listed_store store))) (first_taken base pair.0 pair.1 store lie.0) ∙ none_left base store lie.1
