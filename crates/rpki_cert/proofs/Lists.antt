-- A list of purposes, of which each was read behind those before it.
use Rattle.std.proofs.Common.{◌≡◌, ℕ, Option, None, Some, List, [], ◌∷◌, ◌++◌, refl, sym, ap, ◌∙◌, append_assoc}
use Rattle.std.proofs.lemmas.List.{append-nil}
use Rattle.rpki_common.specs.Chaining.{◌>>=◌}
use Rattle.rpki_common.specs.Collecting.{collect}
use Rattle.rpki_common.proofs.Collected.{bind_assoc, bind_under}
use Rattle.rpki_der.specs.Value.{Value, Values}
use Rattle.rpki_der.specs.Grammar.{within, every, gather, so}
use Rattle.rpki_der.specs.Oid.{oid}
use Rattle.rpki_der.specs.Tags.{sequence}
use Rattle.rpki_der.proofs.Leftovers.{gather_every, gather_same, within_same}
use Rattle.rpki_cert.specs.ExtendedKeyUsage.{some_of, extended_key_usage}

abbrev pub and_one : List (List ℕ) → List ℕ → Option (List (List ℕ))
and_one before x = Some (before ++ x ∷ [])

collected : (before xs : List (List ℕ)) → collect and_one before xs ≡ Some (before ++ xs)
unfolding collect ◌>>=◌
collected before [] = ap Some (sym (append-nil before))
collected before (x ∷ more) = collected (before ++ x ∷ []) more ∙ ap Some (append_assoc before (x ∷ []) more)

one_then : (before : List (List ℕ)) (v : Value) → so oid (and_one before) v ≡ (oid v >>= and_one before)
unfolding so
one_then before v = refl

some_collected : (xs : List (List ℕ)) → (collect and_one [] xs >>= some_of) ≡ some_of xs
unfolding ◌>>=◌
some_collected xs = ap (λ o. o >>= some_of) (collected [] xs)

all_collected : (vs : Values) → (gather (λ s. so oid (and_one s)) [] vs >>= some_of) ≡ (every oid vs >>= some_of)
all_collected vs =
    ap (λ o. o >>= some_of) (gather_same (λ s. so oid (and_one s)) (λ t v. oid v >>= and_one t) [] vs one_then ∙ gather_every oid and_one [] vs)
    ∙ bind_assoc (every oid vs) (collect and_one []) some_of
    ∙ bind_under (every oid vs) (λ xs. collect and_one [] xs >>= some_of) some_of some_collected

pub purposes_are : (v : Value) → within sequence (λ vs. gather (λ s. so oid (and_one s)) [] vs >>= some_of) v ≡ extended_key_usage v
unfolding extended_key_usage
purposes_are v = within_same sequence _ _ v all_collected

pub none_of : (xs : List (List ℕ)) → xs ≡ [] → some_of xs ≡ None
none_of xs e = rw e refl

pub those_of : (xs : List (List ℕ)) → (xs ≡ [] → ⊥) → some_of xs ≡ Some xs
those_of [] n = absurd (n refl)
those_of (x ∷ more) n = refl
