-- What is decided by what is known, of every store of which it is so.
use Rattle.std.proofs.Common.{◌≡◌, ◌+◌, ◌<◌, ℕ, zero, suc, Bool, true, false, Option, None, Some, Ok, Err, List, [], ◌∷◌, length, get_or, take, refl, sym, ap, subst, ◌∙◌, arith}
use Rattle.std.specs.Map.{lookup}
use Rattle.std.specs.Option.{option_map}
use Rattle.std.specs.Str.{bytes_eq}
use Rattle.std.proofs.lemmas.Slice.Eq.{bytes_eq-Decides}
use Rattle.sha2.specs.Sha256.{sha256}
use Rattle.rpki_publication.specs.declared.publish_delta_element.PublishDeltaElement.{PublishDeltaElement}
use Rattle.rpki_publication.specs.declared.publish_delta_element.PublishDeltaElement.TheVariants as change
use Rattle.rpki_publication.specs.declared.report_error_code.ReportErrorCode.{ReportErrorCode}
use Rattle.rpki_pubserver.specs.Changes.{after_all, all_made, changed, code_of, code_under, uri_of}
use Rattle.rpki_pubserver.specs.Deciding.{AgreesAt, AgreesOn, Knowledge}
use Rattle.rpki_pubserver.specs.Places.{flattened, object_of, with_object}
use Rattle.rpki_pubserver.specs.Store.{IsStore, Store, digest_at, octets_at}
use Rattle.rpki_pubserver.proofs.Entries.{put_elsewhere, put_here, removed_elsewhere, removed_here, set_elsewhere, set_here}
use Rattle.rpki_pubserver.proofs.Making.{one_made, one_more_made, one_refused}
use Rattle.rpki_pubserver.proofs.Ordered.{changed_ordered}

-- ---- the object at a URI behind a change

octets_here : (store : Store) (e : PublishDeltaElement) → IsStore store → octets_at (changed store e) (uri_of e) ≡ object_of e
octets_here store (change.Publish p) ordered = put_here p.uri store p.content
octets_here store (change.Update u) ordered = put_here u.uri store u.content
octets_here store (change.Withdraw w) ordered = removed_here w.uri store ordered

octets_elsewhere : (store : Store) (e : PublishDeltaElement) (uri : List ℕ) → bytes_eq uri (uri_of e) ≡ false → octets_at (changed store e) uri ≡ octets_at store uri
octets_elsewhere store (change.Publish p) uri apart = put_elsewhere uri p.uri apart store p.content
octets_elsewhere store (change.Update u) uri apart = put_elsewhere uri u.uri apart store u.content
octets_elsewhere store (change.Withdraw w) uri apart = removed_elsewhere uri w.uri apart store

-- ---- what is known behind a change

abbrev pub known_behind : Knowledge → PublishDeltaElement → Knowledge
known_behind known e = with_object known (uri_of e) (option_map sha256 (object_of e))

agrees_behind : (store : Store) (known : Knowledge) (e : PublishDeltaElement) (uri : List ℕ) → IsStore store → AgreesAt store known (uri_of e) → AgreesAt store known uri → AgreesAt (changed store e) (known_behind known e) uri
agrees_behind store known e uri ordered here there = by (bytes_eq uri (uri_of e)) refl
  where
    by : (b : Bool) → bytes_eq uri (uri_of e) ≡ b → AgreesAt (changed store e) (known_behind known e) uri
    by true same =
        subst (λ (u : List ℕ). AgreesAt (changed store e) (known_behind known e) u) (sym ((bytes_eq-Decides uri (uri_of e)).0 same))
        (set_here (uri_of e) known (digest_at store (uri_of e)) (option_map sha256 (object_of e)) here ∙ ap (λ (o : Option (List ℕ)). Some (option_map sha256 o)) (sym (octets_here store e ordered)))
    by false apart =
        set_elsewhere uri (uri_of e) apart known (option_map sha256 (object_of e)) ∙ there ∙ ap (λ (o : Option (List ℕ)). Some (option_map sha256 o)) (sym (octets_elsewhere store e uri apart))

all_agree_behind : (store : Store) (known : Knowledge) (e : PublishDeltaElement) (changes : List PublishDeltaElement) → IsStore store → AgreesAt store known (uri_of e) → AgreesOn store known changes → AgreesOn (changed store e) (known_behind known e) changes
all_agree_behind store known e [] ordered here all = tt
all_agree_behind store known e (c ∷ changes) ordered here all = (agrees_behind store known e (uri_of c) ordered here all.0, all_agree_behind store known e changes ordered here all.1)

agrees_at : (store : Store) (known : Knowledge) (changes : List PublishDeltaElement) (i : ℕ) (e : PublishDeltaElement) → AgreesOn store known changes → i < length changes → e ≡ get_or changes i e → AgreesAt store known (uri_of e)
agrees_at store known [] i e all lt at = absurd (omega (arith, lt))
agrees_at store known (c ∷ changes) zero e all lt at = subst (λ (x : PublishDeltaElement). AgreesAt store known (uri_of x)) (sym at) all.0
agrees_at store known (c ∷ changes) (suc i) e all lt at = agrees_at store known changes i e all.1 (omega (arith, lt)) at

-- ---- the first changes are made

-- they are made of every store of which what is known is so, and what is known is then so of the store behind them
pub record AreDecided (base : List ℕ) (first : Store) (changes : List PublishDeltaElement) (i : ℕ) (known : Knowledge) : Type 0 where
  pub ordered : IsStore (all_made first (take i changes))
  pub agrees : AgreesOn (all_made first (take i changes)) known changes
  pub made : after_all base (Ok first) (take i changes) ≡ Ok (all_made first (take i changes))

pub at_first : (base : List ℕ) (first : Store) (changes : List PublishDeltaElement) (known : Knowledge) → IsStore first → AgreesOn first known changes → AreDecided base first changes 0 known
at_first base first changes known ordered agrees = record { ordered = ordered; agrees = agrees; made = refl }

module _ (base : List ℕ) (first : Store) (changes : List PublishDeltaElement) (i : ℕ) (e : PublishDeltaElement) (known : Knowledge) (lt : i < length changes) (at : e ≡ get_or changes i e) (so_far : AreDecided base first changes i known) where
  abbrev so : Store
  so = all_made first (take i changes)

  here : AgreesAt so known (uri_of e)
  here = agrees_at so known changes i e so_far.agrees lt at

  -- why the next isn't made is told by what is known
  told : code_under base e (flattened (lookup (bytes_eq (uri_of e)) known)) ≡ code_of base so e
  told = ap (λ (o : Option (Option (List ℕ))). code_under base e (flattened o)) here

  pub one_more_decided : (next : Knowledge) → None ≡ code_under base e (flattened (lookup (bytes_eq (uri_of e)) known)) → next ≡ known_behind known e → AreDecided base first changes (i + 1) next
  one_more_decided next none is =
      let behind : changed so e ≡ all_made first (take (i + 1) changes) = one_more_made first changes i e so lt at refl in
      record {
        ordered = subst IsStore behind (changed_ordered so e so_far.ordered);
        agrees = subst (λ (s : Store). AgreesOn s next changes) behind (subst (λ (k : Knowledge). AgreesOn (changed so e) k changes) (sym is) (all_agree_behind so known e changes so_far.ordered here so_far.agrees));
        made = one_made base (Ok first) changes i e so (all_made first (take (i + 1) changes)) lt at so_far.made (none ∙ told) (sym behind);
      }

  pub next_refused : (code : ReportErrorCode) → Some code ≡ code_under base e (flattened (lookup (bytes_eq (uri_of e)) known)) → after_all base (Ok first) changes ≡ Err (record { element = e; code = code })
  next_refused code some = one_refused base (Ok first) changes i e so code lt at so_far.made (some ∙ told)
