-- Reading children one after the other, as a loop does.
use Rattle.std.proofs.Common.{◌≡◌, List, [], ◌∷◌, ◌++◌, Option, Some, None, refl, sym, ap, ◌∙◌, append_assoc}
use Rattle.std.proofs.lemmas.List.{append-nil}
use Rattle.rpki_common.specs.Chaining.{◌>>=◌}
use Rattle.rpki_xml.specs.declared.error.XmlError.{XmlError}
use Rattle.rpki_xml.specs.declared.error.XmlError.TheVariants as errors
use Rattle.rpki_xml.specs.Answers.{Fails}
use Rattle.rpki_xml.specs.Element.{Elements, first, Element, listed}
use Rattle.rpki_xml.specs.Tables.{each_of}
use Rattle.rpki_xml.proofs.Listed.{next_is, next_none}

-- what was read before, and what is still read
abbrev pub with_front : {X : Type 0} → List X → Option (List X) → Option (List X)
with_front front read = read >>= λ xs. Some (front ++ xs)

regroup : {X : Type 0} (front : List X) (x : X) (read : Option (List X))
    → with_front front (read >>= λ xs. Some (x ∷ xs)) ≡ with_front (front ++ x ∷ []) read
unfolding ◌>>=◌
regroup {X} front x (Some xs) = ap (λ (ys : List X). Some ys) (sym (append_assoc front (x ∷ []) xs))
regroup front x None = refl

front_nothing : {X : Type 0} (read : Option (List X)) → with_front [] read ≡ read
unfolding ◌>>=◌
front_nothing (Some xs) = refl
front_nothing None = refl

pub each_starts : {X : Type 0} (f : Element → Option X) (children : Elements) → with_front [] (each_of f children) ≡ each_of f children
each_starts f children = front_nothing (each_of f children)

-- one more element was read
pub each_more : {X : Type 0} (f : Element → Option X) (front : List X) (children : Elements) (e : Element) (rest : Elements) (x : X)
    (total : Option (List X)) → listed children ≡ e ∷ listed rest → f e ≡ Some x
    → with_front front (each_of f children) ≡ total → with_front (front ++ x ∷ []) (each_of f rest) ≡ total
unfolding each_of ◌>>=◌
each_more {X} f front children e rest x total split read so_far =
    let step : each_of f (first e.head e.children rest) ≡ (each_of f rest >>= λ xs. Some (x ∷ xs)) = rw read refl in
    let is = next_is children e rest split in
    sym (regroup front x (each_of f rest)) ∙ ap (with_front front) (sym step)
    ∙ ap (λ (c : Elements). with_front front (each_of f c)) (sym is) ∙ so_far

-- an element that isn't read ends it
pub each_none : {X : Type 0} (f : Element → Option X) (front : List X) (children : Elements) (e : Element) (rest : Elements)
    (total : Option (List X)) → listed children ≡ e ∷ listed rest → f e ≡ None → with_front front (each_of f children) ≡ total
    → total ≡ None
unfolding each_of ◌>>=◌
each_none f front children e rest total split none so_far =
    let step : each_of f (first e.head e.children rest) ≡ None = rw none refl in
    let is = next_is children e rest split in
    sym so_far ∙ ap (λ (c : Elements). with_front front (each_of f c)) is ∙ ap (with_front front) step

pub each_fails : {X : Type 0} (f : Element → Option X) (err : XmlError) (front : List X) (children : Elements) (e : Element)
    (rest : Elements) (total : Option (List X)) → listed children ≡ e ∷ listed rest → Fails err (f e)
    → with_front front (each_of f children) ≡ total → Fails err total
each_fails f errors.OutOfMemory front children e rest total split fails so_far = tt
each_fails f errors.Malformed front children e rest total split fails so_far =
    each_none f front children e rest total split fails so_far

-- the end
pub each_done : {X : Type 0} (f : Element → Option X) (front : List X) (children : Elements) (total : Option (List X))
    → listed children ≡ [] → with_front front (each_of f children) ≡ total → total ≡ Some front
unfolding each_of ◌>>=◌
each_done {X} f front children total end so_far =
    sym so_far ∙ ap (λ (c : Elements). with_front front (each_of f c)) (next_none children end)
    ∙ ap (λ (xs : List X). Some xs) (append-nil front)
