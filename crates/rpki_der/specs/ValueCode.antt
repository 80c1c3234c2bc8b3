-- How a proof stores a value: as a list of steps that put it together again. A value in a clause
-- needs this; nothing else cites it.
use Rattle.std.specs.Prelude.{◌≡◌, ℕ, List, [], ◌∷◌, refl}
use Rattle.std.specs.Coded.{Coded, code_by, coded_ℕ, coded_list}
use Rattle.std.proofs.Common.{◌∙◌}
use Rattle.rpki_der.specs.Value.{Form, Definite, Indefinite, Value, Primitive, Constructed, Values, End, ◌▸◌}

-- a constructed value is made of the last list of values
abbrev pub constructed_step : List ℕ → Form → List (List ℕ)
constructed_step identifier (Definite octets) = identifier ∷ octets ∷ []
constructed_step identifier Indefinite = identifier ∷ []

-- a list of no values is begun
abbrev pub end_step : List (List ℕ)
end_step = []

-- the last value goes to the front of the last list
abbrev pub front_step : List (List ℕ)
front_step = [] ∷ [] ∷ [] ∷ [] ∷ []

-- the steps that make a value, in front of later ones; and those that make a list of values
abbrev mutual
  pub steps : Value → List (List (List ℕ)) → List (List (List ℕ))
  steps (Primitive identifier lengths contents) later =
      (identifier ∷ lengths ∷ contents ∷ []) ∷ later
  steps (Constructed identifier form inner) later =
      all_steps inner (constructed_step identifier form ∷ later)

  pub all_steps : Values → List (List (List ℕ)) → List (List (List ℕ))
  all_steps End later = end_step ∷ later
  all_steps (v ▸ vs) later = all_steps vs (steps v (front_step ∷ later))

-- what the steps leave on top, from the values and the lists of values that were made before; where
-- a step finds nothing to work on, an empty primitive value comes
abbrev pub put_together : List (List (List ℕ)) → List Value → List Values → Value
put_together [] [] lists = Primitive [] [] []
put_together [] (v ∷ values) lists = v
put_together ([] ∷ later) values lists = put_together later values (End ∷ lists)
put_together ((i ∷ []) ∷ later) values [] = Primitive [] [] []
put_together ((i ∷ []) ∷ later) values (vs ∷ lists) =
    put_together later (Constructed i Indefinite vs ∷ values) lists
put_together ((i ∷ l ∷ []) ∷ later) values [] = Primitive [] [] []
put_together ((i ∷ l ∷ []) ∷ later) values (vs ∷ lists) =
    put_together later (Constructed i (Definite l) vs ∷ values) lists
put_together ((i ∷ l ∷ c ∷ []) ∷ later) values lists =
    put_together later (Primitive i l c ∷ values) lists
put_together ((i ∷ l ∷ c ∷ d ∷ more) ∷ later) [] lists = Primitive [] [] []
put_together ((i ∷ l ∷ c ∷ d ∷ more) ∷ later) (v ∷ values) [] = Primitive [] [] []
put_together ((i ∷ l ∷ c ∷ d ∷ more) ∷ later) (v ∷ values) (vs ∷ lists) =
    put_together later values ((v ▸ vs) ∷ lists)

-- the steps that make a value, or a list of values, put that together again, whatever comes later
abbrev mutual
  pub together : (v : Value) (later : List (List (List ℕ))) (values : List Value)
      (lists : List Values) → put_together (steps v later) values lists
      ≡ put_together later (v ∷ values) lists
  together (Primitive i l c) later values lists = refl
  together (Constructed i (Definite l) vs) later values lists =
      all_together vs (constructed_step i (Definite l) ∷ later) values lists
  together (Constructed i Indefinite vs) later values lists =
      all_together vs (constructed_step i Indefinite ∷ later) values lists

  pub all_together : (vs : Values) (later : List (List (List ℕ))) (values : List Value)
      (lists : List Values) → put_together (all_steps vs later) values lists
      ≡ put_together later values (vs ∷ lists)
  all_together End later values lists = refl
  all_together (v ▸ vs) later values lists =
      all_together vs (steps v (front_step ∷ later)) values lists
      ∙ together v (front_step ∷ later) values (vs ∷ lists)

-- values are stored as the lists of their steps
abbrev pub value_code : Coded Value
value_code = code_by (List (List (List ℕ))) (coded_list (coded_list (coded_list coded_ℕ)))
    (λ v. steps v []) (λ s. put_together s [] []) (λ v. together v [] [] [])
