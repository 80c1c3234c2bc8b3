-- What is lawful in DER is lawful in BER.
use Rattle.std.proofs.Common.{ℕ, List, [], ◌∷◌, length}
use Rattle.rpki_der.specs.declared.mode.Mode.{Mode}
use Rattle.rpki_der.specs.declared.mode.Mode.TheVariants.{Ber, Der}
use Rattle.rpki_der.specs.Lengths.{IsLength}
use Rattle.rpki_der.specs.Value.{Form, Definite, Indefinite, Value, Primitive, Constructed, Values, End, ◌▸◌, spellings, IsForm, IsValue, AreValues, Begins}

pub loose_length : (octets : List ℕ) (n : ℕ) → IsLength Der octets n → IsLength Ber octets n
loose_length [] n p = p
loose_length (a ∷ []) n p = p
loose_length (a ∷ b ∷ more) n p = (p.0, p.1, p.2, tt)

loose_form : (form : Form) (n : ℕ) → IsForm Der form n → IsForm Ber form n
loose_form (Definite octets) n p = loose_length octets n p
loose_form Indefinite n p = tt

mutual
  pub loose_value : (v : Value) → IsValue Der v → IsValue Ber v
  loose_value (Primitive i l c) p = (p.0, p.1, loose_length l (length c) p.2)
  loose_value (Constructed i f vs) p = (p.0, p.1, loose_form f (length (spellings vs)) p.2, loose_values vs p.3)

  pub loose_values : (vs : Values) → AreValues Der vs → AreValues Ber vs
  loose_values End p = tt
  loose_values (v ▸ vs) p = (loose_value v p.0, loose_values vs p.1)

pub loose_begins : (octets : List ℕ) (v : Value) (rest : List ℕ) → Begins Der octets v rest → Begins Ber octets v rest
loose_begins octets v rest b = record { lawful = loose_value v b.lawful; parts = b.parts }

-- what is lawful in either mode
pub in_ber : (mode : Mode) (v : Value) → IsValue mode v → IsValue Ber v
in_ber Ber v p = p
in_ber Der v p = loose_value v p
