-- The command that words with `receive` in front ask for.
use Rattle.std.proofs.Common.{◌≡◌, Some, List, ◌∷◌, codes, sym, subst, ℕ}
use Rattle.rpki_ca.specs.declared.command.Command.{Command}
use Rattle.rpki_ca.specs.declared.command.Verb.{Verb}
use Rattle.rpki_ca.specs.declared.command.Verb.TheVariants as verbs
use Rattle.rpki_ca.specs.Command.{Ask, AskToReceive, IsCommand}
use Rattle.rpki_common.specs.Chaining.{◌>>=◌}
use Rattle.rpki_ca.proofs.Commands.{ask_with}

some_verb : (a b : Verb) → Some a ≡ Some b → a ≡ b
some_verb a b e = cc

pub asks_to_receive : (behind : List (List ℕ)) (c : Command) → IsCommand (codes "receive" ∷ behind) c → AskToReceive (codes "receive" ∷ behind) c
unfolding ◌>>=◌
asks_to_receive behind c is =
    let verb : Some verbs.Receive ≡ Some is.verb = ask_with is.verb (codes "receive" ∷ behind) c is.ask in
    subst (λ (v : Verb). Ask v (codes "receive" ∷ behind) c) (sym (some_verb verbs.Receive is.verb verb)) is.ask
