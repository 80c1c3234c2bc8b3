use Rattle.std.proofs.Common.{Some, sym, ap, ◌∙◌}
use Rattle.std.proofs.lemmas.Result.{IfOk-weaker}
use Rattle.rpki_ca.specs.declared.command.Verb.TheVariants as verbs
use Rattle.rpki_ca.proofs.Commands.{no_verb, no_other}
use Rattle.rpki_ca.proofs.words.Words.command.Goals as goal

pub returns-in-None-clause-none : goal.returns-in-None-clause-none
returns-in-None-clause-none c = λ n. no_verb c.args.self.now (sym c.verb.ensures ∙ c.in-None.is)

pub returns-in-Some-Content-clause-none : goal.returns-in-Some-Content-clause-none
returns-in-Some-Content-clause-none c = λ n.
    no_other c.args.self.now verbs.Content (sym c.verb.ensures ∙ c.in-Some-Content.is ∙ ap Some c.in-Some-Content.field-0-is) (c.content.ensures.none n)

pub returns-in-Some-Receive-clause-none : goal.returns-in-Some-Receive-clause-none
returns-in-Some-Receive-clause-none c =
    IfOk-weaker c.receive.result _ _ (λ o f n. no_other c.args.self.now verbs.Receive (sym c.verb.ensures ∙ c.in-Some-Receive.is ∙ ap Some c.in-Some-Receive.field-0-is) (f n)) c.receive.ensures.none

pub returns-in-Some-Create-clause-none : goal.returns-in-Some-Create-clause-none
returns-in-Some-Create-clause-none c = λ n.
    no_other c.args.self.now verbs.Create (sym c.verb.ensures ∙ c.in-Some-Create.is ∙ ap Some c.in-Some-Create.field-0-is) (c.create.ensures.none n)

pub returns-in-Some-Setup-clause-none : goal.returns-in-Some-Setup-clause-none
returns-in-Some-Setup-clause-none c = λ n.
    no_other c.args.self.now verbs.Setup (sym c.verb.ensures ∙ c.in-Some-Setup.is ∙ ap Some c.in-Some-Setup.field-0-is) (c.setup.ensures.none n)

pub returns-in-Some-Make-clause-none : goal.returns-in-Some-Make-clause-none
returns-in-Some-Make-clause-none c = λ n.
    no_other c.args.self.now verbs.Make (sym c.verb.ensures ∙ c.in-Some-Make.is ∙ ap Some c.in-Some-Make.field-0-is) (c.make.ensures.none n)
