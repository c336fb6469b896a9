-- An answer for C that is the form of one case of what a call answers.
use mathlib.Core.Path.{◌≡◌, sym, ap, ◌∙◌}
use Rattle.tangle.specs.ForC.{Gives}

pub in_case : {A B : Type 0} {call : A → Type 0} (form : A → B) {given case : A} {answer : B} → call given → given ≡ case →
    answer ≡ form case → Gives call form answer
in_case form {given} called is told = record { given = given; called = called; answers = told ∙ ap form (sym is) }
