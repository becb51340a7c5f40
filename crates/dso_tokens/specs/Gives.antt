-- What the functions of the parser answer, told by the reader over tokens.
use Rattle.std.specs.Prelude.{◌≡◌, Result, Ok, Err}
use Rattle.dso_tokens.specs.declared.cursor.Rest.{Rest}
use Rattle.dso_tokens.specs.declared.stop.Stop.{Stop}
use Rattle.dso_tokens.specs.declared.stop.Stop.TheVariants as stop
use Rattle.dso_tokens.specs.TokenReader.{Input, Outcome, unexpected, too_wide, too_deep}

-- what is left, as the reader has it
abbrev pub input : Rest → Input
input rest = record { tokens = rest.tokens.now; room = rest.room }

-- Reading stops for this cause, unless memory ran out.
abbrev pub Fails : {A : Type 0} → Stop → Outcome A → Type 0
Fails (stop.Unexpected tokens) outcome = outcome ≡ Err (unexpected, tokens.now)
Fails (stop.TooWide tokens) outcome = outcome ≡ Err (too_wide, tokens.now)
Fails (stop.TooDeep tokens) outcome = outcome ≡ Err (too_deep, tokens.now)
Fails (stop.NoMemory refused) outcome = Unit {0}

-- What a function answered, with the value seen so, is what the reader gives, unless memory ran out.
abbrev pub Gives : {A B : Type 0} → (A → B) → Result (A × Rest) Stop → Outcome B → Type 0
Gives view (Ok p) outcome = outcome ≡ Ok (view p.0, input p.1)
Gives view (Err why) outcome = Fails why outcome
