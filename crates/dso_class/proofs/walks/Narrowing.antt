-- Numbers of variables and text literals, which are small: in 32 bits they are themselves.
use Rattle.std.proofs.Common.{◌≡◌, ◌∙◌, ℕ, ◌<◌, ◌≤◌, arith, List, length, subst, sym}
use Rattle.std.proofs.lemmas.Option.{slice_get_within}
use Rattle.dso_config_entries.specs.Words.{Word}
use Rattle.dso_class.specs.Mentions.{Mention}
use Rattle.dso_class.specs.Numbers.{IsNumber}
use Rattle.dso_class.specs.Gathered.{capped}
use Rattle.dso_class.specs.Limits.{most_texts}
use Rattle.dso_class.specs.BodyWalk.{Met, HasMet}
use Rattle.dso_class.proofs.gathering.FieldsAndMethods.{capped_small}

-- a number below a few thousands is itself in 32 bits
pub itself : (number given : ℕ) → number < most_texts → given ≡ capped number → given ≡ number
itself number given below is = is ∙ capped_small number (omega (arith, below))

-- what is a word's number among few is so in 32 bits
pub still_number : (words : List Word) (word : Word) (number given : ℕ) → length words ≤ most_texts → IsNumber words word number → given ≡ capped number → IsNumber words word given
still_number words word number given few found is =
    subst (IsNumber words word) (sym (itself number given (omega (arith, few, slice_get_within words number word found)) is)) found

-- a variable's number is so in 32 bits
pub variable_number : {before : List Mention} {met : Met} (name : Word) (number given : ℕ) → HasMet before met → IsNumber met.variables name number → given ≡ capped number → IsNumber met.variables name given
variable_number {met = met} name number given has = still_number met.variables name number given (omega (arith, has.few_variables))
