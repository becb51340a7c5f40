-- Names that are declared: whether one is taken, and what is told where there is no memory.
use Rattle.std.proofs.Common.{ℕ, ◌≡◌, sym, ◌∙◌, subst, Bool, true, false, Option, Some, None, is_some, List, Contains, Result, Ok, Err, IsErr, IsErrAnd, IfErr}
use Rattle.std.specs.Borrow.{Bor}
use Rattle.dso_base.specs.declared.no_memory.NoMemory.{NoMemory}
use Rattle.dso_class.specs.declared.fault.NameFault.{NameFault}
use Rattle.dso_class.specs.declared.fault.NameFault.TheVariants as fault
use Rattle.dso_class.specs.declared.fault.What.{What}
use Rattle.dso_class.specs.Heads.{IsRefused, no_memory}
use Rattle.dso_config_entries.specs.BorrowedWords.{words_of}
use Rattle.dso_config_entries.specs.FirstPlace.{place_of}
use Rattle.dso_config_entries.specs.Words.{Word}
use Rattle.dso_config_entries.proofs.lists.Keyed as keyed
use Rattle.dso_config_entries.proofs.lists.BorrowedWords.{by_bytes, same_word, tied_word}

-- a name that has a number is taken
pub taken : (names : List (Bor Word)) (word : Bor Word) (place : Option ℕ) {found : Bool} {name : Word} → place ≡ place_of by_bytes names word → found ≡ is_some place → found ≡ true → word.now ≡ name
    → Contains (words_of names) name
taken names word None is tells finds spelt = absurd (cc (sym tells ∙ finds))
taken names word (Some n) is tells finds spelt = subst (Contains (words_of names)) spelt (keyed.there by_bytes (λ w. w.now) same_word tied_word names word n (sym is))

-- a name that has no number is free
pub free : (names : List (Bor Word)) (word : Bor Word) (place : Option ℕ) {found : Bool} {name : Word} → place ≡ place_of by_bytes names word → found ≡ is_some place → found ≡ false → word.now ≡ name
    → Contains (words_of names) name → ⊥
free names word None is tells fails spelt there = keyed.absent by_bytes (λ w. w.now) same_word tied_word names word (sym is) (subst (Contains (words_of names)) (sym spelt) there)
free names word (Some n) is tells fails spelt there = cc (sym tells ∙ fails)

-- where there was no memory the answer is right
pub refused : {A : Type 0} (Taken Full : Type 0) (sort : What) (line : ℕ) (result : Result A NameFault) {refusal : NoMemory} → IsErr result × IsErrAnd result (λ e. e ≡ fault.NoMemory refusal) → IfErr result (IsRefused Taken Full sort line)
refused Taken Full sort line (Ok value) fails = absurd fails.1
refused Taken Full sort line (Err e) fails = subst (IsRefused Taken Full sort line) (sym fails.1) (no_memory _)
