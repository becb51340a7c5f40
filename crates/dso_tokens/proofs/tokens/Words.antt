-- Reserved words and names.
use Rattle.std.proofs.Common.{◌≡◌, ◌≢◌, Bool, true, false, cond, List, [], ◌∷◌, find, Option, Some, None, refl, sym, subst, ap, ◌∙◌}
use Rattle.std.proofs.lemmas.Option.{none-some, same_Some}
use Rattle.std.proofs.lemmas.Slice.Eq.{bytes_eq-Decides}
use Rattle.std.specs.List.{list_all}
use Rattle.std.specs.Str.{bytes_eq}
use Rattle.dso_tokens.specs.declared.token.Keyword.{Keyword}
use Rattle.dso_tokens.specs.declared.token.Keyword.TheVariants as k
use Rattle.dso_tokens.specs.Bytes.{Text, begins, is_letter, is_word}
use Rattle.dso_tokens.specs.Spelling.{word_of, every_keyword}
use Rattle.dso_tokens.specs.Scan.{keyword_of}

-- what each reserved word is: a word that begins with a letter, and is found by its writing
pub record IsReserved (reserved : Keyword) : Type 0 where
  pub starts : begins is_letter (word_of reserved) ≡ true
  pub goes : list_all is_word (word_of reserved) ≡ true
  pub known : keyword_of (word_of reserved) ≡ Some reserved

pub reserved_is : (reserved : Keyword) → IsReserved reserved
reserved_is k.Class = record { starts = refl; goes = refl; known = refl }
reserved_is k.Static = record { starts = refl; goes = refl; known = refl }
reserved_is k.Synchronized = record { starts = refl; goes = refl; known = refl }
reserved_is k.Thread = record { starts = refl; goes = refl; known = refl }
reserved_is k.Var = record { starts = refl; goes = refl; known = refl }
reserved_is k.If = record { starts = refl; goes = refl; known = refl }
reserved_is k.Else = record { starts = refl; goes = refl; known = refl }
reserved_is k.While = record { starts = refl; goes = refl; known = refl }
reserved_is k.Wait = record { starts = refl; goes = refl; known = refl }
reserved_is k.Notify = record { starts = refl; goes = refl; known = refl }
reserved_is k.NotifyAll = record { starts = refl; goes = refl; known = refl }
reserved_is k.Print = record { starts = refl; goes = refl; known = refl }
reserved_is k.Return = record { starts = refl; goes = refl; known = refl }
reserved_is k.New = record { starts = refl; goes = refl; known = refl }
reserved_is k.This = record { starts = refl; goes = refl; known = refl }
reserved_is k.Null = record { starts = refl; goes = refl; known = refl }
reserved_is k.True = record { starts = refl; goes = refl; known = refl }
reserved_is k.False = record { starts = refl; goes = refl; known = refl }
reserved_is k.Long = record { starts = refl; goes = refl; known = refl }
reserved_is k.Boolean = record { starts = refl; goes = refl; known = refl }
reserved_is k.Text = record { starts = refl; goes = refl; known = refl }
reserved_is k.Ref = record { starts = refl; goes = refl; known = refl }

found_at : {X : Type 0} (p : X → Bool) (y : X) (xs : List X) (x : X) (test : Bool) → p y ≡ test → (find p xs ≡ Some x → p x ≡ true)
    → cond test (Some y) (find p xs) ≡ Some x → p x ≡ true
found_at p y xs x true is behind found = subst (λ z. p z ≡ true) (same_Some y x found) is
found_at p y xs x false is behind found = behind found

-- what a search finds passes its test
pub find_passes : {X : Type 0} (p : X → Bool) (xs : List X) (x : X) → find p xs ≡ Some x → p x ≡ true
find_passes p [] x found = absurd (none-some x found)
find_passes p (y ∷ xs) x found = found_at p y xs x (p y) refl (find_passes p xs x) found

-- what is found by its writing is written so
pub keyword_written : (word : Text) (reserved : Keyword) → keyword_of word ≡ Some reserved → word ≡ word_of reserved
keyword_written word reserved found = sym ((bytes_eq-Decides (word_of reserved) word).0 (find_passes (λ r. bytes_eq (word_of r) word) every_keyword reserved found))

-- what is not found is written as none
pub none_written : (word : Text) → keyword_of word ≡ None → (reserved : Keyword) → word ≢ word_of reserved
none_written word missing reserved same = none-some reserved (sym missing ∙ ap keyword_of same ∙ (reserved_is reserved).known)

-- and what is written as none is not found
pub not_found : (word : Text) (found : Option Keyword) → keyword_of word ≡ found → ((reserved : Keyword) → word ≢ word_of reserved) → found ≡ None
not_found word None is other = refl
not_found word (Some reserved) is other = absurd (other reserved (keyword_written word reserved is))
