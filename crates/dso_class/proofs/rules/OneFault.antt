-- A text has one first fault at most, and none where no token breaks a rule.
use Rattle.std.proofs.Common.{◌≡◌, ℕ, ◌≤◌, List, [], ◌∷◌, ◌++◌, reverse, slice_get, Some, refl, sym, subst, ap, ◌∙◌, arith, append_assoc}
use Rattle.std.proofs.lemmas.List.{reverse-append, reverse-reverse}
use Rattle.std.proofs.lemmas.Option.{same_Some}
use Rattle.dso_config.specs.declared.config.Config.{Config}
use Rattle.dso_syntax.specs.declared.tree.Ast.{Ast}
use Rattle.dso_class.specs.declared.fault.NameKind.{NameKind}
use Rattle.dso_class.specs.declared.fault.NameKind.TheVariants as kind
use Rattle.dso_class.specs.declared.fault.What.TheVariants as what
use Rattle.dso_class.specs.declared.program.Program.{Program}
use Rattle.dso_class.specs.Mentions.{Mention, mentions_of}
use Rattle.dso_class.specs.NameFaults.{Breaks, rank, IsClean, IsFirstFault}
use Rattle.dso_class.specs.TextProgram.{IsProgramOf}

-- the faults by their rank
all_kinds : List NameKind
all_kinds = kind.UnknownClass ∷ kind.UnknownClass ∷ kind.UnknownMethod ∷ kind.Twice ∷ kind.WrongArguments ∷ kind.UnknownRoot ∷ kind.NoAutolock
    ∷ kind.TooMany what.Classes ∷ kind.TooMany what.Fields ∷ kind.TooMany what.Statics ∷ kind.TooMany what.Methods ∷ kind.TooMany what.Parameters
    ∷ kind.TooMany what.Variables ∷ kind.TooMany what.Texts ∷ kind.TooMany what.Threads ∷ kind.NoSuchClient ∷ kind.UnknownVariable ∷ []

-- each fault stands at its rank
at_rank : (which : NameKind) → slice_get all_kinds (rank which) ≡ Some which
unfolding all_kinds
at_rank kind.UnknownClass = refl
at_rank kind.UnknownMethod = refl
at_rank kind.Twice = refl
at_rank kind.WrongArguments = refl
at_rank kind.UnknownRoot = refl
at_rank kind.NoAutolock = refl
at_rank (kind.TooMany what.Classes) = refl
at_rank (kind.TooMany what.Fields) = refl
at_rank (kind.TooMany what.Statics) = refl
at_rank (kind.TooMany what.Methods) = refl
at_rank (kind.TooMany what.Parameters) = refl
at_rank (kind.TooMany what.Variables) = refl
at_rank (kind.TooMany what.Texts) = refl
at_rank (kind.TooMany what.Threads) = refl
at_rank kind.NoSuchClient = refl
at_rank kind.UnknownVariable = refl

-- faults of one rank are one
same_rank : (one other : NameKind) → rank one ≡ rank other → one ≡ other
same_rank one other same = same_Some one other (sym (at_rank one) ∙ ap (slice_get all_kinds) same ∙ at_rank other)

-- where all mentions are clean, each of them is, with those before it
clean_at : (config : Config) (ast : Ast) (near : List Mention) (here : Mention) (before : List Mention) → IsClean config ast (near ++ here ∷ before) → (which : NameKind) → Breaks config ast before here.what which → ⊥
clean_at config ast [] here before clean = clean.1
clean_at config ast (first ∷ near) here before clean = clean_at config ast near here before clean.0

-- the first of a list, and the rest
first_of_list : Mention → List Mention → Mention
first_of_list other [] = other
first_of_list other (x ∷ xs) = x

rest_of : List Mention → List Mention
rest_of [] = []
rest_of (x ∷ xs) = xs

same_first : (x y : Mention) (xs ys : List Mention) → ◌≡◌ {A = List Mention} (x ∷ xs) (y ∷ ys) → x ≡ y
unfolding first_of_list
same_first x y xs ys same = ap (first_of_list x) same

same_rest : (x y : Mention) (xs ys : List Mention) → ◌≡◌ {A = List Mention} (x ∷ xs) (y ∷ ys) → xs ≡ ys
unfolding rest_of
same_rest x y xs ys same = ap rest_of same

-- how two places of one list lie: they are one, or one lies before the other
pub data Places (here there : Mention) (before behind : List Mention) : Type 0 where
  one : here ≡ there → before ≡ behind → Places here there before behind
  farther : (more : List Mention) → before ≡ more ++ there ∷ behind → Places here there before behind
  nearer : (more : List Mention) → behind ≡ more ++ here ∷ before → Places here there before behind

places : (near close : List Mention) (here there : Mention) (before behind : List Mention) → near ++ here ∷ before ≡ close ++ there ∷ behind → Places here there before behind
places [] [] here there before behind same = one (same_first here there before behind same) (same_rest here there before behind same)
places [] (y ∷ close) here there before behind same = farther close (same_rest here y before (close ++ there ∷ behind) same)
places (x ∷ near) [] here there before behind same = nearer near (sym (same_rest x there (near ++ here ∷ before) behind same))
places (x ∷ near) (y ∷ close) here there before behind same = places near close here there before behind (same_rest x y (near ++ here ∷ before) (close ++ there ∷ behind) same)

-- the mentions from the last to the first, as they lie round a place
turned : (all before : List Mention) (here : Mention) (after : List Mention) → all ≡ reverse before ++ here ∷ after → reverse all ≡ reverse after ++ here ∷ before
turned all before here after is =
    ap reverse is ∙ reverse-append (reverse before) (here ∷ after) ∙ ap (λ front. reverse (here ∷ after) ++ front) (reverse-reverse before)
    ∙ ap (λ front. front ++ before) (reverse-append (here ∷ []) after) ∙ append_assoc (reverse after) (here ∷ []) before

-- the fault at a place is told by what breaks there
told : (config : Config) (ast : Ast) (which other : NameKind) (line at : ℕ) (fault : IsFirstFault config ast which line) (second : IsFirstFault config ast other at)
    → fault.here ≡ second.here → fault.before ≡ second.before → (which ≡ other) × (line ≡ at)
told config ast which other line at fault second same_here same_before =
    let there = subst (λ before. Breaks config ast before second.here.what which) same_before (subst (λ here. Breaks config ast fault.before here.what which) same_here fault.breaks) in
    let back = subst (λ before. Breaks config ast before fault.here.what other) (sym same_before) (subst (λ here. Breaks config ast second.before here.what other) (sym same_here) second.breaks) in
    let below : rank which ≤ rank other = fault.least other back in
    let above : rank other ≤ rank which = second.least which there in
    (same_rank which other (grind (arith, below, above)), sym fault.on_line ∙ ap (λ here. here.line) same_here ∙ second.on_line)

-- two first faults are one
decided : (config : Config) (ast : Ast) (which other : NameKind) (line at : ℕ) (fault : IsFirstFault config ast which line) (second : IsFirstFault config ast other at)
    → Places fault.here second.here fault.before second.before → (which ≡ other) × (line ≡ at)
decided config ast which other line at fault second (one same_here same_before) = told config ast which other line at fault second same_here same_before
decided config ast which other line at fault second (farther more is) =
    absurd (clean_at config ast more second.here second.before (subst (IsClean config ast) is fault.clean_before) other second.breaks)
decided config ast which other line at fault second (nearer more is) =
    absurd (clean_at config ast more fault.here fault.before (subst (IsClean config ast) is second.clean_before) which fault.breaks)

pub one_fault : (config : Config) (ast : Ast) (which other : NameKind) (line at : ℕ) → IsFirstFault config ast which line → IsFirstFault config ast other at → (which ≡ other) × (line ≡ at)
one_fault config ast which other line at fault second =
    decided config ast which other line at fault second
    (places (reverse fault.after) (reverse second.after) fault.here second.here fault.before second.before
    (sym (turned (mentions_of ast) fault.before fault.here fault.after fault.stands) ∙ turned (mentions_of ast) second.before second.here second.after second.stands))

-- a program has no fault
pub no_fault : (config : Config) (ast : Ast) (program : Program) (which : NameKind) (line : ℕ) → IsProgramOf config ast program → IsFirstFault config ast which line → ⊥
no_fault config ast program which line is fault =
    clean_at config ast (reverse fault.after) fault.here fault.before
    (subst (IsClean config ast) (turned (mentions_of ast) fault.before fault.here fault.after fault.stands) is.no_fault) which fault.breaks
