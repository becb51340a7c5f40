-- The fault that is answered is the text's fault.
use Rattle.std.proofs.Common.{◌≡◌, ℕ, zero, suc, List, [], ◌∷◌, ◌++◌, Some, None, Result, Ok, Err, refl, sym, subst, ap, ◌∙◌, append_assoc, append-nil, arith}
use Rattle.dso_tokens.specs.declared.token.Form.{Form}
use Rattle.dso_tokens.specs.declared.token.Form.TheVariants as form
use Rattle.dso_tokens.specs.declared.token.Token.{Token}
use Rattle.dso_tokens.specs.declared.token.Ending.{Ending}
use Rattle.dso_tokens.specs.declared.token.Ending.TheVariants as ending
use Rattle.dso_syntax.specs.declared.tree.Ast.{Ast}
use Rattle.dso_syntax.specs.declared.tree.Item.{Item}
use Rattle.dso_syntax.specs.declared.fault.SyntaxFault.{SyntaxFault}
use Rattle.dso_tokens.specs.Bytes.{Text}
use Rattle.dso_syntax.specs.Grammar.{Tokens}
use Rattle.dso_syntax.specs.TextLimits.{most_levels}
use Rattle.dso_syntax.specs.ProgramGrammar.{IsProgram, Tops}
use Rattle.dso_tokens.specs.Reading.{Reads}
use Rattle.dso_syntax.specs.SyntaxFaults.{IsPrefix, IsPrefixAtAnyDepth, narrowed, OpensLevel, IsWrong, unexpected, too_wide, too_deep, NoneWrong, EndsWrong, bad_byte, bad_token, too_short, HasFault, at_token, at_end}
use Rattle.dso_syntax.specs.ExpressionReader.{StopCause, Outcome}
use Rattle.dso_syntax.specs.ExpressionReader as reader
use Rattle.dso_syntax.specs.ProgramReader.{program}
use Rattle.dso_syntax.specs.ParseAnswer.{fault_at, fault_behind, answer_by, answer_of}
use Rattle.dso_syntax.proofs.completeness.ReadSteps.{at}
use Rattle.dso_syntax.proofs.soundness.SoundSteps.{err_is}
use Rattle.dso_syntax.proofs.completeness.ReadPrograms.{program_read}
use Rattle.dso_syntax.proofs.soundness.SoundPrograms.{program_came}
use Rattle.dso_syntax.proofs.prefixes.OneLevelMore.{lift_tops}
use Rattle.dso_syntax.proofs.lockstep.LockstepSteps.{Twin, itself, narrower, Setting}
use Rattle.dso_syntax.proofs.lockstep.LockstepPrograms.{program_fails}
use Rattle.dso_syntax.proofs.prefixes.StopSteps.{Ext, Quiet, Calm, held, quiet, Told, plain, wide, deep, whole_here, held_here, Some_of}
use Rattle.dso_syntax.proofs.prefixes.StopPrograms.{program_halts}
use Rattle.dso_syntax.proofs.faults.NoWideNumber.{program_narrow, narrow_at}

abbrev Programs : ℕ → Tokens → Type 0
Programs levels = Some_of Tops levels

begins_of : (levels : ℕ) (p : Tokens) → Ext (Programs levels) p → IsPrefix levels p
begins_of levels p ext = (ext.more, record { items = ext.holds.0 }, ext.holds.1)

begins_part : (levels : ℕ) (before after : Tokens) → IsPrefix levels (before ++ after) → IsPrefix levels before
begins_part levels before after b = (after ++ b.0, b.1, subst (λ z. IsProgram levels z b.1) (append_assoc before after b.0) b.2)

-- ---- tokens by what they stand for

same_narrowed : (t : Token) → (t.form ≡ form.Number None → ⊥) → narrowed t ≡ t
same_narrowed t narrow = pick t.form refl
  where
    pick : (f : Form) → t.form ≡ f → narrowed t ≡ t
    pick (form.Number None) is = absurd (narrow is)
    pick (form.Number (Some value)) is = rw is refl
    pick (form.Name name) is = rw is refl
    pick (form.Keyword word) is = rw is refl
    pick (form.Text content) is = rw is refl
    pick (form.Mark mark) is = rw is refl

twin_of : (t : Token) → Twin t (narrowed t)
twin_of t = pick t.form refl
  where
    self : narrowed t ≡ t → Twin t (narrowed t)
    self same = subst (Twin t) (sym same) itself

    pick : (f : Form) → t.form ≡ f → Twin t (narrowed t)
    pick (form.Number None) is = narrower is (rw is refl) refl
    pick (form.Number (Some value)) is = self (rw is refl)
    pick (form.Name name) is = self (rw is refl)
    pick (form.Keyword word) is = self (rw is refl)
    pick (form.Text content) is = self (rw is refl)
    pick (form.Mark mark) is = self (rw is refl)

-- ---- the tokens before are right

quiet_at : (before : Tokens) (t : Token) (after : Tokens) → Quiet (before ++ t ∷ after) → OpensLevel t → ⊥
quiet_at [] t after none opening = none.all.0 opening
quiet_at (u ∷ before) t after none opening = quiet_at before t after (record { all = none.all.1 }) opening

abbrev head_of : Token → Tokens → Token
head_of t [] = t
head_of t (u ∷ rest) = u

abbrev tail_of : Tokens → Tokens
tail_of [] = []
tail_of (u ∷ rest) = rest

-- the part reaches over the token
record Over (before : Tokens) (t : Token) (b : Tokens) : Type 0 where
  pub rest : Tokens
  pub is : b ≡ before ++ t ∷ rest

loud_in : (b c before : Tokens) (t : Token) (after : Tokens) → b ++ c ≡ before ++ t ∷ after → Quiet c → OpensLevel t → Over before t b
loud_in [] c before t after same none opening = absurd (quiet_at before t after (subst Quiet same none) opening)
loud_in (u ∷ b) c [] t after same none opening = record { rest = b; is = ap (λ z. z ∷ b) (ap (head_of u) same) }
loud_in (u ∷ b) c (v ∷ before) t after same none opening =
    let over = loud_in b c before t after (ap tail_of same) none opening in
    record { rest = over.rest; is = ap (λ z. z ∷ b) (ap (head_of u) same) ∙ ap (λ z. v ∷ z) over.is }

-- with the levels that there are the tokens go on over a token that opens one
over_begins : (levels : ℕ) (used before : Tokens) (t : Token) (after : Tokens) → Calm (Programs levels) used → used ≡ before ++ t ∷ after → OpensLevel t → IsPrefix levels (before ++ t ∷ [])
over_begins levels used before t after (held b c is none ext) same opening =
    let over = loud_in b c before t after (sym is ∙ same) none opening in
    begins_part levels (before ++ t ∷ []) over.rest (subst (IsPrefix levels) (over.is ∙ sym (append_assoc before (t ∷ []) over.rest)) (begins_of levels b ext))
over_begins levels used before t after (quiet none) same opening = absurd (quiet_at before t after (subst Quiet same none) opening)

wrong_not : (before : Tokens) (t : Token) (which : SyntaxFault) → IsPrefix 65 (before ++ t ∷ []) → (t.form ≡ form.Number None → ⊥) → (OpensLevel t → IsPrefix most_levels (before ++ t ∷ [])) → IsWrong before t which → ⊥
wrong_not before t which upto narrow within (unexpected none) = none (65, subst (λ u. IsPrefix 65 (before ++ u ∷ [])) (sym (same_narrowed t narrow)) upto)
wrong_not before t which upto narrow within (too_wide known some) = narrow known
wrong_not before t which upto narrow within (too_deep opening some none) = none (within opening)

none_wrong : (used : Tokens) → Calm (Programs most_levels) used → Ext (Programs 65) used → NoneWrong used
none_wrong used calm higher before after t which same wrong =
    let upto : IsPrefix 65 (before ++ t ∷ []) = begins_part 65 (before ++ t ∷ []) after (subst (IsPrefix 65) (same ∙ sym (append_assoc before (t ∷ []) after)) (begins_of 65 used higher)) in
    let narrow = narrow_at before t upto.0 (program_narrow (subst (λ z. Tops 65 z upto.1.items) (append_assoc before (t ∷ []) upto.0) upto.2)) in
    wrong_not before t which upto narrow (λ opening. over_begins most_levels used before t after calm same opening) wrong

-- ---- the token where reading stops is wrong

abbrev differ : StopCause → StopCause → Type 0
differ one other = one ≡ other → ⊥

wide_is_expected : differ reader.too_wide reader.unexpected
wide_is_expected e = cc

deep_is_expected : differ reader.too_deep reader.unexpected
deep_is_expected e = cc

less : (m n : ℕ) → suc m ≡ suc n → m ≡ n
less m n rooms = omega arith

zero_is : (n : ℕ) → zero ≡ suc n → ⊥
zero_is n rooms = omega arith

-- an unexpected token
not_expected : (used rest : Tokens) (t : Token) → program most_levels (used ++ t ∷ rest) ≡ Err (reader.unexpected, t ∷ rest) → IsPrefixAtAnyDepth (used ++ narrowed t ∷ []) → ⊥
not_expected used rest t read begins =
    let levels = begins.0 in
    let more = begins.1.0 in
    let ast = begins.1.1 in
    let fails = program_fails S most_levels levels used reader.unexpected tt refl read in
    let whole : program levels (used ++ narrowed t ∷ more) ≡ Ok (ast.items, at [] levels) = program_read levels (used ++ narrowed t ∷ more) ast (subst (λ z. IsProgram levels z ast) (append_assoc used (narrowed t ∷ []) more) begins.1.2) in
    err_is (ast.items, at [] levels) fails.stop (sym fails.is ∙ whole)
  where
    S : Setting
    S = record {
      first = t;
      second = narrowed t;
      behind_first = rest;
      behind_second = begins.1.0;
      twin = twin_of t;
      Hit = λ cause. cause ≡ reader.unexpected;
      Rooms = λ m n. Unit {0};
      wide_differs = λ hit. absurd (wide_is_expected hit);
      deeper = λ m n rooms. tt;
      higher = λ m n rooms. tt;
      no_more = λ n hit rooms. deep_is_expected hit;
    }

-- a token that opens a level too many
not_within : (used rest : Tokens) (t : Token) → program most_levels (used ++ t ∷ rest) ≡ Err (reader.too_deep, t ∷ rest) → IsPrefix most_levels (used ++ t ∷ []) → ⊥
not_within used rest t read begins =
    let more = begins.0 in
    let ast = begins.1 in
    let fails = program_fails S most_levels most_levels used reader.too_deep refl refl read in
    let whole : program most_levels (used ++ t ∷ more) ≡ Ok (ast.items, at [] most_levels) = program_read most_levels (used ++ t ∷ more) ast (subst (λ z. IsProgram most_levels z ast) (append_assoc used (t ∷ []) more) begins.2) in
    err_is (ast.items, at [] most_levels) fails.stop (sym fails.is ∙ whole)
  where
    S : Setting
    S = record {
      first = t;
      second = t;
      behind_first = rest;
      behind_second = begins.0;
      twin = itself;
      Hit = λ cause. cause ≡ reader.too_deep;
      Rooms = λ m n. m ≡ n;
      wide_differs = λ hit. refl;
      deeper = λ m n rooms. less m n rooms;
      higher = λ m n rooms. ap suc rooms;
      no_more = λ n hit rooms. zero_is n rooms;
    }

token_wrong : (used rest : Tokens) (t : Token) (cause : StopCause) → Told (Programs 65) used (cause, t ∷ rest) → program most_levels (used ++ t ∷ rest) ≡ Err (cause, t ∷ rest) → IsWrong used t (fault_at cause t.place)
token_wrong used rest t cause (plain is) read =
    subst (λ z. IsWrong used t (fault_at z t.place)) (sym is) (unexpected (not_expected used rest t (read ∙ ap (λ z. Err (z, t ∷ rest)) is)))
token_wrong used rest t cause (wide u behind same known ext) read =
    let here : t ≡ u = ap (λ (s : StopCause × Tokens). head_of t s.1) same in
    subst (λ z. IsWrong used t (fault_at z t.place)) (sym (ap (λ (s : StopCause × Tokens). s.0) same))
    (too_wide (subst (λ v. v.form ≡ form.Number None) (sym here) known) (65, begins_of 65 (used ++ narrowed t ∷ []) (subst (λ v. Ext (Programs 65) (used ++ narrowed v ∷ [])) (sym here) ext)))
token_wrong used rest t cause (deep u behind same opening ext) read =
    let here : t ≡ u = ap (λ (s : StopCause × Tokens). head_of t s.1) same in
    let is : cause ≡ reader.too_deep = ap (λ (s : StopCause × Tokens). s.0) same in
    subst (λ z. IsWrong used t (fault_at z t.place)) (sym is)
    (too_deep (subst OpensLevel (sym here) opening) (65, begins_of 65 (used ++ t ∷ []) (subst (λ v. Ext (Programs 65) (used ++ v ∷ [])) (sym here) ext)) (not_within used rest t (read ∙ ap (λ z. Err (z, t ∷ rest)) is)))

-- ---- whole texts

-- the fault that is answered
abbrev fault_in : SyntaxFault → Result Ast SyntaxFault → SyntaxFault
fault_in other (Ok ast) = other
fault_in other (Err which) = which

-- the fault that is answered is the text's
pub right_fault : (text : Text) (tokens : Tokens) (end : Ending) (which : SyntaxFault) → Reads 0 1 text tokens end → answer_of tokens end ≡ Err which → HasFault text which
unfolding answer_of
right_fault text tokens end which reads is = by_outcome (program most_levels tokens) refl is
  where
    at_the_token : (t : Token) (rest : Tokens) (cause : StopCause) → program most_levels tokens ≡ Err (cause, t ∷ rest) → HasFault text (fault_at cause t.place)
    at_the_token t rest cause read =
        let halts = program_halts most_levels tokens (cause, t ∷ rest) read in
        at_token halts.used rest t end (subst (λ ts. Reads 0 1 text ts end) halts.is reads) (none_wrong halts.used halts.calm halts.higher)
        (token_wrong halts.used rest t cause halts.told (subst (λ ts. program most_levels ts ≡ Err (cause, t ∷ rest)) halts.is read))

    ends_wrong : (e : Ending) → ((ast : Ast) → IsProgram most_levels tokens ast → ⊥) → EndsWrong tokens e (fault_behind e)
    ends_wrong (ending.End place) none = too_short none
    ends_wrong (ending.BadByte place) none = bad_byte
    ends_wrong (ending.BadToken place) none = bad_token

    at_the_end : (cause : StopCause) → program most_levels tokens ≡ Err (cause, []) → HasFault text (fault_behind end)
    at_the_end cause read =
        let halts = program_halts most_levels tokens (cause, []) read in
        let all : halts.used ≡ tokens = sym (halts.is ∙ append-nil halts.used) in
        at_end tokens end reads (subst NoneWrong all (none_wrong halts.used halts.calm halts.higher))
        (ends_wrong end (λ ast is_program. err_is (ast.items, at [] most_levels) (cause, []) (sym read ∙ program_read most_levels tokens ast is_program)))

    all_right : (items : List Item) → Tops most_levels tokens items → NoneWrong tokens
    all_right items reads_as = none_wrong tokens (held_here (Programs most_levels) tokens (whole_here (Programs most_levels) tokens (items, reads_as))) (whole_here (Programs 65) tokens (items, lift_tops reads_as))

    by_end : (e : Ending) (items : List Item) → end ≡ e → Tops most_levels tokens items → answer_by e (Ok (items, at [] most_levels)) ≡ Err which → HasFault text which
    by_end (ending.End place) items same reads_as answer = cc
    by_end (ending.BadByte place) items same reads_as answer =
        subst (HasFault text) (ap (fault_in which) answer) (at_end tokens (ending.BadByte place) (subst (λ e. Reads 0 1 text tokens e) same reads) (all_right items reads_as) bad_byte)
    by_end (ending.BadToken place) items same reads_as answer =
        subst (HasFault text) (ap (fault_in which) answer) (at_end tokens (ending.BadToken place) (subst (λ e. Reads 0 1 text tokens e) same reads) (all_right items reads_as) bad_token)

    by_outcome : (o : Outcome (List Item)) → program most_levels tokens ≡ o → answer_by end o ≡ Err which → HasFault text which
    by_outcome (Err (cause, t ∷ rest)) read answer = subst (HasFault text) (ap (fault_in which) answer) (at_the_token t rest cause read)
    by_outcome (Err (cause, [])) read answer = subst (HasFault text) (ap (fault_in which) answer) (at_the_end cause read)
    by_outcome (Ok p) read answer = by_end end p.0 refl (program_came most_levels tokens p.0 p.1 read) (same_answer end answer)
      where
        same_answer : (e : Ending) → answer_by e (Ok p) ≡ Err which → answer_by e (Ok (p.0, at [] most_levels)) ≡ Err which
        same_answer (ending.End place) a = a
        same_answer (ending.BadByte place) a = a
        same_answer (ending.BadToken place) a = a
