-- What is answered of a text, by what the parts of the parser answer.
use Rattle.std.proofs.Common.{◌≡◌, ◌≤◌, ℕ, List, Option, Some, None, Result, Ok, Err, length, refl, sym, subst, ap, ◌∙◌}
use Rattle.std.specs.Prelude.{IfOk, IfErr}
use Rattle.dso_tokens.specs.declared.stop.Stop.{Stop}
use Rattle.dso_tokens.specs.declared.stop.Stop.TheVariants as stop
use Rattle.dso_tokens.specs.declared.token.Ending.{Ending}
use Rattle.dso_tokens.specs.declared.token.Ending.TheVariants as ending
use Rattle.dso_syntax.specs.declared.tree.Ast.{Ast}
use Rattle.dso_syntax.specs.declared.tree.Item.{Item}
use Rattle.dso_syntax.specs.declared.fault.SyntaxFault.{SyntaxFault}
use Rattle.dso_syntax.specs.declared.fault.SyntaxFault.TheVariants as fault
use Rattle.dso_tokens.specs.Bytes.{Text}
use Rattle.dso_syntax.specs.Grammar.{Tokens}
use Rattle.dso_syntax.specs.TextLimits.{most_levels}
use Rattle.dso_syntax.specs.ProgramGrammar.{IsProgram}
use Rattle.dso_tokens.specs.Reading.{Reads}
use Rattle.dso_syntax.specs.SyntaxFaults.{IsText}
use Rattle.dso_syntax.specs.ExpressionReader.{Input, Outcome, StopCause, unexpected, too_wide, too_deep}
use Rattle.dso_syntax.specs.ProgramReader.{program, items_from}
use Rattle.dso_tokens.specs.Gives.{Fails}
use Rattle.dso_syntax.specs.ExpressionLevels.{whole}
use Rattle.dso_syntax.specs.StatementLevels.{body, block}
use Rattle.dso_syntax.specs.ParseAnswer.{fault_behind, fault_by, place_of, fault_of, answer_by, answer_of, AnswersAs, Refuses}
use Rattle.dso_syntax.proofs.completeness.ReadPrograms.{program_read}
use Rattle.dso_syntax.proofs.soundness.SoundPrograms.{program_came}
use Rattle.dso_tokens.proofs.tokens.ReadingLaws.{one_reading}
use Rattle.dso_syntax.proofs.faults.RightFault.{right_fault}

-- a program is read by the readers of its parts
program_is : (tokens : Tokens) → items_from body (length tokens) 64 tokens ≡ program 64 tokens
unfolding block whole
program_is tokens = refl

answered : (tokens : Tokens) (end : Ending) (o : Outcome (List Item)) → items_from body (length tokens) 64 tokens ≡ o → answer_of tokens end ≡ answer_by end o
unfolding answer_of
answered tokens end o read = ap (answer_by end) (sym (program_is tokens) ∙ read)

-- all was read, and the text ends
pub tree_answered : (tokens : Tokens) (end : Ending) (place : ℕ) (items : List Item) (j : Input) → items_from body (length tokens) 64 tokens ≡ Ok (items, j) → end ≡ ending.End place
    → Ok (record { items = items }) ≡ answer_of tokens end
tree_answered tokens end place items j read is = sym (answered tokens end (Ok (items, j)) read ∙ ap (λ e. answer_by e (Ok (items, j))) is)

-- all was read, and the text goes on
pub end_answered : (tokens : Tokens) (end : Ending) (items : List Item) (j : Input) → items_from body (length tokens) 64 tokens ≡ Ok (items, j) → ((place : ℕ) → end ≡ ending.End place → ⊥)
    → Err (fault_behind end) ≡ answer_of tokens end
end_answered tokens end items j read other = sym (answered tokens end (Ok (items, j)) read ∙ by_end end refl)
  where
    by_end : (e : Ending) → end ≡ e → answer_by e (Ok (items, j)) ≡ Err (fault_behind e)
    by_end (ending.End place) is = absurd (other place is)
    by_end (ending.BadByte place) is = refl
    by_end (ending.BadToken place) is = refl

by_fault : (cause : StopCause) (rest tokens : Tokens) (end : Ending) → items_from body (length tokens) 64 tokens ≡ Err (cause, rest) → AnswersAs (Err (fault_by cause (place_of rest) end)) (answer_of tokens end)
by_fault cause rest tokens end read = is_answer (fault_by cause (place_of rest) end) (sym (answered tokens end (Err (cause, rest)) read))
  where
    is_answer : (f : SyntaxFault) → Err f ≡ answer_of tokens end → AnswersAs (Err f) (answer_of tokens end)
    is_answer (fault.NoMemory refused) same = tt
    is_answer (fault.BadByte place) same = same
    is_answer (fault.BadToken place) same = same
    is_answer (fault.Unexpected place) same = same
    is_answer (fault.NumberTooWide place) same = same
    is_answer fault.TooLong same = same
    is_answer (fault.NestTooDeep place) same = same

-- reading stops
pub stop_answered : (why : Stop) (tokens : Tokens) (end : Ending) → Fails why (items_from body (length tokens) 64 tokens) → AnswersAs (Err (fault_of why end)) (answer_of tokens end)
stop_answered (stop.NoMemory refused) tokens end fails = tt
stop_answered (stop.Unexpected rest) tokens end fails = by_fault unexpected rest.now tokens end fails
stop_answered (stop.TooWide rest) tokens end fails = by_fault too_wide rest.now tokens end fails
stop_answered (stop.TooDeep rest) tokens end fails = by_fault too_deep rest.now tokens end fails

-- what is answered with a tree is that tree's text
pub is_text : (text : Text) (tokens : Tokens) (end : Ending) (ast : Ast) → Reads 0 1 text tokens end → answer_of tokens end ≡ Ok ast → IsText text ast
unfolding answer_of
is_text text tokens end ast reads is = by_end end (program most_levels tokens) refl refl is
  where
    by_end : (e : Ending) (o : Outcome (List Item)) → end ≡ e → program most_levels tokens ≡ o → answer_by e o ≡ Ok ast → IsText text ast
    by_end (ending.End place) (Ok p) same read is' =
        (tokens, place, subst (λ e. Reads 0 1 text tokens e) same reads, subst (λ a. IsProgram most_levels tokens a) (ap ast_in is') (program_came most_levels tokens p.0 p.1 read))
      where
        ast_in : Result Ast SyntaxFault → Ast
        ast_in (Ok a) = a
        ast_in (Err f) = ast
    by_end (ending.BadByte place) (Ok p) same read is' = cc
    by_end (ending.BadToken place) (Ok p) same read is' = cc
    by_end e (Err stop) same read is' = cc

-- what is answered with a fault is the program of no tree
pub no_text : (text : Text) (tokens : Tokens) (end : Ending) (which : SyntaxFault) (ast : Ast) → Reads 0 1 text tokens end → answer_of tokens end ≡ Err which → IsText text ast → ⊥
unfolding answer_of
no_text text tokens end which ast reads is (others, place, reads', reads_as) =
    let same = one_reading 0 1 text others tokens (ending.End place) end reads' reads in
    let read = program_read most_levels others ast reads_as in
    let answer : answer_by (ending.End place) (program most_levels others) ≡ Err which = subst (λ e. answer_by e (program most_levels others) ≡ Err which) (sym same.1) (subst (λ ts. answer_by end (program most_levels ts) ≡ Err which) (sym same.0) is) in
    differ (sym (ap (answer_by (ending.End place)) read) ∙ answer)
  where
    differ : {a : Ast} → Ok a ≡ Err which → ⊥
    differ e = cc

-- the answer that is this fault
abbrev failing : SyntaxFault → Result Ast SyntaxFault
failing which = Err which

-- a text whose tokens are read is not too long
never_long : (tokens : Tokens) (end : Ending) → answer_of tokens end ≡ Err fault.TooLong → ⊥
unfolding answer_of
never_long tokens end is = by_outcome (program most_levels tokens) is
  where
    by_end : (e : Ending) → failing (fault_behind e) ≡ failing fault.TooLong → ⊥
    by_end (ending.End place) same = cc
    by_end (ending.BadByte place) same = cc
    by_end (ending.BadToken place) same = cc

    by_trouble : (cause : StopCause) (place : Option ℕ) → failing (fault_by cause place end) ≡ failing fault.TooLong → ⊥
    by_trouble cause None same = by_end end same
    by_trouble unexpected (Some place) same = cc
    by_trouble too_wide (Some place) same = cc
    by_trouble too_deep (Some place) same = cc

    by_read : (e : Ending) (items : List Item) (j : Input) → answer_by e (Ok (items, j)) ≡ Err fault.TooLong → ⊥
    by_read (ending.End place) items j same = cc
    by_read (ending.BadByte place) items j same = cc
    by_read (ending.BadToken place) items j same = cc

    by_outcome : (o : Outcome (List Item)) → answer_by end o ≡ Err fault.TooLong → ⊥
    by_outcome (Ok p) same = by_read end p.0 p.1 same
    by_outcome (Err stop) same = by_trouble stop.0 (place_of stop.1) same

-- a tree that is answered is the text's
pub tree_given : (r : Result Ast SyntaxFault) (text : Text) (tokens : Tokens) (end : Ending) → Reads 0 1 text tokens end → AnswersAs r (answer_of tokens end) → IfOk r (λ ast. IsText text ast)
tree_given (Ok ast) text tokens end reads same = is_text text tokens end ast reads (sym same)
tree_given (Err which) text tokens end reads same = tt

-- a fault that is answered is the text's
pub refusal_given : (r : Result Ast SyntaxFault) (text : Text) (tokens : Tokens) (end : Ending) → length text ≤ 1048576 → Reads 0 1 text tokens end → AnswersAs r (answer_of tokens end) → IfErr r (λ which. Refuses text which)
refusal_given (Ok ast) text tokens end short reads same = tt
refusal_given (Err (fault.NoMemory refused)) text tokens end short reads same = tt
refusal_given (Err fault.TooLong) text tokens end short reads same = absurd (never_long tokens end (sym same))
refusal_given (Err (fault.BadByte place)) text tokens end short reads same = (short, (λ ast. no_text text tokens end (fault.BadByte place) ast reads (sym same)), right_fault text tokens end (fault.BadByte place) reads (sym same))
refusal_given (Err (fault.BadToken place)) text tokens end short reads same = (short, (λ ast. no_text text tokens end (fault.BadToken place) ast reads (sym same)), right_fault text tokens end (fault.BadToken place) reads (sym same))
refusal_given (Err (fault.Unexpected place)) text tokens end short reads same = (short, (λ ast. no_text text tokens end (fault.Unexpected place) ast reads (sym same)), right_fault text tokens end (fault.Unexpected place) reads (sym same))
refusal_given (Err (fault.NumberTooWide place)) text tokens end short reads same = (short, (λ ast. no_text text tokens end (fault.NumberTooWide place) ast reads (sym same)), right_fault text tokens end (fault.NumberTooWide place) reads (sym same))
refusal_given (Err (fault.NestTooDeep place)) text tokens end short reads same = (short, (λ ast. no_text text tokens end (fault.NestTooDeep place) ast reads (sym same)), right_fault text tokens end (fault.NestTooDeep place) reads (sym same))
