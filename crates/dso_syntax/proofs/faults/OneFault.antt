-- A text has at most one fault.
use Rattle.std.proofs.Common.{◌≡◌, Bool, true, false, [], ◌∷◌, ◌++◌, None, refl, sym, subst, ap, ◌∙◌}
use Rattle.std.proofs.lemmas.Bool.{false≢true}
use Rattle.dso_tokens.specs.declared.token.Form.{Form}
use Rattle.dso_tokens.specs.declared.token.Form.TheVariants as form
use Rattle.dso_tokens.specs.declared.token.Token.{Token}
use Rattle.dso_tokens.specs.declared.token.Ending.{Ending}
use Rattle.dso_syntax.specs.declared.fault.SyntaxFault.{SyntaxFault}
use Rattle.dso_tokens.specs.Bytes.{Text}
use Rattle.dso_syntax.specs.Grammar.{Tokens}
use Rattle.dso_syntax.specs.SyntaxFaults.{IsPrefixAtAnyDepth, narrowed, OpensLevel, IsWrong, unexpected, too_wide, too_deep, EndsWrong, bad_byte, bad_token, too_short, HasFault, at_token, at_end}
use Rattle.dso_tokens.proofs.tokens.ReadingLaws.{one_reading}

abbrev is_mark_form : Form → Bool
is_mark_form (form.Mark mark) = true
is_mark_form rest = false

abbrev is_number_form : Form → Bool
is_number_form (form.Number value) = true
is_number_form rest = false

-- what opens a level is no number
no_number : (t : Token) (f : Form) → OpensLevel t → f ≡ form.Number None → t.form ≡ f → ⊥
no_number t f opening is same = false≢true (ap is_number_form (sym opening.1 ∙ same ∙ is))

-- a symbol stands for itself
narrowed_mark : (t : Token) → OpensLevel t → narrowed t ≡ t
narrowed_mark t opening = pick t.form refl opening.1
  where
    pick : (f : Form) → t.form ≡ f → f ≡ form.Mark opening.0 → narrowed t ≡ t
    pick (form.Mark mark) same is = rw same refl
    pick (form.Name name) same is = absurd (false≢true (ap is_mark_form is))
    pick (form.Keyword word) same is = absurd (false≢true (ap is_mark_form is))
    pick (form.Number value) same is = absurd (false≢true (ap is_mark_form is))
    pick (form.Text content) same is = absurd (false≢true (ap is_mark_form is))

-- one token has one fault
one_wrong : (before : Tokens) (t : Token) (one two : SyntaxFault) → IsWrong before t one → IsWrong before t two → one ≡ two
one_wrong before t one two (unexpected none) (unexpected other) = refl
one_wrong before t one two (unexpected none) (too_wide wide some) = absurd (none some)
one_wrong before t one two (unexpected none) (too_deep opening some deep) = absurd (none (subst (λ u. IsPrefixAtAnyDepth (before ++ u ∷ [])) (sym (narrowed_mark t opening)) some))
one_wrong before t one two (too_wide wide some) (unexpected none) = absurd (none some)
one_wrong before t one two (too_wide wide some) (too_wide wider other) = refl
one_wrong before t one two (too_wide wide some) (too_deep opening other deep) = absurd (no_number t t.form opening wide refl)
one_wrong before t one two (too_deep opening some deep) (unexpected none) = absurd (none (subst (λ u. IsPrefixAtAnyDepth (before ++ u ∷ [])) (sym (narrowed_mark t opening)) some))
one_wrong before t one two (too_deep opening some deep) (too_wide wide other) = absurd (no_number t t.form opening wide refl)
one_wrong before t one two (too_deep opening some deep) (too_deep opening' other deeper) = refl

one_ending : (tokens : Tokens) (end : Ending) (one two : SyntaxFault) → EndsWrong tokens end one → EndsWrong tokens end two → one ≡ two
one_ending tokens end one two bad_byte bad_byte = refl
one_ending tokens end one two bad_token bad_token = refl
one_ending tokens end one two (too_short none) (too_short other) = refl

abbrev head_of : Token → Tokens → Token
head_of t [] = t
head_of t (u ∷ rest) = u

abbrev tail_of : Tokens → Tokens
tail_of [] = []
tail_of (u ∷ rest) = rest

-- where two rows are one, the token that ends a part of one is the other's, or stands in one of the parts
pub data Meeting (before : Tokens) (t : Token) (other : Tokens) (u : Token) : Type 0 where
  together : before ≡ other → t ≡ u → Meeting before t other u
  sooner : (rest : Tokens) → other ≡ before ++ t ∷ rest → Meeting before t other u
  later : (rest : Tokens) → before ≡ other ++ u ∷ rest → Meeting before t other u

meet : (before : Tokens) (t : Token) (after : Tokens) (other : Tokens) (u : Token) (behind : Tokens) → before ++ t ∷ after ≡ other ++ u ∷ behind → Meeting before t other u
meet [] t after [] u behind same = together refl (ap (head_of t) same)
meet [] t after (v ∷ other) u behind same = sooner other (ap (λ w. w ∷ other) (sym (ap (head_of t) same)))
meet (v ∷ before) t after [] u behind same = later before (ap (λ w. w ∷ before) (ap (head_of v) same))
meet (v ∷ before) t after (w ∷ other) u behind same = further (meet before t after other u behind (ap tail_of same)) (ap (head_of v) same)
  where
    further : Meeting before t other u → v ≡ w → Meeting (v ∷ before) t (w ∷ other) u
    further (together one two) is = together (λ i. is i ∷ one i) two
    further (sooner rest one) is = sooner rest (λ i. sym is i ∷ one i)
    further (later rest one) is = later rest (λ i. is i ∷ one i)

-- a text has at most one fault
pub one_fault : (text : Text) (one two : SyntaxFault) → HasFault text one → HasFault text two → one ≡ two
one_fault text one two (at_token before after t end reads right wrong) (at_token other behind u ending reads' right' wrong') =
    pick (meet before t after other u behind (one_reading 0 1 text (before ++ t ∷ after) (other ++ u ∷ behind) end ending reads reads').0)
  where
    pick : Meeting before t other u → one ≡ two
    pick (together same is) = one_wrong other u one two (subst (λ b. IsWrong b u one) same (subst (λ v. IsWrong before v one) is wrong)) wrong'
    pick (sooner rest same) = absurd (right' before rest t one same wrong)
    pick (later rest same) = absurd (right other rest u two same wrong')
one_fault text one two (at_token before after t end reads right wrong) (at_end tokens ending reads' right' wrong') =
    absurd (right' before after t one (sym (one_reading 0 1 text (before ++ t ∷ after) tokens end ending reads reads').0) wrong)
one_fault text one two (at_end tokens end reads right wrong) (at_token before after t ending reads' right' wrong') =
    absurd (right before after t two (one_reading 0 1 text tokens (before ++ t ∷ after) end ending reads reads').0 wrong')
one_fault text one two (at_end tokens end reads right wrong) (at_end others ending reads' right' wrong') =
    let same = one_reading 0 1 text tokens others end ending reads reads' in
    one_ending others ending one two (subst (λ e. EndsWrong others e one) same.1 (subst (λ ts. EndsWrong ts end one) same.0 wrong)) wrong'
