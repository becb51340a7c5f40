use Rattle.std.proofs.Common.{◌≡◌, ◌≤◌, Ok, ◌∷◌, ◌++◌, [], Contains, reverse, length, refl, sym, subst, ap, ◌∙◌, arith}
use Rattle.std.proofs.lemmas.List.{length-append, length-map}
use Rattle.dso_class.specs.PrecedingMentions.{in_text, text_in}
use Rattle.dso_config_entries.specs.BorrowedWords.{words_of}
use Rattle.dso_class.specs.Limits.{most_texts}
use Rattle.dso_config_entries.specs.LastAndFirst.{AreFirsts, again, fresh}
use Rattle.dso_class.specs.Mentions as mention
use Rattle.dso_class.specs.Numbers.{IsNumber}
use Rattle.dso_class.specs.declared.fault.NameKind.TheVariants as kind
use Rattle.dso_class.specs.declared.fault.What.TheVariants as what
use Rattle.dso_class.proofs.walks.Literals.{unique, at_end, text_met, text_few, text_fault, text_right}
use Rattle.dso_config_entries.proofs.lists.Places.{stands_there}
use Rattle.dso_class.proofs.walks.BodyParts.{made, begins_same, failed_alone}
use Rattle.dso_class.proofs.walks.Narrowing.{itself, still_number}
use Rattle.dso_class.proofs.texts.text.Goals as goal

pub returns-in-Some : goal.returns-in-Some
returns-in-Some c place scope source before is has =
    let content = c.args.content.now in
    let words = words_of c.args.texts.now in
    let found : IsNumber words content c.in-Some.number = subst (λ word. IsNumber words word c.in-Some.number) c.as_slice.ensures c.in-Some.ensures.found in
    let there = stands_there words content c.in-Some.number found in
    let number = c.narrow.result in
    let given : IsNumber words content number = still_number words content c.in-Some.number number has.texts.few found c.narrow.ensures in
    made (λ n number. IsNumber n.texts content number) (Ok number) number refl
    (text_right c.args.line content words number has has.texts.few (again has.texts.firsts there) (text_met has.texts.firsts there) (begins_same words) given)

pub returns-then-number-ge-MOST_TEXTS : goal.returns-then-number-ge-MOST_TEXTS
returns-then-number-ge-MOST_TEXTS c place scope source before is has =
    let content = c.args.content.now in
    let words = words_of c.args.texts.now in
    let count : length words ≡ length c.as_slice-number.result.now = length-map c.args.texts.now (λ word. word.now) ∙ ap length (sym c.as_slice-number.ensures) in
    let none : Contains words content → ⊥ = subst (λ word. Contains words word → ⊥) c.as_slice.ensures (c.in_default.ensures.none.0 refl) in
    failed_alone c.args.line (mention.text content) (kind.TooMany what.Texts) (λ n number. IsNumber n.texts content number)
    (text_fault has.texts.firsts (omega (arith, count, c.if-number-ge-MOST_TEXTS.true)) none)

pub returns : goal.returns
returns c place scope source before is has =
    let content = c.args.content.now in
    let words = words_of c.args.texts.now in
    let now = words_of c.add.new.words in
    let count : length words ≡ length c.as_slice-number.result.now = length-map c.args.texts.now (λ word. word.now) ∙ ap length (sym c.as_slice-number.ensures) in
    let none : Contains words content → ⊥ = subst (λ word. Contains words word → ⊥) c.as_slice.ensures (c.in_default.ensures.none.0 refl) in
    let all = reverse (in_text text_in before) in
    let firsts = subst (λ word. AreFirsts (all ++ word ∷ []) now) c.as_slice-2.ensures (c.in_ok-add.ensures.firsts all has.texts.firsts) in
    let longer : now ≡ words ++ content ∷ [] = unique firsts (fresh has.texts.firsts none) refl in
    let number = length c.as_slice-number.result.now in
    let small = c.if-number-ge-MOST_TEXTS.false in
    let few : length now ≤ most_texts = subst (λ all. length all ≤ most_texts) (sym longer) (omega (arith, count, small, length-append words (content ∷ []))) in
    let found : IsNumber now content number = subst (λ all. IsNumber all content number) (sym longer) (subst (λ place. IsNumber (words ++ content ∷ []) content place) count (at_end words content)) in
    let given = c.narrow-2.result in
    made (λ n number. IsNumber n.texts content number) (Ok given) number (itself number given (omega (arith, small)) c.narrow-2.ensures)
    (text_right c.args.line content now number has few firsts (text_few has.texts.firsts (omega (arith, count, small))) (record { rest = content ∷ []; is = longer }) found)
