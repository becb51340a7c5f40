use Rattle.std.proofs.Common.{refl, ◌∙◌, sym, subst, Contains}
use Rattle.dso_config_entries.specs.BorrowedWords.{words_of}
use Rattle.dso_class.proofs.lists.Among.{in_reverse, of_reverse}
use Rattle.dso_class.proofs.scope.known_number.Goals as goal

pub returns-then-is_among-clause-none : goal.returns-then-is_among-clause-none
returns-then-is_among-clause-none c known =
    let name = c.args.name.now in
    let words = words_of c.args.scope.now.known in
    let there : Contains words name = subst (λ all. Contains (words_of all) name) c.as_slice.ensures (c.is_among.ensures.0 c.if-is_among.true) in (
      λ none is_known. subst (λ word. Contains (words_of c.args.scope.now.variables) word → ⊥) c.as_slice-then-is_among.ensures (c.number_of.ensures.none.0 none) (known name is_known),
      λ unknown. absurd (unknown (in_reverse words name there)),
    )

pub returns-else-is_among-clause-none : goal.returns-else-is_among-clause-none
returns-else-is_among-clause-none c known =
    let name = c.args.name.now in
    let words = words_of c.args.scope.now.known in
    (λ none is_known. cc (sym c.if-is_among.false ∙ c.is_among.ensures.1 (subst (λ all. Contains (words_of all) name) (sym c.as_slice.ensures) (of_reverse words name is_known))), λ unknown. refl)
