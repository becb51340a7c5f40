use Rattle.std.proofs.Common.{◌≡◌, ◌↔◌, inl, inr, Contains, IsNone, sym, subst, ◌∙◌}
use Rattle.dso_class.specs.Declarations.{class_names}
use Rattle.dso_class.specs.NameFaults.{IsClass}
use Rattle.dso_config_entries.specs.BorrowedWords.{words_of}
use Rattle.dso_config_entries.specs.Words.{thread_word}
use Rattle.dso_class.proofs.walks.Declaring.{found_word, missing_word, is_thread, taken_by_variable}
use Rattle.dso_class.proofs.variables.is_taken.Goals as goal
use Rattle.dso_class.proofs.variables.is_taken.Goals.{then-eq, else-eq}

pub returns-then-is_some : goal.returns-then-is_some
returns-then-is_some c texts source before is has =
    let name = c.args.name.now in
    elim c.if-eq.branch [
      | then-eq w ↦ (λ _. inl (sym c.as_slice-word.ensures ∙ (is_thread c.as_slice-word.result.now c.as_slice.result.now c.eq.result c.eq.ensures c.as_slice.ensures).0 w.if-eq.true), λ _. c.if-is_some.true)
      | else-eq w ↦
          let class = subst (λ word. IsNone w.class_number.result ↔ (IsClass source.ast word → ⊥)) c.as_slice-word.ensures (w.class_number.ensures.there source is.tables) in
          (λ _. inr (inl (found_word (class_names source.ast.items) name w.class_number.result class (sym w.is_some.ensures ∙ sym w.value-is ∙ c.if-is_some.true))), λ _. c.if-is_some.true)
    ]

pub returns-else-is_some : goal.returns-else-is_some
returns-else-is_some c texts source before is has =
    let name = c.args.name.now in
    let words = words_of c.args.scope.now.variables in
    let number = subst (λ word. IsNone c.number_of.result ↔ (Contains words word → ⊥)) c.as_slice-word.ensures c.number_of.ensures.none in
    elim c.if-eq.branch [
      | then-eq w ↦ cc (sym c.if-is_some.false ∙ w.value-is)
      | else-eq w ↦
          let class = subst (λ word. IsNone w.class_number.result ↔ (IsClass source.ast word → ⊥)) c.as_slice-word.ensures (w.class_number.ensures.there source is.tables) in
          let no_class = missing_word (class_names source.ast.items) name w.class_number.result class (sym w.is_some.ensures ∙ sym w.value-is ∙ c.if-is_some.false) in
          let no_thread : name ≡ thread_word → ⊥ =
          λ same. cc (sym w.if-eq.false ∙ (is_thread c.as_slice-word.result.now c.as_slice.result.now c.eq.result c.eq.ensures c.as_slice.ensures).1 (c.as_slice-word.ensures ∙ same)) in
          taken_by_variable source.ast name c.number_of.result c.is_some-else-is_some.result has no_thread no_class number c.is_some-else-is_some.ensures
    ]
