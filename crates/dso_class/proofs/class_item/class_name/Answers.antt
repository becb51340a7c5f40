use Rattle.std.proofs.Common.{◌≡◌, ◌⊎◌, ◌≤◌, ◌∙◌, sym, inl, inr, subst, length, Contains}
use Rattle.dso_class.specs.Heads.{IsRefused, twice}
use Rattle.dso_class.specs.Maps.{map_word}
use Rattle.dso_class.specs.declared.fault.What.TheVariants as What
use Rattle.dso_config_entries.specs.BorrowedWords.{words_of}
use Rattle.dso_config_entries.specs.Words.{thread_word}
use Rattle.dso_class.proofs.rules.RefusedClasses as laws
use Rattle.dso_class.proofs.class_item.class_name.Goals as goal

pub returns-then-is_reserved-clause-refused : goal.returns-then-is_reserved-clause-refused
returns-then-is_reserved-clause-refused c =
    twice (laws.reserved_taken (words_of c.args.names.now) c.args.name.now.name
    (subst (λ word. (word ≡ thread_word) ⊎ (word ≡ map_word)) c.as_slice.ensures (c.is_reserved.ensures.0 c.if-is_reserved.true)))

pub returns-in_err-declare-clause-refused : goal.returns-in_err-declare-clause-refused
returns-in_err-declare-clause-refused c =
    let other : c.args.name.now.name ≡ thread_word → ⊥ = λ is. cc (sym (c.is_reserved.ensures.1 (inl (c.as_slice.ensures ∙ is))) ∙ c.if-is_reserved.false) in
    let no_map : c.args.name.now.name ≡ map_word → ⊥ = λ is. cc (sym (c.is_reserved.ensures.1 (inr (c.as_slice.ensures ∙ is))) ∙ c.if-is_reserved.false) in
    let e = c.in_err-declare.field-0.0 in
    laws.passed_refused _ _ _ _ c.from_residual.result e c.from_residual.ensures (laws.class_refused (words_of c.args.names.now) c.args.name.now.name _ _ _ e other no_map
    (subst (λ names. IsRefused (Contains (words_of c.args.names.now) c.args.name.now.name) (64 ≤ length names) What.Classes c.args.name.now.line e) c.as_slice-number.ensures c.in_err-declare.ensures.refused))

pub returns-clause-fresh : goal.returns-clause-fresh
returns-clause-fresh c =
    let other : c.args.name.now.name ≡ thread_word → ⊥ = λ is. cc (sym (c.is_reserved.ensures.1 (inl (c.as_slice.ensures ∙ is))) ∙ c.if-is_reserved.false) in
    let no_map : c.args.name.now.name ≡ map_word → ⊥ = λ is. cc (sym (c.is_reserved.ensures.1 (inr (c.as_slice.ensures ∙ is))) ∙ c.if-is_reserved.false) in
    laws.class_free (words_of c.args.names.now) c.args.name.now.name other no_map c.in_ok-declare.ensures.fresh
