use Rattle.std.proofs.Common.{◌≡◌, ◌++◌, ℕ, List, ap, ◌∙◌, subst, append_assoc, codes}
use Rattle.std.specs.Prelude.{flat_map}
use Rattle.dso_report.specs.JournalText.{entry_head, sent_words, event_part}
use Rattle.dso_report.proofs.journal_lines.put_entry.Goals as goal

-- four parts, each behind those before it
grouped : (before head sent event end : List ℕ) → (((before ++ head) ++ sent) ++ event) ++ end ≡ before ++ (((head ++ sent) ++ event) ++ end)
grouped before head sent event end = simp append_assoc

line : (before head sent event end a b c d : List ℕ) → a ≡ before ++ head → b ≡ a ++ sent → c ≡ b ++ event → d ≡ c ++ end → d ≡ before ++ (((head ++ sent) ++ event) ++ end)
line before head sent event end a b c d first second third last =
    last ∙ ap (λ x. x ++ end) (third ∙ ap (λ x. x ++ event) (second ∙ ap (λ x. x ++ sent) first)) ∙ grouped before head sent event end

pub returns : goal.returns
returns c =
    let entry = c.args.entry.now in
    let sent = subst (λ sent. c.put_each.new.text.items ≡ c.put_head.new.text.items ++ flat_map (λ s. codes " ; to " ++ sent_words s) sent) c.as_slice.ensures c.in_ok-put_each.ensures in
    line c.args.text.now.items (entry_head entry) (flat_map (λ s. codes " ; to " ++ sent_words s) entry.sent) (event_part entry.event) (codes "\n") _ _ _ _
    c.in_ok-put_head.ensures sent c.in_ok-put_event.ensures c.in_ok-extend_from_slice.ensures.items
