-- How the lines of threads go on.
use Rattle.std.proofs.Common.{◌≡◌, ℕ, ◌<◌, ◌+◌, ◌++◌, Some, List, [], ◌∷◌, length, take, get_or, sym, ap, ◌∙◌, add-one}
use Rattle.std.specs.Fmt.{◌++?◌}
use Rattle.std.proofs.Math.Seq.{take-suc}
use Rattle.std.proofs.lemmas.List.{map-append}
use Rattle.std.proofs.lemmas.List.Elements.{All-push}
use Rattle.dso_base.specs.declared.lock.ThreadId.{ThreadId}
use Rattle.dso_class.specs.declared.program.Names.{Names}
use Rattle.dso_plain.specs.State.{PlainState}
use Rattle.dso_report.specs.declared.thread_lines.ThreadStanding.{ThreadStanding}
use Rattle.dso_report.specs.Report.{HasStanding, IsThreadsText, thread_text}
use Rattle.dso_report.proofs.texts.Appends.{each_append}

-- the text of a thread more
pub threads_more : (names : Names) (s : PlainState) (threads : List ThreadId) (text next : List ℕ) (n : ℕ) (t : ThreadId) (standing : ThreadStanding) → n < length threads → IsThreadsText names s (take n threads) text
    → HasStanding s (get_or threads n t) standing → Some text ++? thread_text names s (get_or threads n t) standing ≡ Some next → IsThreadsText names s (take (n + 1) threads) next
threads_more names s threads text next n t standing within before stands is =
    let here = get_or threads n t in
    let more : take (n + 1) threads ≡ take n threads ++ here ∷ [] = rw add-one (take-suc threads n t within) in
    record {
      standings = before.standings ++ (here, standing) ∷ [];
      in_order = map-append (λ p. p.0) before.standings ((here, standing) ∷ []) ∙ ap (λ ts. ts ++ here ∷ []) before.in_order ∙ sym more;
      stand = All-push (λ p. HasStanding s p.0 p.1) before.standings (here, standing) before.stand stands;
      written = each_append (λ p. thread_text names s p.0 p.1) before.standings (here, standing) ∙ ap (λ x. x ++? thread_text names s here standing) before.written ∙ is;
    }
