use Rattle.std.specs.Int.{bit_at}
use Rattle.std.proofs.Common.{◌≡◌, inl, inr, sym, ◌∙◌, ap, subst, ⊎_elim}
use Rattle.std.proofs.lemmas.Bool.{cases_eq}
use Rattle.dso_world.specs.AskingThreads.{row_of, word_at}
use Rattle.dso_world.proofs.asking.Words.{kept_left, kept_right}
use Rattle.dso_world.proofs.asking_threads.AskingThreads.asking.Goals as goal

pub loop-left-preserved : goal.loop-left-preserved
loop-left-preserved c = λ b i within among there.
    let threads = c.loop-left.threads in
    let word = c.word-threads.result in
    elim (c.loop-left.invariant b i within among there) [
      | inl left ↦ ⊎_elim
          (λ same. inr (kept_right threads word i (ap (λ w. bit_at w i) (c.word-threads.ensures ∙ ap (λ k. word_at c.args.self.now (row_of c.args.client k)) (sym same)) ∙ there)))
          (λ other. inl (c.without_bit-left.ensures.others b within other ∙ left))
          (cases_eq b c.first_bit-bucket.result)
      | inr had ↦ inr (kept_left threads word i had)
    ]
