use Rattle.std.proofs.Common.{rules, ◌∙◌, refl, ap, sym, ◌+◌, length, subst, IsPermutation, map}
use Rattle.std.proofs.lemmas.List.{length-map}
use Rattle.dso_config_entries.specs.BorrowedWords.{words_of}
use Rattle.dso_class.specs.TextProgram.{AreCounted}
use Rattle.dso_class.proofs.resolution.program.Goals as goal

pub returns : goal.returns
returns c =
    let resolved = c.args.resolved in
    let words = c.in_ok-words.ensures ∙ ap words_of c.as_slice.ensures in
    record {
      classes = c.in_ok-with_maps.ensures;
      roots = refl;
      locks = ap (λ names. c.args.setting.now.roots + length names) c.as_slice-3.ensures;
      texts = c.len.ensures ∙ ap length words ∙ length-map resolved.texts (λ word. word.now);
      methods = refl;
      bodies = refl;
      class_words = refl;
      field_words = refl;
      root_words = refl;
      text_words = words;
      all_threads = subst (λ bodies. IsPermutation (map (λ body. body.thread) bodies) c.in_ok-threads.threads) c.as_slice-2.ensures c.in_ok-threads.ensures.all;
      threads_rise = λ counted. c.in_ok-threads.ensures.rise (subst AreCounted (sym c.as_slice-2.ensures) counted);
      clients = refl;
      resident = refl;
      losses = search rules;
      breaks = search rules;
    }
