-- A log with one entry more.
use Rattle.std.proofs.Common.{◌-◌, ◌≡◌, sym, ◌∙◌, ap, List, [], ◌∷◌, ◌++◌, length, reverse, slice_get, arith}
use Rattle.std.proofs.lemmas.List.{length-append, reverse-append, reverse-reverse}
use Rattle.dso_base.specs.declared.journal.Entry.{Entry}
use Rattle.dso_log.specs.Logs.{Log, clock_at, last_clock, with_entry}
use Rattle.dso_port.proofs.ends.Lists.{at_end}
use Rattle.dso_line.specs.Letters.{log_clock, newest}

pub newest_more : (log : Log) (e : Entry) → newest (with_entry e log) ≡ e ∷ newest log
newest_more log e = reverse-append log.entries (e ∷ [])

pub last_of : (es : List Entry) (e : Entry) → clock_at (slice_get (es ++ e ∷ []) (length (es ++ e ∷ []) - 1)) ≡ e.clock
last_of es e =
    let place : length (es ++ e ∷ []) - 1 ≡ length es = omega (arith, length-append es (e ∷ [])) in
    ap (λ n. clock_at (slice_get (es ++ e ∷ []) n)) place ∙ ap clock_at (at_end es e)

clock_by : (entries rs : List Entry) → entries ≡ reverse rs → log_clock rs ≡ clock_at (slice_get entries (length entries - 1))
clock_by entries [] is = ap (λ es. clock_at (slice_get es (length es - 1))) (sym is)
clock_by entries (r ∷ rest) is = sym (ap (λ es. clock_at (slice_get es (length es - 1))) (is ∙ reverse-append (r ∷ []) rest) ∙ last_of (reverse rest) r)

-- the clock of the newest entry
pub clock_newest : (log : Log) → log_clock (newest log) ≡ last_clock log
clock_newest log = clock_by log.entries (reverse log.entries) (sym (reverse-reverse log.entries))
