-- A client's cell whose turn added no entry, once its frames went to the ring.
use Rattle.std.proofs.Common.{◌≤◌, ◌^◌, ◌≡◌, ◌⊎◌, ◌∙◌, inl, inr, sym, ap, subst, is_some, arith}
use Rattle.dso_base.specs.declared.message.Down.{Down}
use Rattle.dso_base.specs.declared.message.Up.{Up}
use Rattle.dso_session.specs.Ends.{sent_count}
use Rattle.dso_port.specs.Ports.{HasNoMore, PortState}
use Rattle.dso_client.specs.ObjectFlushes.{NoneDue}
use Rattle.dso_cell.specs.declared.client_cell.ClientCell.{ClientCell}
use Rattle.dso_cell.specs.ClientCells.{HasNothingToDo, IsAtLimit, LooksInVain}

module _ (old mid : ClientCell) (port : PortState Up Down) (into : port.into ≡ mid.port.into) (late : port.late ≡ mid.port.late)
    (sent : sent_count port.session ≡ sent_count mid.port.session) (none : HasNoMore port.session port.out) where
  still_full : (2 ^ 62 ≤ sent_count mid.port.session) → 2 ^ 62 ≤ sent_count port.session
  still_full full = omega (arith, full, sent)

  at_limit : IsAtLimit mid → IsAtLimit (record mid { port = port })
  at_limit (inl clock) = inl clock
  at_limit (inr (inl is)) = inr (inl (ap (λ kept. is_some kept) late ∙ is))
  at_limit (inr (inr full)) = inr (inr (still_full full))

  nothing : LooksInVain old mid × NoneDue mid.core → HasNothingToDo old (record mid { port = port })
  nothing idle = record {
    takes = subst (λ end. LooksInVain old (record mid { port = record port { into = end } })) (sym into) idle.0;
    flushes = idle.1;
    gives = none;
  }

  pub idle_given : IsAtLimit mid ⊎ (LooksInVain old mid × NoneDue mid.core) → IsAtLimit (record mid { port = port }) ⊎ HasNothingToDo old (record mid { port = port })
  idle_given (inl limit) = inl (at_limit limit)
  idle_given (inr idle) = inr (nothing idle)
