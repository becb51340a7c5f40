-- How judgements compose: mentions behind mentions, and one mention alone.
use Rattle.std.proofs.Common.{ℕ, List, [], ◌∷◌, ◌++◌, refl, sym, subst, ap, ◌∙◌, append_assoc}
use Rattle.dso_config.specs.declared.config.Config.{Config}
use Rattle.dso_syntax.specs.declared.tree.Ast.{Ast}
use Rattle.dso_class.specs.declared.fault.NameKind.{NameKind}
use Rattle.dso_class.specs.Mentions.{Mention, Mentioned, on}
use Rattle.dso_class.specs.FaultsAmong.{behind, IsFault, AreFine, IsFaultAmong}
use Rattle.dso_class.proofs.mentions.Fine.{behind_append, fine_both}

-- the first fault of the front is that of the whole
pub fault_in_front : (config : Config) (ast : Ast) (before xs ys : List Mention) (kind : NameKind) (line : ℕ) → IsFaultAmong config ast before xs kind line → IsFaultAmong config ast before (xs ++ ys) kind line
fault_in_front config ast before xs ys kind line fault = record {
  front = fault.front;
  here = fault.here;
  rest = fault.rest ++ ys;
  stands = ap (λ all. all ++ ys) fault.stands ∙ append_assoc fault.front (fault.here ∷ fault.rest) ys;
  fine = fault.fine;
  broken = fault.broken;
  on_line = fault.on_line;
}

-- behind a front that is fine, the first fault of the rest is that of the whole
pub fault_behind : (config : Config) (ast : Ast) (before xs ys : List Mention) (kind : NameKind) (line : ℕ) → AreFine config ast before xs → IsFaultAmong config ast (behind before xs) ys kind line
    → IsFaultAmong config ast before (xs ++ ys) kind line
fault_behind config ast before xs ys kind line fine fault = record {
  front = xs ++ fault.front;
  here = fault.here;
  rest = fault.rest;
  stands = ap (λ all. xs ++ all) fault.stands ∙ sym (append_assoc xs fault.front (fault.here ∷ fault.rest));
  fine = fine_both config ast before xs fault.front fine fault.fine;
  broken = subst (λ there. IsFault config ast there fault.here.what kind) (sym (behind_append before xs fault.front)) fault.broken;
  on_line = fault.on_line;
}

-- the fault of one mention alone
pub fault_alone : (config : Config) (ast : Ast) (before : List Mention) (line : ℕ) (here : Mentioned) (kind : NameKind) → IsFault config ast before here kind
    → IsFaultAmong config ast before (on line here ∷ []) kind line
fault_alone config ast before line here kind broken = record { front = []; here = on line here; rest = []; stands = refl; fine = tt; broken = broken; on_line = refl }
