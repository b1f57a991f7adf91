-- The seconds of a text, octet by octet.
use Rattle.std.proofs.Common.{◌≡◌, ℕ, List, ◌∷◌, ap, sym}
use Rattle.std.specs.Prelude.{Option, Some, None, option_and_then}
use Rattle.fields_lines.specs.Durations.{after_octet, duration_after}

module _ (total number : Option ℕ) (c : ℕ) (rest : List ℕ) where
  -- after an octet that fits
  pub octet_step : (next : Option ℕ × Option ℕ) → Some next ≡ after_octet total number c → duration_after total number (c ∷ rest) ≡ duration_after next.0 next.1 rest
  octet_step next e = sym (ap (option_and_then (λ (n : Option ℕ × Option ℕ). duration_after n.0 n.1 rest)) e)

  -- an octet that doesn't fit
  pub octet_end : None ≡ after_octet total number c → duration_after total number (c ∷ rest) ≡ None
  octet_end e = sym (ap (option_and_then (λ (n : Option ℕ × Option ℕ). duration_after n.0 n.1 rest)) e)
