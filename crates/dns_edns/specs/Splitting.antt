-- How options are split off from the start of octets. RFC 6891 section 6.1.2.
use Rattle.std.specs.Prelude.{ℕ, List, Option, Some, None}
use denote.Ref.{Bor}
use Rattle.dns_edns.specs.Options.{OptionItem, OptionBegins}

-- the first option and the octets after it, or `None` if the octets don't begin with a whole option
abbrev pub Splits : List ℕ → Option (ℕ × Bor (List ℕ) × Bor (List ℕ)) → Type 0
Splits b (Some x) = OptionBegins (record { code = x.0; octets = x.1.now }) b x.2.now
Splits b None = (x : OptionItem) (after : List ℕ) → OptionBegins x b after → ⊥
