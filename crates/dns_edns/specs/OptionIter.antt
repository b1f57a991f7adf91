-- What an iterator over options yields. RFC 6891 section 6.1.2.
use Rattle.std.specs.Prelude.{ℕ, List}
use denote.Ref.{Bor}
use Rattle.dns_edns.specs.Options.{OptionItem}
use Rattle.dns_edns.specs.OptionsOf.{options_in}
use Rattle.dns_edns.specs.declared.options.OptionIter.{OptionIter}

-- the option that the iterator yields, as a value
abbrev pub option_item : ℕ × Bor (List ℕ) → OptionItem
option_item x = record { code = x.0; octets = x.1.now }

-- the remaining options
abbrev pub options_left : OptionIter → List OptionItem
options_left it = options_in it.left.now
