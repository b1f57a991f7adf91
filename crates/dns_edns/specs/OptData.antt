-- An option as its code and the value that holds its octets. RFC 6891 section 6.1.2.
use Rattle.dns_octets.specs.declared.octets.Octets.{Ghosts}
use Rattle.dns_edns.specs.Options.{OptionItem}
use Rattle.dns_edns.specs.declared.option.UnknownOptData.{UnknownOptData}

module _ {X : Type 0} {holds : Ghosts X} where
  -- the value that holds the octets
  abbrev pub buffer_of : UnknownOptData X holds → X
  buffer_of unknown = unknown.octets

  -- the option
  abbrev pub option_of : UnknownOptData X holds → OptionItem
  option_of unknown = record { code = unknown.code; octets = holds.octets (buffer_of unknown) }
