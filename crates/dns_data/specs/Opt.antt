-- The RDATA of an OPT record. RFC 6891 section 6.1.2.
use Rattle.std.specs.Prelude.{ℕ, Bool, nat_le, ◌&&◌, List, length}
use Rattle.dns_octets.specs.declared.octets.Octets.{Ghosts}
use Rattle.dns_edns.specs.Options.{OptionItem}
use Rattle.dns_edns.specs.OptionsOf.{are_options, options_in}
use Rattle.dns_data.specs.Layout.{Layout}
use Rattle.dns_data.specs.Layout.Layout.{Rest}
use Rattle.dns_data.specs.declared.opt.Opt.{Opt}

module _ {X : Type 0} {holds : Ghosts X} where
  -- the value that holds the octets
  abbrev pub opt_buffer : Opt X holds → X
  opt_buffer opt = opt.octets

  -- the octets
  abbrev pub opt_octets : Opt X holds → List ℕ
  opt_octets opt = holds.octets (opt_buffer opt)

  -- the options in the octets
  abbrev pub opt_options : Opt X holds → List OptionItem
  opt_options opt = options_in (opt_octets opt)

-- whether octets are a list of options, of at most 65,535 octets, the most that RDLENGTH can say
abbrev pub is_opt_data : List ℕ → Bool
is_opt_data octets = are_options octets && nat_le (length octets) 65535

-- all remaining octets, if they are such a list
abbrev pub opt_layout : Layout
opt_layout = Rest is_opt_data
