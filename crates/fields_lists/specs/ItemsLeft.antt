-- The remaining items of iterators.
use Rattle.std.specs.Prelude.{ℕ, List}
use Rattle.fields_lists.specs.PrefixItems.{PrefixItem, prefixes_of}
use Rattle.fields_lists.specs.Strings.{strings_of}
use Rattle.fields_lists.specs.declared.prefixes.AddressPrefix.{AddressPrefix}
use Rattle.fields_lists.specs.declared.prefixes.AddressPrefixes.{AddressPrefixes}
use Rattle.fields_lists.specs.declared.strings.Strings.{Strings}

abbrev pub strings_left : Strings → List (List ℕ)
strings_left strings = strings_of strings.left.now

abbrev pub prefix_item : AddressPrefix → PrefixItem
prefix_item prefix = record { family = prefix.family; size = prefix.size; negated = prefix.negated; address = prefix.address.now }

abbrev pub prefixes_left : AddressPrefixes → List PrefixItem
prefixes_left prefixes = prefixes_of prefixes.left.now
