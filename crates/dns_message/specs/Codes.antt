-- Record types, classes and codes, and their texts.
pub use Rattle.dns_iana.specs.Types.{type_text, SpellsType}
pub use Rattle.dns_iana.specs.Classes.{class_text, SpellsClass}
pub use Rattle.dns_iana.specs.Rcodes.{IsRcode, IsOptRcode}
pub use Rattle.dns_iana.specs.Mnemonics.{Mnemonics, mnemonic}
pub use Rattle.dns_iana.specs.Registry.{registered_types, registered_classes, registered_opcodes, registered_rcodes, registered_opt_rcodes, registered_options}
