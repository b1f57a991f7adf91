-- Names: their labels, how octets and texts represent them, and how they compare.
unfoldable pub use Rattle.dns_name.specs.Names.{head_at}
pub use Rattle.dns_name.specs.Names.{Labels, IsName, name_size, max_size, with_root, uncompressed, lowered_label, lowered, head_of, NameAt, NameEndsAt}
pub use Rattle.dns_name.specs.Names.{NameContinues, Reads, Fault, fault_of, FaultAt, Faulty}
pub use Rattle.dns_name.specs.Names.Fault.{ShortInput, Form}
-- the causes of `Form`
pub use Rattle.dns_octets.specs.declared.error.TheConstants.FormError.{BAD_LABEL, BAD_POINTER, LONG_NAME, TRAILING_DATA, NO_QUESTION, MULTIPLE_QUESTIONS}
pub use Rattle.dns_name.specs.Names.NameContinues.{root, label, pointer}
pub use Rattle.dns_name.specs.Names.Faulty.{head, long, cut, ahead, label, pointer}
-- the name at an offset, of which there is one
pub use Rattle.dns_name.specs.Unique.{EncodedName, encoded_name, label_of}
-- parsed names, and names in octets of their own
pub use Rattle.dns_name.specs.ParsedName.{labels, labels_left, label_octets, BeginsAt, IsFlat, IsFirst, ParsesName, SkipsName, ReadsEncoded}
pub use Rattle.dns_name.specs.Suffixes.{suffixes, suffixes_left, NameStartsWith, NameEndsWith}
pub use Rattle.dns_name.specs.Uncompressed.{IsUncompressed, NotUncompressed, WholeName}
-- texts
pub use Rattle.dns_name.specs.NameTexts.{name_text, dotted_text, label_text, SpellsName, NameTextFault}
pub use Rattle.dns_name.specs.DottedNames.{dotted_labels}
pub use Rattle.dns_name.specs.NameReading.{name_labels, name_buffer, ReadsName, SpellsSomeName}
-- comparisons
pub use Rattle.dns_name.specs.NameOrders.{names_equal, label_order, name_order, composed_order, label_hash_input, name_hash_input}
