-- Messages that are read, and what a search of one finds. `MessageIter` is a module: the items of all sections.
pub use Rattle.dns_read.specs.Message.{message_octets, buffer_of}
unfoldable pub use Rattle.dns_read.specs.SectionStarts.{start_of}
pub use Rattle.dns_read.specs.SectionStarts.{records_of, StartsAreFound}
pub use Rattle.dns_read.specs.MessageIter
-- searches
pub use Rattle.dns_read.specs.Searches.{questions_of, first_item, first_value, asked_first, asked_type, answers_query, AsksForTransfer}
unfoldable pub use Rattle.dns_read.specs.RecordSearches.{nth_name}
pub use Rattle.dns_read.specs.RecordSearches.{HasAnswer, last_record, last_additional, cname_layout, CanonicalName}
pub use Rattle.dns_read.specs.RecordSearches.CanonicalName.{ends, goes_on, no_question, no_section}
pub use Rattle.dns_read.specs.OptSearches.{opt_of, opt_rcode_of}
