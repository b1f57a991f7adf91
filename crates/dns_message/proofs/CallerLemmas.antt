-- The lemmas that callers' proofs cite: of names, sizes, records, sections, frames, builders and printing. Above each is what it says.

-- The uncompressed octets of a name are one more than its size, for the root's zero octet.
pub use Rattle.dns_name.proofs.theory.LabelsLemmas.{length-uncompressed}
-- `names_equal` is true exactly if the lowercased labels are the same.
pub use Rattle.dns_name.specs.NameOrders.{names_equal-Decides}
-- A header has four octets.
pub use Rattle.dns_code.proofs.theory.HeaderOctets.{length-octets_of_fields}
-- The fields of a header are in the first four octets.
pub use Rattle.dns_code.proofs.theory.HeaderOctets.{fields_in-take}
-- A name is encoded in at most as many octets as it takes uncompressed.
pub use Rattle.dns_wire.proofs.theory.NameSizes.{names_are_short}
-- So are the parts of RDATA.
pub use Rattle.dns_wire.proofs.theory.NameSizes.{parts_are_short}
-- `data_in` is the result of reading RDATA by a layout, and there is no other.
pub use Rattle.dns_item.proofs.theory.TypedLemmas.{data_is_parsed}
-- Reading a record by a layout returns what `laid_out` says, if the RDATA is all there; the second also if it isn't.
pub use Rattle.dns_item.proofs.theory.TypedLemmas.{laid_out-returned, laid_out-read}
-- A section of records has one start, or one error, of an entry before it.
pub use Rattle.dns_read.specs.StartOrFault.{start_or_fault}
-- What a cursor at the start of a section has left is the section's reading.
pub use Rattle.dns_read.proofs.theory.SectionStartLemmas.{begins_reading}
-- The answer section starts where `start_of` says; without a start, the error is that of an entry before it.
pub use Rattle.dns_read.proofs.theory.SectionStartLemmas.{start_found, no_answers}
-- `questions_from` is the reading of questions from an offset, and there is no other.
pub use Rattle.dns_read.proofs.theory.QuestionsFromLemmas.{questions_from_are_read}
-- `records_from` is that of records.
pub use Rattle.dns_read.proofs.theory.RecordsFromLemmas.{records_from_are_read}
-- A reading has at most as many items as the count, and an error only as its last item.
pub use Rattle.dns_read.proofs.theory.ReadingLemmas.{readings_of_questions_end, readings_of_records_end}
-- Octets begin with the frames of no messages; of those of some messages and of one more, if its frame follows. A frame makes octets longer.
pub use Rattle.dns_stream.proofs.theory.FrameLemmas.{no_frames, one_frame_more, frame_length}
-- Octets are the frames of one list of messages, and begin with one frame. It is read if its length is accepted.
pub use Rattle.dns_stream.proofs.theory.FrameLemmas.{one_framing, one_frame, frames_are_read}
-- A message within its limit stays so when accepted questions are pushed.
pub use Rattle.dns_build.proofs.theory.Asking.{accepted_within}
-- The encoding of a state is a message with its items.
pub use Rattle.dns_build.proofs.theory.EncodingReading.{encodings_are_messages}
-- The octets of a state's message, and what lengthens it: encodings, questions and answers do, moving and rewinding with TC don't.
pub use Rattle.dns_build.proofs.theory.MessageSizes.{longer_octets, one_more, octets_after, message_size, tc_rewound_is_shorter, moving_adds_nothing}
pub use Rattle.dns_build.proofs.theory.MessageSizes.{longer_with_questions, longer_with_answers, items_are_few}
-- What holds of each element of two lists holds of each of their concatenation.
pub use Rattle.dns_build.proofs.theory.Encodings.{every_append}
-- A text is appended after another.
pub use Rattle.dns_lines.proofs.theory.AppendedTexts.{appends_both}
-- The empty text is appended if nothing changes.
pub use Rattle.dns_lines.proofs.theory.AppendedTexts.{appends_none}
-- Lines are printed one after another, one for each item of a list: first none, then that of the next item, at last all.
pub use Rattle.dns_lines.proofs.theory.PrintedLines.{Printed, none_printed, more_printed, all_printed}
