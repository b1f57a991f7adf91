-- Builders: the states that they represent, what a call makes of a state, and the message of a state.
unfoldable pub use Rattle.dns_build.specs.State.{encode}
pub use Rattle.dns_build.specs.State.{Stage, State, IsState, stage_of, depth_of, no_limit, Every, most_entries, up_to, move_to, rewound, with_question}
pub use Rattle.dns_build.specs.State.{with_questions, with_record, with_records, records_at, with_tc, with_header, with_limit, limit_shown, tc_rewound, item_counts}
pub use Rattle.dns_build.specs.State.{counts_of, all_of, encoders_of, head_of}
pub use Rattle.dns_build.specs.State.Stage.{InBuilder, InQuestion, InAnswer, InAuthority, InAdditional}
pub use Rattle.dns_build.specs.BuilderStates.{Built, built_code, push_error, IsMessage, Represents, RepresentsSome, fresh, MovesState, InEach, PushReturns}
pub use Rattle.dns_build.specs.BuilderStates.{PushReturnsInEach, Pushes, starts_of, size_after}
-- the message of a state: it reads back, its pointers lead to earlier labels, no compression of its names is shorter
pub use Rattle.dns_build.specs.MessageOf.{IsMessageOf, ReadsBack, GivesRecords, AllReported, PointsToLabels, HasLabelsInPointerRange, IsShortestOf}
pub use Rattle.dns_build.specs.TypedReading.{pushed, taken, IsLaidOutBy, IsTakenBy, EncodedAs, AllEncodedAs}
-- answers
pub use Rattle.dns_build.specs.Answers.{readable_questions, answer_header, answering, AreAccepted, RefusesAfter, RepresentsAnswer, GivesAnswer, GivesEither, IsEither, IsFailure}
-- responses: how they begin, and their OPT records
pub use Rattle.dns_build.specs.Responses.{response_rcode, rcode_to, response_header, header_to, opt_for, opt_to, responding, builder_of}
-- copied records
pub use Rattle.dns_build.specs.CopyRecords.{record_sections, PushesKept, CopiesRecord, CopiesList, CopiesSection, CopiesSections, CopiesMessage}
pub use Rattle.dns_build.specs.CopyRecords.CopiesList.{none, fault, refused, copied}
pub use Rattle.dns_build.specs.CopyRecords.CopiesSection.{unstarted, started}
pub use Rattle.dns_build.specs.CopyRecords.CopiesSections.{none, stopped, copied}
pub use Rattle.dns_build.specs.KeptRecords.{with_copies, Keeps, KeepsSection, KeepsAll}
pub use Rattle.dns_build.specs.KeptRecords.Keeps.{none, dropped, kept}
-- sets of records, octets that are left free, and responses that fit a limit
pub use Rattle.dns_build.specs.Sets.{AllFit, ReturnsAfter, SetIsRefused, SetReturns}
pub use Rattle.dns_build.specs.Reserved.{PushLeaving, Reserving, SetLeaving, builder_in, reserve_result}
pub use Rattle.dns_build.specs.Fitting.{FitsSet, MissesAnyRequired, MissesRequired, RecordSet, ResponseSets, answers_fitted, authorities_fitted, fit_set, fit_sets, fitting, goes_in, is_short, is_within, left_out, response_fitted, with_truncation}
-- OPT records
pub use Rattle.dns_build.specs.Opt.{opt_record, with_opt, with_rcode, PushesOptRecord, Gathers, OptReturns, PushesOpt}
pub use Rattle.dns_build.specs.ReservedOpt.{Reservation, reservation, limit_without, limit_left}
pub use Rattle.dns_build.specs.OptReading.{said, HasNoOpt}
pub use Rattle.dns_build.specs.Padding.{length_with_option, most_padded, padded, padded_length, stays_unpadded}
pub use Rattle.dns_edns_builder.specs.Gathered.{Gathered, gathered, nothing_gathered, option_octets, opt_size, with_extended_rcode}
pub use Rattle.dns_edns_builder.specs.Additions.{Adds}
pub use Rattle.dns_edns.specs.KnownOptions.{nsid_option, dau_option, dhu_option, n3u_option, client_subnet_option, expire_option, cookie_option, IsServerCookie}
pub use Rattle.dns_edns.specs.KnownOptions.{tcp_keepalive_option, padding_option, chain_option, key_tag_option, extended_error_option}
-- the statements of the theorems on builders
pub use Rattle.dns_build.specs.MessageOf.{EncodingsReadBack, EncodingsAreTargets, EncodingsAreMessages}
pub use Rattle.dns_build.specs.KnownByState.{BuildersAreKnown, RewindsLeaveNothing}
pub use Rattle.dns_build.specs.TypedReading.{PushedRecordsAreEncoded, TypedRecordsReadBack, TypedRecordsInReadBack, AnyRecordsReadBack, ToRecordReadsBack, ToAnyRecordReadsBack}
pub use Rattle.dns_build.specs.OptReading.{OptsReadBack}
pub use Rattle.dns_build.specs.ReservedOpt.{OptsAddTheirSize}
pub use Rattle.dns_build.specs.Fitting.{SetsAreFitted}
