-- Messages that are changed in place: which, what changes, and what is read then.
pub use Rattle.dns_edit.specs.Ttls.{changed, holds_ttl, record_total, TtlFields, with_ttl, with_ttls, GivesTtls, Computes, WritesTtls}
pub use Rattle.dns_edit.specs.Ttls.TtlFields.{none, held, other}
pub use Rattle.dns_edit.specs.Edits.{ChangesTtls, MapsTtls, NamesAvoid, QuestionApart, RecordApart, IsLeastTtl, least, least_with, RecordsFault}
pub use Rattle.dns_edit.specs.Uses.{Apart, NameApart}
pub use Rattle.dns_edit.specs.Case.{AsksFor, AsksForName}
pub use Rattle.dns_edit.specs.Ends.{RecordsEndAt}
pub use Rattle.dns_edit.specs.Opt.{OptAt, OtherAt, OptAfter, LacksOpt, EndsWithOpt, LosesLast, OptFault, RefusesOpt, RemovesOpt, FewerAdditionals}
pub use Rattle.dns_edit.specs.Options.{OptRdata, SkipsOption, CutOption, OtherOption, OptionIn, NoOptionIn, CutOptionIn, OptionAt, LacksOption, OptionFault}
pub use Rattle.dns_edit.specs.Options.{RefusesOption, ReplacesOption, with_option, OptionsReplaced}
pub use Rattle.dns_edit.specs.Rdata.{octets_before, names_start, name_count, string_end, DataApart}
pub use Rattle.dns_edit.specs.Fields.{names_among, names_after, shapes_of, has_its_names, BeginsAfterFields}
-- what is read
pub use Rattle.dns_edit.specs.Readings.{ReadsAlike, ReadsMapped, SectionReadsAlike, with_changed_ttl, with_changed_item, ReadsNameAlike, DataReadsAlike, FitInOctets}
pub use Rattle.dns_edit.specs.Alike.{EntriesSame, SectionSame, EntriesAlike, SectionAlike, ReadsNameAs, named_question, named_record}
pub use Rattle.dns_edit.specs.Following.{ReadsTo, FollowsFew, AllFollowFew}
pub use Rattle.dns_edit.specs.Offsets.{QuestionAt, RecordAt, RdataNameAt}
-- which messages are accepted, and with which error the others are refused
pub use Rattle.dns_edit.specs.Acceptance.{AcceptsTtls, IsRegular, AcceptsFrom, RefusesTtls, AllAccepted, OneRefused, AcceptsQuestion, RefusesQuestion}
pub use Rattle.dns_edit.specs.Acceptance.{AcceptsRecord, RefusesRecord, AcceptsData, RefusesData}
pub use Rattle.dns_edit.specs.Pointers.{LabelOf, LabelOfAny, PointsTo, IsLabelBefore, AcceptsName, RefusesName}
-- the statements of the theorems
pub use Rattle.dns_edit.specs.Readings.{NamesReadAlike, ChangedReadsAlike, RdataReadsAlike, RdataLaidOutAlike}
pub use Rattle.dns_edit.specs.Alike.{HeaderReadsAlike, HeaderStaysRegular, CaseReadsAlike, CaseStaysRegular, TtlsStayRegular}
pub use Rattle.dns_edit.specs.Following.{NamesFollowFew}
pub use Rattle.dns_edit.specs.Case.{AsksForNames}
pub use Rattle.dns_edit.specs.Opt.{RemovedReadsAlike, RemovedRcode, RemovedStaysRegular}
pub use Rattle.dns_edit.specs.Options.{ReplacedReadsAlike, ReplacedReadsBack, ReplacedStaysRegular}
pub use Rattle.dns_edit.specs.Acceptance.{NeverBoth}
pub use Rattle.dns_edit.specs.Fields.{NamesAreFields, NamesAreOfFields, NamesBeginAfterFields}
-- messages that builders write
pub use Rattle.dns_regular.specs.Built.{BuiltIsRegular, HasItsNames, HaveTheirNames, LaidOutHasItsNames, NamesFirst, NoneCompressible, from_name, octets_first}
