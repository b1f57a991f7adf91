-- Zone transfers, read: what is asked for, the records and steps of a whole transfer, and what messages give.
-- `Steps` is a module: what the steps of a message have left. `Difference` is one between two versions of a zone, over records of any form.
pub use Rattle.dns_transfer.specs.Steps
pub use Rattle.dns_transfer.specs.Asked.{Asked, asked_by, qtype_of, question_of}
pub use Rattle.dns_transfer.specs.Transfer.{asked_of, state_of, EndsIn}
pub use Rattle.dns_transfer.specs.declared.grammar.Request.{Request}
pub use Rattle.dns_transfer.specs.declared.grammar.Request.TheVariants.{Axfr, Ixfr}
pub use Rattle.dns_transfer.specs.declared.grammar.State.{State}
pub use Rattle.dns_transfer.specs.declared.grammar.State.TheVariants.{Wanted, Ended}
-- what a record is in a transfer
pub use Rattle.dns_transfer.specs.declared.grammar.Kind.{Kind}
pub use Rattle.dns_transfer.specs.declared.grammar.Kind.TheVariants.{Soa, Other}
pub use Rattle.dns_transfer.specs.Kinds.{kind_of, serial_of}
-- steps, and what consecutive records give
pub use Rattle.dns_transfer.specs.Runs.{StepOf, ItemOf, RunOf, run}
pub use Rattle.dns_transfer.specs.Runs.StepOf.{Begin, UpToDate, FallsBackToAxfr, Remove, Add, End}
-- the forms of a whole transfer
pub use Rattle.dns_transfer.specs.Forms.{Difference, all_removed, all_added, difference_records, difference_steps, whole_reading, whole_steps, records_of_steps}
pub use Rattle.dns_transfer.specs.Forms.{IsSoa, AreOthers, IsDifference, AreDifferences, IsTransfer, RunsToEnd}
-- what steps do to a zone
pub use Rattle.dns_transfer.specs.Zones.{IsIn, SameZone, IsWithout, IsWith, Applies, ApplyAll, IsChange, IsHistory}
-- what messages give
pub use Rattle.dns_transfer.specs.Messages.{is_wanted, is_ended, error_before_answers, RefusesMessage, Reports}
pub use Rattle.dns_transfer.specs.Transfers.{IsTaken, TransfersFrom}
pub use Rattle.dns_transfer.specs.Transfers.TransfersFrom.{none, message, stopped, refused}
-- the statements of the theorems
pub use Rattle.dns_transfer.specs.Forms.{FormsAreRead, OnlyFormsAreRead, ZonesAreWhole, RunsJoin}
pub use Rattle.dns_transfer.specs.Zones.{ChangesLead, WholeReplaces, WholeIsMade}
pub use Rattle.dns_transfer.specs.Transfers.{TakenOrRefused, SomeTransfer, OneTransfer, NothingFollows}
