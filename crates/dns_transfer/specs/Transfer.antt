-- What a transfer asks for, and how far it has come.
use Rattle.std.specs.Prelude.{◌≡◌, if◌then◌else◌, Result, Ok, Err}
use Rattle.dns_transfer.specs.Asked.{Asked, asked_by}
use Rattle.dns_transfer.specs.Messages.{is_ended}
use Rattle.dns_transfer.specs.declared.error.TransferError.{TransferError}
use Rattle.dns_transfer.specs.declared.error.TransferError.TheVariants.{Incomplete}
use Rattle.dns_transfer.specs.declared.grammar.State.{State}
use Rattle.dns_transfer.specs.declared.transfer.Transfer.{Transfer}

-- what is asked for
abbrev pub asked_of : Transfer → Asked
asked_of transfer = asked_by transfer.query

-- what was read
abbrev pub state_of : Transfer → State
state_of transfer = transfer.state

-- if no message follows, the transfer has to have ended
abbrev pub EndsIn : State → Result (Unit {0}) TransferError → Type 0
EndsIn state outcome = outcome ≡ (if is_ended state then Ok tt else Err Incomplete)
