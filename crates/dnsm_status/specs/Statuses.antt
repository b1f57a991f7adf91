-- The sentences of statuses.
use Rattle.std.specs.Prelude.{ℕ, List, [], ◌∷◌, codes}
use Rattle.dns_iana.specs.Mnemonics.{Mnemonics}
use Rattle.dns_iana.specs.NumberTexts.{number_text}
use Rattle.dnsm_status.specs.Codes.{number_of}
use Rattle.dnsm_status.specs.declared.code.CallError.TheVariants as faults

-- statuses with what they mean: 0 and 1 are no errors, the others are the numbers of faults
unfoldable pub status_sentences : Mnemonics
status_sentences =
    (0, codes "success")
    ∷ (1, codes "no more items")
    ∷ (number_of faults.ShortInput, codes "an octet that is needed is past the end of the message")
    ∷ (number_of faults.BadLabel, codes "a length octet has the high bits 01 or 10")
    ∷ (number_of faults.BadPointer, codes "a compression pointer doesn't lead to an offset before its own")
    ∷ (number_of faults.LongName, codes "a name has more than 255 octets")
    ∷ (number_of faults.Form, codes "malformed octets")
    ∷ (number_of faults.NoRoom, codes "the output buffer is too short")
    ∷ (number_of faults.BadText, codes "the text, or the name of an item, isn't valid")
    ∷ (number_of faults.NoQuestion, codes "the query doesn't have exactly one question")
    ∷ (number_of faults.BadSection, codes "a section number exceeds 3 or is out of order, or a question has no RDATA")
    ∷ (number_of faults.NoMemory, codes "an allocation failed")
    ∷ (number_of faults.LongData, codes "RDATA or an option has more than 65,535 octets")
    ∷ (number_of faults.TooMany, codes "a section has more than 65,535 items")
    ∷ (number_of faults.IsResponse, codes "the message is a response")
    ∷ (number_of faults.OtherOpcode, codes "the opcode isn't QUERY")
    ∷ (number_of faults.OtherClass, codes "the class of the question isn't IN")
    ∷ (number_of faults.OtherType, codes "the type of the question is neither A nor ANY")
    ∷ (number_of faults.NotOpt, codes "the item is no OPT record")
    ∷ (number_of faults.BadOption, codes "an option is not whole within the RDATA")
    ∷ (number_of faults.NoName, codes "the RDATA has no such name")
    ∷ (number_of faults.BadData, codes "the octets are no RDATA of the record type")
    ∷ (number_of faults.NoOpt, codes "the additional section has no OPT record")
    ∷ (number_of faults.TwoOpts, codes "the additional section has two OPT records")
    ∷ (number_of faults.BadOwner, codes "the owner of the OPT record isn't the root")
    ∷ (number_of faults.NoResponse, codes "the message is no response")
    ∷ (number_of faults.OtherQuery, codes "the response is that of another query")
    ∷ (number_of faults.BadRcode, codes "the rcode isn't NOERROR")
    ∷ (number_of faults.Truncated, codes "the message is truncated")
    ∷ (number_of faults.WrongClass, codes "a record has another class than the zone")
    ∷ (number_of faults.OutsideZone, codes "the owner of a record is outside of the zone")
    ∷ (number_of faults.NoSoa, codes "the first record of the transfer is no SOA record")
    ∷ (number_of faults.WrongSoa, codes "an SOA record isn't the one that may come next")
    ∷ (number_of faults.AfterEnd, codes "a record or a message follows the end of the transfer")
    ∷ (number_of faults.Incomplete, codes "the transfer hasn't ended")
    ∷ []

-- the text of a status
abbrev pub status_text : ℕ → List ℕ
status_text n = number_text status_sentences (codes "unknown status ") n
