-- The fields of the types of replies, and what a reply says as a value.
use Rattle.std.specs.Prelude.{ℕ, Option, option_map}
use Rattle.dns_name.specs.Names.{fault_of}
use Rattle.dns_name.specs.ParsedName.{labels}
use Rattle.dns_name.specs.declared.parsed_name.ParsedName.{ParsedName}
use Rattle.dns_data.specs.Soa.{soa_parts}
use Rattle.dns_data.specs.declared.soa.Soa.{Soa}
use Rattle.dns_item.specs.Items.{RecordItem}
use Rattle.dns_item.specs.Record.{record_item}
use Rattle.dns_item.specs.declared.record.Record.{Record}
use Rattle.dns_read.specs.RecordSection.{records_left}
use Rattle.dns_read.specs.declared.record_section.RecordSection.{RecordSection}
use Rattle.dns_reply.specs.Records.{negative_ttl}
use Rattle.dns_reply.specs.Said.{Said}
use Rattle.dns_reply.specs.Said.Said.{Answered, NoData, NoName, Referred, Aliased, Redirected, Truncated, Failed, Done, Unreadable, ManyOpts, Looping, Lame}
use Rattle.dns_reply.specs.declared.reply.Answer.{Answer}
use Rattle.dns_reply.specs.declared.reply.Denial.{Denial}
use Rattle.dns_reply.specs.declared.reply.Referral.{Referral}
use Rattle.dns_reply.specs.declared.reply.Alias.{Alias}
use Rattle.dns_reply.specs.declared.reply.Redirection.{Redirection}
use Rattle.dns_reply.specs.declared.reply.Reply.{Reply}
use Rattle.dns_reply.specs.declared.reply.Reply.TheVariants as replies
use Rattle.dns_reply.specs.declared.reply.Unusable.{Unusable}
use Rattle.dns_reply.specs.declared.reply.Unusable.TheVariants as unusable

-- an answer: the name, the answer section and the TTL
abbrev pub answer_name : Answer → ParsedName
answer_name x = x.name

abbrev pub answer_section : Answer → RecordSection
answer_section x = x.section

abbrev pub answer_ttl : Answer → ℕ
answer_ttl x = x.ttl

-- an SOA record as a value
abbrev pub soa_item : Record ParsedName (Soa ParsedName) → RecordItem
soa_item = record_item labels (λ _. 6) (soa_parts labels)

-- a denial: the name, the SOA record, and the least TTL of the aliases
abbrev pub denial_name : Denial → ParsedName
denial_name x = x.name

abbrev pub denial_soa : Denial → Option (Record ParsedName (Soa ParsedName))
denial_soa x = x.soa

abbrev pub denial_item : Denial → Option RecordItem
denial_item x = option_map soa_item (denial_soa x)

abbrev pub denial_alias_ttl : Denial → Option ℕ
denial_alias_ttl x = x.alias_ttl

-- a referral: the name, the zone that it is delegated to, and the least TTL of the aliases
abbrev pub referral_name : Referral → ParsedName
referral_name x = x.name

abbrev pub referral_cut : Referral → ParsedName
referral_cut x = x.cut

abbrev pub referral_alias_ttl : Referral → Option ℕ
referral_alias_ttl x = x.alias_ttl

-- an alias that leads out of the zone: the name, and the TTL
abbrev pub alias_name : Alias → ParsedName
alias_name x = x.name

abbrev pub alias_ttl : Alias → ℕ
alias_ttl x = x.ttl

-- a redirection: the name, the owner and the target of the DNAME record, and the TTL
abbrev pub redirected_name : Redirection → ParsedName
redirected_name x = x.name

abbrev pub redirection_owner : Redirection → ParsedName
redirection_owner x = x.owner

abbrev pub redirection_target : Redirection → ParsedName
redirection_target x = x.target

abbrev pub redirection_ttl : Redirection → ℕ
redirection_ttl x = x.ttl

-- what makes a reply unusable, as a value
abbrev pub reason_of : Unusable → Said
reason_of (unusable.Unreadable e) = Unreadable (fault_of e)
reason_of unusable.ManyOpts = ManyOpts
reason_of unusable.Loop = Looping
reason_of unusable.Lame = Lame

-- what a reply says, as a value
abbrev pub said_of : Reply → Said
said_of (replies.Answer x) = Answered (labels (answer_name x)) (records_left (answer_section x)) (answer_ttl x)
said_of (replies.NoData x) = NoData (labels (denial_name x)) (denial_item x) (negative_ttl (denial_item x)) (denial_alias_ttl x)
said_of (replies.NoName x) = NoName (labels (denial_name x)) (denial_item x) (negative_ttl (denial_item x)) (denial_alias_ttl x)
said_of (replies.Referral x) = Referred (labels (referral_name x)) (labels (referral_cut x)) (referral_alias_ttl x)
said_of (replies.Alias x) = Aliased (labels (alias_name x)) (alias_ttl x)
said_of (replies.Dname x) = Redirected (labels (redirected_name x)) (labels (redirection_owner x)) (labels (redirection_target x)) (redirection_ttl x)
said_of replies.Truncated = Truncated
said_of (replies.Failed rcode) = Failed rcode
said_of replies.Done = Done
said_of (replies.Unusable why) = reason_of why
