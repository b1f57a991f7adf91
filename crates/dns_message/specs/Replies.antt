-- What a reply says of a question, and whether a message is one.
pub use Rattle.dns_reply.specs.Matches.{IsReply, IsNotReply, lacks_question, may_lack_question, repeats_questions, case_fits, same_case, same_octets}
unfoldable pub use Rattle.dns_reply.specs.Owners.{is_within}
pub use Rattle.dns_reply.specs.Owners.{is_below, asks_for_type, asks_for_all, asks_for_mail, asks_for_class, is_asked_for, is_owned, is_owned_above, is_owned_by_zone, is_owned_by_cut}
pub use Rattle.dns_reply.specs.Records.{Records, values, first_fault, asked_records, owns_asked, least_ttl, target_in, target_of, alias_at, dname_above, soa_for, ns_for, has_ns}
pub use Rattle.dns_reply.specs.Records.{minimum_in, negative_ttl, dname_layout, soa_layout, ns_layout, opt_records, reply_items, reply_fault, opt_count, IsReadable, IsUnreadable}
pub use Rattle.dns_reply.specs.Records.IsUnreadable.{before, within}
pub use Rattle.dns_reply.specs.Opts.{is_opt, opts_in, opts_of}
unfoldable pub use Rattle.dns_reply.specs.Chains.{nth_name}
pub use Rattle.dns_reply.specs.Chains.{next_alias, ChainEnds}
pub use Rattle.dns_reply.specs.Chains.ChainEnds.{ends, goes_on}
pub use Rattle.dns_reply.specs.Said.{Said}
pub use Rattle.dns_reply.specs.Said.Said.{Answered, NoData, NoName, Referred, Aliased, Redirected, Truncated, Failed, Done, Unreadable, ManyOpts, Looping, Lame}
pub use Rattle.dns_reply.specs.Replies.{said_of, answer_name, answer_section, answer_ttl, denial_name, denial_soa, denial_item, referral_name, referral_cut, alias_name, alias_ttl}
pub use Rattle.dns_reply.specs.Replies.{redirected_name, redirection_owner, redirection_target, redirection_ttl}
pub use Rattle.dns_reply.specs.Sayings.{Says, SaysTo, SaysOf, SaysAt, SaysNone, IsSound, IsNoError, IsNameError, question_of, header_of}
pub use Rattle.dns_reply.specs.Sayings.Says.{truncated, done, refused, asked}
pub use Rattle.dns_reply.specs.Sayings.SaysTo.{unreadable, many_opts, failed, records}
pub use Rattle.dns_reply.specs.Sayings.SaysOf.{loop, alias, named}
pub use Rattle.dns_reply.specs.Sayings.SaysAt.{answer, dname, none}
pub use Rattle.dns_reply.specs.Sayings.SaysNone.{no_name, no_data, no_authority, referral, lame}
pub use Rattle.dns_reply.specs.Substitutions.{Substitutes, IsRedirected, substituted}
pub use Rattle.dns_reply.specs.RrsetMembers.{is_member, members, rdata_of, same_rdata, repeats}
pub use Rattle.dns_reply.specs.Rrsets.{members_left}
-- the statements of the theorems
pub use Rattle.dns_reply.specs.Laws.{OneSaying, AllWithin, SaysWithin, NamesAreLed, name_said, AnswersAreAnswers, IsAnswerTo, AnswersAreRead, LeadsTo, OneEnd, ReplyOrReason}
pub use Rattle.dns_reply.specs.Laws.{RepliesAnswer, WithinIsSuffix}
pub use Rattle.dns_reply.specs.Laws.LeadsTo.{start, step}
