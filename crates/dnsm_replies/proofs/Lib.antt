mod FaultLemmas
mod AgeLemmas
mod ReplyLemmas
