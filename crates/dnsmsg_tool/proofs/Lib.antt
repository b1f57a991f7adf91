mod CallLemmas
mod EachLemmas
mod LineLemmas
mod OptionLemmas
mod RecordLemmas
mod ScriptLemmas
