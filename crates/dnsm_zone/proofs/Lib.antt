mod LineLemmas
mod PrintedLemmas
