mod QueryLemmas
