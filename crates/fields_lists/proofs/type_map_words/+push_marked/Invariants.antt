use Rattle.fields_lists.proofs.type_map_words.+push_marked.Given as goal

abbrev pub decreases-push_marked : goal.decreases-push_marked
decreases-push_marked l = l.count
