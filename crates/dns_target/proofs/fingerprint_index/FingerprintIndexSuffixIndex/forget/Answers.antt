use Rattle.std.proofs.Common.{List, take, ap, ◌∙◌, sym, subst}
use Rattle.dns_target.specs.FingerprintIndex.{FingerprintEntry, AreHashed, table_entries_at, hashed_stay}
use Rattle.dns_target.proofs.FingerprintLemmas.{table_entries-cut_hashed, hashed_cut}
use Rattle.dns_target.proofs.fingerprint_index.FingerprintIndexSuffixIndex.forget.Goals as goal

pub returns-clause-table_entries : goal.returns-clause-table_entries
returns-clause-table_entries c = ap table_entries_at c.cut.ensures ∙ table_entries-cut_hashed c.args.self.now.suffixes c.args.len

pub returns-clause-is_of : goal.returns-clause-is_of
returns-clause-is_of c b h e =
    hashed_stay b (take c.args.len b) c.cut.new.self.suffixes e (subst (λ (xs : List FingerprintEntry). AreHashed b xs) (sym c.cut.ensures) (hashed_cut b c.args.self.now.suffixes c.args.len h))
