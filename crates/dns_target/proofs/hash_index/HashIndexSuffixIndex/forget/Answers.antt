use Rattle.std.proofs.Common.{[], List, ap, ◌∙◌, refl, sym, subst, take}
use Rattle.dns_target.specs.HashIndex.{KeyedSuffix, table_entries_in, AreKeyed, keyed_again}
use Rattle.dns_target.proofs.KeyedNames.{table_entries_in-cut, keyed_cut}
use Rattle.dns_target.proofs.hash_index.HashIndexSuffixIndex.forget.Goals as goal

pub returns-then-ends_past : goal.returns-then-ends_past
returns-then-ends_past c =
    let none = c.clear.ensures ∙ sym (c.ends_past.ensures c.if-ends_past.true) in
    record {
      table_entries = ap table_entries_in none ∙ table_entries_in-cut c.args.self.now.suffixes.suffixes c.args.len;
      is_of = λ b h e. (
        keyed_again b (take c.args.len b) c.clear.new.self.suffixes e (subst (λ (ss : List KeyedSuffix). AreKeyed b ss) (sym none) (keyed_cut b c.args.self.now.suffixes.suffixes c.args.len h.0)),
        ([], refl),
      );
    }

pub returns-else-ends_past : goal.returns-else-ends_past
returns-else-ends_past c = record {
  table_entries = ap table_entries_in c.cut.ensures ∙ table_entries_in-cut c.args.self.now.suffixes.suffixes c.args.len;
  is_of = λ b h e. (
    keyed_again b (take c.args.len b) c.cut.new.self.suffixes e (subst (λ (ss : List KeyedSuffix). AreKeyed b ss) (sym c.cut.ensures) (keyed_cut b c.args.self.now.suffixes.suffixes c.args.len h.0)),
    ([], refl),
  );
}
