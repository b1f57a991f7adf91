use Rattle.std.proofs.Common.{◌≡◌, ◌∙◌, ◌-◌, ◌+◌, ◌∷◌, [], ◌++◌, ℕ, List, sym, ap, arith, append-nil, append_assoc}
use Rattle.std.proofs.lemmas.Grind.{common_steps}
use Rattle.fields_lists.specs.TypeBits.{is_marked, octets_bits}
use Rattle.fields_lists.proofs.TypeMapLemmas.{octets_more}
use Rattle.fields_lists.proofs.type_map_words.+push_marked.Goals as goal

pub returns-then-count-eq0 : goal.returns-then-count-eq0
returns-then-count-eq0 t c =
    sym (append-nil c.args.octets.now.items)
    ∙ ap (λ (k : ℕ). c.args.octets.now.items ++ octets_bits (is_marked c.args.marks.now) c.args.at k) (sym c.if-count-eq0.true)

pub returns : goal.returns
returns t c =
    let more = octets_more (is_marked c.args.marks.now) c.args.at c.args.count (omega arith) in
    let pushed : c.push.new.self.items ≡ c.args.octets.now.items ++ c.octet_bits.result ∷ [] = grind (arith, common_steps) in
    c.push_marked.ensures
    ∙ ap (λ (xs : List ℕ). xs ++ octets_bits (is_marked c.args.marks.now) (c.args.at + 8) (c.args.count - 1)) pushed
    ∙ append_assoc c.args.octets.now.items (c.octet_bits.result ∷ []) (octets_bits (is_marked c.args.marks.now) (c.args.at + 8) (c.args.count - 1))
    ∙ ap (λ (o : ℕ). c.args.octets.now.items ++ o ∷ octets_bits (is_marked c.args.marks.now) (c.args.at + 8) (c.args.count - 1)) c.octet_bits.ensures
    ∙ ap (λ (xs : List ℕ). c.args.octets.now.items ++ xs) (sym more)
