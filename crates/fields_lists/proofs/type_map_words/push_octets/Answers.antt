use Rattle.std.proofs.Common.{◌≡◌, ◌∙◌, ◌+◌, ◌++◌, List, ℕ, ap, arith}
use Rattle.fields_lists.specs.TypeBits.{is_marked, octets_bits}
use Rattle.fields_lists.specs.TypeMapWords.{has}
use Rattle.fields_lists.proofs.MarkLemmas.{octets_shifted}
use Rattle.fields_lists.proofs.type_map_words.push_octets.Goals as goal

pub returns : goal.returns
returns c =
    let p = has c.args.types.now in
    let same = octets_shifted (is_marked c.marks_from-marks.result) p c.args.first c.marks_from-marks.ensures 0 c.args.count (omega arith) in
    let from : c.args.first + 0 ≡ c.args.first = omega arith in
    c.push_marked.ensures ∙ ap (λ (xs : List ℕ). c.args.octets.now.items ++ xs) (same ∙ ap (λ (n : ℕ). octets_bits p n c.args.count) from)
