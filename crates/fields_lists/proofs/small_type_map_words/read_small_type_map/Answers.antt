use Rattle.std.proofs.Common.{◌≡◌, ◌∙◌, ◌<◌, ◌++◌, List, ℕ, length, refl, sym, ap, subst, inl, inr, arith}
use Rattle.std.proofs.lemmas.Grind.{common_steps}
use Rattle.fields_lists.specs.TypeBits.{is_marked, octets_bits}
use Rattle.fields_lists.specs.TypeMapWords.{IsSmallTypeMap}
use Rattle.fields_lists.proofs.SmallMapLemmas.{no_small_map, small_map_is, small_words}
use Rattle.fields_lists.proofs.TypeMapLemmas.{trimmed_is}
use Rattle.fields_lists.proofs.small_type_map_words.read_small_type_map.Goals as goal

pub returns-then-is_empty : goal.returns-then-is_empty
returns-then-is_empty c =
    let none : length c.args.words.now ≡ 0 = grind (arith, common_steps) in
    inr (refl, λ octets is. no_small_map c.args.words.now octets none is)

pub returns-in_default : goal.returns-in_default
returns-in_default c = inr (refl, λ octets is. c.in_default.ensures (small_words c.args.words.now octets is))

pub returns-in-Ok : goal.returns-in-Ok
returns-in-Ok c =
    let marks = c.in-Some.marks in
    let some : 0 < length c.args.words.now = grind (arith, common_steps) in
    let all = c.as_slice.ensures.value ∙ c.push_marked.ensures ∙ ap (λ (xs : List ℕ). xs ++ octets_bits (is_marked marks) 0 16) c.new-octets.ensures in
    let is = trimmed_is (is_marked marks) 0 16 c.as_slice.result.now c.trimmed.result.now all c.trimmed.ensures.trimmed c.trimmed.ensures.fits c.trimmed.ensures.zeros in
    subst (IsSmallTypeMap c.args.words.now) (sym c.in-Ok.ensures.items) (small_map_is c.args.words.now marks c.trimmed.result.now some c.in-Some.ensures is)

pub returns-in-Err : goal.returns-in-Err
returns-in-Err c =
    let marks = c.in-Some.marks in
    let some : 0 < length c.args.words.now = grind (arith, common_steps) in
    let all = c.as_slice.ensures.value ∙ c.push_marked.ensures ∙ ap (λ (xs : List ℕ). xs ++ octets_bits (is_marked marks) 0 16) c.new-octets.ensures in
    let is = trimmed_is (is_marked marks) 0 16 c.as_slice.result.now c.trimmed.result.now all c.trimmed.ensures.trimmed c.trimmed.ensures.fits c.trimmed.ensures.zeros in
    inl (refl, (c.trimmed.result.now, small_map_is c.args.words.now marks c.trimmed.result.now some c.in-Some.ensures is))
