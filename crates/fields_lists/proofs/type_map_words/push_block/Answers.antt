use Rattle.std.proofs.Common.{◌≡◌, ◌≢◌, ◌∙◌, ◌*◌, ◌++◌, ◌∷◌, [], List, ℕ, false, length, sym, ap, subst, arith, append-nil, append_assoc, eq-eqb}
use Rattle.std.proofs.lemmas.Bool.{eqb-true, false≢true}
use Rattle.std.proofs.lemmas.Grind.{common_steps}
use Rattle.fields_lists.specs.TypeBits.{IsBits, is_marked, octets_bits}
use Rattle.fields_lists.specs.TypeMapWords.{has}
use Rattle.fields_lists.proofs.TypeMapLemmas.{block_some, trimmed_is, window_none}
use Rattle.fields_text.proofs.theory.WordLists.{empty_is}
use Rattle.fields_lists.proofs.type_map_words.push_block.Goals as goal

pub returns-then-not-occurs : goal.returns-then-not-occurs
returns-then-not-occurs c =
    let window = c.args.window in
    let marked : is_marked c.args.windows.now window ≡ false = ap (is_marked c.args.windows.now) (sym c.from.ensures) ∙ c.if-not-occurs.true in
    let none = sym (c.requires window (omega arith)) ∙ marked in
    ([], window_none c.args.types.now window none, sym (append-nil c.args.map.now.items))

pub returns-then-is_empty : goal.returns-then-is_empty
returns-then-is_empty c =
    let all =
    c.as_slice.ensures.value
    ∙ c.push_octets.ensures
    ∙ ap (λ (xs : List ℕ). xs ++ octets_bits (has c.args.types.now) (c.from-2.result * 256) 32) c.new-octets.ensures
    ∙ ap (λ (w : ℕ). octets_bits (has c.args.types.now) (w * 256) 32) c.from-2.ensures in
    let is =
    trimmed_is (has c.args.types.now) (c.args.window * 256) 32 c.as_slice.result.now c.trimmed-bits.result.now all c.trimmed-bits.ensures.trimmed c.trimmed-bits.ensures.fits
    c.trimmed-bits.ensures.zeros in
    let none = eqb-true (length c.trimmed-bits.result.now) 0 (sym c.is_empty.ensures ∙ c.if-is_empty.true) in (
      [],
      subst (IsBits (has c.args.types.now) (c.args.window * 256) 32) (empty_is c.trimmed-bits.result.now none) is,
      sym (append-nil c.args.map.now.items),
    )

pub returns : goal.returns
returns c =
    let all =
    c.as_slice.ensures.value
    ∙ c.push_octets.ensures
    ∙ ap (λ (xs : List ℕ). xs ++ octets_bits (has c.args.types.now) (c.from-2.result * 256) 32) c.new-octets.ensures
    ∙ ap (λ (w : ℕ). octets_bits (has c.args.types.now) (w * 256) 32) c.from-2.ensures in
    let is =
    trimmed_is (has c.args.types.now) (c.args.window * 256) 32 c.as_slice.result.now c.trimmed-bits.result.now all c.trimmed-bits.ensures.trimmed c.trimmed-bits.ensures.fits
    c.trimmed-bits.ensures.zeros in
    let some : length c.trimmed-bits.result.now ≢ 0 =
    λ e. false≢true (sym (sym c.is_empty.ensures ∙ c.if-is_empty.false) ∙ eq-eqb (length c.trimmed-bits.result.now) 0 e) in
    let first : c.extend_from_slice.new.self.items ≡ c.args.map.now.items ++ (c.args.window ∷ length c.trimmed-bits.result.now ∷ []) = grind (arith, common_steps) in
    let second : c.extend_from_slice-2.new.self.items ≡ c.extend_from_slice.new.self.items ++ c.trimmed-bits.result.now = grind (arith, common_steps) in (
      c.trimmed-bits.result.now,
      is,
      second
          ∙ ap (λ (xs : List ℕ). xs ++ c.trimmed-bits.result.now) first
          ∙ append_assoc c.args.map.now.items (c.args.window ∷ length c.trimmed-bits.result.now ∷ []) c.trimmed-bits.result.now
          ∙ ap (λ (xs : List ℕ). c.args.map.now.items ++ xs) (block_some c.args.window c.trimmed-bits.result.now some),
    )
