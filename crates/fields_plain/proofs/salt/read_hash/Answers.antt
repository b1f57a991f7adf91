use Rattle.std.proofs.Common.{◌∙◌, length, refl, sym, inr, arith}
use Rattle.std.proofs.lemmas.Bool.{eqb-false}
use Rattle.std.proofs.lemmas.Grind.{common_steps}
use Rattle.fields_plain.proofs.SaltLemmas.{hash_digits, hash_read}
use Rattle.fields_plain.proofs.salt.read_hash.Goals as goal

pub returns-then-is_empty : goal.returns-then-is_empty
returns-then-is_empty c =
    inr (
      refl,
      λ octets is.
          let counted = hash_digits c.args.word.now octets is in
          let some = counted.0 in
          let few = counted.1 in
          grind (arith, common_steps),
    )

pub returns : goal.returns
returns c =
    let some = eqb-false (length c.args.word.now) 0 (sym c.is_empty.ensures ∙ c.if-is_empty.false) in
    hash_read c.args.word.now c.read_base32.result (omega arith) c.if-word-gt-MOST_BASE32_DIGITS.false c.read_base32.ensures
