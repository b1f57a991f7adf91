-- Numbers that are printed and read.
use Rattle.std.proofs.Common.{◌≡◌, ℕ, ◌<◌, ◌≤◌, ◌^◌, List, ◌++◌, refl, sym, ap, ◌∙◌, ◌↔◌, subst, inl, inr, arith}
use Rattle.std.specs.Prelude.{Option, Some, None, option_map, unwrap_or, decimal, Result, Ok, Err, IsErr}
use Rattle.std.specs.Option.{ok_or}
use Rattle.std.specs.Str.{str_to_ascii_lowercase}
use Rattle.std.proofs.lemmas.Fmt.{decimal_is_IsNumeral}
use Rattle.dns_iana.specs.Mnemonics.{Mnemonics, mnemonic}
use Rattle.dns_iana.specs.NumberTexts.{number_text, Spells, ReadsNumber}

-- reading returns, as a `Result`, the number whose text it is
reads : {E : Type 0} (IsSpelled : ℕ → Type 0) (o : Option ℕ) (e : E) → ((n : ℕ) → IsSpelled n ↔ (o ≡ Some n)) → ReadsNumber IsSpelled (ok_or o e)
reads IsSpelled None e h n = (λ x. let none = (h n).0 x in cc none, λ k. cc)
reads IsSpelled (Some k) e h n = (λ x. let same = (h n).0 x in cc same, λ same. (h n).1 (cc))

-- a number is read
pub reads_ok : {E : Type 0} (IsSpelled : ℕ → Type 0) (o : Option ℕ) (e : E) (r : Result ℕ E) (k : ℕ) → ((n : ℕ) → IsSpelled n ↔ (o ≡ Some n))
    → r ≡ ok_or o e → r ≡ Ok k → ReadsNumber {E = E} IsSpelled (Ok k)
reads_ok {E = E} IsSpelled o e r k h made was = let P : Result ℕ E → Type 0 = λ r. ReadsNumber IsSpelled r in subst P (sym made ∙ was) (reads IsSpelled o e h)

-- an error, if no number is read
pub reads_err : {E : Type 0} (IsSpelled : ℕ → Type 0) (o : Option ℕ) (e d : E) (r s : Result ℕ E) → ((n : ℕ) → IsSpelled n ↔ (o ≡ Some n))
    → r ≡ ok_or o e → r ≡ Err d → IsErr s → ReadsNumber IsSpelled s
reads_err IsSpelled o e d r (Ok k) h made was err n = cc
reads_err {E = E} IsSpelled o e d r (Err f) h made was err n =
    let P : Result ℕ E → Type 0 = λ r. ReadsNumber IsSpelled r in
    let none = subst P (sym made ∙ was) (reads IsSpelled o e h) n in
    (λ x. let no = none.0 x in cc no, λ k. cc)

module _ (names : Mnemonics) (word : List ℕ) (n : ℕ) (small : n < 2 ^ 16) where
  -- the text is the mnemonic, if there is one
  by_mnemonic : (o : Option (List ℕ)) → mnemonic names n ≡ o → Spells names word (unwrap_or o (word ++ decimal n)) n
  by_mnemonic (Some m) e = inl (ap (option_map str_to_ascii_lowercase) e)
  by_mnemonic None e =
      let digits = decimal_is_IsNumeral n (omega arith) in
      inr record { front = word; digits = decimal n; whole = refl; same = refl; numeral = digits.0; value = digits.1; fits = small }

  -- the printed text of a number is a text of that number
  pub text_spells : Spells names word (number_text names word n) n
  text_spells = by_mnemonic (mnemonic names n) refl

module _ (IsSpelled : ℕ → Type 0) (o : Option ℕ) (read : (n : ℕ) → IsSpelled n ↔ (o ≡ Some n)) where
  -- a number that is read is the one whose text it is
  pub number_read : (k : ℕ) → o ≡ Some k → (n : ℕ) → IsSpelled n ↔ (Some k ≡ Some n)
  number_read k is n = (λ x. sym is ∙ (read n).0 x, λ e. (read n).1 (is ∙ e))

  -- if none is read, the text is of no number
  pub none_read : o ≡ None → (r : Option ℕ) → r ≡ None → (n : ℕ) → IsSpelled n ↔ (r ≡ Some n)
  none_read is r none n = (λ x. none ∙ sym is ∙ (read n).0 x, λ e. (read n).1 (is ∙ sym none ∙ e))

  module _ (limit : ℕ) where
    -- a number below the limit is the one whose text it is
    pub read_below : (k : ℕ) → o ≡ Some k → k < limit → (n : ℕ) → (IsSpelled n × (n < limit)) ↔ (Some k ≡ Some n)
    read_below k is below n = (
      λ x. (number_read k is n).0 x.0,
      λ e. let same : k ≡ n = cc in ((number_read k is n).1 e, subst (λ m. m < limit) same below),
    )

    -- a greater number isn't read
    pub read_above : (k : ℕ) → o ≡ Some k → limit ≤ k → (n : ℕ) → (IsSpelled n × (n < limit)) ↔ (None ≡ Some n)
    read_above k is above n = (
      λ x. let e = (number_read k is n).0 x.0 in let same : k ≡ n = cc in absurd (omega (arith, x.1)),
      λ e. cc,
    )

    -- nor is one read if the text is of no number
    pub none_below : o ≡ None → (r : Option ℕ) → r ≡ None → (n : ℕ) → (IsSpelled n × (n < limit)) ↔ (r ≡ Some n)
    none_below is r none n = (λ x. (none_read is r none n).0 x.0, λ e. let wrong : None ≡ Some n = sym none ∙ e in cc wrong)
