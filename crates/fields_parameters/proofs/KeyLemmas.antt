-- Keys of service parameters.
use Rattle.std.proofs.Common.{◌≡◌, ◌∙◌, ◌≢◌, ℕ, zero, suc, ◌≤◌, ◌==◌, Bool, true, false, cond, List, ◌++◌, get_or, decimal, refl, sym, ap, subst, arith, inl, inr, ◌↔◌, Option, Some, None}
use Rattle.std.specs.Prelude.{◌⊎◌, codes}
use Rattle.std.specs.Option.{SomeIff}
use Rattle.std.specs.Str.{bytes_eq}
use Rattle.std.specs.Str.Parse.{AllDigits, IsNumeral, digits_value}
use Rattle.std.proofs.lemmas.Bool.{eqb-true, false≢true}
use Rattle.std.proofs.lemmas.Fmt.{decimal_digit, decimal_injective, decimal_is_IsNumeral, decimal-digits_value, first_decimal}
use Rattle.std.proofs.lemmas.Slice.Eq.{bytes_eq-Decides}
use Rattle.std.proofs.lemmas.Str.Parse.{IsNumeralModel, numerals_by_value, tells_digits}
use Rattle.fields_parameters.specs.ParameterKeys.{IsKey, IsNamedKey, IsNumberedKey, IsPlainNumber}

-- two texts that `==` compares
pub same_text : (a b : List ℕ) (r : Bool) → r ≡ bytes_eq a b → r ≡ true → a ≡ b
same_text a b r is found = (bytes_eq-Decides a b).0 (sym is ∙ found)

-- Texts that don't compare as equal differ.
pub other_text : (a b : List ℕ) (r : Bool) → r ≡ bytes_eq a b → r ≡ false → a ≢ b
other_text a b r is missed same = false≢true (sym (sym is ∙ missed) ∙ (bytes_eq-Decides a b).1 same)

-- a key that has a name
step : (n k : ℕ) (name t : List ℕ) (other : Option (List ℕ)) → cond (n == k) (Some name) other ≡ Some t → ((n ≡ k) × (name ≡ t)) ⊎ (other ≡ Some t)
step n k name t other e = by_test (n == k) refl e where
  by_test : (b : Bool) → (n == k) ≡ b → cond b (Some name) other ≡ Some t → ((n ≡ k) × (name ≡ t)) ⊎ (other ≡ Some t)
  by_test true is e = inl (eqb-true n k is, cc e)
  by_test false is e = inr e

-- What follows from each of two cases follows.
pub or_else : {A B C : Type 0} → A ⊎ B → (A → C) → (B → C) → C
or_else (inl a) f g = f a
or_else (inr b) f g = g b

no_such : {C : Type 0} {t : List ℕ} → None ≡ Some t → C
no_such e = cc e

-- what is true of each key and its name
module _ (P : ℕ → List ℕ → Type 0) (p0 : P 0 (codes "mandatory")) (p1 : P 1 (codes "alpn")) (p2 : P 2 (codes "no-default-alpn")) (p3 : P 3 (codes "port")) (p4 : P 4 (codes "ipv4hint"))
    (p5 : P 5 (codes "ech")) (p6 : P 6 (codes "ipv6hint")) (p7 : P 7 (codes "dohpath")) (p8 : P 8 (codes "ohttp")) where
  at : (n k : ℕ) (name t : List ℕ) → P k name → (n ≡ k) × (name ≡ t) → P n t
  at n k name t p is = subst (λ (m : ℕ). P m t) (sym is.0) (subst (P k) is.1 p)

  -- What is true of each named key and its name is true of any key and text where the text is the key's name.
  pub by_name : (n : ℕ) (t : List ℕ) → IsNamedKey t n → P n t
  by_name n t e0 =
      or_else (step n 0 (codes "mandatory") t _ e0) (at n 0 (codes "mandatory") t p0) (λ e1.
      or_else (step n 1 (codes "alpn") t _ e1) (at n 1 (codes "alpn") t p1) (λ e2.
      or_else (step n 2 (codes "no-default-alpn") t _ e2) (at n 2 (codes "no-default-alpn") t p2) (λ e3.
      or_else (step n 3 (codes "port") t _ e3) (at n 3 (codes "port") t p3) (λ e4.
      or_else (step n 4 (codes "ipv4hint") t _ e4) (at n 4 (codes "ipv4hint") t p4) (λ e5.
      or_else (step n 5 (codes "ech") t _ e5) (at n 5 (codes "ech") t p5) (λ e6.
      or_else (step n 6 (codes "ipv6hint") t _ e6) (at n 6 (codes "ipv6hint") t p6) (λ e7.
      or_else (step n 7 (codes "dohpath") t _ e7) (at n 7 (codes "dohpath") t p7) (λ e8.
      or_else (step n 8 (codes "ohttp") t _ e8) (at n 8 (codes "ohttp") t p8) (λ e9. no_such e9)))))))))

-- the key of a name
key_of : List ℕ → ℕ
key_of t =
    cond (bytes_eq t (codes "mandatory")) 0 (
    cond (bytes_eq t (codes "alpn")) 1 (
    cond (bytes_eq t (codes "no-default-alpn")) 2 (
    cond (bytes_eq t (codes "port")) 3 (
    cond (bytes_eq t (codes "ipv4hint")) 4 (
    cond (bytes_eq t (codes "ech")) 5 (
    cond (bytes_eq t (codes "ipv6hint")) 6 (
    cond (bytes_eq t (codes "dohpath")) 7 8)))))))

key_of_name : (n : ℕ) (t : List ℕ) → IsNamedKey t n → key_of t ≡ n
unfolding key_of
key_of_name n t named = by_name (λ (n : ℕ) (t : List ℕ). key_of t ≡ n) refl refl refl refl refl refl refl refl refl n t named

-- A text is the name of at most one key.
pub one_name : (t : List ℕ) (m n : ℕ) → IsNamedKey t m → IsNamedKey t n → m ≡ n
one_name t m n a b = sym (key_of_name m t a) ∙ key_of_name n t b

-- The name of a key is that of this key alone.
pub named_is : (text name : List ℕ) (k : ℕ) → IsNamedKey name k → text ≡ name → (n : ℕ) → IsNamedKey text n ↔ (Some k ≡ Some n)
named_is text name k named same n = (
  λ is. ap Some (one_name name k n named (subst (λ (t : List ℕ). IsNamedKey t n) same is)),
  λ e. let number : k ≡ n = cc e in subst (λ (m : ℕ). IsNamedKey text m) number (subst (λ (t : List ℕ). IsNamedKey t k) (sym same) named),
)

-- A text other than the names is the name of no key.
pub not_named : (text : List ℕ) → text ≢ codes "mandatory" → text ≢ codes "alpn" → text ≢ codes "no-default-alpn" → text ≢ codes "port" → text ≢ codes "ipv4hint"
    → text ≢ codes "ech" → text ≢ codes "ipv6hint" → text ≢ codes "dohpath" → text ≢ codes "ohttp" → (n : ℕ) → IsNamedKey text n ↔ (None ≡ Some n)
not_named text n0 n1 n2 n3 n4 n5 n6 n7 n8 n = (
  λ is.
      absurd (by_name (λ (n : ℕ) (t : List ℕ). text ≡ t → ⊥) n0 n1 n2 n3 n4 n5 n6 n7 n8 n text is refl),
  λ e. cc e,
)

-- no name begins with a k
first_letter : (n : ℕ) (t : List ℕ) → IsNamedKey t n → get_or t 0 0 ≢ 107
first_letter n t named =
    by_name (λ (n : ℕ) (t : List ℕ). get_or t 0 0 ≢ 107) (λ e. omega arith) (λ e. omega arith) (λ e. omega arith) (λ e. omega arith) (λ e. omega arith) (λ e. omega arith) (λ e. omega arith)
    (λ e. omega arith) (λ e. omega arith) n t named

-- No text is both a name and a number of a key.
pub not_both : (t : List ℕ) (m n : ℕ) → IsNamedKey t m → IsNumberedKey t n → ⊥
not_both t m n named numbered = first_letter m t named (ap (λ (xs : List ℕ). get_or xs 0 0) numbered.1)

-- a number
own : IsNumeralModel (AllDigits 10) (digits_value 10)
own = numerals_by_value (AllDigits 10) tells_digits

one_plain : (text : List ℕ) (m n : ℕ) → IsPlainNumber text m → IsPlainNumber text n → m ≡ n
one_plain text m n a b =
    let first = a.0 in
    let second = b.0 in
    decimal_injective m n (omega arith) (omega arith) (sym a.1 ∙ b.1)

-- The digit 0 is the number zero.
pub zero_number : (text : List ℕ) → text ≡ codes "0" → (n : ℕ) → IsPlainNumber text n ↔ (Some 0 ≡ Some n)
zero_number text same n =
    let plain : IsPlainNumber text 0 = (omega arith, same ∙ sym (decimal_digit 0 (omega arith))) in (
      λ is. ap Some (one_plain text 0 n plain is),
      λ e. let number : 0 ≡ n = cc e in subst (IsPlainNumber text) number plain,
    )

-- Digits that begin with a zero are no number.
pub leading_zero : (text : List ℕ) → text ≢ codes "0" → get_or text 0 0 ≡ 48 → (n : ℕ) → IsPlainNumber text n ↔ (None ≡ Some n)
leading_zero text other first n = (λ is. absurd (by_number n is), λ e. cc e) where
  by_number : (n : ℕ) → IsPlainNumber text n → ⊥
  by_number zero is = other (is.1 ∙ decimal_digit 0 (omega arith))
  by_number (suc n) is =
      let small = is.0 in
      let high = first_decimal (suc n) (omega arith) (omega arith) in
      let same = ap (λ (xs : List ℕ). get_or xs 0 0) is.1 in
      omega arith

-- Other digits are their number, if it has 16 bits.
pub plain_number : (text : List ℕ) (r : Option ℕ) → get_or text 0 0 ≢ 48 → SomeIff r (IsNumeral 10 text × (digits_value 10 text ≤ 65535)) (digits_value 10 text)
    → (n : ℕ) → IsPlainNumber text n ↔ (r ≡ Some n)
plain_number text None other none n = (
  λ is.
      let small = is.0 in
      let numeral = decimal_is_IsNumeral n (omega arith) in
      let value : digits_value 10 text ≡ n = ap (digits_value 10) is.1 ∙ numeral.1 in
      absurd (none (subst (IsNumeral 10) (sym is.1) numeral.0, omega arith)),
  λ e. cc e,
)
plain_number text (Some k) other read n = (
  λ is.
      let small = is.0 in
      let numeral = decimal_is_IsNumeral n (omega arith) in
      let value : digits_value 10 text ≡ n = ap (digits_value 10) is.1 ∙ numeral.1 in
      ap Some (read.1 ∙ value),
  λ e.
      let same : k ≡ n = cc e in
      let value : digits_value 10 text ≡ n = sym read.1 ∙ same in
      let bound = read.0.1 in
      let written = decimal-digits_value own text read.0.0.1 read.0.0.0 (λ zero. absurd (other zero)) (omega arith) in
      (omega arith, sym written ∙ ap decimal value),
)

-- a number after `key`
pub numbered_is : (name digits : List ℕ) (r : Option ℕ) → name ≡ codes "key" ++ digits → ((n : ℕ) → IsPlainNumber digits n ↔ (r ≡ Some n)) → (n : ℕ) → IsNumberedKey name n ↔ (r ≡ Some n)
numbered_is name digits r whole plain n = (
  λ is.
      let both : codes "key" ++ digits ≡ codes "key" ++ decimal n = sym whole ∙ is.1 in
      let same : digits ≡ decimal n = cc both in
      (plain n).0 (is.0, same),
  λ e. let is = (plain n).1 e in (is.0, whole ∙ ap (λ (xs : List ℕ). codes "key" ++ xs) is.1),
)

-- A text that doesn't begin with `key` is no number of a key.
pub not_numbered : (name : List ℕ) → ((rest : List ℕ) → name ≢ codes "key" ++ rest) → (n : ℕ) → IsNumberedKey name n ↔ (None ≡ Some n)
not_numbered name none n = (λ is. absurd (none (decimal n) is.1), λ e. cc e)

one_numbered : (t : List ℕ) (m n : ℕ) → IsNumberedKey t m → IsNumberedKey t n → m ≡ n
one_numbered t m n a b =
    let both : codes "key" ++ decimal m ≡ codes "key" ++ decimal n = sym a.1 ∙ b.1 in
    let same : decimal m ≡ decimal n = cc both in
    one_plain (decimal m) m n (a.0, refl) (b.0, same)

-- one of these
pub key_named : (text : List ℕ) (k : ℕ) → ((n : ℕ) → IsNamedKey text n ↔ (Some k ≡ Some n)) → (n : ℕ) → IsKey text n ↔ (Some k ≡ Some n)
key_named text k named n = (
  elim [ inl is ↦ (named n).0 is | inr is ↦ absurd (not_both text k n ((named k).1 refl) is) ],
  λ e. inl ((named n).1 e),
)

-- A text that is no name is a key if it is a number of one.
pub key_numbered : (text : List ℕ) (r : Option ℕ) → ((n : ℕ) → IsNamedKey text n ↔ (None ≡ Some n)) → ((n : ℕ) → IsNumberedKey text n ↔ (r ≡ Some n)) → (n : ℕ) → IsKey text n ↔ (r ≡ Some n)
key_numbered text r none numbered n = (
  elim [ inl is ↦ (let e = (none n).0 is in cc e) | inr is ↦ (numbered n).0 is ],
  λ e. inr ((numbered n).1 e),
)

-- A text is at most one key.
pub one_key : (t : List ℕ) (m n : ℕ) → IsKey t m → IsKey t n → m ≡ n
one_key t m n (inl a) (inl b) = one_name t m n a b
one_key t m n (inl a) (inr b) = absurd (not_both t m n a b)
one_key t m n (inr a) (inl b) = absurd (not_both t n m b a)
one_key t m n (inr a) (inr b) = one_numbered t m n a b
