-- Address prefixes and their words.
use Rattle.std.proofs.Common.{◌≡◌, ◌∙◌, ◌≢◌, ℕ, zero, suc, ◌+◌, ◌-◌, ◌<◌, ◌≤◌, ◌==◌, Bool, true, false, List, [], ◌∷◌, ◌++◌, length, get_or, take, drop, replicate, decimal, refl, sym, ap, subst, arith, inl, inr, length-append, le-leb, eq-eqb, ne_eqb, ◌*◌, ◌⊎◌}
use Rattle.std.specs.Prelude.{Result, Ok, Err, OnOk, IfErr, not, nat_le, ◌&&◌, if◌then◌else◌, codes}
use Rattle.std.specs.Borrow.{Bor}
use Rattle.std.specs.Char.{digit_value}
use Rattle.std.specs.Net.Grammar.{IsDotted, IsNumber}
use Rattle.std.specs.Str.Parse.{AllDigits}
use Rattle.std.proofs.Math.Seq.{get_or-append_seam}
use Rattle.std.proofs.lemmas.Bool.{and_from, and_parts, cond-false, cond-true, eqb-true, leb-true}
use Rattle.std.proofs.lemmas.Fmt.{decimal_digit}
use Rattle.std.proofs.lemmas.List.{take-replicate}
use Rattle.fields_lists.specs.PrefixItems.{PrefixItem}
use Rattle.fields_lists.specs.Prefixes.{fits, has_word, is_trimmed, padded, sign}
use Rattle.fields_text.specs.declared.text_error.TextError.{TextError}
use Rattle.fields_text.specs.declared.text_error.TextError.TheVariants.{OutOfMemory}
use Rattle.fields_plain.specs.Addresses.{IsIpv6Word}
use Rattle.fields_lists.specs.PrefixWords.{AppendsPrefix, ArePrefixWords, IsAddressWord, IsPrefixOf, IsPrefixWord, SplitsSign, prefix_octets}
use Rattle.fields_text.proofs.theory.ByteLemmas.{nonzero}
use Rattle.fields_text.proofs.theory.LastSplits.{Lacks}
use Rattle.fields_text.specs.Reading.{AppendsOctets, HasValue}
use Rattle.fields_plain.proofs.theory.OneWords.{one_ipv4, one_ipv6}
use Rattle.fields_text.proofs.theory.WordLists.{AreInOrder, SameValue, appends_at, left_at, none_at}
use Rattle.fields_plain.proofs.theory.LocatorLemmas.{NoColon, same_parts}

-- octets without their last zeros
pub trimmed_end : (octets : List ℕ) (last : ℕ) → last ≢ 0 → is_trimmed (octets ++ last ∷ []) ≡ true
trimmed_end [] last some = by_test (last == 0) refl where
  by_test : (b : Bool) → (last == 0) ≡ b → not b ≡ true
  by_test true e = absurd (some (eqb-true last 0 e))
  by_test false e = refl
trimmed_end (x ∷ []) last some = trimmed_end [] last some
trimmed_end (x ∷ y ∷ octets) last some = trimmed_end (y ∷ octets) last some

-- octets and the zeros after them
front : (n k : ℕ) (octets : List ℕ) → length octets ≤ n → n ≤ k → take n (octets ++ replicate k 0) ≡ octets ++ replicate (n - length octets) 0
front n k [] h l = let same : n ≡ n - 0 = omega arith in take-replicate n k 0 l ∙ ap (λ (m : ℕ). replicate m 0) same
front zero k (x ∷ octets) h l = absurd (omega arith)
front (suc n) k (x ∷ octets) h l =
    let same : n - length octets ≡ suc n - length (x ∷ octets) = omega arith in
    ap (λ (xs : List ℕ). x ∷ xs) (front n k octets (omega arith) (omega arith)) ∙ ap (λ (m : ℕ). x ∷ (octets ++ replicate m 0)) same

padded_is : (n : ℕ) (octets left : List ℕ) → length octets ≡ n → length left ≤ length octets → octets ≡ left ++ replicate (length octets - length left) 0 → octets ≡ padded n left
padded_is n octets left size fits zeros =
    zeros ∙ ap (λ (m : ℕ). left ++ replicate (m - length left) 0) size ∙ sym (front n n left (omega arith) (omega arith))

-- what appending the octets of a prefix returns
pub appends : (Is : PrefixItem → Type 0) (item : PrefixItem) (old new : List ℕ) (result : Result Unit TextError) → Is item
    → OnOk result (new ≡ old ++ prefix_octets item) → IfErr result (λ error. error ≡ OutOfMemory)
    → AppendsPrefix Is old new result
appends Is item old new (Ok u) is ok err = (item, is, ok)
appends Is item old new (Err e) is ok err = inl (err, (item, is))

module _ (negated : Bool) (address size : List ℕ) where
  -- The prefix has this sign, the family of IPv4, and the address and size of these texts.
  abbrev pub IsIpv4Prefix : PrefixItem → Type 0
  IsIpv4Prefix item = (item.negated ≡ negated) × (item.family ≡ 1) × IsPrefixOf address size item

  -- The prefix has this sign, the family of IPv6, and the address and size of these texts.
  abbrev pub IsIpv6Prefix : PrefixItem → Type 0
  IsIpv6Prefix item = (item.negated ≡ negated) × (item.family ≡ 2) × IsPrefixOf address size item

  -- a prefix of IPv4
  pub ipv4_read : (octets left : List ℕ) (n : ℕ) → IsDotted address octets → length octets ≡ 4 → IsNumber 10 size n → n ≤ 32 → is_trimmed left ≡ true → length left ≤ length octets
      → octets ≡ left ++ replicate (length octets - length left) 0 → IsIpv4Prefix (record { family = 1; size = n; negated = negated; address = left })
  ipv4_read octets left n dotted four number most trim short zeros = (
    refl,
    refl,
    record {
      known = and_from _ _ (le-leb (length left) 4 (omega arith)) (and_from _ _ (le-leb n 32 most) trim);
      is_address = inl (refl, subst (IsDotted address) (padded_is 4 octets left four short zeros) dotted);
      is_size = number;
    },
  )

  -- A text that is no IPv4 address is the address of no IPv4 prefix.
  pub ipv4_no_address : ((octets : List ℕ) → ¬ (IsDotted address octets)) → (item : PrefixItem) → ¬ (IsIpv4Prefix item)
  ipv4_no_address none item is = by_address is.2.is_address where
    by_address : IsAddressWord address item → ⊥
    by_address (inl dotted) = none (padded 4 item.address) dotted.1
    by_address (inr colon) = let one = is.1 in let two = colon.0 in omega arith

  -- a prefix of IPv6
  pub ipv6_read : (octets left : List ℕ) (n : ℕ) → IsIpv6Word address octets → length octets ≡ 16 → IsNumber 10 size n → n ≤ 128 → is_trimmed left ≡ true → length left ≤ length octets
      → octets ≡ left ++ replicate (length octets - length left) 0 → IsIpv6Prefix (record { family = 2; size = n; negated = negated; address = left })
  ipv6_read octets left n colon sixteen number most trim short zeros = (
    refl,
    refl,
    record {
      known = and_from _ _ (le-leb (length left) 16 (omega arith)) (and_from _ _ (le-leb n 128 most) trim);
      is_address = inr (refl, subst (IsIpv6Word address) (padded_is 16 octets left sixteen short zeros) colon);
      is_size = number;
    },
  )

  -- A text that is no IPv6 address is the address of no IPv6 prefix.
  pub ipv6_no_address : ((octets : List ℕ) → ¬ (IsIpv6Word address octets)) → (item : PrefixItem) → ¬ (IsIpv6Prefix item)
  ipv6_no_address none item is = by_address is.2.is_address where
    by_address : IsAddressWord address item → ⊥
    by_address (inl dotted) = let one = dotted.0 in let two = is.1 in omega arith
    by_address (inr colon) = none (padded 16 item.address) colon.1

-- a text has no slash
abbrev pub NoSlash : List ℕ → Type 0
NoSlash text = Lacks 47 text

digits_no_slash : (digits : List ℕ) → AllDigits 10 digits → NoSlash digits
digits_no_slash [] all i h = omega arith
digits_no_slash (d ∷ digits) all zero h = λ slash.
    let first = all.0 in
    let value : digit_value d ≡ 36 = ap digit_value slash in
    omega (arith, first, value)
digits_no_slash (d ∷ digits) all (suc i) h = digits_no_slash digits all.1 i (omega arith)

-- the texts before and after the last slash
same_ends : (g h x y : List ℕ) → NoSlash x → NoSlash y → g ++ 47 ∷ x ≡ h ++ 47 ∷ y → (g ≡ h) × (x ≡ y)
same_ends [] [] x y a b e = (refl, cc)
same_ends [] (d ∷ h) x y a b e =
    let rest : x ≡ h ++ 47 ∷ y = cc in
    absurd (a (length h) (omega (arith, ap length rest, length-append h (47 ∷ y))) (ap (λ (xs : List ℕ). get_or xs (length h) 0) rest ∙ get_or-append_seam h 47 y 0))
same_ends (c ∷ g) [] x y a b e =
    let rest : y ≡ g ++ 47 ∷ x = cc in
    absurd (b (length g) (omega (arith, ap length rest, length-append g (47 ∷ x))) (ap (λ (xs : List ℕ). get_or xs (length g) 0) rest ∙ get_or-append_seam g 47 x 0))
same_ends (c ∷ g) (d ∷ h) x y a b e =
    let first : c ≡ d = cc in
    let others : g ++ 47 ∷ x ≡ h ++ 47 ∷ y = cc in
    let rest = same_ends g h x y a b others in
    let begin = rest.0 in
    (cc (first, begin), rest.1)

-- the digit of the family
family_digit : (address : List ℕ) (item : PrefixItem) → IsAddressWord address item → decimal item.family ≡ (48 + item.family) ∷ []
family_digit address item (inl dotted) = let one = dotted.0 in decimal_digit item.family (omega arith)
family_digit address item (inr colon) = let two = colon.0 in decimal_digit item.family (omega arith)

family_small : (address : List ℕ) (item : PrefixItem) → IsAddressWord address item → (0 < item.family) × (item.family < 3)
family_small address item (inl dotted) = let one = dotted.0 in (omega arith, omega arith)
family_small address item (inr colon) = let two = colon.0 in (omega arith, omega arith)

one_digit : (d : ℕ) → d < 58 → NoColon (d ∷ [])
one_digit d small zero h = λ e. let same : d ≡ 58 = e in omega arith
one_digit d small (suc i) h = omega arith

-- the sign
sign_is : (word after rest : List ℕ) (d : ℕ) (n m : Bool) → d ≢ 33 → word ≡ (if n then codes "!" else []) ++ (d ∷ rest) → word ≡ (if m then codes "!" else []) ++ after
    → (m ≡ false → get_or word 0 0 ≢ 33) → (n ≡ m) × (after ≡ d ∷ rest)
sign_is word after rest d true true other e f first = (refl, cc (e, f))
sign_is word after rest d true false other e f first = absurd (first refl (ap (λ (xs : List ℕ). get_or xs 0 0) e))
sign_is word after rest d false true other e f first = absurd (other (cc (e, f)))
sign_is word after rest d false false other e f first = (refl, cc (e, f))

-- the text of a prefix after its sign
abbrev after_sign : PrefixItem → List ℕ → List ℕ → List ℕ
after_sign item address size = (48 + item.family) ∷ 58 ∷ (address ++ 47 ∷ size)

module _ (word after : List ℕ) (negated : Bool) (split : SplitsSign word negated after) where
  unsigned : (item : PrefixItem) (is : IsPrefixWord word item) → (item.negated ≡ negated) × (after ≡ after_sign item is.address is.size)
  unsigned item is =
      let small = family_small is.address item is.is.is_address in
      let digit = family_digit is.address item is.is.is_address in
      sign_is word after (58 ∷ (is.address ++ 47 ∷ is.size)) (48 + item.family) item.negated negated (λ e. omega (arith, small.0))
      (is.whole ∙ ap (λ (xs : List ℕ). sign item ++ (xs ++ (58 ∷ (is.address ++ 47 ∷ is.size)))) digit) split.whole split.first

  -- the text after the sign has no colon
  pub no_family : NoColon after → (item : PrefixItem) → ¬ (IsPrefixWord word item)
  no_family none item is =
      let rest = (unsigned item is).1 in
      none 1 (omega (arith, ap length rest)) (ap (λ (xs : List ℕ). get_or xs 1 0) rest)

  module _ (family rest : List ℕ) (first : after ≡ family ++ 58 ∷ rest) (clear : NoColon family) where
    rest_is : (item : PrefixItem) (is : IsPrefixWord word item) → (family ≡ (48 + item.family) ∷ []) × (rest ≡ is.address ++ 47 ∷ is.size)
    rest_is item is =
        let small = family_small is.address item is.is.is_address in
        same_parts family ((48 + item.family) ∷ []) rest (is.address ++ 47 ∷ is.size) clear
        (one_digit (48 + item.family) (omega (arith, small.1))) (sym first ∙ (unsigned item is).1)

    -- the text after the colon has no slash
    pub no_size : NoSlash rest → (item : PrefixItem) → ¬ (IsPrefixWord word item)
    no_size none item is =
        let whole = (rest_is item is).1 in
        none (length is.address) (omega (arith, ap length whole, length-append is.address (47 ∷ is.size)))
        (ap (λ (xs : List ℕ). get_or xs (length is.address) 0) whole ∙ get_or-append_seam is.address 47 is.size 0)

    module _ (address size : List ℕ) (last : rest ≡ address ++ 47 ∷ size) (end : NoSlash size) where
      parts_of : (item : PrefixItem) → IsPrefixWord word item → (item.negated ≡ negated) × (family ≡ (48 + item.family) ∷ []) × IsPrefixOf address size item
      parts_of item is =
          let ends = same_ends is.address address is.size size (digits_no_slash is.size is.is.is_size.0.1) end (sym (rest_is item is).1 ∙ last) in (
            (unsigned item is).0,
            (rest_is item is).0,
            subst (λ (a : List ℕ). IsPrefixOf a size item) ends.0 (subst (λ (s : List ℕ). IsPrefixOf is.address s item) ends.1 is.is),
          )

      word_of : (item : PrefixItem) → item.negated ≡ negated → family ≡ (48 + item.family) ∷ [] → IsPrefixOf address size item → IsPrefixWord word item
      word_of item same digit is = record {
        address = address;
        size = size;
        whole =
            split.whole
            ∙ ap (λ (n : Bool). (if n then codes "!" else []) ++ after) (sym same)
            ∙ ap (λ (xs : List ℕ). sign item ++ xs) (first ∙ ap (λ (xs : List ℕ). xs ++ 58 ∷ rest) (digit ∙ sym (family_digit address item is.is_address))
            ∙ ap (λ (xs : List ℕ). decimal item.family ++ 58 ∷ xs) last);
        is = is;
      }

      -- what appending a prefix of the family returns
      pub ipv4_word : (old new : List ℕ) (result : Result Unit TextError) → family ≡ 49 ∷ [] → AppendsPrefix (IsIpv4Prefix negated address size) old new result
          → AppendsPrefix (IsPrefixWord word) old new result
      ipv4_word old new (Ok u) one (item, is, e) =
          let digit : 49 ≡ 48 + item.family = let f = is.1 in omega arith in
          (item, word_of item is.0 (one ∙ ap (λ (d : ℕ). d ∷ []) digit) is.2, e)
      ipv4_word old new (Err e) one (inl memory) =
          let item = memory.1.0 in
          let is = memory.1.1 in
          let digit : 49 ≡ 48 + item.family = let f = is.1 in omega arith in
          inl (memory.0, (item, word_of item is.0 (one ∙ ap (λ (d : ℕ). d ∷ []) digit) is.2))
      ipv4_word old new (Err e) one (inr bad) =
          inr (
            bad.0,
            λ item is.
                let parts = parts_of item is in
                let digit : 49 ≡ 48 + item.family = ap (λ (xs : List ℕ). get_or xs 0 0) (sym one ∙ parts.1) in
                bad.1 item (parts.0, omega (arith, digit), parts.2),
          )

      -- If the family is written `2`, what appends the IPv6 prefix of an address and a size appends that of the word.
      pub ipv6_word : (old new : List ℕ) (result : Result Unit TextError) → family ≡ 50 ∷ [] → AppendsPrefix (IsIpv6Prefix negated address size) old new result
          → AppendsPrefix (IsPrefixWord word) old new result
      ipv6_word old new (Ok u) two (item, is, e) =
          let digit : 50 ≡ 48 + item.family = let f = is.1 in omega arith in
          (item, word_of item is.0 (two ∙ ap (λ (d : ℕ). d ∷ []) digit) is.2, e)
      ipv6_word old new (Err e) two (inl memory) =
          let item = memory.1.0 in
          let is = memory.1.1 in
          let digit : 50 ≡ 48 + item.family = let f = is.1 in omega arith in
          inl (memory.0, (item, word_of item is.0 (two ∙ ap (λ (d : ℕ). d ∷ []) digit) is.2))
      ipv6_word old new (Err e) two (inr bad) =
          inr (
            bad.0,
            λ item is.
                let parts = parts_of item is in
                let digit : 50 ≡ 48 + item.family = ap (λ (xs : List ℕ). get_or xs 0 0) (sym two ∙ parts.1) in
                bad.1 item (parts.0, omega (arith, digit), parts.2),
          )

      -- another family
      pub other_family : family ≢ 49 ∷ [] → family ≢ 50 ∷ [] → (item : PrefixItem) → ¬ (IsPrefixWord word item)
      other_family one two item is = by_address is.is.is_address where
        by_address : IsAddressWord is.address item → ⊥
        by_address (inl dotted) = one ((parts_of item is).1 ∙ ap (λ (f : ℕ). (48 + f) ∷ []) dotted.0)
        by_address (inr colon) = two ((parts_of item is).1 ∙ ap (λ (f : ℕ). (48 + f) ∷ []) colon.0)

-- a word that is a prefix, and the octets of the prefix
abbrev pub IsPrefixIn : Bor (List ℕ) → List ℕ → Type 0
IsPrefixIn word octets = (item : PrefixItem) × IsPrefixWord word.now item × (octets ≡ prefix_octets item)

-- Words of address prefixes are prefixes in order.
pub prefixes_in_order : AreInOrder IsPrefixIn ArePrefixWords
prefixes_in_order = record {
  none = refl;
  both = λ word words first after own others. (own.0, after, own.1, ap (λ (xs : List ℕ). xs ++ after) own.2, others);
  parts = λ word words octets is. ((prefix_octets is.0, (is.0, is.2, refl)), (is.1, is.4));
}

module _ (words : List (Bor (List ℕ))) (k : ℕ) (d : Bor (List ℕ)) (within : k < length words) where
  -- what appending the prefixes from the one at an index on returns, where that one is appended
  pub prefix_more : (old middle new : List ℕ) (u : Unit {0}) (result : Result Unit TextError) → AppendsPrefix (IsPrefixWord (get_or words k d).now) old middle (Ok u)
      → AppendsOctets (ArePrefixWords (drop (k + 1) words)) middle new result → AppendsOctets (ArePrefixWords (drop k words)) old new result
  prefix_more old middle new u result a b =
      appends_at IsPrefixIn ArePrefixWords prefixes_in_order words k d old middle new u result within (prefix_octets a.0, (a.0, a.1, refl), a.2) b

  -- whether the words are prefixes, where the one at an index is
  pub prefix_there : HasValue (IsPrefixWord (get_or words k d).now) → SameValue (ArePrefixWords words) (ArePrefixWords (drop k words))
      → SameValue (ArePrefixWords words) (ArePrefixWords (drop (k + 1) words))
  prefix_there own left = left_at IsPrefixIn ArePrefixWords prefixes_in_order words k d within (prefix_octets own.0, (own.0, own.1, refl)) left

  -- the word at an index is no prefix
  pub prefix_wrong : ((item : PrefixItem) → ¬ (IsPrefixWord (get_or words k d).now item)) → SameValue (ArePrefixWords words) (ArePrefixWords (drop k words))
      → (octets : List ℕ) → ¬ (ArePrefixWords words octets)
  prefix_wrong none left octets are =
      absurd (cc ((none_at IsPrefixIn ArePrefixWords prefixes_in_order words k d within (λ octets is. none is.0 is.1) left).1 (octets, are)))

-- a word without a sign
pub no_sign : (word : List ℕ) → ((rest : List ℕ) → word ≢ 33 ∷ rest) → get_or word 0 0 ≢ 33
no_sign [] none = λ e. omega arith
no_sign (x ∷ word) none = λ e. none word (ap (λ (h : ℕ). h ∷ word) e)

-- octets without their last zeros are the same if they are with zeros after them
no_zeros : (k j y : ℕ) (ys : List ℕ) → is_trimmed (y ∷ ys) ≡ true → replicate k 0 ≡ y ∷ (ys ++ replicate j 0) → ⊥
no_zeros zero j y ys trim e = cc e
no_zeros (suc k) j y [] trim e =
    let same : 0 ≡ y = ap (λ (xs : List ℕ). get_or xs 0 0) e in
    let some = nonzero y trim in
    omega (arith, same, some)
no_zeros (suc k) j y (z ∷ ys) trim e = no_zeros k j z ys trim (ap (drop 1) e)

rest_trimmed : (x : ℕ) (xs : List ℕ) → is_trimmed (x ∷ xs) ≡ true → is_trimmed xs ≡ true
rest_trimmed x [] trim = refl
rest_trimmed x (y ∷ xs) trim = trim

same_trimmed : (xs ys : List ℕ) (k j : ℕ) → is_trimmed xs ≡ true → is_trimmed ys ≡ true → xs ++ replicate k 0 ≡ ys ++ replicate j 0 → xs ≡ ys
same_trimmed [] [] k j a b e = refl
same_trimmed [] (y ∷ ys) k j a b e = absurd (no_zeros k j y ys b e)
same_trimmed (x ∷ xs) [] k j a b e = absurd (no_zeros j k x xs a (sym e))
same_trimmed (x ∷ xs) (y ∷ ys) k j a b e =
    let first : x ≡ y = ap (λ (zs : List ℕ). get_or zs 0 0) e in
    let others = same_trimmed xs ys k j (rest_trimmed x xs a) (rest_trimmed y ys b) (ap (drop 1) e) in
    ap (λ (z : ℕ). z ∷ xs) first ∙ ap (λ (zs : List ℕ). y ∷ zs) others

same_padded : (width : ℕ) (x y : PrefixItem) → fits width x ≡ true → fits width y ≡ true → padded width x.address ≡ padded width y.address → x.address ≡ y.address
same_padded width x y a b e =
    let one = and_parts (nat_le (length x.address) width) (nat_le x.size (width * 8) && is_trimmed x.address) a in
    let two = and_parts (nat_le (length y.address) width) (nat_le y.size (width * 8) && is_trimmed y.address) b in
    same_trimmed x.address y.address (width - length x.address) (width - length y.address) (and_parts (nat_le x.size (width * 8)) (is_trimmed x.address) one.1).1
    (and_parts (nat_le y.size (width * 8)) (is_trimmed y.address) two.1).1
    (sym (front width width x.address (leb-true (length x.address) width one.0) (omega arith)) ∙ e ∙ front width width y.address (leb-true (length y.address) width two.0) (omega arith))

-- whether a prefix of a family has a presentation format
fits_of : (width : ℕ) (item : PrefixItem) → has_word item ≡ true → (item.family ≡ 1) × (width ≡ 4) ⊎ (item.family ≡ 2) × (width ≡ 16) → fits width item ≡ true
fits_of width item known (inl (one, four)) = subst (λ (w : ℕ). fits w item ≡ true) (sym four) (sym (cond-true _ _ _ (eq-eqb item.family 1 one)) ∙ known)
fits_of width item known (inr (two, sixteen)) =
    subst (λ (w : ℕ). fits w item ≡ true) (sym sixteen)
    (sym (cond-false _ _ _ (ne_eqb item.family 1 (λ e. omega (arith, two, e))) ∙ cond-true _ _ _ (eq-eqb item.family 2 two)) ∙ known)

-- a word represents one prefix
one_address : (address : List ℕ) (x y : PrefixItem) → has_word x ≡ true → has_word y ≡ true → IsAddressWord address x → IsAddressWord address y → x.family ≡ y.family → x.address ≡ y.address
one_address address x y a b (inl p) (inl q) same =
    same_padded 4 x y (fits_of 4 x a (inl (p.0, refl))) (fits_of 4 y b (inl (q.0, refl))) (one_ipv4 address (padded 4 x.address) (padded 4 y.address) p.1 q.1)
one_address address x y a b (inl p) (inr q) same = absurd (omega (arith, p.0, q.0, same))
one_address address x y a b (inr p) (inl q) same = absurd (omega (arith, p.0, q.0, same))
one_address address x y a b (inr p) (inr q) same =
    same_padded 16 x y (fits_of 16 x a (inr (p.0, refl))) (fits_of 16 y b (inr (q.0, refl))) (one_ipv6 address (padded 16 x.address) (padded 16 y.address) p.1 q.1)

own_sign : (word : List ℕ) (item : PrefixItem) (is : IsPrefixWord word item) → SplitsSign word item.negated (after_sign item is.address is.size)
own_sign word item is =
    let small = family_small is.address item is.is.is_address in
    let digit = family_digit is.address item is.is.is_address in
    let text : word ≡ sign item ++ after_sign item is.address is.size = is.whole ∙ ap (λ (xs : List ℕ). sign item ++ (xs ++ (58 ∷ (is.address ++ 47 ∷ is.size)))) digit in
    record {
      whole = text;
      first = λ plain same.
          let whole : word ≡ after_sign item is.address is.size = text ∙ ap (λ (n : Bool). (if n then codes "!" else []) ++ after_sign item is.address is.size) plain in
          omega (arith, same, ap (λ (xs : List ℕ). get_or xs 0 0) whole, small.0);
    }

-- A word represents at most one prefix.
pub one_prefix : (word : List ℕ) (x y : PrefixItem) → IsPrefixWord word x → IsPrefixWord word y → x ≡ y
one_prefix word x y a b =
    let small = family_small a.address x a.is.is_address in
    let parts =
    parts_of word (after_sign x a.address a.size) x.negated (own_sign word x a) ((48 + x.family) ∷ []) (a.address ++ 47 ∷ a.size) refl
    (one_digit (48 + x.family) (omega (arith, small.1))) a.address a.size refl
    (digits_no_slash a.size a.is.is_size.0.1) y b in
    let digit : 48 + x.family ≡ 48 + y.family = ap (λ (xs : List ℕ). get_or xs 0 0) parts.1 in
    let family : x.family ≡ y.family = omega (arith, digit) in
    let address = one_address a.address x y a.is.known b.is.known a.is.is_address parts.2.is_address family in
    let negated = sym parts.0 in
    let size : x.size ≡ y.size = sym a.is.is_size.1 ∙ parts.2.is_size.1 in
    λ i. record { family = family i; size = size i; negated = negated i; address = address i }

-- Words represent at most one list of prefixes.
pub one_prefixes : (words : List (Bor (List ℕ))) (xs ys : List ℕ) → ArePrefixWords words xs → ArePrefixWords words ys → xs ≡ ys
one_prefixes [] xs ys a b = a ∙ sym b
one_prefixes (word ∷ words) xs ys a b =
    let first = one_prefix word.now a.0 b.0 a.2 b.2 in
    let others = one_prefixes words a.1 b.1 a.4 b.4 in
    a.3 ∙ (λ i. prefix_octets (first i) ++ others i) ∙ sym b.3
