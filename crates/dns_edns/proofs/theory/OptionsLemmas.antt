-- Which list of options octets are.
use Rattle.std.proofs.Common.{◌≡◌, ◌∙◌, ap, sym, refl, subst, ℕ, ◌<◌, ◌⊎◌, inl, inr, true, false, List, [], ◌∷◌, ◌++◌, append_assoc, append-nil, length, length-append, length-drop, arith}
use Rattle.std.specs.Option.{option_map_or}
use Rattle.std.specs.Prelude.{Option, Some, None, is_some, IsSome}
use Rattle.std.proofs.lemmas.List.Elements.{All-head, All-tail}
use Rattle.std.proofs.lemmas.Nat.{from_be_bytes-to_be_bytes_2}
use Rattle.std.specs.List.{All}
use Rattle.dns_edns.specs.Laws.{IsOption}
use Rattle.dns_edns.specs.Options.{OptionItem, OptionBegins, AreOptions, encode_option, encode_options}
use Rattle.dns_edns.specs.OptionsOf.{one_or_none, one_list, chosen, options_of, are_options, options_in, one_first, none_at_all}

chosen-is : {b : List ℕ} (r : ((xs : List OptionItem) × AreOptions b xs) ⊎ ((xs : List OptionItem) → AreOptions b xs → ⊥)) (xs : List OptionItem) → AreOptions b xs → chosen r ≡ Some xs
chosen-is (inl p) xs h = ap (λ (ys : List OptionItem). let o : Option (List OptionItem) = Some ys in o) (one_list _ p.0 xs p.1 h)
chosen-is (inr never) xs h = absurd (never xs h)

chosen-none : {b : List ℕ} (r : ((xs : List OptionItem) × AreOptions b xs) ⊎ ((xs : List OptionItem) → AreOptions b xs → ⊥)) → ((xs : List OptionItem) → AreOptions b xs → ⊥) → chosen r ≡ None
chosen-none (inl p) never = absurd (never p.0 p.1)
chosen-none (inr other) never = refl

chosen-holds : {b : List ℕ} (r : ((xs : List OptionItem) × AreOptions b xs) ⊎ ((xs : List OptionItem) → AreOptions b xs → ⊥)) (xs : List OptionItem) → chosen r ≡ Some xs → AreOptions b xs
chosen-holds {b = b} (inl p) xs e = let same : p.0 ≡ xs = cc in subst (λ (ys : List OptionItem). AreOptions b ys) same p.1
chosen-holds (inr other) xs e = absurd (cc)

-- Octets that encode options give these options.
pub options_of-is : (b : List ℕ) (xs : List OptionItem) → AreOptions b xs → options_of b ≡ Some xs
unfolding options_of
options_of-is b xs h = chosen-is (one_or_none b) xs h

-- Octets that encode no options give none.
pub options_of-none : (b : List ℕ) → ((xs : List OptionItem) → AreOptions b xs → ⊥) → options_of b ≡ None
unfolding options_of
options_of-none b never = chosen-none (one_or_none b) never

-- The options that octets give are encoded in them.
pub options_of-holds : (b : List ℕ) (xs : List OptionItem) → options_of b ≡ Some xs → AreOptions b xs
unfolding options_of
options_of-holds b xs e = chosen-holds (one_or_none b) xs e

-- no octets are the empty list
pub options_of-nil : options_of [] ≡ Some []
options_of-nil = options_of-is [] [] refl

some_of : (b : List ℕ) (o : Option (List OptionItem)) → options_of b ≡ o → IsSome o → (xs : List OptionItem) × AreOptions b xs
some_of b (Some xs) e h = (xs, options_of-holds b xs e)
some_of b None e h = absurd (cc)

-- the octets after an option are a list of options if all octets are
after_list : (x : OptionItem) (b after : List ℕ) (xs : List OptionItem) → OptionBegins x b after → AreOptions b xs → (ys : List OptionItem) × (xs ≡ x ∷ ys) × AreOptions after ys
after_list x b after [] begins h = let there = begins.there in let e = ap length h in absurd (omega (arith, e))
after_list x b after (y ∷ ys) begins h =
    let p = one_first x b after begins in
    let q = one_first y b h.0 h.1 in
    (ys, (λ i. (q.0 ∙ sym p.0) i ∷ ys), subst (λ (o : List ℕ). AreOptions o ys) (q.1 ∙ sym p.1) h.2)

-- An option that begins the octets is the first of them, and the others are after it.
pub given_first : (x : OptionItem) (b after : List ℕ) → OptionBegins x b after → IsSome (options_of b) → IsSome (options_of after) × (options_in b ≡ x ∷ options_in after)
given_first x b after begins some =
    let all = some_of b (options_of b) refl some in
    let rest = after_list x b after all.0 begins all.1 in
    let e : options_of after ≡ Some rest.0 = options_of-is after rest.0 rest.2 in
    let f : options_of b ≡ Some (x ∷ rest.0) = options_of-is b all.0 all.1 ∙ ap (λ (xs : List OptionItem). let o : Option (List OptionItem) = Some xs in o) rest.1 in (
      rw e refl,
      ap (λ (o : Option (List OptionItem)). option_map_or (λ (xs : List OptionItem). xs) o []) f
          ∙ sym (ap (λ (o : Option (List OptionItem)). x ∷ option_map_or (λ (xs : List OptionItem). xs) o []) e),
    )

no_options : (b : List ℕ) → ((x : OptionItem) (after : List ℕ) → OptionBegins x b after → ⊥) → (xs : List OptionItem) → AreOptions b xs → options_in b ≡ []
no_options b never [] h = ap (λ (o : Option (List OptionItem)). option_map_or (λ (xs : List OptionItem). xs) o []) (options_of-is b [] h)
no_options b never (x ∷ xs) h = absurd (never x h.0 h.1)

-- Octets that begin with no option have none.
pub given_none : (b : List ℕ) → ((x : OptionItem) (after : List ℕ) → OptionBegins x b after → ⊥) → IsSome (options_of b) → options_in b ≡ []
given_none b never some = let all = some_of b (options_of b) refl some in no_options b never all.0 all.1

-- octets that begin with an option are a list of options if and only if the octets after it are
reported : (x : OptionItem) (b after : List ℕ) → OptionBegins x b after → ((ys : List OptionItem) × AreOptions after ys)
    ⊎ ((ys : List OptionItem) → AreOptions after ys → ⊥) → are_options b ≡ are_options after
reported x b after begins (inl p) =
    let e : options_of after ≡ Some p.0 = options_of-is after p.0 p.1 in
    let f : options_of b ≡ Some (x ∷ p.0) = options_of-is b (x ∷ p.0) (after, begins, p.1) in
    ap (λ (o : Option (List OptionItem)). is_some o) f ∙ sym (ap (λ (o : Option (List OptionItem)). is_some o) e)
reported x b after begins (inr never) =
    let e = options_of-none after never in
    let f = options_of-none b (λ xs h. let rest = after_list x b after xs begins h in never rest.0 rest.2) in
    ap (λ (o : Option (List OptionItem)). is_some o) f ∙ sym (ap (λ (o : Option (List OptionItem)). is_some o) e)

-- Octets are options if and only if those after the first option are.
pub reported_after : (x : OptionItem) (b after : List ℕ) → OptionBegins x b after → are_options b ≡ are_options after
reported_after x b after begins = reported x b after begins (one_or_none after)

-- no octets are a list of options
pub reported_empty : (b : List ℕ) → length b ≡ 0 → are_options b ≡ true
reported_empty [] e = ap (λ (o : Option (List OptionItem)). is_some o) options_of-nil
reported_empty (o ∷ os) e = absurd (omega (arith, e))

-- octets that don't begin with an option are no list of options
pub reported_none : (b : List ℕ) → 0 < length b → ((x : OptionItem) (after : List ℕ) → OptionBegins x b after → ⊥) → are_options b ≡ false
reported_none b there never = ap (λ (o : Option (List OptionItem)). is_some o) (options_of-none b (none_at_all b there never))

-- an encoded option is at the start
encoding_begins : (x : OptionItem) (after : List ℕ) → IsOption x → OptionBegins x (encode_option x ++ after) after
encoding_begins x after h = record {
  there = omega arith;
  code = from_be_bytes-to_be_bytes_2 x.code h.code;
  size = from_be_bytes-to_be_bytes_2 (length x.octets) h.short;
  octets = refl;
}

-- The encoding of options encodes them.
pub options_encoded : (xs : List OptionItem) → All IsOption xs → AreOptions (encode_options xs) xs
options_encoded [] each = refl
options_encoded (x ∷ xs) each = (encode_options xs, encoding_begins x (encode_options xs) (All-head IsOption x xs each), options_encoded xs (All-tail IsOption x xs each))

-- octets that begin with an option still do with others appended
begins_longer : (x : OptionItem) (b after c : List ℕ) → OptionBegins x b after → OptionBegins x (b ++ c) (after ++ c)
begins_longer x (o ∷ p ∷ q ∷ r ∷ os) after c h = record {
  there = omega arith;
  code = h.code;
  size = h.size;
  octets = ap (λ (ys : List ℕ). ys ++ c) h.octets ∙ append_assoc x.octets after c;
}
begins_longer x [] after c h = absurd (let there = h.there in omega arith)
begins_longer x (o ∷ []) after c h = absurd (let there = h.there in omega arith)
begins_longer x (o ∷ p ∷ []) after c h = absurd (let there = h.there in omega arith)
begins_longer x (o ∷ p ∷ q ∷ []) after c h = absurd (let there = h.there in omega arith)

-- two lists of options in order are one list
pub options_joined : (b c : List ℕ) (xs ys : List OptionItem) → AreOptions b xs → AreOptions c ys → AreOptions (b ++ c) (xs ++ ys)
options_joined b c [] ys h k = subst (λ (d : List ℕ). AreOptions (d ++ c) ys) (sym h) k
options_joined b c (x ∷ xs) ys h k = (h.0 ++ c, begins_longer x b h.0 c h.1, options_joined h.0 c xs ys h.2 k)

-- octets that are a list of options are the list of the options in them
pub listed_are : (b : List ℕ) → IsSome (options_of b) → AreOptions b (options_in b)
listed_are b some =
    let all = some_of b (options_of b) refl some in
    let e = ap (λ (o : Option (List OptionItem)). option_map_or (λ (xs : List OptionItem). xs) o []) (options_of-is b all.0 all.1) in
    subst (λ (xs : List OptionItem). AreOptions b xs) (sym e) all.1

-- an option appended to a list becomes its last
pub one_more : (b : List ℕ) (x : OptionItem) → IsSome (options_of b) → IsOption x → options_of (b ++ encode_option x) ≡ Some (options_in b ++ x ∷ [])
one_more b x some is =
    let one : AreOptions (encode_option x) (x ∷ []) = subst (λ (c : List ℕ). AreOptions c (x ∷ [])) (append-nil (encode_option x)) ([], encoding_begins x [] is, refl) in
    options_of-is (b ++ encode_option x) (options_in b ++ x ∷ []) (options_joined b (encode_option x) (options_in b) (x ∷ []) (listed_are b some) one)

-- options have as many octets as those that they are read from
encode_length : (b : List ℕ) (xs : List OptionItem) → AreOptions b xs → length (encode_options xs) ≡ length b
encode_length b [] h = sym (ap length h)
encode_length b (x ∷ xs) h =
    let rest = encode_length h.0 xs h.2 in
    let there = h.1.there in
    let after = ap length h.1.octets ∙ length-append x.octets h.0 in
    omega (arith, rest, there, after, length-drop 4 b, length-append (encode_option x) (encode_options xs))

-- as `encode_length`, of the options in octets that are a list of options
pub options_length : (b : List ℕ) → IsSome (options_of b) → length (encode_options (options_in b)) ≡ length b
options_length b some = encode_length b (options_in b) (listed_are b some)
