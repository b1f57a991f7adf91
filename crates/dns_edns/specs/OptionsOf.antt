-- The one list of options that octets are. RFC 6891 section 6.1.2. The list comes from the proof, which is here too, that octets are one list of options or none.
use Rattle.std.proofs.Common.{◌≡◌, ◌∙◌, ap, sym, refl, subst, ℕ, zero, suc, ◌<◌, ◌≤◌, ◌⊎◌, inl, inr, List, [], ◌∷◌, length, length-append, take, drop, arith}
use Rattle.std.proofs.lemmas.Bool.{cases_lt}
use Rattle.std.proofs.lemmas.List.{take_at, drop_at, take-append-drop, length-take-le, length-drop}
use Rattle.std.specs.Option.{option_map_or}
use Rattle.std.specs.Prelude.{Bool, Option, Some, None, is_some}
use Rattle.dns_code.specs.Bits.{number_in}
use Rattle.dns_edns.specs.Options.{OptionItem, OptionBegins, AreOptions}

-- the option at the start, if there is one, and the octets after it
abbrev pub first_option : List ℕ → OptionItem
first_option b = record { code = number_in b 0; octets = take (number_in b 2) (drop 4 b) }

abbrev pub after_first : List ℕ → List ℕ
after_first b = drop (number_in b 2) (drop 4 b)

pub one_first : (x : OptionItem) (b after : List ℕ) → OptionBegins x b after → (x ≡ first_option b) × (after ≡ after_first b)
one_first x b after h =
    let octets = sym (ap (take (number_in b 2)) h.octets ∙ take_at x.octets after (number_in b 2) (sym h.size)) in
    let rest = sym (ap (drop (number_in b 2)) h.octets ∙ drop_at x.octets after (number_in b 2) (sym h.size)) in
    ((λ i. record { code = sym h.code i; octets = octets i }), rest)

pub first_begins : (b : List ℕ) → 4 ≤ length b → number_in b 2 ≤ length (drop 4 b) → OptionBegins (first_option b) b (after_first b)
first_begins b there fits = record {
  there = there;
  code = refl;
  size = sym (length-take-le (number_in b 2) (drop 4 b) fits);
  octets = sym (take-append-drop (number_in b 2) (drop 4 b));
}

-- an option takes at least four octets
less_after : (b : List ℕ) → 4 ≤ length b → length (after_first b) < length b
less_after b there = let e = length-drop (number_in b 2) (drop 4 b) in let f = length-drop 4 b in omega (arith, e, f)

-- octets are a list of options, or no list is one of them
abbrev IsOneOrNone : List ℕ → Type 0
IsOneOrNone b = ((xs : List OptionItem) × AreOptions b xs) ⊎ ((xs : List OptionItem) → AreOptions b xs → ⊥)

-- fewer than four octets don't begin with an option
pub none_in_short : (b : List ℕ) → length b < 4 → (x : OptionItem) (after : List ℕ) → OptionBegins x b after → ⊥
none_in_short b short x after h = let there = h.there in omega arith

-- nor do octets that end before the option does
pub none_in_cut : (b : List ℕ) → length (drop 4 b) < number_in b 2 → (x : OptionItem) (after : List ℕ) → OptionBegins x b after → ⊥
none_in_cut b short x after h =
    let size = h.size in
    let all = ap length h.octets ∙ length-append x.octets after in
    omega (arith, size, all)

pub none_at_all : (b : List ℕ) → 0 < length b → ((x : OptionItem) (after : List ℕ) → OptionBegins x b after → ⊥) → (xs : List OptionItem) → AreOptions b xs → ⊥
none_at_all b there never [] h = let e = ap length h in omega (arith, e)
none_at_all b there never (x ∷ xs) h = never x h.0 h.1

none_after : (b : List ℕ) → 0 < length b → ((xs : List OptionItem) → AreOptions (after_first b) xs → ⊥) → (xs : List OptionItem) → AreOptions b xs → ⊥
none_after b there never [] h = let e = ap length h in omega (arith, e)
none_after b there never (x ∷ xs) h = never xs (subst (λ (o : List ℕ). AreOptions o xs) (one_first x b h.0 h.1).1 h.2)

read : (n : ℕ) (b : List ℕ) → length b ≤ n → IsOneOrNone b
read n [] l = inl ([], refl)
read zero (o ∷ os) l = absurd (omega arith)
read (suc n) (o ∷ os) l =
    let b : List ℕ = o ∷ os in
    elim (cases_lt (length b) 4) [
      | inl short ↦ inr (none_at_all b (omega arith) (none_in_short b short))
      | inr there ↦ elim (cases_lt (length (drop 4 b)) (number_in b 2)) [
        | inl cut ↦ inr (none_at_all b (omega arith) (none_in_cut b cut))
        | inr fits ↦ let less = less_after b there in elim (read n (after_first b) (omega (arith, less))) [
          | inl p ↦ inl (first_option b ∷ p.0, (after_first b, first_begins b there fits, p.1))
          | inr never ↦ inr (none_after b (omega arith) never)
        ]
      ]
    ]

pub one_list : (b : List ℕ) (xs ys : List OptionItem) → AreOptions b xs → AreOptions b ys → xs ≡ ys
one_list b [] [] h k = refl
one_list b [] (y ∷ ys) h k = let there = k.1.there in let e = ap length h in absurd (omega (arith, e))
one_list b (x ∷ xs) [] h k = let there = h.1.there in let e = ap length k in absurd (omega (arith, e))
one_list b (x ∷ xs) (y ∷ ys) h k =
    let p = one_first x b h.0 h.1 in
    let q = one_first y b k.0 k.1 in
    let rest = one_list (after_first b) xs ys (subst (λ (o : List ℕ). AreOptions o xs) p.1 h.2) (subst (λ (o : List ℕ). AreOptions o ys) q.1 k.2) in
    λ i. (p.0 ∙ sym q.0) i ∷ rest i

-- the list, if octets are one
abbrev pub chosen : {b : List ℕ} → ((xs : List OptionItem) × AreOptions b xs) ⊎ ((xs : List OptionItem) → AreOptions b xs → ⊥) → Option (List OptionItem)
chosen (inl p) = Some p.0
chosen (inr never) = None

pub one_or_none : (b : List ℕ) → ((xs : List OptionItem) × AreOptions b xs) ⊎ ((xs : List OptionItem) → AreOptions b xs → ⊥)
one_or_none b = read (length b) b (omega arith)

unfoldable pub options_of : List ℕ → Option (List OptionItem)
options_of b = chosen (one_or_none b)

-- whether octets are a list of options
abbrev pub are_options : List ℕ → Bool
are_options b = is_some (options_of b)

-- the options in octets, the empty list if they aren't a list of options
abbrev pub options_in : List ℕ → List OptionItem
options_in b = option_map_or (λ xs. xs) (options_of b) []
