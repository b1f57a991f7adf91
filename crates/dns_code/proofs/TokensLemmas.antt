-- Splitting a text that was joined from tokens yields these tokens.
use Rattle.std.proofs.Common.{◌≡◌, ◌∙◌, ◌↔◌, ℕ, Bool, true, false, not, List, [], ◌∷◌, ap, refl, arith, inl, inr, length, nat_eq}
use Rattle.std.specs.Prelude.{Some, None, map, IsTrue, if◌then◌else◌, All}
use Rattle.std.specs.Char.{to_ascii_lowercase}
use Rattle.std.specs.List.{list_all, list_any}
use Rattle.std.specs.Str.{str_eq_ignore_ascii_case}
use Rattle.std.proofs.lemmas.Bool.{and_parts, and_from, or_cases}
use Rattle.std.proofs.lemmas.Bool.Decides.{nat_tests}
use Rattle.std.proofs.lemmas.List.Splits.{slice_split_none, slice_split_at, join_with_byte-slice_split}
use Rattle.std.proofs.lemmas.List.Sums.{AllPass-from_list_all}
use Rattle.std.proofs.lemmas.Slice.Eq.{bytes_eq-Decides}
use Rattle.dns_code.specs.Flags.{space, flag_names, tokens, is_flags_token, flags_named, flags_read, joined}
use Rattle.dns_code.specs.declared.flags.Flags.{Flags}

-- whether octets have no space
abbrev spaceless : List ℕ → Bool
spaceless t = list_all (λ c. not (nat_eq c space)) t

-- an octet isn't a space if another case of it isn't
no_space : (x y : ℕ) → to_ascii_lowercase x ≡ to_ascii_lowercase y → not (nat_eq y space) ≡ true → not (nat_eq x space) ≡ true
no_space x y e h = grind (arith, nat_tests)

-- a text has no space if the same text in another case has none
spaceless-same_case : (t n : List ℕ) → map to_ascii_lowercase t ≡ map to_ascii_lowercase n → spaceless n ≡ true → spaceless t ≡ true
spaceless-same_case [] n e h = refl
spaceless-same_case (x ∷ t) [] e h = cc
spaceless-same_case (x ∷ t) (y ∷ n) e h =
    let parts = and_parts (not (nat_eq y space)) (spaceless n) h in
    and_from _ _ (no_space x y (cc) parts.0) (spaceless-same_case t n (cc) parts.1)

-- a text that is one of some names, ignoring ASCII case, has no space if the names have none
spaceless-named : (t : List ℕ) (names : List (List ℕ)) → list_all spaceless names ≡ true → list_any (str_eq_ignore_ascii_case t) names ≡ true → spaceless t ≡ true
spaceless-named t [] h named = cc
spaceless-named t (name ∷ names) h named =
    let parts = and_parts (spaceless name) (list_all spaceless names) h in
    elim (or_cases _ _ named) [
      | inl e ↦ spaceless-same_case t name ((bytes_eq-Decides _ _).0 e) parts.0
      | inr e ↦ spaceless-named t names parts.1 e
    ]

-- a list with an octet is not empty
not_empty : (x : ℕ) (t : List ℕ) → nat_eq (length (x ∷ t)) 0 ≡ true → ⊥
not_empty x t h = grind (arith, nat_tests)

-- an allowed token has no space
spaceless-token : (t : List ℕ) → is_flags_token t ≡ true → spaceless t ≡ true
spaceless-token [] h = refl
spaceless-token (x ∷ t) h = spaceless-named (x ∷ t) flag_names refl (elim (or_cases (nat_eq (length (x ∷ t)) 0) _ h) [ inl e ↦ absurd (not_empty x t e) | inr e ↦ e ])

-- no octet of an allowed token is a space
none_spaces : (t : List ℕ) → is_flags_token t ≡ true → All (λ c. nat_eq c space ≡ false) t
none_spaces t h = λ k d within. grind (arith, nat_tests, AllPass-from_list_all (λ c. not (nat_eq c space)) t (spaceless-token t h) k d within)

-- splitting tokens that are joined by spaces yields these tokens
tokens-joined : (t : List ℕ) (ts : List (List ℕ)) → list_all is_flags_token (t ∷ ts) ≡ true → tokens (joined (t ∷ ts)) ≡ t ∷ ts
tokens-joined t [] h = slice_split_none (λ c. nat_eq c space) t (none_spaces t (and_parts (is_flags_token t) true h).0)
tokens-joined t (u ∷ ts) h =
    let parts = and_parts (is_flags_token t) (list_all is_flags_token (u ∷ ts)) h in
    slice_split_at (λ c. nat_eq c space) t space (joined (u ∷ ts)) (none_spaces t parts.0) refl ∙ ap (λ (rest : List (List ℕ)). t ∷ rest) (tokens-joined u ts parts.1)

-- the flags that allowed tokens denote
read_tokens : (ts : List (List ℕ)) → list_all is_flags_token ts ≡ true → (if list_all is_flags_token ts then Some (flags_named ts) else None) ≡ Some (flags_named ts)
read_tokens ts h = rw h

-- the flags that allowed tokens denote when they are joined
flags_read-joined : (ts : List (List ℕ)) → list_all is_flags_token ts ≡ true → flags_read (joined ts) ≡ Some (flags_named ts)
flags_read-joined [] h = refl
flags_read-joined (t ∷ ts) h = rw (tokens-joined t ts h) (read_tokens (t ∷ ts) h)

-- only allowed tokens denote flags
reported : (ts : List (List ℕ)) (b : Bool) (flags : Flags) → (if b then Some (flags_named ts) else None) ≡ Some flags → (b ≡ true) × (flags_named ts ≡ flags)
reported ts true flags h = (refl, cc)
reported ts false flags h = cc

-- which texts denote which flags
pub flags_texts : (text : List ℕ) (flags : Flags) → (flags_read text ≡ Some flags) ↔ ((ts : List (List ℕ)) × (joined ts ≡ text) × IsTrue (list_all is_flags_token ts) × (flags_named ts ≡ flags))
flags_texts text flags = (
  λ h. let answer = reported (tokens text) _ flags h in (tokens text, join_with_byte-slice_split space text, answer.0, answer.1),
  λ h. rw (← h.1, flags_read-joined h.0 h.2) (ap (λ (f : Flags). Some f) h.3),
)
