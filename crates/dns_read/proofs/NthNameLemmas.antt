-- The names in a chain of aliases.
use Rattle.std.proofs.Common.{◌≡◌, ◌∙◌, ℕ, zero, suc, ◌+◌, ◌-◌, ◌<◌, ◌≤◌, inl, inr, List, ap, sym, refl, subst, add-one, add-zero, add-suc, arith}
use Rattle.std.proofs.lemmas.Bool.Decides.{leb_tells}
use Rattle.std.specs.Prelude.{Option, Some, None, option_map, option_and_then}
use Rattle.dns_name.specs.Names.{Labels}
use Rattle.dns_name.specs.ParsedName.{labels}
use Rattle.dns_name.specs.declared.parsed_name.ParsedName.{ParsedName}
use Rattle.dns_item.specs.Question.{qname_of, parsed_question}
use Rattle.dns_item.specs.Questions.{QuestionItem}
use Rattle.dns_item.specs.declared.question.Question.{Question}
use Rattle.dns_read.specs.Limited.{limited}
use Rattle.dns_read.specs.declared.section.Section.TheVariants.{Answer}
use Rattle.dns_read.specs.Searches.{asked_first}
use Rattle.dns_read.specs.SectionStarts.{start_of, records_of}
use Rattle.dns_read.specs.RecordSearches.{cname_layout, alias_of, nth_name, CanonicalName, OneCanonicalName}
use Rattle.dns_read.specs.RecordSearches.CanonicalName.{ends, goes_on, no_question, no_section}

-- the name of a question
name_asked : (o : Option (Question ParsedName)) → option_map (λ (q : QuestionItem). q.name) (option_map parsed_question o) ≡ option_map (λ (q : Question ParsedName). labels (qname_of q)) o
name_asked None = refl
name_asked (Some question) = refl

module _ (b : List ℕ) where
  -- the first name is that of the first question
  pub first_name : (o : Option (Question ParsedName)) → option_map parsed_question o ≡ asked_first b → nth_name b 0 ≡ option_map (λ (q : Question ParsedName). labels (qname_of q)) o
  unfolding nth_name
  first_name o e = ap (option_map (λ (q : QuestionItem). q.name)) (sym e) ∙ name_asked o

  -- each other name is what the one before is an alias of
  pub next_name : (i : ℕ) (name : Labels) → nth_name b i ≡ Some name → nth_name b (suc i) ≡ alias_of (limited cname_layout (records_of Answer b)) name
  unfolding nth_name
  next_name i name e = ap (option_and_then (alias_of (limited cname_layout (records_of Answer b)))) e

  -- if the i-th name is an alias of a target, the next name in the chain is this target
  pub next_target : (i : ℕ) (name target : Labels) → nth_name b i ≡ Some name → Some target ≡ alias_of (limited cname_layout (records_of Answer b)) name → nth_name b (i + 1) ≡ Some target
  next_target i name target e alias = rw add-one (next_name i name e ∙ sym alias)

  -- the chain has no name after it ended
  none_next : (i : ℕ) → nth_name b i ≡ None → nth_name b (suc i) ≡ None
  unfolding nth_name
  none_next i e = ap (option_and_then (alias_of (limited cname_layout (records_of Answer b)))) e

  ended : (i k : ℕ) → nth_name b i ≡ None → nth_name b (i + k) ≡ None
  ended i zero e = rw add-zero e
  ended i (suc k) e = rw add-suc (none_next (i + k) (ended i k e))

  -- if the chain has a name, it has all names before it
  before_some : (i j : ℕ) (name : Labels) → nth_name b i ≡ None → nth_name b j ≡ Some name → i ≤ j → ⊥
  before_some i j name none some l =
      let k : i + (j - i) ≡ j = omega arith in
      let e : nth_name b j ≡ None = subst (λ n. nth_name b n ≡ None) k (ended i (j - i) none) in
      absurd (let same = sym e ∙ some in cc)

  -- the last name of the chain is unique
  one_last : (i j : ℕ) (x y : Labels) → nth_name b i ≡ Some x → nth_name b (suc i) ≡ None → nth_name b j ≡ Some y → nth_name b (suc j) ≡ None → Some x ≡ Some y
  one_last i j x y at_i after_i at_j after_j =
      elim (leb_tells (suc i) j) [
        | inl l ↦ absurd (before_some (suc i) j y after_i at_j l.1)
        | inr l ↦ elim (leb_tells (suc j) i) [
          | inl k ↦ absurd (before_some (suc j) i x after_j at_i k.1)
          | inr k ↦ let same : i ≡ j = omega (arith, l.1, k.1) in sym at_i ∙ ap (nth_name b) same ∙ at_j
        ]
      ]

  -- if the chain ends with x, no other result is possible
  end_alone : (i p : ℕ) (x : Labels) (y : Option Labels) → i < 20 → start_of Answer b ≡ Some p → nth_name b i ≡ Some x → nth_name b (suc i) ≡ None → CanonicalName b y → Some x ≡ y
  end_alone i p x y l start at_i after_i (ends j q name k starts at_j after_j) = one_last i j x name at_i after_i at_j after_j
  end_alone i p x y l start at_i after_i (goes_on name at_end) = absurd (before_some (suc i) 20 name after_i at_end (omega arith))
  end_alone i p x y l start at_i after_i (no_question none) = absurd (before_some 0 i x none at_i (omega arith))
  end_alone i p x y l start at_i after_i (no_section none) = absurd (let same = sym start ∙ none in cc)

  -- if the chain doesn't end, there is no canonical name
  no_end : (y : Option Labels) → CanonicalName b y → CanonicalName b None → None ≡ y
  no_end y (ends i p name l start at_i after_i) h = sym (end_alone i p name None l start at_i after_i h)
  no_end y (goes_on name at_end) h = refl
  no_end y (no_question none) h = refl
  no_end y (no_section none) h = refl

  one_answer : (x y : Option Labels) → CanonicalName b x → CanonicalName b y → x ≡ y
  one_answer x y (ends i p name l start at_i after_i) h = end_alone i p name y l start at_i after_i h
  one_answer x y (goes_on name at_end) h = no_end y h (goes_on name at_end)
  one_answer x y (no_question none) h = no_end y h (no_question none)
  one_answer x y (no_section none) h = no_end y h (no_section none)

-- A message has at most one canonical name.
pub one_canonical_name : OneCanonicalName
one_canonical_name b = one_answer b
