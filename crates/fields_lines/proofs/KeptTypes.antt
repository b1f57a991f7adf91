-- The printed words of types and classes are complete.
use Rattle.std.proofs.Common.{◌≡◌, ℕ, ◌^◌, ◌<◌, Bool, true, false, not, List, [], ◌∷◌, ◌++◌, refl, ap, subst}
use Rattle.std.specs.Prelude.{Some, ◌==◌, ◌&&◌, codes, decimal, find, length, option_map, unwrap_or, if◌then◌else◌}
use Rattle.std.specs.Bool.{MatchBool}
use Rattle.std.specs.Char.{is_ascii_digit}
use Rattle.std.specs.List.{list_all}
use Rattle.std.specs.Str.{str_eq_ignore_ascii_case}
use Rattle.std.proofs.lemmas.Bool.{and_parts, cond-false}
use Rattle.dns_iana.specs.Mnemonics.{Mnemonics, mnemonic}
use Rattle.dns_iana.specs.RegisteredTexts.{SpellsRegisteredClass}
use Rattle.dns_iana.specs.Registry.{registered_classes, registered_types}
use Rattle.dns_iana.specs.Tables.{is_apart, is_distinct}
use Rattle.fields_plain.specs.TypeNames.{class_word, type_word}
use Rattle.fields_plain.specs.TypeWords.{IsTypeWord}
use Rattle.fields_plain.proofs.theory.RegisteredLemmas.{one_spelled, one_word, printed_spells, types_read_back}
use Rattle.fields_lines.specs.Heads.{IsClassOf}
use Rattle.fields_lines.specs.Lines.{IsTypeOf}
use Rattle.fields_lines.specs.WordTexts.{numbered_type}

-- a test that each name of a table passes, and another text
named_passes : (test : List ℕ → Bool) (names : Mnemonics) (n : ℕ) (other : List ℕ) → list_all (λ entry. test entry.1) names ≡ true → test other ≡ true
    → test (unwrap_or (mnemonic names n) other) ≡ true
named_passes test [] n other all h = h
named_passes test (entry ∷ names) n other all h = by_test (entry.0 == n) parts.0 (named_passes test names n other parts.1 h) where
  parts : (test entry.1 ≡ true) × (list_all (λ (e : ℕ × List ℕ). test e.1) names ≡ true)
  parts = and_parts (test entry.1) (list_all (λ (e : ℕ × List ℕ). test e.1) names) all

  by_test : (b : Bool) → test entry.1 ≡ true → test (unwrap_or (mnemonic names n) other) ≡ true
      → test (unwrap_or (option_map (λ (e : ℕ × List ℕ). e.1) (if b then Some entry else find (λ e. e.0 == n) names)) other) ≡ true
  by_test true here later = here
  by_test false here later = later

not_false : (b : Bool) → not b ≡ true → b ≡ false
not_false true e = absurd (cc e)
not_false false e = refl

-- The word of a type isn't digits.
pub type_not_digits : (rtype : ℕ) → list_all is_ascii_digit (type_word rtype) ≡ false
unfolding registered_types
type_not_digits rtype = not_false _ (named_passes (λ word. not (list_all is_ascii_digit word)) registered_types rtype (codes "TYPE" ++ decimal rtype) refl refl)

and_false : (b c : Bool) → c ≡ false → b && c ≡ false
and_false true c e = e
and_false false c e = refl

-- The word of a type is complete.
pub type_complete : (rtype : ℕ) → numbered_type (type_word rtype) ≡ type_word rtype
type_complete rtype =
    cond-false _ _ _ (and_false (not (length (type_word rtype) == 0)) (list_all is_ascii_digit (type_word rtype)) (type_not_digits rtype))

-- The word of a type is of this type alone.
pub type_read : (rtype : ℕ) → rtype < 2 ^ 16 → IsTypeOf (type_word rtype) (Some rtype)
type_read rtype small n =
    let own = types_read_back rtype small in (
      (λ is. ap (λ (m : ℕ). Some m) (one_word (type_word rtype) rtype n own is)),
      (λ same. let e : rtype ≡ n = cc same in subst (IsTypeWord (type_word rtype)) e own),
    )

not_chaos : (class : ℕ) → str_eq_ignore_ascii_case (class_word class) (codes "CHAOS") ≡ false
unfolding registered_classes
not_chaos class = not_false _ (named_passes (λ word. not (str_eq_ignore_ascii_case word (codes "CHAOS"))) registered_classes class (codes "CLASS" ++ decimal class) refl refl)

not_hesiod : (class : ℕ) → str_eq_ignore_ascii_case (class_word class) (codes "HESIOD") ≡ false
unfolding registered_classes
not_hesiod class = not_false _ (named_passes (λ word. not (str_eq_ignore_ascii_case word (codes "HESIOD"))) registered_classes class (codes "CLASS" ++ decimal class) refl refl)

classes_distinct : is_distinct registered_classes ≡ true
unfolding registered_classes
classes_distinct = refl

classes_apart : is_apart (codes "CLASS") registered_classes ≡ true
unfolding registered_classes
classes_apart = refl

otherwise : (P Q : Type 0) (b : Bool) → b ≡ false → Q → MatchBool b P Q
otherwise P Q true e q = absurd (cc e)
otherwise P Q false e q = q

-- The word of a class is of this class alone.
pub class_read : (class : ℕ) → class < 2 ^ 16 → IsClassOf (class_word class) (Some class)
class_read class small =
    let own : SpellsRegisteredClass (class_word class) class = printed_spells registered_classes (codes "CLASS") class small in
    let one = one_spelled registered_classes (codes "CLASS") (class_word class) classes_distinct classes_apart in
    otherwise _ _ _ (not_chaos class) (otherwise _ _ _ (not_hesiod class)
    (λ n. (
      (λ is. ap (λ (m : ℕ). Some m) (one class n own is)),
      (λ same. let e : class ≡ n = cc same in subst (SpellsRegisteredClass (class_word class)) e own),
    )))
