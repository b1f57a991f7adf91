-- The octets after a string, a parameter or a prefix are fewer than those that begin with it.
use Rattle.std.proofs.Common.{◌≡◌, ◌∙◌, ℕ, ◌+◌, ◌*◌, ◌%◌, List, [], ◌∷◌, length, take, drop, length-drop, Option, Some, refl, sym, ap, arith}
use Rattle.std.specs.Prelude.{nat_le}
use Rattle.fields_lists.specs.PrefixItems.{PrefixItem, prefix_at}
use Rattle.fields_lists.specs.Strings.{string_at}
use Rattle.fields_lists.proofs.theory.ItemLemmas.{IsShrinking}
use Rattle.fields_text.proofs.theory.Options.{some_same}

-- the octets after an item
pub same_after : {A : Type 0} (x y : A × List ℕ) (o : Option (A × List ℕ)) → o ≡ Some x → o ≡ Some y → x.1 ≡ y.1
same_after {A = A} x y o e f = ap (λ (p : A × List ℕ). p.1) (some_same x y (sym e ∙ f))

-- the octets after a string are fewer than those that begin with it
pub string_shrinks : IsShrinking string_at
string_shrinks [] after item e = absurd (cc)
string_shrinks (size ∷ octets) after item e =
    let is : drop size octets ≡ after = same_after (take size octets, drop size octets) (item, after) (string_at (size ∷ octets)) refl e in
    omega (arith, ap length is, length-drop size octets)

-- the octets after a prefix are fewer than those that begin with it
pub prefix_shrinks : IsShrinking prefix_at
prefix_shrinks [] after item e = absurd (cc)
prefix_shrinks (a ∷ []) after item e = absurd (cc)
prefix_shrinks (a ∷ b ∷ []) after item e = absurd (cc)
prefix_shrinks (a ∷ b ∷ c ∷ []) after item e = absurd (cc)
prefix_shrinks (a ∷ b ∷ c ∷ d ∷ octets) after item e =
    let first : PrefixItem = record { family = a * 256 + b; size = c; negated = nat_le 128 d; address = take (d % 128) octets } in
    let is : drop (d % 128) octets ≡ after = same_after (first, drop (d % 128) octets) (item, after) (prefix_at (a ∷ b ∷ c ∷ d ∷ octets)) refl e in
    omega (arith, ap length is, length-drop (d % 128) octets)
