-- Octets that are printed as they are.
use Rattle.std.proofs.Common.{◌≡◌, ◌∙◌, ◌<◌, ℕ, ◌+◌, ◌-◌, List, [], ◌∷◌, ◌++◌, refl, ap, sym, subst, IsAscii, take, drop, length, append-nil}
use Rattle.std.proofs.Math.ListN.{get_or}
use Rattle.std.proofs.Math.Nat.{add-sub_cancel_left, le_of_eq}
use Rattle.std.proofs.Math.Numerals.{add-one}
use Rattle.std.proofs.Math.Seq.{take-add, take-suc}
use Rattle.std.proofs.lemmas.List.{length-drop, take_all}
use Rattle.std.proofs.lemmas.Grind.{flat_map-append}
use Rattle.std.proofs.lemmas.List.Elements.{All-append, All-cons, All-head, All-nil, All-tail}
use Rattle.std.proofs.lemmas.Str.Ascii.{IsAscii-from_all}
use Rattle.std.specs.List.{flat_map}
use Rattle.dns_print.specs.Octets.{AllPlain, IsPlain}

take_one : (octets : List ℕ) (i d : ℕ) → i < length octets → take (i + 1) octets ≡ take i octets ++ get_or octets i d ∷ []
take_one octets i d less = ap (λ (n : ℕ). take n octets) (add-one i) ∙ take-suc octets i d less

-- What is left of octets from an offset on.
pub rest_of : (octets : List ℕ) (i : ℕ) → take (length octets - i) (drop i octets) ≡ drop i octets
rest_of octets i = take_all (length octets - i) (drop i octets) (le_of_eq (length-drop i octets))

module _ (text : ℕ → List ℕ) where
  -- One octet more is plain.
  pub one_more_plain : (octets : List ℕ) (i d : ℕ) → i < length octets → AllPlain text (take i octets) → IsPlain text (get_or octets i d) → AllPlain text (take (i + 1) octets)
  one_more_plain octets i d less plain this =
      subst (AllPlain text) (sym (take_one octets i d less)) (All-append (IsPlain text) (take i octets) _ plain (All-cons (IsPlain text) _ [] this (All-nil (IsPlain text))))

  -- Plain octets are ASCII.
  pub plain_are_ascii : (xs : List ℕ) → AllPlain text xs → IsAscii xs
  plain_are_ascii xs plain = IsAscii-from_all xs (λ k d less. (plain k d less).0)

  -- Plain octets are their own text.
  pub plain_text : (xs : List ℕ) → AllPlain text xs → flat_map text xs ≡ xs
  plain_text [] plain = refl
  plain_text (x ∷ xs) plain =
      let this = All-head (IsPlain text) x xs plain in
      let others = plain_text xs (All-tail (IsPlain text) x xs plain) in
      (λ i. this.1 i ++ others i)

  -- The text of the first octets, and of one more.
  pub text_with_one : (octets : List ℕ) (i d : ℕ) → i < length octets → flat_map text (take i octets) ++ text (get_or octets i d) ≡ flat_map text (take (i + 1) octets)
  text_with_one octets i d less =
      let split = ap (flat_map text) (take_one octets i d less) ∙ flat_map-append text (take i octets) (get_or octets i d ∷ []) in
      ap (λ (l : List ℕ). flat_map text (take i octets) ++ l) (sym (append-nil (text (get_or octets i d)))) ∙ sym split

  -- The text of the first octets, and of those that are passed next.
  pub text_of_parts : (octets : List ℕ) (i k : ℕ) → flat_map text (take i octets) ++ flat_map text (take (i + k - i) (drop i octets)) ≡ flat_map text (take (i + k) octets)
  text_of_parts octets i k =
      let next = ap (λ (n : ℕ). flat_map text (take i octets) ++ flat_map text (take n (drop i octets))) (add-sub_cancel_left i k) in
      next ∙ sym (ap (flat_map text) (take-add i k octets) ∙ flat_map-append text (take i octets) (take k (drop i octets)))

  -- The text of the first octets, and of a plain run after them.
  pub text_with_run : (octets : List ℕ) (i k : ℕ) → AllPlain text (take k (drop i octets)) → flat_map text (take i octets) ++ take k (drop i octets) ≡ flat_map text (take (i + k) octets)
  text_with_run octets i k plain =
      let split = ap (flat_map text) (take-add i k octets) ∙ flat_map-append text (take i octets) (take k (drop i octets)) in
      ap (λ (l : List ℕ). flat_map text (take i octets) ++ l) (sym (plain_text (take k (drop i octets)) plain)) ∙ sym split
