-- Appending the items of a list, one after the other.
use Rattle.std.proofs.Common.{◌≡◌, ◌∙◌, ℕ, arith, ◌+◌, ◌<◌, ◌≤◌, List, [], ◌++◌, append_assoc, append-nil, drop, get_or, length, refl, ap, sym, subst, inl, inr}
use Rattle.std.specs.Prelude.{Ok}
use Rattle.std.specs.Borrow.{Bor}
use Rattle.std.proofs.lemmas.List.{drop_all, drop_more}
use Rattle.fields_lists.specs.declared.prefixes.AddressPrefix.{AddressPrefix}
use Rattle.fields_text.specs.LengthOctets.{counted, sized}
use Rattle.fields_text.specs.Reading.{HasValue}
use Rattle.fields_values.specs.Appending.{Appends, Refuses}
use Rattle.fields_values.specs.NewValues.{AreParametersIn, ArePrefixesIn, AreStringsIn, IsParameterIn, IsPrefixIn, IsStringIn}
use Rattle.fields_values.specs.declared.value_error.Refusal.{Refusal}
use Rattle.fields_values.specs.declared.value_error.Refusal.TheVariants.{OutOfMemory, OutOfRange}

-- what is appended, and the items that are left after it, are the whole
pub record IsBetween (Whole Left : List ℕ → Type 0) (old now : List ℕ) : Type 0 where
  pub front : List ℕ
  pub appended : now ≡ old ++ front
  pub whole : (after : List ℕ) → Left after → Whole (front ++ after)
  pub left : (octets : List ℕ) → Whole octets → (after : List ℕ) × Left after

-- the items that are left are a first one and others
record Splits (Left First Next : List ℕ → Type 0) : Type 0 where
  pub parts : (octets : List ℕ) → Left octets → (first : List ℕ) × (after : List ℕ) × First first × (octets ≡ first ++ after) × Next after
  pub both : (first after : List ℕ) → First first → Next after → Left (first ++ after)

module _ (Whole Left First Next : List ℕ → Type 0) (old now new : List ℕ) (between : IsBetween Whole Left old now) (splits : Splits Left First Next) where
  between_more : (u : Unit {0}) → Appends First now new (Ok u) → IsBetween Whole Next old new
  between_more u a = record {
    front = between.front ++ a.0;
    appended = a.2 ∙ ap (λ (xs : List ℕ). xs ++ a.0) between.appended ∙ append_assoc old between.front a.0;
    whole = λ after is. subst Whole (sym (append_assoc between.front a.0 after)) (between.whole (a.0 ++ after) (splits.both a.0 after a.1 is));
    left = λ octets is. let h = between.left octets is in let p = splits.parts h.0 h.1 in (p.1, p.4);
  }

-- all items have octets exactly if those that are left have
pub record AreSame (Whole Left : List ℕ → Type 0) : Type 0 where
  pub into : (octets : List ℕ) → Whole octets → (after : List ℕ) × Left after
  pub back : (after : List ℕ) → Left after → (octets : List ℕ) × Whole octets

-- What is whole is the same whole.
pub same_start : (Whole : List ℕ → Type 0) → AreSame Whole Whole
same_start Whole = record { into = λ octets is. (octets, is); back = λ after is. (after, is) }

module _ (Whole Left First Next : List ℕ → Type 0) (splits : Splits Left First Next) (same : AreSame Whole Left) where
  same_more : (first : List ℕ) → First first → AreSame Whole Next
  same_more first is = record {
    into = λ octets whole. let h = same.into octets whole in let p = splits.parts h.0 h.1 in (p.1, p.4);
    back = λ after next. same.back (first ++ after) (splits.both first after is next);
  }

  same_wrong : ((octets : List ℕ) → ¬ (First octets)) → Refuses Whole OutOfRange
  same_wrong none = inr (refl, λ octets whole. let h = same.into octets whole in let p = splits.parts h.0 h.1 in none p.0 p.2)

same_end : (Whole Left : List ℕ → Type 0) → AreSame Whole Left → Left [] → Refuses Whole OutOfMemory
same_end Whole Left same none = inl (refl, same.back [] none)

between_end : (Whole Left : List ℕ → Type 0) (old now : List ℕ) (u : Unit {0}) → IsBetween Whole Left old now → Left [] → Appends Whole old now (Ok u)
between_end Whole Left old now u between none = (between.front ++ [], between.whole [] none, between.appended ∙ ap (λ (xs : List ℕ). old ++ xs) (sym (append-nil between.front)))

-- the items from an index on
strings_split : (strings : List (Bor (List ℕ))) (k : ℕ) (d : Bor (List ℕ)) → k < length strings
    → Splits (AreStringsIn (drop k strings)) (IsStringIn (get_or strings k d).now) (AreStringsIn (drop (k + 1) strings))
strings_split strings k d within =
    let string = get_or strings k d in
    subst (λ (ss : List (Bor (List ℕ))). Splits (AreStringsIn ss) (IsStringIn string.now) (AreStringsIn (drop (k + 1) strings))) (sym (drop_more strings k d within))
    (record { parts = λ octets h. h; both = λ first after own h. (first, after, own, refl, h) })

prefixes_split : (prefixes : List AddressPrefix) (k : ℕ) (d : AddressPrefix) → k < length prefixes
    → Splits (ArePrefixesIn (drop k prefixes)) (IsPrefixIn (get_or prefixes k d)) (ArePrefixesIn (drop (k + 1) prefixes))
prefixes_split prefixes k d within =
    subst (λ (ps : List AddressPrefix). Splits (ArePrefixesIn ps) (IsPrefixIn (get_or prefixes k d)) (ArePrefixesIn (drop (k + 1) prefixes))) (sym (drop_more prefixes k d within))
    (record { parts = λ octets h. h; both = λ first after own h. (first, after, own, refl, h) })

parameters_split : (least : ℕ) (parameters : List (ℕ × Bor (List ℕ))) (k : ℕ) (d : ℕ × Bor (List ℕ)) → k < length parameters
    → Splits (AreParametersIn least (drop k parameters)) (IsParameterIn least (get_or parameters k d)) (AreParametersIn ((get_or parameters k d).0 + 1) (drop (k + 1) parameters))
parameters_split least parameters k d within =
    subst (λ (ps : List (ℕ × Bor (List ℕ))). Splits (AreParametersIn least ps) (IsParameterIn least (get_or parameters k d))
    (AreParametersIn ((get_or parameters k d).0 + 1) (drop (k + 1) parameters)))
    (sym (drop_more parameters k d within))
    (record { parts = λ octets h. h; both = λ first after own h. (first, after, own, refl, h) })

-- the item at an index is appended, or it isn't
module _ (strings : List (Bor (List ℕ))) (k : ℕ) (d : Bor (List ℕ)) (old now new : List ℕ) (within : k < length strings)
    (between : IsBetween (AreStringsIn strings) (AreStringsIn (drop k strings)) old now) where
  -- If the strings before an index are appended and then the one at it, those before the next index are.
  pub strings_more : (u : Unit {0}) → Appends (IsStringIn (get_or strings k d).now) now new (Ok u) → IsBetween (AreStringsIn strings) (AreStringsIn (drop (k + 1) strings)) old new
  strings_more u a = between_more (AreStringsIn strings) (AreStringsIn (drop k strings)) (IsStringIn (get_or strings k d).now)
      (AreStringsIn (drop (k + 1) strings)) old now new between (strings_split strings k d within) u a

module _ (prefixes : List AddressPrefix) (k : ℕ) (d : AddressPrefix) (old now new : List ℕ) (within : k < length prefixes)
    (between : IsBetween (ArePrefixesIn prefixes) (ArePrefixesIn (drop k prefixes)) old now) where
  -- If the address prefixes before an index are appended and then the one at it, those before the next index are.
  pub prefixes_more : (u : Unit {0}) → Appends (IsPrefixIn (get_or prefixes k d)) now new (Ok u) → IsBetween (ArePrefixesIn prefixes) (ArePrefixesIn (drop (k + 1) prefixes)) old new
  prefixes_more u a = between_more (ArePrefixesIn prefixes) (ArePrefixesIn (drop k prefixes)) (IsPrefixIn (get_or prefixes k d))
      (ArePrefixesIn (drop (k + 1) prefixes)) old now new between (prefixes_split prefixes k d within) u a

module _ (least : ℕ) (parameters : List (ℕ × Bor (List ℕ))) (k : ℕ) (d : ℕ × Bor (List ℕ)) (old now new : List ℕ) (within : k < length parameters)
    (between : IsBetween (AreParametersIn 0 parameters) (AreParametersIn least (drop k parameters)) old now) where
  -- If the service parameters before an index are appended and then the one at it, those before the next are; a greater key has to follow.
  pub parameters_more : (u : Unit {0}) → Appends (IsParameterIn least (get_or parameters k d)) now new (Ok u)
      → IsBetween (AreParametersIn 0 parameters) (AreParametersIn ((get_or parameters k d).0 + 1) (drop (k + 1) parameters)) old new
  parameters_more u a =
      between_more (AreParametersIn 0 parameters) (AreParametersIn least (drop k parameters)) (IsParameterIn least (get_or parameters k d))
      (AreParametersIn ((get_or parameters k d).0 + 1) (drop (k + 1) parameters)) old now new
      between (parameters_split least parameters k d within) u a

-- no item is left
pub strings_end : (strings : List (Bor (List ℕ))) (k : ℕ) (old now : List ℕ) (u : Unit {0}) → length strings ≤ k → IsBetween (AreStringsIn strings) (AreStringsIn (drop k strings)) old now
    → Appends (AreStringsIn strings) old now (Ok u)
strings_end strings k old now u past between =
    between_end (AreStringsIn strings) (AreStringsIn (drop k strings)) old now u between (subst (λ (ss : List (Bor (List ℕ))). AreStringsIn ss []) (sym (drop_all k strings past)) refl)

-- After the last prefix all of them are appended.
pub prefixes_end : (prefixes : List AddressPrefix) (k : ℕ) (old now : List ℕ) (u : Unit {0}) → length prefixes ≤ k → IsBetween (ArePrefixesIn prefixes) (ArePrefixesIn (drop k prefixes)) old now
    → Appends (ArePrefixesIn prefixes) old now (Ok u)
prefixes_end prefixes k old now u past between =
    between_end (ArePrefixesIn prefixes) (ArePrefixesIn (drop k prefixes)) old now u between (subst (λ (ps : List AddressPrefix). ArePrefixesIn ps []) (sym (drop_all k prefixes past)) refl)

-- After the last parameter all of them are appended.
pub parameters_end : (least : ℕ) (parameters : List (ℕ × Bor (List ℕ))) (k : ℕ) (old now : List ℕ) (u : Unit {0}) → length parameters ≤ k
    → IsBetween (AreParametersIn 0 parameters) (AreParametersIn least (drop k parameters)) old now → Appends (AreParametersIn 0 parameters) old now (Ok u)
parameters_end least parameters k old now u past between =
    between_end (AreParametersIn 0 parameters) (AreParametersIn least (drop k parameters)) old now u between
    (subst (λ (ps : List (ℕ × Bor (List ℕ))). AreParametersIn least ps []) (sym (drop_all k parameters past)) refl)

-- each item has octets, or one hasn't
module _ (strings : List (Bor (List ℕ))) (k : ℕ) (d : Bor (List ℕ)) (same : AreSame (AreStringsIn strings) (AreStringsIn (drop k strings))) where
  -- If the string at an index has at most 255 octets, like those before it, all can be encoded exactly if those after it can be.
  pub string_fits : k < length strings → length (get_or strings k d).now ≤ 255 → AreSame (AreStringsIn strings) (AreStringsIn (drop (k + 1) strings))
  string_fits within few =
      same_more (AreStringsIn strings) (AreStringsIn (drop k strings)) (IsStringIn (get_or strings k d).now) (AreStringsIn (drop (k + 1) strings)) (strings_split strings k d within) same
      (counted (get_or strings k d).now) (few, refl)

  -- If a string has more than 255 octets, the refusal of the strings is `OutOfRange`.
  pub string_long : k < length strings → 255 < length (get_or strings k d).now → Refuses (AreStringsIn strings) OutOfRange
  string_long within many =
      same_wrong (AreStringsIn strings) (AreStringsIn (drop k strings)) (IsStringIn (get_or strings k d).now) (AreStringsIn (drop (k + 1) strings)) (strings_split strings k d within) same
      (λ octets is. let few = is.0 in omega arith)

  -- If no string is left to check, all can be encoded, and a refusal of them is `OutOfMemory`.
  pub strings_fit : length strings ≤ k → Refuses (AreStringsIn strings) OutOfMemory
  strings_fit past =
      same_end (AreStringsIn strings) (AreStringsIn (drop k strings)) same (subst (λ (ss : List (Bor (List ℕ))). AreStringsIn ss []) (sym (drop_all k strings past)) refl)

module _ (prefixes : List AddressPrefix) (k : ℕ) (d : AddressPrefix) (same : AreSame (ArePrefixesIn prefixes) (ArePrefixesIn (drop k prefixes))) where
  -- If the address prefix at an index can be encoded, like those before it, all can be exactly if those after it can be.
  pub prefix_fits : k < length prefixes → HasValue (IsPrefixIn (get_or prefixes k d)) → AreSame (ArePrefixesIn prefixes) (ArePrefixesIn (drop (k + 1) prefixes))
  prefix_fits within has =
      same_more (ArePrefixesIn prefixes) (ArePrefixesIn (drop k prefixes)) (IsPrefixIn (get_or prefixes k d)) (ArePrefixesIn (drop (k + 1) prefixes))
      (prefixes_split prefixes k d within) same has.0 has.1

  -- If an address prefix can't be encoded, the refusal of the prefixes is `OutOfRange`.
  pub prefix_wrong : k < length prefixes → ¬ (HasValue (IsPrefixIn (get_or prefixes k d))) → Refuses (ArePrefixesIn prefixes) OutOfRange
  prefix_wrong within none =
      same_wrong (ArePrefixesIn prefixes) (ArePrefixesIn (drop k prefixes)) (IsPrefixIn (get_or prefixes k d)) (ArePrefixesIn (drop (k + 1) prefixes)) (prefixes_split prefixes k d within) same
      (λ octets is. none (octets, is))

  -- If no address prefix is left to check, all can be encoded, and a refusal of them is `OutOfMemory`.
  pub prefixes_fit : length prefixes ≤ k → Refuses (ArePrefixesIn prefixes) OutOfMemory
  prefixes_fit past =
      same_end (ArePrefixesIn prefixes) (ArePrefixesIn (drop k prefixes)) same (subst (λ (ps : List AddressPrefix). ArePrefixesIn ps []) (sym (drop_all k prefixes past)) refl)

module _ (least : ℕ) (parameters : List (ℕ × Bor (List ℕ))) (k : ℕ) (d : ℕ × Bor (List ℕ)) (same : AreSame (AreParametersIn 0 parameters) (AreParametersIn least (drop k parameters))) where
  -- If the service parameter at an index can be encoded, like those before it, all can be exactly if those after it can be, with greater keys.
  pub parameter_fits : k < length parameters → HasValue (IsParameterIn least (get_or parameters k d))
      → AreSame (AreParametersIn 0 parameters) (AreParametersIn ((get_or parameters k d).0 + 1) (drop (k + 1) parameters))
  parameter_fits within has =
      same_more (AreParametersIn 0 parameters) (AreParametersIn least (drop k parameters)) (IsParameterIn least (get_or parameters k d))
      (AreParametersIn ((get_or parameters k d).0 + 1) (drop (k + 1) parameters))
      (parameters_split least parameters k d within) same has.0 has.1

  -- If a service parameter can't be encoded, or its key is too small, the refusal of the parameters is `OutOfRange`.
  pub parameter_wrong : k < length parameters → ¬ (HasValue (IsParameterIn least (get_or parameters k d))) → Refuses (AreParametersIn 0 parameters) OutOfRange
  parameter_wrong within none =
      same_wrong (AreParametersIn 0 parameters) (AreParametersIn least (drop k parameters)) (IsParameterIn least (get_or parameters k d))
      (AreParametersIn ((get_or parameters k d).0 + 1) (drop (k + 1) parameters))
      (parameters_split least parameters k d within) same (λ octets is. none (octets, is))

  -- If no service parameter is left to check, all can be encoded, and a refusal of them is `OutOfMemory`.
  pub parameters_fit : length parameters ≤ k → Refuses (AreParametersIn 0 parameters) OutOfMemory
  parameters_fit past =
      same_end (AreParametersIn 0 parameters) (AreParametersIn least (drop k parameters)) same
      (subst (λ (ps : List (ℕ × Bor (List ℕ))). AreParametersIn least ps []) (sym (drop_all k parameters past)) refl)

-- the value of a parameter isn't appended
pub value_wrong : (least : ℕ) (parameter : ℕ × Bor (List ℕ)) (refusal : Refusal) → HasValue (IsParameterIn least parameter)
    → Refuses (λ all. (length parameter.1.now ≤ 65535) × (all ≡ sized parameter.1.now)) refusal
    → Refuses (IsParameterIn least parameter) refusal
value_wrong least parameter refusal has (inl memory) = inl (memory.0, has)
value_wrong least parameter refusal has (inr none) = absurd (none.1 (sized parameter.1.now) (has.1.2, refl))
