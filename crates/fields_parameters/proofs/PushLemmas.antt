-- Octets that are appended to a value.
use Rattle.std.proofs.Common.{◌≡◌, ◌∙◌, ℕ, ◌<◌, Bool, true, false, List, [], ◌++◌, length, sym, ap, subst, arith, append_assoc, append-nil, length-append}
use Rattle.std.specs.List.{flat_map}
use Rattle.std.proofs.lemmas.List.Concat.{flat_map-append}
use Rattle.fields_parameters.specs.ParameterItems.{two_octets}
use Rattle.fields_parameters.specs.PushedValues.{PushesKeys, PushesOctets, PushesValue}

-- Octets that don't fit don't fit with others after them.
pub exceeds_more : (most : ℕ) (old a b all : List ℕ) → all ≡ a ++ b → most < length (old ++ a) → most < length (old ++ all)
exceeds_more most old a b all whole more =
    let size = ap length whole in
    omega (arith, length-append old a, length-append old all, length-append a b)

-- Octets that exceed a value after others exceed it with these.
pub exceeds_with : (most : ℕ) (old middle a b all : List ℕ) → middle ≡ old ++ a → all ≡ a ++ b → most < length (middle ++ b) → most < length (old ++ all)
exceeds_with most old middle a b all first whole more =
    let size = ap length whole in
    let begun = ap length first in
    omega (arith, length-append old a, length-append old all, length-append middle b, length-append a b)

-- Two parts that are appended are appended together.
pub both_pushed : (old middle new a b all : List ℕ) → middle ≡ old ++ a → new ≡ middle ++ b → all ≡ a ++ b → new ≡ old ++ all
both_pushed old middle new a b all first second whole =
    second ∙ ap (λ (xs : List ℕ). xs ++ b) first ∙ append_assoc old a b ∙ ap (λ (xs : List ℕ). old ++ xs) (sym whole)

-- appending octets in two parts
module _ (most : ℕ) (old middle new a b all : List ℕ) (whole : all ≡ a ++ b) where
  -- What appending the second part returns, appending both returns.
  pub octets_more : (r : Bool) → PushesOctets most a old middle true → PushesOctets most b middle new r → PushesOctets most all old new r
  octets_more true first second = both_pushed old middle new a b all first second whole
  octets_more false first second = exceeds_with most old middle a b all first whole second

-- If the first part doesn't fit, both don't.
pub octets_none : (most : ℕ) (old new next a b all : List ℕ) → all ≡ a ++ b → PushesOctets most a old new false → PushesOctets most all old next false
octets_none most old new next a b all whole first = exceeds_more most old a b all whole first

-- The octets of keys.
abbrev pub octets_of : List ℕ → List ℕ
octets_of keys = flat_map two_octets keys

octets_parts : (xs ys all : List ℕ) → all ≡ xs ++ ys → octets_of all ≡ octets_of xs ++ octets_of ys
octets_parts xs ys all whole = ap octets_of whole ∙ flat_map-append two_octets xs ys

-- What appending the other keys returns, appending all returns.
pub keys_more : (most : ℕ) (old middle new xs ys all : List ℕ) (r : Bool) → all ≡ xs ++ ys → PushesKeys most xs old middle true → PushesKeys most ys middle new r → PushesKeys most all old new r
keys_more most old middle new xs ys all r whole first second = octets_more most old middle new (octets_of xs) (octets_of ys) (octets_of all) (octets_parts xs ys all whole) r first second

-- If the first keys don't fit, all don't.
pub keys_none : (most : ℕ) (old new next xs ys all : List ℕ) → all ≡ xs ++ ys → PushesKeys most xs old new false → PushesKeys most all old next false
keys_none most old new next xs ys all whole first = octets_none most old new next (octets_of xs) (octets_of ys) (octets_of all) (octets_parts xs ys all whole) first

-- The octets of all keys stay those that are there and those of the other keys.
pub keys_step : (most : ℕ) (now next xs ys zs all : List ℕ) → zs ≡ xs ++ ys → PushesKeys most xs now next true → now ++ octets_of zs ≡ all → next ++ octets_of ys ≡ all
keys_step most now next xs ys zs all whole pushed are =
    ap (λ (os : List ℕ). os ++ octets_of ys) pushed
    ∙ append_assoc now (octets_of xs) (octets_of ys)
    ∙ ap (λ (os : List ℕ). now ++ os) (sym (octets_parts xs ys zs whole))
    ∙ are

-- If the next keys don't fit, all don't.
pub keys_stop : (most : ℕ) (now next xs ys zs all : List ℕ) → zs ≡ xs ++ ys → PushesKeys most xs now next false → now ++ octets_of zs ≡ all → most < length all
keys_stop most now next xs ys zs all whole bad are = subst (λ (os : List ℕ). most < length os) are (keys_none most now next next xs ys zs whole bad)

-- If no keys are left, all octets are there.
pub keys_end : (now zs all : List ℕ) → zs ≡ [] → now ++ octets_of zs ≡ all → now ≡ all
keys_end now zs all none are = sym (ap (λ (ks : List ℕ). now ++ octets_of ks) none ∙ append-nil now) ∙ are

-- No keys are appended.
pub no_keys_pushed : (most : ℕ) (old keys : List ℕ) → keys ≡ [] → PushesKeys most keys old old true
no_keys_pushed most old keys none = sym (ap (λ (ks : List ℕ). old ++ octets_of ks) none ∙ append-nil old)

-- Where a text represents one value, appending its octets appends the value.
pub one_pushed : (most : ℕ) (Is : List ℕ → Type 0) (octets old new : List ℕ) (r : Bool) → Is octets → ((other : List ℕ) → Is other → other ≡ octets)
    → PushesOctets most octets old new r → PushesValue most Is old new r
one_pushed most Is octets old new true is one pushed = (octets, is, pushed)
one_pushed most Is octets old new false is one pushed = λ other other_is. subst (λ (xs : List ℕ). most < length (old ++ xs)) (sym (one other other_is)) pushed

-- A text that represents no value has none that fits.
pub none_pushed : (most : ℕ) (Is : List ℕ → Type 0) (old new : List ℕ) → ((octets : List ℕ) → ¬ (Is octets)) → PushesValue most Is old new false
none_pushed most Is old new none = λ octets is. absurd (none octets is)

-- the same, said of the same octets in another way
pub pushed_as : (most : ℕ) (A B : List ℕ → Type 0) (old new : List ℕ) (r : Bool) → ((octets : List ℕ) → A octets → B octets)
    → ((octets : List ℕ) → B octets → A octets) → PushesValue most A old new r → PushesValue most B old new r
pushed_as most A B old new true into back (octets, is, e) = (octets, into octets is, e)
pushed_as most A B old new false into back bad = λ octets is. bad octets (back octets is)
