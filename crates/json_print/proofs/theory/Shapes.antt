-- What a value needs to be read back, by its members and items.
use Rattle.std.proofs.Common.{ℕ, suc, ◌<◌, ◌≤◌, ◌^◌, Bool, List, [], ◌∷◌, ◌++◌, arith, decimal}
use Rattle.std.specs.Prelude.{⊤}
use Rattle.json.specs.Json.{Json, boolean, number, string}
use Rattle.json.specs.Print.{IsNumber}
use Rattle.json.specs.Tree.{depth, members_depth, items_depth, HasNumbers, MembersHaveNumbers, ItemsHaveNumbers}
use Rattle.json.specs.Value.{items_of}
use Rattle.json.proofs.Printed.Decimals.{IsNumber-decimal}
use Rattle.json_print.specs.Values.{Member, members_of, object_of, array_of, numeral}

-- P holds of the value of each member
abbrev pub EachValue : (Json → Type 0) → List Member → Type 0
EachValue P [] = ⊤
EachValue P (m ∷ ms) = P m.1 × EachValue P ms

-- P holds of each item
abbrev pub EachItem : (Json → Type 0) → List Json → Type 0
EachItem P [] = ⊤
EachItem P (j ∷ js) = P j × EachItem P js

-- What holds of the values of two lists holds of both in order.
pub each_append : (P : Json → Type 0) (ms ns : List Member) → EachValue P ms → EachValue P ns → EachValue P (ms ++ ns)
each_append P [] ns h k = k
each_append P (m ∷ ms) ns h k = (h.0, each_append P ms ns h.1 k)

-- the numbers are numbers of JSON, and the value nests at most `most` deep
pub record IsSound (most : ℕ) (j : Json) : Type 0 where
  pub numbers : HasNumbers j
  pub shallow : depth j ≤ most

members_sound : (most : ℕ) (ms : List Member) → EachValue (IsSound most) ms → MembersHaveNumbers (members_of ms) × (members_depth (members_of ms) ≤ most)
members_sound most [] h = (tt, omega arith)
members_sound most (m ∷ ms) h =
    let first = h.0.shallow in
    let others = members_sound most ms h.1 in
    ((h.0.numbers, others.0), omega (arith, first, others.1))

items_sound : (most : ℕ) (js : List Json) → EachItem (IsSound most) js → ItemsHaveNumbers (items_of js) × (items_depth (items_of js) ≤ most)
items_sound most [] h = (tt, omega arith)
items_sound most (j ∷ js) h =
    let first = h.0.shallow in
    let others = items_sound most js h.1 in
    ((h.0.numbers, others.0), omega (arith, first, others.1))

-- An object nests one deeper than its values.
pub object_sound : (most : ℕ) (ms : List Member) → EachValue (IsSound most) ms → IsSound (suc most) (object_of ms)
object_sound most ms h = let s = members_sound most ms h in record { numbers = s.0; shallow = omega (arith, s.1) }

-- An array nests one deeper than its items.
pub array_sound : (most : ℕ) (js : List Json) → EachItem (IsSound most) js → IsSound (suc most) (array_of js)
array_sound most js h = let s = items_sound most js h in record { numbers = s.0; shallow = omega (arith, s.1) }

-- Strings, true and false have no numbers and don't nest.
pub string_sound : (most : ℕ) (s : List ℕ) → IsSound most (string s)
string_sound most s = record { numbers = tt; shallow = omega arith }

-- True and false neither.
pub boolean_sound : (most : ℕ) (b : Bool) → IsSound most (boolean b)
boolean_sound most b = record { numbers = tt; shallow = omega arith }

-- Nor do numbers nest.
pub number_sound : (most : ℕ) (s : List ℕ) → IsNumber s → IsSound most (number s)
number_sound most s h = record { numbers = h; shallow = omega arith }

-- A numeral below 2^64 is a number.
pub numeral_sound : (most n : ℕ) → n < 2 ^ 64 → IsSound most (numeral n)
numeral_sound most n h = number_sound most (decimal n) (IsNumber-decimal n h)
