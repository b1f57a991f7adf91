-- The text of a value, put together from the texts of its members or items.
use Rattle.std.proofs.Common.{◌≡◌, ◌∙◌, ℕ, Bool, true, false, List, [], ◌∷◌, ◌++◌, fold, refl, sym, ap, append_assoc, append-nil, codes, decimal}
use Rattle.std.proofs.lemmas.Grind.{flat_map-append}
use Rattle.json.specs.Token.{Token}
use Rattle.json.specs.Json.{Json, null, boolean, number, string, array, object, Items, no_items, item, Members, no_members, member}
use Rattle.json.specs.Print.{ends, print_from, quoted}
use Rattle.json.specs.Tree.{json_tokens, items_tokens, members_tokens}
use Rattle.json.specs.Value.{items_of}
use Rattle.json.proofs.Printed.Tokens.{print_from-append}
use Rattle.json_print.specs.Values.{Member, members_of, object_of, array_of, numeral}
use Rattle.json_print.specs.Texts.{boolean_word, json_text, name_text, member_text, members_text, object_front, items_text}

-- whether tokens leave a value just ended
abbrev ends_after : Bool → List Token → Bool
ends_after c ts = fold (λ _ t. ends t) c ts

ends_after-append : (c : Bool) (ts us : List Token) → ends_after c (ts ++ us) ≡ ends_after (ends_after c ts) us
ends_after-append c [] us = refl
ends_after-append c (t ∷ ts) us = ends_after-append (ends t) ts us

-- the tokens of items and of members end their array or object
items_end : (c : Bool) (js : Items) → ends_after c (items_tokens js) ≡ true
items_end c no_items = refl
items_end c (item j js) = ends_after-append c (json_tokens j) (items_tokens js) ∙ items_end (ends_after c (json_tokens j)) js

members_end : (c : Bool) (ms : Members) → ends_after c (members_tokens ms) ≡ true
members_end c no_members = refl
members_end c (member k j ms) = ends_after-append false (json_tokens j) (members_tokens ms) ∙ members_end (ends_after false (json_tokens j)) ms

-- the tokens of a value end it
value_ends : (c : Bool) (j : Json) → ends_after c (json_tokens j) ≡ true
value_ends c null = refl
value_ends c (boolean b) = refl
value_ends c (number s) = refl
value_ends c (string s) = refl
value_ends c (array js) = items_end false js
value_ends c (object ms) = members_end false ms

-- a value is printed, and then what follows it
value_then : (j : Json) (ts : List Token) → print_from false (json_tokens j ++ ts) ≡ json_text j ++ print_from true ts
value_then j ts = print_from-append false (json_tokens j) ts ∙ ap (λ (c : Bool). json_text j ++ print_from c ts) (value_ends false j)

-- a value that follows another has a comma before it
comma_then : (j : Json) (ts : List Token) → print_from true (json_tokens j ++ ts) ≡ codes "," ++ print_from false (json_tokens j ++ ts)
unfolding print_from
comma_then null ts = refl
comma_then (boolean b) ts = refl
comma_then (number s) ts = refl
comma_then (string s) ts = refl
comma_then (array js) ts = refl
comma_then (object ms) ts = refl

-- The text of a number is what it holds.
pub number_text : (s : List ℕ) → json_text (number s) ≡ s
unfolding print_from
number_text s = append-nil s

-- So it is its digits.
pub numeral_text : (n : ℕ) → json_text (numeral n) ≡ decimal n
numeral_text n = number_text (decimal n)

-- The text of a string is its content in quotation marks.
pub string_text : (s : List ℕ) → json_text (string s) ≡ quoted s
unfolding print_from
string_text s = append-nil (quoted s)

-- The text of true or false is its word.
pub boolean_text : (b : Bool) → json_text (boolean b) ≡ boolean_word b
unfolding print_from
boolean_text true = refl
boolean_text false = refl

-- the members after the first, and the closing brace
members_printed : (ms : List Member) → print_from true (members_tokens (members_of ms)) ≡ members_text ms ++ codes "}"
unfolding print_from
members_printed [] = refl
members_printed (m ∷ ms) =
    let rest = members_tokens (members_of ms) in
    ap (λ (l : List ℕ). codes "," ++ (name_text m.0 ++ l)) (value_then m.1 rest ∙ ap (λ (l : List ℕ). json_text m.1 ++ l) (members_printed ms))
    ∙ regroup (codes ",") (name_text m.0) (json_text m.1) (members_text ms) (codes "}")
  where
    regroup : (a b c d e : List ℕ) → a ++ (b ++ (c ++ (d ++ e))) ≡ ((a ++ b ++ c) ++ d) ++ e
    regroup a b c d e = simp append_assoc

-- The text of an object is its front and a brace.
pub object_text : (ms : List Member) → json_text (object_of ms) ≡ object_front ms ++ codes "}"
unfolding print_from
object_text [] = refl
object_text (m ∷ ms) =
    let rest = members_tokens (members_of ms) in
    ap (λ (l : List ℕ). codes "{" ++ (name_text m.0 ++ l)) (value_then m.1 rest ∙ ap (λ (l : List ℕ). json_text m.1 ++ l) (members_printed ms))
    ∙ regroup (codes "{") (name_text m.0) (json_text m.1) (members_text ms) (codes "}")
  where
    regroup : (a b c d e : List ℕ) → a ++ (b ++ (c ++ (d ++ e))) ≡ (a ++ b ++ c ++ d) ++ e
    regroup a b c d e = simp append_assoc

-- Members that are added to an object follow its front.
pub object_front-append : (m : Member) (ms ns : List Member) → object_front ((m ∷ ms) ++ ns) ≡ object_front (m ∷ ms) ++ members_text ns
object_front-append m ms ns =
    ap (λ (l : List ℕ). codes "{" ++ name_text m.0 ++ json_text m.1 ++ l) (flat_map-append member_text ms ns)
    ∙ sym (append_assoc (codes "{" ++ name_text m.0 ++ json_text m.1) (members_text ms) (members_text ns))

-- Members of two lists, in order.
pub members_text-append : (ms ns : List Member) → members_text (ms ++ ns) ≡ members_text ms ++ members_text ns
members_text-append ms ns = flat_map-append member_text ms ns

-- the remaining items, and the closing bracket
items_printed : (later : Bool) (js : List Json) → print_from later (items_tokens (items_of js)) ≡ items_text later js ++ codes "]"
unfolding print_from
items_printed true [] = refl
items_printed false [] = refl
items_printed true (j ∷ js) =
    let rest = items_tokens (items_of js) in
    comma_then j rest ∙ ap (λ (l : List ℕ). codes "," ++ l) (value_then j rest ∙ ap (λ (l : List ℕ). json_text j ++ l) (items_printed true js))
    ∙ grouped (codes ",") (json_text j) (items_text true js) (codes "]")
  where
    grouped : (a b c d : List ℕ) → a ++ (b ++ (c ++ d)) ≡ (a ++ b ++ c) ++ d
    grouped a b c d = simp append_assoc
items_printed false (j ∷ js) =
    let rest = items_tokens (items_of js) in
    value_then j rest ∙ ap (λ (l : List ℕ). json_text j ++ l) (items_printed true js) ∙ sym (append_assoc (json_text j) (items_text true js) (codes "]"))

-- The text of an array is its items in brackets.
pub array_text : (js : List Json) → json_text (array_of js) ≡ codes "[" ++ items_text false js ++ codes "]"
unfolding print_from
array_text js = ap (λ (l : List ℕ). codes "[" ++ l) (items_printed false js) ∙ sym (append_assoc (codes "[") (items_text false js) (codes "]"))
