-- The octets that keys take.
use Rattle.std.proofs.Common.{◌≡◌, ℕ, ◌+◌, ◌*◌, ◌≤◌, Bool, true, false, cond, List, [], ◌∷◌, ◌++◌, length, length-append, refl, ap, ◌∙◌, arith, append-nil}
use Rattle.std.specs.Prelude.{nat_lt, reverse, All}
use Rattle.std.specs.Char.{to_ascii_lowercase}
use Rattle.std.specs.List.{flat_map}
use Rattle.std.proofs.lemmas.Grind.{flat_map-append}
use Rattle.std.proofs.lemmas.List.{reverse-append, length-map}
use Rattle.std.proofs.lemmas.List.Elements.{All-head, All-tail}
use Rattle.dns_name.specs.Names.{Labels, IsLabel, lowered_label, name_size}
use Rattle.dnsm_text.specs.NameKeys.{octet_key, label_key, name_key, KeysAreShort}

-- an octet takes at most two octets
length-octet_key : (o : ℕ) → length (octet_key o) ≤ 2
length-octet_key o = by (nat_lt o 2)
  where
    by : (b : Bool) → length (cond b (1 ∷ (o + 1) ∷ []) (o ∷ [])) ≤ 2
    by true = omega arith
    by false = omega arith

-- the octets of a label take at most twice as many
length-octet_keys : (a : List ℕ) → length (flat_map octet_key a) ≤ 2 * length a
length-octet_keys [] = omega arith
length-octet_keys (o ∷ a) = omega (arith, length-append (octet_key o) (flat_map octet_key a), length-octet_key o, length-octet_keys a)

-- so does a label, with one more at its end
length-label_key : (label : List ℕ) → length (label_key label) ≤ 2 * length label + 1
length-label_key label =
    omega (arith, length-append (flat_map octet_key (lowered_label label)) (0 ∷ []), length-octet_keys (lowered_label label), length-map label to_ascii_lowercase)

-- Lists that are joined from the last one on: the first is at the end.
pub flat_map-reverse_cons : {A : Type 0} (f : A → List ℕ) (x : A) (xs : List A) → flat_map f (reverse (x ∷ xs)) ≡ flat_map f (reverse xs) ++ f x
flat_map-reverse_cons f x xs =
    ap (flat_map f) (reverse-append (x ∷ []) xs) ∙ flat_map-append f (reverse xs) (x ∷ []) ∙ ap (λ k. flat_map f (reverse xs) ++ k) (append-nil (f x))

-- The first label is the last one in a key.
pub name_key-cons : (label : List ℕ) (name : Labels) → name_key (label ∷ name) ≡ name_key name ++ label_key label
name_key-cons = flat_map-reverse_cons label_key

-- the order of the labels doesn't matter for the length of a key
length-name_key : (name : Labels) → length (name_key name) ≡ length (flat_map label_key name)
length-name_key [] = refl
length-name_key (label ∷ name) =
    omega (arith, ap length (name_key-cons label name), length-append (name_key name) (label_key label), length-append (label_key label) (flat_map label_key name), length-name_key name)

-- a label of 63 octets takes most: 127 in place of 64
length-row : (name : Labels) → All IsLabel name → 64 * length (flat_map label_key name) ≤ 127 * name_size name
length-row [] h = omega arith
length-row (label ∷ name) h =
    let is = All-head IsLabel label name h in
    let rest = length-row name (All-tail IsLabel label name h) in
    omega (arith, length-append (label_key label) (flat_map label_key name), length-label_key label, is.short, rest)

-- The key of a name has at most 504 octets.
pub keys_are_short : KeysAreShort
keys_are_short name is = omega (arith, length-name_key name, length-row name is.labels, is.short)
