-- Bounds for the octets of the messages of states.
use Rattle.std.proofs.Common.{◌≡◌, ◌∙◌, ℕ, ◌+◌, ◌*◌, ◌≤◌, List, [], ◌∷◌, ◌++◌, length, length-append, ap, arith}
use Rattle.std.proofs.lemmas.List.{length-map}
use Rattle.std.specs.Prelude.{map}
use Rattle.dns_message.specs.Names.{Labels, IsName}
use Rattle.dns_message.proofs.CallerLemmas.{length-uncompressed, names_are_short, parts_are_short, length-octets_of_fields}
use Rattle.dns_message.specs.Data.{parts_size, encode_parts}
use Rattle.dns_message.specs.Targets.{CompressionTable, Encoder, Static, both, nothing, encode_name, encode_octets, with_length}
use Rattle.dns_message.specs.Questions.{QuestionItem, encode_question, question_fields}
use Rattle.dns_message.specs.Records.{RecordItem, encode_record, record_fields}
use Rattle.dns_message.specs.Builders.{State, Every, all_of, encode, head_of, encoders_of}

-- an encoding has at most n octets, for any compression table and at any offset
abbrev pub AtMost : ℕ → Encoder → Type 0
AtMost n p = (m : CompressionTable) (w : ℕ) → length (p m w).octets ≤ n

both_most : (a b : Encoder) (i j : ℕ) → AtMost i a → AtMost j b → AtMost (i + j) (both a b)
both_most a b i j x y m w =
    let first = a m w in
    let second = b first.table (w + length first.octets) in
    let p = x m w in
    let q = y first.table (w + length first.octets) in
    let n = length-append first.octets second.octets in
    omega (arith, n, p, q)

octets_most : (xs : List ℕ) → AtMost (length xs) (encode_octets xs)
octets_most xs m w = omega arith

length_most : (a : Encoder) (i : ℕ) → AtMost i a → AtMost (2 + i) (with_length a)
length_most a i x m w = let p = x m (w + 2) in omega (arith, p)

name_most : (name : Labels) → IsName name → AtMost 255 (encode_name Static name)
name_most name is m w =
    let a = names_are_short Static name m w in
    let b = length-uncompressed name in
    let c = is.short in
    omega (arith, a, b, c)

-- a bound for the octets of a question or a record
abbrev pub most_octets : ℕ
most_octets = 131072

-- a question with a valid name
abbrev pub IsNamed : QuestionItem → Type 0
IsNamed x = IsName x.name

question_most : (x : QuestionItem) → IsNamed x → AtMost most_octets (encode_question Static x)
unfolding encode_question
question_most x is m w =
    let a = both_most (encode_name Static x.name) (encode_octets (question_fields x)) 255 4 (name_most x.name is) (octets_most (question_fields x)) m w in
    omega (arith, a)

-- a record whose parts have at most 65,535 octets
pub record IsShort (x : RecordItem) : Type 0 where
  pub owner : IsName x.owner
  pub parts : parts_size x.parts ≤ 65535

record_most : (x : RecordItem) → IsShort x → AtMost most_octets (encode_record Static x)
unfolding encode_record
record_most x is m w =
    let fields = record_fields x in
    let data_encoder = encode_parts Static x.parts in
    let after = length_most data_encoder (parts_size x.parts) (parts_are_short Static x.parts) in
    let a = both_most (encode_name Static x.owner) (both (encode_octets fields) (with_length data_encoder)) 255 (8 + (2 + parts_size x.parts)) (name_most x.owner is.owner)
    (both_most (encode_octets fields) (with_length data_encoder) 8 (2 + parts_size x.parts) (octets_most fields) after) m w in
    let b = is.parts in
    omega (arith, a, b)

-- encodings of at most `most_octets` octets each
abbrev Few : List Encoder → Type 0
Few = Every (AtMost most_octets)

few_encoded : {X : Type 0} (encoding : X → Encoder) (P : X → Type 0) → ((x : X) → P x → AtMost most_octets (encoding x)) → (xs : List X) → Every P xs → Few (map encoding xs)
few_encoded encoding P most [] all = tt
few_encoded encoding P most (x ∷ xs) all = (most x all.0, few_encoded encoding P most xs all.1)

few_both : (ps qs : List Encoder) → Few ps → Few qs → Few (ps ++ qs)
few_both [] qs all others = others
few_both (p ∷ ps) qs all others = (all.0, few_both ps qs all.1 others)

few_octets : (ps : List Encoder) (m : CompressionTable) (w : ℕ) → Few ps → length (all_of ps m w).octets ≤ length ps * most_octets
few_octets [] m w all = omega arith
few_octets (p ∷ ps) m w all =
    let encoded = p m w in
    let first = all.0 m w in
    let rest = few_octets ps encoded.table (w + length encoded.octets) all.1 in
    let n = length-append encoded.octets (all_of ps encoded.table (w + length encoded.octets)).octets in
    omega (arith, n, first, rest)

-- how many items a state has
abbrev pub items_of : State → ℕ
items_of s = length s.questions + (length s.answers + (length s.authorities + length s.additionals))

-- a state whose items each have at most `most_octets` octets
pub record HasShortItems (s : State) : Type 0 where
  pub questions : Every IsNamed s.questions
  pub answers : Every IsShort s.answers
  pub authorities : Every IsShort s.authorities
  pub additionals : Every IsShort s.additionals

-- the header and the counts take 12 octets
head_size : (s : State) → length (head_of s).octets ≡ 12
head_size s = length-append _ _ ∙ ap (λ n. n + 8) (length-octets_of_fields s.header)

-- the message of such a state
pub short_message : (s : State) → HasShortItems s → length (encode Static s).octets ≤ 12 + items_of s * most_octets
unfolding encode
short_message s short =
    let record_encoders = few_encoded (encode_record Static) IsShort record_most in
    let a = map (encode_question Static) s.questions in
    let b = map (encode_record Static) s.answers in
    let c = map (encode_record Static) s.authorities in
    let d = map (encode_record Static) s.additionals in
    let few = few_both a (b ++ (c ++ d)) (few_encoded (encode_question Static) IsNamed question_most s.questions short.questions)
    (few_both b (c ++ d) (record_encoders s.answers short.answers)
    (few_both c d (record_encoders s.authorities short.authorities) (record_encoders s.additionals short.additionals))) in
    let encoded = few_octets (encoders_of Static s) nothing (length (head_of s).octets) few in
    let whole = length-append (head_of s).octets (all_of (encoders_of Static s) nothing (length (head_of s).octets)).octets in
    let head = head_size s in
    let n = length-append a (b ++ (c ++ d)) in
    let n' = length-append b (c ++ d) in
    let n'' = length-append c d in
    let q = length-map s.questions (encode_question Static) in
    let r = length-map s.answers (encode_record Static) in
    let r' = length-map s.authorities (encode_record Static) in
    let r'' = length-map s.additionals (encode_record Static) in
    omega (arith, encoded, whole, head, n, n', n'', q, r, r', r'')
