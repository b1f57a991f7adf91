-- The sections of a builder, and the encoding of a state with one more item or without the last section's items.
use Rattle.std.proofs.Common.{◌≡◌, ℕ, ◌+◌, ◌*◌, ◌-◌, ◌<◌, ◌≤◌, List, [], ◌∷◌, ◌++◌, map, length, replicate, take, drop, ap, sym, ◌∙◌, refl, subst, arith}
use Rattle.std.proofs.lemmas.List.{length-map, map-append, take-append-drop, length-take-le}
use Rattle.dns_wire.specs.Encoders.{IsGrowing, Rule, Encoder}
use Rattle.dns_wire.specs.Targets.{Written, append}
use Rattle.dns_code.specs.Header.{octets_of_fields}
use Rattle.dns_code.proofs.theory.HeaderOctets.{length-octets_of_fields}
use Rattle.dns_item.specs.Questions.{QuestionItem, IsQuestion, encode_question}
use Rattle.dns_item.specs.Items.{RecordItem, IsRecord, encode_record}
use Rattle.dns_item.proofs.theory.QuestionItemLemmas.{questions_grow}
use Rattle.dns_item.proofs.theory.ItemLemmas.{records_grow}
use Rattle.dns_build.specs.BuilderStates.{count_at, counted, cut_after, emptied_from}
use Rattle.dns_read.specs.declared.section.Section.{Section}
use Rattle.dns_read.specs.declared.section.Section.TheVariants.{Answer, Authority, Additional}
use Rattle.dns_build.specs.State.{encode, stage_of, Stage, InBuilder, InQuestion, InAnswer, InAuthority, State, Every, with_first, with_question, with_record, records_at, up_to}
use Rattle.dns_build.proofs.theory.Encodings.{encoders, encoders-more, message, sections_of, encode-message, sections_grow, between, every_append}
use Rattle.dns_build.proofs.theory.Encodings.{every_map, count-message, size-more, message-first, message-more, message-less}

-- the question section, or a record section
pub data Kind : Type 0 where
  Questions : Kind
  Records : Section → Kind

-- the number of sections before it
abbrev pub number : Kind → ℕ
number Questions = 0
number (Records Answer) = 1
number (Records Authority) = 2
number (Records Additional) = 3

-- the offset of its count in a message
abbrev pub count_offset_of : Kind → ℕ
count_offset_of k = 4 + 2 * number k

-- the stage at it
abbrev pub at : Kind → Stage
at Questions = InQuestion
at (Records k) = stage_of k

-- the stage before it
abbrev pub prior : Kind → Stage
prior Questions = InBuilder
prior (Records Answer) = InQuestion
prior (Records Authority) = InAnswer
prior (Records Additional) = InAuthority

-- the type of its items
abbrev pub Item : Kind → Type 0
Item Questions = QuestionItem
Item (Records k) = RecordItem

-- The items that a section of this kind may have.
abbrev pub IsItem : (k : Kind) → Item k → Type 0
IsItem Questions x = IsQuestion x
IsItem (Records k) x = IsRecord x

-- The encoder of an item of this kind.
abbrev pub encode_item : (k : Kind) → Rule → Item k → Encoder
encode_item Questions rule x = encode_question rule x
encode_item (Records k) rule x = encode_record rule x

-- The items of this kind in a state, of the section that is being built.
abbrev pub items : (k : Kind) → State → List (Item k)
items Questions s = s.questions
items (Records k) s = records_at (stage_of k) s

-- The state with one more item of this kind.
abbrev pub with_item : (k : Kind) → Item k → State → State
with_item Questions x s = with_question x s
with_item (Records k) x s = with_record (stage_of k) x s

-- Encoding an item only adds its own suffixes to the table.
pub items_grow : (k : Kind) (rule : Rule) (x : Item k) → IsGrowing (encode_item k rule x)
items_grow Questions rule x = questions_grow rule x
items_grow (Records k) rule x = records_grow rule x

-- The sections before it.
abbrev pub before : Kind → Rule → State → List (List Encoder)
before k rule s = take (number k) (sections_of rule s)

-- The sections after it, which are empty.
abbrev pub empty : Kind → List (List Encoder)
empty k = replicate (3 - number k) []

-- The sections of a state, with these encodings as the section's own.
abbrev pub sections : Kind → Rule → State → List Encoder → List (List Encoder)
sections k rule s = between (before k rule s) (empty k)

-- The encodings of a state without the sections after this one, and without this one's items.
pub record Splits (k : Kind) (rule : Rule) (s : State) : Type 0 where
  pub all : length (before k rule s) + length (empty k) ≡ 3
  pub number : length (before k rule s) ≡ number k
  pub last : encoders (empty k) ≡ []
  pub whole : encode rule (up_to (at k) s) ≡ message (octets_of_fields s.header) (sections k rule s (map (encode_item k rule) (items k s)))
  pub less : encode rule (up_to (prior k) s) ≡ message (octets_of_fields s.header) (sections k rule s [])
  pub grow : Every IsGrowing (encoders (sections k rule s (map (encode_item k rule) (items k s))))
  pub front : Every IsGrowing (encoders (sections k rule s []))

-- each section splits the octets of its message
pub splits : (k : Kind) (rule : Rule) (s : State) → Splits k rule s
splits Questions rule s =
    record {
      all = refl;
      number = refl;
      last = refl;
      whole = encode-message rule _;
      less = encode-message rule _;
      grow = sections_grow rule
          (up_to InQuestion s);
      front = sections_grow rule (up_to InBuilder s);
    }
splits (Records Answer) rule s =
    record {
      all = refl;
      number = refl;
      last = refl;
      whole = encode-message rule _;
      less = encode-message rule _;
      grow = sections_grow rule
          (up_to InAnswer s);
      front = sections_grow rule (up_to InQuestion s);
    }
splits (Records Authority) rule s =
    record {
      all = refl;
      number = refl;
      last = refl;
      whole = encode-message rule _;
      less = encode-message rule _;
      grow = sections_grow rule
          (up_to InAuthority s);
      front = sections_grow rule (up_to InAnswer s);
    }
splits (Records Additional) rule s =
    record { all = refl; number = refl; last = refl; whole = encode-message rule _; less = encode-message rule _; grow = sections_grow rule s; front = sections_grow rule (up_to InAuthority s) }

-- the encoding of a state with one more item, without the sections after this one
splits_more : (k : Kind) (rule : Rule) (s : State) (x : Item k) → encode rule (with_item k x (up_to (at k) s)) ≡ message (octets_of_fields s.header)
    (sections k rule s (map (encode_item k rule) (items k s ++ x ∷ [])))
splits_more Questions rule s x = encode-message rule _
splits_more (Records Answer) rule s x = encode-message rule _
splits_more (Records Authority) rule s x = encode-message rule _
splits_more (Records Additional) rule s x = encode-message rule _

-- the encoding of a state with the first items of this section alone, without the sections after it
splits_first : (k : Kind) (rule : Rule) (n : ℕ) (s : State) → encode rule (with_first (at k) n (up_to (at k) s)) ≡ message (octets_of_fields s.header)
    (sections k rule s (map (encode_item k rule) (take n (items k s))))
splits_first Questions rule n s = encode-message rule _
splits_first (Records Answer) rule n s = encode-message rule _
splits_first (Records Authority) rule n s = encode-message rule _
splits_first (Records Additional) rule n s = encode-message rule _

module _ (k : Kind) (rule : Rule) (s : State) (last : s ≡ up_to (at k) s) where
  offset : 4 + 2 * length (before k rule s) ≡ count_offset_of k
  offset = let is = splits k rule s in ap (λ n. 4 + 2 * n) is.number

  -- The encoding of the state, as a message.
  pub whole : encode rule s ≡ message (octets_of_fields s.header) (sections k rule s (map (encode_item k rule) (items k s)))
  whole = let is = splits k rule s in ap (encode rule) last ∙ is.whole

  more : (x : Item k) → encode rule (with_item k x s) ≡ message (octets_of_fields s.header) (sections k rule s (map (encode_item k rule) (items k s) ++ encode_item k rule x ∷ []))
  more x =
      ap (λ (t : State). encode rule (with_item k x t)) last ∙ splits_more k rule s x
      ∙ ap (λ ps. message (octets_of_fields s.header) (sections k rule s ps)) (map-append (encode_item k rule) (items k s) (x ∷ []))

  -- the section's count is the number of its items
  pub encode-count : length (items k s) < 65536 → count_at (count_offset_of k) (encode rule s) ≡ length (items k s)
  encode-count few =
      let is = splits k rule s in
      let size = length-map (items k s) (encode_item k rule) in
      (λ i. count_at (sym offset i) (whole i))
      ∙ count-message (octets_of_fields s.header) (length-octets_of_fields s.header) (before k rule s) (empty k) is.all is.last (map (encode_item k rule) (items k s)) is.grow (omega arith) ∙ size

  -- the length of an encoding with one more item, even one that can't be counted
  pub encode-size : (x : Item k) → length (append (encode_item k rule x) (encode rule s)).octets ≡ length (encode rule (with_item k x s)).octets
  encode-size x =
      let is = splits k rule s in
      ap (λ (w : Written). length (append (encode_item k rule x) w).octets) whole
      ∙ size-more (octets_of_fields s.header) (length-octets_of_fields s.header) (before k rule s) (empty k) is.all is.last (map (encode_item k rule) (items k s)) is.grow (encode_item k rule x)
      ∙ ap (λ (w : Written). length w.octets) (sym (more x))

  -- the encoding of a state with one more item
  pub encode-more : (x : Item k) → length (items k s) < 65535 → counted (count_offset_of k) (append (encode_item k rule x) (encode rule s)) ≡ encode rule (with_item k x s)
  encode-more x few =
      let is = splits k rule s in
      let size = length-map (items k s) (encode_item k rule) in
      (λ i. counted (sym offset i) (append (encode_item k rule x) (whole i)))
      ∙ message-more (octets_of_fields s.header) (length-octets_of_fields s.header) (before k rule s) (empty k) is.all is.last
      (map (encode_item k rule) (items k s)) is.grow (encode_item k rule x) (omega arith)
      ∙ sym (more x)

  -- the encoding of a state without the section's items
  pub encode-less : emptied_from (length (encode rule (up_to (prior k) s)).octets) (count_offset_of k) (encode rule s) ≡ encode rule (up_to (prior k) s)
  encode-less =
      let is = splits k rule s in
      (λ i. emptied_from (length (is.less i).octets) (sym offset i) (whole i))
      ∙ message-less (octets_of_fields s.header) (length-octets_of_fields s.header) (before k rule s) (empty k) is.all is.last
      (map (encode_item k rule) (items k s)) is.grow is.front (every_map IsGrowing (encode_item k rule) (items_grow k rule) (items k s))
      ∙ sym is.less

  -- The encodings of the first items, and of the others.
  pub divided : (n : ℕ) → map (encode_item k rule) (items k s) ≡ map (encode_item k rule) (take n (items k s)) ++ map (encode_item k rule) (drop n (items k s))
  divided n =
      ap (map (encode_item k rule)) (sym (take-append-drop n (items k s))) ∙ map-append (encode_item k rule) (take n (items k s)) (drop n (items k s))

  -- The encoding of a state with the first items of the section alone, as a message.
  pub first : (n : ℕ) → encode rule (with_first (at k) n s) ≡ message (octets_of_fields s.header) (sections k rule s (map (encode_item k rule) (take n (items k s))))
  first n = ap (λ (t : State). encode rule (with_first (at k) n t)) last ∙ splits_first k rule n s

  -- The encoding, cut after the first items of the section and with their number as its count, is that of the state with them alone.
  pub encode-first : (n : ℕ) → n ≤ length (items k s) → cut_after (length (encode rule (with_first (at k) n s)).octets) (count_offset_of k) n (encode rule s) ≡ encode rule (with_first (at k) n s)
  encode-first n few =
      let is = splits k rule s in
      let header = octets_of_fields s.header in
      let four = length-octets_of_fields s.header in
      let own = map (encode_item k rule) (take n (items k s)) in
      let others = map (encode_item k rule) (drop n (items k s)) in
      let size : length own ≡ n = length-map (take n (items k s)) (encode_item k rule) ∙ length-take-le n (items k s) few in
      let grow = every_map IsGrowing (encode_item k rule) (items_grow k rule) in
      let front : Every IsGrowing (encoders (sections k rule s own)) = subst (Every IsGrowing) (sym (encoders-more header four (before k rule s) (empty k) is.all is.last [] own))
      (every_append IsGrowing (encoders (sections k rule s [])) own is.front (grow (take n (items k s)))) in
      let split = whole ∙ ap (λ ps. message header (sections k rule s ps)) (divided n) in
      (λ i. cut_after (length (first n i).octets) (sym offset i) (sym size i) (split i))
      ∙ message-first header four (before k rule s) (empty k) is.all is.last own others front (grow (drop n (items k s)))
      ∙ sym (first n)
