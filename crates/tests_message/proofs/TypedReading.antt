-- What data types read of records that were pushed.
use Rattle.std.proofs.Common.{◌≡◌, ◌∙◌, ap, sym, refl, subst, ℕ, List, [], ◌∷◌, length}
use Rattle.std.proofs.lemmas.List.{append-nil}
use Rattle.std.proofs.lemmas.List.Elements.{All-nil, All-cons}
use Rattle.std.specs.Iterator.{YieldsFirstBy}
use Rattle.std.specs.Option.{option_map_or}
use Rattle.std.specs.Prelude.{map, IfErr, OnOk, OnErr, IsOk, IsSome, IsOkAnd, IsSomeAnd, Option, Some, None, Result, Ok, Err}
use Rattle.dns_message.specs.declared.wire.ParseError.{ParseError}
use Rattle.dns_message.specs.Names.{Fault, Labels, fault_of, labels}
use Rattle.dns_message.specs.declared.name.ParsedName.{ParsedName}
use Rattle.dns_message.specs.Data.{Part, Octets, CompressibleName, UncompressedName, Layout, DomainName, Fixed, End, only}
use Rattle.dns_message.specs.Targets.{Rule}
use Rattle.dns_message.specs.Records.{RecordItem, encoded_record, record_item, typed_result}
use Rattle.dns_message.specs.declared.record.ParsedRecord.{ParsedRecord}
use Rattle.dns_message.specs.declared.record.Record.{Record}
use Rattle.dns_message.specs.Sections.{limited, StartOrFault, records_in, AnswersStart, AnswersFault, answer_count}
use Rattle.dns_message.specs.Sections.RecordSection.{BeginsSection, position, records_left, record_result}
use Rattle.dns_message.specs.declared.message.RecordIter.{RecordIter}
use Rattle.dns_message.specs.declared.message.RecordSection.{RecordSection}
use Rattle.dns_message.specs.declared.message.Section.TheVariants.{Answer}
use Rattle.dns_message.specs.Messages.{records_of, StartsAreFound}
use Rattle.dns_message.specs.Builders.{RewindsLeaveNothing, ReadsBack, Built, MovesState, Represents, fresh, State, InAnswer, move_to, rewound, up_to}
use Rattle.dns_message.specs.Builders.{with_record, with_records, AllEncodedAs, IsLaidOutBy, PushedRecordsAreEncoded, EncodedAs, taken, TypedRecordsReadBack}
use Rattle.dns_message.specs.declared.builder.PushError.{PushError}
use Rattle.tests_message.specs.Typed.{HasOneAnswer, WasPushedFirst, server_record, address_record}

-- an answer section that has a start can be opened
pub opened : (law : StartOrFault) (b : List ℕ) (p : ℕ) (r : Result RecordSection ParseError) → AnswersStart b p → IfErr r (λ e. AnswersFault b (fault_of e)) → IsOk r
opened law b p (Ok cursor) start fault = refl
opened law b p (Err e) start fault = absurd ((law.answers b).not_both p (fault_of e) start fault)

-- the remaining records of a cursor at the start of the answers
pub all_left : (found : StartsAreFound) (b : List ℕ) (cursor : RecordSection) → BeginsSection Answer b cursor → records_left cursor ≡ records_of Answer b
all_left found b cursor begins =
    let start = (found Answer b (position cursor)).1 begins.start in
    begins.fresh.records ∙ sym (ap (λ (o : Option ℕ). option_map_or (records_in b (answer_count b)) o []) start)

-- if a data type accepts one record only, it is the only one that remains
pub one_left : (found : StartsAreFound) (b : List ℕ) (layouts : ℕ → Option Layout) (x : RecordItem) (cursor : RecordSection) → BeginsSection Answer b cursor → HasOneAnswer layouts b x
    → limited layouts (records_left cursor) ≡ Ok x ∷ []
one_left found b layouts x cursor begins one = ap (limited layouts) (all_left found b cursor begins) ∙ one.only

-- if the remaining records are as they were pushed, the next call yields the first of them
pub encoded_first : (b : List ℕ) (x : RecordItem) (xs : List RecordItem) (old new : RecordSection) (result : Option (Result ParsedRecord ParseError))
    → YieldsFirstBy record_result records_left old result new → AllEncodedAs b (x ∷ xs) (records_left old) → IsSomeAnd result (λ answer. IsOkAnd answer (λ r. EncodedAs b x (encoded_record r)))
encoded_first b x xs old new None steps all = subst (AllEncodedAs b (x ∷ xs)) steps.0 all
encoded_first b x xs old new (Some (Ok r)) steps all = (subst (AllEncodedAs b (x ∷ xs)) steps all).0
encoded_first b x xs old new (Some (Err e)) steps all = (subst (AllEncodedAs b (x ∷ xs)) steps all).0

-- a record that was pushed first is the first that a cursor at the start of the answers yields
pub pushed_first : (encoded : PushedRecordsAreEncoded) (found : StartsAreFound) (layouts : ℕ → Option Layout) (b : List ℕ) (x : RecordItem) (old new : RecordSection)
    (result : Option (Result ParsedRecord ParseError)) → WasPushedFirst layouts b x → BeginsSection Answer b old → YieldsFirstBy record_result records_left old result new
    → IsSomeAnd result (λ answer. IsOkAnd answer (λ r. EncodedAs b x (encoded_record r)))
pushed_first encoded found layouts b x old new result was begins steps =
    let all = subst (λ (xs : List RecordItem). AllEncodedAs b xs (records_of Answer b)) was.first (encoded was.s b was.reads_back Answer) in
    encoded_first b x was.after old new result steps (subst (AllEncodedAs b (x ∷ was.after)) (sym (all_left found b old begins)) all)

-- pushing onto empty answers and rewinding leaves nothing
pub in_vain : (law : RewindsLeaveNothing) (rule : Rule) (x : RecordItem) (old full new : Built) (result : Result (Unit {0}) PushError) → OnErr result (full ≡ old)
    → OnOk result (MovesState InAnswer InAnswer rule (with_record InAnswer x) old full) → MovesState InAnswer InAnswer rule (rewound InAnswer) full new
    → (s : State) → Represents InAnswer rule s old → s.answers ≡ [] → new ≡ old
in_vain law rule x old full new result refused accepted rewinds s represents none = by result refused accepted
  where
    emptied : Represents InAnswer rule (rewound InAnswer s) old
    emptied = subst (λ (t : State). Represents InAnswer rule t old) (represents.last ∙ (λ i. record (up_to InAnswer s) { answers = none i })) represents

    by : (result : Result (Unit {0}) PushError) → OnErr result (full ≡ old) → OnOk result (MovesState InAnswer InAnswer rule (with_record InAnswer x) old full) → new ≡ old
    by (Ok u) refused accepted = law.records InAnswer rule s (x ∷ []) old full new emptied (accepted s represents) rewinds
    by (Err e) refused accepted =
        let same : s ≡ with_records InAnswer [] s = λ i. record s { answers = sym (append-nil s.answers) i } in
        law.records InAnswer rule s [] old full new emptied (subst (λ (q : State × Built). Represents InAnswer rule q.0 q.1) (λ i. (same i, sym refused i)) represents) rewinds

module _ {D : Type 0} (rtype_of : D → ℕ) (parts_of : D → List Part) where
  -- if one record remains, the next call yields it
  pub one_given : (left : RecordIter D → List (Result RecordItem Fault)) (old new : RecordIter D) (x : RecordItem) (result : Option (Result (Record ParsedName D) ParseError))
      → YieldsFirstBy (typed_result rtype_of parts_of) left old result new → left old ≡ Ok x ∷ []
      → IsSomeAnd result (λ answer. IsOkAnd answer (λ r. record_item labels rtype_of parts_of r ≡ x))
  one_given left old new x None steps is = let none : [] ≡ Ok x ∷ [] = sym steps.0 ∙ is in absurd (cc)
  one_given left old new x (Some (Ok r)) steps is =
      let item = record_item labels rtype_of parts_of r in
      let same : Ok item ∷ left new ≡ Ok x ∷ [] = sym steps ∙ is in
      cc
  one_given left old new x (Some (Err e)) steps is = let other : Err (fault_of e) ∷ left new ≡ Ok x ∷ [] = sym steps ∙ is in absurd (cc)

-- An option with a value of which something holds has a value.
pub some_given : {A : Type 0} (o : Option A) (P : A → Type 0) → IsSomeAnd o P → IsSome o
some_given None P h = absurd h
some_given (Some a) P h = refl

-- A result with a value of which something holds has a value.
pub ok_given : {A E : Type 0} (r : Result A E) (P : A → Type 0) → IsOkAnd r P → IsOk r
ok_given (Ok a) P h = refl
ok_given (Err e) P h = absurd h

-- the first part of RDATA, if it is a name; the first part, if it is octets
abbrev pub name_first : List Part → Labels
name_first [] = []
name_first (Octets octets ∷ parts) = []
name_first (CompressibleName name ∷ parts) = name
name_first (UncompressedName lowercased name ∷ parts) = name

-- The octets of the first part.
abbrev pub octets_first : List Part → List ℕ
octets_first [] = []
octets_first (Octets octets ∷ parts) = octets
octets_first (CompressibleName name ∷ parts) = []
octets_first (UncompressedName lowercased name ∷ parts) = []

-- an NS record and an address that were pushed as the only answers
module _ (law : TypedRecordsReadBack) (b : List ℕ) (zone : Labels) (class ttl : ℕ) (server owner : Labels) (class2 ttl2 : ℕ) (octets : List ℕ) (four : length octets ≡ 4) where
  -- the state of a new builder onto which the NS record and then the address record were pushed as answers
  abbrev pub state : State
  state = with_record InAnswer (address_record owner class2 ttl2 octets) (with_record InAnswer (server_record zone class ttl server) (move_to InAnswer fresh))

  answers : (layouts : ℕ → Option Layout) → ReadsBack state b → IsLaidOutBy layouts (server_record zone class ttl server) → IsLaidOutBy layouts (address_record owner class2 ttl2 octets)
      → limited layouts (records_of Answer b) ≡ map Ok (taken layouts (server_record zone class ttl server ∷ address_record owner class2 ttl2 octets ∷ []))
  answers layouts h first second =
      let P = IsLaidOutBy layouts in
      law state b h Answer layouts
      (All-cons P (server_record zone class ttl server) (address_record owner class2 ttl2 octets ∷ []) first (All-cons P (address_record owner class2 ttl2 octets) [] second (All-nil P)))

  -- if the octets read back as this state, reading the answers as NS records yields the NS record and nothing else
  pub one_server : ReadsBack state b → HasOneAnswer (only 2 (DomainName End)) b (server_record zone class ttl server)
  one_server h = record { start = h.answers_start; starts = h.answers_at; only = answers (only 2 (DomainName End)) h refl tt }

  -- if the octets read back as this state, reading the answers as A records yields the address record and nothing else
  pub one_address : ReadsBack state b → HasOneAnswer (only 1 (Fixed 4 End)) b (address_record owner class2 ttl2 octets)
  one_address h = record { start = h.answers_start; starts = h.answers_at; only = answers (only 1 (Fixed 4 End)) h tt (four, refl) }
