-- Queries with an OPT record: their octets, and how long they are.
use Rattle.std.proofs.Common.{◌≡◌, ℕ, ◌+◌, ◌<◌, ◌≤◌, ◌^◌, Bool, true, false, List, [], ◌++◌, length, length-append, append_assoc, append-nil, inl, inr, arith, ◌⊎◌}
use Rattle.std.specs.Prelude.{is_some}
use Rattle.std.proofs.lemmas.List.Elements.{All-nil}
use Rattle.dns_name.specs.Names.{IsLabel, IsName}
use Rattle.dns_name.proofs.theory.LabelsLemmas.{length-uncompressed}
use Rattle.dns_wire.specs.Parts.{encode_parts}
use Rattle.dns_wire.specs.Encoders.{Plain, encode_name, nothing}
use Rattle.dns_code.specs.Header.{HeaderFields, IsHeader}
use Rattle.dns_code.proofs.theory.HeaderOctets.{length-octets_of_fields}
use Rattle.dns_edns.specs.Options.{OptionItem, AreOptions}
use Rattle.dns_edns.specs.OptionsOf.{are_options, chosen, one_or_none, options_of}
use Rattle.dns_item.specs.Questions.{QuestionItem, IsQuestion, encode_question}
use Rattle.dns_item.specs.Items.{IsRecord, encode_record}
use Rattle.dns_build.specs.State.{IsState, encode, head_of}
use Rattle.dnsm_read.specs.declared.opts.Opt.{Opt}
use Rattle.dnsm_make.specs.Made.{query_header}
use Rattle.dnsm_make.specs.OptQueries.{LacksOptQuery, asking_with, opt_record}
use Rattle.dnsm_status.specs.Codes.{number_of}
use Rattle.dnsm_status.specs.declared.code.CallError.TheVariants.{NoRoom}

-- The root is a name.
pub root_name : IsName []
root_name = record { labels = All-nil IsLabel; short = omega arith }

module _ (header : HeaderFields) (x : QuestionItem) (opt : Opt) (ttl : ℕ) (options : List ℕ) where
  -- The octets of the message are those of the header section, of the question and of the record.
  pub opt_query_octets : (encode Plain (asking_with header x (opt_record opt ttl options))).octets
      ≡ ((head_of (asking_with header x (opt_record opt ttl options))).octets ++ (encode_question Plain x nothing 0).octets)
      ++ (encode_record Plain (opt_record opt ttl options) nothing 0).octets
  unfolding encode encode_question encode_record encode_parts encode_name
  opt_query_octets = simp (append_assoc, append-nil)

  -- They are at most 282 more than those of the options: 12 of the header section, 259 of the question, and 11 of the record.
  pub opt_query_short : IsName x.name → length (encode Plain (asking_with header x (opt_record opt ttl options))).octets ≤ length options + 282
  unfolding encode encode_question encode_record encode_parts encode_name
  opt_query_short is =
      let four = length-octets_of_fields header in
      let size = length-uncompressed x.name in
      let short = is.short in
      simp length-append (omega (arith, four, size, short, length-append options [], length-append (options ++ []) []))

  -- A message can hold the question and the record.
  pub opt_query_state : IsHeader header → IsQuestion x → IsRecord (opt_record opt ttl options) → IsState (asking_with header x (opt_record opt ttl options))
  opt_query_state is_header is_question is_record = record {
    header = is_header;
    questions = ((is_question, tt), omega arith);
    answers = (tt, omega arith);
    authorities = (tt, omega arith);
    additionals = ((is_record, tt), omega arith);
  }

-- A message can hold the header of a query.
pub query_is_header : (id : ℕ) (rd : Bool) → id < 2 ^ 16 → IsHeader (query_header id rd)
query_is_header id rd small = record { id = small; opcode = omega arith; rcode = omega arith }

listed_by : (b : List ℕ) (r : ((xs : List OptionItem) × AreOptions b xs) ⊎ ((xs : List OptionItem) → AreOptions b xs → ⊥)) → is_some (chosen r) ≡ true → (xs : List OptionItem) × AreOptions b xs
listed_by b (inl p) is = p
listed_by b (inr never) is = absurd (cc is)

unlisted_by : (b : List ℕ) (r : ((xs : List OptionItem) × AreOptions b xs) ⊎ ((xs : List OptionItem) → AreOptions b xs → ⊥)) → is_some (chosen r) ≡ false
    → (xs : List OptionItem) → AreOptions b xs → ⊥
unlisted_by b (inl p) is = absurd (cc is)
unlisted_by b (inr never) is = never

-- Octets that pass the test are options.
pub listed : (b : List ℕ) → are_options b ≡ true → (xs : List OptionItem) × AreOptions b xs
unfolding options_of
listed b is = listed_by b (one_or_none b) is

-- Octets that don't pass the test are no options.
pub unlisted : (b : List ℕ) → are_options b ≡ false → (xs : List OptionItem) → AreOptions b xs → ⊥
unfolding options_of
unlisted b is = unlisted_by b (one_or_none b) is

-- The buffer is no reason why there is no query.
pub lacks_otherwise : (text options : List ℕ) (n : ℕ) → n ≡ number_of NoRoom → LacksOptQuery text options n → ⊥
lacks_otherwise text options n room (inl h) = omega (arith, room, h.1)
lacks_otherwise text options n room (inr (inl h)) = omega (arith, room, h.2)
lacks_otherwise text options n room (inr (inr h)) = omega (arith, room, h.3)
