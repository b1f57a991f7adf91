-- Questions that are written are at their offset, and are read there.
use Rattle.std.proofs.Common.{ℕ, ◌+◌, ◌≤◌, length, arith, sym}
use Rattle.std.specs.Int.{to_be_bytes, w16}
use Rattle.dns_name.specs.Names.{name_size, max_size}
use Rattle.dns_wire.specs.Encoders.{Rule, encode_octets, encode_name}
use Rattle.dns_wire.specs.Targets.{Written, IsTarget, append}
use Rattle.dns_wire.proofs.theory.EncodedNames.{encode_name_grows, encode_octets_grows, both_grows}
use Rattle.dns_wire.proofs.theory.EncoderLaws.{number_16, Encodes, IsStable, Consecutive, stable_after, encodes_both, HasOctets, stable_octets, encodes_octets, HasName, stable_name, encodes_name}
use Rattle.dns_wire.proofs.theory.CompressedNames.{at_first, at_second, compressed_name_at, compressed_ends}
use Rattle.dns_item.specs.Questions.{ReadsQuestion, QuestionsGrow, QuestionsReadBack, QuestionItem, IsQuestion, question_fields, encode_question}

-- writing a question adds only its own suffixes to the compression table
pub questions_grow : QuestionsGrow
unfolding encode_question
questions_grow rule x = both_grows _ _ (encode_name_grows rule x.name) (encode_octets_grows (question_fields x))

-- the octets of a question go from p to q
abbrev pub HasQuestion : QuestionItem → Written → ℕ → ℕ → Type 0
HasQuestion x = Consecutive (HasName x.name) (HasOctets (question_fields x))

-- they stay so
pub stable_question : (x : QuestionItem) → IsStable (HasQuestion x)
stable_question x = stable_after (HasName x.name) (HasOctets (question_fields x)) (stable_name x.name) (stable_octets (question_fields x))

-- a question is at the offset where it was written
pub encodes_question : (rule : Rule) (x : QuestionItem) → IsQuestion x → Encodes (encode_question rule x) (HasQuestion x)
unfolding encode_question
encodes_question rule x is =
    encodes_both (encode_name rule x.name) (encode_octets (question_fields x)) (HasName x.name) (HasOctets (question_fields x)) (stable_name x.name)
    (encodes_name rule x.name is.name) (encodes_octets (question_fields x))

-- a question is read there
pub reads_question : (x : QuestionItem) (t : Written) (p q : ℕ) → IsQuestion x → IsTarget t → HasQuestion x t p q → ReadsQuestion t.octets p q x
reads_question x t p q is good h =
    let r = h.0 in
    let first = at_first {xs = to_be_bytes w16 x.rtype} (to_be_bytes w16 x.class) h.2.0 in
    let second = at_second (to_be_bytes w16 x.rtype) {ys = to_be_bytes w16 x.class} h.2.0 in
    let end = h.2.1 in
    let within = h.2.0.within in
    let short : 0 + name_size x.name ≤ max_size = let s = is.name.short in omega arith in
    record {
      skips = record { name_end = r; name_ends = compressed_ends 0 good short h.1; end = end; within = omega arith };
      name = compressed_name_at good is.name.short h.1;
      rtype = sym (number_16 t.octets r x.rtype is.rtype first);
      class = sym (number_16 t.octets (r + 2) x.class is.class second);
    }

-- A question that is encoded is the question that is read there.
pub questions_read_back : QuestionsReadBack
questions_read_back rule t x is h =
    let p = encodes_question rule x is in
    let u = append (encode_question rule x) t in
    (reads_question x u (length t.octets) (length u.octets) is (p.keeps t h) (p.encodes t h), p.keeps t h)
