-- Plain messages that are encoded. RFC 1035 section 4.1.
use Rattle.std.proofs.Common.{◌≡◌, ℕ, List, ◌++◌, map, ap, ◌∙◌, append_assoc}
use Rattle.dns_wire.specs.Encoders.{Rule, Encoder}
use Rattle.dns_wire.specs.Targets.{Written, append}
use Rattle.dns_wire.proofs.theory.EncoderLaws.{append-both}
use Rattle.dns_item.specs.Questions.{encode_question}
use Rattle.dns_item.specs.Items.{encode_record}
use Rattle.dns_build.specs.State.{State, all_of, head_of, encode}
use Rattle.dns_build.proofs.theory.Encodings.{both-all_of}

-- Two lists of encodings are appended in turn.
append_all : (ps qs : List Encoder) (t : Written) → append (all_of qs) (append (all_of ps) t) ≡ append (all_of (ps ++ qs)) t
append_all ps qs t = append-both (all_of ps) (all_of qs) t ∙ ap (λ (p : Encoder). append p t) (both-all_of ps qs)

-- The four sections are appended in turn to the header section.
pub encodes_sections : (rule : Rule) (s : State) →
    append (all_of (map (encode_record rule) s.additionals)) (append (all_of (map (encode_record rule) s.authorities))
    (append (all_of (map (encode_record rule) s.answers)) (append (all_of (map (encode_question rule) s.questions)) (head_of s)))) ≡ encode rule s
unfolding encode
encodes_sections rule s =
    let questions = map (encode_question rule) s.questions in
    let answers = map (encode_record rule) s.answers in
    let authorities = map (encode_record rule) s.authorities in
    let additionals = map (encode_record rule) s.additionals in
    let t = append (all_of questions) (head_of s) in
    append_all authorities additionals (append (all_of answers) t) ∙ append_all answers (authorities ++ additionals) t ∙ append_all questions (answers ++ (authorities ++ additionals)) (head_of s)

-- Octets, and four numbers after them.
pub regrouped : (header questions answers authorities additionals : List ℕ)
    → header ++ questions ++ answers ++ authorities ++ additionals ≡ header ++ (questions ++ (answers ++ (authorities ++ additionals)))
regrouped header questions answers authorities additionals = simp append_assoc
