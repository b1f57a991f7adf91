-- The members of a header and of a whole message, put together.
use Rattle.std.proofs.Common.{◌≡◌, ◌∙◌, ℕ, List, [], ◌∷◌, ◌++◌, ap, sym, codes, decimal, take}
use Rattle.json.specs.Json.{boolean}
use Rattle.dns_code.specs.Header.{HeaderFields, fields_in}
use Rattle.dns_code.specs.HeaderCounts.{Counts}
use Rattle.dns_lines.specs.Show.{counts_of}
use Rattle.json_print.specs.Texts.{name_text, member_text, members_text, object_front}
use Rattle.json_print.specs.Values.{Member, numeral}
use Rattle.json_print.proofs.theory.JsonTexts.{members_text-append, numeral_text, object_front-append}
use Rattle.json_print.proofs.theory.Pieces.{one_member, whole_made}
use Rattle.dns_json.specs.Header.{count_members, header_members}
use Rattle.dns_json.specs.Messages.{body_members, head_members, message_json_text}

-- the members for the kind of a message
abbrev pub kind_members : HeaderFields → List Member
kind_members f = (codes "QR", boolean f.qr) ∷ (codes "Opcode", numeral f.opcode) ∷ (codes "AA", boolean f.aa) ∷ (codes "TC", boolean f.tc) ∷ []

-- The members for the other flags.
abbrev pub flag_members : HeaderFields → List Member
flag_members f = (codes "RD", boolean f.rd) ∷ (codes "RA", boolean f.ra) ∷ (codes "AD", boolean f.ad) ∷ (codes "CD", boolean f.cd) ∷ []

-- A brace and the members of the header.
pub header_made : (f : HeaderFields)
    → (codes "{" ++ name_text (codes "ID") ++ decimal f.id) ++ (members_text (kind_members f) ++ (members_text (flag_members f) ++ member_text (codes "RCODE", numeral f.rcode)))
    ≡ object_front (header_members f)
header_made f =
    let front = λ (id : List ℕ). codes "{" ++ name_text (codes "ID") ++ id in
    let last : List Member = (codes "RCODE", numeral f.rcode) ∷ [] in
    ap (λ (l : List ℕ). front (decimal f.id) ++ (members_text (kind_members f) ++ (members_text (flag_members f) ++ l))) (one_member (codes "RCODE", numeral f.rcode))
    ∙ ap (λ (l : List ℕ). front (decimal f.id) ++ (members_text (kind_members f) ++ l)) (sym (members_text-append (flag_members f) last))
    ∙ ap (λ (l : List ℕ). front (decimal f.id) ++ l) (sym (members_text-append (kind_members f) (flag_members f ++ last)))
    ∙ ap (λ (l : List ℕ). front l ++ members_text (kind_members f ++ (flag_members f ++ last))) (sym (numeral_text f.id))

-- The members of the counts follow those of the header.
pub head_made : (f : HeaderFields) (c : Counts) → object_front (header_members f) ++ members_text (count_members c) ≡ object_front (header_members f ++ count_members c)
head_made f c = sym (object_front-append (codes "ID", numeral f.id) (kind_members f ++ (flag_members f ++ ((codes "RCODE", numeral f.rcode) ∷ []))) (count_members c))

-- The members for the sections and a brace follow these.
pub message_made : (b : List ℕ) → object_front (head_members b) ++ (members_text (body_members b) ++ codes "}") ≡ message_json_text b
message_made b =
    let f = fields_in (take 4 b) in
    whole_made (codes "ID", numeral f.id) (kind_members f ++ (flag_members f ++ ((codes "RCODE", numeral f.rcode) ∷ count_members (counts_of b)))) (body_members b)
