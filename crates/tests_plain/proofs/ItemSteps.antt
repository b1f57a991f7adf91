-- Plain items that are appended. RFC 1035 sections 4.1.2 and 4.1.3.
use Rattle.std.proofs.Common.{◌≡◌, ℕ, ◌+◌, List, [], ◌∷◌, ◌++◌, length, take, drop, ap, sym, ◌∙◌, subst, refl, arith, length-append, append_assoc, append-nil}
use Rattle.std.specs.Borrow.{Bor}
use Rattle.std.specs.Prelude.{Some, Result, Ok, Err, OnOk, is_ok, if◌then◌else◌}
use Rattle.std.specs.Int.{to_be_bytes, w16, w32}
use Rattle.std.specs.FinMap.{len}
use Rattle.std.specs.List.{AllZip}
use Rattle.std.proofs.Math.Seq.{take-append_seam, drop-append_seam}
use Rattle.dns_name.specs.Names.{Labels, uncompressed}
use Rattle.dns_wire.specs.Encoders.{Rule, Encoder, encode_octets, both, with_length, encode_name}
use Rattle.dns_wire.specs.Parts.{Part, Octets, CompressibleName, UncompressedName, encode_part, encode_parts}
use Rattle.dns_wire.specs.Targets.{Written, append}
use Rattle.dns_wire.proofs.theory.EncoderLaws.{append-both}
use Rattle.dns_item.specs.Questions as questions
use Rattle.dns_item.specs.Questions.{encode_question}
use Rattle.dns_item.specs.Items as items
use Rattle.dns_item.specs.Items.{encode_record, record_fields}
use Rattle.tests_plain.specs.PlainNames.{IsNamed, ListsTable, IsInRange, Represents}
use Rattle.tests_plain.specs.PlainItems.{IsPart, IsQuestionItem, IsRecordItem}
use Rattle.tests_plain.specs.declared.writing.PlainTarget.{PlainTarget}
use Rattle.tests_plain.specs.declared.writing.PlainPart.TheVariants as parts
use Rattle.tests_plain.specs.declared.writing.PlainItem.{PlainItem}

-- What a vector has after an append, if that succeeds.
pub appended : {E : Type 0} (r : Result (Unit {0}) E) (new more old : List ℕ) → new ≡ (if is_ok r then more else old) → OnOk r (new ≡ more)
appended (Ok done) new more old e = e
appended (Err error) new more old e = tt

-- Octets are appended.
pub appends_octets : (old new : PlainTarget) (w : Written) (xs : List ℕ) → Represents old w → new.octets.items ≡ old.octets.items ++ xs → new.table ≡ old.table
    → Represents new (append (encode_octets xs) w)
appends_octets old new w xs r octets table = record {
  octets = octets ∙ ap (λ ys. ys ++ xs) r.octets;
  table = subst (λ t. ListsTable t.items w.table) (sym table) r.table;
  count = ap (λ t. length t.items) table ∙ r.count;
  in_range = r.in_range;
}

-- No octets are appended.
pub appends_nothing : (t : PlainTarget) (w : Written) → Represents t w → Represents t (append (encode_octets []) w)
appends_nothing t w r = record { octets = r.octets ∙ sym (append-nil w.octets); table = r.table; count = r.count; in_range = r.in_range }

-- Two encodings are appended in turn.
pub appends_both : (a b : Encoder) (new : PlainTarget) (w : Written) → Represents new (append b (append a w)) → Represents new (append (both a b) w)
appends_both a b new w r = subst (Represents new) (append-both a b w) r

-- A part that is never compressed is appended.
pub appends_octets_part : (rule : Rule) (octets : Bor (List ℕ)) (x : Part) (old new : PlainTarget) (w : Written) → IsPart (parts.Octets octets) x → Represents old w
    → new.octets.items ≡ old.octets.items ++ octets.now → new.table ≡ old.table → Represents new (append (encode_part rule x) w)
appends_octets_part rule octets (Octets xs) old new w is r whole table = appends_octets old new w xs r (whole ∙ ap (λ ys. old.octets.items ++ ys) is) table
appends_octets_part rule octets (CompressibleName name) old new w is r whole table = absurd is
appends_octets_part rule octets (UncompressedName lowercased name) old new w is r whole table =
    appends_octets old new w (uncompressed name) r (whole ∙ ap (λ ys. old.octets.items ++ ys) is) table

-- A part that may be compressed is appended.
pub appends_name_part : (rule : Rule) (octets : Bor (List ℕ)) (x : Part) (old new : PlainTarget) (w : Written) → IsPart (parts.CompressibleName octets) x → Represents old w
    → ((name : Labels) (w : Written) → IsNamed octets.now name → Represents old w → Represents new (append (encode_name rule name) w)) → Represents new (append (encode_part rule x) w)
appends_name_part rule octets (Octets xs) old new w is r f = absurd is
appends_name_part rule octets (CompressibleName name) old new w is r f = f name w is r
appends_name_part rule octets (UncompressedName lowercased name) old new w is r f = absurd is

-- Values in order, by the encodings of each.
module _ {X Y : Type 0} (R : X → Y → Type 0) (encoder : Y → Encoder) (encoders : List Y → Encoder) where
  -- If there are no values, a target to which nothing is appended has the encoding of all values.
  pub appends_none : encoders [] ≡ encode_octets [] → (xs : List X) (ys : List Y) (t : PlainTarget) (w : Written) → length xs ≡ 0 → AllZip R xs ys
      → Represents t w → Represents t (append (encoders ys) w)
  appends_none e [] [] t w none is r = subst (λ (p : Encoder). Represents t (append p w)) (sym e) (appends_nothing t w r)
  appends_none e [] (y ∷ ys) t w none is r = absurd is
  appends_none e (x ∷ xs) ys t w none is r = absurd (omega arith)

  more_of : ((y : Y) (ys : List Y) → encoders (y ∷ ys) ≡ both (encoder y) (encoders ys))
      → (first : X) (others : List X) (ys : List Y) (old mid new : PlainTarget) (w : Written) → AllZip R (first ∷ others) ys → Represents old w
      → ((y : Y) (w : Written) → R first y → Represents old w → Represents mid (append (encoder y) w))
      → ((ys : List Y) (w : Written) → AllZip R others ys → Represents mid w → Represents new (append (encoders ys) w)) → Represents new (append (encoders ys) w)
  more_of e first others [] old mid new w is r f g = absurd is
  more_of e first others (y ∷ ys) old mid new w is r f g =
      subst (λ (p : Encoder). Represents new (append p w)) (sym (e y ys)) (appends_both (encoder y) (encoders ys) new w (g ys _ is.1 (f y w is.0 r)))

  -- If the first value is appended and then the others, all values are appended in order.
  pub appends_more : ((y : Y) (ys : List Y) → encoders (y ∷ ys) ≡ both (encoder y) (encoders ys)) → (xs : List X) (first : X) (others : List X) (ys : List Y) (old mid new : PlainTarget) (w : Written)
      → xs ≡ first ∷ others → AllZip R xs ys → Represents old w
      → ((y : Y) (w : Written) → R first y → Represents old w → Represents mid (append (encoder y) w))
      → ((ys : List Y) (w : Written) → AllZip R others ys → Represents mid w → Represents new (append (encoders ys) w)) → Represents new (append (encoders ys) w)
  appends_more e xs first others ys old mid new w same is r f g = more_of e first others ys old mid new w (subst (λ xs. AllZip R xs ys) same is) r f g

-- No parts encode as no octets.
pub no_parts : (rule : Rule) → encode_parts rule [] ≡ encode_octets []
unfolding encode_parts
no_parts rule = refl

-- Parts encode one after the other.
pub more_parts : (rule : Rule) (x : Part) (xs : List Part) → encode_parts rule (x ∷ xs) ≡ both (encode_part rule x) (encode_parts rule xs)
unfolding encode_parts
more_parts rule x xs = refl

-- An encoding after two octets is moved after its length.
pub appends_length : (encoder : Encoder) (old zeros mid new : PlainTarget) (w : Written) (start : ℕ) (rdata : List ℕ) → Represents old w → start ≡ length old.octets.items
    → zeros.octets.items ≡ old.octets.items ++ to_be_bytes w16 0 → zeros.table ≡ old.table → ((w : Written) → Represents zeros w → Represents mid (append encoder w))
    → rdata ≡ drop (start + 2) mid.octets.items → new.octets.items ≡ take start mid.octets.items ++ to_be_bytes w16 (length rdata) ++ rdata → new.table ≡ mid.table
    → Represents new (append (with_length encoder) w)
appends_length encoder old zeros mid new w start rdata r at zero same f is octets table =
    let two = to_be_bytes w16 0 in
    let encoded = encoder w.table (length w.octets + 2) in
    let start_is : start ≡ length w.octets = at ∙ ap (λ (xs : List ℕ). length xs) r.octets in
    let size : length (w.octets ++ two) ≡ length w.octets + 2 = length-append w.octets two in
    let middle = f (append (encode_octets two) w) (appends_octets old zeros w two r zero same) in
    let whole : mid.octets.items ≡ (w.octets ++ two) ++ encoded.octets = middle.octets ∙ ap (λ k. (w.octets ++ two) ++ (encoder w.table k).octets) size in
    let front : take start mid.octets.items ≡ w.octets = (λ i. take (start_is i) (whole i)) ∙ ap (take (length w.octets))
    (append_assoc w.octets two encoded.octets) ∙ take-append_seam w.octets (two ++ encoded.octets) in
    let back : rdata ≡ encoded.octets = is ∙ (λ i. drop (start_is i + 2) (whole i)) ∙ ap (λ k. drop k ((w.octets ++ two) ++ encoded.octets)) (sym size)
    ∙ drop-append_seam (w.octets ++ two) encoded.octets in
    record {
      octets = octets ∙ (λ i. front i ++ to_be_bytes w16 (length (back i)) ++ back i) ∙ append_assoc w.octets (to_be_bytes w16 (length encoded.octets)) encoded.octets;
      table = subst (λ t. ListsTable t.items encoded.table) (sym table) (subst (λ k. ListsTable mid.table.items (encoder w.table k).table) size middle.table);
      count = ap (λ t. length t.items) table ∙ middle.count ∙ ap (λ k. len (encoder w.table k).table) size;
      in_range = subst (λ k. IsInRange (encoder w.table k).table) size middle.in_range;
    }

-- A question is its name and two numbers.
pub appends_question : (rule : Rule) (item : PlainItem) (x : questions.QuestionItem) (mid new : PlainTarget) (w : Written) → IsQuestionItem item x
    → Represents mid (append (encode_name rule x.name) w)
    → new.octets.items ≡ mid.octets.items ++ to_be_bytes w16 item.rtype ++ to_be_bytes w16 item.class → new.table ≡ mid.table → Represents new (append (encode_question rule x) w)
unfolding encode_question
appends_question rule item x mid new w is r octets table =
    let fields = questions.question_fields x in
    let same = append_assoc mid.octets.items (to_be_bytes w16 item.rtype) (to_be_bytes w16 item.class) ∙ (λ i. mid.octets.items ++ (to_be_bytes w16 (is.rtype i) ++ to_be_bytes w16 (is.class i))) in
    appends_both (encode_name rule x.name) (encode_octets fields) new w (appends_octets mid new _ fields r (octets ∙ same) table)

-- A record is its owner, three numbers, and its RDATA after its length.
pub appends_record : (rule : Rule) (item : PlainItem) (ttl : ℕ) (x : items.RecordItem) (mid fields new : PlainTarget) (w : Written) → IsRecordItem item x → item.ttl ≡ Some ttl
    → Represents mid (append (encode_name rule x.owner) w)
    → fields.octets.items ≡ mid.octets.items ++ to_be_bytes w16 item.rtype ++ to_be_bytes w16 item.class ++ to_be_bytes w32 ttl → fields.table ≡ mid.table
    → ((w : Written) → Represents fields w → Represents new (append (with_length (encode_parts rule x.parts)) w)) → Represents new (append (encode_record rule x) w)
unfolding encode_record
appends_record rule item seconds x mid fields new w is given r octets table f =
    let numbers = record_fields x in
    let rtype = to_be_bytes w16 item.rtype in
    let class = to_be_bytes w16 item.class in
    let ttl = to_be_bytes w32 seconds in
    let one_ttl : seconds ≡ x.ttl = cc (given, is.ttl) in
    let same : mid.octets.items ++ rtype ++ class ++ ttl ≡ mid.octets.items ++ (rtype ++ class ++ ttl) =
    ap (λ ys. ys ++ ttl) (append_assoc mid.octets.items rtype class) ∙ append_assoc mid.octets.items (rtype ++ class) ttl in
    let named = encode_name rule x.owner in
    let after = both (encode_octets numbers) (with_length (encode_parts rule x.parts)) in
    let here = appends_octets mid fields _ numbers r (octets ∙ same ∙ (λ i. mid.octets.items ++ (to_be_bytes w16 (is.rtype i) ++ to_be_bytes w16 (is.class i) ++ to_be_bytes w32 (one_ttl i)))) table in
    appends_both named after new w (appends_both (encode_octets numbers) (with_length (encode_parts rule x.parts)) new _ (f _ here))
