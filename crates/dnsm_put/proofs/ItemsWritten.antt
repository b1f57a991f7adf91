-- Questions and records that were written, and what an item that passes the check means.
use Rattle.std.proofs.Common.{◌≡◌, ◌≢◌, ℕ, zero, suc, ◌+◌, ◌-◌, ◌<◌, ◌≤◌, ◌^◌, List, [], ◌∷◌, ◌++◌, length, length-append, length-drop, take, drop, arith, ap, sym, ◌∙◌, subst, refl}
use Rattle.std.specs.Int.{to_be_bytes, w16, w32}
use Rattle.std.proofs.lemmas.List.{length-take-le}
use Rattle.dns_octets.specs.Octets.{overwritten}
use Rattle.dns_name.specs.Names.{NameAt, NameEndsAt, uncompressed}
use Rattle.dns_name.specs.Uncompressed.{IsUncompressed}
use Rattle.dns_name.specs.Parsers.{number_at}
use Rattle.dns_wire.specs.Parts.{Part, Octets, CompressibleName, AreParts, PartsAt, PartsPointed, parts_size}
use Rattle.dns_wire.specs.Targets.{At}
use Rattle.dns_wire.specs.TargetLaws.{Agree}
use Rattle.dns_wire.proofs.theory.CompressedNames.{at_first, at_offset, at_second}
use Rattle.dns_wire.proofs.theory.EncoderLaws.{number_16, number_32}
use Rattle.dns_item.specs.Questions.{QuestionItem, IsQuestion, ReadsQuestion, question_fields}
use Rattle.dns_item.specs.Items.{RecordItem, IsRecord, ReadsRecordItem, record_fields}
use Rattle.dnsm_put.specs.declared.draft.PutItem.{PutItem}
use Rattle.dnsm_put.specs.declared.rdata.Layout.{Layout}
use Rattle.dnsm_put.specs.declared.rdata.Layout.TheVariants.{Name, TwoNames, Plain}
use Rattle.dnsm_put.specs.Rdata.{AreDataOf, HasFields, layout_of, octets_alone}
use Rattle.dnsm_put.specs.Writing.{IsPut, AreWritten, IsNamed}
use Rattle.dnsm_put.specs.Items.{IsQuestionOf, IsRecordOf, IsRecordWith, Means, HoldsQuestion, HoldsRecord, head_octets}
use Rattle.dnsm_put.proofs.Buffers.{at_over, length_over, take_over, at_agreed, agree_of_take, agree_both, agree_from, agree_to, agree_after, kept_later}

-- a question at its offset
question_there : (c : List ℕ) (p r : ℕ) (x : QuestionItem) → IsQuestion x → NameAt c p x.name → NameEndsAt c p r → At c r (question_fields x) → ReadsQuestion c p (r + 4) x
question_there c p r x is name ends there =
    let w = there.within in
    record {
      skips = record { name_end = r; name_ends = ends; end = refl; within = omega arith };
      name = name;
      rtype = sym (number_16 c r x.rtype is.rtype (at_first {xs = to_be_bytes w16 x.rtype} (to_be_bytes w16 x.class) there));
      class = sym (number_16 c (r + 2) x.class is.class (at_second (to_be_bytes w16 x.rtype) {ys = to_be_bytes w16 x.class} there));
    }

-- a record at its offset
record_there : (c : List ℕ) (p r n : ℕ) (x : RecordItem) → IsRecord x → NameAt c p x.owner → NameEndsAt c p r → At c r (record_fields x)
    → At c (r + 8) (to_be_bytes w16 n) → n ≤ 65535 → r + 10 + n ≤ length c
    → PartsAt c (r + 10 + n) (r + 10) x.parts → ReadsRecordItem c p (r + 10 + n) x
record_there c p r n x is name ends here size few within parts =
    let rest = at_second (to_be_bytes w16 x.rtype) {ys = to_be_bytes w16 x.class ++ to_be_bytes w32 x.ttl} here in
    let len : number_at w16 c (r + 8) ≡ n = number_16 c (r + 8) n (omega arith) size in
    record {
      entry = record { owner = x.owner; rtype = x.rtype; class = x.class; ttl = x.ttl; rdata_start = r + 10; rdata_end = r + 10 + n };
      reads = record {
        skips = record { name_end = r; name_ends = ends; end = omega arith; within = within };
        owner = name;
        rtype = sym (number_16 c r x.rtype is.rtype (at_first {xs = to_be_bytes w16 x.rtype} (to_be_bytes w16 x.class ++ to_be_bytes w32 x.ttl) here));
        class = sym (number_16 c (r + 2) x.class is.class (at_first {xs = to_be_bytes w16 x.class} (to_be_bytes w32 x.ttl) rest));
        ttl = sym (number_32 c (r + 4) x.ttl is.ttl (at_offset (omega arith) (at_second (to_be_bytes w16 x.class) {ys = to_be_bytes w32 x.ttl} rest)));
        rdata_start = refl;
        rdata_end = refl;
      };
      reports = record { owner = refl; rtype = refl; class = refl; ttl = refl; parts = parts };
    }

-- a question that was written
pub holds_question : (out1 out2 : List ℕ) (p r q most : ℕ) (fields : List ℕ) (item : PutItem) (x : QuestionItem) → IsQuestionOf item x → 12 ≤ p → IsNamed out1 p p r x.name → most ≤ length out1
    → fields ≡ to_be_bytes w16 item.rtype ++ to_be_bytes w16 item.class → IsPut out1 out2 r most fields q → HoldsQuestion out2 p q x
holds_question out1 out2 p r q most fields item x of low named room fe put c a =
    let e2 = put.written in
    let eq = put.ends in
    let within = put.within in
    let f : fields ≡ question_fields x = fe ∙ (λ i. to_be_bytes w16 (sym of.rtype i) ++ to_be_bytes w16 (sym of.class i)) in
    let four : length fields ≡ 4 = ap length f in
    let l2 : length out2 ≡ length out1 = ap length e2 ∙ length_over out1 fields r (omega arith) in
    let front : take r out2 ≡ take r out1 = ap (take r) e2 ∙ take_over out1 fields r r (omega arith) (omega arith) in
    let b1 : Agree out1 c 12 r = agree_both (omega arith) (agree_of_take out1 out2 12 r (omega arith) front) a in
    let b2 : Agree out1 c p r = agree_from low b1 in
    let b0 : Agree out1 c 12 p = agree_to (let e = named.after in omega arith) b1 in
    let long = a.long in
    let P : List ℕ → Type 0 = λ b. At b r fields in
    let there : At c r fields = at_agreed a (let e = named.after in omega arith) (omega arith) (subst P (sym e2) (at_over out1 fields r (omega arith))) in
    let Q : List ℕ → Type 0 = λ xs. At c r xs in
    let j : r + 4 ≡ q = omega arith in
    record {
      reads = subst (λ k. ReadsQuestion c p k x) j (question_there c p r x of.is_question (named.name c b0 b2) (named.ends c b0 b2) (subst Q f there));
      pointed = (r, named.pointed c b0 b2, j);
    }

-- The record that an item means has the parts that it has.
pub with_parts : (item : PutItem) (x : RecordItem) → IsRecordOf item x → IsRecordWith item x.parts x
with_parts item x of = record { is_record = of.is_record; owner = of.owner; rtype = of.rtype; class = of.class; ttl = of.ttl; parts = refl }

-- a record that was written: its owner and the ten octets after it, its RDATA, and then RDLENGTH
pub holds_record : (out1 out2 out3 : List ℕ) (p r q : ℕ) (item : PutItem) (x : RecordItem) (ps : List Part) → IsRecordWith item ps x → 12 ≤ p
    → IsNamed out1 p p r x.owner → At out1 r (head_octets item) → take (r + 10) out2 ≡ take (r + 10) out1 → length out2 ≡ length out1
    → AreWritten out2 r (r + 10) q ps → q - (r + 10) ≤ 65535 → out3 ≡ overwritten out2 (r + 8) (to_be_bytes w16 (q - (r + 10))) → HoldsRecord out3 p q x
holds_record out1 out2 out3 p r q item x ps of low named head kept long wrote few e c a =
    let W : List Part → Type 0 = λ qs. AreWritten out2 r (r + 10) q qs in
    let written : AreWritten out2 r (r + 10) q x.parts = subst W (sym of.parts) wrote in
    let f : head_octets item ≡ record_fields x ++ (0 ∷ 0 ∷ []) =
    (λ i. to_be_bytes w16 (sym of.rtype i) ++ to_be_bytes w16 (sym of.class i) ++ to_be_bytes w32 (sym of.ttl i) ++ (0 ∷ 0 ∷ [])) in
    let m = q - (r + 10) in
    let sized = to_be_bytes w16 m in
    let ten : length (head_octets item) ≡ 10 = refl in
    let two : length sized ≡ 2 = refl in
    let after = written.after in
    let within = written.within in
    let past = named.after in
    let there = head.within in
    let l3 : length out3 ≡ length out2 = ap length e ∙ length_over out2 sized (r + 8) (omega arith) in
    let k2 : take (r + 8) out2 ≡ take (r + 8) out1 = kept_later out1 out2 (r + 8) (r + 10) (omega arith) kept in
    let k3 : take (r + 8) out3 ≡ take (r + 8) out2 = ap (take (r + 8)) e ∙ take_over out2 sized (r + 8) (r + 8) (omega arith) (omega arith) in
    let a2 : Agree out2 out3 12 (r + 8) = agree_of_take out2 out3 12 (r + 8) (omega arith) k3 in
    let a1 : Agree out1 out3 12 (r + 8) = agree_of_take out1 out3 12 (r + 8) (omega arith) (k3 ∙ k2) in
    let b1 : Agree out1 c 12 r = agree_both (omega arith) (agree_to (omega arith) a1) a in
    let b2 : Agree out1 c p r = agree_from low b1 in
    let b0 : Agree out1 c 12 p = agree_to (omega arith) b1 in
    let far = a.long in
    let S : List ℕ → Type 0 = λ xs. At out1 r xs in
    let g1 : At out1 r (record_fields x) = at_first {xs = record_fields x} (0 ∷ 0 ∷ []) (subst S f head) in
    let gc : At c r (record_fields x) = at_agreed a (omega arith) (omega arith) (at_agreed a1 (omega arith) (omega arith) g1) in
    let Z : List ℕ → Type 0 = λ b. At b (r + 8) sized in
    let zc : At c (r + 8) sized = at_agreed a (omega arith) (omega arith) (subst Z (sym e) (at_over out2 sized (r + 8) (omega arith))) in
    let c2 : Agree out2 c 12 r = agree_both (omega arith) (agree_to (omega arith) a2) a in
    let d2 : Agree out2 c (r + 10) q = agree_both (omega arith) (agree_after out2 out3 sized (r + 8) (r + 10) q e (omega arith) (omega arith) (omega arith)) (agree_from (omega arith) a) in
    let i : q ≡ r + 10 + m = omega arith in
    let parts : PartsAt c (r + 10 + m) (r + 10) x.parts = subst (λ k. PartsAt c k (r + 10) x.parts) i (written.parts_at c c2 d2) in
    let made = record_there c p r m x of.is_record (named.name c b0 b2) (named.ends c b0 b2) gc zc few (omega arith) parts in
    let j : r + 10 ≡ r + 8 + 2 = omega arith in
    let pointed : PartsPointed c q (r + 8 + 2) x.parts = subst (λ k. PartsPointed c q k x.parts) j (written.pointed c c2 d2) in
    record {
      reads = subst (λ z. ReadsRecordItem c p z x) (sym i) made;
      pointed = (r, named.pointed c b0 b2, pointed);
    }

-- the parts of RDATA with these fields
record Data (layout : Layout) (rdata : List ℕ) : Type 0 where
  parts : List Part
  are : AreDataOf layout rdata parts
  names : AreParts parts
  size : parts_size parts ≤ length rdata

named_data : (before : ℕ) (rdata : List ℕ) → HasFields (Name before) rdata → Data (Name before) rdata
named_data zero rdata h =
    let e = ap length h.1.2 in
    let f : length (drop 0 rdata) ≡ length rdata = length-drop 0 rdata ∙ (let g : length rdata - 0 ≡ length rdata = omega arith in g) in
    record { parts = CompressibleName h.1.0 ∷ []; are = (h.1.0, refl, sym h.1.2); names = (h.1.1, tt); size = omega arith }
named_data (suc k) rdata h =
    let l = length-take-le (suc k) rdata h.0 in
    let d = length-drop (suc k) rdata in
    let e = ap length h.1.2 in
    let low = h.0 in
    record { parts = Octets (take (suc k) rdata) ∷ CompressibleName h.1.0 ∷ []; are = (h.1.0, refl, sym h.1.2); names = (h.1.1, tt); size = omega arith }

alone : (rdata : List ℕ) → AreParts (octets_alone rdata) × (parts_size (octets_alone rdata) ≤ length rdata)
alone [] = (tt, omega arith)
alone (x ∷ xs) = (tt, omega arith)

data_of : (layout : Layout) (rdata : List ℕ) → HasFields layout rdata → Data layout rdata
data_of (Name before) rdata h = named_data before rdata h
data_of (TwoNames after) rdata h =
    let o = alone h.rest in
    let e = ap length h.octets in
    let a = length-append (uncompressed h.first) (uncompressed h.second ++ h.rest) in
    let b = length-append (uncompressed h.second) h.rest in
    let z = o.1 in
    record { parts = CompressibleName h.first ∷ CompressibleName h.second ∷ octets_alone h.rest; are = (h, refl); names = (h.is_first, (h.is_second, o.0)); size = omega arith }
data_of Plain rdata h = let o = alone rdata in record { parts = octets_alone rdata; are = refl; names = o.0; size = o.1 }

-- An item that was checked means a question or a record.
pub means : (item : PutItem) → IsUncompressed item.name.now → (item.section ≢ 0 → length item.rdata.now ≤ 65535) → (item.section ≢ 0 → HasFields (layout_of item) item.rdata.now)
    → item.rtype < 2 ^ 16 → item.class < 2 ^ 16 → item.ttl < 2 ^ 32 → Means item
means item name short fields rtype class ttl = record {
  question = λ z. (
    record { name = name.0; rtype = item.rtype; class = item.class },
    record { is_question = record { name = name.1; rtype = rtype; class = class }; name = sym name.2; rtype = refl; class = refl },
  );
  record_of = λ z.
      let d = data_of (layout_of item) item.rdata.now (fields z) in
      let e = d.size in
      let f = short z in (
        record { owner = name.0; rtype = item.rtype; class = item.class; ttl = item.ttl; parts = d.parts },
        record {
          is_record = record { owner = name.1; rtype = rtype; class = class; ttl = ttl; parts = d.names; short = omega arith };
          owner =
              sym name.2;
          rtype = refl;
          class = refl;
          ttl = refl;
          parts = d.are;
        },
      );
}
