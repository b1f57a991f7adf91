use Rattle.std.proofs.Common.{◌≡◌, ◌∙◌, ℕ, ◌%◌, min, List, [], ◌++◌, length, sym, ap, arith, rules, append-nil, length-append, inl, inr}
use Rattle.std.proofs.lemmas.Bool.{cases_lt}
use Rattle.std.proofs.lemmas.List.{nil_from_length}
use Rattle.std.specs.Slice.Iter.{chunks_rest}
use Rattle.base64.specs.declared.engine.general_purpose.GeneralPurpose.{GeneralPurpose}
use Rattle.base64.specs.Engines.{standard}
use Rattle.base64.specs.GeneralPurpose.{encode_of}
use Rattle.base64.proofs.EngineFacts.{encode_of-nil, encode_of-append}
use Rattle.fields_text.proofs.theory.Printing.{all_printed, none_printed, word_printed}
use Rattle.fields_text.proofs.base64_text.write_base64.Goals as goal

-- a piece is 768 octets, or the last
piece_first : (e : GeneralPurpose) (all piece rest : List ℕ) → all ≡ piece ++ rest → length piece ≡ min 768 (length all)
    → encode_of e piece ++ encode_of e rest ≡ encode_of e all
piece_first e all piece rest parts size =
    let sum = ap length parts ∙ length-append piece rest in
    elim (cases_lt (length all) 768) [
      | inl short ↦
          let none : rest ≡ [] = nil_from_length rest (omega arith) in
          rw (parts, none, encode_of-nil, append-nil, append-nil)
      | inr long ↦ let whole : length piece % 3 ≡ 0 = omega arith in sym (encode_of-append e piece rest whole) ∙ ap (encode_of e) (sym parts)
    ]

pub loop-piece-init : goal.loop-piece-init
loop-piece-init g c = record { can = search rules; finite = tt; size = search rules; printing = none_printed _ _ _ _ (search rules) }

pub write_piece-requires : goal.write_piece-requires
write_piece-requires g c = let size = rw c.loop-piece.invariant.size at c.in-Some.ensures.steps.1.1 in omega (arith, size)

pub loop-piece-preserved : goal.loop-piece-preserved
loop-piece-preserved g c =
    let steps = c.in-Some.ensures.steps in
    let size = c.loop-piece.invariant.size in
    let word = c.write_piece.ensures.text (search rules) in
    record {
      can = search rules;
      finite = tt;
      size = steps.0 ∙ size;
      printing = word_printed _ _ _ _ _ _ _ _ c.loop-piece.invariant.printing word (sym (piece_first standard _ c.in-Some.piece.now (chunks_rest c.next.new.self) steps.1.0 (rw size at steps.1.1)));
    }

pub returns-clause-text : goal.returns-clause-text
returns-clause-text g c = λ _.
    let none = nil_from_length _ c.in-None.ensures.steps.1.0 in
    all_printed _ _ _ _ _ c.loop-piece.invariant.printing (ap (encode_of standard) none ∙ encode_of-nil standard)
