-- Where records are printed.
use Rattle.std.proofs.Common.{◌≡◌, ◌∙◌, ◌⊎◌, inl, inr, ℕ, ◌+◌, ◌==◌, ◌||◌, Bool, true, false, List, [], ◌∷◌, ◌++◌, length, map, ap, refl, arith, eqb-true, sym}
use Rattle.std.proofs.lemmas.Bool.{and_parts}
use Rattle.std.specs.List.{concat, flat_map, list_any}
use Rattle.std.specs.Prelude.{Result, Ok, Err, if◌then◌else◌}
use Rattle.dns_name.specs.Names.{Fault}
use Rattle.dns_item.specs.ParsedRecord.{EncodedRecord}
use Rattle.dns_read.specs.declared.section.Section.TheVariants.{Answer, Authority, Additional}
use Rattle.dns_lines.specs.ZoneLines.{malformed_line}
use Rattle.dns_dig.specs.Laws.{AdditionalsArePrintedOnce, EachSignatureIsPrinted, FirstOptIsPrinted, HasNoOpt, IsOptPrinted, item_line, one_if, records_with}
use Rattle.dns_dig.specs.Opt.{is_opt, opt_text}
use Rattle.dns_dig.specs.Records.{record_line}
use Rattle.dns_dig.specs.Sections.{first_opt_text, is_opt_item, is_signature, item_lines, signature_item_text, signed_record_text, without_opt}
use Rattle.dns_dig.specs.declared.signature.Signature.TheVariants.{Tsig, Sig0}

-- The lines of the answer section.
pub answer_lines : (xs : List (Result EncodedRecord Fault)) → flat_map (item_lines Answer) xs ≡ map (item_line Answer) xs
answer_lines [] = refl
answer_lines (Ok x ∷ xs) = ap (λ (l : List (List ℕ)). record_line x ∷ l) (answer_lines xs)
answer_lines (Err f ∷ xs) = ap (λ (l : List (List ℕ)). malformed_line Answer ∷ l) (answer_lines xs)

-- The lines of the authority section.
pub authority_lines : (xs : List (Result EncodedRecord Fault)) → flat_map (item_lines Authority) xs ≡ map (item_line Authority) xs
authority_lines [] = refl
authority_lines (Ok x ∷ xs) = ap (λ (l : List (List ℕ)). record_line x ∷ l) (authority_lines xs)
authority_lines (Err f ∷ xs) = ap (λ (l : List (List ℕ)). malformed_line Authority ∷ l) (authority_lines xs)

one_text : (text : EncodedRecord → List ℕ) (test : Bool) (x : EncodedRecord) (rest : List ℕ) (xs : List EncodedRecord) → rest ≡ concat (map text xs)
    → (if test then text x else []) ++ rest ≡ concat (map text (if test then x ∷ xs else xs))
one_text text true x rest xs e = ap (λ (t : List ℕ). text x ++ t) e
one_text text false x rest xs e = e

-- the lines of items of the additional section
abbrev lines : List (Result EncodedRecord Fault) → List (List ℕ)
lines xs = flat_map (item_lines Additional) xs

module _ (xs : List (Result EncodedRecord Fault)) where
  -- an error comes first
  after_error : (f : Fault) → IsOptPrinted xs ⊎ HasNoOpt xs → IsOptPrinted (Err f ∷ xs) ⊎ HasNoOpt (Err f ∷ xs)
  after_error f (inl p) =
      inl
      (record {
        before = Err f ∷ p.before;
        opt = p.opt;
        after = p.after;
        whole = ap (λ (ys : List (Result EncodedRecord Fault)). Err f ∷ ys) p.whole;
        first = p.first;
        is = p.is;
        text = p.text;
        lines = ap (λ (ls : List (List ℕ)). malformed_line Additional ∷ ls) p.lines;
      })
  after_error f (inr p) = inr (record { none = p.none; text = p.text; lines = ap (λ (ls : List (List ℕ)). malformed_line Additional ∷ ls) p.lines })

  -- a record comes first
  after_record : (r : EncodedRecord) (opt : Bool) → is_opt r ≡ opt → IsOptPrinted xs ⊎ HasNoOpt xs → IsOptPrinted (Ok r ∷ xs) ⊎ HasNoOpt (Ok r ∷ xs)
  after_record r true e p =
      inl
      (record {
        before = [];
        opt = r;
        after = xs;
        whole = refl;
        first = refl;
        is = e;
        text = ap (λ (b : Bool). if b then if b then opt_text r else [] else first_opt_text xs) e;
        lines = ap (λ (b : Bool). lines (if b then xs else Ok r ∷ without_opt xs)) e;
      })
  after_record r false e (inl p) =
      inl
      (record {
        before = Ok r ∷ p.before;
        opt = p.opt;
        after = p.after;
        whole = ap (λ (ys : List (Result EncodedRecord Fault)). Ok r ∷ ys) p.whole;
        first = ap (λ (b : Bool). b || list_any is_opt_item p.before) e ∙ p.first;
        is = p.is;
        text = ap (λ (b : Bool). if b then if b then opt_text r else [] else first_opt_text xs) e ∙ p.text;
        lines = ap (λ (b : Bool). lines (if b then xs else Ok r ∷ without_opt xs)) e ∙ ap (λ (ls : List (List ℕ)). item_lines Additional (Ok r) ++ ls) p.lines;
      })
  after_record r false e (inr p) =
      inr
      (record {
        none = ap (λ (b : Bool). b || list_any is_opt_item xs) e ∙ p.none;
        text = ap (λ (b : Bool). if b then if b then opt_text r else [] else first_opt_text xs) e ∙ p.text;
        lines = ap (λ (b : Bool). lines (if b then xs else Ok r ∷ without_opt xs)) e ∙ ap (λ (ls : List (List ℕ)). item_lines Additional (Ok r) ++ ls) p.lines;
      })

-- The first OPT record of the additional section.
pub opt_printed : FirstOptIsPrinted
opt_printed [] = inr (record { none = refl; text = refl; lines = refl })
opt_printed (Err f ∷ xs) = after_error xs f (opt_printed xs)
opt_printed (Ok r ∷ xs) = after_record xs r (is_opt r) refl (opt_printed xs)

-- The records that sign the message.
pub signatures_printed : EachSignatureIsPrinted
signatures_printed signature [] = refl
signatures_printed signature (Ok x ∷ xs) =
    one_text (signed_record_text signature) (is_signature signature x) x (flat_map (signature_item_text signature) xs) (records_with (is_signature signature) xs) (signatures_printed signature xs)
signatures_printed signature (Err f ∷ xs) = signatures_printed signature xs

one_time : (line : List ℕ) (tsig sig0 : Bool) → (tsig ≡ true → sig0 ≡ true → ⊥) → length (if tsig || sig0 then [] else line ∷ []) + (one_if tsig + one_if sig0) ≡ 1
one_time line true true c = absurd (c refl refl)
one_time line true false c = refl
one_time line false true c = refl
one_time line false false c = refl

two_types : (n a b : ℕ) → (n == a) ≡ true → (n == b) ≡ true → a ≡ b
two_types n a b is also = sym (eqb-true n a is) ∙ eqb-true n b also

-- Each other record of the additional section is printed once.
pub printed_once : AdditionalsArePrintedOnce
printed_once x =
    one_time (record_line x) (is_signature Tsig x) (is_signature Sig0 x)
    (λ t s. let e = two_types x.entry.rtype 250 24 t (and_parts _ _ s).0 in absurd (omega (arith, e)))
