-- What is printed for an input, up to a flush, and odd numbers of digits.
use Rattle.std.proofs.Common.{◌≡◌, ◌∙◌, ℕ, ◌<◌, ◌%◌, ◌-◌, ◌||◌, ◌&&◌, inl, inr, Bool, true, false, Option, Some, None, IfSome, Result, Ok, Err, OnOk, IfOk}
use Rattle.std.proofs.Common.{List, [], ◌∷◌, ◌++◌, length, ap, refl, sym, subst, arith, eqb-true, nat_eq}
use Rattle.std.specs.Prelude.{is_some, if◌then◌else◌, not, cond}
use Rattle.std.specs.Char.{is_ascii_hexdigit, is_ascii_whitespace}
use Rattle.std.specs.Io.KnownBytes.{Appends, Keeps}
use Rattle.std.specs.Int.{is_in_range}
use Rattle.std.specs.List.{list_all}
use Rattle.std.proofs.lemmas.Bool.{cases_eq, or_cases}
use Rattle.std.proofs.lemmas.List.Sums.{AllPass-from_list_all}
use Rattle.hex.specs.Hex.{decode_of, is_hex_digit}
use Rattle.hex.specs.declared.error.FromHexError.{FromHexError}
use Rattle.hex.proofs.HexLemmas.{decode_of-digits}
use Rattle.dns_lines.specs.Digits.{unspaced}
use Rattle.dnsview_rows.specs.declared.row.Row.{Row}
use Rattle.dns_lines.proofs.theory.PrintedLines.{on_ok}
use Rattle.dnsview_tool.specs.Pages.{IsPage}
use Rattle.dnsview_tool.specs.Printed.{Prints, PrintsEach}
use Rattle.dnsview_tool.specs.Texts.{IsRowText}
use Rattle.dnsview_tool.specs.Requests.{asked, Words}
use Rattle.dnsview_tool.specs.Viewing.{is_digits, AreRowsOf, CanEnd, Gives, HasAsked, IsOdd, IsPrinted, IsViewed, PrintsForm, Reports}
use Rattle.dnsview_tool.specs.Viewing.IsPrinted.{shown, bad_hex, empty}
use Rattle.dnsview_tool.specs.Viewing.IsViewed.{help, version, wrong, view}
use Rattle.dnsview_tool.specs.declared.request.Form.{Form}
use Rattle.dnsview_tool.specs.declared.request.Form.TheVariants.{Text, Page, Lines, Json, Dig}
use Rattle.dnsview_tool.specs.declared.request.Request.{Request}
use Rattle.dnsview_tool.specs.declared.request.Request.TheVariants.{Help, Version, View}

-- what was appended stays if nothing changes
pub appends_kept : (a b c : Option (List ℕ)) (xs : List ℕ) → Appends a b xs → Keeps b c → Appends a c xs
appends_kept None b c xs h k = tt
appends_kept (Some front) None c xs h k = absurd h
appends_kept (Some front) (Some bs) None xs h k = absurd k
appends_kept (Some front) (Some bs) (Some cs) xs h k = k ∙ h

-- A form that was printed stays printed if the output is kept.
pub form_kept : (form : Form) (octets : List ℕ) (a b c : Option (List ℕ)) → PrintsForm form octets a b → Keeps b c → PrintsForm form octets a c
form_kept Text octets a b c p k = (p.0, p.1, (p.2.0, p.2.1, appends_kept a b c _ p.2.2 k))
form_kept Page octets a b c p k = (p.0, p.1, (p.2.0, p.2.1, appends_kept a b c _ p.2.2 k))
form_kept Lines octets a b c p k = appends_kept a b c _ p k
form_kept Json octets a b c p k = appends_kept a b c _ p k
form_kept Dig octets a b c p k = appends_kept a b c _ p k

-- what isn't written to keeps its octets
pub keeps_same : (a : Option (List ℕ)) → Keeps a a
keeps_same None = tt
keeps_same (Some xs) = refl

-- a form is printed, and then flushed
pub form_flushed : {X E : Type 0} (r : Result X E) (form : Form) (octets : List ℕ) (a b c : Option (List ℕ)) → PrintsForm form octets a b → Keeps b c
    → OnOk r (PrintsForm form octets a c)
form_flushed (Ok x) form octets a b c p k = form_kept form octets a b c p k
form_flushed (Err e) form octets a b c p k = tt

module _ {X E : Type 0} (r : Result X E) (octets : List ℕ) {rows given : List Row} (a b : Option (List ℕ)) (are : AreRowsOf octets rows) (same : given ≡ rows) where
  -- rows are printed as text
  pub text_printed : OnOk r (PrintsEach (IsRowText octets) given a b) → OnOk r (PrintsForm Text octets a b)
  text_printed h = on_ok r (λ p. (rows, are, subst (λ (xs : List Row). PrintsEach (IsRowText octets) xs a b) same p)) h

  -- rows are printed as a page
  pub page_printed_of : OnOk r (Prints (IsPage octets given) a b) → OnOk r (PrintsForm Page octets a b)
  page_printed_of h = on_ok r (λ p. (rows, are, subst (λ (xs : List Row). Prints (IsPage octets xs) a b) same p)) h

-- a message of no octets
pub given_empty : (input octets : List ℕ) (n : ℕ) → n ≡ length octets → Gives input octets → nat_eq n 0 ≡ true → Gives input []
given_empty input [] n is gives e = gives
given_empty input (x ∷ octets) n is gives e = absurd (let zero : n ≡ 0 = eqb-true n 0 e in omega arith)

-- a message of some octets
pub given_some : (octets : List ℕ) (n : ℕ) → n ≡ length octets → nat_eq n 0 ≡ false → 0 < length octets
given_some [] n is e = let clash : nat_eq 0 0 ≡ false = subst (λ (m : ℕ). nat_eq m 0 ≡ false) is e in absurd (cc clash)
given_some (x ∷ octets) n is e = omega arith

-- the exit status of a view
pub status_of : {form : Form} {input : List ℕ} {a b c d : Option (List ℕ)} {status : ℕ} → IsPrinted form input a b c d status → CanEnd (View form) status
status_of (shown octets gives some p k) = inl (omega arith)
status_of (bad_hex odd k p) = inl (omega arith)
status_of (empty gives k p) = inr refl

module _ (remaining : Option (List ℕ)) (a b c d : Option (List ℕ)) where
  -- what is printed for the octets that a reader yielded
  pub printed_read : (form : Form) (status : ℕ) (before input : List ℕ) → before ≡ [] → IfSome remaining (λ xs. input ≡ before ++ xs)
      → IsPrinted form input a b c d status → IfSome remaining (λ xs. IsPrinted form xs a b c d status)
  printed_read form status before input none read p =
      elim remaining as (λ (o : Option (List ℕ)). IfSome o (λ xs. input ≡ before ++ xs) → IfSome o (λ xs. IsPrinted form xs a b c d status)) [
        | None ↦ λ h. tt
        | Some xs ↦ λ h. let same : input ≡ xs = h ∙ ap (λ (l : List ℕ). l ++ xs) none in subst (λ (l : List ℕ). IsPrinted form l a b c d status) same p
      ] read

  module _ (words : Words) where
    viewed_read : (form : Form) (status : ℕ) → asked words ≡ View form → IfSome remaining (λ xs. IsPrinted form xs a b c d status) → IfSome remaining (λ xs. IsViewed words xs a b c d status)
    viewed_read form status is p =
        elim remaining as (λ (o : Option (List ℕ)). IfSome o (λ xs. IsPrinted form xs a b c d status) → IfSome o (λ xs. IsViewed words xs a b c d status))
        [ None ↦ λ h. tt | Some xs ↦ λ h. view form status is h ] p

    -- a view was asked for
    pub viewed_view : {E : Type 0} (r : Result ℕ E) (form : Form) → asked words ≡ View form
        → IfOk r (λ status. IfSome remaining (λ xs. IsPrinted form xs a b c d status)) → IfOk r (λ status. IfSome remaining (λ xs. IsViewed words xs a b c d status))
    viewed_view (Ok status) form is p = viewed_read form status is p
    viewed_view (Err e) form is p = tt

    -- something else was asked for, whatever the reader holds
    pub viewed_other : {E : Type 0} (r : Result ℕ E) (n : ℕ) → IfOk r (λ status. status ≡ n) → OnOk r ((xs : List ℕ) → IsViewed words xs a b c d n)
        → IfOk r (λ status. IfSome remaining (λ xs. IsViewed words xs a b c d status))
    viewed_other (Ok status) n e v =
        elim remaining as (λ (o : Option (List ℕ)). IfSome o (λ xs. IsViewed words xs a b c d status)) [ None ↦ tt | Some xs ↦ subst (λ (m : ℕ). IsViewed words xs a b c d m) (sym e) (v xs) ]
    viewed_other (Err e) n h v = tt

-- a digit has a value
some_value : (a b d : Bool) (x y z : ℕ) → ((d || a) || b) ≡ true → is_some (if a then Some x else if b then Some y else if d then Some z else None) ≡ true
some_value true b d x y z h = refl
some_value false true d x y z h = refl
some_value false false true x y z h = refl
some_value false false false x y z h = absurd (cc h)

both : (x y : Bool) → (x && y) ≡ true → (x ≡ true) × (y ≡ true)
both true y h = (refl, h)
both false y h = absurd (cc h)

-- digits and white space without the white space are digits
digits_left : (text : List ℕ) → is_digits text ≡ true → list_all is_hex_digit (unspaced text) ≡ true
digits_left [] h = refl
digits_left (c ∷ text) h =
    let parts = both (is_ascii_hexdigit c || is_ascii_whitespace c) (is_digits text) h in
    let rest = digits_left text parts.1 in
    elim (is_ascii_whitespace c) as (λ w. (is_ascii_hexdigit c || w) ≡ true → list_all is_hex_digit (cond (not w) (c ∷ unspaced text) (unspaced text)) ≡ true) [
      | true ↦ λ _. rest
      | false ↦ λ k.
          let digit : is_ascii_hexdigit c ≡ true = elim (or_cases (is_ascii_hexdigit c) false k) [ inl e ↦ e | inr e ↦ absurd (cc e) ] in
          let value : is_hex_digit c ≡ true = some_value (is_in_range 65 70 c) (is_in_range 97 102 c) (is_in_range 48 57 c) (c - 55) (c - 87) (c - 48) digit in
          ap (λ b. b && list_all is_hex_digit (unspaced text)) value ∙ rest
    ] parts.0

-- if digits can't be decoded, their number is odd
pub odd_digits : (input : List ℕ) (e : FromHexError) → is_digits input ≡ true → decode_of (unspaced input) ≡ Err e → IsOdd input
odd_digits input e digits faulty =
    elim (cases_eq (length (unspaced input) % 2) 1) [
      | inl odd ↦ (digits, odd)
      | inr even ↦
          let zero : length (unspaced input) % 2 ≡ 0 = omega arith in
          let octets = decode_of-digits (unspaced input) zero (AllPass-from_list_all is_hex_digit (unspaced input) (digits_left input digits)) in
          let clash = sym faulty ∙ octets.1 in cc clash
    ]

-- a message of some octets was asked for
has_message : (words : Words) (form : Form) (input octets : List ℕ) → asked words ≡ View form → Gives input octets → 0 < length octets → HasAsked (asked words) input
has_message words form input octets is gives some = subst (λ (q : Request). HasAsked q input) (sym is) (octets, gives, some)

-- what is printed determines what the exit status says
printed_reports : {words : Words} {form : Form} {input : List ℕ} {a b c d : Option (List ℕ)} {status : ℕ} → asked words ≡ View form → IsPrinted form input a b c d status → Reports words input status
printed_reports {words = words} {form = form} {input = input} is (shown octets gives some p k) = record {
  shown = λ e. has_message words form input octets is gives some;
  bad_hex = λ e. absurd (let n : 0 ≡ 1 = e in omega arith);
  wrong = λ e. absurd (let n : 0 ≡ 2 = e in omega arith);
  empty = λ e. absurd (let n : 0 ≡ 4 = e in omega arith);
}
printed_reports {form = form} is (bad_hex odd k p) = record {
  shown = λ e. absurd (let n : 1 ≡ 0 = e in omega arith);
  bad_hex = λ e. (form, is, odd);
  wrong = λ e. absurd (let n : 1 ≡ 2 = e in omega arith);
  empty = λ e. absurd (let n : 1 ≡ 4 = e in omega arith);
}
printed_reports {form = form} is (empty gives k p) = record {
  shown = λ e. absurd (let n : 4 ≡ 0 = e in omega arith);
  bad_hex = λ e. absurd (let n : 4 ≡ 1 = e in omega arith);
  wrong = λ e. absurd (let n : 4 ≡ 2 = e in omega arith);
  empty = λ e. (form, is, gives);
}

-- the status 0 of a request without a message
zero_reports : (words : Words) (request : Request) (input : List ℕ) → asked words ≡ request → HasAsked request input → Reports words input 0
zero_reports words request input is has = record {
  shown = λ e. subst (λ (q : Request). HasAsked q input) (sym is) has;
  bad_hex = λ e. absurd (let n : 0 ≡ 1 = e in omega arith);
  wrong = λ e. absurd (let n : 0 ≡ 2 = e in omega arith);
  empty = λ e. absurd (let n : 0 ≡ 4 = e in omega arith);
}

status_reports : {words : Words} {input : List ℕ} {a b c d : Option (List ℕ)} {status : ℕ} → IsViewed words input a b c d status → Reports words input status
status_reports {words = words} {input = input} (help is p k) = zero_reports words Help input is tt
status_reports {words = words} {input = input} (version is p k) = zero_reports words Version input is tt
status_reports (wrong is k p) = record {
  shown = λ e. absurd (let n : 2 ≡ 0 = e in omega arith);
  bad_hex = λ e. absurd (let n : 2 ≡ 1 = e in omega arith);
  wrong = λ e. is;
  empty = λ e. absurd (let n : 2 ≡ 4 = e in omega arith);
}
status_reports (view form status is p) = printed_reports is p

module _ (remaining : Option (List ℕ)) (words : Words) where
  -- the same if the reader's octets are known
  pub viewed_reports : (a b c d : Option (List ℕ)) (status : ℕ) → IfSome remaining (λ xs. IsViewed words xs a b c d status) → IfSome remaining (λ xs. Reports words xs status)
  viewed_reports a b c d status h =
      elim remaining as (λ (o : Option (List ℕ)). IfSome o (λ xs. IsViewed words xs a b c d status) → IfSome o (λ xs. Reports words xs status)) [ None ↦ λ v. tt | Some xs ↦ λ v. status_reports v ] h

  -- exit status 3 says nothing
  pub failure_reports : IfSome remaining (λ xs. Reports words xs 3)
  failure_reports =
      elim remaining as (λ (o : Option (List ℕ)). IfSome o (λ xs. Reports words xs 3)) [
        | None ↦ tt
        | Some xs ↦ record {
          shown = λ e. absurd (let n : 3 ≡ 0 = e in omega arith);
          bad_hex = λ e. absurd (let n : 3 ≡ 1 = e in omega arith);
          wrong =
              λ e. absurd (let n : 3 ≡ 2 = e in omega arith);
          empty = λ e. absurd (let n : 3 ≡ 4 = e in omega arith);
        }
      ]
