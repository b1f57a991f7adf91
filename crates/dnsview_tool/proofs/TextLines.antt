-- The lines of a row.
use Rattle.std.proofs.Common.{◌≡◌, ◌∙◌, ℕ, ◌+◌, ◌-◌, ◌^◌, ◌<◌, ◌≤◌, true, false, List, [], ◌∷◌, ◌++◌, take, drop, length, All, Option, get_or, zero, suc, refl}
use Rattle.std.proofs.Common.{ap, sym, arith, codes, append_assoc, append-nil}
use Rattle.std.specs.Fmt.{char_count, decimal, format_spec, padded_integral}
use Rattle.std.specs.List.{flat_map, repeat}
use Rattle.std.proofs.lemmas.Grind.{flat_map-append}
use Rattle.std.proofs.lemmas.List.{take_more, take-append-drop}
use Rattle.std.proofs.Math.Nat.{sub_self}
use lib.Utf8.{encode}
use Rattle.dnsview_tool.specs.Printed.{Prints}
use Rattle.dnsview_tool.specs.Digits.{octet_text}
use Rattle.dnsview_tool.specs.Printable.{are_printable}
use Rattle.dnsview_tool.specs.Texts.{columns, digits_text, line_octets, line_text, offset_text, spaces, IsLines, IsShort, Line}
use Rattle.dns_lines.proofs.theory.AppendedTexts.{appends_both}
use Rattle.dnsview_tool.proofs.Appended.{appends_same}
use Rattle.std.specs.Io.KnownBytes.{Appends}
use Rattle.std.proofs.lemmas.List.Elements.{All-nil, All-push}

-- the digits of one octet more
pub digits_more : (octets : List ℕ) (i : ℕ) → i < length octets → digits_text (take (i + 1) octets) ≡ digits_text (take i octets) ++ 32 ∷ octet_text (get_or octets i 0)
digits_more octets i h = ap digits_text (take_more octets i 0 h) ∙ flat_map-append (λ octet. 32 ∷ octet_text octet) (take i octets) (get_or octets i 0 ∷ [])

-- a repeated list of one space is that many spaces
repeat_one : (n : ℕ) → repeat n (32 ∷ []) ≡ spaces n
repeat_one zero = refl
repeat_one (suc n) = ap (λ l. 32 ∷ l) (repeat_one n)

-- padding before a text, and none after it
filled : (n m : ℕ) (text : List ℕ) → m ≡ n → ((repeat m (32 ∷ []) ++ []) ++ [] ++ []) ++ (text ++ repeat (m - m) (32 ∷ [])) ≡ spaces n ++ text
filled n m text e = rw e (simp (append-nil, sub_self, repeat_one))

-- what `{:>6}` prints for a number
pub offset_padded : (n : ℕ) → padded_integral (format_spec 32 3 0 6 (2 ^ 64 - 1)) false [] (decimal n) ≡ offset_text n
unfolding padded_integral char_count encode
offset_padded n = filled (6 - length (decimal n)) (6 - length (decimal n) - 0 - 0) (decimal n) (omega arith)

-- one item more of a list, and its text
flat_map_last : {X : Type 0} (f : X → List ℕ) (xs : List X) (x : X) → flat_map f (xs ++ x ∷ []) ≡ flat_map f xs ++ f x
flat_map_last f xs x = flat_map-append f xs (x ∷ []) ∙ ap (λ l. flat_map f xs ++ l) (append-nil (f x))

-- texts with a separator after each but the last are texts with it before each but the first
module _ {X : Type 0} (f : X → List ℕ) (between : List ℕ) where
  joined : (xs : List X) (last : X) → between ++ (flat_map (λ x. f x ++ between) xs ++ f last) ≡ flat_map (λ x. between ++ f x) (xs ++ last ∷ [])
  joined [] last = sym (append-nil (between ++ f last))
  joined (x ∷ xs) last = rw (← joined xs last) (simp append_assoc)

  after_first : (front : List ℕ) (first : X) (xs : List X) (last : X)
      → front ++ (flat_map (λ x. f x ++ between) (first ∷ xs) ++ f last) ≡ front ++ f first ++ flat_map (λ x. between ++ f x) (xs ++ last ∷ [])
  after_first front first xs last = rw (← joined xs last) (simp append_assoc)

-- the octets of one line more, and those after it
all_octets : (done : List Line) (line : Line) (left after whole : List ℕ) → left ≡ line.octets ++ after → flat_map (λ line. line.octets) done ++ left ≡ whole
    → flat_map (λ line. line.octets) (done ++ line ∷ []) ++ after ≡ whole
all_octets done line left after whole parts e =
    let before = flat_map (λ (l : Line). l.octets) done in
    ap (λ l. l ++ after) (flat_map_last (λ (l : Line). l.octets) done line) ∙ append_assoc before line.octets after ∙ ap (λ l. before ++ l) (sym parts) ∙ e

-- a list is its front and its back
pub parts_of : (whole front back : List ℕ) (n : ℕ) → front ≡ take n whole → back ≡ drop n whole → whole ≡ front ++ back
parts_of whole front back n e f = rw (e, f) (sym (take-append-drop n whole))

-- from `old` to `new`, the writer got the offset of a row, some lines of its octets, and the spaces before the next line
pub record Underway (offset : ℕ) (whole left : List ℕ) (old new : Option (List ℕ)) : Type 0 where
  pub done : List Line
  pub octets : flat_map (λ line. line.octets) done ++ left ≡ whole
  pub short : All IsShort done
  pub appended : Appends old new (offset_text offset ++ codes " " ++ flat_map (λ line. line_text line ++ spaces 7) done)

-- no line is printed at first
pub none_done : (offset : ℕ) (octets : List ℕ) (old new : Option (List ℕ)) → Appends old new (offset_text offset ++ codes " ") → Underway offset octets octets old new
none_done offset octets old new h = record {
  done = [];
  octets = refl;
  short = All-nil IsShort;
  appended = appends_same old new _ _ (sym (append-nil (offset_text offset ++ codes " "))) h;
}

-- one line more is printed
pub one_done : (offset : ℕ) (whole left octets after words : List ℕ) (a b c d : Option (List ℕ)) → Underway offset whole left a b → left ≡ octets ++ after
    → length octets ≤ line_octets → length words ≤ columns → are_printable words ≡ true
    → Appends b c (line_text record { octets = octets; words = words }) → Appends c d (codes "       ") → Underway offset whole after a d
one_done offset whole left octets after words a b c d u parts few fits printable h k =
    let line : Line = record { octets = octets; words = words } in
    let head = offset_text offset ++ codes " " in
    let texts = flat_map (λ (l : Line). line_text l ++ spaces 7) u.done in
    record {
      done = u.done ++ line ∷ [];
      octets = all_octets u.done line left after whole parts u.octets;
      short = All-push IsShort u.done line u.short record { octets = few; words = fits; printable = printable };
      appended = appends_same a d (head ++ texts ++ line_text line ++ codes "       ") _
          (append_assoc (head ++ texts) (line_text line) (spaces 7) ∙ append_assoc head texts (line_text line ++ spaces 7)
          ∙ ap (λ l. head ++ l) (sym (flat_map_last (λ l. line_text l ++ spaces 7) u.done line)))
          (appends_both a c d (head ++ texts ++ line_text line) _ (appends_both a b c (head ++ texts) _ u.appended h) k);
    }

-- some lines and a last one are the lines of a row
lines_of : (offset : ℕ) (whole : List ℕ) (done : List Line) (last : Line) → flat_map (λ line. line.octets) (done ++ last ∷ []) ≡ whole → All IsShort (done ++ last ∷ [])
    → IsLines offset whole (offset_text offset ++ codes " " ++ (flat_map (λ line. line_text line ++ spaces 7) done ++ line_text last))
lines_of offset whole [] last e short = record { first = last; others = []; whole = e; short = short; is = sym (append-nil (offset_text offset ++ codes " " ++ line_text last)) }
lines_of offset whole (first ∷ more) last e short = record {
  first = first;
  others = more ++ last ∷ [];
  whole = e;
  short = short;
  is = after_first line_text (spaces 7) (offset_text offset ++ codes " ") first more last;
}

-- the last line is printed
pub last_done : (offset : ℕ) (whole left octets after words : List ℕ) (a b c : Option (List ℕ)) → Underway offset whole left a b → left ≡ octets ++ after
    → after ≡ [] → length octets ≤ line_octets → length words ≤ columns → are_printable words ≡ true
    → Appends b c (line_text record { octets = octets; words = words }) → Prints (IsLines offset whole) a c
last_done offset whole left octets after words a b c u parts none few fits printable h =
    let line : Line = record { octets = octets; words = words } in
    let head = offset_text offset ++ codes " " in
    let texts = flat_map (λ (l : Line). line_text l ++ spaces 7) u.done in
    let all = sym (append-nil (flat_map (λ (l : Line). l.octets) (u.done ++ line ∷ [])))
    ∙ ap (λ (l : List ℕ). flat_map (λ (l : Line). l.octets) (u.done ++ line ∷ []) ++ l) (sym none) ∙ all_octets u.done line left after whole parts u.octets in (
      head ++ (texts ++ line_text line),
      lines_of offset whole u.done line all (All-push IsShort u.done line u.short record { octets = few; words = fits; printable = printable }),
      appends_same a c (head ++ texts ++ line_text line) _ (append_assoc head texts (line_text line)) (appends_both a b c (head ++ texts) _ u.appended h),
    )
