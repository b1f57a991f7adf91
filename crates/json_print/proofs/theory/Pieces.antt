-- Members, objects and arrays that are printed in pieces.
use Rattle.std.proofs.Common.{◌≡◌, ◌∙◌, ℕ, Bool, false, List, [], ◌∷◌, ◌++◌, ap, sym, subst, append_assoc, append-nil, codes}
use Rattle.std.specs.Fmt.{WritesInCalls}
use Rattle.json.specs.Json.{Json, string}
use Rattle.json.specs.Print.{quoted}
use Rattle.dns_print.proofs.theory.Prints.{print_none, print_append}
use Rattle.json_print.specs.Values.{Member, array_of, object_of}
use Rattle.json_print.specs.Texts.{json_text, name_text, member_text, members_text, object_front, items_text}
use Rattle.json_print.proofs.theory.JsonTexts.{array_text, members_text-append, object_front-append, object_text, string_text}

-- A name after its comma, and then the text of the value, are the text of the member.
pub member_made : (name text : List ℕ) (value : Json) → text ≡ json_text value → (codes "," ++ name_text name) ++ text ≡ member_text (name, value)
member_made name text value is = ap (λ (l : List ℕ). (codes "," ++ name_text name) ++ l) is

-- So are a name after its comma, a bracket, the items and a bracket, if the value is an array.
pub array_made : (name : List ℕ) (js : List Json) → (codes "," ++ name_text name) ++ (codes "[" ++ (items_text false js ++ codes "]")) ≡ member_text (name, array_of js)
array_made name js =
    ap (λ (l : List ℕ). (codes "," ++ name_text name) ++ l) (sym (append_assoc (codes "[") (items_text false js) (codes "]")) ∙ sym (array_text js))

-- One member.
pub one_member : (a : Member) → member_text a ≡ members_text (a ∷ [])
one_member a = sym (append-nil (member_text a))

-- Two members in order.
pub two_members : (a b : Member) → member_text a ++ member_text b ≡ members_text (a ∷ b ∷ [])
two_members a b = ap (λ (l : List ℕ). member_text a ++ l) (one_member b)

-- Three members in order.
pub three_members : (a b c : Member) → member_text a ++ (member_text b ++ member_text c) ≡ members_text (a ∷ b ∷ c ∷ [])
three_members a b c = ap (λ (l : List ℕ). member_text a ++ l) (two_members b c)

-- Four members in order.
pub four_members : (a b c d : Member) → member_text a ++ (member_text b ++ (member_text c ++ member_text d)) ≡ members_text (a ∷ b ∷ c ∷ d ∷ [])
four_members a b c d = ap (λ (l : List ℕ). member_text a ++ l) (three_members b c d)

-- A brace, the first member and two lists of others are the front of an object.
pub front_made : (name : List ℕ) (value : Json) (ms ns : List Member)
    → (codes "{" ++ name_text name) ++ (json_text value ++ (members_text ms ++ members_text ns)) ≡ object_front ((name, value) ∷ (ms ++ ns))
front_made name value ms ns =
    sym (append_assoc (codes "{" ++ name_text name) (json_text value) (members_text ms ++ members_text ns))
    ∙ ap (λ (l : List ℕ). codes "{" ++ name_text name ++ json_text value ++ l) (sym (members_text-append ms ns))

-- An object's front, two lists of members and a brace are the object.
pub object_made : (m : Member) (ms ns os : List Member)
    → object_front (m ∷ ms) ++ (members_text ns ++ (members_text os ++ codes "}")) ≡ json_text (object_of ((m ∷ ms) ++ (ns ++ os)))
object_made m ms ns os =
    ap (λ (l : List ℕ). object_front (m ∷ ms) ++ l) (sym (append_assoc (members_text ns) (members_text os) (codes "}")) ∙ ap (λ (l : List ℕ). l ++ codes "}") (sym (members_text-append ns os)))
    ∙ sym (append_assoc (object_front (m ∷ ms)) (members_text (ns ++ os)) (codes "}"))
    ∙ ap (λ (l : List ℕ). l ++ codes "}") (sym (object_front-append m ms (ns ++ os))) ∙ sym (object_text ((m ∷ ms) ++ (ns ++ os)))

-- So are its front, a list of members and a brace.
pub whole_made : (m : Member) (ms ns : List Member) → object_front (m ∷ ms) ++ (members_text ns ++ codes "}") ≡ json_text (object_of ((m ∷ ms) ++ ns))
whole_made m ms ns =
    sym (append_assoc (object_front (m ∷ ms)) (members_text ns) (codes "}")) ∙ ap (λ (l : List ℕ). l ++ codes "}") (sym (object_front-append m ms ns)) ∙ sym (object_text ((m ∷ ms) ++ ns))

-- So are a brace, its only member and a brace.
pub single_made : (name : List ℕ) (value : Json) → (codes "{" ++ name_text name) ++ (json_text value ++ codes "}") ≡ json_text (object_of ((name, value) ∷ []))
single_made name value =
    sym (append_assoc (codes "{" ++ name_text name) (json_text value) (codes "}")) ∙ ap (λ (l : List ℕ). l ++ codes "}") (sym (append-nil (codes "{" ++ name_text name ++ json_text value)))
    ∙ sym (object_text ((name, value) ∷ []))

-- So are its front and a brace.
pub object_closed : (ms : List Member) → object_front ms ++ codes "}" ≡ json_text (object_of ms)
object_closed ms = sym (object_text ms)

-- A member and two lists of others.
pub members_made : (m : Member) (ms ns : List Member) → member_text m ++ (members_text ms ++ members_text ns) ≡ members_text (m ∷ (ms ++ ns))
members_made m ms ns = ap (λ (l : List ℕ). member_text m ++ l) (sym (members_text-append ms ns))

-- A list of members, a member, and two lists of others.
pub around_member : (ms : List Member) (m : Member) (ns os : List Member)
    → members_text ms ++ (member_text m ++ (members_text ns ++ members_text os)) ≡ members_text (ms ++ (m ∷ (ns ++ os)))
around_member ms m ns os = ap (λ (l : List ℕ). members_text ms ++ l) (members_made m ns os) ∙ sym (members_text-append ms (m ∷ (ns ++ os)))

-- Three lists of members in order.
pub three_lists : (ms ns os : List Member) → members_text ms ++ (members_text ns ++ members_text os) ≡ members_text (ms ++ (ns ++ os))
three_lists ms ns os = ap (λ (l : List ℕ). members_text ms ++ l) (sym (members_text-append ns os)) ∙ sym (members_text-append ms (ns ++ os))

-- A comma, two strings and a colon between them are a member.
pub string_member_made : (name text : List ℕ) → codes "," ++ (json_text (string name) ++ (codes ":" ++ json_text (string text))) ≡ members_text ((name, string text) ∷ [])
string_member_made name text =
    ap (λ (l : List ℕ). codes "," ++ (l ++ (codes ":" ++ json_text (string text)))) (string_text name)
    ∙ ap (λ (l : List ℕ). codes "," ++ l) (sym (append_assoc (quoted name) (codes ":") (json_text (string text))))
    ∙ sym (append_assoc (codes ",") (name_text name) (json_text (string text))) ∙ one_member (name, string text)

module _ {W : Type 0} (takes : W → List ℕ → W → Type 0) where
  -- From `old` to `new`, the writer got the items of `whole` that aren't in `left`. The next item follows another if `later`.
  pub record ItemsPrinted (old new : W) (later : Bool) (left whole : List Json) : Type 0 where
    pub done : List ℕ
    pub wrote : WritesInCalls takes old done new
    pub rest : done ++ items_text later left ≡ items_text false whole

  -- no item is printed at first
  pub no_items_printed : (old : W) (left whole : List Json) → left ≡ whole → ItemsPrinted old old false left whole
  no_items_printed old left whole is = record { done = []; wrote = print_none takes old; rest = ap (items_text false) is }

  -- some text more is printed, after which other items are left
  pub items_printed_more : (old mid new : W) (later next : Bool) (left rest whole : List Json) (text : List ℕ) → ItemsPrinted old mid later left whole → WritesInCalls takes mid text new
      → items_text later left ≡ text ++ items_text next rest → ItemsPrinted old new next rest whole
  items_printed_more old mid new later next left rest whole text p wrote is = record {
    done = p.done ++ text;
    wrote = print_append takes old mid new p.done text p.wrote wrote;
    rest = append_assoc p.done text (items_text next rest) ∙ ap (λ (l : List ℕ). p.done ++ l) (sym is) ∙ p.rest;
  }

  -- all items are printed if none is left
  pub all_items_printed : (old new : W) (later : Bool) (left whole : List Json) → ItemsPrinted old new later left whole → left ≡ [] → WritesInCalls takes old (items_text false whole) new
  all_items_printed old new later left whole p none =
      subst (λ (l : List ℕ). WritesInCalls takes old l new) (sym (append-nil p.done) ∙ ap (λ (js : List Json). p.done ++ items_text later js) (sym none) ∙ p.rest) p.wrote
