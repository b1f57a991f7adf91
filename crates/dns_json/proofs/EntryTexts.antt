-- The texts of entries of a section, one after another.
use Rattle.std.proofs.Common.{◌≡◌, ◌∙◌, Bool, true, false, ◌||◌, List, [], ◌∷◌, ◌++◌, ap, sym, refl, map}
use Rattle.std.specs.Prelude.{Result, Ok, Err, is_ok}
use Rattle.std.specs.List.{list_all}
use Rattle.json.specs.Json.{Json}
use Rattle.dns_name.specs.Names.{Fault}
use Rattle.json_print.specs.Texts.{json_text, comma_if, items_text}
use Rattle.dns_json.specs.Entries.{readable, entry_text}

-- after an item another follows it
pub or_true : (b : Bool) → true ≡ (b || true)
or_true true = refl
or_true false = refl

-- after a fault nothing changes
pub or_false : (b : Bool) → b ≡ (b || false)
or_false true = refl
or_false false = refl

module _ {X : Type 0} (json : X → Json) where
  split : (later : Bool) (x : Result X Fault) (rest : List (Result X Fault))
      → items_text later (map json (readable (x ∷ rest))) ≡ entry_text json later x ++ items_text (later || is_ok x) (map json (readable rest))
  split later (Ok x) rest =
      ap (λ (b : Bool). comma_if later ++ json_text (json x) ++ items_text b (map json (readable rest))) (or_true later)
  split later (Err f) rest = ap (λ (b : Bool). items_text b (map json (readable rest))) (or_false later)

  -- The text of the remaining entries is that of the first, and that of the others.
  pub entry_first : (later next : Bool) (all : List (Result X Fault)) (x : Result X Fault) (rest : List (Result X Fault)) → all ≡ x ∷ rest → next ≡ (later || is_ok x)
      → items_text later (map json (readable all)) ≡ entry_text json later x ++ items_text next (map json (readable rest))
  entry_first later next all x rest is follows =
      ap (λ (l : List (Result X Fault)). items_text later (map json (readable l))) is ∙ split later x rest
      ∙ ap (λ (b : Bool). entry_text json later x ++ items_text b (map json (readable rest))) (sym follows)

-- If the first of the remaining entries can be read, the rest decides.
pub first_readable : {X : Type 0} (all : List (Result X Fault)) (x : Result X Fault) (rest : List (Result X Fault)) → all ≡ x ∷ rest → is_ok x ≡ true → list_all is_ok all ≡ list_all is_ok rest
first_readable all (Ok x) rest is ok = ap (list_all is_ok) is
first_readable all (Err f) rest is ok = cc

-- If it can't, not all can.
pub first_unreadable : {X : Type 0} (all : List (Result X Fault)) (x : Result X Fault) (rest : List (Result X Fault)) → all ≡ x ∷ rest → is_ok x ≡ false → list_all is_ok all ≡ false
first_unreadable all (Ok x) rest is ok = cc
first_unreadable all (Err f) rest is ok = ap (list_all is_ok) is

-- If none is left, all can.
pub none_unreadable : {X : Type 0} (all : List (Result X Fault)) → all ≡ [] → list_all is_ok all ≡ true
none_unreadable all is = ap (list_all is_ok) is
