-- Words are printed one by one, with separators.
use Rattle.std.proofs.Common.{◌≡◌, ◌+◌, ◌<◌, length, take, drop, List, ℕ, [], ◌∷◌, ap, subst}
use Rattle.std.specs.Prelude.{map}
use Rattle.std.specs.Fmt.{WritesInCalls}
use Rattle.fields_lists.specs.Groups.{groups}
use Rattle.fields_text.specs.Separated.{separated}
use Rattle.fields_lists.proofs.theory.ItemKinds.{groups_first, groups_none}
use Rattle.fields_text.proofs.theory.Printing.{Printing, all_printed, words_printed}

module _ {W : Type 0} (takes : W → List ℕ → W → Type 0) (start : W) (whole others : List ℕ) where
  -- the words are left, the first after `first`
  abbrev pub Prints : List ℕ → List (List ℕ) → W → Type 0
  Prints first words f = Printing takes start f (separated first others words) whole

  -- the first of these words is printed
  pub first_printed : (first word : List ℕ) (all words : List (List ℕ)) (f g h : W) → all ≡ word ∷ words → Prints first all f
      → WritesInCalls takes f first g → WritesInCalls takes g word h → Prints others words h
  first_printed first word all words f g h e p a b =
      words_printed takes start f g h (separated first others all) first word (separated others others words) whole p a b (ap (separated first others) e)

  -- no word is left
  pub words_end : (first : List ℕ) (words : List (List ℕ)) (f : W) → words ≡ [] → Prints first words f → WritesInCalls takes start whole f
  words_end first words f e p = all_printed takes start f (separated first others words) whole p (ap (separated first others) e)

  -- the word of one group of octets more is printed
  pub group_printed : (size : ℕ) (word : List ℕ → List ℕ) (first text left group after : List ℕ) (f g h : W) → 0 < size
      → (group ≡ take size left) × (after ≡ drop size left) × (length after + size ≡ length left) → text ≡ word group
      → Prints first (map word (groups size left)) f → WritesInCalls takes f first g → WritesInCalls takes g text h → Prints others (map word (groups size after)) h
  group_printed size word first text left group after f g h positive cut e p a b =
      first_printed first (word group) (map word (groups size left)) (map word (groups size after)) f g h
      (ap (map word) (groups_first size left group after positive cut)) p a (subst (λ (t : List ℕ). WritesInCalls takes g t h) e b)

  -- no group is left
  pub groups_end : (size : ℕ) (word : List ℕ → List ℕ) (first left : List ℕ) (f : W) → length left < size
      → Prints first (map word (groups size left)) f → WritesInCalls takes start whole f
  groups_end size word first left f few p = words_end first (map word (groups size left)) f (ap (map word) (groups_none size left few)) p
