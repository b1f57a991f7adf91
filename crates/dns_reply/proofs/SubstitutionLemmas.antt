-- Names made of the first labels of one name and of another name.
use Rattle.std.proofs.Common.{◌≡◌, ◌∙◌, ◌+◌, ◌-◌, ◌≤◌, ℕ, List, [], ◌∷◌, ◌++◌, length, take, drop, ap, sym, refl, true, false, append_assoc, length-append, arith}
use Rattle.std.proofs.Math.Seq.{drop-append_seam, take-append_seam}
use Rattle.std.proofs.lemmas.Grind.{flat_map-append}
use Rattle.std.proofs.lemmas.List.{drop-map, length-map, take-append-drop}
use Rattle.std.proofs.lemmas.List.Elements.{All-append, All-take}
use Rattle.std.specs.Char.{to_ascii_lowercase}
use Rattle.std.specs.List.{flat_map}
use Rattle.std.specs.Prelude.{◌&&◌, not, Bool, None, Result, Ok, Err, IfOk, IsOk, option_map}
use Rattle.std.specs.Result.{result_ok}
use Rattle.dns_octets.specs.declared.error.ParseError.{ParseError}
use Rattle.dns_octets.specs.declared.octets.Octets.{Ghosts}
use Rattle.dns_name.specs.NameReading.{name_labels}
use Rattle.dns_name.specs.Uncompressed.{IsUncompressed}
use Rattle.dns_name.specs.declared.name.Name.{Name}
use Rattle.dns_name.specs.NameOrders.{names_equal}
use Rattle.dns_name.specs.Names.{IsLabel, IsName, Labels, framed, lowered, lowered_label, max_size, name_size, uncompressed, with_root}
use Rattle.dns_name.proofs.theory.LabelsLemmas.{length-uncompressed}
use Rattle.dns_name.proofs.theory.NameLemmas.{labels_of_octets}
use Rattle.dns_reply.specs.Owners.{is_below, is_within}
use Rattle.dns_reply.specs.Substitutions.{substituted, Substitutes}
use Rattle.dns_reply.proofs.OwnerLemmas.{within_decides}

-- The octets of two lists of labels, one after the other.
pub uncompressed-append : (m n : Labels) → uncompressed (m ++ n) ≡ flat_map framed m ++ uncompressed n
uncompressed-append m n = ap (flat_map framed) (append_assoc m n ([] ∷ [])) ∙ flat_map-append framed m (with_root n)

-- lowercasing keeps the size
lowered_size : (name : Labels) → name_size (lowered name) ≡ name_size name
lowered_size [] = refl
lowered_size (label ∷ name) = omega (arith, length-map label to_ascii_lowercase, lowered_size name)

-- names that are equal have the same size
same_size : (m n : Labels) → lowered m ≡ lowered n → name_size m ≡ name_size n
same_size m n e = sym (lowered_size m) ∙ ap name_size e ∙ lowered_size n

both_first : (x y : Bool) → (x && y) ≡ true → x ≡ true
both_first true y e = refl
both_first false y e = absurd (cc)

-- The last labels of a name that is below another are those of the other, so they have its size.
pub owner_size : (name owner : Labels) → is_below name owner ≡ true → name_size (drop (length name - length owner) name) ≡ name_size owner
owner_size name owner below =
    let s = (within_decides name owner).0 (both_first (is_within name owner) (not (names_equal name owner)) below) in
    let lengths = ap length s.1 in
    let before : length name - length owner ≡ length s.0 = omega (arith, lengths, length-map name lowered_label, length-map owner lowered_label, length-append s.0 (lowered owner)) in
    let last : lowered (drop (length name - length owner) name) ≡ lowered owner =
    sym (drop-map lowered_label (length name - length owner) name) ∙ ap (λ n. drop n (lowered name)) before ∙ ap (drop (length s.0)) s.1 ∙ drop-append_seam s.0 (lowered owner) in
    same_size (drop (length name - length owner) name) owner last

-- the octets of a name: those of its first labels, and those of its last
split_octets : (name : Labels) (k : ℕ) → uncompressed name ≡ flat_map framed (take k name) ++ uncompressed (drop k name)
split_octets name k = ap uncompressed (sym (take-append-drop k name)) ∙ uncompressed-append (take k name) (drop k name)

-- The octets before those of the owner are those of the first labels.
pub first_octets : (name owner : Labels) → is_below name owner ≡ true
    → take (length (uncompressed name) - length (uncompressed owner)) (uncompressed name) ≡ flat_map framed (take (length name - length owner) name)
first_octets name owner below =
    let k = length name - length owner in
    let first = flat_map framed (take k name) in
    let e = split_octets name k in
    let n : length (uncompressed name) - length (uncompressed owner) ≡ length first =
    omega (arith, ap length e, length-append first (uncompressed (drop k name)), length-uncompressed (drop k name), length-uncompressed owner, owner_size name owner below) in
    ap (λ m. take m (uncompressed name)) n ∙ ap (take (length first)) e ∙ take-append_seam first (uncompressed (drop k name))

-- The octets that are made are those of the name that is made.
pub made_octets : (name owner target : Labels) → is_below name owner ≡ true
    → take (length (uncompressed name) - length (uncompressed owner)) (uncompressed name) ++ uncompressed target ≡ uncompressed (substituted name owner target)
made_octets name owner target below =
    ap (λ (xs : List ℕ). xs ++ uncompressed target) (first_octets name owner below) ∙ sym (uncompressed-append (take (length name - length owner) name) target)

-- If it isn't too long, what is made is a name.
pub made_name : (name owner target : Labels) → IsName name → IsName target → name_size (substituted name owner target) ≤ max_size → IsName (substituted name owner target)
made_name name owner target is target_is short =
    record { labels = All-append IsLabel (take (length name - length owner) name) target (All-take IsLabel (length name - length owner) name is.labels) target_is.labels; short = short }

-- The octets of a name are at least those of the owner that it is below.
pub owner_fits : (name owner : Labels) → is_below name owner ≡ true → length (uncompressed owner) ≤ length (uncompressed name)
owner_fits name owner below =
    let k = length name - length owner in
    let last = uncompressed (drop k name) in
    omega (arith, ap length (split_octets name k), length-append (flat_map framed (take k name)) last, length-uncompressed (drop k name), length-uncompressed owner, owner_size name owner below)

module _ (name owner target : Labels) (below : is_below name owner ≡ true) (n o : ℕ) (octets others : List ℕ) (whole : n ≡ length (uncompressed name)) (size : o ≡ length (uncompressed owner))
    (same : octets ≡ uncompressed name) (same_others : others ≡ uncompressed target) where
  -- The octets that are joined are those of the name that is made.
  pub joined_octets : take (n - o) octets ++ others ≡ uncompressed (substituted name owner target)
  joined_octets = rw (whole, size, same, same_others) (made_octets name owner target below)

  -- So they are as many.
  pub joined_length : length (take (n - o) octets) + length others ≡ length (uncompressed (substituted name owner target))
  joined_length = sym (length-append (take (n - o) octets) others) ∙ ap length joined_octets

  -- Nothing is made if there are too many.
  pub too_long : (length (take (n - o) octets) + length others ≤ 255 → ⊥) → Substitutes name owner target None
  too_long long =
      let total = joined_length in
      let all = length-uncompressed (substituted name owner target) in
      record { some = (λ some. absurd (let e = some in cc), λ is. absurd (long (omega (arith, total, all, is.fits)))); made = tt }

  -- Else they are those of the name that is made.
  pub is_made : {X : Type 0} {buffer : Ghosts X} (result : Result (Name X buffer) ParseError) (items : List ℕ) → IsName name → IsName target
      → length (take (n - o) octets) + length others ≤ 255 → items ≡ take (n - o) octets ++ others → IfOk result (λ made. uncompressed (name_labels made) ≡ items)
      → (IsUncompressed items → IsOk result) → Substitutes name owner target (option_map name_labels (result_ok result))
  is_made (Ok made) items is target_is short joined read accepts =
      let total = joined_length in
      let all = length-uncompressed (substituted name owner target) in
      let made_is = sym (labels_of_octets made (substituted name owner target) items read (sym (joined ∙ joined_octets))) in
      record { some = (λ some. record { below = below; fits = omega (arith, total, all, short) }, λ is. refl); made = made_is }
  is_made (Err e) items is target_is short joined read accepts =
      let total = joined_length in
      let all = length-uncompressed (substituted name owner target) in
      let fits : name_size (substituted name owner target) ≤ max_size = omega (arith, total, all, short) in
      absurd (let ok = accepts (substituted name owner target, made_name name owner target is target_is fits, sym (joined ∙ joined_octets)) in cc)
