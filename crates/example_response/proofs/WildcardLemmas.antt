-- The name of the label `*`, and the names that are made by `substitute`.
use Rattle.std.proofs.Common.{◌≡◌, ◌∙◌, ◌<◌, ℕ, zero, suc, get_or, List, [], ◌∷◌, length, ap, sym, refl, subst, arith, true, false, Bool, cond}
use Rattle.std.proofs.lemmas.Bool.{le-leb, leb-true}
use Rattle.std.specs.Prelude.{nat_le, IsOk, IfOk, Option, Some, None, Result, Ok, Err}
use Rattle.std.specs.Result.{result_ok}
use Rattle.dns_message.specs.Names.{IsUncompressed, Labels, max_size, name_size, uncompressed}
use Rattle.dns_message.specs.Replies.{is_below, is_within, Substitutes}
use Rattle.example_response.specs.Zones.{wildcard_below}

-- a conversion that succeeds has a value
pub never_none : {X E : Type 0} (r : Result X E) (o : Option X) → IsOk r → o ≡ result_ok r → o ≡ None → ⊥
never_none (Ok x) o ok is none = cc
never_none (Err e) o ok is none = cc

-- what holds of the value of a success holds of it as an option
pub some_has : {X E : Type 0} (P : X → Type 0) (r : Result X E) (o : Option X) (x : X) → IfOk r P → o ≡ result_ok r → o ≡ Some x → P x
some_has P (Ok y) o x h is some = let e : y ≡ x = cc in subst P e h
some_has P (Err e) o x h is some = absurd (let f = is in cc)

-- the name `*`
abbrev pub asterisk : Labels
asterisk = (42 ∷ []) ∷ []

at_asterisk : (k : ℕ) (d : List ℕ) → k < length asterisk → get_or asterisk k d ≡ 42 ∷ []
at_asterisk zero d l = refl
at_asterisk (suc k) d l = absurd (omega arith)

-- The octets of the name that is an asterisk are an uncompressed name.
pub asterisk_is_uncompressed : IsUncompressed (1 ∷ 42 ∷ 0 ∷ [])
asterisk_is_uncompressed = (
  asterisk,
  record {
    labels = λ k d l. let e = ap length (at_asterisk k d l) in record { some = omega (arith, e); short = omega (arith, e) };
    short = omega arith;
  },
  refl,
)

-- only the root has one octet
only_root : (name : Labels) → uncompressed name ≡ 0 ∷ [] → name ≡ []
only_root [] e = refl
only_root ([] ∷ []) e = absurd (let f = e in cc)
only_root ([] ∷ (l ∷ name)) e = absurd (let f = e in cc)
only_root ((o ∷ label) ∷ name) e = absurd (let f = e in cc)

-- no other name has the octets of `*`
pub only_asterisk : (name : Labels) → uncompressed name ≡ 1 ∷ 42 ∷ 0 ∷ [] → name ≡ asterisk
only_asterisk [] e = absurd (let f = e in cc)
only_asterisk ([] ∷ name) e = absurd (let f = e in cc)
only_asterisk ((o ∷ []) ∷ name) e =
    let others : uncompressed name ≡ 0 ∷ [] = cc e in
    let first : o ≡ 42 = cc e in
    let root = only_root name others in
    cc (first, root)
only_asterisk ((o ∷ (p ∷ label)) ∷ name) e = let n : length (o ∷ (p ∷ label)) ≡ 1 = cc e in absurd (omega (arith, n))

below_root : is_below asterisk [] ≡ true
unfolding is_within
below_root = refl

module _ (encloser : Labels) where
  -- the wildcard, by a test whose outcome is known
  by_size : (fits : Bool) → nat_le (name_size ((42 ∷ []) ∷ encloser)) max_size ≡ fits → wildcard_below encloser ≡ cond fits (Some ((42 ∷ []) ∷ encloser)) None
  by_size fits is = ap (λ (b : Bool). cond b (Some ((42 ∷ []) ∷ encloser)) None) is

  too_long : (fits : Bool) → nat_le (name_size ((42 ∷ []) ∷ encloser)) max_size ≡ fits → Substitutes asterisk [] encloser None → None ≡ wildcard_below encloser
  too_long true is h =
      absurd (let e = h.some.1 (record { below = below_root; fits = leb-true (name_size ((42 ∷ []) ∷ encloser)) max_size is }) in cc)
  too_long false is h = sym (by_size false is)

  -- `*` with a name in place of the root is the wildcard below that name
  pub wildcard_made : (made : Option Labels) → Substitutes asterisk [] encloser made → made ≡ wildcard_below encloser
  wildcard_made (Some name) h =
      let fits = (h.some.0 refl).fits in
      ap Some h.made ∙ sym (by_size true (le-leb (name_size ((42 ∷ []) ∷ encloser)) max_size fits))
  wildcard_made None h = too_long (nat_le (name_size ((42 ∷ []) ∷ encloser)) max_size) refl h
