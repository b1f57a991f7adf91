-- Host identities, and the names of servers.
use Rattle.std.proofs.Common.{◌≡◌, ◌∙◌, ℕ, zero, suc, ◌<◌, ◌≤◌, List, [], ◌∷◌, ◌++◌, length, length-append, refl, ap, arith}
use Rattle.std.specs.Prelude.{codes, IfSome, OnErr, OnSome, Option, Some, None, Result}
use Rattle.std.specs.Option.{option_and_then}
use Rattle.std.specs.Fmt.{◌++?◌}
use Rattle.std.specs.declared.fmt.Error.{Error}
use Rattle.dns_name.specs.Names.{Labels, uncompressed}
use Rattle.dns_name.proofs.theory.LabelsLemmas.{length-uncompressed}
use Rattle.dns_print.specs.Printing.{PrintsOnOk}
use Rattle.fields_forms.specs.GatewayTexts.{name_at}
use Rattle.fields_plain.specs.ZoneNames.{zone_name_text}
use Rattle.fields_forms.specs.HostIdentities.{servers_in, servers_text, identity_words, identity_parts}
use Rattle.fields_forms.proofs.NameAtLemmas.{name_is_found}

-- a name after a space and with its final dot
abbrev pub server : Labels → List ℕ
server name = codes " " ++ zone_name_text name

-- the octets after a name are fewer
pub after_name : (octets after : List ℕ) (name : Labels) → name_at octets ≡ Some (name, after) → length after < length octets
after_name octets after name e =
    let found = name_is_found octets after name e in
    omega (arith, ap length found.0, length-append (uncompressed name) after, length-uncompressed name)

abbrev by_server : ℕ → Option (Labels × List ℕ) → Option (List ℕ)
by_server n o = option_and_then (λ first. Some (server first.0) ++? servers_in n first.1) o

same_server : (n m : ℕ) (octets : List ℕ) (o : Option (Labels × List ℕ)) → name_at octets ≡ o
    → ((name : Labels) (after : List ℕ) → name_at octets ≡ Some (name, after) → servers_in n after ≡ servers_in m after)
    → by_server n o ≡ by_server m o
same_server n m octets None e later = refl
same_server n m octets (Some (name, after)) e later = ap (λ (others : Option (List ℕ)). Some (server name) ++? others) (later name after e)

more_count : (n m : ℕ) (octets : List ℕ) → length octets ≤ n → length octets ≤ m → servers_in n octets ≡ servers_in m octets
more_count zero zero octets h k = refl
more_count zero (suc m) [] h k = refl
more_count zero (suc m) (x ∷ xs) h k = absurd (omega arith)
more_count (suc n) zero [] h k = refl
more_count (suc n) zero (x ∷ xs) h k = absurd (omega arith)
more_count (suc n) (suc m) [] h k = refl
more_count (suc n) (suc m) (x ∷ xs) h k =
    same_server n m (x ∷ xs) (name_at (x ∷ xs)) refl
    (λ name after e. let s = after_name (x ∷ xs) after name e in more_count n m after (omega arith) (omega arith))

-- octets that begin with a name: this one, and then the others
pub server_first : (octets after : List ℕ) (name : Labels) → name_at octets ≡ Some (name, after) → servers_text octets ≡ Some (server name) ++? servers_text after
server_first [] after name e = let s = after_name [] after name e in absurd (omega arith)
server_first (x ∷ xs) after name e =
    let s = after_name (x ∷ xs) after name e in
    ap (by_server (length xs)) e
    ∙ ap (λ (others : Option (List ℕ)). Some (server name) ++? others) (more_count (length xs) (length after) after (omega arith) (omega arith))

-- a tag or a key of no octets has no word
pub parts_displayed : {W : Type 0} (takes : W → List ℕ → W → Type 0) (f g : W) (r : Result (Unit {0}) Error) (algorithm : ℕ) (tag key servers : List ℕ)
    → IfSome (Some (identity_words algorithm tag key) ++? servers_text servers) (λ text. PrintsOnOk takes f r text g)
    → IfSome (identity_parts algorithm tag key servers) (λ text. PrintsOnOk takes f r text g)
parts_displayed takes f g r algorithm [] key servers d = tt
parts_displayed takes f g r algorithm (t ∷ tag) [] servers d = tt
parts_displayed takes f g r algorithm (t ∷ tag) (k ∷ key) servers d = d

-- the words fail only if the writer does
pub parts_fail : (MayFail : Type 0) (r : Result (Unit {0}) Error) (algorithm : ℕ) (tag key servers : List ℕ)
    → OnSome (Some (identity_words algorithm tag key) ++? servers_text servers) (OnErr r MayFail) → OnSome (identity_parts algorithm tag key servers) (OnErr r MayFail)
parts_fail MayFail r algorithm [] key servers d = tt
parts_fail MayFail r algorithm (t ∷ tag) [] servers d = tt
parts_fail MayFail r algorithm (t ∷ tag) (k ∷ key) servers d = d
