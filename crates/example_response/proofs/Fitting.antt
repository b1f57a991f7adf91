-- How sets of records are fitted one after another.
use Rattle.std.proofs.Common.{◌≡◌, ◌∙◌, ℕ, ◌+◌, ◌<◌, Bool, true, false, None, List, [], ◌∷◌, ◌++◌, ap, cond, get_or, length, map, refl, subst, sym, take}
use Rattle.std.proofs.lemmas.Grind.{flat_map-append}
use Rattle.std.proofs.lemmas.List.{append-nil, map-append, take_more}
use Rattle.std.specs.List.{flat_map}
use Rattle.std.specs.Borrow.{Bor}
use Rattle.std.specs.Prelude.{Option, Some, Result, Ok, Err}
use Rattle.dns_message.specs.Builders.{Built, InAdditional, InAnswer, InAuthority, InBuilder, InQuestion, MovesState, RecordSet, Represents, Reserving, Stage, State, fit_set, fit_sets, goes_in}
use Rattle.dns_message.specs.Builders.{left_out, with_records}
use Rattle.dns_message.specs.Fields.{owned_parts_of, owned_rtype_of}
use Rattle.dns_message.specs.Names.{Labels, name_labels}
use Rattle.dns_message.specs.Records.{RecordItem}
use Rattle.dns_message.specs.Replies.{is_within}
use Rattle.dns_message.specs.Targets.{Tree}
use Rattle.dns_message.specs.declared.fields.OwnedFieldData.{OwnedFieldData}
use Rattle.dns_message.specs.declared.name.Name.{Name}
use Rattle.dns_message.specs.declared.wire.Octets.{Ghosts}
use Rattle.example_response.specs.Filling.{Fits}
use Rattle.example_response.specs.Sets.{address_sets, host_sets, required, unless}
use Rattle.example_response.specs.Zones.{set_at}
use Rattle.example_response.specs.declared.zone.Rrset.{Rrset}
use Rattle.example_response.specs.declared.zone.Zone.{Zone}

-- sets after others
fits-append : (stage : Stage) (reserved : ℕ) (xs ys : List RecordSet) (s : State)
    → fit_sets None Tree stage reserved (xs ++ ys) s ≡ fit_sets None Tree stage reserved ys (fit_sets None Tree stage reserved xs s)
fits-append stage reserved [] ys s = refl
fits-append stage reserved (x ∷ xs) ys s = fits-append stage reserved xs ys (fit_set None Tree stage reserved x s)

-- Sets are fitted after others.
pub fits_then : {X E : Type 0} (stage : Stage) (xs ys : List RecordSet) (old mid new : Reserving) (r : Result X E)
    → MovesState stage stage Tree (fit_sets None Tree stage old.reserved xs) old.built mid.built → mid.reserved ≡ old.reserved → Fits stage ys mid new r → Fits stage (xs ++ ys) old new r
fits_then stage xs ys old mid new (Ok x) first same second = λ s h.
    subst (λ (t : State). Represents stage Tree t new.built) (sym (fits-append stage old.reserved xs ys s))
    (subst (λ n. MovesState stage stage Tree (fit_sets None Tree stage n ys) mid.built new.built) same second (fit_sets None Tree stage old.reserved xs s) (first s h))
fits_then stage xs ys old mid new (Err e) first same second = tt

-- One set more.
pub fits_more : (stage : Stage) (xs ys all : List RecordSet) (old mid new : Reserving) → all ≡ xs ++ ys
    → MovesState stage stage Tree (fit_sets None Tree stage old.reserved xs) old.built mid.built → mid.reserved ≡ old.reserved
    → MovesState stage stage Tree (fit_sets None Tree stage mid.reserved ys) mid.built new.built → MovesState stage stage Tree (fit_sets None Tree stage old.reserved all) old.built new.built
fits_more stage xs ys all old mid new is first same second =
    subst (λ zs. MovesState stage stage Tree (fit_sets None Tree stage old.reserved zs) old.built new.built) (sym is)
    (fits_then {X = ℕ} {E = ℕ} stage xs ys old mid new (Ok 0) first same second)

-- What a further element of a list adds.
pub sets-more : {X Y : Type 0} (f : X → List Y) (xs : List X) (i : ℕ) (x : X) → i < length xs → x ≡ get_or xs i x → flat_map f (take (i + 1) xs) ≡ flat_map f (take i xs) ++ f x
sets-more {Y = Y} f xs i x l is =
    ap (flat_map f) (take_more xs i x l) ∙ ap (λ y. flat_map f (take i xs ++ y ∷ [])) (sym is) ∙ flat_map-append f (take i xs) (x ∷ [])
    ∙ ap (λ (ys : List Y). flat_map f (take i xs) ++ ys) (append-nil (f x))

-- The same for what is shown of it.
pub sets-shown_more : {X Z Y : Type 0} (f : Z → List Y) (g : X → Z) (xs : List X) (i : ℕ) (x : X) → i < length xs → x ≡ get_or xs i x
    → flat_map f (map g (take (i + 1) xs)) ≡ flat_map f (map g (take i xs)) ++ f (g x)
sets-shown_more {Y = Y} f g xs i x l is =
    ap (λ zs. flat_map f (map g zs)) (take_more xs i x l) ∙ ap (λ y. flat_map f (map g (take i xs ++ y ∷ []))) (sym is) ∙ ap (flat_map f) (map-append g (take i xs) (x ∷ []))
    ∙ flat_map-append f (map g (take i xs)) (g x ∷ []) ∙ ap (λ (ys : List Y). flat_map f (map g (take i xs)) ++ ys) (append-nil (f (g x)))

-- what both states have, the chosen one has
either-has : {X : Type 0} (part : State → X) (x : X) (b : Bool) (s t : State) → part s ≡ x → part t ≡ x → part (cond b s t) ≡ x
either-has part x true s t is also = is
either-has part x false s t is also = also

records-limit : (stage : Stage) (xs : List RecordItem) (s : State) → (with_records stage xs s).limit ≡ s.limit
records-limit InBuilder xs s = refl
records-limit InQuestion xs s = refl
records-limit InAnswer xs s = refl
records-limit InAuthority xs s = refl
records-limit InAdditional xs s = refl

-- Fitting sets leaves the limit.
pub fits-limit : (stage : Stage) (reserved : ℕ) (xs : List RecordSet) (s : State) → (fit_sets None Tree stage reserved xs s).limit ≡ s.limit
fits-limit stage reserved [] s = refl
fits-limit stage reserved (x ∷ xs) s =
    fits-limit stage reserved xs (fit_set None Tree stage reserved x s)
    ∙ either-has (λ t. t.limit) s.limit (goes_in None Tree stage reserved x.records s) (with_records stage x.records s) (left_out x.required s) (records-limit stage x.records s) refl

-- Fitting the same sets.
pub sets_are : (stage : Stage) (xs ys : List RecordSet) (old : Reserving) (new : Built) → xs ≡ ys → MovesState stage stage Tree (fit_sets None Tree stage old.reserved xs) old.built new
    → MovesState stage stage Tree (fit_sets None Tree stage old.reserved ys) old.built new
sets_are stage xs ys old new is = subst (λ zs. MovesState stage stage Tree (fit_sets None Tree stage old.reserved zs) old.built new) is

-- A set that an earlier step has isn't fitted again.
pub fits_none : (stage : Stage) (repeats : Bool) (set : RecordSet) (old : Reserving) → repeats ≡ true
    → MovesState stage stage Tree (fit_sets None Tree stage old.reserved (unless repeats set)) old.built old.built
fits_none stage repeats set old is = subst (λ b. MovesState stage stage Tree (fit_sets None Tree stage old.reserved (unless b set)) old.built old.built) (sym is) (λ s h. h)

-- Another set is.
pub fits_one : {X E : Type 0} (stage : Stage) (repeats : Bool) (set : RecordSet) (old new : Reserving) (r : Result X E) → repeats ≡ false → Fits stage (set ∷ []) old new r
    → Fits stage (unless repeats set) old new r
fits_one stage repeats set old new r is = subst (λ b. Fits stage (unless b set) old new r) (sym is)

-- a record as it is pushed with another owner
abbrev pub pushed_record : {X : Type 0} {octets : Ghosts X} → Bor (Name X octets) × ℕ × ℕ × Bor OwnedFieldData → RecordItem
pushed_record p = record { owner = name_labels p.0.now; rtype = owned_rtype_of p.3.now; class = p.1; ttl = p.2; parts = owned_parts_of p.3.now }

-- Fitting the same records.
pub fits_by : {X E : Type 0} (xs ys : List RecordItem) (old new : Reserving) (r : Result X E) → ys ≡ xs → Fits InAnswer (required ys ∷ []) old new r → Fits InAnswer (required xs ∷ []) old new r
fits_by xs ys old new r made = subst (λ (zs : List RecordItem). Fits InAnswer (required zs ∷ []) old new r) made

-- The addresses of a host are those of type A, and then those of type AAAA.
pub glue_by : (zone : Zone) (cut host : Labels) (name : Option Labels) (a b : Option Rrset) (needed : Bool) (old mid new : Reserving)
    → Some host ≡ name → a ≡ set_at zone host 1 → b ≡ set_at zone host 28 → needed ≡ is_within host cut
    → MovesState InAdditional InAdditional Tree (fit_sets None Tree InAdditional old.reserved (address_sets a needed)) old.built mid.built → mid.reserved ≡ old.reserved
    → MovesState InAdditional InAdditional Tree (fit_sets None Tree InAdditional mid.reserved (address_sets b needed)) mid.built new.built
    → MovesState InAdditional InAdditional Tree (fit_sets None Tree InAdditional old.reserved (host_sets zone cut name)) old.built new.built
glue_by zone cut host name a b needed old mid new is first second asked =
    fits_more InAdditional (address_sets a needed) (address_sets b needed) (host_sets zone cut name) old mid new
    (ap (host_sets zone cut) (sym is) ∙ (λ i. address_sets (sym first i) (sym asked i) ++ address_sets (sym second i) (sym asked i)))
