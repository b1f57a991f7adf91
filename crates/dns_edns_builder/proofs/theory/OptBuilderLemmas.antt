-- What a builder keeps true while its options grow.
use Rattle.std.proofs.Common.{◌≡◌, ◌∙◌, ap, sym, refl, subst, ℕ, ◌+◌, ◌<◌, ◌≤◌, List, [], ◌∷◌, ◌++◌, length, length-append, append_assoc, append-nil, arith, Vec, Global}
use Rattle.std.proofs.lemmas.Grind.{flat_map-append}
use Rattle.std.specs.Option.{option_map_or}
use Rattle.std.specs.Prelude.{Option, Result, Ok, Err, is_some, IsTrue}
use Rattle.dns_code.specs.Header.{fields as header_fields}
use Rattle.dns_code.specs.declared.header.Header.{Header}
use Rattle.dns_octets.specs.declared.error.AppendError.{AppendError}
use Rattle.dns_octets.specs.declared.error.AppendError.TheVariants.{ShortBuf, OutOfMemory}
use Rattle.dns_edns.specs.Options.{OptionItem, encode_option, encode_options}
use Rattle.dns_edns.specs.OptionsOf.{options_of, are_options, options_in}
use Rattle.dns_edns.specs.OptHeader.{fields_in}
use Rattle.dns_edns.proofs.theory.OptionsLemmas.{one_more, options_of-nil}
use Rattle.dns_edns_builder.specs.declared.builder.OptBuilder.{OptBuilder}
use Rattle.dns_edns_builder.specs.OptionLists.{AppendsOption}
use Rattle.dns_edns_builder.specs.Gathered.{Gathered, gathered, nothing_gathered, option_capacity, option_octets}
use Rattle.dns_edns_builder.specs.Additions.{Adds}

-- what a builder keeps true of the octets of its options
pub record AreKept (b : List ℕ) : Type 0 where
  pub listed : IsTrue (are_options b)
  pub whole : encode_options (options_in b) ≡ b
  pub short : length b ≤ 65535

-- the octets `c` keep this, and have one more option than `b`
record Grown (x : OptionItem) (b c : List ℕ) : Type 0 where
  kept : AreKept c
  options : options_in c ≡ options_in b ++ x ∷ []

grown : (x : OptionItem) (b c : List ℕ) → AreKept b → x.code < 65536 → length b + 4 + length x.octets ≤ 65535 → c ≡ b ++ encode_option x → Grown x b c
grown x b c h code fits is =
    let long = ap length is ∙ length-append b (encode_option x) in
    let e = ap options_of is ∙ one_more b x h.listed (record { code = code; short = omega (arith, fits) }) in
    let options : options_in c ≡ options_in b ++ x ∷ [] =
    ap (λ (o : Option (List OptionItem)). option_map_or (λ (xs : List OptionItem). xs) o []) e in
    let encoding : encode_options (options_in b ++ x ∷ []) ≡ b ++ encode_option x =
    flat_map-append encode_option (options_in b) (x ∷ [])
    ∙ ap (λ (ys : List ℕ). encode_options (options_in b) ++ ys) (append-nil (encode_option x))
    ∙ ap (λ (ys : List ℕ). ys ++ encode_option x) h.whole in
    record {
      kept = record {
        listed = ap (λ (o : Option (List OptionItem)). is_some o) e;
        whole = ap encode_options options ∙ encoding ∙ sym is;
        short = omega (arith, long, fits);
      };
      options = options;
    }

of_builder : (builder : OptBuilder) → AreKept (option_octets builder)
of_builder builder = record { listed = builder.listed; whole = builder.whole; short = builder.short }

-- an append keeps this, whatever it returns
pub kept : (x : OptionItem) (old : OptBuilder) (c : List ℕ) (r : Result (Unit {0}) AppendError) → x.code < 65536 → AppendsOption x (option_capacity old) (option_octets old) c r → AreKept c
kept x old c (Ok _) code a = (grown x (option_octets old) c (of_builder old) code a.outcome a.ok).kept
kept x old c (Err e) code a = subst (λ (d : List ℕ). AreKept d) (sym a.err) (of_builder old)

-- the builder with other octets
abbrev pub holding : (old : OptBuilder) (list : Vec ℕ Global) → AreKept list.items → OptBuilder
holding old list h = record {
  header = old.header;
  opt_header = old.opt_header;
  octets = list;
  listed = h.listed;
  whole = h.whole;
  short = h.short;
}

-- appending an option to the octets adds it to the options
pub adds : (x : OptionItem) (old : OptBuilder) (list : Vec ℕ Global) (r : Result (Unit {0}) AppendError) (code : x.code < 65536)
    (a : AppendsOption x (option_capacity old) (option_octets old) list.items r) → Adds x old (holding old list (kept x old list.items r code a)) r
adds x old list (Ok _) code a =
    let g : List OptionItem → Gathered = λ xs. record (gathered old) { options = xs } in
    (ap g (grown x (option_octets old) list.items (of_builder old) code a.outcome a.ok).options, omega (arith, ap length old.whole, a.outcome))
adds x old list (Err ShortBuf) code a =
    let g : List ℕ → Gathered = λ c. record (gathered old) { options = options_in c } in
    (omega (arith, ap length old.whole, a.outcome), ap g a.err)
adds x old list (Err OutOfMemory) code a =
    let g : List ℕ → Gathered = λ c. record (gathered old) { options = options_in c } in
    (omega (arith, ap length old.whole, a.outcome.0), ap g a.err, omega (arith, ap length old.whole, a.full refl))

-- what a builder has collected, with the remaining options after its own
abbrev pub with_left : OptBuilder → List OptionItem → Gathered
with_left builder left = record (gathered builder) { options = (gathered builder).options ++ left }

-- the option that is added is the first of the remaining ones
pub one_added : (x : OptionItem) (old new : OptBuilder) (left after : List OptionItem) → gathered new ≡ record (gathered old) { options = (gathered old).options ++ x ∷ [] }
    → left ≡ x ∷ after → with_left new after ≡ with_left old left
one_added x old new left after added first =
    let g : List OptionItem → Gathered = λ xs. record (gathered old) { options = xs } in
    ap (λ (all : Gathered). record all { options = all.options ++ after }) added
    ∙ ap g (append_assoc (gathered old).options (x ∷ []) after) ∙ ap (with_left old) (sym first)

-- no options remain
pub none_left : (builder : OptBuilder) (left : List OptionItem) → left ≡ [] → with_left builder left ≡ gathered builder
none_left builder left none =
    let g : List OptionItem → Gathered = λ xs. record (gathered builder) { options = xs } in
    ap (with_left builder) none ∙ ap g (append-nil (gathered builder).options)

-- a class and a TTL of 0, and no octets, are what a new builder has collected
pub nothing_yet : (header : Header) (class ttl : ℕ) (b : List ℕ) → class ≡ 0 → ttl ≡ 0 → b ≡ []
    → (let all : Gathered = record { header = header_fields header; fields = fields_in class ttl; options = options_in b } in all ≡ nothing_gathered (header_fields header))
nothing_yet header class ttl b same_class same_ttl empty =
    let e = ap options_of empty ∙ options_of-nil in
    let none = ap (λ (o : Option (List OptionItem)). option_map_or (λ (xs : List OptionItem). xs) o []) e in
    λ i. record { header = header_fields header; fields = fields_in (same_class i) (same_ttl i); options = none i }
