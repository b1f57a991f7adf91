-- OPT records: the fields of a TTL, and the options in octets. RFC 6891 sections 6.1.2 and 6.1.3.
use Rattle.std.proofs.Common.{◌≡◌, ◌∙◌, ℕ, ◌+◌, ◌-◌, ◌*◌, ◌/◌, ◌%◌, ◌<◌, ◌≤◌, List, ◌++◌, length, take, drop, ap, refl, subst, sym, inr, arith, length-append, length-drop}
use Rattle.std.specs.Int.{to_be_bytes, w16}
use Rattle.std.specs.Prelude.{◌==◌}
use Rattle.std.proofs.lemmas.List.{drop-drop, drop-take, length-take-le, take-append-drop, take-take}
use Rattle.dns_code.specs.Bits.{number_in}
use Rattle.dns_edns.specs.Options.{OptionBegins, encode_option}
use Rattle.dnsm_read.specs.DataFields.{data_end}
use Rattle.dnsm_read.specs.Opts.{BeginsNoOption, HasFields, HoldsOpt, IsInData, LacksOption, data_from}
use Rattle.dnsm_read.specs.declared.opts.Opt.{Opt}
use Rattle.dnsm_read.specs.declared.walk.Item.{Item}

-- the fields in a TTL
pub fields_read : (class ttl flags high version : ℕ) → flags ≡ ttl % 65536 → high ≡ ttl / 16777216 → version ≡ ttl / 65536 % 256
    → HasFields class ttl (record { udp_size = class; flags = flags; rcode_high = high; version = version })
fields_read class ttl flags high version f h v =
    let top : flags / 32768 % 2 ≡ ttl / 32768 % 2 = omega arith in
    record { udp_size = refl; rcode_high = h; version = v; dnssec_ok = ap (λ (n : ℕ). n == 1) top; z = omega arith }

-- the TTL with these fields
pub fields_written : (opt : Opt) (high version flags : ℕ) → high ≡ opt.rcode_high → version ≡ opt.version → flags ≡ opt.flags → opt.version < 256 → opt.flags < 65536
    → HasFields opt.udp_size (high * 16777216 + version * 65536 + flags) opt
fields_written opt high version flags h v f small low =
    let ttl : ℕ = high * 16777216 + version * 65536 + flags in
    let top : opt.flags / 32768 % 2 ≡ ttl / 32768 % 2 = omega arith in
    record { udp_size = refl; rcode_high = omega arith; version = omega arith; dnssec_ok = ap (λ (n : ℕ). n == 1) top; z = omega arith }

-- the n octets of an option at offset p + 4, in octets up to `end`
pub option_read : (b : List ℕ) (p end q code n : ℕ) → end ≤ length b → 4 + n ≤ length (drop p (take end b)) → code ≡ number_in (drop p (take end b)) 0
    → n ≡ number_in (drop p (take end b)) 2 → q ≡ p + 4 + n
    → OptionBegins (record { code = code; octets = take n (drop (p + 4) b) }) (drop p (take end b)) (drop q (take end b))
option_read b p end q code n within fits is size after =
    let left : List ℕ = drop p (take end b) in
    let there = length-drop p (take end b) in
    let all = length-take-le end b within in
    let long : p + 4 + n ≤ end = omega (arith, there, all) in
    let below = length-drop (p + 4) b in
    let front : take n (drop (p + 4) (take end b)) ≡ take n (drop (p + 4) b) =
    ap (λ (e : ℕ). take n (drop (p + 4) (take e b))) (let e : end ≡ p + 4 + (end - (p + 4)) = omega arith in e)
    ∙ ap (λ (t : List ℕ). take n t) (drop-take (p + 4) (end - (p + 4)) b)
    ∙ take-take n (end - (p + 4)) (drop (p + 4) b) (omega arith) in
    let back : drop n (drop (p + 4) (take end b)) ≡ drop q (take end b) = drop-drop n (p + 4) (take end b) ∙ ap (λ (k : ℕ). drop k (take end b)) (sym after) in
    record {
      there = omega arith;
      code = sym is;
      size = sym size ∙ sym (length-take-le n (drop (p + 4) b) (omega arith));
      octets = drop-drop 4 p (take end b) ∙ sym (take-append-drop n (drop (p + 4) (take end b))) ∙ (λ i. front i ++ back i);
    }

-- how long an option's encoding is
pub option_size : (code : ℕ) (octets : List ℕ) → length (encode_option (record { code = code; octets = octets })) ≡ length octets + 4
option_size code octets =
    let first = length-append (to_be_bytes w16 code ++ to_be_bytes w16 (length octets)) octets in
    let second = length-append (to_be_bytes w16 code) (to_be_bytes w16 (length octets)) in
    omega (arith, first, second)

-- the octets `cut` are those of the RDATA from p on
module _ (b cut : List ℕ) (item : Item) (p end : ℕ) (is : cut ≡ drop p (take end b)) (own : end ≡ data_end item) where
  cut_from : cut ≡ data_from b item p
  cut_from = is ∙ ap (λ (e : ℕ). drop p (take e b)) own

  -- an option is read there
  pub next_read : (code len q : ℕ) → end ≤ length b → 4 + len ≤ length cut → code ≡ number_in cut 0 → len ≡ number_in cut 2 → q ≡ p + 4 + len
      → OptionBegins (record { code = code; octets = take len (drop (p + 4) b) }) (data_from b item p) (data_from b item q)
  next_read code len q within fits first second after =
      option_read b p (data_end item) q code len (omega arith) (subst (λ (o : List ℕ). 4 + len ≤ length o) cut_from fits)
      (first ∙ ap (λ (o : List ℕ). number_in o 0) cut_from) (second ∙ ap (λ (o : List ℕ). number_in o 2) cut_from) after

  -- it ends within the RDATA
  pub next_within : (len q : ℕ) → end ≤ length b → p ≤ end → 4 + len ≤ length cut → q ≡ p + 4 + len → q ≤ data_end item
  next_within len q within before fits after =
      let size = length-drop p (take end b) in
      let all = length-take-le end b within in
      let same = ap (λ (o : List ℕ). length o) is in
      omega (arith, size, all, same)

  -- none can be read there
  pub none_read : HoldsOpt b item → IsInData item p → p < end → BeginsNoOption cut → LacksOption b item p 19
  none_read opt within before none = inr (inr (inr (opt, within, subst (λ (o : List ℕ). BeginsNoOption o) cut_from none, omega arith, refl)))
