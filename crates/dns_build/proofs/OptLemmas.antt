-- Pushing the OPT record that a closure gathers.
use Rattle.std.proofs.Common.{◌≡◌, ap, sym, refl, subst, ℕ, ◌<◌, Bool, List, [], ◌∷◌, length, arith}
use Rattle.std.specs.Option.{option_map_or}
use Rattle.std.specs.Prelude.{Option, Some, None, is_some, Result, Ok, Err, IsTrue}
use Rattle.dns_octets.specs.declared.error.AppendError.{AppendError}
use Rattle.dns_wire.specs.Parts.Part.{Octets}
use Rattle.dns_edns.specs.OptHeader.{ttl_in}
use Rattle.dns_edns.specs.Options.{OptionItem, AreOptions, encode_options}
use Rattle.dns_edns.specs.OptionsOf.{options_of}
use Rattle.dns_edns.proofs.theory.OptionsLemmas.{options_of-holds}
use Rattle.dns_edns_builder.specs.Gathered.{Gathered, IsGathered, gathered, option_octets}
use Rattle.dns_edns_builder.specs.declared.builder.OptBuilder.{OptBuilder}
use Rattle.dns_item.specs.Items.{RecordItem}
use Rattle.dns_wire.specs.Encoders.{Rule}
use Rattle.dns_build.specs.Opt.{opt_record, Gathers, OptReturns, PushesOpt, PushesOptRecord}
use Rattle.dns_build.specs.BuilderStates.{Built, PushReturns, push_error}
use Rattle.dns_build.specs.State.{State}
use Rattle.dns_build.specs.declared.push_error.PushError.{PushError}
use Rattle.dns_build.proofs.Moves.{always}

-- a record with the fields of the OPT record of `g` is that record
pub same_item : (x : RecordItem) (g : Gathered) → x.owner ≡ [] → x.rtype ≡ 41 → x.class ≡ g.fields.udp_payload_size → x.ttl ≡ ttl_in g.fields
    → x.parts ≡ Octets (encode_options g.options) ∷ [] → x ≡ opt_record g
same_item x g o r c t p = λ i. record { owner = o i; rtype = r i; class = c i; ttl = t i; parts = p i }

-- the result if the closure fails, and if it doesn't
pub closure_refused : (capacity : Option ℕ) (grows : Bool) (limit n count : ℕ) (e : AppendError) (r : Result (Unit {0}) AppendError) → r ≡ Err e
    → OptReturns capacity grows limit n count r (Err (push_error e))
closure_refused capacity grows limit n count e r is = subst (λ (x : Result (Unit {0}) AppendError). OptReturns capacity grows limit n count x (Err (push_error e))) (sym is) refl

-- If the closure succeeds, the push returns what counting the record returns.
pub closure_done : (capacity : Option ℕ) (grows : Bool) (limit n count : ℕ) (r : Result (Unit {0}) AppendError) (result : Result (Unit {0}) PushError)
    → r ≡ Ok tt → PushReturns capacity grows limit n count result → OptReturns capacity grows limit n count r result
closure_done capacity grows limit n count r result is reported = subst (λ (x : Result (Unit {0}) AppendError). OptReturns capacity grows limit n count x result) (sym is) reported

-- if the closure doesn't fail, what it has gathered is pushed
pub pushes_opt : (capacity : Option ℕ) (grows : Bool) (rule : Rule) (call : OptBuilder → Result (Unit {0}) AppendError → OptBuilder → Type 0) (s : State) (new : Built)
    (result : Result (Unit {0}) PushError) (g : Gathered) (outcome : Result (Unit {0}) AppendError)
    → outcome ≡ Ok tt → Gathers call s.header outcome g → PushesOptRecord capacity grows rule g s new result → PushesOpt capacity grows rule call s new result
pushes_opt capacity grows rule call s new result g outcome done gathers pushes = record {
  g = g;
  outcome = outcome;
  gathers = gathers;
  answers = closure_done capacity grows s.limit _ _ outcome result done pushes.outcome;
  is_gathered = always result pushes.is_gathered;
  accepted = pushes.accepted;
}

-- if octets are a list of options, `options_of` gives this list
list_in : (b : List ℕ) (o : Option (List OptionItem)) → options_of b ≡ o → IsTrue (is_some o) → AreOptions b (option_map_or (λ (xs : List OptionItem). xs) o [])
list_in b (Some xs) e h = options_of-holds b xs e
list_in b None e h = absurd (cc)

-- what an `OptBuilder` has gathered satisfies `IsGathered`, since its TTL has 32 bits
pub is_gathered : (b : OptBuilder) → (gathered b).fields.ext < 256 → IsGathered (gathered b)
is_gathered b ext = record {
  rcode = omega arith;
  ext = ext;
  version = omega arith;
  z = omega arith;
  listed = subst (λ (os : List ℕ). AreOptions os (gathered b).options) (sym b.whole) (list_in (option_octets b) _ refl b.listed);
  short = omega (arith, ap length b.whole, b.short);
}
