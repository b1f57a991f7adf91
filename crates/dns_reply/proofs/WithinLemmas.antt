-- Of which names a reply speaks, and that its answers are answers.
use Rattle.std.proofs.Common.{◌≡◌, ◌∙◌, ℕ, zero, suc, Bool, true, false, cond, List, ap, sym, subst, refl}
use Rattle.std.specs.Prelude.{◌&&◌, not, find, IfSome, Option, Some, None, option_map, option_and_then}
use Rattle.dns_name.specs.Names.{Labels}
use Rattle.dns_item.specs.Items.{RecordItem}
use Rattle.dns_item.specs.Questions.{QuestionItem}
use Rattle.dns_read.specs.Limited.{limited}
use Rattle.dns_read.specs.OptSearches.{opt_rcode_of}
use Rattle.dns_read.specs.RecordSearches.{cname_layout}
use Rattle.dns_read.specs.SectionStarts.{records_of}
use Rattle.dns_read.specs.declared.section.Section.TheVariants as sections
use Rattle.dns_reply.specs.Chains.{ChainEnds, next_alias, nth_name}
use Rattle.dns_reply.specs.Chains.ChainEnds.{ends, goes_on}
use Rattle.dns_reply.specs.Laws.{AllWithin, AnswersAreAnswers, IsAnswerTo, LeadsTo, NamesAreLed, SaysWithin, name_said}
use Rattle.dns_reply.specs.Laws.LeadsTo.{start, step}
use Rattle.dns_reply.specs.Owners.{asks_for_class, is_asked_for, is_below, is_owned, is_owned_above, is_owned_by_cut, is_owned_by_zone, is_within}
use Rattle.dns_reply.specs.Records.{Records, alias_at, dname_layout, ns_layout, owns_asked, soa_for, soa_layout, target_in, target_of, values}
use Rattle.dns_reply.specs.Said.{Said}
use Rattle.dns_reply.specs.Said.Said.{Answered}
use Rattle.dns_reply.specs.Sayings.{Says, SaysAt, SaysNone, SaysOf, SaysTo, question_of}
use Rattle.dns_reply.specs.Sayings.SaysNone.{no_name, no_data, no_authority, referral, lame}
use Rattle.dns_reply.specs.Sayings.SaysAt.{answer, dname, none}
use Rattle.dns_reply.specs.Sayings.SaysOf.{loop, alias, named}
use Rattle.dns_reply.specs.Sayings.SaysTo.{unreadable, many_opts, failed, records}
use Rattle.dns_reply.specs.Sayings.Says.{truncated, done, refused, asked}
use Rattle.dns_reply.proofs.ChainLemmas.{after_alias, first_name, next_name, none_next}
use Rattle.dns_reply.proofs.FoundLemmas.{any_passes, found_passes}

-- the first and the second of three tests pass
first_of_three : (x y z : Bool) → (x && y && z) ≡ true → x ≡ true
first_of_three true y z e = refl
first_of_three false y z e = absurd (cc)

second_of_three : (x y z : Bool) → (x && y && z) ≡ true → y ≡ true
second_of_three true true z e = refl
second_of_three true false z e = absurd (cc)
second_of_three false y z e = absurd (cc)

module _ (authorities : Records) (rcode qclass : ℕ) (zone name : Labels) (inside : is_within name zone ≡ true) where
  -- the SOA record that counts is of a zone within the zone
  soa_within : (soa : RecordItem) → soa_for qclass zone authorities name ≡ Some soa → (is_within soa.owner zone ≡ true) × (is_within name soa.owner ≡ true)
  soa_within soa e =
      let found = found_passes (is_owned_by_zone qclass zone name) (values (limited soa_layout authorities)) soa e in (
        second_of_three (is_within name soa.owner) (is_within soa.owner zone) (asks_for_class qclass soa.class) found.passes,
        first_of_three (is_within name soa.owner) (is_within soa.owner zone) (asks_for_class qclass soa.class) found.passes,
      )

  any_soa_within : (o : Option RecordItem) → soa_for qclass zone authorities name ≡ o → IfSome o (λ x. (is_within x.owner zone ≡ true) × (is_within name x.owner ≡ true))
  any_soa_within None e = tt
  any_soa_within (Some soa) e = soa_within soa e

  none_within : (aliases : Option ℕ) (x : Said) → SaysNone authorities rcode qclass zone name aliases x → SaysWithin zone x
  none_within aliases x (no_name soa e s) = (inside, any_soa_within soa s)
  none_within aliases x (no_data soa e s) = (inside, soa_within soa s)
  none_within aliases x (no_authority e s n) = (inside, tt)
  none_within aliases x (referral ns e s d) =
      let found = found_passes (is_owned_by_cut qclass zone name) (values (limited ns_layout authorities)) ns d in (
        inside,
        second_of_three (is_within name ns.owner) (is_below ns.owner zone) (asks_for_class qclass ns.class) found.passes,
        first_of_three (is_within name ns.owner) (is_below ns.owner zone) (asks_for_class qclass ns.class) found.passes,
      )
  none_within aliases x (lame e s n d a) = tt

module _ (answers authorities : Records) (rcode : ℕ) (zone : Labels) (q : QuestionItem) where
  at_within : (name : Labels) (ttl : ℕ) (x : Said) → is_within name zone ≡ true → SaysAt answers authorities rcode zone q name ttl x → SaysWithin zone x
  at_within name ttl x inside (answer e o) = inside
  at_within name ttl x inside (dname r target h d t) =
      let found = found_passes (is_owned_above q.class zone name) (values (limited dname_layout answers)) r d in (
        inside,
        second_of_three (is_below name r.owner) (is_within r.owner zone) (asks_for_class q.class r.class) found.passes,
        first_of_three (is_below name r.owner) (is_within r.owner zone) (asks_for_class q.class r.class) found.passes,
      )
  at_within name ttl x inside (none h d n) = none_within authorities rcode q.class zone name inside _ x n

  of_within : (x : Said) → SaysOf answers authorities rcode zone q x → SaysWithin zone x
  of_within x (loop c) = tt
  of_within x (alias name ttl c o) = o
  of_within x (named name ttl c i s) = at_within name ttl x i s

to_within : (b : List ℕ) (zone : Labels) (q : QuestionItem) (x : Said) → SaysTo b zone q x → SaysWithin zone x
to_within b zone q x (unreadable h) = tt
to_within b zone q x (many_opts h n) = tt
to_within b zone q x (failed s r t) = tt
to_within b zone q x (records s r o) = of_within (records_of sections.Answer b) (records_of sections.Authority b) (opt_rcode_of b) zone q x o

-- A reply speaks of names within the zone.
pub all_within : AllWithin
all_within b zone x (truncated e) = tt
all_within b zone x (done f n r) = tt
all_within b zone x (refused f n r) = tt
all_within b zone x (asked {q = q} f n o) = to_within b zone q x o

-- the value that a chain of steps was made of
split_and_then : {A B : Type 0} (f : A → Option B) (o : Option A) (y : B) → option_and_then f o ≡ Some y → (x : A) × (o ≡ Some x) × (f x ≡ Some y)
split_and_then f None y e = absurd (cc)
split_and_then f (Some x) y e = (x, refl, e)

split_map : {A B : Type 0} (f : A → B) (o : Option A) (y : B) → option_map f o ≡ Some y → (x : A) × (o ≡ Some x) × (f x ≡ y)
split_map f None y e = absurd (cc)
split_map f (Some x) y e = (x, refl, cc)

split_if : {A : Type 0} (b : Bool) (o : Option A) (y : A) → cond b o None ≡ Some y → (b ≡ true) × (o ≡ Some y)
split_if true o y e = (refl, e)
split_if false o y e = absurd (cc)

both_first : (x y : Bool) → (x && y) ≡ true → x ≡ true
both_first true y e = refl
both_first false y e = absurd (cc)

module _ (zone : Labels) (q : QuestionItem) (answers : Records) where
  abbrev Leads : Labels → Type 0
  Leads name = LeadsTo zone q.class answers q.name name

  -- a chain that goes on from a name leads to its target
  leads_on : (name : Labels) (next : Labels × ℕ) → Leads name → next_alias zone q answers name ≡ Some next → Leads next.0
  leads_on name next here e =
      let test = split_if (is_within name zone && not (owns_asked q answers name)) (alias_at q.class answers name) next e in
      let path = split_and_then target_of (find (is_owned q.class name) (values (limited cname_layout answers))) next test.1 in
      let found = found_passes (is_owned q.class name) (values (limited cname_layout answers)) path.0 path.1 in
      let target = split_map (λ (t : Labels). (t, path.0.ttl)) (target_in path.0.parts) next path.2 in
      let same : target.0 ≡ next.0 = ap (λ (p : Labels × ℕ). p.0) target.2 in
      subst Leads same (step path.0 here found.among found.passes (both_first (is_within name zone) (not (owns_asked q answers name)) test.0) target.1)

  -- the name before another in the chain
  name_before : (i : ℕ) (x : Labels × ℕ) (o : Option (Labels × ℕ)) → nth_name zone q answers i ≡ o → nth_name zone q answers (suc i) ≡ Some x
      → (y : Labels × ℕ) × (nth_name zone q answers i ≡ Some y) × (option_map (after_alias y.1) (next_alias zone q answers y.0) ≡ Some x)
  name_before i x None e f = absurd (let no = sym (none_next zone q answers i e) ∙ f in cc)
  name_before i x (Some y) e f = (y, e, sym (next_name zone q answers i y e) ∙ f)

  -- a chain leads to each of its names
  leads_to : (i : ℕ) (x : Labels × ℕ) → nth_name zone q answers i ≡ Some x → Leads x.0
  leads_to zero x e = let first : q.name ≡ x.0 = (let f = sym (first_name zone q answers) ∙ e in cc) in subst Leads first start
  leads_to (suc i) x e =
      let y = name_before i x (nth_name zone q answers i) refl e in
      let path = split_map (after_alias y.0.1) (next_alias zone q answers y.0.0) x y.2 in
      let same : path.0.0 ≡ x.0 = ap (λ (p : Labels × ℕ). p.0) path.2 in
      subst Leads same (leads_on y.0.0 path.0 (leads_to i y.0 y.1) path.1)

  chain_leads : (o : Option (Labels × ℕ)) (name : Labels) (ttl : ℕ) → ChainEnds zone q answers o → o ≡ Some (name, ttl) → Leads name
  chain_leads o name ttl (ends i x l e n) is = let same : x.0 ≡ name = (let f = is in cc) in subst Leads same (leads_to i x e)
  chain_leads o name ttl (goes_on x e) is = absurd (let f = is in cc)

  -- an answer is one
  is_answer : (name : Labels) → Leads name → is_within name zone ≡ true → owns_asked q answers name ≡ true → IsAnswerTo zone q answers name
  is_answer name here inside owns =
      let found = any_passes (is_asked_for q name) (values answers) owns in
      record { leads = here; within = inside; found = found.0; read = found.1.among; asked = found.1.passes }

module _ (answers authorities : Records) (rcode : ℕ) (zone : Labels) (q : QuestionItem) (name : Labels) (section : Records) (ttl : ℕ) where
  abbrev Is : Type 0
  Is = (section ≡ answers) × IsAnswerTo zone q answers name

  none_answer : (name' : Labels) (aliases : Option ℕ) (x : Said) → SaysNone authorities rcode q.class zone name' aliases x → x ≡ Answered name section ttl → Is
  none_answer name' aliases x (no_name soa e s) is = absurd (let f = is in cc)
  none_answer name' aliases x (no_data soa e s) is = absurd (let f = is in cc)
  none_answer name' aliases x (no_authority e s n) is = absurd (let f = is in cc)
  none_answer name' aliases x (referral ns e s d) is = absurd (let f = is in cc)
  none_answer name' aliases x (lame e s n d a) is = absurd (let f = is in cc)

  at_answer : (name' : Labels) (least : ℕ) (x : Said) → LeadsTo zone q.class answers q.name name' → is_within name' zone ≡ true → SaysAt answers authorities rcode zone q name' least x
      → x ≡ Answered name section ttl → Is
  at_answer name' least x led inside (answer e o) is =
      let same : name' ≡ name = (let f = is in cc) in
      let read : section ≡ answers = (let f = is in cc) in
      (read, subst (λ (n : Labels). IsAnswerTo zone q answers n) same (is_answer zone q answers name' led inside o))
  at_answer name' least x led inside (dname r target h d t) is = absurd (let f = is in cc)
  at_answer name' least x led inside (none h d n) is = none_answer name' _ x n is

  of_answer : (x : Said) → SaysOf answers authorities rcode zone q x → x ≡ Answered name section ttl → Is
  of_answer x (loop c) is = absurd (let f = is in cc)
  of_answer x (alias other least c o) is = absurd (let f = is in cc)
  of_answer x (named other least c i s) is = at_answer other least x (chain_leads zone q answers (Some (other, least)) other least c refl) i s is

module _ (b : List ℕ) (zone : Labels) (q : QuestionItem) (name : Labels) (section : Records) (ttl : ℕ) where
  -- What is said to be an answer to a question is one.
  pub to_answer : (x : Said) → SaysTo b zone q x → x ≡ Answered name section ttl → (section ≡ records_of sections.Answer b) × IsAnswerTo zone q section name
  to_answer x (unreadable h) is = absurd (let f = is in cc)
  to_answer x (many_opts h n) is = absurd (let f = is in cc)
  to_answer x (failed s r t) is = absurd (let f = is in cc)
  to_answer x (records s r o) is =
      let found = of_answer (records_of sections.Answer b) (records_of sections.Authority b) (opt_rcode_of b) zone q name section ttl x o is in
      (found.0, subst (λ (xs : Records). IsAnswerTo zone q xs name) (sym found.0) found.1)

  said_answer : question_of b ≡ Some q → (x : Said) → Says b zone x → x ≡ Answered name section ttl → (section ≡ records_of sections.Answer b) × IsAnswerTo zone q section name
  said_answer asks x (truncated e) is = absurd (let f = is in cc)
  said_answer asks x (done e n r) is = absurd (let f = is in cc)
  said_answer asks x (refused e n r) is = absurd (let f = is in cc)
  said_answer asks x (asked {q = p} e n o) is =
      let same : p ≡ q = (let f = sym n ∙ asks in cc) in
      to_answer x (subst (λ (z : QuestionItem). SaysTo b zone z x) same o) is

-- What is said to be an answer is one.
pub answers_are_answers : AnswersAreAnswers
answers_are_answers b zone q name section ttl asks says = said_answer b zone q name section ttl asks (Answered name section ttl) says refl

-- What is said by the authority section is said of this name.
none_named : (authorities : Records) (rcode qclass : ℕ) (zone name n : Labels) (aliases : Option ℕ) (x : Said) → SaysNone authorities rcode qclass zone name aliases x → name_said x ≡ Some n → name ≡ n
none_named authorities rcode qclass zone name n aliases x (no_name soa e s) is = let f = is in cc
none_named authorities rcode qclass zone name n aliases x (no_data soa e s) is = let f = is in cc
none_named authorities rcode qclass zone name n aliases x (no_authority e s m) is = let f = is in cc
none_named authorities rcode qclass zone name n aliases x (referral ns e s d) is = let f = is in cc
none_named authorities rcode qclass zone name n aliases x (lame e s m d a) is = absurd (let f = is in cc)

module _ (answers authorities : Records) (rcode : ℕ) (zone : Labels) (q : QuestionItem) (n : Labels) where
  at_named : (name : Labels) (ttl : ℕ) (x : Said) → SaysAt answers authorities rcode zone q name ttl x → name_said x ≡ Some n → name ≡ n
  at_named name ttl x (answer e o) is = let f = is in cc
  at_named name ttl x (dname r target h d t) is = let f = is in cc
  at_named name ttl x (none h d m) is = none_named authorities rcode q.class zone name n _ x m is

  of_led : (x : Said) → SaysOf answers authorities rcode zone q x → name_said x ≡ Some n → LeadsTo zone q.class answers q.name n
  of_led x (loop c) is = absurd (let f = is in cc)
  of_led x (alias name ttl c o) is =
      let same : name ≡ n = (let f = is in cc) in subst (LeadsTo zone q.class answers q.name) same (chain_leads zone q answers (Some (name, ttl)) name ttl c refl)
  of_led x (named name ttl c i s) is = subst (LeadsTo zone q.class answers q.name) (at_named name ttl x s is) (chain_leads zone q answers (Some (name, ttl)) name ttl c refl)

module _ (b : List ℕ) (zone : Labels) (q : QuestionItem) (n : Labels) where
  to_led : (x : Said) → SaysTo b zone q x → name_said x ≡ Some n → LeadsTo zone q.class (records_of sections.Answer b) q.name n
  to_led x (unreadable h) is = absurd (let f = is in cc)
  to_led x (many_opts h m) is = absurd (let f = is in cc)
  to_led x (failed s r t) is = absurd (let f = is in cc)
  to_led x (records s r o) is = of_led (records_of sections.Answer b) (records_of sections.Authority b) (opt_rcode_of b) zone q n x o is

  said_led : question_of b ≡ Some q → (x : Said) → Says b zone x → name_said x ≡ Some n → LeadsTo zone q.class (records_of sections.Answer b) q.name n
  said_led asks x (truncated e) is = absurd (let f = is in cc)
  said_led asks x (done e m r) is = absurd (let f = is in cc)
  said_led asks x (refused e m r) is = absurd (let f = is in cc)
  said_led asks x (asked {q = p} e m o) is =
      let same : p ≡ q = (let f = sym m ∙ asks in cc) in
      to_led x (subst (λ (z : QuestionItem). SaysTo b zone z x) same o) is

-- Something is said only of the name that aliases lead to.
pub names_are_led : NamesAreLed
names_are_led b zone q x name asks says is = said_led b zone q name asks x says is
